-- What is found of the lifetimes that hold the label of a row is what is found of the pairs after it.
use Rattle.std.proofs.Common.{◌≡◌, ℕ, zero, suc, ◌<◌, ◌≤◌, ℤ, false, Ok, Less, List, [], ◌∷◌, ◌++◌, map, take, length, refl, sym, ap, ◌∙◌, arith}
use Rattle.std.specs.List.{AllByRecursion}
use Rattle.std.specs.List.Sorted.{IsStrictlySortedBy}
use Rattle.std.specs.Map.{keys_of, lookup}
use Rattle.std.specs.Option.{option_and_then}
use Rattle.std.specs.Ordering.{int_cmp, int_eq}
use Rattle.std.specs.Prelude.{nat_le}
use Rattle.std.specs.Result.{result_unwrap_or}
use Rattle.std.proofs.lemmas.Int.{ints}
use Rattle.std.proofs.lemmas.List.{append-nil, length-take}
use Rattle.retro_base.specs.Limits.{most_rows}
use Rattle.retro_base.specs.declared.kind.Kind.TheVariants.{Dict}
use Rattle.retro_base.specs.declared.row.Row.{Row}
use Rattle.retro_base.specs.declared.question.Question.TheVariants.{Get}
use Rattle.retro_base.specs.Answers.{answer_of, number_of}
use Rattle.retro_base.specs.Replay.{run, state_at}
use Rattle.retro_base.specs.State.{pairs, empty}
use Rattle.key_index.specs.KeyRows.{KeyRow, as_row, up_to}
use Rattle.key_index.specs.RowsBeside.{last_up_to}
use Rattle.lifetime_segments.specs.declared.lifetime.Lifetime.{Lifetime}
use Rattle.lifetime_segments.specs.Lifetimes.{label_end, items_at}
use Rattle.lifetime_segments.specs.LifetimeLaws.{items_at-in_order}
use Rattle.lifetime_segments.specs.Ordered.{AreInOrder, in_order}
use Rattle.lifetime_segments.specs.OrderedLaws.{in_order-kept}
use Rattle.order_labels.specs.Labels.{label_before, label_after as label_later, label_limit, AreApart}
use Rattle.retro_dictionary.specs.DictionaryLaws.{LifetimesHoldContent, SearchAnswers}
use Rattle.retro_dictionary.specs.LabelledRows.{AreLabelled}
use Rattle.retro_dictionary.proofs.Answered.{answer-found}
use Rattle.retro_dictionary.specs.Labelled.{labelled}
use Rattle.retro_dictionary.specs.Lifetimes.{lifetimes_of}
use Rattle.retro_dictionary.specs.PairSearch.{pair_before, found_in}
use Rattle.retro_dictionary.specs.PairSearchLaws.{pair_order}
use Rattle.retro_dictionary.specs.Asked.{AreOfNumbers, pairs_at, range_of, answer_from, value_at, value_put}
use Rattle.retro_dictionary.proofs.HeldPairs.{held}
use Rattle.retro_dictionary.proofs.LastPut.{value-last}
use Rattle.retro_dictionary.proofs.InOrder.{in_order-same}
use Rattle.retro_dictionary.proofs.LabelledRows.{beside, length-fronts, rises, up_to-is}
use Rattle.retro_dictionary.proofs.PairsInOrder.{AreSorted, sorted_nil}
use Rattle.retro_dictionary.proofs.Performed.{Leave, leave, run-labelled, run-none}

-- pairs with rising keys are in their order
not_before : (p q : ℤ × ℤ) → int_cmp p.0 q.0 ≡ Less → pair_before q p ≡ false
not_before p q less = grind (arith, ints)

pub pairs-ordered : (ps : List (ℤ × ℤ)) → AreSorted ps → AreInOrder pair_before ps
unfolding IsStrictlySortedBy
pairs-ordered [] s = tt
pairs-ordered (p ∷ ps) s = (all_after ps s.0, pairs-ordered ps s.1) where
  all_after : (qs : List (ℤ × ℤ)) → AllByRecursion (λ k. int_cmp p.0 k ≡ Less) (keys_of qs) → AllByRecursion (λ later. pair_before later p ≡ false) qs
  all_after [] all = tt
  all_after (q ∷ qs) all = (not_before p q all.0, all_after qs all.1)

-- the pairs after the first rows
pub record IsThere (rows : List Row) (labels : List ℕ) (lifetimes : List (Lifetime (ℤ × ℤ))) (place : ℕ) : Type 0 where
  pub left : List (ℤ × ℤ)
  pub state : state_at Dict rows place ≡ pairs left
  pub few : length left ≤ most_rows
  pub of_numbers : AreOfNumbers left
  pub are : pairs_at labels lifetimes place ≡ left

module _ (rows : List Row) (labels : List ℕ) (index : List KeyRow) (lifetimes : List (Lifetime (ℤ × ℤ))) (place : ℕ) (kept : AreLabelled rows labels index lifetimes) (within : place ≤ length rows) where
  first_rows : Leave (take place rows) []
  first_rows = leave rows place [] kept.of_numbers tt kept.replayable.valid

  apart : AreApart 1 0 label_limit labels
  apart = kept.rising.rising

  -- the labels before and after the place
  before_after : (label_before 0 labels place < label_later label_limit labels place) × (label_later label_limit labels place ≤ label_limit)
  before_after = beside 0 label_limit labels place (omega (arith, kept.as_many)) apart

  run_first : (label : ℕ) → label_before 0 labels place ≡ label → run (map as_row (up_to label (labelled labels rows))) (pairs []) ≡ Ok (pairs first_rows.left)
  run_first label is =
      ap (λ rs. run (map as_row rs) (pairs [])) (up_to-is labels rows place kept.as_many apart label (omega (arith, is)) (omega (arith, is, before_after.0)))
      ∙ run-labelled (take place labels) (take place rows) [] (length-fronts labels rows place kept.as_many) ∙ first_rows.ran

  found_first : (label : ℕ) → label_before 0 labels place ≡ label → label < label_end → in_order pair_before (items_at label lifetimes) ≡ first_rows.left
  found_first label is below =
      let theirs = held label below (labelled labels rows) [] first_rows.left (rises label_limit 0 labels rows apart) sorted_nil (run_first label is) in
      ap (λ ls. in_order pair_before (items_at label ls)) kept.held
      ∙ items_at-in_order pair_order label (lifetimes_of index)
      ∙ ap (λ rs. in_order pair_before (items_at label (lifetimes_of rs))) kept.indexed
      ∙ ap (in_order pair_before) (sym (append-nil (items_at label (lifetimes_of (labelled labels rows)))))
      ∙ in_order-same pair_order (items_at label (lifetimes_of (labelled labels rows)) ++ []) first_rows.left theirs.same
      ∙ in_order-kept pair_order first_rows.left (pairs-ordered first_rows.left theirs.sorted)

  pairs_at-is : pairs_at labels lifetimes place ≡ first_rows.left
  pairs_at-is = go place refl where
    go : (p : ℕ) → place ≡ p → pairs_at labels lifetimes p ≡ first_rows.left
    go zero is =
        let none : run [] (pairs []) ≡ Ok (pairs first_rows.left) = ap (λ p. run (take p rows) (pairs [])) (sym is) ∙ first_rows.ran in
        let ends = run-none (pairs []) in
        cc
    go (suc earlier) is =
        found_first (label_before 0 labels (suc earlier)) (ap (label_before 0 labels) is) (omega (arith, before_after.0, before_after.1, ap (label_before 0 labels) is))

  pub there : IsThere rows labels lifetimes place
  there = record {
    left = first_rows.left;
    state = ap (λ r. result_unwrap_or r (empty Dict)) first_rows.ran;
    few = omega (arith, first_rows.few, length-take place rows, kept.replayable.few);
    of_numbers = first_rows.keys;
    are = pairs_at-is;
  }

  -- the value of a key is that of the last row on it
  value_is : (key : ℤ) → lookup (int_eq key) first_rows.left ≡ value_at labels index place key
  value_is key = go place refl where
    go : (p : ℕ) → place ≡ p → lookup (int_eq key) first_rows.left ≡ value_at labels index p key
    go zero is =
        let none : run [] (pairs []) ≡ Ok (pairs first_rows.left) = ap (λ p. run (take p rows) (pairs [])) (sym is) ∙ first_rows.ran in
        let ends = run-none (pairs []) in
        let nothing : first_rows.left ≡ [] = cc in
        ap (lookup (int_eq key)) nothing
    go (suc earlier) is =
        let label = label_before 0 labels (suc earlier) in
        value-last key (λ row. nat_le row.0 label) (labelled labels rows) first_rows.left sorted_nil (run_first label (ap (label_before 0 labels) is))
        ∙ ap (λ rs. option_and_then (λ row. value_put row.1) (last_up_to key label rs)) (sym kept.indexed)

  pub got : (key : ℤ) → answer_of (state_at Dict rows place) (Get key) ≡ number_of (value_at labels index place key)
  unfolding answer_of
  got key = ap (λ r. answer_of (result_unwrap_or r (empty Dict)) (Get key)) first_rows.ran ∙ ap number_of (value_is key)

-- the pairs that are there in their order
content_at : (rows : List Row) (labels : List ℕ) (index : List KeyRow) (lifetimes : List (Lifetime (ℤ × ℤ))) (place : ℕ) (kept : AreLabelled rows labels index lifetimes) (within : place ≤ length rows) → 1 ≤ place
    → state_at Dict rows place ≡ pairs (in_order pair_before (items_at (label_before 0 labels place) lifetimes))
unfolding there first_rows
content_at rows labels index lifetimes place kept within some =
    let beside_it = before_after rows labels index lifetimes place kept within in
    (there rows labels index lifetimes place kept within).state
    ∙ sym (ap pairs (found_first rows labels index lifetimes place kept within (label_before 0 labels place) refl (omega (arith, beside_it.0, beside_it.1))))

pub holds-content : LifetimesHoldContent
holds-content rows labels index lifetimes place kept some within = content_at rows labels index lifetimes place kept within some

pub answers-found : SearchAnswers
answers-found rows labels index lifetimes place question kept within =
    let at = there rows labels index lifetimes place kept within in
    ap (λ state. answer_of state question) at.state ∙ answer-found at.left question at.of_numbers at.few ∙ ap (λ ps. answer_from question (found_in ps (range_of question))) (sym at.are)
