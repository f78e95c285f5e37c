-- The row that fails first, by its label and by its place.
use Rattle.std.proofs.Common.{◌≡◌, ℕ, zero, suc, ◌+◌, ◌-◌, ◌<◌, ◌≤◌, ℤ, not, ◌==◌, cond, Option, Some, None, List, [], ◌∷◌, ◌++◌, map}
use Rattle.std.proofs.Common.{length, take, drop, slice_get, position, refl, sym, ap, ◌∙◌, arith, inl, inr, subst, ltb}
use Rattle.std.specs.List.{position_or_len, insert, remove}
use Rattle.std.specs.Prelude.{IfNone, IfSome, Result, Ok, Err}
use Rattle.std.specs.Result.{result_err}
use Rattle.std.specs.Option.{option_and_then, option_map}
use Rattle.std.proofs.lemmas.Bool.{cases_lt, lt-ltb, le-ltb, eq-eqb, ne_eqb}
use Rattle.std.proofs.lemmas.List.{length-drop}
use Rattle.std.proofs.lemmas.Option.{slice_get_within}
use Rattle.key_index.specs.declared.key_index.Bad.{Bad}
use Rattle.key_index.specs.declared.key_index.Bad.TheVariants.{Inserted, Present}
use Rattle.std.proofs.lemmas.List.Edits.{length-insert, length-remove}
use Rattle.retro_base.specs.declared.kind.Kind.TheVariants.{Dict}
use Rattle.retro_base.specs.declared.op.Op.{Op}
use Rattle.retro_base.specs.declared.row.Row.{Row}
use Rattle.retro_base.specs.Replay.{failure, run}
use Rattle.retro_base.specs.State.{State, empty, step}
use Rattle.retro_base.specs.lemmas.Folds.{err_within}
use Rattle.key_index.specs.KeyRows.{KeyRow, named, op_at, up_to, behind as after, with_row, without, failure_of, bad_with, bad_label, Replays}
use Rattle.lifetime_segments.specs.declared.lifetime.Lifetime.{Lifetime}
use Rattle.order_labels.specs.Labels.{AreApart, label_limit, label_before}
use Rattle.retro_dictionary.specs.LabelledRows.{AreLabelled}
use Rattle.retro_dictionary.specs.Labelled.{labelled}
use Rattle.retro_dictionary.proofs.LabelledRows.{beside, length-fronts, op-is, up_to-is, after-is, with_row-is, without-is}
use Rattle.retro_dictionary.proofs.Performed.{failure-labelled}
use Rattle.retro_dictionary.specs.Failures.{moved_up, moved_down, place_of_bad, place_of_bad_label}

module _ (last : ℕ) where
  later_above : (first : ℕ) (labels : List ℕ) (index label : ℕ) → AreApart 1 first last labels → slice_get labels index ≡ Some label → first < label
  later_above first [] index label apart there = absurd (cc)
  later_above first (next ∷ labels) zero label apart there = let same : next ≡ label = cc in omega (arith, apart.0)
  later_above first (next ∷ labels) (suc index) label apart there = omega (arith, apart.0, later_above next labels index label apart.1 there)

  -- how many labels stand before one
  or_len : (first : ℕ) (labels : List ℕ) (index label : ℕ) → AreApart 1 first last labels → slice_get labels index ≡ Some label → position_or_len (λ other. other == label) labels ≡ index
  or_len first [] index label apart there = absurd (cc)
  or_len first (next ∷ labels) zero label apart there =
      let same : next ≡ label = cc in ap (λ b. cond (not b) (1 + position_or_len (λ other. other == label) labels) 0) (eq-eqb next label same)
  or_len first (next ∷ labels) (suc index) label apart there =
      ap (λ b. cond (not b) (1 + position_or_len (λ other. other == label) labels) 0) (ne_eqb next label (λ same. omega (arith, later_above next labels index label apart.1 there)))
      ∙ omega (arith, or_len next labels index label apart.1 there)

  -- a label that is there is found at its place
  pub position-is : (first : ℕ) (labels : List ℕ) (index label : ℕ) → AreApart 1 first last labels → slice_get labels index ≡ Some label → position (λ other. other == label) labels ≡ Some index
  position-is first labels index label apart there =
      let at : position_or_len (λ other. other == label) labels ≡ index = or_len first labels index label apart there in
      ap (λ n. cond (ltb n (length labels)) (Some n) None) at ∙ ap (λ b. cond b (Some index) None) (lt-ltb index (length labels) (slice_get_within labels index label there))

-- the names of rows with one more at a place
abbrev names : ℕ → List ℕ → List Bad
names place labels = map (λ label. Present label) (take place labels) ++ Inserted ∷ map (λ label. Present label) (drop place labels)

-- a row that is there, where it has a name
record IsNamed (labels : List ℕ) (place index label : ℕ) : Type 0 where
  at : ℕ
  there : slice_get labels at ≡ Some label
  moved : moved_up place at ≡ index

further : (place at index : ℕ) → moved_up place at ≡ index → moved_up (suc place) (suc at) ≡ suc index
further place at index is = elim (cases_lt at place) [
  | inl before ↦
      let one : moved_up place at ≡ at = ap (λ b. cond b at (at + 1)) (lt-ltb at place before) in
      ap (λ b. cond b (suc at) (suc at + 1)) (lt-ltb (suc at) (suc place) (omega arith)) ∙ omega (arith, one, is)
  | inr after ↦
      let one : moved_up place at ≡ at + 1 = ap (λ b. cond b at (at + 1)) (le-ltb at place after) in
      ap (λ b. cond b (suc at) (suc at + 1)) (le-ltb (suc at) (suc place) (omega arith)) ∙ omega (arith, one, is)
]

present-at : (labels : List ℕ) (index label : ℕ) → slice_get (map (λ l. Present l) labels) index ≡ Some (Present label) → slice_get labels index ≡ Some label
present-at [] index label there = absurd (cc)
present-at (next ∷ labels) zero label there = cc
present-at (next ∷ labels) (suc index) label there = present-at labels index label there

not_inserted : (labels : List ℕ) (index : ℕ) → slice_get (map (λ l. Present l) labels) index ≡ Some Inserted → ⊥
not_inserted [] index there = cc
not_inserted (next ∷ labels) zero there = cc
not_inserted (next ∷ labels) (suc index) there = not_inserted labels index there

inserted-at : (labels : List ℕ) (place index : ℕ) → place ≤ length labels → slice_get (names place labels) index ≡ Some Inserted → index ≡ place
inserted-at labels zero zero within there = refl
inserted-at labels zero (suc index) within there = absurd (not_inserted labels index there)
inserted-at [] (suc place) index within there = absurd (omega arith)
inserted-at (next ∷ labels) (suc place) zero within there = absurd (cc)
inserted-at (next ∷ labels) (suc place) (suc index) within there = ap suc (inserted-at labels place index (omega arith) there)

named-at : (labels : List ℕ) (place index label : ℕ) → place ≤ length labels → slice_get (names place labels) index ≡ Some (Present label) → IsNamed labels place index label
named-at labels zero zero label within there = absurd (cc)
named-at labels zero (suc index) label within there = record {
  at = index;
  there = present-at labels index label there;
  moved = ap (λ b. cond b index (index + 1)) (le-ltb index 0 (omega arith)) ∙ omega arith;
}
named-at [] (suc place) index label within there = absurd (omega arith)
named-at (next ∷ labels) (suc place) zero label within there = record {
  at = 0;
  there = present-at (next ∷ []) 0 label there;
  moved = ap (λ b. cond b 0 1) (lt-ltb 0 (suc place) (omega arith));
}
named-at (next ∷ labels) (suc place) (suc index) label within there =
    let rest = named-at labels place index label (omega arith) there in
    record { at = suc rest.at; there = rest.there; moved = further place rest.at index rest.moved }

-- what the names of the first row that fails say of its place
module _ (labels : List ℕ) (place : ℕ) (within : place ≤ length labels) (last : ℕ) (apart : AreApart 1 0 last labels) where
  bad-at : (index : ℕ) (bad : Bad) → slice_get (names place labels) index ≡ Some bad → place_of_bad labels place (Some bad) ≡ Some index
  bad-at index Inserted there = ap Some (sym (inserted-at labels place index within there))
  bad-at index (Present label) there =
      let named = named-at labels place index label within there in
      ap (option_map (moved_up place)) (position-is last 0 labels named.at label apart named.there) ∙ ap Some named.moved

  pub place-of_bad : (bad : Option Bad) (failure : Option ℕ) → bad ≡ option_and_then (slice_get (names place labels)) failure → (bad ≡ None → failure ≡ None) → place_of_bad labels place bad ≡ failure
  place-of_bad None failure is none = sym (none refl)
  place-of_bad (Some bad) None is none = absurd (cc)
  place-of_bad (Some bad) (Some index) is none = bad-at index bad (sym is)

back : (place at index : ℕ) → moved_down place at ≡ index → moved_down (suc place) (suc at) ≡ suc index
back place at index is = elim (cases_lt place at) [
  | inl after ↦
      let one : moved_down place at ≡ at - 1 = ap (λ b. cond b (at - 1) at) (lt-ltb place at after) in
      ap (λ b. cond b (suc at - 1) (suc at)) (lt-ltb (suc place) (suc at) (omega arith)) ∙ omega (arith, one, is, after)
  | inr before ↦
      let one : moved_down place at ≡ at = ap (λ b. cond b (at - 1) at) (le-ltb place at before) in
      ap (λ b. cond b (suc at - 1) (suc at)) (le-ltb (suc place) (suc at) (omega arith)) ∙ omega (arith, one, is)
]

-- which row is left at each place
record StandsAt (labels : List ℕ) (place index label : ℕ) : Type 0 where
  at : ℕ
  there : slice_get labels at ≡ Some label
  moved : moved_down place at ≡ index

stands-at : (labels : List ℕ) (place index label : ℕ) → slice_get (remove labels place) index ≡ Some label → StandsAt labels place index label
stands-at [] zero index label there = absurd (cc)
stands-at [] (suc place) index label there = absurd (cc)
stands-at (next ∷ labels) zero index label there = record {
  at = suc index;
  there = there;
  moved = ap (λ b. cond b (suc index - 1) (suc index)) (lt-ltb 0 (suc index) (omega arith)) ∙ omega arith;
}
stands-at (next ∷ labels) (suc place) zero label there = record {
  at = 0;
  there = there;
  moved = ap (λ b. cond b (0 - 1) 0) (le-ltb (suc place) 0 (omega arith));
}
stands-at (next ∷ labels) (suc place) (suc index) label there =
    let rest = stands-at labels place index label there in
    record { at = suc rest.at; there = rest.there; moved = back place rest.at index rest.moved }

pub place-of_bad_label : (labels : List ℕ) (place last : ℕ) → AreApart 1 0 last labels → (bad failure : Option ℕ) → bad
    ≡ option_and_then (slice_get (remove labels place)) failure → (bad ≡ None → failure ≡ None) → place_of_bad_label labels place bad ≡ failure
place-of_bad_label labels place last apart None failure is none = sym (none refl)
place-of_bad_label labels place last apart (Some label) None is none = absurd (cc)
place-of_bad_label labels place last apart (Some label) (Some index) is none =
    let stands = stands-at labels place index label (sym is) in
    ap (option_map (moved_down place)) (position-is last 0 labels stands.at label apart stands.there) ∙ ap Some stands.moved

-- labels as names
named-labelled : (labels : List ℕ) (rows : List Row) → length labels ≡ length rows → named (labelled labels rows) ≡ map (λ label. Present label) labels
named-labelled [] rows same = refl
named-labelled (label ∷ labels) [] same = absurd (omega arith)
named-labelled (label ∷ labels) (row ∷ rows) same = ap (λ names. Present label ∷ names) (named-labelled labels rows (omega arith))

labels-labelled : (labels : List ℕ) (rows : List Row) → length labels ≡ length rows → map (λ (row : KeyRow). row.0) (labelled labels rows) ≡ labels
labels-labelled [] rows same = refl
labels-labelled (label ∷ labels) [] same = absurd (omega arith)
labels-labelled (label ∷ labels) (row ∷ rows) same = ap (λ rest. label ∷ rest) (labels-labelled labels rows (omega arith))

length-backs : {A B : Type 0} (xs : List A) (ys : List B) (place : ℕ) → length xs ≡ length ys → length (drop place xs) ≡ length (drop place ys)
length-backs xs ys place same = omega (arith, length-drop place xs, length-drop place ys)

-- the row at a place
row-at : (rows : List Row) (place : ℕ) → place < length rows → (row : Row) × (slice_get rows place ≡ Some row)
row-at [] place within = absurd (omega arith)
row-at (row ∷ rows) zero within = (row, refl)
row-at (row ∷ rows) (suc place) within = row-at rows place (omega arith)

-- the place of the row that fails first where a row is put in
module _ (rows : List Row) (labels : List ℕ) (index : List KeyRow) (lifetimes : List (Lifetime (ℤ × ℤ))) (kept : AreLabelled rows labels index lifetimes) (place : ℕ) where
  failing-with : (row : Row) → place ≤ length rows → (bad : Option Bad) → bad ≡ bad_with (label_before 0 labels place) row.op index
      → IfNone bad (Replays (with_row (label_before 0 labels place) row.op index)) → place_of_bad labels place bad ≡ failure Dict (insert rows place row)
  failing-with row within bad is good =
      let label = label_before 0 labels place in
      let fits = beside 0 label_limit labels place (omega (arith, within, kept.as_many)) kept.rising.rising in
      let new : failure_of (with_row label row.op index) ≡ failure Dict (insert rows place row) =
      ap (λ i. failure_of (with_row label row.op i)) kept.indexed ∙ ap failure_of (with_row-is labels rows place kept.as_many kept.rising.rising label row (omega arith) fits.0)
      ∙ failure-labelled (insert labels place label) (insert rows place row) (omega (arith, length-insert labels place label (omega (arith, within, kept.as_many)), length-insert rows place row within, kept.as_many)) in
      let front : named (up_to label index) ≡ map (λ l. Present l) (take place labels) =
      ap (λ i. named (up_to label i)) kept.indexed ∙ ap named (up_to-is labels rows place kept.as_many kept.rising.rising label (omega arith) fits.0)
      ∙ named-labelled (take place labels) (take place rows) (length-fronts labels rows place kept.as_many) in
      let after_it : named (after label index) ≡ map (λ l. Present l) (drop place labels) =
      ap (λ i. named (after label i)) kept.indexed ∙ ap named (after-is labels rows place kept.as_many kept.rising.rising label (omega arith) fits.0)
      ∙ named-labelled (drop place labels) (drop place rows) (length-backs labels rows place kept.as_many) in
      place-of_bad labels place (omega (arith, within, kept.as_many)) label_limit kept.rising.rising bad (failure Dict (insert rows place row))
      (is ∙ ap (λ names. option_and_then (slice_get (names ++ Inserted ∷ named (after label index))) (failure_of (with_row label row.op index))) front
      ∙ ap (λ names. option_and_then (slice_get (map (λ l. Present l) (take place labels) ++ Inserted ∷ names)) (failure_of (with_row label row.op index))) after_it
      ∙ ap (option_and_then (slice_get (map (λ l. Present l) (take place labels) ++ Inserted ∷ map (λ l. Present l) (drop place labels)))) new)
      (λ none. sym new ∙ if_none (Replays (with_row label row.op index)) bad none good) where
        if_none : (P : Type 0) (o : Option Bad) → o ≡ None → IfNone o P → P
        if_none P None is p = p
        if_none P (Some bad) is p = absurd (cc)

  -- the same where the row's operation is given, and the label that is read before the place
  pub fails-with : (op : Op) (row : Row) → row.op ≡ op → place ≤ length rows → (front : ℕ) → front ≡ label_before 0 labels place → (bad : Option Bad) → bad
      ≡ bad_with front op index → IfNone bad (Replays (with_row front op index)) → place_of_bad labels place bad ≡ failure Dict (insert rows place row)
  fails-with op row same within front at bad is good =
      failing-with row within bad (is ∙ ap (λ label. bad_with label op index) at ∙ ap (λ o. bad_with (label_before 0 labels place) o index) (sym same))
      (subst (λ o. IfNone bad (Replays (with_row (label_before 0 labels place) o index))) (sym same) (subst (λ label. IfNone bad (Replays (with_row label op index))) at good))

  failing-without : (row : Row) (label : ℕ) → slice_get labels place ≡ Some label → slice_get rows place ≡ Some row → (bad : Option ℕ) → bad
      ≡ bad_label (without label index) → IfNone bad (Replays (without label index)) → place_of_bad_label labels place bad ≡ failure Dict (remove rows place)
  failing-without row label label_there row_there bad is good =
      let left : without label index ≡ labelled (remove labels place) (remove rows place) = ap (without label) kept.indexed
      ∙ without-is labels rows place kept.as_many kept.rising.rising label row label_there row_there in
      let as_many : length (remove labels place) ≡ length (remove rows place) =
      omega (arith, length-remove labels place (slice_get_within labels place label label_there), length-remove rows place (slice_get_within rows place row row_there), kept.as_many) in
      let new : failure_of (without label index) ≡ failure Dict (remove rows place) = ap failure_of left ∙ failure-labelled (remove labels place) (remove rows place) as_many in
      place-of_bad_label labels place label_limit kept.rising.rising bad (failure Dict (remove rows place))
      (is ∙ ap (λ i. option_and_then (slice_get (map (λ (r : KeyRow). r.0) i)) (failure_of (without label index))) left
      ∙ ap (λ ls. option_and_then (slice_get ls) (failure_of (without label index))) (labels-labelled (remove labels place) (remove rows place) as_many)
      ∙ ap (option_and_then (slice_get (remove labels place))) new)
      (λ none. sym new ∙ if_none (Replays (without label index)) bad none good) where
        if_none : (P : Type 0) (o : Option ℕ) → o ≡ None → IfNone o P → P
        if_none P None is p = p
        if_none P (Some bad) is p = absurd (cc)

  -- the row at a place is there by its label
  module _ (label : ℕ) (label_read : slice_get labels place ≡ Some label) where
    place_within : place < length rows
    place_within = omega (arith, slice_get_within labels place label label_read, kept.as_many)

    pub label-there : (op : Op) → option_map (λ (row : Row). row.op) (slice_get rows place) ≡ Some op → op_at label index ≡ Some op
    label-there op there =
        let at = row-at rows place place_within in
        ap (op_at label) kept.indexed ∙ op-is labels rows place kept.as_many kept.rising.rising label at.0 label_read at.1
        ∙ sym (ap (option_map (λ (row : Row). row.op)) at.1) ∙ there

    pub fails-without : (bad : Option ℕ) → bad ≡ bad_label (without label index) → IfNone bad (Replays (without label index)) → place_of_bad_label labels place bad ≡ failure Dict (remove rows place)
    fails-without bad is good = let at = row-at rows place place_within in failing-without at.0 label label_read at.1 bad is good

-- a row that fails is one of them
failed : (r : Result State ℕ) (index : ℕ) → result_err r ≡ Some index → r ≡ Err index
failed (Ok s) index is = absurd (cc)
failed (Err i) index is = let same : i ≡ index = cc in ap Err same

failure-within : (rows : List Row) (index : ℕ) → failure Dict rows ≡ Some index → index < length rows
failure-within rows index is = err_within step rows (empty Dict) index (failed (run rows (empty Dict)) index is)

pub within-without : (rows : List Row) (place : ℕ) (answer : Option ℕ) → place < length rows → answer ≡ failure Dict (remove rows place) → IfSome answer (λ index. index + 1 < length rows)
within-without rows place None within is = tt
within-without rows place (Some index) within is = omega (arith, failure-within (remove rows place) index (sym is), length-remove rows place within)

-- what is kept replays by labels too
pub index-replays : (rows : List Row) (labels : List ℕ) (index : List KeyRow) (lifetimes : List (Lifetime (ℤ × ℤ))) → AreLabelled rows labels index lifetimes → Replays index
index-replays rows labels index lifetimes kept = ap failure_of kept.indexed ∙ failure-labelled labels rows kept.as_many ∙ kept.replayable.valid
