-- Rows as moves: what is read of them, and what they lead to.
use Rattle.std.proofs.Common.{◌≡◌, ℕ, zero, suc, ◌+◌, ◌-◌, ◌*◌, ◌<◌, ◌≤◌, List, [], ◌∷◌, ◌++◌, length, map, take, drop, min, append_assoc, refl, sym, ap, subst, ◌∙◌, arith, ℤ, pos, Option, Some, None, Result, Ok, Err}
use Rattle.std.specs.Prelude.{IfOk}
use Rattle.std.specs.List.{slice_get}
use Rattle.std.specs.Option.{option_map}
use Rattle.std.proofs.lemmas.List.{length-map, length-take-le, length-drop}
use Rattle.std.proofs.Math.Nat.{add-mul, mul-le-mul_left}
use Rattle.std.proofs.Math.Seq.{take-append_seam}
use Rattle.weighted_tree.specs.Reads.{overwritten}
use Rattle.costs.specs.Digits.{digits}
use Rattle.costs.specs.Visits.{VisitsWithin}
use Rattle.retro_base.specs.declared.row.Entry.{Entry}
use Rattle.retro_base.specs.declared.row.Row.{Row}
use Rattle.retro_base.specs.declared.question.Answer.TheVariants.{Number}
use Rattle.retro_base.specs.declared.question.Item.{Item}
use Rattle.retro_base.specs.declared.question.Item.TheVariants.{Single}
use Rattle.retro_base.specs.declared.question.Question.TheVariants.{Size, Min, Nth}
use Rattle.retro_base.specs.Answers.{answer_of, content, key_of, number_of}
use Rattle.retro_base.specs.Bridges.{entries_at}
use Rattle.retro_base.specs.Limits.{most_rows}
use Rattle.retro_base.specs.State.{entries, with_entry}
use Rattle.retro_base.specs.Weights.{added_by}
use Rattle.retro_base.specs.lemmas.bridges.Moves.{Leads}
use Rattle.retro_base.specs.lemmas.CountedEntries.{with_length}
use Rattle.bridge_pq.specs.declared.marked_entry.MarkedEntry.{MarkedEntry}
use Rattle.bridge_pq.specs.declared.marked_row.MarkedRow.{MarkedRow}
use Rattle.bridge_pq.specs.Gathered.{additions, after_moves, moves_from, IsEarlier, IsTaken}
use Rattle.bridge_pq.specs.MarkedEntries.{present_in}
use Rattle.bridge_pq.specs.MarkedRows.{rows_of}
use Rattle.bridge_pq.proofs.Costs.{some_digits}
use Rattle.bridge_pq.proofs.CursorEntries.{count_within}
use Rattle.retro_base.specs.Facts.{drop_at}

rows_part : (rows : List MarkedRow) (from count : ℕ) → map (λ (item : MarkedRow). added_by item.row) (take count (drop from rows)) ≡ map added_by (take count (drop from (rows_of rows)))
rows_part [] zero zero = refl
rows_part [] zero (suc count) = refl
rows_part [] (suc from) zero = refl
rows_part [] (suc from) (suc count) = refl
rows_part (row ∷ rows) zero zero = refl
rows_part (row ∷ rows) zero (suc count) = ap (λ l. added_by row.row ∷ l) (rows_part rows zero count)
rows_part (row ∷ rows) (suc from) count = rows_part rows from count

-- what was read is the moves
pub moves_read : (rows : List MarkedRow) (from to len count : ℕ) (former new rest : List (Option Entry)) → from ≤ to → to ≤ length rows → len ≡ to - from → length former ≡ len
    → count ≡ min (length rows - from) (length former) → new ≡ overwritten former 0 (map (λ (item : MarkedRow). added_by item.row) (take count (drop from rows)))
    → take len (new ++ rest) ≡ moves_from (rows_of rows) from to
moves_read rows from to len count former new rest order within long same few is =
    let all : count ≡ to - from = omega (arith, few, same, long, order, within) in
    let moves = map (λ (item : MarkedRow). added_by item.row) (take count (drop from rows)) in
    let size : length moves ≡ len = omega (arith, length-map (take count (drop from rows)) (λ (item : MarkedRow). added_by item.row), length-take-le count (drop from rows) (omega (arith, length-drop from rows, all, within)), all, long) in
    ap (λ l. take len (l ++ rest)) is ∙ ap (take len) (append_assoc moves (drop (0 + length moves) former) rest) ∙ ap (λ n. take n (moves ++ (drop (0 + length moves) former ++ rest))) (sym size)
    ∙ take-append_seam moves (drop (0 + length moves) former ++ rest) ∙ ap (λ n. map (λ (item : MarkedRow). added_by item.row) (take n (drop from rows))) all ∙ rows_part rows from (to - from)

pub visits_of_moves : (count moves length before after : ℕ) → count ≤ moves → VisitsWithin 12 length (before + count) after → VisitsWithin (moves + 12) length before after
visits_of_moves count moves length before after few visits = record {
  none_lost = omega (arith, visits.none_lost);
  few = omega (arith, visits.few, few, add-mul moves 12 (digits (length + 1)), mul-le-mul_left moves (some_digits (length + 1)));
}

-- the move at an index comes next
pub added_next : (moves : List (Option Entry)) (index : ℕ) (entry : Entry) (held : List Entry) → slice_get moves index ≡ Some (Some entry)
    → after_moves (drop index moves) held ≡ after_moves (drop (index + 1) moves) (with_entry entry held)
added_next moves index entry held at = rw (drop_at moves index (Some entry) at) refl

pub taken_next : (moves : List (Option Entry)) (index : ℕ) (held : List Entry) → slice_get moves index ≡ Some None
    → after_moves (drop index moves) held ≡ after_moves (drop (index + 1) moves) (drop 1 held)
taken_next moves index held at = rw (drop_at moves index None at) refl

pub added_counts : (moves : List (Option Entry)) (index : ℕ) (entry : Entry) → slice_get moves index ≡ Some (Some entry) → additions (drop index moves) ≡ suc (additions (drop (index + 1) moves))
added_counts moves index entry at = rw (drop_at moves index (Some entry) at) refl

pub taken_counts : (moves : List (Option Entry)) (index : ℕ) → slice_get moves index ≡ Some None → additions (drop index moves) ≡ additions (drop (index + 1) moves)
taken_counts moves index at = rw (drop_at moves index None at) refl

pub none_after : (moves : List (Option Entry)) (index : ℕ) (held : List Entry) → length moves ≤ index → after_moves (drop index moves) held ≡ held
none_after [] zero held beyond = refl
none_after [] (suc index) held beyond = refl
none_after (move ∷ moves) zero held beyond = absurd (omega arith)
none_after (move ∷ moves) (suc index) held beyond = none_after moves index held (omega arith)

pub none_counted : (moves : List (Option Entry)) (index : ℕ) → length moves ≤ index → additions (drop index moves) ≡ 0
none_counted [] zero beyond = refl
none_counted [] (suc index) beyond = refl
none_counted (move ∷ moves) zero beyond = absurd (omega arith)
none_counted (move ∷ moves) (suc index) beyond = none_counted moves index (omega arith)

-- where each take finds an entry, the moves lead there, and the numbers agree
pub leads_there : (moves : List (Option Entry)) (held end : List Entry) → Leads moves held end → after_moves moves held ≡ end
leads_there [] held end leads = leads
leads_there (Some entry ∷ moves) held end leads = leads_there moves (with_entry entry held) end leads
leads_there (None ∷ moves) [] end leads = absurd leads
leads_there (None ∷ moves) (x ∷ held) end leads = leads_there moves held end leads

pub grown : (moves : List (Option Entry)) (held end : List Entry) → Leads moves held end → length end + length moves ≡ length held + 2 * additions moves
grown [] held end leads = omega (arith, ap (λ (l : List Entry). length l) leads)
grown (Some entry ∷ moves) held end leads = omega (arith, grown moves (with_entry entry held) end leads, with_length entry held)
grown (None ∷ moves) [] end leads = absurd leads
grown (None ∷ moves) (x ∷ held) end leads = omega (arith, grown moves held end leads)

additions_within : (moves : List (Option Entry)) → additions moves ≤ length moves
additions_within [] = omega arith
additions_within (Some entry ∷ moves) = omega (arith, additions_within moves)
additions_within (None ∷ moves) = omega (arith, additions_within moves)

pub moves_long : (rows : List Row) (from to : ℕ) → from ≤ to → to ≤ length rows → length (moves_from rows from to) ≡ to - from
moves_long rows from to order within =
    omega (arith, length-map (take (to - from) (drop from rows)) added_by, length-take-le (to - from) (drop from rows) (omega (arith, length-drop from rows, order, within)))

-- what is held at a later place
module _ (items : List MarkedEntry) (rows : List Row) (from to : ℕ) (earlier : IsEarlier items rows from to) (moves : List (Option Entry)) (same : moves ≡ moves_from rows from to) where
  pub held_there : after_moves moves (present_in items) ≡ entries_at rows to
  held_there = ap (λ m. after_moves m (present_in items)) same ∙ leads_there (moves_from rows from to) (present_in items) (entries_at rows to) earlier.leads

  pub as_long : length moves ≡ to - from
  as_long = ap length same ∙ moves_long rows from to earlier.order earlier.within

  pub size_there : length (after_moves moves (present_in items)) + length moves ≡ length (present_in items) + 2 * additions moves
  size_there =
      subst (λ m. length (after_moves m (present_in items)) + length m ≡ length (present_in items) + 2 * additions m) (sym same)
      (subst (λ end. length end + length (moves_from rows from to) ≡ length (present_in items) + 2 * additions (moves_from rows from to))
      (sym (leads_there (moves_from rows from to) (present_in items) (entries_at rows to) earlier.leads))
      (grown (moves_from rows from to) (present_in items) (entries_at rows to) earlier.leads))

  pub few_there : length (after_moves moves (present_in items)) ≤ most_rows
  few_there = omega (arith, size_there, as_long, additions_within moves, count_within items, earlier.fewer, earlier.order, earlier.within, earlier.few)

-- a fact of what came of a call
pub if_ok : {T E : Type 0} (P Q : T → Type 0) (r : Result T E) → ((x : T) → P x → Q x) → IfOk r P → IfOk r Q
if_ok P Q (Ok x) f h = f x h
if_ok P Q (Err e) f h = h

pub size_answer : (es : List Entry) → answer_of (entries es) Size ≡ Number (pos (length es))
unfolding answer_of
size_answer es = refl

pub min_answer : (es : List Entry) → answer_of (entries es) Min ≡ number_of (option_map key_of (slice_get es 0))
unfolding answer_of
min_answer es = refl

pub nth_answer : (es : List Entry) (index : ℕ) → answer_of (entries es) (Nth index) ≡ number_of (option_map key_of (slice_get es index))
unfolding answer_of
nth_answer es index = refl

pub keys_content : (es : List Entry) → content (entries es) ≡ map (λ entry. Single entry.key) es
unfolding content
keys_content es = refl

-- one more key is listed
pub keys_listed : (held after : List Entry) (first : Option Entry) (entry : Entry) (listing all : List Item) (key : ℤ) → IsTaken held first after → first ≡ Some entry → key ≡ entry.key
    → listing ++ map (λ (e : Entry). Single e.key) held ≡ all → (listing ++ Single key ∷ []) ++ map (λ (e : Entry). Single e.key) after ≡ all
keys_listed [] after first entry listing all key taken some same is = absurd (let wrong : Some entry ≡ None = sym some ∙ taken.first in cc)
keys_listed (x ∷ held) after first entry listing all key taken some same is =
    let front : x ≡ entry = let both : Some x ≡ Some entry = sym taken.first ∙ some in cc in
    append_assoc listing (Single key ∷ []) (map (λ (e : Entry). Single e.key) after)
    ∙ ap (λ k. listing ++ Single k ∷ map (λ (e : Entry). Single e.key) after) (same ∙ ap (λ (e : Entry). e.key) (sym front))
    ∙ ap (λ l. listing ++ Single x.key ∷ map (λ (e : Entry). Single e.key) l) taken.others ∙ is

pub one_fewer : (held after : List Entry) (first : Option Entry) (counter size : ℕ) → IsTaken held first after → length held + counter ≡ size → counter < size → length after + (counter + 1) ≡ size
one_fewer [] after first counter size taken left more = absurd (omega (arith, left))
one_fewer (x ∷ held) after first counter size taken left more = omega (arith, left, ap (λ (l : List Entry). length l) taken.others)

pub never_none : (held after : List Entry) (first : Option Entry) (counter size : ℕ) → IsTaken held first after → length held + counter ≡ size → counter < size → first ≡ None → ⊥
never_none [] after first counter size taken left more none = absurd (omega (arith, left))
never_none (x ∷ held) after first counter size taken left more none = let wrong : Some x ≡ None = sym taken.first ∙ none in absurd (cc)
