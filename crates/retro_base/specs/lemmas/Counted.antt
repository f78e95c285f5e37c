-- Counting finds the first row of an edited history that cannot be performed.
use Rattle.std.proofs.Common.{◌≡◌, ◌≢◌, ℕ, ℤ, zero, suc, ◌≤◌, List, [], ◌∷◌, ◌++◌, length, take, drop, refl, ap, sym, ◌∙◌, arith, Some, None, Ok, ◌+◌}
use Rattle.std.specs.List.{insert, remove, slice_get, AllByRecursion}
use Rattle.std.specs.Result.{result_err}
use Rattle.std.proofs.lemmas.List.{take-append-drop, length-map}
use Rattle.retro_base.specs.declared.counting.Quantity.TheVariants.{Items, Key}
use Rattle.retro_base.specs.declared.kind.Kind.{Kind}
use Rattle.retro_base.specs.declared.kind.Kind.TheVariants.{Dict, Pq}
use Rattle.retro_base.specs.declared.op.Op.{Op}
use Rattle.retro_base.specs.declared.op.Op.TheVariants.{Put, Del}
use Rattle.retro_base.specs.declared.row.Row.{Row}
use Rattle.retro_base.specs.Kind.{kind_of}
use Rattle.retro_base.specs.declared.row.Entry.{Entry}
use Rattle.retro_base.specs.State.{State, items, pairs, entries, empty}
use Rattle.retro_base.specs.Answers.{content}
use Rattle.retro_base.specs.Replay.{run, failure, IsValid}
use Rattle.retro_base.specs.Timeline.{AreOfKind}
use Rattle.retro_base.specs.Counting.{quantity_of, quantity_after, counted}
use Rattle.retro_base.specs.lemmas.CountedLines.{IsLine, line_failure, line_few}
use Rattle.retro_base.specs.lemmas.CountedEntries.{pq_failure, pq_few}
use Rattle.retro_base.specs.lemmas.CountedKeys.{all_keys, one_key, passed_in, passed_out, key_of_row, pairs_few}
use Rattle.retro_base.specs.OrderLaws.{all_at, all_with, all_without}
use Rattle.retro_base.specs.lemmas.SortedPairs.{sorted_nil}

pub all_lines : (kind : Kind) (rows : List Row) → IsLine kind → AreOfKind kind rows → AllByRecursion (λ row. IsLine (kind_of row.op)) rows
all_lines kind [] line all = tt
all_lines kind (row ∷ rows) line all = (rw all.0 line, all_lines kind rows line all.1)

-- the rows around one that stands at a place
pub around : (rows : List Row) (place : ℕ) (row : Row) → slice_get rows place ≡ Some row → rows ≡ take place rows ++ row ∷ drop (suc place) rows
around [] place row at = absurd (cc)
around (first ∷ rows) zero row at = let same : first ≡ row = cc in ap (λ r. r ∷ rows) same
around (first ∷ rows) (suc place) row at = ap (λ rs. first ∷ rs) (around rows place row at)

pub of_kind_at : (kind : Kind) (rows : List Row) (place : ℕ) (row : Row) → AreOfKind kind rows → slice_get rows place ≡ Some row → kind_of row.op ≡ kind
of_kind_at kind rows place row all at = all_at (λ r. kind_of r.op ≡ kind) rows place row all at

-- of each kind but the dictionary the number of items decides which row fails first, and on an edit
pub items_failure : (kind : Kind) (rows : List Row) → kind ≢ Dict → AreOfKind kind rows → failure kind rows ≡ result_err (counted Items rows 0)
items_failure Dict rows other all = absurd (other refl)
items_failure Pq rows other all = pq_failure rows all
items_failure kind rows other all = line_failure rows (all_lines kind rows tt all)

items_decide : (op : Op) → kind_of op ≢ Dict → quantity_of op ≡ Items
items_decide (Put k v) other = absurd (other refl)
items_decide (Del k) other = absurd (other refl)
items_decide op other = refl

decided_failure : (kind : Kind) (rows : List Row) (op : Op) → kind ≢ Dict → AreOfKind kind rows → kind_of op ≡ kind
    → failure kind rows ≡ result_err (counted (quantity_of op) rows 0)
decided_failure kind rows op other all here = rw (items_decide op (λ dict. other (sym here ∙ dict))) (items_failure kind rows other all)

-- were a row put in
pub failure_with : (kind : Kind) (rows : List Row) (place : ℕ) (row : Row) → AreOfKind kind rows → IsValid kind rows → kind_of row.op ≡ kind
    → failure kind (insert rows place row) ≡ result_err (counted (quantity_of row.op) (insert rows place row) 0)
failure_with Dict rows place row all valid here =
    let key = key_of_row row.op here in
    rw key.1 (one_key key.0 (insert rows place row) [] (all_with (λ r. kind_of r.op ≡ Dict) rows place row all here) sorted_nil
    (λ q apart. passed_in (λ r n. quantity_after (Key q) r.op n) row (λ n. key.2 q n apart) (take place rows) (drop place rows) 0
    (rw (take-append-drop place rows) (all_keys rows [] all sorted_nil valid q))))
failure_with kind rows place row all valid here =
    decided_failure kind (insert rows place row) row.op (λ same. cc) (all_with (λ r. kind_of r.op ≡ kind) rows place row all here) here

-- were the row at the place taken out
pub failure_without : (kind : Kind) (rows : List Row) (place : ℕ) (row : Row) → AreOfKind kind rows → IsValid kind rows → slice_get rows place ≡ Some row
    → failure kind (remove rows place) ≡ result_err (counted (quantity_of row.op) (remove rows place) 0)
failure_without Dict rows place row all valid at =
    let key = key_of_row row.op (of_kind_at Dict rows place row all at) in
    rw key.1 (one_key key.0 (remove rows place) [] (all_without (λ r. kind_of r.op ≡ Dict) rows place all) sorted_nil
    (λ q apart. passed_out (λ r n. quantity_after (Key q) r.op n) row (λ n. key.2 q n apart) (take place rows) (drop (suc place) rows) 0
    (rw (← around rows place row at) (all_keys rows [] all sorted_nil valid q))))
failure_without kind rows place row all valid at =
    decided_failure kind (remove rows place) row.op (λ same. cc) (all_without (λ r. kind_of r.op ≡ kind) rows place all) (of_kind_at kind rows place row all at)

content_by : {X : Type 0} (made : List X → State) → ((xs : List X) → length (content (made xs)) ≡ length xs) → (most : ℕ) (state : State)
    → ((xs : List X) × (state ≡ made xs) × (length xs ≤ most)) → length (content state) ≤ most
content_by made sized most state few = rw few.1 (omega (arith, few.2, sized few.0))

-- of a priority queue these are entries, and of no other kind
pub pq_holds_entries : (kind : Kind) (rows : List Row) (state : State) → kind ≡ Pq → AreOfKind kind rows → run rows (empty kind) ≡ Ok state
    → (es : List Entry) × (state ≡ entries es)
pq_holds_entries Pq rows state same all e = let few = pq_few rows state all e in (few.0, few.1)
pq_holds_entries kind rows state same all e = absurd (cc)

pub no_line : {xs : List ℤ} {es : List Entry} (state : State) → state ≡ items xs → state ≡ entries es → ⊥
no_line state e f = cc

pub no_pairs : {ps : List (ℤ × ℤ)} {es : List Entry} (state : State) → state ≡ pairs ps → state ≡ entries es → ⊥
no_pairs state e f = cc

pub entries_are_of_pq : (kind : Kind) (rows : List Row) (state : State) (es : List Entry) → state ≡ entries es → AreOfKind kind rows → run rows (empty kind) ≡ Ok state
    → kind ≡ Pq
entries_are_of_pq Pq rows state es same all e = refl
entries_are_of_pq Dict rows state es same all e = let few = pairs_few rows [] state all sorted_nil e in absurd (no_pairs state few.1 same)
entries_are_of_pq kind rows state es same all e = let few = line_few rows state (all_lines kind rows tt all) e in absurd (no_line state few.1 same)

-- a structure holds no more than its rows
pub content_few : (kind : Kind) (rows : List Row) (state : State) → AreOfKind kind rows → run rows (empty kind) ≡ Ok state
    → length (content state) ≤ length rows
unfolding content
content_few Dict rows state all e = omega (arith, content_by pairs (λ ps. simp length-map) (0 + length rows) state (pairs_few rows [] state all sorted_nil e))
content_few Pq rows state all e = content_by entries (λ es. simp length-map) (length rows) state (pq_few rows state all e)
content_few kind rows state all e = content_by items (λ xs. simp length-map) (length rows) state (line_few rows state (all_lines kind rows tt all) e)

-- where all rows can be performed, nothing that decides on an edit falls short
pub all_count : (kind : Kind) (rows : List Row) (op : Op) → AreOfKind kind rows → IsValid kind rows → kind_of op ≡ kind
    → result_err (counted (quantity_of op) rows 0) ≡ None
all_count Dict rows op all valid here = let key = key_of_row op here in rw key.1 (all_keys rows [] all sorted_nil valid key.0)
all_count kind rows op all valid here = sym (decided_failure kind rows op (λ same. cc) all here) ∙ valid
