-- What is put in and taken out again leaves a list as it was, and what is taken out and put in again too.
use Rattle.std.proofs.Common.{◌≡◌, ℕ, zero, suc, ◌≤◌, List, [], ◌∷◌, length, refl, ap, sym, arith}
use Rattle.std.specs.Prelude.{Some, slice_get}
use Rattle.std.specs.List.{insert, remove}
use Rattle.retro_base.specs.declared.row.Row.{Row}
use Rattle.retro_base.specs.Edits.{Edit, add, cut, edited, inverse, IsWithin}

pub remove-insert : {A : Type 0} (xs : List A) (place : ℕ) (x : A) → place ≤ length xs → remove (insert xs place x) place ≡ xs
remove-insert xs zero x within = refl
remove-insert [] (suc place) x within = absurd (omega arith)
remove-insert (y ∷ xs) (suc place) x within = ap (λ ys. y ∷ ys) (remove-insert xs place x (omega arith))

pub insert-remove : {A : Type 0} (xs : List A) (place : ℕ) (x : A) → slice_get xs place ≡ Some x → insert (remove xs place) place x ≡ xs
insert-remove [] place x there = absurd (cc)
insert-remove (y ∷ xs) zero x there = let same : y ≡ x = cc in ap (λ z. z ∷ xs) (sym same)
insert-remove (y ∷ xs) (suc place) x there = ap (λ ys. y ∷ ys) (insert-remove xs place x there)

-- what was put in stands at its place
pub get-insert : {A : Type 0} (xs : List A) (place : ℕ) (x : A) → place ≤ length xs → slice_get (insert xs place x) place ≡ Some x
get-insert xs zero x within = refl
get-insert [] (suc place) x within = absurd (omega arith)
get-insert (y ∷ xs) (suc place) x within = get-insert xs place x (omega arith)

within-remove : {A : Type 0} (xs : List A) (place : ℕ) (x : A) → slice_get xs place ≡ Some x → place ≤ length (remove xs place)
within-remove [] place x there = absurd (cc)
within-remove (y ∷ xs) zero x there = omega arith
within-remove (y ∷ xs) (suc place) x there = omega (arith, within-remove xs place x there)

-- an edit that can be made can be taken back
pub can_go_back : (rows : List Row) (edit : Edit) → IsWithin rows edit → IsWithin (edited rows edit) (inverse edit)
can_go_back rows (add place row) within = get-insert rows place row within
can_go_back rows (cut place row) within = within-remove rows place row within

-- and that leads to the rows before it
pub there_and_back : (rows : List Row) (edit : Edit) → IsWithin rows edit → edited (edited rows edit) (inverse edit) ≡ rows
there_and_back rows (add place row) within = remove-insert rows place row within
there_and_back rows (cut place row) within = insert-remove rows place row within
