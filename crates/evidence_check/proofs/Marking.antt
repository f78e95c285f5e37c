-- Marked rows, and the rows that are marked.
use Rattle.std.proofs.Common.{◌≡◌, ℕ, zero, suc, List, [], ◌∷◌, length, map, take, drop, refl, ap}
use Rattle.std.specs.Prelude.{insert, remove}
use Rattle.std.proofs.lemmas.List.{drop-map, length-map, take-map}
use Rattle.evidence_check.specs.declared.weighed_row.WeighedRow.{WeighedRow}
use Rattle.evidence_check.specs.Marks.{unweighed, rows_of}

-- an edit of what is read of each element
pub insert-map : {A B : Type 0} (f : A → B) (place : ℕ) (xs : List A) (x : A) → map f (insert xs place x) ≡ insert (map f xs) place (f x)
insert-map f zero xs x = refl
insert-map f (suc place) [] x = refl
insert-map f (suc place) (first ∷ others) x = ap (λ more. f first ∷ more) (insert-map f place others x)

pub remove-map : {A B : Type 0} (f : A → B) (place : ℕ) (xs : List A) → map f (remove xs place) ≡ remove (map f xs) place
remove-map f zero [] = refl
remove-map f zero (first ∷ others) = refl
remove-map f (suc place) [] = refl
remove-map f (suc place) (first ∷ others) = ap (λ more. f first ∷ more) (remove-map f place others)

pub length_rows : (marked : List WeighedRow) → length (rows_of marked) ≡ length marked
length_rows marked = length-map marked unweighed

pub take_rows : (place : ℕ) (marked : List WeighedRow) → take place (rows_of marked) ≡ rows_of (take place marked)
take_rows place marked = take-map unweighed place marked

pub drop_rows : (place : ℕ) (marked : List WeighedRow) → drop place (rows_of marked) ≡ rows_of (drop place marked)
drop_rows place marked = drop-map unweighed place marked
