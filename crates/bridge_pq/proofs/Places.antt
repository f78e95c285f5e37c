-- What stands at a place after one more element is put in, one is taken out, or one is changed.
use Rattle.std.proofs.Common.{◌≡◌, ℕ, zero, suc, ◌<◌, ◌≤◌, List, [], ◌∷◌, map, length, refl, ap, arith, Some}
use Rattle.std.specs.Prelude.{slice_set}
use Rattle.std.specs.List.{insert, remove, slice_get}

module _ {A : Type 0} where
  pub insert-at : (xs : List A) (place : ℕ) (x : A) → place ≤ length xs → slice_get (insert xs place x) place ≡ Some x
  insert-at xs zero x within = refl
  insert-at [] (suc place) x within = absurd (omega arith)
  insert-at (y ∷ xs) (suc place) x within = insert-at xs place x (omega arith)

  pub insert-before : (xs : List A) (place k : ℕ) (x : A) → k < place → place ≤ length xs → slice_get (insert xs place x) k ≡ slice_get xs k
  insert-before xs zero k x before within = absurd (omega arith)
  insert-before [] (suc place) k x before within = absurd (omega arith)
  insert-before (y ∷ xs) (suc place) zero x before within = refl
  insert-before (y ∷ xs) (suc place) (suc k) x before within = insert-before xs place k x (omega arith) (omega arith)

  pub insert-after : (xs : List A) (place k : ℕ) (x : A) → place ≤ k → place ≤ length xs → slice_get (insert xs place x) (suc k) ≡ slice_get xs k
  insert-after xs zero k x after within = refl
  insert-after [] (suc place) k x after within = absurd (omega arith)
  insert-after (y ∷ xs) (suc place) zero x after within = absurd (omega arith)
  insert-after (y ∷ xs) (suc place) (suc k) x after within = insert-after xs place k x (omega arith) (omega arith)

  pub remove-before : (xs : List A) (place k : ℕ) → k < place → slice_get (remove xs place) k ≡ slice_get xs k
  remove-before xs zero k before = absurd (omega arith)
  remove-before [] (suc place) k before = refl
  remove-before (y ∷ xs) (suc place) zero before = refl
  remove-before (y ∷ xs) (suc place) (suc k) before = remove-before xs place k (omega arith)

  pub remove-after : (xs : List A) (place k : ℕ) → place ≤ k → slice_get (remove xs place) k ≡ slice_get xs (suc k)
  remove-after [] zero k after = refl
  remove-after [] (suc place) k after = refl
  remove-after (y ∷ xs) zero k after = refl
  remove-after (y ∷ xs) (suc place) zero after = absurd (omega arith)
  remove-after (y ∷ xs) (suc place) (suc k) after = remove-after xs place k (omega arith)

  pub set-inserted : (xs : List A) (place : ℕ) (x y : A) → place ≤ length xs → slice_set (insert xs place x) place y ≡ insert xs place y
  set-inserted xs zero x y within = refl
  set-inserted [] (suc place) x y within = absurd (omega arith)
  set-inserted (z ∷ xs) (suc place) x y within = ap (λ l. z ∷ l) (set-inserted xs place x y (omega arith))

module _ {A B : Type 0} (f : A → B) where
  pub map-insert : (xs : List A) (place : ℕ) (x : A) → map f (insert xs place x) ≡ insert (map f xs) place (f x)
  map-insert xs zero x = refl
  map-insert [] (suc place) x = refl
  map-insert (y ∷ xs) (suc place) x = ap (λ l. f y ∷ l) (map-insert xs place x)

  pub map-remove : (xs : List A) (place : ℕ) → map f (remove xs place) ≡ remove (map f xs) place
  map-remove [] zero = refl
  map-remove [] (suc place) = refl
  map-remove (y ∷ xs) zero = refl
  map-remove (y ∷ xs) (suc place) = ap (λ l. f y ∷ l) (map-remove xs place)

  pub map-get : (xs : List A) (k : ℕ) (y : B) → slice_get (map f xs) k ≡ Some y → (x : A) × (slice_get xs k ≡ Some x) × (f x ≡ y)
  map-get [] k y at = absurd (cc)
  map-get (x ∷ xs) zero y at = (x, refl, cc)
  map-get (x ∷ xs) (suc k) y at = map-get xs k y at

  pub get-map : (xs : List A) (k : ℕ) (x : A) → slice_get xs k ≡ Some x → slice_get (map f xs) k ≡ Some (f x)
  get-map [] k x at = absurd (cc)
  get-map (y ∷ xs) zero x at = let same : y ≡ x = cc in ap (λ z. Some (f z)) same
  get-map (y ∷ xs) (suc k) x at = get-map xs k x at
