-- Which numbers are held, and which are not.
use Rattle.std.proofs.Common.{◌≡◌, ◌≢◌, ℕ, ℤ, pos, zero, suc, Bool, true, false, List, [], ◌∷◌, ◌++◌, take, refl, ◌∙◌}
use Rattle.std.specs.Prelude.{◌||◌}
use Rattle.std.specs.List.{list_any}
use Rattle.std.specs.Ordering.{int_eq}
use Rattle.std.proofs.lemmas.List.Folds.{list_any-append}
use Rattle.fates.specs.Holding.{Lacks}
use Rattle.retro_base.specs.lemmas.SortedPairs.{same_key, same_as_itself}
use Rattle.retro_base.specs.Facts.{either_true}

pub other_number : (n number : ℕ) → n ≢ number → int_eq (pos n) (pos number) ≡ false
other_number n number apart = elim (int_eq (pos n) (pos number)) as (λ b. int_eq (pos n) (pos number) ≡ b → b ≡ false) [
  | true ↦ λ same. absurd (apart (let one : pos n ≡ pos number = same_key (pos n) (pos number) same in cc))
  | false ↦ λ other. refl
] refl

pub or_false : (a b : Bool) → a ≡ false → b ≡ false → (a || b) ≡ false
or_false a b e f = rw (e, f) refl

pub or_true_first : (a b : Bool) → a ≡ true → (a || b) ≡ true
or_true_first true b e = refl
or_true_first false b e = absurd (cc)

pub first_false : (a b : Bool) → (a || b) ≡ false → a ≡ false
first_false true b e = absurd (cc)
first_false false b e = refl

pub second_false : (a b : Bool) → (a || b) ≡ false → b ≡ false
second_false true b e = absurd (cc)
second_false false b e = e

pub lacks_cons : (number : ℕ) (x : ℤ) (xs : List ℤ) → int_eq x (pos number) ≡ false → Lacks number xs → Lacks number (x ∷ xs)
lacks_cons number x xs other lacks = or_false _ _ other lacks

pub lacks_tail : (number : ℕ) (x : ℤ) (xs : List ℤ) → Lacks number (x ∷ xs) → Lacks number xs
lacks_tail number x xs lacks = second_false _ _ lacks

pub lacks_append : (number : ℕ) (xs ys : List ℤ) → Lacks number xs → Lacks number ys → Lacks number (xs ++ ys)
lacks_append number xs ys front back = list_any-append (λ x. int_eq x (pos number)) xs ys ∙ or_false _ _ front back

pub lacks_take : (number : ℕ) (xs : List ℤ) (count : ℕ) → Lacks number xs → Lacks number (take count xs)
lacks_take number xs zero lacks = refl
lacks_take number [] (suc count) lacks = refl
lacks_take number (x ∷ xs) (suc count) lacks = or_false _ _ (first_false _ _ lacks) (lacks_take number xs count (second_false _ _ lacks))

pub is_held : (number : ℕ) (xs ys : List ℤ) → list_any (λ x. int_eq x (pos number)) (xs ++ pos number ∷ ys) ≡ true
is_held number [] ys = rw (same_as_itself (pos number)) refl
is_held number (x ∷ xs) ys = either_true _ _ (is_held number xs ys)
