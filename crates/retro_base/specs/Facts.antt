-- Facts about tests, options, lists and numbers that many proofs need, each said once.
use Rattle.std.proofs.Common.{◌≡◌, ℕ, zero, suc, ◌+◌, ◌-◌, ◌<◌, ◌≤◌, Bool, true, false, ◌&&◌, ◌||◌, not, List, [], ◌∷◌, ◌++◌, length, take, drop, refl, ap, ◌∙◌, arith, Option, Some, None}
use Rattle.std.specs.Prelude.{slice_get}
use Rattle.std.specs.Str.{bytes_eq}
use Rattle.std.proofs.lemmas.List.{take-append-le, take-take, length-drop, length-take}
use Rattle.std.proofs.lemmas.Slice.Eq.{bytes_eq-Decides}

-- two tests that pass together, one that passes beside another, and two that both fail
pub both_true : (a b : Bool) → (a && b) ≡ true → (a ≡ true) × (b ≡ true)
both_true true b h = (refl, h)
both_true false b h = absurd (cc)

pub either_true : (a b : Bool) → b ≡ true → (a || b) ≡ true
either_true true b h = refl
either_true false b h = h

pub either_false : (a b : Bool) → (a || b) ≡ false → (a ≡ false) × (b ≡ false)
either_false true b h = absurd (cc)
either_false false b h = (refl, h)

-- a test whose opposite fails, and one that would pass and fail
pub not_false : (b : Bool) → not b ≡ false → b ≡ true
not_false true h = refl
not_false false h = absurd (cc)

pub not_both : (b : Bool) → b ≡ false → b ≡ true → ⊥
not_both b fails passes = cc

-- what is there is one value, and no lack of one
pub some_is : {A : Type 0} (x y : A) → ◌≡◌ {A = Option A} (Some y) (Some x) → x ≡ y
some_is x y e = cc

pub some_is_not_none : {A : Type 0} {x : A} → Some x ≡ None → ⊥
some_is_not_none e = cc

pub one_value : {A : Type 0} (m : Option A) (x y : A) → m ≡ Some x → m ≡ Some y → x ≡ y
one_value (Some z) x y first second = cc
one_value None x y first second = absurd (cc)

pub one_at : {A : Type 0} (xs : List A) (place : ℕ) (x y : A) → slice_get xs place ≡ Some x → slice_get xs place ≡ Some y → x ≡ y
one_at xs place x y first second = cc

-- there is something at each place of a list
pub there_is_one : {A : Type 0} (xs : List A) (place : ℕ) → place < length xs → slice_get xs place ≡ None → ⊥
there_is_one [] place within none = omega arith
there_is_one (x ∷ xs) zero within none = cc
there_is_one (x ∷ xs) (suc place) within none = there_is_one xs place (omega arith) none

-- what stands from a place on begins with what stands there
pub drop_at : {A : Type 0} (xs : List A) (place : ℕ) (x : A) → slice_get xs place ≡ Some x → drop place xs ≡ x ∷ drop (place + 1) xs
drop_at [] place x there = absurd (cc)
drop_at (y ∷ ys) zero x there = ap (λ z. z ∷ ys) (let same : y ≡ x = cc in same)
drop_at (y ∷ ys) (suc place) x there = drop_at ys place x there ∙ ap (λ n. x ∷ drop n (y ∷ ys)) (let same : suc (place + 1) ≡ suc place + 1 = omega arith in same)

-- what stands at a place of the first ones, and of the others
pub get_take : {A : Type 0} (xs : List A) (count place : ℕ) → place < count → slice_get (take count xs) place ≡ slice_get xs place
get_take xs zero place within = absurd (omega arith)
get_take [] (suc count) place within = refl
get_take (x ∷ xs) (suc count) zero within = refl
get_take (x ∷ xs) (suc count) (suc place) within = get_take xs count place (omega arith)

pub get_drop : {A : Type 0} (xs : List A) (from place : ℕ) → slice_get (drop from xs) place ≡ slice_get xs (from + place)
get_drop xs zero place = ap (slice_get xs) (let same : place ≡ 0 + place = omega arith in same)
get_drop [] (suc from) place = refl
get_drop (x ∷ xs) (suc from) place = get_drop xs from place ∙ ap (slice_get (x ∷ xs)) (let same : suc (from + place) ≡ suc from + place = omega arith in same)

pub get_taken : {A : Type 0} (xs : List A) (count place : ℕ) (x : A) → slice_get (take count xs) place ≡ Some x → slice_get xs place ≡ Some x
get_taken xs zero place x there = absurd (cc)
get_taken [] (suc count) place x there = there
get_taken (y ∷ xs) (suc count) zero x there = there
get_taken (y ∷ xs) (suc count) (suc place) x there = get_taken xs count place x there

-- what a window has after a read, of what it had before
pub window_reads : {A : Type 0} (xs old window : List A) (from read count : ℕ) → window ≡ take read (drop from xs) ++ drop read old → count ≤ read
    → read ≤ length xs - from → take count window ≡ take count (drop from xs)
window_reads xs old window from read count e within there =
    ap (take count) e ∙ take-append-le count (take read (drop from xs)) (drop read old) (omega (arith, length-take read (drop from xs), length-drop from xs))
    ∙ take-take count read (drop from xs) within

-- the test of bytes
pub same_bytes : (word text : List ℕ) → bytes_eq word text ≡ true → word ≡ text
same_bytes word text is = (bytes_eq-Decides word text).0 is
