-- Sums of weights as they are stored.
use Rattle.std.proofs.Common.{◌≡◌, ℕ, ◌*◌, ◌≤◌, ℤ, pos, negsuc, w32, SFits, to_z, of_z, true, false, cond, ap, ◌∙◌, List, length, subst, sym, arith}
use Rattle.std.specs.Prelude.{◌+ℤ◌, ◌-ℤ◌, ◌≤ℤ◌, int_lt}
use Rattle.std.proofs.lemmas.Bool.Decides.{nat_tests}
use Rattle.std.proofs.lemmas.Int.{ints, to_z-of_z}
use Rattle.retro_base.specs.Limits.{most_rows}
use Rattle.evidence_check.specs.declared.weighed_row.WeighedRow.{WeighedRow}
use Rattle.evidence_check.specs.Sums.{HasRoom, lesser, low_of, sum_of}
use Rattle.evidence_check.specs.Zeros.{IsFirstZero, IsLastZero}
use Rattle.evidence_check.proofs.SumsJoined.{low-down, low-up, sum-down, sum-up}

pub within_fits : (z : ℤ) → z ≤ℤ pos (2 * most_rows) → pos 0 ≤ℤ (z +ℤ pos (2 * most_rows)) → SFits w32 z
within_fits (pos n) up down = record { sfits = omega (arith, ints) }
within_fits (negsuc n) up down = record { sfits = omega (arith, ints) }

pub stored_add : (a b : ℤ) → SFits w32 b → SFits w32 (a +ℤ b) → to_z w32 (of_z w32 (a +ℤ to_z w32 (of_z w32 b))) ≡ a +ℤ b
stored_add a b fits sum_fits = simp to_z-of_z

pub stored_both : (a b : ℤ) → SFits w32 a → SFits w32 b → SFits w32 (a +ℤ b) → to_z w32 (of_z w32 (to_z w32 (of_z w32 a) +ℤ to_z w32 (of_z w32 b))) ≡ a +ℤ b
stored_both a b first second sum_fits = simp to_z-of_z

pub stored_less : (a b : ℤ) → SFits w32 b → SFits w32 (a -ℤ b) → to_z w32 (of_z w32 (a -ℤ to_z w32 (of_z w32 b))) ≡ a -ℤ b
stored_less a b fits sum_fits = simp to_z-of_z

-- the sums of few rows fit
pub sum_fits : (xs : List WeighedRow) → length xs ≤ most_rows → SFits w32 (sum_of xs)
sum_fits xs few = bounded (sum_of xs) (length xs) few (sum-up xs) (sum-down xs)
  where
    bounded : (s : ℤ) (n : ℕ) → n ≤ most_rows → s ≤ℤ pos n → pos 0 ≤ℤ (s +ℤ pos n) → SFits w32 s
    bounded s n few up down = within_fits s (omega (arith, ints)) (omega (arith, ints))

pub low_fits : (xs : List WeighedRow) → length xs ≤ most_rows → SFits w32 (low_of xs)
low_fits xs few = bounded (low_of xs) (length xs) few (low-up xs) (low-down xs)
  where
    bounded : (s : ℤ) (n : ℕ) → n ≤ most_rows → s ≤ℤ pos 1 → pos 0 ≤ℤ (s +ℤ pos n) → SFits w32 s
    bounded s n few up down = within_fits s (omega (arith, ints)) (omega (arith, ints))

-- a number that was stored is the number
pub room_stored : (before : ℤ) (n : ℕ) → SFits w32 before → HasRoom before n → HasRoom (to_z w32 (of_z w32 before)) n
room_stored before n fits room = subst (λ b. HasRoom b n) (sym (to_z-of_z w32 before fits)) room

pub first_stored : (before : ℤ) (xs : List WeighedRow) (from place : ℕ) → SFits w32 before → IsFirstZero (to_z w32 (of_z w32 before)) xs from place → IsFirstZero before xs from place
first_stored before xs from place fits found = subst (λ b. IsFirstZero b xs from place) (to_z-of_z w32 before fits) found

pub last_stored : (before : ℤ) (xs : List WeighedRow) (to place : ℕ) → SFits w32 before → IsLastZero (to_z w32 (of_z w32 before)) xs to place → IsLastZero before xs to place
last_stored before xs to place fits found = subst (λ b. IsLastZero b xs to place) (to_z-of_z w32 before fits) found

-- the sums of two lists joined, as they are stored
pub join_fits : (s : ℤ) (n : ℕ) → s ≤ℤ pos n → pos 0 ≤ℤ (s +ℤ pos n) → n ≤ most_rows → SFits w32 s
join_fits s n up down few = within_fits s (omega (arith, ints)) (omega (arith, ints))

lesser_fits : (a b : ℤ) → SFits w32 a → SFits w32 b → SFits w32 (lesser a b)
lesser_fits a b first second = elim (int_lt b a) as (λ t. SFits w32 (cond t b a)) [ true ↦ second | false ↦ first ]

pub stored_lesser : (found l s m : ℤ) → SFits w32 l → SFits w32 s → SFits w32 m → SFits w32 (s +ℤ m)
    → found ≡ lesser (to_z w32 (of_z w32 l)) (to_z w32 (of_z w32 (to_z w32 (of_z w32 s) +ℤ to_z w32 (of_z w32 m)))) → to_z w32 (of_z w32 found) ≡ lesser l (s +ℤ m)
stored_lesser found l s m first sum low both is =
    let is_found : found ≡ lesser l (s +ℤ m) = is ∙ ap (λ n. lesser n (to_z w32 (of_z w32 (to_z w32 (of_z w32 s) +ℤ to_z w32 (of_z w32 m))))) (to_z-of_z w32 l first) ∙ ap (lesser l) (stored_both s m sum low both) in
    to_z-of_z w32 found (rw is_found (lesser_fits l (s +ℤ m) first both)) ∙ is_found

pub whole_fits : (before : ℤ) (xs : List WeighedRow) → HasRoom before (length xs) → SFits w32 (before +ℤ sum_of xs)
whole_fits before xs room = bounded before (sum_of xs) (length xs) room.up room.down (sum-up xs) (sum-down xs)
  where
    bounded : (b s : ℤ) (n : ℕ) → (b +ℤ pos n) ≤ℤ pos most_rows → pos n ≤ℤ (b +ℤ pos most_rows) → s ≤ℤ pos n → pos 0 ≤ℤ (s +ℤ pos n) → SFits w32 (b +ℤ s)
    bounded b s n up down most least = within_fits (b +ℤ s) (omega (arith, ints)) (omega (arith, ints))

pub above_fits : (before low : ℤ) (xs : List WeighedRow) → low ≡ low_of xs → HasRoom before (length xs) → SFits w32 (before +ℤ low)
above_fits before low xs is room = bounded before low (low_of xs) (length xs) is room.up room.down (low-up xs) (low-down xs)
  where
    bounded : (b l m : ℤ) (n : ℕ) → l ≡ m → (b +ℤ pos n) ≤ℤ pos most_rows → pos n ≤ℤ (b +ℤ pos most_rows) → m ≤ℤ pos 1 → pos 0 ≤ℤ (m +ℤ pos n) → SFits w32 (b +ℤ l)
    bounded b l m n is up down most least = within_fits (b +ℤ l) (omega (arith, ints)) (omega (arith, ints))

pub above_zero : (sum before low least : ℤ) → sum ≡ before +ℤ low → low ≡ least → int_lt (pos 0) sum ≡ true → pos 1 ≤ℤ (before +ℤ least)
above_zero sum before low least whole is above = grind (arith, ints, nat_tests)
