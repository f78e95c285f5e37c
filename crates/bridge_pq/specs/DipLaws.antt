-- Dips are a monoid, and what is kept of one gives it back.
use Rattle.std.specs.Prelude.{◌≡◌, ℕ, zero, suc, ◌+◌, ◌-◌, Option, Some, None, refl}
use Rattle.std.proofs.Common.{arith, sym}
use Rattle.std.proofs.lemmas.Bool.Decides.{nat_tests}
use Rattle.monoid_laws.specs.Laws.{MonoidLaws}
use Rattle.bridge_pq.specs.Dips.{Dip, falls_in, place_in, low_of, lower, no_dip, joined_dip}

abbrev dip : ℕ → ℕ → Option (ℕ × ℕ) → Dip
dip items rises low = record { items = items; rises = rises; low = low }

same : {i j m n : ℕ} {p q : Option (ℕ × ℕ)} → i ≡ j → m ≡ n → p ≡ q → dip i m p ≡ dip j n q
same a b c = cc

lower_first : (low : Option (ℕ × ℕ)) → lower 0 0 None low ≡ low
lower_first None = refl
lower_first (Some q) = grind (arith, nat_tests)

falls_lower : (rises items : ℕ) (a b : Option (ℕ × ℕ)) → falls_in (lower rises items a b) ≡ falls_in a + (falls_in b - rises)
falls_lower rises items a None = omega arith
falls_lower rises items a (Some q) = grind (arith, nat_tests)

lower_assoc : (ra rb ia ib : ℕ) (a b c : Option (ℕ × ℕ)) → lower (rb + (ra - falls_in b)) (ia + ib) (lower ra ia a b) c ≡ lower ra ia a (lower rb ib b c)
lower_assoc ra rb ia ib a b None = refl
lower_assoc ra rb ia ib a None (Some q) = grind (arith, nat_tests)
lower_assoc ra rb ia ib a (Some p) (Some q) = grind (arith, nat_tests)

pub dip_laws : MonoidLaws (λ d. d.items) no_dip joined_dip
dip_laws = record {
  unit_items = refl;
  join_items = λ a b. refl;
  left_unit = λ a. same (omega arith) (omega arith) (lower_first a.low);
  right_unit = λ a. same (omega arith) (omega arith) refl;
  assoc = λ a b c. same (omega arith) (omega (arith, falls_lower b.rises b.items b.low c.low)) (lower_assoc a.rises b.rises a.items b.items a.low b.low c.low);
}

pub falls_back : (falls place : ℕ) → falls_in (low_of falls place) ≡ falls
falls_back zero place = refl
falls_back (suc falls) place = refl

pub place_back : (falls place : ℕ) → (falls ≡ 0 → place ≡ 0) → place_in (low_of falls place) ≡ place
place_back zero place tidy = sym (tidy refl)
place_back (suc falls) place tidy = refl
