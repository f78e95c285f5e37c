-- Numbers are a monoid under addition.
use Rattle.std.proofs.Common.{◌+◌, refl, arith}
use Rattle.monoids.specs.Laws.{MonoidLaws}

pub count_laws : MonoidLaws (λ n. n) 0 (λ m n. m + n)
count_laws = record {
  unit_items = refl;
  join_items = λ a b. refl;
  left_unit = λ a. omega arith;
  right_unit = λ a. omega arith;
  assoc = λ a b c. omega arith;
}
