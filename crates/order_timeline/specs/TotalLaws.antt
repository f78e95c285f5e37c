-- The rows of runs are a monoid.
use Rattle.std.proofs.Common.{◌≡◌, ℕ, ◌+◌, refl, arith}
use Rattle.monoid_laws.specs.Laws.{MonoidLaws}
use Rattle.order_timeline.specs.Totals.{Total, no_total, joined_total}

abbrev total : ℕ → ℕ → Total
total runs rows = record { runs = runs; rows = rows }

same : (a b m n : ℕ) → a ≡ b → m ≡ n → total a m ≡ total b n
same a b m n p q = cc

pub total_laws : MonoidLaws (λ (t : Total). t.runs) no_total joined_total
total_laws = record {
  unit_items = refl;
  join_items = λ a b. refl;
  left_unit = λ a. same (0 + a.runs) a.runs (0 + a.rows) a.rows (omega arith) (omega arith);
  right_unit = λ a. same (a.runs + 0) a.runs (a.rows + 0) a.rows (omega arith) (omega arith);
  assoc = λ a b c. same (a.runs + b.runs + c.runs) (a.runs + (b.runs + c.runs)) (a.rows + b.rows + c.rows) (a.rows + (b.rows + c.rows)) (omega arith) (omega arith);
}
