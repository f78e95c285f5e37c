-- Laws of a count of faults over several calls, which the proofs of the layer above may cite.
use Rattle.std.proofs.Common.{ℕ, Bool, true, false, ◌≤◌, inl, inr, arith}
use Rattle.retro_io.specs.Faults.{CountsFaults, HasRisen}

-- a count that rose later rose in all
HasRisen-then : (a b c : ℕ) → a ≤ b → HasRisen b c → HasRisen a c
HasRisen-then a b c le (inl more) = inl (omega arith)
HasRisen-then a b c le (inr last) = inr last

-- calls that did not fail, and then one more
pub CountsFaults-then : (fails : Bool) (a b c : ℕ) → a ≤ b → CountsFaults fails b c → CountsFaults fails a c
CountsFaults-then true a b c le counts = (omega (arith, le, counts.0), HasRisen-then a b c le counts.1)
CountsFaults-then false a b c le counts = omega (arith, le, counts)
