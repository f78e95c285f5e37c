-- What a tree of pairs measures.
use Rattle.std.specs.Prelude.{ℤ}
use Rattle.monoid_laws.specs.Summed.{Summed, one_sum}

-- the value of a pair alone
abbrev pub one_pair : ℤ × ℤ → Summed
one_pair pair = one_sum pair.1
