-- Rows whose keys and values are numbers of 64 bits.
use Rattle.std.specs.Prelude.{List}
use Rattle.std.specs.List.{AllByRecursion}
use Rattle.retro_base.specs.declared.op.Op.{Op}
use Rattle.retro_base.specs.declared.op.Op.TheVariants.{Put, Del}
use Rattle.retro_base.specs.declared.row.Row.{Row}
use Rattle.retro_dictionary.specs.Asked.{IsNumber}

abbrev pub IsOfNumbers : Op → Type 0
IsOfNumbers (Put key value) = IsNumber key × IsNumber value
IsOfNumbers (Del key) = IsNumber key
IsOfNumbers op = Unit {0}

abbrev pub HaveNumbers : List Row → Type 0
HaveNumbers rows = AllByRecursion (λ row. IsOfNumbers row.op) rows
