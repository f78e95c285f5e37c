-- Who put in what is there: each item and value as the number of its row.
use Rattle.std.specs.Prelude.{ℕ, pos, Bool, ◌==◌, List, map}
use Rattle.std.specs.List.{list_any}
use Rattle.std.specs.Ordering.{int_eq}
use Rattle.retro_base.specs.declared.kind.Kind.{Kind}
use Rattle.retro_base.specs.declared.op.Op.{Op}
use Rattle.retro_base.specs.declared.row.Row.{Row}
use Rattle.retro_base.specs.State.{State, items, pairs, entries}
use Rattle.retro_base.specs.Replay.{state_at}
use Rattle.retro_base.specs.Values.{with_value, with_row_value}

-- the operation with the number of its row in place of its value; an entry of a priority queue has the number already
abbrev pub numbered_op : ℕ → Op → Op
numbered_op number op = with_value (pos number) op

abbrev pub numbered : Row → Row
numbered row = with_row_value (λ r. pos r.number) row

-- what is there after the first rows, each item and value as the number of the row that put it there
abbrev pub holders : Kind → List Row → ℕ → State
holders kind rows place = state_at kind (map numbered rows) place

-- something that the row of this number put in is there
abbrev pub holds : ℕ → State → Bool
holds number (items xs) = list_any (λ x. int_eq x (pos number)) xs
holds number (pairs ps) = list_any (λ pair. int_eq pair.1 (pos number)) ps
holds number (entries es) = list_any (λ e. e.number == number) es
