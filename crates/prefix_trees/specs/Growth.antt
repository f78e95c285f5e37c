-- A queue, a stack or a deque is a line of items, and each row lets it grow or shrink by one at one end.
-- A queue and a deque are seen from the left, a stack has its top there.
use Rattle.std.specs.Prelude.{ℕ, ℤ, pos, negsuc, List, map}
use Rattle.std.specs.Prelude.{Option, Some, None}
use Rattle.monoid_laws.specs.Summed.{sum_to}
use Rattle.retro_base.specs.declared.kind.Kind.{Kind}
use Rattle.retro_base.specs.declared.kind.Kind.TheVariants.{Queue, Stack, Deque, Dict, Pq}
use Rattle.retro_base.specs.declared.op.Op.{Op}
use Rattle.retro_base.specs.declared.op.Op.TheVariants.{Enq, Deq, Push, Pop, PushL, PushR, PopL, PopR}
use Rattle.retro_base.specs.declared.row.Row.{Row}
use Rattle.prefix_trees.specs.declared.growth.End.{End}
use Rattle.prefix_trees.specs.declared.growth.End.TheVariants.{Left, Right}

-- the kinds whose state is a line of items
abbrev pub IsLine : Kind → Type 0
IsLine Queue = Unit {0}
IsLine Stack = Unit {0}
IsLine Deque = Unit {0}
IsLine Dict = ⊥
IsLine Pq = ⊥

-- by how much an operation lets the line grow at its left end
abbrev pub left_growth : Op → ℤ
left_growth Deq = negsuc 0
left_growth (Push value) = pos 1
left_growth Pop = negsuc 0
left_growth (PushL value) = pos 1
left_growth PopL = negsuc 0
left_growth op = pos 0

-- and at its right end
abbrev pub right_growth : Op → ℤ
right_growth (Enq value) = pos 1
right_growth (PushR value) = pos 1
right_growth PopR = negsuc 0
right_growth op = pos 0

-- at either end
abbrev pub growth_at : End → Op → ℤ
growth_at Left = left_growth
growth_at Right = right_growth

-- and as a whole
abbrev pub sign_of : Op → ℤ
sign_of (Enq value) = pos 1
sign_of Deq = negsuc 0
sign_of (Push value) = pos 1
sign_of Pop = negsuc 0
sign_of (PushL value) = pos 1
sign_of (PushR value) = pos 1
sign_of PopL = negsuc 0
sign_of PopR = negsuc 0
sign_of op = pos 0

-- the item that it adds
abbrev pub value_of : Op → Option ℤ
value_of (Enq value) = Some value
value_of (Push value) = Some value
value_of (PushL value) = Some value
value_of (PushR value) = Some value
value_of op = None

-- by how much each row lets the line grow
abbrev pub growths : (Op → ℤ) → List Row → List ℤ
growths growth rows = map (λ row. growth row.op) rows

-- by how much the first so many rows do
abbrev pub grown : (Op → ℤ) → List Row → ℕ → ℤ
grown growth rows place = sum_to (growths growth rows) place
