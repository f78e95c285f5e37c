-- The kind of structure that an operation belongs to.
use Rattle.std.specs.Prelude.{Bool, true, false}
use Rattle.retro_base.specs.declared.kind.Kind.{Kind}
use Rattle.retro_base.specs.declared.kind.Kind.TheVariants.{Queue, Stack, Deque, Dict, Pq}
use Rattle.retro_base.specs.declared.op.Op.{Op}
use Rattle.retro_base.specs.declared.op.Op.TheVariants.{Enq, Deq, Push, Pop, PushL, PushR, PopL, PopR, Put, Del, Ins, DelMin}

-- the kind whose structures can perform the operation
abbrev pub kind_of : Op → Kind
kind_of (Enq v) = Queue
kind_of Deq = Queue
kind_of (Push v) = Stack
kind_of Pop = Stack
kind_of (PushL v) = Deque
kind_of (PushR v) = Deque
kind_of PopL = Deque
kind_of PopR = Deque
kind_of (Put k v) = Dict
kind_of (Del k) = Dict
kind_of (Ins k) = Pq
kind_of DelMin = Pq

-- a test whether two kinds are one
abbrev pub same_kind : Kind → Kind → Bool
same_kind Queue Queue = true
same_kind Stack Stack = true
same_kind Deque Deque = true
same_kind Dict Dict = true
same_kind Pq Pq = true
same_kind kind other = false

-- the operation puts something in, and takes nothing out
abbrev pub adds : Op → Bool
adds (Enq v) = true
adds Deq = false
adds (Push v) = true
adds Pop = false
adds (PushL v) = true
adds (PushR v) = true
adds PopL = false
adds PopR = false
adds (Put k v) = true
adds (Del k) = false
adds (Ins k) = true
adds DelMin = false
