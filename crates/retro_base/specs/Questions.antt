-- Which questions suit which kind.
use Rattle.std.specs.Prelude.{Bool, true, false}
use Rattle.retro_base.specs.declared.kind.Kind.{Kind}
use Rattle.retro_base.specs.declared.kind.Kind.TheVariants.{Queue, Stack, Deque, Dict, Pq}
use Rattle.retro_base.specs.declared.question.Question.{Question}
use Rattle.retro_base.specs.declared.question.Question.TheVariants.{Size, Front, Back, Top, Left, Right, Min, Nth, Get, Succ, Pred, Count, Sum}

-- the question can be asked of a structure of the kind
abbrev pub suits : Question → Kind → Bool
suits Size kind = true
suits Front Queue = true
suits Back Queue = true
suits Top Stack = true
suits Left Deque = true
suits Right Deque = true
suits Min Pq = true
suits (Nth index) Queue = true
suits (Nth index) Stack = true
suits (Nth index) Deque = true
suits (Nth index) Pq = true
suits (Get key) Dict = true
suits (Succ key) Dict = true
suits (Pred key) Dict = true
suits (Count low high) Dict = true
suits (Sum low high) Dict = true
suits question kind = false
