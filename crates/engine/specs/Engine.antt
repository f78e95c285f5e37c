-- What an engine is seen as: the kind of the structure inside, which its variant names, its rows, and the checkpoints of a priority
-- queue.
use Rattle.std.specs.Prelude.{◌≡◌, ℕ, ◌≤◌, Bool, true, false, List, [], Result, IfOk, OnOk, OnErr}
use Rattle.retro_base.specs.declared.kind.Kind.{Kind}
use Rattle.retro_base.specs.declared.kind.Kind.TheVariants as kinds
use Rattle.retro_base.specs.declared.row.Row.{Row}
use Rattle.checkpoint_full.specs.Checkpoints.{Checkpointed}
use Rattle.checkpoint_full.specs.Rule.{MakesCheckpoints}
use Rattle.engine.specs.declared.engine.Engine.{Engine}
use Rattle.engine.specs.declared.engine.Engine.TheVariants.{Queue, Stack, Deque, Dict, Pq, Fused}

-- the kind of the structure inside
abbrev pub kind_inside : Engine → Kind
kind_inside (Queue inner) = kinds.Queue
kind_inside (Stack inner) = kinds.Stack
kind_inside (Deque inner) = kinds.Deque
kind_inside (Dict inner) = kinds.Dict
kind_inside (Pq inner) = inner.kind
kind_inside (Fused inner) = kinds.Pq

-- its rows
abbrev pub rows_inside : Engine → List Row
rows_inside (Queue inner) = inner
rows_inside (Stack inner) = inner
rows_inside (Deque inner) = inner
rows_inside (Dict inner) = inner
rows_inside (Pq inner) = inner.rows
rows_inside (Fused inner) = inner.rows

-- a queue, a stack or a deque, whose past is asked in a few visits and without memory
abbrev pub is_line : Engine → Bool
is_line (Queue inner) = true
is_line (Stack inner) = true
is_line (Deque inner) = true
is_line (Dict inner) = false
is_line (Pq inner) = false
is_line (Fused inner) = false

-- a priority queue whose past is asked by checkpoints
abbrev pub is_pq : Engine → Bool
is_pq (Queue inner) = false
is_pq (Stack inner) = false
is_pq (Deque inner) = false
is_pq (Dict inner) = false
is_pq (Pq inner) = true
is_pq (Fused inner) = false

-- a priority queue whose past is one product
abbrev pub is_fused : Engine → Bool
is_fused (Queue inner) = false
is_fused (Stack inner) = false
is_fused (Deque inner) = false
is_fused (Dict inner) = false
is_fused (Pq inner) = false
is_fused (Fused inner) = true

-- its checkpoints were made
abbrev pub made_inside : Engine → Bool
made_inside (Queue inner) = false
made_inside (Stack inner) = false
made_inside (Deque inner) = false
made_inside (Dict inner) = false
made_inside (Pq inner) = inner.made
made_inside (Fused inner) = false

-- their places
abbrev pub places_inside : Engine → List ℕ
places_inside (Queue inner) = []
places_inside (Stack inner) = []
places_inside (Deque inner) = []
places_inside (Dict inner) = []
places_inside (Pq inner) = inner.places
places_inside (Fused inner) = []

-- and the most rows between neighbours among them
abbrev pub width_inside : Engine → ℕ
width_inside (Queue inner) = 0
width_inside (Stack inner) = 0
width_inside (Deque inner) = 0
width_inside (Dict inner) = 0
width_inside (Pq inner) = inner.width
width_inside (Fused inner) = 0

-- what is seen of them, with the kind and the rows
abbrev pub seen_inside : Engine → Checkpointed
seen_inside engine =
    record { kind = kind_inside engine; rows = rows_inside engine; made = made_inside engine; width = width_inside engine; places = places_inside engine }

-- an edit keeps the structure inside: its kind, which of the two it is of a priority queue, and whether its checkpoints were made; their
-- width never falls
pub record KeepsStructure (before after : Engine) : Type 0 where
  pub kind : kind_inside after ≡ kind_inside before
  pub fused : is_fused after ≡ is_fused before
  pub made : made_inside after ≡ made_inside before
  pub wider : width_inside before ≤ width_inside after

-- a question about the past with this answer: the kind, the structure inside and the rows stay; where it is answered, it is so by this answer,
-- and a priority queue by checkpoints has made them; after out of memory all is as before
pub record IsAsked {A E : Type 0} (before : Engine) (answer_there : A) (result : Result A E) (after : Engine) : Type 0 where
  pub kind : kind_inside after ≡ kind_inside before
  pub variant : is_fused after ≡ is_fused before
  pub rows : rows_inside after ≡ rows_inside before
  pub answer : IfOk result (λ answer. answer ≡ answer_there)
  pub checkpoints : is_pq before ≡ true → OnOk result (MakesCheckpoints (seen_inside before) (seen_inside after))
  pub err : OnErr result (after ≡ before)
