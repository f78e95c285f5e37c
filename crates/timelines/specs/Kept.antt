-- The timelines that a bench keeps, each over its session.
use Rattle.std.specs.Prelude.{◌≡◌, ℕ, Bool, false, List, map}
use Rattle.retro_base.specs.declared.kind.Kind.{Kind}
use Rattle.retro_base.specs.declared.row.Row.{Row}
use Rattle.retro_base.specs.History.{no_history}
use Rattle.timeline_undo.specs.Session.{SessionState}
use Rattle.reactions.specs.Bench.{NamedTimeline, is_named}

-- a timeline that the bench keeps, and whether its session met out of memory within a step
pub record KeptTimeline : Type 0 where
  pub timeline : NamedTimeline
  pub spent : Bool

-- it did not
abbrev pub IsUnspent : KeptTimeline → Type 0
IsUnspent kept = kept.spent ≡ false

-- kept timelines, as they are seen
abbrev pub shown : List KeptTimeline → List NamedTimeline
shown kept = map (λ timeline. timeline.timeline) kept

-- the timeline of this name over a session
abbrev pub named : List ℕ → SessionState → NamedTimeline
named name session = record { name = name; kind = session.kind; rows = session.rows; next = session.next; history = session.history }

-- the timeline of this name over a session, as the bench keeps it
abbrev pub kept_over : List ℕ → SessionState → KeptTimeline
kept_over name session = record { timeline = named name session; spent = session.spent }

-- a timeline of a session that met none
abbrev pub unspent : NamedTimeline → KeptTimeline
unspent timeline = record { timeline = timeline; spent = false }

-- the session of such a timeline
abbrev pub loaded_session : Kind → ℕ → List Row → SessionState
loaded_session kind next rows = record { kind = kind; rows = rows; next = next; history = no_history; spent = false }

-- a kept timeline has the name
abbrev pub is_kept_as : List ℕ → KeptTimeline → Bool
is_kept_as name kept = is_named name kept.timeline
