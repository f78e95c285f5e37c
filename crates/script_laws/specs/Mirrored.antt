-- Whoever sees the changes alone holds the present, over every script; who is left after its lines has heard of all that their answers changed,
-- and a mirror then reports the present.
use Rattle.std.specs.Prelude.{◌≡◌, ℕ, List, [], Option, Some, None}
use Rattle.retro_base.specs.declared.kind.Kind.{Kind}
use Rattle.retro_base.specs.declared.kind.Kind.TheVariants.{Pq}
use Rattle.retro_base.specs.declared.row.Entry.{Entry}
use Rattle.retro_base.specs.declared.row.Row.{Row}
use Rattle.retro_base.specs.Bridges.{survivors}
use Rattle.evidence.specs.declared.evidence.Evidence.{Evidence}
use Rattle.followers.specs.Followers.{Reporting}
use Rattle.followers.specs.Mirrors.{held, mirror_text}
use Rattle.reactions.specs.Answers.{bench_after}
use Rattle.reactions.specs.Bench.{Bench, NamedTimeline, empty_bench, timeline_of}
use Rattle.retro_run.specs.Audience.{Audience, after_events, audience_after, follower_at}
use Rattle.retro_run.specs.Events.{events}

-- the entries of the present of rows: a priority queue has them, and no other kind
abbrev pub present_entries : Kind → List Row → List Entry
present_entries Pq rows = survivors rows
present_entries kind rows = []

-- those of a timeline, where there is one
abbrev pub entries_in : Option NamedTimeline → List Entry
entries_in None = []
entries_in (Some timeline) = present_entries timeline.kind timeline.rows

-- those of the timeline of a name on a bench
abbrev pub entries_named : List ℕ → Bench → List Entry
entries_named name bench = entries_in (timeline_of name bench.timelines)

-- whatever the lines of a script, the events among their answers leave the present of each name as it then is
abbrev pub ChangesAloneHoldThePresent : Type 0
ChangesAloneHoldThePresent = (lines : List (List ℕ)) (name : List ℕ)
    → held name (events lines) ≡ entries_named name (bench_after empty_bench lines)

-- the follower with this number was there from the start, and has taken these events since
pub record HasHeard (heard : List Evidence) (audience : Audience) (number : ℕ) (report : Reporting) : Type 0 where
  pub first : Reporting
  pub there : follower_at audience number ≡ Some first
  pub since : report ≡ after_events heard first

-- whatever the lines, whoever is left after them has taken the events among all answers to them
abbrev pub WhoIsLeftHasHeardAll : Type 0
WhoIsLeftHasHeardAll = (lines : List (List ℕ)) (audience : Audience) (number : ℕ) (report : Reporting)
    → follower_at (audience_after empty_bench audience lines) number ≡ Some report → HasHeard (events lines) audience number report

-- whatever the lines, a mirror of a name that is left after them reports the entries that its priority queue then holds
abbrev pub MirrorsReportThePresent : Type 0
MirrorsReportThePresent = (lines : List (List ℕ)) (audience : Audience) (number : ℕ) (name : List ℕ) (report : Reporting)
    → follower_at audience number ≡ Some (λ events. mirror_text name (held name events))
    → follower_at (audience_after empty_bench audience lines) number ≡ Some report
    → report [] ≡ mirror_text name (entries_named name (bench_after empty_bench lines))
