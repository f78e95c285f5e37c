-- Whether a row may be replaced: one search of the structure shows that all rows can be performed after it, or the count along them says
-- which one fails.
use Rattle.std.proofs.Common.{◌≡◌, ℕ, Bool, true, false, not, List, slice_get, Option, Some, None, refl, sym, ◌∙◌, ap, subst}
use Rattle.std.specs.Prelude.{is_some, IsTrue}
use Rattle.std.specs.List.{insert, remove}
use Rattle.std.specs.Option.{option_and_then}
use Rattle.std.specs.Result.{result_err}
use Rattle.retro_base.specs.declared.kind.Kind.{Kind}
use Rattle.retro_base.specs.declared.row.Row.{Row}
use Rattle.retro_base.specs.Edits.{failing_row}
use Rattle.retro_base.specs.Kind.{adds, kind_of}
use Rattle.retro_base.specs.OrderLaws.{all_with, all_without}
use Rattle.retro_base.specs.Replay.{IsValid}
use Rattle.retro_base.specs.Timeline.{IsReplayable}
use Rattle.retro_base.specs.lemmas.Counted.{of_kind_at}
use Rattle.retro_base.specs.lemmas.GivingEdits.{adding_row_replays, taking_row_can_go}
use Rattle.timeline_undo.specs.declared.replacement.Replacement.{Replacement}
use Rattle.timeline_undo.specs.Replaced.{Replaces, before_without, replaced}
use Rattle.retro_base.specs.Shift.{index_after}
use Rattle.timeline_undo.specs.WalkCounts.{walked, count_first}
use Rattle.timeline_undo.proofs.Replaced.{cut_first, put_first}
use Rattle.timeline_undo.proofs.Steps.{stands_after_put}
use Rattle.timeline_undo.proofs.Walked.{count_names}

-- a search that has found no failing row
pub none_found : (failing : Option ℕ) (none : Bool) → is_some failing ≡ not none → IsTrue none → failing ≡ None
none_found None none is found = refl
none_found (Some index) true is found = absurd (cc)
none_found (Some index) false is found = absurd (cc)

-- a new row that adds comes after the cut
pub adds_after_cut : (kind : Kind) (rows : List Row) (r : Replacement) → IsReplayable kind rows → Replaces kind rows r → adds r.new.op ≡ true
    → IsValid kind (remove rows r.index) → IsValid kind (replaced rows r)
adds_after_cut kind rows r replayable replaces adding valid =
    subst (IsValid kind) (cut_first rows r replaces.there)
    (adding_row_replays kind (remove rows r.index) (before_without r.index r.before) r.new
    (all_without (λ (row : Row). kind_of row.op ≡ kind) rows r.index replayable.of_kind) valid replaces.of_kind adding)

-- an old row that takes goes after the insertion
pub takes_after_put : (kind : Kind) (rows : List Row) (r : Replacement) → IsReplayable kind rows → Replaces kind rows r → adds r.old.op ≡ false
    → IsValid kind (insert rows r.before r.new) → IsValid kind (replaced rows r)
takes_after_put kind rows r replayable replaces taking valid =
    subst (IsValid kind) (put_first rows r replaces.there replaces.within)
    (taking_row_can_go kind (insert rows r.before r.new) (index_after r.before r.index) r.old
    (all_with (λ (row : Row). kind_of row.op ≡ kind) rows r.before r.new replayable.of_kind replaces.of_kind) valid
    (stands_after_put rows r.before r.index r.new r.old replaces.there) taking)

-- where all can be performed no row is named
pub none_named : (kind : Kind) (rows : List Row) → IsValid kind rows → None ≡ failing_row kind rows
none_named kind rows valid = sym (ap (option_and_then (slice_get rows)) valid)

-- the count names the first row that cannot be performed
pub walk_names : (kind : Kind) (rows : List Row) (r : Replacement) (failing : Option Row) → IsReplayable kind rows → Replaces kind rows r
    → failing ≡ result_err (walked (replaced rows r) (count_first r.old.op r.new.op)) → failing ≡ failing_row kind (replaced rows r)
walk_names kind rows r failing replayable replaces found =
    found
    ∙ count_names kind rows (insert rows r.before r.new) (replaced rows r) r.before (index_after r.before r.index) r.new r.old (record {
      of_kind = replayable.of_kind;
      valid = replayable.valid;
      here = replaces.of_kind;
      middle_is = refl;
      there = stands_after_put rows r.before r.index r.new r.old replaces.there;
      after_is = sym (put_first rows r replaces.there replaces.within);
    }) (of_kind_at kind rows r.index r.old replayable.of_kind replaces.there)
