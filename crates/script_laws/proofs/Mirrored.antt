-- The events among the answers to a script tell the edits by which the timelines of the bench have changed: the judge that reads the answers
-- sees to it that they are true, and what it was reported of a name has the entries that the bench then holds.
use Rattle.std.proofs.Common.{◌≡◌, ℕ, Bool, true, false, cond, List, [], ◌∷◌, refl, sym, subst, Option, Some, None, ap, ◌∙◌, Result, Err, arith}
use Rattle.std.specs.Prelude.{unwrap_or}
use Rattle.std.specs.List.{cons_option}
use Rattle.std.specs.Str.{bytes_eq}
use Rattle.retro_base.specs.declared.row.Row.{Row}
use Rattle.evidence.specs.declared.evidence.Evidence.{Evidence}
use Rattle.evidence.specs.Evidence.{IsEvidence}
use Rattle.evidence.specs.Laws.{PrintedReadsBack}
use Rattle.evidence_check.specs.Judgement.{Judge, first_cause, is_one_too_many, rows_of, nothing_reported}
use Rattle.evidence_check.specs.Laws.{AreReported, IsTrueOf, ReportedStays, TrueIsAccepted, timeless, EditsAreSpelled, EditsAreReported}
use Rattle.evidence_check.specs.Truth.{cause_of, reported_edit, rows_after}
use Rattle.followers.specs.MirrorLaws.{TellsEdits, MirrorsHoldThePresent}
use Rattle.retro_run.specs.Events.{events_spelled, events}
use Rattle.script_laws.proofs.accepted.Leads.{Leads}
use Rattle.script_laws.proofs.accepted.ReadLines.{Takes, no_event, with_event, lines_read}
use Rattle.script_laws.proofs.accepted.Telling.{itself, rows_of-with, Agrees}
use Rattle.retro_base.specs.Facts.{same_bytes}
use Rattle.std.specs.Option.{option_map_or}
use Rattle.std.specs.Result.{result_unwrap_or}
use Rattle.retro_base.specs.declared.kind.Kind.{Kind}
use Rattle.retro_base.specs.declared.kind.Kind.TheVariants.{Pq}
use Rattle.retro_base.specs.Bridges.{entries_of, survivors}
use Rattle.retro_base.specs.Replay.{fold_rows, one_later, run}
use Rattle.retro_base.specs.State.{State, empty, step}
use Rattle.reactions.specs.Bench.{Bench, NamedTimeline, is_named, timeline_of, empty_bench}
use Rattle.script_laws.specs.Mirrored.{entries_in, entries_named, present_entries, ChangesAloneHoldThePresent}
use Rattle.script_laws.proofs.accepted.Effects.{reported_rows}
use Rattle.script_laws.proofs.accepted.Timelines.{names_of, rows_by_name}
use Rattle.followers.specs.Mirrors.{held_after}
use Rattle.timeline_undo.specs.Back.{ShiftsCanBeMade}
use Rattle.reactions.specs.Answers.{bench_after}
use Rattle.script_laws.proofs.accepted.Script.{answers_of, nothing_kept, reads_answers}

-- the rows that a judge was reported of a name
abbrev pub rows_told : List ℕ → Judge → List Row
rows_told name judge = unwrap_or (rows_of name judge.reported) []

-- what it was reported of each name is a history
abbrev pub HasHistories : Judge → Type 0
HasHistories judge = (name : List ℕ) → AreReported (rows_told name judge)

-- One event that the judge accepts.
told_with : (judge : Judge) (e : Evidence) (name : List ℕ) → rows_told name (with_event judge e)
    ≡ cond (bytes_eq e.name name) (rows_after (rows_told e.name judge) e) (rows_told name judge)
told_with judge e name =
    let after : List Row = rows_after (rows_told e.name judge) e in
    rw (rows_of-with e.name after judge.reported name)
    (elim (bytes_eq e.name name)
    as (λ b. unwrap_or (cond b (Some after) (rows_of name judge.reported)) [] ≡ cond b after (rows_told name judge)) [
      | true ↦ refl
      | false ↦ refl
    ])

no_cause : {X : Type 0} (test : Bool) (x : X) (o : Option X) → cond test (Some x) o ≡ None → o ≡ None
no_cause test x o none = grind arith

module _ (true_evidence : TrueIsAccepted) (stays : ReportedStays) (back : PrintedReadsBack) where
  module _ (judge : Judge) (e : Evidence) (is : IsEvidence e) (histories : HasHistories judge) (none : first_cause judge.reported e ≡ None) where
    accepted : cause_of (rows_told e.name judge) e ≡ None
    accepted = no_cause (is_one_too_many (rows_of e.name judge.reported) judge.reported) _ (cause_of (rows_told e.name judge) e) none

    histories_with : HasHistories (with_event judge e)
    histories_with name =
        subst AreReported (sym (told_with judge e name))
        (elim (bytes_eq e.name name) as (λ b. AreReported (cond b (rows_after (rows_told e.name judge) e) (rows_told name judge))) [
          | true ↦ stays (rows_told e.name judge) e (histories e.name) is accepted
          | false ↦ histories name
        ])

    tells_event : (name : List ℕ) (events : List Evidence) (last : List Row) → TellsEdits name (rows_told name (with_event judge e)) events last
        → TellsEdits name (rows_told name judge) (e ∷ events) last
    tells_event name events last later =
        let rows : List Row = rows_told e.name judge in
        let after : List Row = rows_after rows e in
        let truth : IsTrueOf rows e = (true_evidence rows e (histories e.name) is).0 accepted in
        (elim (bytes_eq e.name name)
        as (λ b. bytes_eq e.name name ≡ b → TellsEdits name (cond b after (rows_told name judge)) events last → TellsEdits name (rows_told name judge) (e ∷ events) last) [
          | true ↦ λ is_own. subst (λ n. TellsEdits n after events last → TellsEdits n (rows_told n judge) (e ∷ events) last) (same_bytes e.name name is_own)
              (λ more. TellsEdits.own rows last (reported_edit e) e events (itself e.name) truth.change more)
          | false ↦ λ apart more. TellsEdits.other (rows_told name judge) last e events apart more
        ]) refl (subst (λ from. TellsEdits name from events last) (told_with judge e name) later)

  -- a line that the judge takes, before others
  tells_line : (judge next after : Judge) (line : List ℕ) (lines : List (List ℕ)) (name : List ℕ) → HasHistories judge → Takes judge line next
      → (HasHistories next → TellsEdits name (rows_told name next) (events_spelled lines) (rows_told name after))
      → TellsEdits name (rows_told name judge) (events_spelled (line ∷ lines)) (rows_told name after)
  tells_line judge next after line lines name histories (Takes.passes passed other) later =
      subst (λ o. TellsEdits name (rows_told name judge) (cons_option o (events_spelled lines)) (rows_told name after)) (sym (no_event passed other)) (later histories)
  tells_line judge next after line lines name histories (Takes.tells e is none) later =
      subst (λ o. TellsEdits name (rows_told name judge) (cons_option o (events_spelled lines)) (rows_told name after)) (sym (back e is))
      (tells_event judge e is histories none name (events_spelled lines) (rows_told name after) (later (histories_with judge e is histories none)))

  pub tells_lines : (lines : List (List ℕ)) (judge after : Judge) (name : List ℕ) → HasHistories judge → Leads Takes judge lines after
      → TellsEdits name (rows_told name judge) (events_spelled lines) (rows_told name after)
  tells_lines [] judge after name histories leads =
      subst (λ later. TellsEdits name (rows_told name judge) [] (rows_told name later)) leads (TellsEdits.none (rows_told name judge))
  tells_lines (line ∷ lines) judge after name histories leads =
      tells_line judge leads.0 after line lines name histories leads.1 (λ more. tells_lines lines leads.0 after name more leads.2)

-- the times of rows have no part in what they hold
one_row_later : (o : Option State) (one two : State → Result State ℕ) → ((s : State) → one s ≡ two s)
    → option_map_or (λ next. one_later (one next)) o (Err 0) ≡ option_map_or (λ next. one_later (two next)) o (Err 0)
one_row_later None one two same = refl
one_row_later (Some s) one two same = ap one_later (same s)

run_timeless : (rows : List Row) (state : State) → run (timeless rows) state ≡ run rows state
unfolding fold_rows
run_timeless [] state = refl
run_timeless (row ∷ rows) state = one_row_later (step row state) (run (timeless rows)) (run rows) (run_timeless rows)

survivors_timeless : (rows : List Row) → survivors (timeless rows) ≡ survivors rows
survivors_timeless rows = ap (λ r. entries_of (result_unwrap_or r (empty Pq))) (run_timeless rows (empty Pq))

-- without rows there is no entry
pub none_survive : survivors [] ≡ []
unfolding fold_rows
none_survive = refl

reported_survive : (kind : Kind) (rows : List Row) → survivors (reported_rows kind rows) ≡ present_entries kind rows
reported_survive kind rows = grind (arith, none_survive)

named_survive : (name : List ℕ) (timelines : List NamedTimeline)
    → survivors (rows_by_name timelines name) ≡ entries_in (timeline_of name timelines)
named_survive name [] = none_survive
named_survive name (first ∷ timelines) =
    elim (is_named name first)
    as (λ b. survivors (cond b (reported_rows first.kind first.rows) (rows_by_name timelines name))
    ≡ entries_in (cond b (Some first) (timeline_of name timelines))) [
      | true ↦ reported_survive first.kind first.rows
      | false ↦ named_survive name timelines
    ]

pub told_survive : (name : List ℕ) (bench : Bench) (judge : Judge)
    → Agrees (names_of bench.timelines) (rows_by_name bench.timelines) judge.reported
    → survivors (rows_told name judge) ≡ entries_named name bench
told_survive name bench judge agrees =
    ap (λ rows. survivors rows) (agrees.same name) ∙ survivors_timeless (rows_by_name bench.timelines name)
    ∙ named_survive name bench.timelines

nothing_told : HasHistories nothing_reported
unfolding fold_rows
nothing_told name = record {
  history = record { of_kind = tt; own_numbers = tt; valid = refl };
  timeless = tt;
}

pub changes_hold : EditsAreReported → EditsAreSpelled → ShiftsCanBeMade → TrueIsAccepted → ReportedStays → PrintedReadsBack → MirrorsHoldThePresent
    → ChangesAloneHoldThePresent
changes_hold truth spells shifts_made true_evidence stays back mirrors script name =
    let told = reads_answers truth spells shifts_made script empty_bench nothing_reported (nothing_kept truth spells shifts_made) in
    let same : events script ≡ events_spelled told.reads.read =
    told.events ∙ ap events_spelled (lines_read nothing_reported told.later (answers_of empty_bench script) told.reads) in
    let tells : TellsEdits name [] (events script) (rows_told name told.later) =
    subst (λ es. TellsEdits name [] es (rows_told name told.later)) (sym same)
    (tells_lines true_evidence stays back told.reads.read nothing_reported told.later name nothing_told told.reads.taken) in
    ap (λ entries. held_after name entries (events script)) (sym none_survive) ∙ mirrors name [] (rows_told name told.later) (events script) tells
    ∙ told_survive name (bench_after empty_bench script) told.later told.kept.timelines.agrees
