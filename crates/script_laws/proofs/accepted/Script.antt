-- Line by line, and then the bytes: the judge that reads what a script writes takes each line, and the events among them are those of
-- each answer.
use Rattle.std.proofs.Common.{◌≡◌, ℕ, false, List, [], ◌∷◌, ◌++◌, map, flat_map, refl, sym, ap, ◌∙◌, arith}
use Rattle.std.specs.List.{concat}
use Rattle.retro_base.specs.LineLength.{is_long}
use Rattle.retro_io.specs.Lines.{lines}
use Rattle.evidence.specs.declared.evidence.Evidence.{Evidence}
use Rattle.evidence.specs.Laws.{LinesAreShort, PrintedReadsBack}
use Rattle.evidence_check.specs.Judgement.{Judge, nothing_reported}
use Rattle.evidence_check.specs.Laws.{EditsAreSpelled, EditsAreReported}
use Rattle.timeline_undo.specs.Back.{ShiftsCanBeMade}
use Rattle.reactions.specs.Answers.{bench_after, reactions}
use Rattle.reactions.specs.Bench.{Bench, empty_bench}
use Rattle.reactions.specs.Reaction.{Reaction, closing, reacts}
use Rattle.retro_run.specs.Events.{events_among}
use Rattle.retro_run.specs.Output.{output}
use Rattle.script_laws.specs.Accepted.{WhatIsWrittenIsAccepted}
use Rattle.script_laws.proofs.accepted.Benches.{IsToldOf, StaysKept, ends_kept, happens_kept}
use Rattle.script_laws.proofs.accepted.ReadLines.{Reads, events-append, reads-append, reads_nothing, reads_whole}

-- the answers to lines, one after the other
abbrev pub answers_of : Bench → List (List ℕ) → List ℕ
answers_of bench script = concat (map (λ (reaction : Reaction). reaction.answer) (reactions bench script))

-- the events among each of them
abbrev pub events_from : Bench → List (List ℕ) → List Evidence
events_from bench script = flat_map (λ (reaction : Reaction). events_among reaction.answer) (reactions bench script)

module _ (truth : EditsAreReported) (spells : EditsAreSpelled) (shifts_made : ShiftsCanBeMade) where
  -- what the judge is after the answers to some lines
  pub record ReadsAnswers (bench : Bench) (script : List (List ℕ)) (judge : Judge) : Type 0 where
    pub later : Judge
    pub reads : Reads judge (answers_of bench script) later
    pub kept : IsToldOf truth spells shifts_made (bench_after bench script) later.reported
    pub events : events_from bench script ≡ events_among (answers_of bench script)

  pub reads_answers : (script : List (List ℕ)) (bench : Bench) (judge : Judge) → IsToldOf truth spells shifts_made bench judge.reported → ReadsAnswers bench script judge
  unfolding reactions bench_after
  reads_answers [] bench judge kept = record { later = judge; reads = reads_nothing judge; kept = kept; events = refl }
  reads_answers (line ∷ script) bench judge kept =
      let one : StaysKept truth spells shifts_made _ judge = happens_kept truth spells shifts_made bench.timelines judge bench.block line (is_long line) kept.timelines kept.block in
      let rest = reads_answers script (reacts bench line).bench one.later one.kept in
      record {
        later = rest.later;
        reads = reads-append judge one.later rest.later (reacts bench line).answer (answers_of (reacts bench line).bench script) one.reads rest.reads;
        kept = rest.kept;
        events = ap (λ es. events_among (reacts bench line).answer ++ es) rest.events
            ∙ sym (events-append judge one.later (reacts bench line).answer (answers_of (reacts bench line).bench script) one.reads);
      }

  pub nothing_kept : IsToldOf truth spells shifts_made empty_bench []
  nothing_kept = record {
    timelines = record { few = omega arith; good = tt; agrees = record { same = λ name. refl; few = omega arith } };
    block = tt;
  }

  pub written_is_accepted : PrintedReadsBack → LinesAreShort → WhatIsWrittenIsAccepted
  written_is_accepted back short bytes =
      let script : List (List ℕ) = lines bytes in
      let answered = reads_answers script empty_bench nothing_reported nothing_kept in
      let bench : Bench = bench_after empty_bench script in
      let closed = ends_kept truth spells shifts_made bench.timelines answered.later bench.block false answered.kept.timelines answered.kept.block in
      reads_whole back short (output bytes) closed.later
      (reads-append nothing_reported answered.later closed.later (answers_of empty_bench script) (closing bench).answer answered.reads closed.reads)
