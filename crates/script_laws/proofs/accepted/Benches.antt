-- The judge of what a bench has written takes the answer to each line, and to the end of the input.
use Rattle.std.proofs.Common.{◌≡◌, ℕ, ◌<◌, ◌≤◌, Bool, true, false, not, ◌&&◌, cond, List, [], length, refl, Option, Some, None, Result, Ok, Err, arith}
use Rattle.std.specs.Prelude.{IfOk}
use Rattle.retro_base.specs.declared.kind.Kind.{Kind}
use Rattle.retro_base.specs.declared.kind.Kind.TheVariants.{Queue, Stack, Deque, Dict, Pq}
use Rattle.retro_base.specs.declared.row.Row.{Row}
use Rattle.retro_base.specs.Limits.{most_timelines}
use Rattle.retro_base.specs.Name.{is_name}
use Rattle.evidence_check.specs.Judgement.{Judge, Reported}
use Rattle.evidence_check.specs.Laws.{EditsAreSpelled, EditsAreReported}
use Rattle.script_grammar.specs.declared.command.Command.{Command}
use Rattle.script_grammar.specs.declared.command.Command.TheVariants.{Nothing, New, Insert, Delete, Move, Change, Fate, Ask, Undo, Redo, Save, Mute, Header}
use Rattle.script_grammar.specs.declared.command.LineError.{LineError}
use Rattle.script_grammar.specs.declared.command.LineError.TheVariants as errors
use Rattle.script_grammar.specs.BlockLines.{is_end}
use Rattle.timeline_file.specs.declared.block.BlockError.{BlockError}
use Rattle.timeline_file.specs.Block.{finished}
use Rattle.timeline_undo.specs.Back.{ShiftsCanBeMade}
use Rattle.reactions.specs.declared.outcome.Outcome.TheVariants.{Silent, Accepted, Refused}
use Rattle.reactions.specs.declared.outcome.Refusal.TheVariants as refusals
use Rattle.reactions.specs.Bench.{Bench, NamedTimeline, OpenBlock, has_timeline}
use Rattle.reactions.specs.Outcome.{block_refusal, evidence_lines, reply_text}
use Rattle.reactions.specs.Reaction.{BenchEffect, Effect, closes, ends, happens, inside, leaves, loads, obeys, of_block, opened, spelled, with_block, with_line}
use Rattle.reactions.specs.TimelineEffects.{answers, answers_fate, changes, deletes, inserts, moves, redoes, saves, unchanged, undoes}
use Rattle.reactions.specs.Reported.{appends_from, loaded, loaded_evidence}
use Rattle.script_laws.proofs.accepted.Blocks.{IsGoodBlock, begun_is_good, good_loaded, sound_closed, taken_good}
use Rattle.script_laws.proofs.accepted.Effects.{delete_stays, insert_stays, move_stays, change_stays, redo_stays, reported_rows, stays_as_it_was, undo_stays}
use Rattle.script_laws.proofs.accepted.Passing.{accepted_passes, answer_passes, fate_passes, refusal_passes, saved_passes, silent_passes}
use Rattle.script_laws.proofs.accepted.Made.{IsSound, appends_made}
use Rattle.script_laws.proofs.accepted.Printable.{NamesTimeline}
use Rattle.script_laws.proofs.accepted.ReadLines.{Reads, reads-append, reads_nothing}
use Rattle.script_laws.proofs.accepted.Spelled.{IsSpelled, command_is_spelled}
use Rattle.script_laws.proofs.accepted.Telling.{Agrees, HasReported, is_listed, tells_same, tells_step}
use Rattle.script_laws.proofs.accepted.Timelines.{AreToldOf, StayKept, comes_kept, left_kept, named_kept, startable_kept, starts_kept}

-- what is wrong with a block names no timeline
names_none : (error : BlockError) → NamesTimeline (block_refusal error)
names_none error = grind arith

-- the evidence of the rows of a block
module _ (truth : EditsAreReported) (spells : EditsAreSpelled) (shifts_made : ShiftsCanBeMade) where
  tells_loaded : (name : List ℕ) (kind : Kind) (next : ℕ) (rows : List Row) (names : List (List ℕ)) → length names ≤ most_timelines → is_name name ≡ true → is_listed name names ≡ true
      → IsSound kind next rows → (judge : Judge) (by : List ℕ → List Row) → Agrees names by judge.reported → by name ≡ []
      → HasReported names by name (reported_rows kind rows) judge (evidence_lines (loaded_evidence name kind rows))
  tells_loaded name Queue next rows names few named listed sound judge by agrees own = tells_same names by name [] judge [] (reads_nothing judge) agrees own
  tells_loaded name Stack next rows names few named listed sound judge by agrees own = tells_same names by name [] judge [] (reads_nothing judge) agrees own
  tells_loaded name Deque next rows names few named listed sound judge by agrees own = tells_same names by name [] judge [] (reads_nothing judge) agrees own
  tells_loaded name Dict next rows names few named listed sound judge by agrees own = tells_same names by name [] judge [] (reads_nothing judge) agrees own
  tells_loaded name Pq next rows names few named listed sound judge by agrees own =
      tells_step truth spells names few name named listed next (appends_from 0 rows) judge by [] rows agrees own (appends_made Pq next [] rows sound)

  loads_kept : (timelines : List NamedTimeline) (unclosed : OpenBlock) (ended : Bool) (judge : Judge) → AreToldOf timelines judge.reported → is_name unclosed.name ≡ true → IsGoodBlock unclosed.block
      → has_timeline unclosed.name timelines ≡ false → length timelines < most_timelines
      → (made : Result (List Row) BlockError) → finished unclosed.block ended ≡ made → StayKept (loads timelines unclosed made) judge
  loads_kept timelines unclosed ended judge kept named good free room (Err error) is =
      left_kept timelines judge (Refused (block_refusal error)) kept (refusal_passes (block_refusal error) (names_none error))
  loads_kept timelines unclosed ended judge kept named good free room (Ok rows) is =
      let sound = sound_closed unclosed.block ended rows good is in
      comes_kept timelines (of_block unclosed rows) (loaded unclosed.name unclosed.block.kind rows) judge kept (good_loaded unclosed rows named good sound) free room
      (λ names few listed by agrees own.
      let reported = tells_loaded unclosed.name unclosed.block.kind unclosed.block.next rows names few named listed sound judge by agrees own in
      record {
        later = reported.later;
        reads = reads-append judge judge reported.later (reply_text Accepted) (evidence_lines (loaded_evidence unclosed.name unclosed.block.kind rows)) (accepted_passes judge) reported.reads;
        agrees = reported.agrees;
      })

  -- The bench.
  abbrev IsGoodOpen : Option OpenBlock → Type 0
  IsGoodOpen None = Unit {0}
  IsGoodOpen (Some unclosed) = (is_name unclosed.name ≡ true) × IsGoodBlock unclosed.block

  pub record IsToldOf (bench : Bench) (reported : List Reported) : Type 0 where
    pub timelines : AreToldOf bench.timelines reported
    pub block : IsGoodOpen bench.block

  pub record StaysKept (effect : BenchEffect) (judge : Judge) : Type 0 where
    pub later : Judge
    pub reads : Reads judge (reply_text effect.outcome) later
    pub kept : IsToldOf effect.bench later.reported

  with_block_kept : (block : Option OpenBlock) (effect : Effect) (judge : Judge) → IsGoodOpen block → StayKept effect judge → StaysKept (with_block block effect) judge
  with_block_kept block effect judge good stay = record { later = stay.later; reads = stay.reads; kept = record { timelines = stay.kept; block = good } }

  -- a line outside a block
  obeys_kept : (timelines : List NamedTimeline) (judge : Judge) (line : Result Command LineError) → AreToldOf timelines judge.reported → IfOk line IsSpelled → StayKept (obeys timelines line) judge
  obeys_kept timelines judge (Err errors.Long) kept is = left_kept timelines judge (Refused refusals.Long) kept (refusal_passes refusals.Long tt)
  obeys_kept timelines judge (Err errors.Syntax) kept is = left_kept timelines judge (Refused refusals.Syntax) kept (refusal_passes refusals.Syntax tt)
  obeys_kept timelines judge (Ok Nothing) kept is = left_kept timelines judge Silent kept silent_passes
  obeys_kept timelines judge (Ok (New name kind fused)) kept is = starts_kept timelines name kind judge kept is
  obeys_kept timelines judge (Ok (Insert name spot op)) kept is =
      named_kept name (λ timeline. inserts timeline spot op) is.0 (λ timeline good. insert_stays truth spells shifts_made timeline good spot op is.1) timelines judge kept
  obeys_kept timelines judge (Ok (Delete name number)) kept is =
      named_kept name (λ timeline. deletes timeline number) is (λ timeline good. delete_stays truth spells shifts_made timeline good number) timelines judge kept
  obeys_kept timelines judge (Ok (Move name number time)) kept is =
      named_kept name (λ timeline. moves timeline number time) is (λ timeline good. move_stays truth spells shifts_made timeline good number time) timelines judge kept
  obeys_kept timelines judge (Ok (Change name number op)) kept is =
      named_kept name (λ timeline. changes timeline number op) is.0 (λ timeline good. change_stays truth spells shifts_made timeline good number op is.1) timelines judge kept
  obeys_kept timelines judge (Ok (Fate name number)) kept is =
      named_kept name (λ timeline. unchanged timeline (answers_fate timeline number)) is (λ timeline good. stays_as_it_was timeline (answers_fate timeline number) good (fate_passes timeline number)) timelines judge kept
  obeys_kept timelines judge (Ok (Ask name moment query)) kept is =
      named_kept name (λ timeline. unchanged timeline (answers timeline moment query)) is (λ timeline good. stays_as_it_was timeline (answers timeline moment query) good (answer_passes timeline moment query)) timelines judge kept
  obeys_kept timelines judge (Ok (Undo name)) kept is = named_kept name undoes is (λ timeline good. undo_stays truth spells shifts_made timeline good) timelines judge kept
  obeys_kept timelines judge (Ok (Redo name)) kept is = named_kept name redoes is (λ timeline good. redo_stays truth spells shifts_made timeline good) timelines judge kept
  obeys_kept timelines judge (Ok (Save name)) kept is =
      named_kept name (λ timeline. unchanged timeline (saves timeline)) is (λ timeline good. stays_as_it_was timeline (saves timeline) good (saved_passes timeline.name timeline.kind timeline.next timeline.rows good.named)) timelines judge kept
  obeys_kept timelines judge (Ok (Mute number)) kept is =
      left_kept timelines judge (Refused (refusals.NoFollower number)) kept (refusal_passes (refusals.NoFollower number) tt)
  obeys_kept timelines judge (Ok (Header name kind next rows)) kept is = left_kept timelines judge Silent kept silent_passes

  opened_good : (line : Result Command LineError) → IfOk line IsSpelled → IsGoodOpen (opened line)
  opened_good (Err error) is = tt
  opened_good (Ok Nothing) is = tt
  opened_good (Ok (New name kind fused)) is = tt
  opened_good (Ok (Insert name spot op)) is = tt
  opened_good (Ok (Delete name number)) is = tt
  opened_good (Ok (Move name number time)) is = tt
  opened_good (Ok (Change name number op)) is = tt
  opened_good (Ok (Fate name number)) is = tt
  opened_good (Ok (Ask name moment query)) is = tt
  opened_good (Ok (Undo name)) is = tt
  opened_good (Ok (Redo name)) is = tt
  opened_good (Ok (Save name)) is = tt
  opened_good (Ok (Mute number)) is = tt
  opened_good (Ok (Header name kind next rows)) is = (is.0, begun_is_good kind next rows is.1.0 is.1.1)

  line_spelled : (bytes : List ℕ) (long : Bool) → IfOk (spelled bytes long) IsSpelled
  line_spelled bytes true = tt
  line_spelled bytes false = command_is_spelled bytes

  pub ends_kept : (timelines : List NamedTimeline) (judge : Judge) (block : Option OpenBlock) (ended : Bool) → AreToldOf timelines judge.reported → IsGoodOpen block → StaysKept (ends timelines block ended) judge
  ends_kept timelines judge None ended kept good = with_block_kept None (leaves timelines Silent) judge tt (left_kept timelines judge Silent kept silent_passes)
  ends_kept timelines judge (Some unclosed) ended kept good =
      with_block_kept None (closes timelines unclosed ended) judge tt
      (startable_kept timelines unclosed.name (loads timelines unclosed (finished unclosed.block ended)) judge kept
      (λ free room. loads_kept timelines unclosed ended judge kept good.0 good.1 free room (finished unclosed.block ended) refl))

  inside_kept : (timelines : List NamedTimeline) (judge : Judge) (unclosed : OpenBlock) (bytes : List ℕ) (long : Bool) → AreToldOf timelines judge.reported → IsGoodOpen (Some unclosed)
      → StaysKept (inside timelines unclosed bytes long) judge
  inside_kept timelines judge unclosed bytes long kept good =
      elim (not long && is_end bytes) as (λ b. StaysKept (cond b (ends timelines (Some unclosed) true) (with_block (Some (with_line unclosed bytes long)) (leaves timelines Silent))) judge) [
        | true ↦ ends_kept timelines judge (Some unclosed) true kept good
        | false ↦ with_block_kept (Some (with_line unclosed bytes long)) (leaves timelines Silent) judge (good.0, taken_good unclosed.block bytes long good.1) (left_kept timelines judge Silent kept silent_passes)
      ]

  pub happens_kept : (timelines : List NamedTimeline) (judge : Judge) (block : Option OpenBlock) (bytes : List ℕ) (long : Bool) → AreToldOf timelines judge.reported → IsGoodOpen block
      → StaysKept (happens timelines block bytes long) judge
  happens_kept timelines judge None bytes long kept good =
      with_block_kept (opened (spelled bytes long)) (obeys timelines (spelled bytes long)) judge (opened_good (spelled bytes long) (line_spelled bytes long))
      (obeys_kept timelines judge (spelled bytes long) kept (line_spelled bytes long))
  happens_kept timelines judge (Some unclosed) bytes long kept good = inside_kept timelines judge unclosed bytes long kept good
