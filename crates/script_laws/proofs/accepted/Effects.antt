-- What becomes of one timeline at a line: what is answered is reported truly, and the timeline stays a good one.
use Rattle.std.proofs.Common.{◌≡◌, ℕ, ◌+◌, ◌-◌, ◌<◌, ◌≤◌, true, false, nat_le, cond, List, [], ◌∷◌, ◌++◌, length, slice_get, refl, sym, ◌∙◌, subst, arith, Option, Some, None}
use Rattle.std.specs.Prelude.{IfSome, option_map, option_and_then}
use Rattle.std.specs.List.{insert}
use Rattle.std.proofs.lemmas.Bool.{leb-false}
use Rattle.retro_base.specs.declared.kind.Kind.{Kind}
use Rattle.retro_base.specs.declared.kind.Kind.TheVariants.{Queue, Stack, Deque, Dict, Pq}
use Rattle.retro_base.specs.declared.op.Op.{Op}
use Rattle.retro_base.specs.declared.row.Row.{Row}
use Rattle.retro_base.specs.Edits.{Edit, Step, add, cut, edited, edited_by, inverse_step}
use Rattle.retro_base.specs.Kind.{kind_of, same_kind}
use Rattle.retro_base.specs.Limits.{most_rows, most_steps, most_timelines, next_limit}
use Rattle.retro_base.specs.Name.{is_name}
use Rattle.retro_base.specs.Places.{place_of_row}
use Rattle.retro_base.specs.Replay.{IsValid, failure}
use Rattle.evidence_check.specs.Judgement.{Judge}
use Rattle.evidence_check.specs.Laws.{EditsAreSpelled, EditsAreReported}
use Rattle.script_grammar.specs.SpellingLaws.{HasValues}
use Rattle.script_grammar.specs.declared.command.Spot.{Spot}
use Rattle.retro_base.specs.History.{newest, newest_step, older_steps}
use Rattle.timeline_undo.specs.Back.{ShiftsCanBeMade}
use Rattle.retro_base.specs.Shift.{IsTargetOf, shift_at, shift_of}
use Rattle.retro_base.specs.declared.target.Target.{Target}
use Rattle.retro_base.specs.declared.target.Target.TheVariants.{At, Into}
use Rattle.script_laws.proofs.accepted.Made.{HasTarget, comes, goes, next_fresh, shift_made, IsSound, Makes, MakesStep, TakesBack, leads_to, sound_after, sound_later, step_back}
use Rattle.script_laws.proofs.accepted.Made.{step_later}
use Rattle.reactions.specs.declared.outcome.Outcome.{Outcome}
use Rattle.reactions.specs.declared.outcome.Outcome.TheVariants.{Accepted, Inserted, Refused}
use Rattle.reactions.specs.declared.outcome.Refusal.{Refusal}
use Rattle.reactions.specs.declared.outcome.Refusal.TheVariants as refusals
use Rattle.reactions.specs.declared.position.Position.{Position}
use Rattle.reactions.specs.Bench.{NamedTimeline}
use Rattle.reactions.specs.Outcome.{reply_text}
use Rattle.reactions.specs.TimelineEffects.{TimelineEffect, accepted_or_refused, after_step, makes, shifts_there, shifts_by, shifts, moves, changes, cut_of}
use Rattle.reactions.specs.TimelineEffects.{deletes, deletes_by, edits, inserts, inserts_at, inserts_there, new_row, position_of, redoes, redoes_step, refusal_at, refuses, row_named}
use Rattle.reactions.specs.TimelineEffects.{unchanged, undoes, undoes_step, where_one_fits}
use Rattle.reactions.specs.Reported.{evidence_of_step, reported}
use Rattle.script_laws.proofs.accepted.Leads.{Leads, leads_last, leads_later, leads_more, leads_so}
use Rattle.script_laws.proofs.accepted.Printable.{NamesTimeline}
use Rattle.script_laws.proofs.accepted.Telling.{Agrees, HasReported, is_listed, tells_same, tells_step}
use Rattle.script_laws.proofs.accepted.Passing.{IsPassedOver, accepted_passes, inserted_passes, refusal_passes}
use Rattle.script_laws.proofs.accepted.Positions.{IsCutOf, cut_is, position_within, same_kind_is}

-- the rows of which evidence tells
abbrev pub reported_rows : Kind → List Row → List Row
reported_rows Pq rows = rows
reported_rows kind rows = []

-- rows that are sound, and steps that lead to them and on from them
pub record IsGood (timeline : NamedTimeline) : Type 0 where
  pub named : is_name timeline.name ≡ true
  pub least : 1 ≤ timeline.next
  pub most : timeline.next ≤ next_limit
  pub sound : IsSound timeline.kind timeline.next timeline.rows
  pub undo_start : List Row
  pub undo : Leads (MakesStep timeline.kind timeline.next) undo_start timeline.history.undo timeline.rows
  pub redo_start : List Row
  pub redo : Leads (TakesBack timeline.kind timeline.next) redo_start timeline.history.redo timeline.rows

-- the answer tells what becomes of the timeline
abbrev TellsOf : NamedTimeline → TimelineEffect → Type 0
TellsOf timeline effect =
    (names : List (List ℕ)) → length names ≤ most_timelines → is_listed timeline.name names ≡ true → (judge : Judge) (by : List ℕ → List Row) → Agrees names by judge.reported
    → by timeline.name ≡ reported_rows timeline.kind timeline.rows
    → HasReported names by timeline.name (reported_rows effect.timeline.kind effect.timeline.rows) judge (reply_text effect.outcome)

pub record StaysGood (timeline : NamedTimeline) (effect : TimelineEffect) : Type 0 where
  pub same_name : effect.timeline.name ≡ timeline.name
  pub good : IsGood effect.timeline
  pub tells : TellsOf timeline effect

names_no_timeline : (row : Option Row) → NamesTimeline (refusal_at row)
names_no_timeline None = tt
names_no_timeline (Some row) = tt

pub stays_as_it_was : (timeline : NamedTimeline) (outcome : Outcome) → IsGood timeline → IsPassedOver outcome → StaysGood timeline (unchanged timeline outcome)
stays_as_it_was timeline outcome good passes = record {
  same_name = refl;
  good = good;
  tells = λ names few listed judge by agrees own.
      tells_same names by timeline.name (reported_rows timeline.kind timeline.rows) judge (reply_text outcome) (passes judge) agrees own;
}

refused_stays : (timeline : NamedTimeline) (refusal : Refusal) → IsGood timeline → NamesTimeline refusal → StaysGood timeline (refuses timeline refusal)
refused_stays timeline refusal good named = stays_as_it_was timeline (Refused refusal) good (refusal_passes refusal named)

-- A step that is made.
module _ (truth : EditsAreReported) (spells : EditsAreSpelled) (shifts_made : ShiftsCanBeMade) where
  module _ (names : List (List ℕ)) (few : length names ≤ most_timelines) (name : List ℕ) (named : is_name name ≡ true) (listed : is_listed name names ≡ true) where
    tells_pq : (next : ℕ) (step : Step) (judge : Judge) (by : List ℕ → List Row) (rows after : List Row) (plain : Outcome) → IsPassedOver plain → Agrees names by judge.reported → by name ≡ rows
        → MakesStep Pq next rows step after → HasReported names by name after judge (reply_text (reported name Pq rows step plain))
    unfolding evidence_of_step
    tells_pq next [] judge by rows after plain passes agrees own made = tells_same names by name after judge (reply_text plain) (passes judge) agrees (own ∙ made)
    tells_pq next (edit ∷ step) judge by rows after plain passes agrees own made =
        tells_step truth spells names few name named listed next (edit ∷ step) judge by rows after agrees own made

    pub tells_made : (kind : Kind) (next : ℕ) (step : Step) (judge : Judge) (by : List ℕ → List Row) (rows after : List Row) (plain : Outcome) → IsPassedOver plain → Agrees names by judge.reported
        → by name ≡ reported_rows kind rows → MakesStep kind next rows step after → HasReported names by name (reported_rows kind after) judge (reply_text (reported name kind rows step plain))
    tells_made Queue next step judge by rows after plain passes agrees own made = tells_same names by name [] judge (reply_text plain) (passes judge) agrees own
    tells_made Stack next step judge by rows after plain passes agrees own made = tells_same names by name [] judge (reply_text plain) (passes judge) agrees own
    tells_made Deque next step judge by rows after plain passes agrees own made = tells_same names by name [] judge (reply_text plain) (passes judge) agrees own
    tells_made Dict next step judge by rows after plain passes agrees own made = tells_same names by name [] judge (reply_text plain) (passes judge) agrees own
    tells_made Pq next step judge by rows after plain passes agrees own made = tells_pq next step judge by rows after plain passes agrees own made

  -- an accepted edit, where this number comes next
  module _ (timeline : NamedTimeline) (good : IsGood timeline) where
    good_made : (step : Step) (next : ℕ) → timeline.next ≤ next → next ≤ next_limit → MakesStep timeline.kind next timeline.rows step (edited_by timeline.rows step)
        → IsGood (after_step timeline step next)
    good_made step next more most made =
        let after : List Row = edited_by timeline.rows step in
        let before : IsSound timeline.kind next timeline.rows = sound_later timeline.kind timeline.next next more timeline.rows good.sound in
        let lifted : Leads (MakesStep timeline.kind next) good.undo_start timeline.history.undo timeline.rows =
        leads_so (MakesStep timeline.kind timeline.next) (MakesStep timeline.kind next) (step_later timeline.kind timeline.next next more) timeline.history.undo good.undo_start timeline.rows good.undo in
        let all : List Step = timeline.history.undo ++ step ∷ [] in
        let kept = leads_later (MakesStep timeline.kind next) (length all - most_steps) all good.undo_start after
        (leads_more (MakesStep timeline.kind next) timeline.history.undo step good.undo_start timeline.rows after lifted made) in
        record {
          named = good.named;
          least = omega (arith, good.least, more);
          most = most;
          sound = sound_after timeline.kind next step timeline.rows after made before;
          undo_start = kept.0;
          undo = kept.1;
          redo_start = after;
          redo = refl;
        }

    make_stays : (step : Step) (next : ℕ) (plain : Outcome) → IsPassedOver plain → timeline.next ≤ next → next ≤ next_limit
        → (IsValid timeline.kind (edited_by timeline.rows step) → MakesStep timeline.kind next timeline.rows step (edited_by timeline.rows step))
        → StaysGood timeline (makes timeline step next plain)
    make_stays step next plain passes more most made =
        elim (failure timeline.kind (edited_by timeline.rows step)) as (λ o. failure timeline.kind (edited_by timeline.rows step) ≡ o
        → StaysGood timeline (accepted_or_refused timeline (after_step timeline step next) (reported timeline.name timeline.kind timeline.rows step plain) o)) [
          | None ↦ λ valid. record {
            same_name = refl;
            good = good_made step next more most (made valid);
            tells = λ names few listed judge by agrees own.
                tells_made names few timeline.name good.named listed timeline.kind next step judge by timeline.rows (edited_by timeline.rows step) plain passes agrees own (made valid);
          }
          | Some index ↦ λ fails. refused_stays timeline (refusal_at (slice_get (edited_by timeline.rows step) index)) good (names_no_timeline (slice_get (edited_by timeline.rows step) index))
        ] refl

    edit_stays : (edit : Edit) (next : ℕ) (plain : Outcome) → IsPassedOver plain → timeline.next ≤ next → next ≤ next_limit
        → (IsValid timeline.kind (edited timeline.rows edit) → Makes timeline.kind next timeline.rows edit (edited timeline.rows edit))
        → StaysGood timeline (edits timeline edit next plain)
    edit_stays edit next plain passes more most made =
        make_stays (edit ∷ []) next plain passes more most (λ valid. (edited timeline.rows edit, made valid, refl))

    -- a row is put in
    new_row_made : (position : Position) (op : Op) → kind_of op ≡ timeline.kind → HasValues op → position.place ≤ length timeline.rows → length timeline.rows < most_rows → timeline.next < next_limit
        → IsValid timeline.kind (insert timeline.rows position.place (new_row timeline position op))
        → Makes timeline.kind (timeline.next + 1) timeline.rows (add position.place (new_row timeline position op)) (insert timeline.rows position.place (new_row timeline position op))
    new_row_made position op kind values within room below valid =
        comes timeline.kind timeline.rows timeline.next position.place (new_row timeline position op)
        (sound_later timeline.kind timeline.next (timeline.next + 1) (omega arith) timeline.rows good.sound) (next_fresh timeline.kind timeline.rows timeline.next good.sound)
        good.least below room refl kind values within valid

    -- where a row and a number more fit
    one_fits : (effect : TimelineEffect) → (length timeline.rows < most_rows → timeline.next < next_limit → StaysGood timeline effect) → StaysGood timeline (where_one_fits timeline effect)
    one_fits effect fits =
        elim (nat_le most_rows (length timeline.rows)) as (λ b. nat_le most_rows (length timeline.rows) ≡ b
        → StaysGood timeline (cond b (refuses timeline refusals.Full) (cond (nat_le next_limit timeline.next) (refuses timeline refusals.Numbers) effect))) [
          | true ↦ λ full. refused_stays timeline refusals.Full good tt
          | false ↦ λ room.
              elim (nat_le next_limit timeline.next) as (λ b. nat_le next_limit timeline.next ≡ b → StaysGood timeline (cond b (refuses timeline refusals.Numbers) effect)) [
                | true ↦ λ out. refused_stays timeline refusals.Numbers good tt
                | false ↦ λ below. fits (leb-false most_rows (length timeline.rows) room) (leb-false next_limit timeline.next below)
              ] refl
        ] refl

    insert_there : (position : Position) (op : Op) → kind_of op ≡ timeline.kind → HasValues op → position.place ≤ length timeline.rows → StaysGood timeline (inserts_there timeline op position)
    insert_there position op kind values within =
        let edit : Edit = add position.place (new_row timeline position op) in
        one_fits (edits timeline edit (timeline.next + 1) (Inserted timeline.next)) (λ room below.
        edit_stays edit (timeline.next + 1) (Inserted timeline.next) (inserted_passes timeline.next) (omega arith) (omega arith)
        (new_row_made position op kind values within room below))

    insert_at : (spot : Spot) (op : Op) → kind_of op ≡ timeline.kind → HasValues op → (position : Option Position) → IfSome position (λ p. p.place ≤ length timeline.rows)
        → StaysGood timeline (inserts_at timeline (row_named spot) op position)
    insert_at spot op kind values None within = refused_stays timeline (refusals.NoRow (row_named spot)) good tt
    insert_at spot op kind values (Some position) within = insert_there position op kind values within

    pub insert_stays : (spot : Spot) (op : Op) → HasValues op → StaysGood timeline (inserts timeline spot op)
    unfolding inserts
    insert_stays spot op values =
        elim (same_kind (kind_of op) timeline.kind) as (λ b. same_kind (kind_of op) timeline.kind ≡ b
        → StaysGood timeline (cond b (inserts_at timeline (row_named spot) op (position_of spot timeline.rows)) (refuses timeline refusals.Kind))) [
          | true ↦ λ is. insert_at spot op (same_kind_is (kind_of op) timeline.kind is) values (position_of spot timeline.rows) (position_within spot timeline.rows)
          | false ↦ λ other. refused_stays timeline refusals.Kind good tt
        ] refl

    -- a row is taken out
    delete_by : (number : ℕ) (edit : Option Edit) → IfSome edit (IsCutOf timeline.rows) → StaysGood timeline (deletes_by timeline number edit)
    delete_by number None is = refused_stays timeline (refusals.NoRow number) good tt
    delete_by number (Some (add place row)) is = absurd is
    delete_by number (Some (cut place row)) is =
        edit_stays (cut place row) timeline.next Accepted accepted_passes (omega arith) good.most
        (goes timeline.kind timeline.rows timeline.next place row good.sound is)

    pub delete_stays : (number : ℕ) → StaysGood timeline (deletes timeline number)
    unfolding deletes
    delete_stays number = delete_by number (cut_of number timeline.rows) (cut_is timeline.rows (place_of_row number timeline.rows))

    -- a row is replaced
    shift_there : (target : Target) (place : ℕ) (old : Row) → IsTargetOf timeline.kind target → HasTarget target → slice_get timeline.rows place ≡ Some old
        → StaysGood timeline (shifts_there timeline (shift_of timeline.rows target timeline.next place old))
    shift_there target place old kind values there =
        let step : Step = shift_of timeline.rows target timeline.next place old in
        one_fits (makes timeline step (timeline.next + 1) (Inserted timeline.next)) (λ room below.
        make_stays step (timeline.next + 1) (Inserted timeline.next) (inserted_passes timeline.next) (omega arith) (omega arith)
        (shift_made shifts_made timeline.kind timeline.rows timeline.next target place old (record {
          sound = good.sound;
          least = good.least;
          room = room;
          below = below;
          of_kind = kind;
          values = values;
          there = there;
        })))

    shift_from : (number : ℕ) (target : Target) (place : ℕ) (row : Option Row) → IsTargetOf timeline.kind target → HasTarget target → slice_get timeline.rows place ≡ row
        → StaysGood timeline (shifts_by timeline number (option_map (shift_of timeline.rows target timeline.next place) row))
    shift_from number target place None kind values there = refused_stays timeline (refusals.NoRow number) good tt
    shift_from number target place (Some old) kind values there = shift_there target place old kind values there

    shift_by : (number : ℕ) (target : Target) (place : Option ℕ) → IsTargetOf timeline.kind target → HasTarget target
        → StaysGood timeline (shifts_by timeline number (option_and_then (shift_at timeline.rows target timeline.next) place))
    shift_by number target None kind values = refused_stays timeline (refusals.NoRow number) good tt
    shift_by number target (Some place) kind values = shift_from number target place (slice_get timeline.rows place) kind values refl

    shift_stays : (number : ℕ) (target : Target) → IsTargetOf timeline.kind target → HasTarget target → StaysGood timeline (shifts timeline number target)
    unfolding shifts
    shift_stays number target kind values = shift_by number target (place_of_row number timeline.rows) kind values

    pub move_stays : (number time : ℕ) → StaysGood timeline (moves timeline number time)
    move_stays number time = shift_stays number (At time) tt tt

    pub change_stays : (number : ℕ) (op : Op) → HasValues op → StaysGood timeline (changes timeline number op)
    unfolding changes
    change_stays number op values =
        elim (same_kind (kind_of op) timeline.kind) as (λ b. same_kind (kind_of op) timeline.kind ≡ b
        → StaysGood timeline (cond b (shifts timeline number (Into op)) (refuses timeline refusals.Kind))) [
          | true ↦ λ is. shift_stays number (Into op) (same_kind_is (kind_of op) timeline.kind is) values
          | false ↦ λ other. refused_stays timeline refusals.Kind good tt
        ] refl

    -- a step that leads to these rows, after which these steps can be undone and redone
    abbrev stepped : List Row → List Step → List Step → Step → TimelineEffect
    stepped after undo redo step = record {
      timeline = record timeline { rows = after; history = record { undo = undo; redo = redo } };
      outcome = reported timeline.name timeline.kind timeline.rows step Accepted;
    }

    step_stays : (step : Step) (after : List Row) (undo redo : List Step) → MakesStep timeline.kind timeline.next timeline.rows step after
        → (undo_start : List Row) → Leads (MakesStep timeline.kind timeline.next) undo_start undo after
        → (redo_start : List Row) → Leads (TakesBack timeline.kind timeline.next) redo_start redo after → StaysGood timeline (stepped after undo redo step)
    step_stays step after undo redo made undo_start undoable redo_start redoable = record {
      same_name = refl;
      good = record {
        named = good.named;
        least = good.least;
        most = good.most;
        sound = sound_after timeline.kind timeline.next step timeline.rows after made good.sound;
        undo_start = undo_start;
        undo = undoable;
        redo_start = redo_start;
        redo = redoable;
      };
      tells = λ names few listed judge by agrees own.
          tells_made names few timeline.name good.named listed timeline.kind timeline.next step judge by timeline.rows after Accepted accepted_passes agrees own made;
    }

    -- a step is undone, and redone
    undo_step : (step : Option Step) → newest_step timeline.history.undo ≡ step → StaysGood timeline (undoes_step timeline step)
    undo_step None none = refused_stays timeline refusals.NothingToUndo good tt
    undo_step (Some step) newest =
        let last = leads_last (MakesStep timeline.kind timeline.next) timeline.history.undo step good.undo_start timeline.rows newest good.undo in
        let middle : List Row = last.middle in
        let made : MakesStep timeline.kind timeline.next middle step timeline.rows = last.goes in
        let taken : MakesStep timeline.kind timeline.next timeline.rows (inverse_step step) middle = step_back timeline.kind timeline.next middle timeline.rows step made in
        let redoable = leads_more (TakesBack timeline.kind timeline.next) timeline.history.redo step good.redo_start timeline.rows middle good.redo made in
        subst (λ rows. StaysGood timeline (stepped rows (older_steps timeline.history.undo) (timeline.history.redo ++ step ∷ []) (inverse_step step)))
        (sym (leads_to timeline.kind timeline.next (inverse_step step) timeline.rows middle taken))
        (step_stays (inverse_step step) middle (older_steps timeline.history.undo) (timeline.history.redo ++ step ∷ []) taken good.undo_start last.leads good.redo_start redoable)

    pub undo_stays : StaysGood timeline (undoes timeline)
    unfolding undoes
    undo_stays = undo_step (newest_step timeline.history.undo) refl

    redo_step : (step : Option Step) → newest_step timeline.history.redo ≡ step → StaysGood timeline (redoes_step timeline step)
    redo_step None none = refused_stays timeline refusals.NothingToRedo good tt
    redo_step (Some step) newest =
        let last = leads_last (TakesBack timeline.kind timeline.next) timeline.history.redo step good.redo_start timeline.rows newest good.redo in
        let middle : List Row = last.middle in
        let made : MakesStep timeline.kind timeline.next timeline.rows step middle = last.goes in
        let undoable = leads_more (MakesStep timeline.kind timeline.next) timeline.history.undo step good.undo_start timeline.rows middle good.undo made in
        subst (λ rows. StaysGood timeline (stepped rows (timeline.history.undo ++ step ∷ []) (older_steps timeline.history.redo) step))
        (sym (leads_to timeline.kind timeline.next step timeline.rows middle made))
        (step_stays step middle (timeline.history.undo ++ step ∷ []) (older_steps timeline.history.redo) made good.undo_start undoable good.redo_start last.leads)

    pub redo_stays : StaysGood timeline (redoes timeline)
    unfolding redoes
    redo_stays = redo_step (newest_step timeline.history.redo) refl
