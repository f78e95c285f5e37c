-- The evidence of an accepted edit is accepted.
use Rattle.std.proofs.Common.{◌≡◌, ℕ, true, false, List, [], ◌∷◌, length, refl, sym, ap, ◌∙◌, arith, Some, None}
use Rattle.std.specs.Prelude.{slice_get}
use Rattle.std.proofs.lemmas.Bool.{lt-leb, le-ltb, ne_eqb}
use Rattle.std.proofs.lemmas.Bool.Decides.{Decides-eqb, Decides-int_eq}
use Rattle.std.proofs.lemmas.Option.{slice_get_within}
use Rattle.retro_base.specs.declared.kind.Kind.TheVariants.{Pq}
use Rattle.retro_base.specs.declared.op.Op.{Op}
use Rattle.retro_base.specs.declared.op.Op.TheVariants.{Ins, DelMin}
use Rattle.retro_base.specs.declared.row.Change.{Change}
use Rattle.retro_base.specs.declared.row.Row.{Row}
use Rattle.retro_base.specs.Bridges.{stated_bridge}
use Rattle.retro_base.specs.Carried.{IsPqEdit}
use Rattle.retro_base.specs.ChangeLaws.{OneBridgeIsStated, OneChangeOfPq}
use Rattle.retro_base.specs.Changes.{change_of}
use Rattle.retro_base.specs.Edits.{Edit, add, cut, edited, IsAccepted}
use Rattle.retro_base.specs.Kind.{kind_of}
use Rattle.retro_base.specs.Limits.{most_rows}
use Rattle.retro_base.specs.Replay.{failure}
use Rattle.retro_base.specs.Timeline.{IsFresh}
use Rattle.retro_base.specs.OrderLaws.{all_at}
use Rattle.evidence.specs.declared.evidence.Evidence.{Evidence}
use Rattle.evidence_check.specs.Laws.{HasRoom, IsReported, evidence_for, timeless, without_time}
use Rattle.evidence_check.specs.Truth.{bridge_of, cause_of, change_cause, has_number, has_wrong_number, has_wrong_op, is_full, is_outside, same_op, reported_edit}
use Rattle.evidence_check.proofs.Timeless.{change_timeless, edited_timeless, failure_timeless, get_timeless, length_timeless, stated_timeless, timeless_edit}
use Rattle.evidence_check.proofs.TrueEvidence.{bridge_itself, change_itself, states}

-- no row has a fresh number
none_has : (number : ℕ) (rows : List Row) → IsFresh number rows → has_number number (timeless rows) ≡ false
none_has number [] fresh = refl
none_has number (row ∷ rows) fresh = rw (ne_eqb row.number number fresh.0) (none_has number rows fresh.1)

same_op_itself : (op : Op) → kind_of op ≡ Pq → same_op op op ≡ true
same_op_itself (Ins key) kind = (Decides-int_eq key key).1 refl
same_op_itself DelMin kind = refl
same_op_itself op kind = absurd (cc)

-- the tests that an edit passes
record Passes (rows : List Row) (e : Evidence) : Type 0 where
  room : is_full e.added rows ≡ false
  inside : is_outside e.added e.place rows ≡ false
  number : has_wrong_number e.added e.number e.place rows ≡ false
  op : has_wrong_op e.added e.op e.place rows ≡ false

passes : (rows : List Row) (edit : Edit) (name : List ℕ) (change : Change) → IsPqEdit rows edit → HasRoom rows edit → Passes (timeless rows) (evidence_for name edit change)
passes rows (add place row) name change possible room = record {
  room = lt-leb most_rows (length (timeless rows)) (omega (arith, length_timeless rows));
  inside = le-ltb (length (timeless rows)) place (omega (arith, length_timeless rows, possible.within));
  number = none_has row.number rows possible.own_row.1;
  op = refl;
}
passes rows (cut place row) name change possible room =
    let there : slice_get (timeless rows) place ≡ Some (without_time row) = get_timeless rows place row possible.within in
    let kind : kind_of row.op ≡ Pq = all_at (λ r. kind_of r.op ≡ Pq) rows place row possible.history.of_kind possible.within in
    record {
      room = refl;
      inside = lt-leb (length (timeless rows)) place (slice_get_within (timeless rows) place (without_time row) there);
      number = rw (there, (Decides-eqb row.number row.number).1 refl) refl;
      op = rw (there, same_op_itself row.op kind) refl;
    }

reported_is : (edit : Edit) (name : List ℕ) (change : Change) → reported_edit (evidence_for name edit change) ≡ timeless_edit edit
reported_is (add place row) name change = refl
reported_is (cut place row) name change = refl

change_is : (edit : Edit) (name : List ℕ) (change : Change) → (evidence_for name edit change).change ≡ change
change_is (add place row) name change = refl
change_is (cut place row) name change = refl

no_cause : (rows : List Row) (edit : Edit) (change : Change) → failure Pq (edited rows edit) ≡ None → bridge_of change ≡ stated_bridge rows edit → change ≡ change_of Pq rows edit
    → change_cause rows edit change ≡ None
no_cause rows edit change valid bridge one = rw (valid, ← one, ← bridge, bridge_itself (bridge_of change), change_itself change) refl

none_found : (rows : List Row) (e : Evidence) → Passes rows e → change_cause rows (reported_edit e) e.change ≡ None → cause_of rows e ≡ None
unfolding cause_of
none_found rows e pass none = rw (pass.room, pass.inside, pass.number, pass.op) none

pub edit_is_reported : OneBridgeIsStated → OneChangeOfPq → (rows : List Row) (edit : Edit) (name : List ℕ) → IsPqEdit rows edit → IsAccepted Pq rows edit → HasRoom rows edit
    → IsReported rows edit (evidence_for name edit (change_of Pq rows edit))
edit_is_reported bridge one rows edit name possible accepted room =
    let change : Change = change_of Pq rows edit in
    let meets = (one rows edit possible accepted).meets in
    let stated : bridge_of change ≡ stated_bridge rows edit = (bridge rows edit possible).alone (bridge_of change) (states rows edit change meets) in
    let valid : failure Pq (edited (timeless rows) (timeless_edit edit)) ≡ None =
    ap (λ some. failure Pq some) (edited_timeless rows edit) ∙ failure_timeless (edited rows edit) ∙ accepted in
    let none : change_cause (timeless rows) (timeless_edit edit) change ≡ None =
    no_cause (timeless rows) (timeless_edit edit) change valid (stated ∙ sym (stated_timeless rows edit)) (sym (change_timeless rows edit)) in
    record {
      accepted = none_found (timeless rows) (evidence_for name edit change) (passes rows edit name change possible room)
          (rw (reported_is edit name change, change_is edit name change) none);
      after = ap (λ some. edited (timeless rows) some) (reported_is edit name change) ∙ edited_timeless rows edit;
    }
