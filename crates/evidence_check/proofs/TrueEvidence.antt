-- Evidence is accepted exactly where it is true.
use Rattle.std.proofs.Common.{◌≡◌, ℕ, Bool, true, false, List, refl, Option, Some, None}
use Rattle.std.specs.Prelude.{◌↔◌}
use Rattle.std.proofs.lemmas.Bool.Decides.{Decides-eqb}
use Rattle.retro_base.specs.declared.kind.Kind.TheVariants.{Pq}
use Rattle.retro_base.specs.declared.op.Op.{Op}
use Rattle.retro_base.specs.declared.row.Change.{Change}
use Rattle.retro_base.specs.declared.row.Change.TheVariants.{Plain, Gain, Lose}
use Rattle.retro_base.specs.declared.row.Row.{Row}
use Rattle.retro_base.specs.Bridges.{IsStatedBridge, stated_bridge}
use Rattle.retro_base.specs.Carried.{IsPqEdit}
use Rattle.retro_base.specs.ChangeLaws.{OneBridgeIsStated, OneChangeOfPq}
use Rattle.retro_base.specs.Changes.{IsPqChange, change_of}
use Rattle.retro_base.specs.Edits.{Edit, IsAccepted, edited}
use Rattle.retro_base.specs.Kind.{kind_of}
use Rattle.retro_base.specs.OrderLaws.{all_with, all_without, own_numbers_with, own_numbers_without}
use Rattle.retro_base.specs.lemmas.bridges.EntryOrder.{same_entry-refl}
use Rattle.evidence.specs.declared.evidence.Evidence.{Evidence}
use Rattle.evidence.specs.Evidence.{IsEvidence, IsPqOp}
use Rattle.evidence_check.specs.Laws.{AreReported, IsTrueOf}
use Rattle.evidence_check.specs.Truth.{bridge_of, cause_of, edit_with, has_wrong_number, rows_after, same_bridge, same_change, reported_edit}
use Rattle.evidence_check.proofs.Accepted.{accepted_from}
use Rattle.evidence_check.proofs.Possible.{is_fresh, of_pq, possible_in}

pub bridge_itself : (bridge : Option ℕ) → same_bridge bridge bridge ≡ true
bridge_itself None = refl
bridge_itself (Some bridge) = (Decides-eqb bridge bridge).1 refl

pub change_itself : (change : Change) → same_change change change ≡ true
change_itself Plain = refl
change_itself (Gain bridge entry) = rw ((Decides-eqb bridge bridge).1 refl, same_entry-refl entry) refl
change_itself (Lose bridge entry) = rw (bridge_itself bridge, same_entry-refl entry) refl

-- a change states the bridge of its edit
pub states : (rows : List Row) (edit : Edit) (change : Change) → IsPqChange rows edit change → IsStatedBridge rows edit (bridge_of change)
states rows edit Plain is = absurd is
states rows edit (Gain bridge entry) is = is.0
states rows edit (Lose bridge entry) is = is.0

module _ (bridge : OneBridgeIsStated) (one : OneChangeOfPq) (rows : List Row) (e : Evidence) (reported : AreReported rows) (is : IsEvidence e) where
  is_true : cause_of rows e ≡ None → IsTrueOf rows e
  is_true none =
      let accepted = accepted_from rows e none in
      let edit : IsPqEdit rows (reported_edit e) = possible_in rows reported.history reported.timeless e.added e.place e.number e.op is.op accepted.inside accepted.number accepted.op in
      record {
        room = accepted.room;
        inside = accepted.inside;
        own_number = accepted.number;
        own_op = accepted.op;
        accepted = accepted.replays;
        change = rw accepted.change ((one rows (reported_edit e) edit accepted.replays).meets);
      }

  accepts : IsTrueOf rows e → cause_of rows e ≡ None
  unfolding cause_of
  accepts true_of =
      let edit : IsPqEdit rows (reported_edit e) = possible_in rows reported.history reported.timeless e.added e.place e.number e.op is.op true_of.inside true_of.own_number true_of.own_op in
      let change : e.change ≡ change_of Pq rows (reported_edit e) = (one rows (reported_edit e) edit true_of.accepted).alone e.change true_of.change in
      let stated : bridge_of e.change ≡ stated_bridge rows (reported_edit e) = (bridge rows (reported_edit e) edit).alone (bridge_of e.change) (states rows (reported_edit e) e.change true_of.change) in
      rw (true_of.room, true_of.inside, true_of.own_number, true_of.own_op, true_of.accepted, ← change, ← stated, bridge_itself (bridge_of e.change), change_itself e.change) refl

  pub true_is_accepted : (cause_of rows e ≡ None) ↔ IsTrueOf rows e
  true_is_accepted = (is_true, accepts)

reported_with : (rows : List Row) → AreReported rows → (added : Bool) (place number : ℕ) (op : Op) → IsPqOp op → has_wrong_number added number place rows ≡ false
    → IsAccepted Pq rows (edit_with added place (record { number = number; time = 0; op = op })) → AreReported (edited rows (edit_with added place (record { number = number; time = 0; op = op })))
reported_with rows reported true place number op is own valid =
    let row : Row = record { number = number; time = 0; op = op } in
    record {
      history = record {
        of_kind = all_with (λ r. kind_of r.op ≡ Pq) rows place row reported.history.of_kind (of_pq op is);
        own_numbers = own_numbers_with rows place row reported.history.own_numbers (is_fresh number rows own);
        valid = valid;
      };
      timeless = all_with (λ r. r.time ≡ 0) rows place row reported.timeless refl;
    }
reported_with rows reported false place number op is own valid = record {
  history = record {
    of_kind = all_without (λ r. kind_of r.op ≡ Pq) rows place reported.history.of_kind;
    own_numbers = own_numbers_without rows place reported.history.own_numbers;
    valid = valid;
  };
  timeless = all_without (λ r. r.time ≡ 0) rows place reported.timeless;
}

-- the rows after true evidence
pub reported_stays : (rows : List Row) (e : Evidence) → AreReported rows → IsEvidence e → cause_of rows e ≡ None → AreReported (rows_after rows e)
reported_stays rows e reported is none =
    let accepted = accepted_from rows e none in
    reported_with rows reported e.added e.place e.number e.op is.op accepted.number accepted.replays
