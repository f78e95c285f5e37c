-- What holds of evidence against which no cause is found.
use Rattle.std.proofs.Common.{◌≡◌, ℕ, Bool, true, false, not, cond, List, refl, ap, Option, Some, None}
use Rattle.std.specs.Prelude.{◌==◌, is_some}
use Rattle.std.proofs.lemmas.Bool.Decides.{Decides-eqb}
use Rattle.retro_base.specs.declared.kind.Kind.TheVariants.{Pq}
use Rattle.retro_base.specs.declared.row.Change.{Change}
use Rattle.retro_base.specs.declared.row.Change.TheVariants.{Plain, Gain, Lose}
use Rattle.retro_base.specs.declared.row.Row.{Row}
use Rattle.retro_base.specs.Edits.{edited, IsAccepted}
use Rattle.retro_base.specs.Bridges.{same_entry, stated_bridge}
use Rattle.retro_base.specs.Changes.{change_of}
use Rattle.retro_base.specs.Replay.{failure}
use Rattle.retro_base.specs.lemmas.bridges.EntryOrder.{same_entry-same}
use Rattle.evidence.specs.declared.evidence.Evidence.{Evidence}
use Rattle.evidence_check.specs.Truth.{bridge_of, cause_of, has_wrong_number, has_wrong_op, is_full, is_outside, same_bridge, same_change, reported_edit}
use Rattle.retro_base.specs.Facts.{both_true, not_false}

passes : {X : Type 0} (test : Bool) (x : X) (o : Option X) → cond test (Some x) o ≡ None → (test ≡ false) × (o ≡ None)
passes true x o none = absurd (cc)
passes false x o none = (refl, none)

not_none : {X : Type 0} (o : Option X) → is_some o ≡ false → o ≡ None
not_none None h = refl
not_none (Some x) h = absurd (cc)

same_bridge_is : (bridge other : Option ℕ) → same_bridge bridge other ≡ true → bridge ≡ other
same_bridge_is None None same = refl
same_bridge_is None (Some other) same = absurd (cc)
same_bridge_is (Some bridge) None same = absurd (cc)
same_bridge_is (Some bridge) (Some other) same = ap Some ((Decides-eqb bridge other).0 same)

same_change_is : (change other : Change) → same_change change other ≡ true → change ≡ other
same_change_is Plain Plain same = refl
same_change_is Plain (Gain b e) same = absurd (cc)
same_change_is Plain (Lose b e) same = absurd (cc)
same_change_is (Gain b e) Plain same = absurd (cc)
same_change_is (Gain b e) (Lose c f) same = absurd (cc)
same_change_is (Lose b e) Plain same = absurd (cc)
same_change_is (Lose b e) (Gain c f) same = absurd (cc)
same_change_is (Gain b e) (Gain c f) same =
    let parts = both_true (b == c) (same_entry e f) same in
    rw ((Decides-eqb b c).0 parts.0, same_entry-same e f parts.1) refl
same_change_is (Lose b e) (Lose c f) same =
    let parts = both_true (same_bridge b c) (same_entry e f) same in
    rw (same_bridge_is b c parts.0, same_entry-same e f parts.1) refl

-- the tests that failed, and the change
pub record Accepted (rows : List Row) (e : Evidence) : Type 0 where
  pub room : is_full e.added rows ≡ false
  pub inside : is_outside e.added e.place rows ≡ false
  pub number : has_wrong_number e.added e.number e.place rows ≡ false
  pub op : has_wrong_op e.added e.op e.place rows ≡ false
  pub replays : IsAccepted Pq rows (reported_edit e)
  pub change : e.change ≡ change_of Pq rows (reported_edit e)

pub accepted_from : (rows : List Row) (e : Evidence) → cause_of rows e ≡ None → Accepted rows e
unfolding cause_of
accepted_from rows e none =
    let full = passes (is_full e.added rows) _ _ none in
    let outside = passes (is_outside e.added e.place rows) _ _ full.1 in
    let number = passes (has_wrong_number e.added e.number e.place rows) _ _ outside.1 in
    let op = passes (has_wrong_op e.added e.op e.place rows) _ _ number.1 in
    let replay = passes (is_some (failure Pq (edited rows (reported_edit e)))) _ _ op.1 in
    let bridge = passes (not (same_bridge (bridge_of e.change) (stated_bridge rows (reported_edit e)))) _ _ replay.1 in
    let entry = passes (not (same_change e.change (change_of Pq rows (reported_edit e)))) _ _ bridge.1 in
    record {
      room = full.0;
      inside = outside.0;
      number = number.0;
      op = op.0;
      replays = not_none _ replay.0;
      change = same_change_is e.change (change_of Pq rows (reported_edit e)) (not_false _ entry.0);
    }
