use Rattle.std.proofs.Common.{sym, ap, ◌∙◌, length, subst}
use Rattle.std.specs.List.{remove}
use Rattle.std.specs.Prelude.{slice_get}
use Rattle.costs.specs.Visits.{VisitsWithin}
use Rattle.costs.specs.VisitsLaws.{visits-add}
use Rattle.retro_base.specs.Changes.{IsPqChange}
use Rattle.retro_base.specs.Edits.{cut}
use Rattle.bridge_pq.specs.declared.marked_row.MarkedRow.{MarkedRow}
use Rattle.bridge_pq.proofs.Edited.{rows-length}
use Rattle.bridge_pq.proofs.Places.{get-map}
use Rattle.bridge_pq.proofs.Present.{mark-lives, mark-dead}
use Rattle.bridge_pq.proofs.bridge_queue.BridgeQueuePartial.remove.Goals.{in-Some, in-Some-2, in-None}
use Rattle.bridge_pq.proofs.bridge_queue.BridgeQueuePartial.remove.Goals as goal

pub remove_survivor-change-requires-clause-lives : goal.remove_survivor-change-requires-clause-lives
remove_survivor-change-requires-clause-lives g c = mark-lives c.self.inside.rows c.self.inside.entries c.self.invariant c.args.place c.get-item.result
    c.in-Some.own c.get-item.ensures.item (rw c.row-row.ensures at (sym c.added_entry.ensures ∙ c.in-Some.is)) c.if-item.true

pub remove_dead-change-requires-clause-there : goal.remove_dead-change-requires-clause-there
remove_dead-change-requires-clause-there g c =
    rw c.row-row.ensures (get-map (λ (item : MarkedRow). item.row) c.self.inside.rows c.args.place c.get-item.result c.get-item.ensures.item)

pub remove_dead-change-requires-clause-dead : goal.remove_dead-change-requires-clause-dead
remove_dead-change-requires-clause-dead g c = mark-dead c.self.inside.rows c.self.inside.entries c.self.invariant c.args.place c.get-item.result c.in-Some.own
    c.get-item.ensures.item (rw c.row-row.ensures at (sym c.added_entry.ensures ∙ c.in-Some.is)) c.if-item.false

pub remove_taking-change-requires-clause-there : goal.remove_taking-change-requires-clause-there
remove_taking-change-requires-clause-there g c =
    rw c.row-row.ensures (get-map (λ (item : MarkedRow). item.row) c.self.inside.rows c.args.place c.get-item.result c.get-item.ensures.item)

pub invariant_of-self : goal.invariant_of-self
invariant_of-self g c = elim c.match-added_entry.branch [
  | in-Some w ↦ rw w.self-inside-is w.remove_survivor-change.ensures.bridged
  | in-Some-2 w ↦ rw w.self-inside-is w.remove_dead-change.ensures.bridged
  | in-None w ↦ rw w.self-inside-is w.remove_taking-change.ensures.bridged
]

pub returns-clause-row : goal.returns-clause-row
returns-clause-row g c =
    rw c.row-row.ensures
    (ap (λ l. slice_get l c.args.place) (sym c.self.view_is) ∙ get-map (λ (item : MarkedRow). item.row) c.self.inside.rows c.args.place c.get-item.result c.get-item.ensures.item)

pub returns-clause-rows : goal.returns-clause-rows
returns-clause-rows g c = elim c.match-added_entry.branch [
  | in-Some w ↦ rw w.self-inside-is (w.remove_survivor-change.ensures.rows ∙ ap (λ rows. remove rows c.args.place) c.self.view_is)
  | in-Some-2 w ↦ rw w.self-inside-is (w.remove_dead-change.ensures.rows ∙ ap (λ rows. remove rows c.args.place) c.self.view_is)
  | in-None w ↦ rw w.self-inside-is (w.remove_taking-change.ensures.rows ∙ ap (λ rows. remove rows c.args.place) c.self.view_is)
]

pub returns-clause-replayable : goal.returns-clause-replayable
returns-clause-replayable g c = elim c.match-added_entry.branch [
  | in-Some w ↦ rw w.self-inside-is w.remove_survivor-change.ensures.bridged.replayable
  | in-Some-2 w ↦ rw w.self-inside-is w.remove_dead-change.ensures.bridged.replayable
  | in-None w ↦ rw w.self-inside-is w.remove_taking-change.ensures.bridged.replayable
]

pub returns-clause-change : goal.returns-clause-change
returns-clause-change g c = elim c.match-added_entry.branch [
  | in-Some w ↦ rw w.change-is (subst (λ rows. IsPqChange rows (cut c.args.place c.row-row.result) w.remove_survivor-change.result) c.self.view_is w.remove_survivor-change.ensures.change)
  | in-Some-2 w ↦ rw w.change-is (subst (λ rows. IsPqChange rows (cut c.args.place c.row-row.result) w.remove_dead-change.result) c.self.view_is w.remove_dead-change.ensures.change)
  | in-None w ↦ rw w.change-is (subst (λ rows. IsPqChange rows (cut c.args.place c.row-row.result) w.remove_taking-change.result) c.self.view_is w.remove_taking-change.ensures.change)
]

pub returns-clause-visits : goal.returns-clause-visits
returns-clause-visits g c =
    let size = sym (rows-length c.self.inside.rows) ∙ ap length c.self.view_is in
    elim c.match-added_entry.branch [
      | in-Some w ↦ rw w.steps-is (subst (λ n. VisitsWithin 144 n c.args.steps.now w.remove_survivor-change.new.steps) size (visits-add 12 132 (length c.self.inside.rows) _ _ _ c.get-item.ensures.visits w.remove_survivor-change.ensures.visits))
      | in-Some-2 w ↦ rw w.steps-is (subst (λ n. VisitsWithin 144 n c.args.steps.now w.remove_dead-change.new.steps) size (visits-add 12 132 (length c.self.inside.rows) _ _ _ c.get-item.ensures.visits w.remove_dead-change.ensures.visits))
      | in-None w ↦ rw w.steps-is (subst (λ n. VisitsWithin 144 n c.args.steps.now w.remove_taking-change.new.steps) size (visits-add 12 132 (length c.self.inside.rows) _ _ _ c.get-item.ensures.visits w.remove_taking-change.ensures.visits))
    ]
