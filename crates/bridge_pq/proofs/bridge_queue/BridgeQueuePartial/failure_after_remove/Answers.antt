use Rattle.std.proofs.Common.{◌≡◌, sym, ◌∙◌, subst, None}
use Rattle.std.specs.List.{remove}
use Rattle.retro_base.specs.declared.kind.Kind.TheVariants.{Pq}
use Rattle.retro_base.specs.Replay.{failure}
use Rattle.bridge_pq.specs.MarkedRows.{rows_of}
use Rattle.bridge_pq.specs.declared.marked_row.MarkedRow.{MarkedRow}
use Rattle.bridge_pq.proofs.Edited.{history-of}
use Rattle.bridge_pq.proofs.Failures.{cut-survivor-goes, cut-take-goes}
use Rattle.bridge_pq.proofs.Places.{get-map}
use Rattle.bridge_pq.proofs.Present.{mark-lives, mark-dead, unmarked}
use Rattle.bridge_pq.proofs.bridge_queue.BridgeQueuePartial.failure_after_remove.Goals as goal
use Rattle.retro_base.specs.Facts.{not_false}

pub failure_without_dead-requires-clause-dead : goal.failure_without_dead-requires-clause-dead
failure_without_dead-requires-clause-dead g c =
    (mark-dead c.self.inside.rows c.self.inside.entries c.self.invariant c.args.place c.get-item.result c.in-Some.own c.get-item.ensures.item (sym c.added_entry.ensures ∙ c.in-Some.is) (unmarked _ c.if-not-item.true))

pub returns-in_default-clause-first : goal.returns-in_default-clause-first
returns-in_default-clause-first g c =
    sym (subst (λ l. failure Pq (remove l c.args.place) ≡ None) c.self.view_is
    (cut-survivor-goes (rows_of c.self.inside.rows) c.args.place c.get-item.result.row c.in-Some.own (history-of c.self.inside.rows c.self.inside.entries c.self.invariant)
    (get-map (λ (item : MarkedRow). item.row) c.self.inside.rows c.args.place c.get-item.result c.get-item.ensures.item) (sym c.added_entry.ensures ∙ c.in-Some.is)
    (mark-lives c.self.inside.rows c.self.inside.entries c.self.invariant c.args.place c.get-item.result c.in-Some.own c.get-item.ensures.item
    (sym c.added_entry.ensures ∙ c.in-Some.is) (not_false _ c.if-not-item.false))))

pub returns-in_default-2-clause-first : goal.returns-in_default-2-clause-first
returns-in_default-2-clause-first g c =
    sym (subst (λ l. failure Pq (remove l c.args.place) ≡ None) c.self.view_is
    (cut-take-goes (rows_of c.self.inside.rows) c.args.place c.get-item.result.row (history-of c.self.inside.rows c.self.inside.entries c.self.invariant)
    (get-map (λ (item : MarkedRow). item.row) c.self.inside.rows c.args.place c.get-item.result c.get-item.ensures.item) (sym c.added_entry.ensures ∙ c.in_default.is)))
