use Rattle.std.proofs.Common.{◌≡◌, ◌≤◌, length, sym, ap, ◌∙◌, subst, None}
use Rattle.std.specs.List.{insert}
use Rattle.retro_base.specs.declared.kind.Kind.TheVariants.{Pq}
use Rattle.retro_base.specs.Kind.{kind_of}
use Rattle.retro_base.specs.Replay.{failure}
use Rattle.bridge_pq.specs.MarkedRows.{rows_of}
use Rattle.bridge_pq.proofs.Costs.{no_visit}
use Rattle.bridge_pq.proofs.Edited.{history-of}
use Rattle.bridge_pq.proofs.Failures.{add-goes, not-take-adds}
use Rattle.bridge_pq.proofs.bridge_queue.BridgeQueuePartial.failure_after_insert.Goals as goal

pub returns-in_default : goal.returns-in_default
returns-in_default g c = record {
  first = λ row same.
      sym (subst (λ l. failure Pq (insert l c.args.place row) ≡ None) c.self.view_is
      (add-goes (rows_of c.self.inside.rows) c.args.place row (history-of c.self.inside.rows c.self.inside.entries c.self.invariant) (subst (λ l. c.args.place ≤ length l) (sym c.self.view_is) c.requires.within)
      (ap kind_of same ∙ c.requires.of_kind)
      (not-take-adds row.op _ (ap kind_of same ∙ c.requires.of_kind) (λ take. c.in_default.not-DelMin (sym same ∙ take)))));
  index = tt;
  visits = no_visit 144 (length c.args.self.now) c.args.steps.now;
}
