use Rattle.std.proofs.Common.{ap, sym, arith}
use Rattle.bridge_pq.specs.Gathered.{Left}
use Rattle.bridge_pq.proofs.CursorEntries.{gone_over}
use Rattle.bridge_pq.proofs.cursor.Cursor.pass.Goals as goal

pub returns-clause-passed : goal.returns-clause-passed
returns-clause-passed c =
    gone_over c.self.inside.entries.now c.self.inside.passed c.args.count c.min-self-inside.result _ (ap (λ (v : Left). v.entries) (sym c.self.view_is))
    (λ few. omega (arith, few, c.min-self-inside.ensures, c.saturating_add.ensures, c.len.ensures, c.self.invariant.few)) (λ all. omega (arith, all, c.min-self-inside.ensures, c.saturating_add.ensures, c.len.ensures))
