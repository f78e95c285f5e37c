use Rattle.std.proofs.Common.{◌∙◌, ap, subst}
use Rattle.pq_fusion.specs.Differences.{besides}
use Rattle.pq_fusion.specs.Edits.{Passes}
use Rattle.pq_fusion.proofs.Compared.{besides_is}
use Rattle.pq_fusion.proofs.difference.difference.Goals as goal

pub returns-then-gains : goal.returns-then-gains
returns-then-gains c = λ own x passes.
    let apart = subst (λ g. Passes g own x c.args.before.now c.args.after.now) c.if-gains.true passes in
    c.besides.ensures ∙ ap (λ l. besides l c.left-then-gains.result.now) c.left.ensures.list ∙ ap (besides c.args.before.now.left) c.left-then-gains.ensures.list
    ∙ besides_is x c.args.before.now.left c.args.after.now.left apart.some apart.left

pub returns-else-gains : goal.returns-else-gains
returns-else-gains c = λ own x passes.
    let apart = subst (λ g. Passes g own x c.args.before.now c.args.after.now) c.if-gains.false passes in
    c.besides-else-gains.ensures ∙ ap (λ l. besides l c.left-else-gains-2.result.now) c.left-else-gains.ensures.list
    ∙ ap (besides c.args.after.now.left) c.left-else-gains-2.ensures.list
    ∙ besides_is x c.args.after.now.left c.args.before.now.left apart.some apart.left
