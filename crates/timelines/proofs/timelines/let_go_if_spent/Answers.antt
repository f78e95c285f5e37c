use Rattle.std.proofs.Common.{sym, ◌∙◌}
use Rattle.timelines.proofs.KeptTimelines.{unspent_but_one}
use Rattle.timelines.proofs.timelines.let_go_if_spent.Goals as goal

pub returns-else-spent-clause-unspent : goal.returns-else-spent-clause-unspent
returns-else-spent-clause-unspent g c =
    unspent_but_one c.args.timelines.now.items c.args.index c.index.result.now c.requires.there c.index.ensures (sym c.spent.ensures ∙ c.if-spent.false) c.requires.others
