use Rattle.std.proofs.Common.{Some}
use Rattle.order_timeline.proofs.Pages.{page_changed}
use Rattle.order_timeline.proofs.numbers.Numbers.put.Goals as goal

pub returns-clause-ok : goal.returns-clause-ok
returns-clause-ok c =
    page_changed c.self.inside.pages.items c.args.self.now c.args.number (Some c.args.name) c.index_mut.result.now c.add.new.self c.self.view_is c.requires c.index_mut.ensures.value c.in_ok-add.ensures.ok
