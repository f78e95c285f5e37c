use Rattle.std.proofs.Common.{Some}
use Rattle.order_timeline.proofs.Pages.{page_changed}
use Rattle.order_timeline.proofs.numbers.Numbers.set.Goals as goal

pub returns : goal.returns
returns c =
    page_changed c.self.inside.pages.items c.args.self.now c.args.number (Some c.args.name) c.index_mut.result.now c.set.new.self c.self.view_is c.requires.page c.index_mut.ensures.value c.set.ensures
