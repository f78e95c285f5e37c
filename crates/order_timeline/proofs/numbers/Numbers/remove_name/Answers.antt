use Rattle.std.proofs.Common.{None}
use Rattle.order_timeline.proofs.Pages.{page_changed}
use Rattle.order_timeline.proofs.numbers.Numbers.remove_name.Goals as goal

pub returns : goal.returns
returns c =
    page_changed c.self.inside.pages.items c.args.self.now c.args.number None c.index_mut.result.now c.forget.new.self c.self.view_is c.requires.page c.index_mut.ensures.value c.forget.ensures
