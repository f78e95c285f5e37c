use Rattle.std.proofs.Common.{◌<◌, ◌≤◌, ◌/◌, [], length, ap, ◌∙◌, arith}
use Rattle.order_timeline.specs.Numbers.{span, name_in}
use Rattle.order_timeline.proofs.Pages.{page_at, name_of_page, no_page}
use Rattle.order_timeline.proofs.numbers.Numbers.get.Goals as goal

pub returns-then-index-len : goal.returns-then-index-len
returns-then-index-len c =
    let pages = c.self.inside.pages.items in
    let within : c.args.number / span < length pages = omega arith in
    c.get.ensures ∙ name_of_page pages c.args.number c.index.result.now (c.index.ensures ∙ page_at pages (c.args.number / span) c.index.result.now [] within)
    ∙ ap (λ seen. name_in seen c.args.number) c.self.view_is

pub returns-else-index-len : goal.returns-else-index-len
returns-else-index-len c =
    let end : length c.self.inside.pages.items ≤ c.args.number / span = omega arith in
    no_page c.self.inside.pages.items c.args.number end ∙ ap (λ seen. name_in seen c.args.number) c.self.view_is
