use Rattle.std.proofs.Common.{◌≡◌, ◌<◌, true, [], None, set, length, ap, sym, subst, arith, rules}
use Rattle.std.specs.List.{list_all}
use Rattle.std.specs.Option.{is_none}
use Rattle.order_timeline.specs.Numbers.{PageChanges}
use Rattle.order_timeline.proofs.Pages.{page_gone}
use Rattle.order_timeline.proofs.page.Page.forget.Goals as goal

pub returns-then-are_none : goal.returns-then-are_none
returns-then-are_none c =
    let names = c.self.inside.names.items in
    let within : c.args.place < length names = omega (arith, ap length c.self.view_is, c.requires) in
    let blank : list_all is_none (set names c.args.place None) ≡ true = search rules in
    subst (λ after. PageChanges c.args.self.now after c.args.place None) (sym c.new.ensures.items)
    (subst (λ before. PageChanges before [] c.args.place None) c.self.view_is (page_gone names c.args.place within blank))
