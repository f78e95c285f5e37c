use Rattle.std.proofs.Common.{IsSome, subst, sym, ◌∙◌}
use Rattle.order_timeline.proofs.Pages.{has_place}
use Rattle.order_timeline.proofs.numbers.forget.Goals as goal

pub remove_name-requires : goal.remove_name-requires
remove_name-requires c = has_place c.args.numbers.now c.args.number (subst IsSome c.get.ensures (sym c.is_some.ensures ∙ c.if-is_some.true))
