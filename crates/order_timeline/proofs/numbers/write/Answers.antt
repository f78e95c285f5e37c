use Rattle.order_timeline.proofs.Pages.{has_place}
use Rattle.order_timeline.proofs.numbers.write.Goals as goal

pub set-requires : goal.set-requires
set-requires c = has_place c.args.numbers.now c.args.number c.requires
