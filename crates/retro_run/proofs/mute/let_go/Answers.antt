use Rattle.std.proofs.Common.{rules, refl, None}
use Rattle.retro_run.proofs.Handed.{let_go, none_to_let_go}
use Rattle.retro_run.proofs.mute.let_go.Goals as goal

pub returns-then-number-followers : goal.returns-then-number-followers
returns-then-number-followers g c = let_go _ c.args.followers.now c.args.number None refl

pub returns-else-number-followers : goal.returns-else-number-followers
returns-else-number-followers g c = none_to_let_go _ c.args.followers.now c.args.number (search rules)
