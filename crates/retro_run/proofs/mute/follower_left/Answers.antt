use Rattle.std.proofs.Common.{rules, sym, ◌∙◌}
use Rattle.retro_run.proofs.Handed.{past_all, there}
use Rattle.retro_run.proofs.mute.follower_left.Goals as goal

pub returns-then-number-followers : goal.returns-then-number-followers
returns-then-number-followers g c =
    c.as_left.ensures ∙ sym (there _ c.args.followers.now c.args.number
    c.index-followers-number.result (search rules) c.index-followers-number.is)

pub returns-else-number-followers : goal.returns-else-number-followers
returns-else-number-followers g c = sym (past_all _ c.args.followers.now c.args.number (search rules))
