use Rattle.followers.proofs.Mirrored.{mirrored}
use Rattle.followers.proofs.laws.mirrors_hold_the_present.Goals as goal

pub returns : goal.returns
returns c = mirrored
