use Rattle.std.proofs.Common.{◌≤◌, ◌-◌, drop, length, rules}
use Rattle.retro_base.specs.Weights.{added_by}
use Rattle.bridge_pq.proofs.Moved.{moves_read, visits_of_moves}
use Rattle.bridge_pq.proofs.later.moves_between.Goals as goal

pub returns-clause-moves : goal.returns-clause-moves
returns-clause-moves g c =
    moves_read c.args.rows.now c.args.from c.args.to c.in_ok-moves.moves.len c.read.result c.as_mut_slice.result.now c.read.new.items (drop (length c.read.new.items) c.in_ok-moves.moves.items) c.requires.order c.requires.within
    (search rules) (search rules) c.read.ensures.count (c.read.ensures.items (λ item. added_by item.row) (λ item answer call. search rules))

pub returns-clause-visits : goal.returns-clause-visits
returns-clause-visits g c =
    let few : c.read.result ≤ c.args.to - c.args.from = search rules in
    visits_of_moves c.read.result (c.args.to - c.args.from) _ _ _ few c.read.ensures.visits
