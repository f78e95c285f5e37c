use Rattle.std.proofs.Common.{refl}
use Rattle.pq_fusion.proofs.Intervals.{among_middle, start_inside, within_middle}
use Rattle.pq_fusion.proofs.interval.Interval.middle.Goals as goal

pub bounds-list-chunk : goal.bounds-list-chunk
bounds-list-chunk c = start_inside c.args.list.now.chunks.now c.args.list.now.starts.now c.args.self c.requires.lent c.requires.interval c.requires.open _ c.if-count-gt1.true refl

pub returns-then-count-gt1 : goal.returns-then-count-gt1
returns-then-count-gt1 c =
    among_middle c.args.list.now.chunks.now c.args.list.now.starts.now c.args.self c.requires.lent c.requires.interval c.requires.open _ _ c.index-list-chunk.result c.index.result.now c.if-count-gt1.true
    refl refl c.index-list-chunk.is c.index.ensures

pub returns : goal.returns
returns c =
    within_middle c.args.list.now.chunks.now c.args.list.now.starts.now c.args.self c.requires.lent c.requires.interval c.requires.open _ c.index-list-self.result c.index-2.result.now c.if-count-gt1.false
    refl c.index-list-self.is c.index-2.ensures
