-- The size of what a session holds is a number of 32 bits.
use Rattle.std.proofs.Common.{◌≤◌, rules, arith}
use Rattle.std.proofs.lemmas.Int.{to_z-of_z}
use Rattle.retro_base.specs.Limits.{most_rows}
use Rattle.retro_base.specs.Replay.{present}
use Rattle.reactions.specs.Bench.{size_of}
use Rattle.timelines.proofs.Sizes.{counted, is_number, size-le}
use Rattle.timelines.proofs.timelines.size_of.Goals as goal

pub overflow_cast-result : goal.overflow_cast-result
overflow_cast-result g c =
    let value = counted c.args.session.now.kind c.args.session.now.rows c.ask_now.result c.in-Number.value c.ask_now.ensures c.in-Number.is in
    let few = size-le c.args.session.now.kind c.args.session.now.rows in
    let small : size_of (present c.args.session.now.kind c.args.session.now.rows) ≤ most_rows =
    omega (arith, few, c.timeline.ensures.timeline.replayable.few) in
    rw value (search (rules, to_z-of_z, small))

pub returns-in-Number : goal.returns-in-Number
returns-in-Number g c =
    let value = counted c.args.session.now.kind c.args.session.now.rows c.ask_now.result c.in-Number.value c.ask_now.ensures c.in-Number.is in
    let few = size-le c.args.session.now.kind c.args.session.now.rows in
    rw value (search (rules, to_z-of_z, few))

pub returns-in_default : goal.returns-in_default
returns-in_default g c =
    absurd (c.in_default.not-Number _ (is_number c.args.session.now.kind c.args.session.now.rows c.ask_now.result c.ask_now.ensures))
