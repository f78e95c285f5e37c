use Rattle.std.proofs.Common.{arith}
use Rattle.retro_base.specs.Limits.{most_rows}
use Rattle.evidence_check.proofs.Held.{held_mark, held_small, held_to}
use Rattle.evidence_check.proofs.splice.mark_among.Goals as goal

pub mark-requires-clause-few : goal.mark-requires-clause-few
mark-requires-clause-few g c = held_small g.P.Part.rows c.args.parts.now.items 1 c.args.place c.holding-held.result (rw c.deref.ensures.value at c.holding-held.ensures) c.index_mut-part.result.now c.index_mut-part.ensures.value most_rows c.requires.few

pub mark-requires-clause-within : goal.mark-requires-clause-within
mark-requires-clause-within g c =
    let to = held_to g.P.Part.rows c.args.parts.now.items 1 c.args.place c.holding-held.result (rw c.deref.ensures.value at c.holding-held.ensures) c.index_mut-part.result.now c.index_mut-part.ensures.value in
    let from = c.holding-held.ensures.from in
    omega (arith, to, from)

pub returns : goal.returns
returns g c = held_mark g.P.Part.rows c.args.parts.now.items 1 c.args.place c.holding-held.result (rw c.deref.ensures.value at c.holding-held.ensures) c.index_mut-part.result.now c.index_mut-part.ensures.value (omega arith) c.mark.new.self c.args.alive c.mark.ensures
