use Rattle.std.proofs.Common.{◌+◌, refl, ap, ◌∙◌, arith}
use Rattle.std.specs.Prelude.{insert}
use Rattle.std.specs.List.{flat_map}
use Rattle.retro_base.specs.Limits.{most_rows}
use Rattle.evidence_check.proofs.Held.{goes_in, goes_with_rest, held_less, held_to, held_within, on_err, stays}
use Rattle.evidence_check.proofs.splice.insert_among.Goals as goal

pub insert-requires-clause-few : goal.insert-requires-clause-few
insert-requires-clause-few g c = held_less g.P.Part.rows c.reserve.new.self.items 0 c.args.place c.holding_before-held.result (rw c.deref.ensures.value at c.holding_before-held.ensures) c.index_mut-part.result.now c.index_mut-part.ensures.value most_rows (rw (← c.reserve.ensures.items) at c.requires.few)

pub insert-requires-clause-within : goal.insert-requires-clause-within
insert-requires-clause-within g c =
    let to = held_to g.P.Part.rows c.reserve.new.self.items 0 c.args.place c.holding_before-held.result (rw c.deref.ensures.value at c.holding_before-held.ensures) c.index_mut-part.result.now c.index_mut-part.ensures.value in
    omega (arith, to)

pub returns-in_err-insert-clause-err : goal.returns-in_err-insert-clause-err
returns-in_err-insert-clause-err g c =
    on_err c.from_residual-in_err-insert.result _ (stays g.P.Part.rows c.reserve.new.self.items 0 c.args.place c.holding_before-held.result (rw c.deref.ensures.value at c.holding_before-held.ensures) c.index_mut-part.result.now c.index_mut-part.ensures.value c.insert.new.self c.in_err-insert.ensures.err ∙ ap (flat_map g.P.Part.rows) c.reserve.ensures.items)

pub overflow_add-held : goal.overflow_add-held
overflow_add-held g c =
    let within = held_within g.P.Part.rows c.reserve.new.self.items 0 c.args.place c.holding_before-held.result (rw c.deref.ensures.value at c.holding_before-held.ensures) c.index_mut-part.result.now c.index_mut-part.ensures.value in
    omega (arith, within, c.reserve.new.self.ok, c.reserve.new.self.small)

pub insert-requires-in-Some : goal.insert-requires-in-Some
insert-requires-in-Some g c =
    let within = held_within g.P.Part.rows c.reserve.new.self.items 0 c.args.place c.holding_before-held.result (rw c.deref.ensures.value at c.holding_before-held.ensures) c.index_mut-part.result.now c.index_mut-part.ensures.value in
    omega (arith, within, c.reserve.new.self.ok)

pub returns-in-None-clause-ok : goal.returns-in-None-clause-ok
returns-in-None-clause-ok g c =
    goes_in g.P.Part.rows c.reserve.new.self.items 0 c.args.place c.holding_before-held.result (rw c.deref.ensures.value at c.holding_before-held.ensures) c.index_mut-part.result.now c.index_mut-part.ensures.value c.insert.new.self c.args.row (rw c.in-None.is at c.in_ok-insert.ensures.ok) ∙ ap (λ l. insert (flat_map g.P.Part.rows l) c.args.place c.args.row) c.reserve.ensures.items

pub returns-in_ok-insert-in-Some-clause-ok : goal.returns-in_ok-insert-in-Some-clause-ok
returns-in_ok-insert-in-Some-clause-ok g c =
    ap (flat_map g.P.Part.rows) c.in_ok-insert-in-Some.ensures.items
    ∙ goes_with_rest g.P.Part.rows c.reserve.new.self.items 0 c.args.place c.holding_before-held.result (rw c.deref.ensures.value at c.holding_before-held.ensures) c.index_mut-part.result.now c.index_mut-part.ensures.value c.insert.new.self c.in-Some.rest c.args.row (c.holding_before-held.result.index + 1) refl (rw c.in-Some.is at c.in_ok-insert.ensures.ok)
    ∙ ap (λ l. insert (flat_map g.P.Part.rows l) c.args.place c.args.row) c.reserve.ensures.items
