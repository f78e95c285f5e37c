use Rattle.std.proofs.Common.{◌≡◌, ◌<◌, length, ap, sym, ◌∙◌, set, arith}
use Rattle.std.specs.Prelude.{remove}
use Rattle.std.proofs.lemmas.List.{set-get_or}
use Rattle.std.specs.List.{flat_map}
use Rattle.retro_base.specs.Limits.{most_rows}
use Rattle.evidence_check.proofs.Held.{held_gone, held_remove, held_small, held_to}
use Rattle.evidence_check.proofs.splice.remove_among.Goals as goal

pub remove-requires-else-sums-eq1-clause-few : goal.remove-requires-else-sums-eq1-clause-few
remove-requires-else-sums-eq1-clause-few g c = held_small g.P.Part.rows c.args.parts.now.items 1 c.args.place c.holding-held.result (rw c.deref.ensures.value at c.holding-held.ensures) c.index_mut-part.result.now c.index_mut-part.ensures.value most_rows c.requires.few

pub remove-requires-else-sums-eq1-clause-within : goal.remove-requires-else-sums-eq1-clause-within
remove-requires-else-sums-eq1-clause-within g c =
    let to = held_to g.P.Part.rows c.args.parts.now.items 1 c.args.place c.holding-held.result (rw c.deref.ensures.value at c.holding-held.ensures) c.index_mut-part.result.now c.index_mut-part.ensures.value in
    let from = c.holding-held.ensures.from in
    omega (arith, to, from)

pub returns-then-sums-eq1 : goal.returns-then-sums-eq1
returns-then-sums-eq1 g c =
    let items = c.args.parts.now.items in
    let index = c.holding-held.result.index in
    let part = c.index_mut-part.result.now in
    let same : set items index part ≡ items = ap (set items index) c.index_mut-part.ensures.value ∙ set-get_or items index part in
    ap (flat_map g.P.Part.rows) c.remove.ensures.items ∙ ap (λ l. flat_map g.P.Part.rows (remove l index)) same
    ∙ held_gone g.P.Part.rows c.args.parts.now.items 1 c.args.place c.holding-held.result (rw c.deref.ensures.value at c.holding-held.ensures) c.index_mut-part.result.now
    c.index_mut-part.ensures.value (omega arith) (sym (ap (λ s. s.rows) c.sums.ensures) ∙ c.if-sums-eq1.true)

pub returns-else-sums-eq1 : goal.returns-else-sums-eq1
returns-else-sums-eq1 g c =
    let to = held_to g.P.Part.rows c.args.parts.now.items 1 c.args.place c.holding-held.result (rw c.deref.ensures.value at c.holding-held.ensures) c.index_mut-part.result.now c.index_mut-part.ensures.value in
    let from = c.holding-held.ensures.from in
    let others : 1 < length (g.P.Part.rows c.index_mut-part.result.now) = omega (arith, to, from, ap (λ s. s.rows) c.sums.ensures) in
    held_remove g.P.Part.rows c.args.parts.now.items 1 c.args.place c.holding-held.result (rw c.deref.ensures.value at c.holding-held.ensures) c.index_mut-part.result.now c.index_mut-part.ensures.value (omega arith) c.remove-else-sums-eq1.new.self
    (c.remove-else-sums-eq1.ensures others)
