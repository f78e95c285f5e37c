-- The bytes copied are the first of those left.
use Rattle.std.proofs.Common.{◌≡◌, ◌-◌, ◌++◌, length, take, drop, sym, ap, ◌∙◌}
use Rattle.std.proofs.lemmas.List.{take-append-drop, drop-drop, take_rest}
use Rattle.retro_io.specs.Memory.{Stocked}
use Rattle.retro_io.proofs.stock.Stock.give.Goals as goal

pub returns-then-not-is_empty-clause-given : goal.returns-then-not-is_empty-clause-given
returns-then-not-is_empty-clause-given c =
    let at = c.self.inside.at in
    let items = c.self.inside.bytes.items in
    let count = c.copy_some-count.result in
    let from : take (length c.deref.result.now - at) (drop at c.deref.result.now) ≡ drop at items =
    take_rest c.deref.result.now at ∙ ap (drop at) c.deref.ensures.value in
    sym (ap (λ (s : Stocked). s.left) c.self.view_is)
    ∙ sym (take-append-drop count (drop at items))
    ∙ ap (λ ys. ys ++ drop count (drop at items)) (sym (c.copy_some-count.ensures.copied ∙ ap (take count) from))
    ∙ ap (λ ys. take count c.copy_some-count.new.buffer ++ ys) (drop-drop count at items)
