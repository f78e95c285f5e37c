use Rattle.std.proofs.Common.{ap, ◌∙◌}
use Rattle.pq_fusion.specs.declared.subtree.Pair.{Pair}
use Rattle.pq_fusion.specs.Passages.{with_piece}
use Rattle.pq_fusion.proofs.edit.take_apart.Goals as goal

pub returns-in-Ok : goal.returns-in-Ok
returns-in-Ok c = ap (with_piece c.deref_mut.result.now) (c.in-Ok.ensures ∙ c.replace-whole.ensures.value) ∙ c.deref_mut.ensures.value

pub returns-in-Err : goal.returns-in-Err
returns-in-Err c =
    ap (λ (p : Pair). with_piece p c.in-Err.piece) c.deref_mut-in-Err.ensures.value
    ∙ ap (with_piece c.deref_mut.result.now) (c.in-Err.ensures ∙ c.replace-whole.ensures.value) ∙ c.deref_mut.ensures.value
