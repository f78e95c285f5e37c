use Rattle.std.proofs.Common.{ap, arith, ◌∙◌}
use Rattle.retro_base.specs.State.{with_entry}
use Rattle.pq_fusion.proofs.Fused.{parts}
use Rattle.pq_fusion.proofs.RowByRow.{piece_found}
use Rattle.pq_fusion.proofs.piece.Piece.with_taking.Goals as goal

pub invariant_of-result-2 : goal.invariant_of-result-2
invariant_of-result-2 c =
    piece_found (parts c.self.inside.left.items c.self.inside.removed.items c.self.inside.unmet) _ c.self.view_is c.self.invariant c.requires
    c.remove.result c.remove.new.self.items c.put_uncounted.new.list.items (omega arith) c.remove.ensures.value c.remove.ensures.items
    (c.put_uncounted.ensures ∙ ap (with_entry c.remove.result) c.make_room.ensures.items)
