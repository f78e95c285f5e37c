use Rattle.std.proofs.Common.{ap, ◌∙◌}
use Rattle.retro_base.specs.State.{with_entry}
use Rattle.pq_fusion.proofs.Fused.{parts}
use Rattle.pq_fusion.proofs.RowByRow.{piece_adding}
use Rattle.pq_fusion.proofs.piece.Piece.with_added.Goals as goal

pub invariant_of-result : goal.invariant_of-result
invariant_of-result c =
    piece_adding (parts c.self.inside.left.items c.self.inside.removed.items c.self.inside.unmet) _ c.self.view_is c.self.invariant c.requires
    c.args.entry c.put_uncounted.new.list.items (c.put_uncounted.ensures ∙ ap (with_entry c.args.entry) c.make_room.ensures.items)
