use Rattle.std.proofs.Common.{◌∙◌, sym}
use Rattle.pq_fusion.proofs.Replays.{of_adding, of_taking}
use Rattle.pq_fusion.proofs.piece.Piece.of_row.Goals as goal

pub returns-in_default : goal.returns-in_default
returns-in_default c = let adds = c.added_entry.ensures in rw (c.new-left.ensures.items, c.new-removed.ensures.items) (sym (of_taking c.args.row c.requires (sym adds ∙ c.in_default.is)))

pub returns : goal.returns
returns c =
    let adds = c.added_entry.ensures in
    rw (c.in_ok-push.ensures.items, c.new-left.ensures.items, c.new-removed.ensures.items) (sym (of_adding c.args.row c.in-Some.entry (sym adds ∙ c.in-Some.is)))
