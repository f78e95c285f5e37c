use Rattle.std.proofs.Common.{refl}
use Rattle.pq_fusion.proofs.Swapped.{after_gain, after_loss}
use Rattle.pq_fusion.proofs.node_piece.RoomyPiece.after.Goals as goal

pub invariant_of-t-10 : goal.invariant_of-t-10
invariant_of-t-10 g c =
    after_gain c.args.gains c.args.own c.args.passed _ _ c.self.view_is c.requires c.if-gains.true _ _ _ _ c.tops.ensures.count refl
    c.exchange.ensures.exchange c.exchange-then-gains.ensures.exchange

pub invariant_of-result : goal.invariant_of-result
invariant_of-result g c =
    after_loss c.args.gains c.args.own c.args.passed _ _ c.self.view_is c.requires c.if-gains.false _ _ _ _ c.tops-else-gains.ensures.count refl
    c.exchange-else-gains.ensures.exchange c.exchange-else-gains-2.ensures.exchange

pub returns-then-gains-clause-piece : goal.returns-then-gains-clause-piece
returns-then-gains-clause-piece g c =
    after_gain c.args.gains c.args.own c.args.passed _ _ c.self.view_is c.requires c.if-gains.true _ _ _ _ c.tops.ensures.count refl
    c.exchange.ensures.exchange c.exchange-then-gains.ensures.exchange

pub returns-else-gains-clause-piece : goal.returns-else-gains-clause-piece
returns-else-gains-clause-piece g c =
    after_loss c.args.gains c.args.own c.args.passed _ _ c.self.view_is c.requires c.if-gains.false _ _ _ _ c.tops-else-gains.ensures.count refl
    c.exchange-else-gains.ensures.exchange c.exchange-else-gains-2.ensures.exchange
