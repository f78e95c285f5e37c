use Rattle.std.proofs.Common.{◌*◌, ◌∙◌, arith}
use Rattle.checkpoint_full.specs.Checkpoints.{place_of}
use Rattle.checkpoint_full.proofs.Settled.{can_widen, made_when_left, settled_once, settled_twice}
use Rattle.checkpoint_full.proofs.settle.settle.Goals as goal

pub returns-then-len-clause-keeps : goal.returns-then-len-clause-keeps
returns-then-len-clause-keeps g c =
    settled_once c.args.width c.args.present.now c.args.checkpoints.now.items _ c.requires.of_widths c.requires.kept c.thin.ensures.first c.thin.ensures.places
    (omega (arith, c.if-len.true, c.len.ensures))

pub returns-then-len-clause-made : goal.returns-then-len-clause-made
returns-then-len-clause-made g c = made_when_left c.args.width (place_of c.args.present.now) c.args.checkpoints.now.items _ c.thin.ensures.places

pub thin-requires-2-clause-of_widths : goal.thin-requires-2-clause-of_widths
thin-requires-2-clause-of_widths g c =
    can_widen c.args.width c.args.present.now c.args.checkpoints.now.items _ c.requires.rows c.requires.of_widths c.requires.kept c.thin.ensures.first
    c.thin.ensures.places (omega (arith, c.if-len.false, c.len.ensures))

pub returns-clause-keeps : goal.returns-clause-keeps
returns-clause-keeps g c =
    settled_twice c.args.width c.args.present.now c.args.checkpoints.now.items _ _
    (can_widen c.args.width c.args.present.now c.args.checkpoints.now.items _ c.requires.rows c.requires.of_widths c.requires.kept c.thin.ensures.first
    c.thin.ensures.places (omega (arith, c.if-len.false, c.len.ensures)))
    c.requires.kept c.thin.ensures.first c.thin.ensures.places c.thin-2.ensures.first c.thin-2.ensures.places c.requires.few
    (omega (arith, c.if-len.false, c.len.ensures))

pub returns-clause-made : goal.returns-clause-made
returns-clause-made g c =
    made_when_left (2 * c.args.width) (place_of c.args.present.now) _ _ c.thin-2.ensures.places
    ∙ made_when_left c.args.width (place_of c.args.present.now) c.args.checkpoints.now.items _ c.thin.ensures.places
