use Rattle.std.proofs.Common.{arith, ap, subst, ◌∙◌, sym, refl}
use Rattle.retro_base.specs.declared.kind.Kind.TheVariants.{Pq}
use Rattle.retro_base.specs.Timeline.{AreOfKind}
use Rattle.pq_fusion.specs.Nodes.{IsPair}
use Rattle.pq_fusion.specs.Pieces.{size_of}
use Rattle.pq_fusion.specs.Wear.{WornRows}
use Rattle.pq_fusion.proofs.Sizes.{rows_size}
use Rattle.pq_fusion.proofs.Rooted.{kind_of_rows, made_pair}
use Rattle.pq_fusion.proofs.subtree.Subtree.of_sides.Goals as goal

pub fuse-requires : goal.fuse-requires
fuse-requires c =
    omega (arith, ap size_of c.in_ok-first.ensures, ap size_of c.in_ok-second.ensures, rows_size c.args.earlier.rows, rows_size c.args.later.rows, c.requires.few)

pub of_pair-requires : goal.of_pair-requires
of_pair-requires c =
    let before = c.in_ok-first.ensures in
    let after = c.in_ok-second.ensures in
    subst IsPair (sym c.in_ok-new.ensures.ok)
    (made_pair _ (rw (c.len.ensures.count, c.len-2.ensures.count) refl) (c.in_ok-piece.ensures ∙ c.in_ok-both.ensures ∙ rw (before, after) refl)
    c.requires.balanced c.requires.few
    (subst (λ (p : WornRows). AreOfKind Pq p.rows) c.earlier.view_is (kind_of_rows c.earlier.inside.link c.earlier.invariant))
    (subst (λ (p : WornRows). AreOfKind Pq p.rows) c.later.view_is (kind_of_rows c.later.inside.link c.later.invariant)))
