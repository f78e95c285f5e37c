use Rattle.std.proofs.Common.{ap, arith, length, ◌∙◌, subst, sym}
use Rattle.retro_base.specs.declared.kind.Kind.TheVariants.{Pq}
use Rattle.retro_base.specs.Timeline.{AreOfKind}
use Rattle.pq_fusion.specs.Edits.{Passes}
use Rattle.pq_fusion.specs.Pieces.{tolerant}
use Rattle.pq_fusion.specs.Wear.{WornRows}
use Rattle.pq_fusion.proofs.Edged.{passes_found}
use Rattle.pq_fusion.proofs.Rooted.{kind_of_rows}
use Rattle.pq_fusion.proofs.RowEdits.{near_after}
use Rattle.pq_fusion.proofs.subtree.Subtree.edit_anew.Goals as goal

pub returns-clause-passed : goal.returns-clause-passed
returns-clause-passed g c =
    let edit = c.args.edit in
    passes_found edit.way edit.place edit.row c.args.self.now.rows c.difference-passed.result c.in_ok-whole.field-0 c.in_ok-whole-2.field-0
    (λ own y passes. c.difference-passed.ensures own y (subst (λ gains. Passes gains own y c.in_ok-whole.field-0 c.in_ok-whole-2.field-0) (sym c.gains.ensures) passes))
    c.in_ok-whole.ensures (c.in_ok-whole-2.ensures ∙ ap (λ (p : WornRows). tolerant p.rows) c.in_ok-new.ensures.new) c.requires.possible
    (subst (λ (p : WornRows). AreOfKind Pq p.rows) c.self.view_is (kind_of_rows c.self.inside.link c.self.invariant))

pub returns-clause-near : goal.returns-clause-near
returns-clause-near g c =
    let edit = c.args.edit in
    omega (arith, ap (λ (p : WornRows). length p.rows) c.in_ok-new.ensures.new, (near_after edit.way c.args.self.now.rows edit.place edit.row c.requires.possible).0)
