use Rattle.std.proofs.Common.{sym, ◌∙◌, subst}
use Rattle.pq_fusion.specs.Edits.{Apart}
use Rattle.pq_fusion.specs.Pieces.{fuse}
use Rattle.pq_fusion.proofs.Passed.{passes_one, earlier_passes, earlier_after, later_passes}
use Rattle.pq_fusion.proofs.laws.edits_pass_one.Goals as goal

pub returns-clause-rows : goal.returns-clause-rows
returns-clause-rows c = λ before after row kind. passes_one before after row kind

pub returns-clause-earlier : goal.returns-clause-earlier
returns-clause-earlier c = λ own x p q b first second third apart. (earlier_passes own x p q apart b third, earlier_after own x p q apart b third)

pub returns-clause-later : goal.returns-clause-later
returns-clause-later c = λ own x a p q first second third apart.
    let both = later_passes own x a p q first second third apart in
    (subst (λ y. Apart own y (fuse a p) (fuse a q)) (sym both.before) both.apart, both.before ∙ sym both.after)
