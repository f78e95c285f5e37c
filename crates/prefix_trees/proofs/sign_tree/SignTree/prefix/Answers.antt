use Rattle.std.proofs.Common.{◌≡◌, ap, ◌∙◌, rules}
use Rattle.std.proofs.lemmas.Int.{to_z-of_z}
use Rattle.monoid_laws.specs.Walk.{end_of}
use Rattle.prefix_trees.specs.SignPrefixes.{prefix}
use Rattle.prefix_trees.proofs.MeasuredSigns.{prefix-is}
use Rattle.prefix_trees.proofs.sign_tree.SignTree.prefix.Goals as goal

pub returns-clause-sum : goal.returns-clause-sum
returns-clause-sum g c =
    let sum : c.sum.result ≡ prefix c.self.inside.signs c.args.place =
    c.sum.ensures.value ∙ ap end_of (c.first.ensures.value ∙ ap (λ w. w.0) c.measure.ensures.value) ∙ prefix-is c.self.inside.signs c.args.place in
    rw (← c.self.view_is) (search (rules, to_z-of_z, sum))
