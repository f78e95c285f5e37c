use Rattle.std.proofs.Common.{◌≡◌, pos, ◌∙◌, ap, rules}
use Rattle.std.specs.List.{slice_range}
use Rattle.std.specs.Int.Signed.{lt_z}
use Rattle.monoid_laws.specs.Walk.{end_of}
use Rattle.prefix_trees.specs.SignWalks.{has_more_marks}
use Rattle.prefix_trees.proofs.MeasuredSigns.{walks_of, marks-is}
use Rattle.prefix_trees.proofs.FoundSigns.{more-rises}
use Rattle.prefix_trees.proofs.sign_tree.SignTree.first_beyond.Goals as goal

pub returns-clause-first : goal.returns-clause-first
returns-clause-first g c =
    let items = c.self.inside.signs in
    rw (← c.self.view_is) (c.first_place.ensures.first (has_more_marks items (pos c.args.k))
    (λ place answer above within call.
    let reported : answer ≡ lt_z (pos c.args.k) (end_of (walks_of (slice_range items 0 place)).1) = search rules in
    reported ∙ ap (lt_z (pos c.args.k)) (marks-is items place))
    (more-rises items c.args.k _))
