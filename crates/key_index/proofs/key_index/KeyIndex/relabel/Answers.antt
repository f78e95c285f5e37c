use Rattle.std.proofs.Common.{sym, subst, ap, ◌∙◌}
use Rattle.key_index.specs.Ordered.{IsIndexed, by_label}
use Rattle.key_index.specs.Relabelled.{HoldsLabels, relabelled}
use Rattle.key_index.proofs.ByLabel.{by_label_is, index_of}
use Rattle.key_index.proofs.Moved.{holds_by_key, relabelled_indexed}
use Rattle.key_index.proofs.key_index.KeyIndex.relabel.Goals as goal
use Rattle.key_index.proofs.key_index.KeyIndex.relabel.Goals.{After-relabel}

pub relabel-requires-clause-all : goal.relabel-requires-clause-all
relabel-requires-clause-all c =
    holds_by_key c.args.former.now (by_label c.self.inside.by_key) c.self.inside.by_key c.self.invariant (subst (HoldsLabels c.args.former.now) (sym c.self.view_is) c.requires.all)

-- the rows by their fresh labels, and the same in the order of their keys
indexed : (c : After-relabel) → IsIndexed (relabelled c.args.former.now c.args.fresh.now (by_label c.self.inside.by_key)) c.relabel.new.by_key
indexed c =
    rw c.relabel.ensures
    (relabelled_indexed c.args.former.now c.args.fresh.now c.requires.former c.requires.fresh c.requires.as_many (by_label c.self.inside.by_key) c.self.inside.by_key c.self.invariant
    (subst (HoldsLabels c.args.former.now) (sym c.self.view_is) c.requires.all))

pub invariant_of-self : goal.invariant_of-self
invariant_of-self c = index_of _ _ (indexed (goal.at.invariant_of-self c).After-relabel)

pub returns : goal.returns
returns c = by_label_is _ _ (indexed (goal.at.returns c).After-relabel) ∙ ap (relabelled c.args.former.now c.args.fresh.now) c.self.view_is
