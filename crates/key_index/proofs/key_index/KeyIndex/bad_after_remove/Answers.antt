use Rattle.std.proofs.Common.{◌≡◌, IsSome, subst, sym, ap, ◌∙◌}
use Rattle.key_index.specs.KeyRows.{op_at}
use Rattle.key_index.specs.Ordered.{by_label}
use Rattle.key_index.proofs.Scanned.{scanned}
use Rattle.key_index.proofs.key_index.KeyIndex.bad_after_remove.Goals as goal
use Rattle.key_index.proofs.key_index.KeyIndex.bad_after_remove.Goals.{After-op_of}

-- what was found is the operation of the row
found : (c : After-op_of) → c.op_of.result ≡ op_at c.args.label c.args.self.now
found c =
    c.op_of.ensures
    ∙ scanned c.args.label (by_label c.self.inside.by_key) c.self.inside.by_key c.self.invariant
    ∙ ap (op_at c.args.label) c.self.view_is

pub bad_without-requires-clause-there : goal.bad_without-requires-clause-there
bad_without-requires-clause-there c = sym (found (goal.at.bad_without-requires-clause-there c).After-op_of) ∙ c.in-Some.is

pub returns-in-None-clause-bad : goal.returns-in-None-clause-bad
returns-in-None-clause-bad c =
    let some = subst IsSome (sym (found (goal.at.returns-in-None-clause-bad c).After-op_of) ∙ c.in-None.is) c.requires.there in
    absurd (cc)

pub returns-in-None-clause-good : goal.returns-in-None-clause-good
returns-in-None-clause-good c =
    let some = subst IsSome (sym (found (goal.at.returns-in-None-clause-good c).After-op_of) ∙ c.in-None.is) c.requires.there in
    absurd (cc)
