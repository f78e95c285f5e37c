use Rattle.std.proofs.Common.{◌≡◌, sym, ap, ◌∙◌}
use Rattle.key_index.specs.KeyRows.{op_at}
use Rattle.key_index.specs.Ordered.{by_label}
use Rattle.key_index.proofs.Scanned.{scanned, none_without}
use Rattle.key_index.proofs.key_index.KeyIndex.remove.Goals as goal
use Rattle.key_index.proofs.key_index.KeyIndex.remove.Goals.{After-op_of}

-- what was found is the operation of the row
held : (c : After-op_of) → c.op_of.result ≡ op_at c.args.label (by_label c.self.inside.by_key)
held c = c.op_of.ensures ∙ scanned c.args.label (by_label c.self.inside.by_key) c.self.inside.by_key c.self.invariant

found : (c : After-op_of) → c.op_of.result ≡ op_at c.args.label c.args.self.now
found c = held c ∙ ap (op_at c.args.label) c.self.view_is

pub returns-in_err-op-clause-found : goal.returns-in_err-op-clause-found
returns-in_err-op-clause-found c = c.from_residual.ensures ∙ sym c.in_err-op.was ∙ found (goal.at.returns-in_err-op-clause-found c).After-op_of

pub returns-in_err-op-clause-rows : goal.returns-in_err-op-clause-rows
returns-in_err-op-clause-rows c =
    none_without c.args.label c.args.self.now (sym (found (goal.at.returns-in_err-op-clause-rows c).After-op_of) ∙ c.in_err-op.was)

pub remove_key_row-requires-clause-there : goal.remove_key_row-requires-clause-there
remove_key_row-requires-clause-there c = sym (held (goal.at.remove_key_row-requires-clause-there c).After-op_of) ∙ c.in_ok-op.was

pub returns-clause-found : goal.returns-clause-found
returns-clause-found c = sym c.in_ok-op.was ∙ found (goal.at.returns-clause-found c).After-op_of
