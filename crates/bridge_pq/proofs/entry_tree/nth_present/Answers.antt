use Rattle.std.proofs.Common.{◌∙◌, sym, arith}
use Rattle.bridge_pq.proofs.entry_tree.nth_present.Goals as goal

pub returns-in_err-end-clause-entry : goal.returns-in_err-end-clause-entry
returns-in_err-end-clause-entry g c = c.from_residual.ensures ∙ sym c.in_err-end.ensures.end

pub overflow_sub-end : goal.overflow_sub-end
overflow_sub-end g c = c.in_ok-end.ensures.end.some

pub get-requires : goal.get-requires
get-requires g c = record { within = omega (arith, c.in_ok-end.ensures.end.some, c.in_ok-end.ensures.end.within) }

pub returns-clause-entry : goal.returns-clause-entry
returns-clause-entry g c = sym (c.in_ok-end.ensures.end.there c.get.result c.get.ensures.item)
