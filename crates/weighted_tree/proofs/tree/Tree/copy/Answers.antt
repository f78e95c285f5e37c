use Rattle.std.proofs.Common.{rules, refl, ap, arith, length, length-append}
use Rattle.weighted_tree.proofs.tree.Tree.copy.Goals as goal

pub same-root : goal.same-root
same-root g c = refl

pub invariant_of-result : goal.invariant_of-result
invariant_of-result g c = omega (arith, ap (λ part. length part.items) c.in_ok-root.ensures.items, ap length c.in_ok-tail.ensures.items, c.self.invariant)

pub returns-in_err-root-clause-err_visits : goal.returns-in_err-root-clause-err_visits
returns-in_err-root-clause-err_visits g c =
    let same = ap length c.self.view_is in
    let sizes = length-append c.self.inside.root.items c.self.inside.tail in
    search rules

pub returns-in_err-tail-clause-err_visits : goal.returns-in_err-tail-clause-err_visits
returns-in_err-tail-clause-err_visits g c =
    let same = ap length c.self.view_is in
    let sizes = length-append c.self.inside.root.items c.self.inside.tail in
    search rules

pub returns-clause-ok_visits : goal.returns-clause-ok_visits
returns-clause-ok_visits g c =
    let same = ap length c.self.view_is in
    let sizes = length-append c.self.inside.root.items c.self.inside.tail in
    search rules
