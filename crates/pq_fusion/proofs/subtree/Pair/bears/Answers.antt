use Rattle.std.proofs.Common.{arith, inl, inr, refl, sym, ◌∙◌, length-append}
use Rattle.pq_fusion.proofs.Worn.{out_of_balance}
use Rattle.pq_fusion.proofs.subtree.Pair.bears.Goals as goal

pub returns-then-is_first-clause-worn : goal.returns-then-is_first-clause-worn
returns-then-is_first-clause-worn c = λ out.
    let worn = out_of_balance c.len-earlier.result c.len-later.result c.count_after.result c.len-later.result (sym c.make_pair.ensures ∙ out) c.count_after.ensures.most
    c.count_after.ensures.least (omega arith) (omega arith) (inr refl) in
    omega (arith, worn, length-append c.args.self.now.earlier.rows c.args.self.now.later.rows, c.len-earlier.ensures.count, c.len-later.ensures.count)

pub returns-clause-worn : goal.returns-clause-worn
returns-clause-worn c = λ out.
    let worn = out_of_balance c.len-earlier.result c.len-later.result c.len-earlier.result c.count_after-2.result (sym c.make_pair-2.ensures ∙ out) (omega arith) (omega arith)
    c.count_after-2.ensures.most c.count_after-2.ensures.least (inl refl) in
    omega (arith, worn, length-append c.args.self.now.earlier.rows c.args.self.now.later.rows, c.len-earlier.ensures.count, c.len-later.ensures.count)
