use Rattle.std.proofs.Common.{rules, ◌≡◌, ap, ◌∙◌, arith, inl, inr, get_or}
use Rattle.std.proofs.lemmas.Bool.{cases_lt}
use Rattle.weighted_tree.proofs.Leaves.{divided_before, divided_after}
use Rattle.weighted_tree.proofs.leaf.divide.Goals as goal

pub returns-clause-ok : goal.returns-clause-ok
returns-clause-ok g c =
    let items = c.args.items.now.items in
    let cut = c.cut_at-cut.result in
    let middle = c.index-middle.result.now in
    let is : get_or items cut middle ≡ middle = search rules in
    let within = c.cut_at-cut.ensures.within in
    let item_is = ap (λ n. n.item) (c.deref_mut.ensures.value ∙ c.in_ok-node.ensures.ok) ∙ c.alone.ensures.item in
    elim (cases_lt cut c.args.place) [
      | inl after ↦ cc (
        c.divide_left.ensures.after after,
        item_is,
        c.of_items.ensures.items,
        c.in_ok-right.ensures.after after,
        c.as_slice.ensures.value,
        divided_after items cut middle c.args.item (omega arith) is c.args.place after,
      )
      | inr before ↦ cc (
        c.divide_left.ensures.before before,
        item_is,
        c.of_items.ensures.items,
        c.in_ok-right.ensures.before before,
        c.as_slice.ensures.value,
        divided_before items cut middle c.args.item (omega arith) is c.args.place before,
      )
    ]
