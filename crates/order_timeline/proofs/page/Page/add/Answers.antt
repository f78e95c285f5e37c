use Rattle.std.proofs.Common.{◌≡◌, Option, ℕ, [], None, Some, set, length, ap, sym, ◌∙◌, subst, inr, arith}
use Rattle.std.proofs.lemmas.List.{length-set, length-replicate}
use Rattle.order_timeline.specs.Numbers.{PageChanges, span}
use Rattle.order_timeline.proofs.Pages.{page_begun, has_name, full_some, empty_where}
use Rattle.order_timeline.proofs.page.Page.add.Goals as goal

pub invariant_of-self : goal.invariant_of-self
invariant_of-self c =
    let names = c.in_ok-names.names.items in
    let all : length names ≡ span = ap length c.in_ok-names.ensures ∙ length-replicate {A = Option ℕ} span None in
    rw c.of.ensures (inr (length-set names c.args.place (Some c.args.name) ∙ all, has_name names c.args.place c.args.name (omega (arith, all, c.requires))))

pub returns-then-len-eq0-clause-ok : goal.returns-then-len-eq0-clause-ok
returns-then-len-eq0-clause-ok c =
    let none : c.self.inside.names.items ≡ [] = empty_where c.self.inside.names.cap c.self.inside.names.items c.self.invariant (omega arith) in
    rw c.of.ensures (subst (λ before. PageChanges before (set c.in_ok-names.names.items c.args.place (Some c.args.name)) c.args.place (Some c.args.name)) (sym none ∙ c.self.view_is)
    (subst (λ names. PageChanges [] (set names c.args.place (Some c.args.name)) c.args.place (Some c.args.name)) (sym c.in_ok-names.ensures) (page_begun c.args.place (Some c.args.name) c.requires)))

pub invariant_of-self-2 : goal.invariant_of-self-2
invariant_of-self-2 c =
    let names = c.self.inside.names.items in
    let all : length names ≡ span = full_some c.self.inside.names.cap names c.self.invariant (omega arith) in
    rw c.of-2.ensures (inr (length-set names c.args.place (Some c.args.name) ∙ all, has_name names c.args.place c.args.name (omega (arith, all, c.requires))))
