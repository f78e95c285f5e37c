use Rattle.std.proofs.Common.{◌≡◌, w64, Some, None, take, Option, sym, ap, ◌∙◌, arith}
use Rattle.std.specs.Option.{option_and_then}
use Rattle.std.proofs.lemmas.Int.{to_z-of_z}
use Rattle.key_index.specs.KeyRows.{KeyRow, last_of}
use Rattle.key_index.specs.Ordered.{if_on}
use Rattle.key_index.proofs.Neighbours.{some_stand, before_it, before_none}
use Rattle.key_index.proofs.tree.last_below.Goals as goal
use Rattle.key_index.proofs.tree.last_below.Goals.{After-last_on}

last-is : (c : After-last_on) → c.last_on.result ≡ option_and_then (if_on c.args.key) (last_of (take c.args.count c.args.by_key.now))
last-is c = rw (to_z-of_z w64 c.args.key c.ranges.key) at c.last_on.ensures

pub returns-in_err-at : goal.returns-in_err-at
returns-in_err-at c =
    let is = last-is (goal.at.returns-in_err-at c).After-last_on in
    c.from_residual.ensures ∙ sym c.in_err-at.was ∙ is
    ∙ before_none c.args.key c.args.label c.args.by_key.now c.args.count c.requires.ordered c.requires.front
    (λ row last here. let wrong : ◌≡◌ {A = Option KeyRow} None (Some row) = sym c.in_err-at.was ∙ is ∙ last in cc)

pub overflow_sub-count : goal.overflow_sub-count
overflow_sub-count c =
    let is = last-is (goal.at.overflow_sub-count c).After-last_on in
    omega (arith, some_stand c.args.key c.args.label c.args.by_key.now c.args.count (c.in_ok-at.at, c.in_ok-at.op) (sym is ∙ c.in_ok-at.was))

pub returns-then-at-label : goal.returns-then-at-label
returns-then-at-label c =
    let is = last-is (goal.at.returns-then-at-label c).After-last_on in
    (rw (to_z-of_z w64 c.args.key c.ranges.key) at c.last_on-then-at-label.ensures)
    ∙ before_it c.args.key c.args.label c.args.by_key.now c.args.count c.requires.ordered c.requires.front c.requires.within (c.in_ok-at.at, c.in_ok-at.op) (sym is ∙ c.in_ok-at.was) c.if-at-label.true

pub returns : goal.returns
returns c =
    let is = last-is (goal.at.returns c).After-last_on in
    sym c.in_ok-at.was ∙ is
    ∙ before_none c.args.key c.args.label c.args.by_key.now c.args.count c.requires.ordered c.requires.front
    (λ row last here.
    let both : ◌≡◌ {A = Option KeyRow} (Some (c.in_ok-at.at, c.in_ok-at.op)) (Some row) = sym c.in_ok-at.was ∙ is ∙ last in
    let one : ◌≡◌ {A = KeyRow} (c.in_ok-at.at, c.in_ok-at.op) row = cc in
    c.if-at-label.false (ap (λ (r : KeyRow). r.0) one ∙ here))
