-- Where nobody follows, nobody hears anything; else line by line they are handed the events of what is left.
use Rattle.std.proofs.Common.{◌≡◌, [], refl, sym, ◌∙◌}
use Rattle.std.proofs.lemmas.Bool.{eqb-true}
use Rattle.std.proofs.lemmas.List.{nil_from_length}
use Rattle.retro_run.proofs.Handed.{hands_on_line, hands_on_all}
use Rattle.retro_run.proofs.follow.hand_on.Goals as goal

pub returns-then-is_empty : goal.returns-then-is_empty
returns-then-is_empty g c =
    rw (nil_from_length c.args.followers.now (eqb-true _ _ (sym c.is_empty.ensures ∙ c.if-is_empty.true))) refl

pub loop-rest-preserved : goal.loop-rest-preserved
loop-rest-preserved g c =
    hands_on_line c.args.answer.now c.loop-rest.rest.now c.cut_line.result.1.now _ _ _ _ c.loop-rest.invariant c.cut_line.ensures.cut c.in_ok-hand_on_line.ensures

pub returns : goal.returns
returns g c =
    let none : c.loop-rest.rest.now ≡ [] = nil_from_length c.loop-rest.rest.now (eqb-true _ _ (sym c.is_empty-in-loop-rest.ensures ∙ c.loop-rest-test.false)) in
    hands_on_all c.args.answer.now c.loop-rest.rest.now _ _ c.loop-rest.invariant none
