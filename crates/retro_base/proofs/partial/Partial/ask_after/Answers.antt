use Rattle.std.proofs.Common.{◌-◌, ◌*◌, List, length, ◌∙◌, ap, arith}
use Rattle.std.proofs.lemmas.List.{length-take-le}
use Rattle.retro_base.specs.declared.row.Row.{Row}
use Rattle.costs.specs.VisitsLaws.{visits-more, visits-longer, visits-then}
use Rattle.retro_base.proofs.partial.Partial.ask_after.Goals as goal

pub returns-then-place-len-clause-visits : goal.returns-then-place-len-clause-visits
returns-then-place-len-clause-visits g c =
    visits-more 144 _ _ _ _ (omega arith) (visits-longer 144 _ _ _ _ (omega (arith, c.requires.earlier, c.requires.within)) c.ask_now.ensures.visits)

pub returns-clause-visits : goal.returns-clause-visits
returns-clause-visits g c =
    let long = ap (λ (rows : List Row). length rows) c.in_ok-copy.ensures.rows ∙ length-take-le c.args.place (g.Self.Partial.rows c.args.later.now) c.requires.within in
    visits-then (288 * (c.args.place - length (g.Self.Partial.rows c.args.self.now))) 144 _ _ _ _ _ (omega (arith, long, c.requires.within)) c.copy_after.ensures.visits c.ask_now-2.ensures.visits
