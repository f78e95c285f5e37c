use Rattle.std.proofs.Common.{◌≡◌, ◌+◌, ◌-◌, ◌*◌, ◌∙◌, ap, arith}
use Rattle.costs.specs.VisitsLaws.{visits-then}
use Rattle.checkpoint_full.specs.Checkpoints.{place_of}
use Rattle.checkpoint_full.proofs.FirstRows.{place_of-first_of}
use Rattle.checkpoint_full.proofs.reader.Reader.ask.Goals as goal

pub returns-clause-visits : goal.returns-clause-visits
returns-clause-visits g c =
    let apart = c.args.place - place_of c.args.copy + (place_of c.args.copy - c.args.place) in
    let here : place_of c.move_to.new.self ≡ c.args.place =
    ap (λ s. place_of s) c.in_ok-move_to.ensures.ok ∙ place_of-first_of c.args.place c.args.timeline.now c.requires.within in
    visits-then (288 * apart) 144 _ (place_of c.move_to.new.self) _ _ _ (omega (arith, here, c.requires.within)) c.move_to.ensures.visits c.ask_now-answer.ensures.visits
