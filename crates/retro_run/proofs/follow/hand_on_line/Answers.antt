use Rattle.std.proofs.Common.{◌≡◌, sym, ◌∙◌, None, Some}
use Rattle.evidence.specs.Reading.{evidence_of}
use Rattle.retro_run.proofs.Handed.{hears-none}
use Rattle.retro_run.proofs.follow.hand_on_line.Goals as goal

pub returns-in-Some : goal.returns-in-Some
returns-in-Some g c =
    let same : evidence_of c.args.line.now ≡ Some c.in-Some.event = sym c.read_evidence.ensures.exact ∙ c.in-Some.is in
    rw same c.hand_out.ensures

pub returns-in-None : goal.returns-in-None
returns-in-None g c =
    let same : evidence_of c.args.line.now ≡ None = sym c.read_evidence.ensures.exact ∙ c.in-None.is in
    rw same (sym (hears-none _))
