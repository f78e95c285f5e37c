use Rattle.std.proofs.Common.{◌≡◌, ap, ◌∙◌, length, arith}
use Rattle.std.specs.List.{flat_map}
use Rattle.evidence_check.proofs.Flat.{length_marked}
use Rattle.evidence_check.proofs.pack.PackPart.mark.Goals as goal

pub sums_among-self-inside-requires : goal.sums_among-self-inside-requires
sums_among-self-inside-requires g c =
    let marked : length (flat_map g.P.Part.rows c.mark_among.new.parts.items) ≡ length c.args.self.now =
    ap length c.mark_among.ensures ∙ length_marked c.args.place c.args.alive (flat_map g.P.Part.rows c.self.inside.parts.items) ∙ ap length c.self.view_is in
    rw c.deref.ensures.value (omega (arith, marked, c.requires.few))
