use Rattle.std.proofs.Common.{◌≡◌, ◌+◌, ap, ◌∙◌, length, arith}
use Rattle.std.specs.Prelude.{insert}
use Rattle.std.specs.List.{flat_map}
use Rattle.std.proofs.lemmas.List.Edits.{length-insert}
use Rattle.evidence_check.proofs.Flat.{part_shorter, rest_shorter}
use Rattle.evidence_check.proofs.pack.PackPart.insert.Goals as goal

pub sums_among-self-inside-requires : goal.sums_among-self-inside-requires
sums_among-self-inside-requires g c =
    let inserted : length (flat_map g.P.Part.rows c.insert_among.new.parts.items) ≡ length c.args.self.now + 1 =
    ap length c.in_ok-insert_among.ensures.ok ∙ ap (λ l. length (insert l c.args.place c.args.row)) c.self.view_is ∙ length-insert c.args.self.now c.args.place c.args.row c.requires.within in
    let shorter = part_shorter g.P.Part.rows (λ v. v.items) c.spill-rest.result c.insert_among.new.parts.items c.spill-rest.new.parts.items c.spill-rest.ensures in
    rw c.deref.ensures.value (omega (arith, inserted, shorter, c.requires.few))

pub of_parts-requires : goal.of_parts-requires
of_parts-requires g c =
    let inserted : length (flat_map g.P.Part.rows c.insert_among.new.parts.items) ≡ length c.args.self.now + 1 =
    ap length c.in_ok-insert_among.ensures.ok ∙ ap (λ l. length (insert l c.args.place c.args.row)) c.self.view_is ∙ length-insert c.args.self.now c.args.place c.args.row c.requires.within in
    let shorter = rest_shorter g.P.Part.rows c.insert_among.new.parts.items c.spill-rest.new.parts.items c.in-Some.parts.items c.in-Some.ensures in
    omega (arith, inserted, shorter, c.requires.few)
