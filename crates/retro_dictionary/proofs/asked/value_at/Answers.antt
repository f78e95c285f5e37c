use Rattle.std.proofs.Common.{w64, ap, ◌∙◌, arith}
use Rattle.std.specs.Option.{option_and_then}
use Rattle.std.proofs.lemmas.Int.{to_z-of_z}
use Rattle.retro_dictionary.specs.Asked.{value_put}
use Rattle.retro_dictionary.proofs.LabelledRows.{value-after}
use Rattle.retro_dictionary.proofs.asked.value_at.Goals as goal

pub returns : goal.returns
returns c =
    let key_is = to_z-of_z w64 c.args.key c.ranges.key in
    c.value_of_row.ensures
    ∙ ap (option_and_then (λ row. value_put row.1)) (rw key_is at c.last_up_to.ensures)
    ∙ value-after c.args.labels.now c.args.index.now c.args.place c.label_at-label.result c.args.key (omega (arith, c.if-place-eq0.false)) c.label_at-label.ensures
