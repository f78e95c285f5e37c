use Rattle.std.proofs.Common.{sym, ◌∙◌}
use Rattle.retro_base.proofs.Padding.{padded_name}
use Rattle.retro_base.proofs.name.Name.read.Goals as goal

pub invariant_of-result : goal.invariant_of-result
invariant_of-result c =
    padded_name c.args.bytes.now c.copy_from_slice.new.self c.copy_from_slice.ensures.after (sym c.is_name.ensures.answer ∙ c.if-not-is_name.false)
