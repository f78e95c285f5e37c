use Rattle.std.proofs.Common.{◌∙◌, ap, map, arith}
use Rattle.checkpoint_full.specs.Checkpoints.{without_row}
use Rattle.checkpoint_full.proofs.Keeping.{written}
use Rattle.checkpoint_full.proofs.spares.remove_in_spares.Goals as goal

pub returns : goal.returns
returns g c =
    written c.args.spares.now.len c.remove_in_each.new.checkpoints _ (omega (arith, c.as_mut_slice.ensures.len, c.remove_in_each.auto.checkpoints))
    ∙ c.remove_in_each.ensures ∙ ap (λ cs. map (without_row c.args.place) cs) c.as_mut_slice.ensures.value
