use Rattle.std.proofs.Common.{◌∙◌, ap, map, arith, inl, inr}
use Rattle.checkpoint_full.specs.Checkpoints.{with_row}
use Rattle.checkpoint_full.proofs.Keeping.{written}
use Rattle.checkpoint_full.proofs.spares.insert_in_spares.Goals as goal

pub returns-in-Err : goal.returns-in-Err
returns-in-Err g c = inr c.truncate.ensures.items

pub returns : goal.returns
returns g c =
    inl (written c.args.spares.now.len c.insert_in_each.new.checkpoints _ (omega (arith, c.as_mut_slice.ensures.len, c.insert_in_each.auto.checkpoints))
    ∙ c.in_default.ensures.ok ∙ ap (λ cs. map (with_row c.args.place c.args.row) cs) c.as_mut_slice.ensures.value)
