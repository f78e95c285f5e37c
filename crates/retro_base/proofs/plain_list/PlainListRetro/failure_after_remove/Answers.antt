use Rattle.std.proofs.Common.{◌≡◌, ◌<◌, length, get_or, sym, ◌∙◌, Some}
use Rattle.std.specs.List.{slice_get}
use Rattle.std.proofs.lemmas.Option.{slice_get-get_or}
use Rattle.retro_base.specs.lemmas.Folds.{no_row}
use Rattle.retro_base.specs.lemmas.Counted.{failure_without}
use Rattle.retro_base.proofs.plain_list.PlainListRetro.failure_after_remove.Goals as goal

pub returns-clause-first : goal.returns-clause-first
returns-clause-first c =
    let within : c.args.place < length c.self.inside.rows.items = rw (← c.self.view_is) at c.requires in
    let row = get_or c.self.inside.rows.items c.args.place no_row in
    let at : slice_get c.self.inside.rows.items c.args.place ≡ Some row = slice_get-get_or c.self.inside.rows.items c.args.place no_row within in
    let seen : slice_get c.as_slice.result.now c.args.place ≡ Some row = rw c.as_slice.ensures.value at in
    rw (← c.self.view_is)
    (rw c.as_slice.ensures.value at (c.first_failure_without.ensures.first row seen)
    ∙ sym (failure_without _ _ c.args.place row c.self.invariant.replayable.of_kind c.self.invariant.replayable.valid at))
