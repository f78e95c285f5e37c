use Rattle.std.proofs.Common.{◌≡◌, sym, ◌∙◌, ap}
use Rattle.retro_base.specs.Kind.{kind_of}
use Rattle.retro_base.specs.Timeline.{Structure}
use Rattle.retro_base.specs.lemmas.Counted.{failure_with}
use Rattle.retro_base.proofs.plain_list.PlainListRetro.failure_after_insert.Goals as goal

pub returns-clause-first : goal.returns-clause-first
returns-clause-first c = λ row same.
    let of_kind : kind_of row.op ≡ c.self.inside.kind = ap kind_of same ∙ c.requires.of_kind ∙ sym (ap (λ (h : Structure). h.kind) c.self.view_is) in
    rw (← c.self.view_is)
    (rw (c.as_slice.ensures.value, ← same) at (c.first_failure_with.ensures.first row same)
    ∙ sym (failure_with _ _ c.args.place row c.self.invariant.replayable.of_kind c.self.invariant.replayable.valid of_kind))
