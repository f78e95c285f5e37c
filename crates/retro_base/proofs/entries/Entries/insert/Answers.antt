use Rattle.std.proofs.Common.{◌≡◌, ◌∙◌}
use Rattle.retro_base.specs.State.{with_entry}
use Rattle.retro_base.specs.lemmas.EntrySteps.{put_at, in_order_with}
use Rattle.retro_base.proofs.entries.Entries.insert.Goals as goal

pub invariant_of-self-2 : goal.invariant_of-self-2
invariant_of-self-2 c =
    let put : c.insert.new.self.items ≡ with_entry c.args.entry c.args.self.now = c.in_ok-insert.ensures.items
    ∙ rw c.self.view_is (put_at _ _ _ c.place_of-place.ensures.within c.place_of-place.ensures.before c.place_of-place.ensures.after) in
    rw put (in_order_with _ _ c.place_of-place.ensures.order)

pub returns-clause-ok : goal.returns-clause-ok
returns-clause-ok c = c.in_ok-insert.ensures.items
    ∙ rw c.self.view_is (put_at _ _ _ c.place_of-place.ensures.within c.place_of-place.ensures.before c.place_of-place.ensures.after)
