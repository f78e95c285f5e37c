use Rattle.std.proofs.Common.{◌≡◌, ◌≤◌, length, subst}
use Rattle.std.specs.Prelude.{OnOk}
use Rattle.costs.specs.VisitsLaws.{visits-longer, visits-add}
use Rattle.retro_base.specs.lemmas.bridges.Entries.{in_contains}
use Rattle.bridge_pq.proofs.EntryEdits.{put-at, no_shorter}
use Rattle.bridge_pq.proofs.entry_tree.put_entry.Goals as goal

pub returns-clause-ok : goal.returns-clause-ok
returns-clause-ok g c =
    subst (λ l. OnOk c.insert.result (c.insert.new.self ≡ l))
    (put-at (record { entry = c.args.entry; present = c.args.present }) c.args.entries.now c.place_of-place.result (λ inside. c.requires.absent (in_contains _ c.args.entry inside))
    c.place_of-place.ensures.within c.place_of-place.ensures.before c.place_of-place.ensures.after)
    c.insert.ensures.ok

pub returns-clause-visits : goal.returns-clause-visits
returns-clause-visits g c =
    let kept : length c.args.entries.now ≤ length c.insert.new.self =
    no_shorter c.insert.result c.args.entries.now c.insert.new.self c.place_of-place.result _ c.place_of-place.ensures.within c.insert.ensures.ok
    c.insert.ensures.err in
    visits-add 12 12 (length c.insert.new.self) _ _ _ (visits-longer 12 (length c.args.entries.now) _ _ _ kept c.place_of-place.ensures.visits) c.insert.ensures.visits
