use Rattle.std.proofs.Common.{◌≤◌, length, ap, ◌∙◌, rules}
use Rattle.std.specs.List.{insert}
use Rattle.retro_base.specs.declared.kind.Kind.TheVariants.{Dict}
use Rattle.retro_base.specs.Replay.{failure}
use Rattle.retro_dictionary.proofs.FailingRow.{fails-with, index-replays}
use Rattle.retro_dictionary.proofs.dictionary.RetroDictionaryRetro.failure_after_insert.Goals as goal

pub bad_after_insert-requires-clause-replays : goal.bad_after_insert-requires-clause-replays
bad_after_insert-requires-clause-replays c = index-replays c.self.inside.kept.rows c.self.inside.kept.labels c.self.inside.kept.index c.self.inside.kept.segments c.self.invariant

pub returns-clause-first : goal.returns-clause-first
returns-clause-first c = λ row same.
    let within : c.args.place ≤ length c.self.inside.kept.rows = search rules in
    c.place_of_bad.ensures
    ∙ fails-with c.self.inside.kept.rows c.self.inside.kept.labels c.self.inside.kept.index c.self.inside.kept.segments c.self.invariant c.args.place
    c.args.op row same within c.label_before-after.result c.label_before-after.ensures c.bad_after_insert.result c.bad_after_insert.ensures.bad c.bad_after_insert.ensures.good
    ∙ ap (λ rows. failure Dict (insert rows c.args.place row)) c.self.view_is
