use Rattle.std.proofs.Common.{◌≡◌, Some, sym, ap, ◌∙◌}
use Rattle.std.specs.List.{remove}
use Rattle.std.specs.Option.{option_map}
use Rattle.retro_base.specs.declared.row.Row.{Row}
use Rattle.retro_base.specs.declared.kind.Kind.TheVariants.{Dict}
use Rattle.retro_base.specs.Replay.{failure}
use Rattle.retro_dictionary.proofs.FailingRow.{fails-without, index-replays, label-there, within-without}
use Rattle.retro_dictionary.proofs.dictionary.RetroDictionaryRetro.failure_after_remove.Goals as goal

pub bad_without-requires-clause-replays : goal.bad_without-requires-clause-replays
bad_without-requires-clause-replays c = index-replays c.self.inside.kept.rows c.self.inside.kept.labels c.self.inside.kept.index c.self.inside.kept.segments c.self.invariant

pub bad_without-requires-clause-there : goal.bad_without-requires-clause-there
bad_without-requires-clause-there c =
    label-there c.self.inside.kept.rows c.self.inside.kept.labels c.self.inside.kept.index c.self.inside.kept.segments c.self.invariant c.args.place c.label_at-label.result c.label_at-label.ensures
    c.op-op.result (ap (option_map (λ (row : Row). row.op)) (c.get.ensures.item ∙ ap Some (sym c.value.ensures)) ∙ ap Some (sym c.op-op.ensures))

first : (c : goal.After-place_of_bad_label) → c.place_of_bad_label.result ≡ failure Dict (remove c.args.self.now c.args.place)
first c =
    c.place_of_bad_label.ensures
    ∙ fails-without c.self.inside.kept.rows c.self.inside.kept.labels c.self.inside.kept.index c.self.inside.kept.segments c.self.invariant c.args.place
    c.label_at-label.result c.label_at-label.ensures c.bad_without.result c.bad_without.ensures.bad c.bad_without.ensures.good
    ∙ ap (λ rows. failure Dict (remove rows c.args.place)) c.self.view_is

pub returns-clause-first : goal.returns-clause-first
returns-clause-first c = first c

pub returns-clause-index : goal.returns-clause-index
returns-clause-index c = within-without c.args.self.now c.args.place c.place_of_bad_label.result c.requires (first c)
