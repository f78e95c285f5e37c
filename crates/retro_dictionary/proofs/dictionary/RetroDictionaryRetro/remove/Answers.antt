use Rattle.std.proofs.Common.{sym, subst, rules}
use Rattle.std.specs.List.{remove}
use Rattle.retro_base.specs.declared.kind.Kind.TheVariants.{Dict}
use Rattle.retro_base.specs.Replay.{IsValid}
use Rattle.retro_base.specs.ReplayableLaws.{replayable_without}
use Rattle.retro_dictionary.proofs.dictionary.RetroDictionaryRetro.remove.Goals as goal

pub remove_row_at-requires-clause-can : goal.remove_row_at-requires-clause-can
remove_row_at-requires-clause-can c =
    let valid : IsValid Dict (remove c.self.inside.kept.rows c.args.place) = subst (λ rows. IsValid Dict (remove rows c.args.place)) (sym c.self.view_is) c.requires.replays in
    record {
      within = search rules;
      after = replayable_without Dict c.self.inside.kept.rows c.args.place c.self.invariant.replayable valid;
    }
