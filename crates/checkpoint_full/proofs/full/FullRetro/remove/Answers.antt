use Rattle.std.proofs.Common.{rules, ◌<◌, ◌∙◌, ap, length, map, sym, subst, arith}
use Rattle.std.specs.List.{remove}
use Rattle.retro_base.specs.Replay.{IsValid}
use Rattle.checkpoint_full.specs.Checkpoints.{without_row}
use Rattle.checkpoint_full.proofs.Aside.{all_lose}
use Rattle.checkpoint_full.proofs.Followed.{each_can_lose}
use Rattle.checkpoint_full.proofs.Keeping.{kept_without, written}
use Rattle.checkpoint_full.proofs.Rule.{moved_without, settled_without, wide_without}
use Rattle.checkpoint_full.proofs.full.FullRetro.remove.Goals as goal

pub settle-self-inside-requires-clause-kept : goal.settle-self-inside-requires-clause-kept
settle-self-inside-requires-clause-kept g c =
    kept_without c.self.inside.width c.self.inside.present _ c.self.inside.checkpoints.items _ c.args.place c.remove_everywhere-taken.result.0 c.self.invariant.0.kept
    (subst (λ s. c.args.place < length s.rows) (sym c.self.view_is) c.requires.within) c.remove_everywhere-taken.ensures.present
    (written c.self.inside.checkpoints.len c.remove_everywhere-taken.new.checkpoints _
    (omega (arith, c.as_mut_slice-lent.ensures.len, c.remove_everywhere-taken.auto.checkpoints))
    ∙ c.remove_everywhere-taken.ensures.checkpoints ∙ ap (λ cs. map (without_row c.args.place) cs) c.as_mut_slice-lent.ensures.value)

pub remove_in_spares-requires-clause-lose : goal.remove_in_spares-requires-clause-lose
remove_in_spares-requires-clause-lose g c =
    each_can_lose c.self.inside.present c.args.place c.self.inside.spares.items
    (subst (λ s. IsValid s.kind (remove s.rows c.args.place)) (sym c.self.view_is) c.requires.replays) c.self.invariant.2

pub settle-self-inside-requires-clause-spares : goal.settle-self-inside-requires-clause-spares
settle-self-inside-requires-clause-spares g c =
    all_lose c.self.inside.present _ c.args.place c.remove_everywhere-taken.result.0 c.self.inside.spares.items _ c.self.invariant.2 c.remove_everywhere-taken.ensures.present
    c.remove_in_spares.ensures

pub returns-clause-rule : goal.returns-clause-rule
returns-clause-rule g c =
    let settled = settled_without c.self.inside.width _ c.self.inside.present _ c.self.inside.checkpoints.items _ _ c.args.place c.remove_everywhere-taken.result.0
    (subst (λ s. c.args.place < length s.rows) (sym c.self.view_is) c.requires.within) c.remove_everywhere-taken.ensures.present
    (moved_without c.self.inside.width c.self.inside.present c.self.inside.checkpoints.items _ c.args.place c.self.invariant.0.kept
    (written c.self.inside.checkpoints.len c.remove_everywhere-taken.new.checkpoints _
    (omega (arith, c.as_mut_slice-lent.ensures.len, c.remove_everywhere-taken.auto.checkpoints))
    ∙ c.remove_everywhere-taken.ensures.checkpoints ∙ ap (λ cs. map (without_row c.args.place) cs) c.as_mut_slice-lent.ensures.value))
    c.settle-self-inside.ensures.width c.settle-self-inside.ensures.places in
    record {
      made = search rules;
      width = rw (← c.self.view_is) settled.0;
      places = rw (← c.self.view_is) settled.1;
      wider = wide_without _ _ c.args.place _ c.self.view_is settled.0;
    }
