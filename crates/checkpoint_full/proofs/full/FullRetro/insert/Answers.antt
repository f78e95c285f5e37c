use Rattle.std.proofs.Common.{rules, ◌≤◌, ◌∙◌, ap, length, map, sym, subst, arith}
use Rattle.std.specs.List.{insert}
use Rattle.retro_base.specs.Timeline.{IsReplayable}
use Rattle.checkpoint_full.specs.Checkpoints.{with_row}
use Rattle.checkpoint_full.proofs.Aside.{all_follow}
use Rattle.checkpoint_full.proofs.Followed.{each_can_follow}
use Rattle.checkpoint_full.proofs.Keeping.{kept_with, written}
use Rattle.checkpoint_full.proofs.Rule.{moved_with, settled_with, wide_with}
use Rattle.checkpoint_full.proofs.full.FullRetro.insert.Goals as goal

pub settle-self-inside-requires-clause-kept : goal.settle-self-inside-requires-clause-kept
settle-self-inside-requires-clause-kept g c =
    kept_with c.self.inside.width c.self.inside.present _ c.make_room.new.checkpoints.items _ c.args.place c.args.row c.in_ok-split.ensures.keeps
    (subst (λ s. c.args.place ≤ length s.rows) (sym c.self.view_is) c.requires.within) c.in_ok-split.ensures.room c.in-Ok.ensures.present
    (written c.make_room.new.checkpoints.len c.insert_everywhere.new.checkpoints _
    (omega (arith, c.as_mut_slice-lent.ensures.len, c.insert_everywhere.auto.checkpoints))
    ∙ c.in-Ok.ensures.checkpoints ∙ ap (λ cs. map (with_row c.args.place c.args.row) cs) c.as_mut_slice-lent.ensures.value)

pub insert_in_spares-requires-clause-follow : goal.insert_in_spares-requires-clause-follow
insert_in_spares-requires-clause-follow g c =
    each_can_follow c.self.inside.present c.args.place c.args.row c.make_room.new.spares.items
    (subst (λ s. IsReplayable s.kind (insert s.rows c.args.place c.args.row)) (sym c.self.view_is) c.requires.replayable)
    c.in-Ok.ensures.before.valid c.in_ok-split.ensures.spares

pub settle-self-inside-requires-clause-spares : goal.settle-self-inside-requires-clause-spares
settle-self-inside-requires-clause-spares g c =
    all_follow c.self.inside.present _ c.args.place c.args.row c.make_room.new.spares.items _ c.in_ok-split.ensures.spares c.in-Ok.ensures.present c.insert_in_spares.ensures

pub returns-in-Ok-clause-rule : goal.returns-in-Ok-clause-rule
returns-in-Ok-clause-rule g c =
    let settled = settled_with c.self.inside.width _ c.self.inside.present _ c.self.inside.checkpoints.items _ _ c.args.place c.args.row
    (subst (λ s. c.args.place ≤ length s.rows) (sym c.self.view_is) c.requires.within) c.in-Ok.ensures.present
    (moved_with c.self.inside.width c.self.inside.present c.self.inside.checkpoints.items c.make_room.new.checkpoints.items _ c.args.place c.args.row c.self.invariant.0.kept
    c.in_ok-split.ensures.places
    (written c.make_room.new.checkpoints.len c.insert_everywhere.new.checkpoints _
    (omega (arith, c.as_mut_slice-lent.ensures.len, c.insert_everywhere.auto.checkpoints))
    ∙ c.in-Ok.ensures.checkpoints ∙ ap (λ cs. map (with_row c.args.place c.args.row) cs) c.as_mut_slice-lent.ensures.value))
    c.settle-self-inside.ensures.width c.settle-self-inside.ensures.places in
    record {
      made = search rules;
      width = rw (← c.self.view_is) settled.0;
      places = rw (← c.self.view_is) settled.1;
      wider = wide_with _ _ c.args.place _ c.self.view_is settled.0;
    }
