use Rattle.std.proofs.Common.{◌≡◌, ◌+◌, ◌<◌, ◌≤◌, length, ap, ◌∙◌, arith, sym, subst}
use Rattle.std.proofs.lemmas.List.Edits.{length-insert}
use Rattle.std.specs.List.{remove}
use Rattle.retro_base.specs.declared.kind.Kind.TheVariants.{Pq}
use Rattle.retro_base.specs.EditedLists.{remove-insert}
use Rattle.retro_base.specs.InsertedLaws.{kind_for}
use Rattle.retro_base.specs.Limits.{most_rows}
use Rattle.retro_base.specs.Replay.{IsValid}
use Rattle.pq_fusion.specs.Wear.{WornRows}
use Rattle.pq_fusion.proofs.Walked.{queue_alone, queue_and_tree, queue_twice, queue_visits, tree_visits}
use Rattle.pq_fusion.proofs.fused_queue.insert_into_both.Goals as goal

pub edit-requires : goal.edit-requires
edit-requires g c =
    let size = length-insert c.args.queue.now c.args.place c.args.row c.requires.within in
    let within : c.args.place ≤ length c.args.rows.now.rows = omega (arith, ap length c.requires.same, c.requires.within) in
    let room : length c.args.rows.now.rows < most_rows = omega (arith, ap length c.requires.same, size, c.requires.replayable.few) in
    record { possible = (within, room, kind_for Pq c.args.queue.now c.args.place c.args.row c.requires.replayable) }

pub remove-requires-clause-replays : goal.remove-requires-clause-replays
remove-requires-clause-replays g c =
    let back : remove c.insert.new.self c.args.place ≡ c.args.queue.now =
    ap (λ rows. remove rows c.args.place) c.in_ok-change.ensures.rows ∙ remove-insert c.args.queue.now c.args.place c.args.row c.requires.within in
    subst (IsValid Pq) (sym back) c.kind-replayable.ensures.replayable.valid

pub returns-in-Err-clause-err : goal.returns-in-Err-clause-err
returns-in-Err-clause-err g c =
    c.remove.ensures.rows ∙ ap (λ rows. remove rows c.args.place) c.in_ok-change.ensures.rows ∙ remove-insert c.args.queue.now c.args.place c.args.row c.requires.within

pub returns-in-Err-clause-same : goal.returns-in-Err-clause-same
returns-in-Err-clause-same g c = ap (λ (part : WornRows). part.rows) c.in-Err.ensures.err ∙ c.requires.same ∙ sym (returns-in-Err-clause-err g c)

pub returns-in_err-change-clause-visits : goal.returns-in_err-change-clause-visits
returns-in_err-change-clause-visits g c =
    let n = length c.args.queue.now + 1 in
    queue_alone n _ _ (queue_visits n (length c.insert.new.self) _ _ (omega (arith, ap length c.in_err-change.ensures.err)) c.insert.ensures.visits)

pub returns-in-Err-clause-visits : goal.returns-in-Err-clause-visits
returns-in-Err-clause-visits g c =
    let n = length c.args.queue.now + 1 in
    let size = ap length c.in_ok-change.ensures.rows ∙ length-insert c.args.queue.now c.args.place c.args.row c.requires.within in
    queue_twice n _ c.insert.new.steps c.edit.new.steps _ (queue_visits n (length c.insert.new.self) _ _ (omega (arith, size)) c.insert.ensures.visits)
    (tree_visits n c.args.rows.now.rows _ _ (omega (arith, ap length c.requires.same)) c.edit.ensures.visits)
    (queue_visits n (length c.insert.new.self) _ _ (omega (arith, size)) c.remove.ensures.visits)

pub returns-clause-visits : goal.returns-clause-visits
returns-clause-visits g c =
    let n = length c.args.queue.now + 1 in
    let size = ap length c.in_ok-change.ensures.rows ∙ length-insert c.args.queue.now c.args.place c.args.row c.requires.within in
    queue_and_tree n _ c.insert.new.steps _ (queue_visits n (length c.insert.new.self) _ _ (omega (arith, size)) c.insert.ensures.visits)
    (tree_visits n c.args.rows.now.rows _ _ (omega (arith, ap length c.requires.same)) c.edit.ensures.visits)
