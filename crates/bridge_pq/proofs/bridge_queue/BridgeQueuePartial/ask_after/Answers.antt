use Rattle.std.proofs.Common.{◌≡◌, ◌+◌, ◌-◌, ◌*◌, ◌∙◌, List, length, ap, sym, arith}
use Rattle.retro_base.specs.declared.row.Row.{Row}
use Rattle.bridge_pq.proofs.Edited.{rows-length}
use Rattle.retro_base.specs.declared.kind.Kind.TheVariants.{Pq}
use Rattle.retro_base.specs.Answers.{answer_of}
use Rattle.retro_base.specs.Replay.{state_at}
use Rattle.costs.specs.VisitsLaws.{visits-more, visits-longer}
use Rattle.bridge_pq.proofs.EarlierRows.{held_state, is_earlier}
use Rattle.bridge_pq.proofs.Moved.{if_ok}
use Rattle.bridge_pq.specs.MarkedRows.{rows_of}
use Rattle.bridge_pq.proofs.bridge_queue.BridgeQueuePartial.ask_after.Goals as goal

pub returns-then-place-len-clause-visits : goal.returns-then-place-len-clause-visits
returns-then-place-len-clause-visits g c =
    visits-more 144 _ _ _ _ (omega arith) (visits-longer 144 _ _ _ _ (omega (arith, c.requires.earlier, c.requires.within)) c.ask_now.ensures.visits)

pub ask_held-requires-clause-earlier : goal.ask_held-requires-clause-earlier
ask_held-requires-clause-earlier g c = is_earlier c.self.inside.rows c.later.inside.rows c.self.inside.entries c.later.inside.entries c.self.invariant c.later.invariant c.args.self.now c.args.later.now c.self.view_is c.later.view_is c.requires.first c.len-2.result c.args.place c.len-2.ensures.length c.requires.earlier c.requires.within

pub returns-clause-answer : goal.returns-clause-answer
returns-clause-answer g c =
    if_ok _ (λ answer. answer ≡ answer_of (state_at Pq c.args.later.now c.args.place) c.args.question) c.ask_held.result
    (λ answer is. is ∙ ap (λ state. answer_of state c.args.question) (sym (held_state (rows_of c.later.inside.rows) c.args.place c.later.invariant.replayable))
    ∙ ap (λ rows. answer_of (state_at Pq rows c.args.place) c.args.question) c.later.view_is) c.ask_held.ensures.answer

pub returns-clause-visits : goal.returns-clause-visits
returns-clause-visits g c =
    let long = rows-length c.later.inside.rows in
    let same = ap (λ (rows : List Row). length rows) c.later.view_is in
    visits-more (288 * (c.args.place - c.len-2.result) + 144) _ _ _ _ (omega (arith, c.len-2.ensures.length))
    (visits-longer (288 * (c.args.place - c.len-2.result) + 144) (length c.later.inside.rows) _ _ _ (omega (arith, long, same)) c.ask_held.ensures.visits)
