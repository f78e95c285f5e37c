use Rattle.std.proofs.Common.{◌≡◌, ◌+◌, ◌-◌, ◌*◌, ◌∙◌, length, ap, arith}
use Rattle.retro_base.specs.Answers.{answer_of}
use Rattle.retro_base.specs.Bridges.{entries_at}
use Rattle.retro_base.specs.State.{entries}
use Rattle.costs.specs.VisitsLaws.{visits-more, visits-then}
use Rattle.bridge_pq.specs.MarkedRows.{rows_of}
use Rattle.bridge_pq.proofs.Edited.{rows-length}
use Rattle.bridge_pq.proofs.Moved.{as_long, few_there, held_there, if_ok, size_there}
use Rattle.bridge_pq.proofs.later.ask_held.Goals as goal

pub ask_moved-requires-clause-few : goal.ask_moved-requires-clause-few
ask_moved-requires-clause-few g c =
    few_there c.args.entries.now (rows_of c.args.rows.now) c.args.from c.args.to c.requires.earlier c.as_slice.result.now (c.as_slice.ensures.value ∙ c.in_ok-moves.ensures.moves)

pub ask_moved-requires-clause-size : goal.ask_moved-requires-clause-size
ask_moved-requires-clause-size g c =
    size_there c.args.entries.now (rows_of c.args.rows.now) c.args.from c.args.to c.requires.earlier c.as_slice.result.now (c.as_slice.ensures.value ∙ c.in_ok-moves.ensures.moves)

pub returns-clause-answer : goal.returns-clause-answer
returns-clause-answer g c =
    if_ok _ (λ answer. answer ≡ answer_of (entries (entries_at (rows_of c.args.rows.now) c.args.to)) c.args.question) c.ask_moved.result
    (λ answer is. is ∙ ap (λ held. answer_of (entries held) c.args.question)
    (held_there c.args.entries.now (rows_of c.args.rows.now) c.args.from c.args.to c.requires.earlier c.as_slice.result.now (c.as_slice.ensures.value ∙ c.in_ok-moves.ensures.moves))) c.ask_moved.ensures.answer

pub returns-clause-visits : goal.returns-clause-visits
returns-clause-visits g c =
    let long = as_long c.args.entries.now (rows_of c.args.rows.now) c.args.from c.args.to c.requires.earlier c.as_slice.result.now (c.as_slice.ensures.value ∙ c.in_ok-moves.ensures.moves) in
    visits-more (c.args.to - c.args.from + 12 + (112 * length c.as_slice.result.now + 168)) _ _ _ _ (omega (arith, long, c.requires.some))
    (visits-then (c.args.to - c.args.from + 12) (112 * length c.as_slice.result.now + 168) _ _ _ _ _ (omega (arith, c.requires.earlier.fewer, c.requires.earlier.order, c.requires.earlier.within, rows-length c.args.rows.now)) c.moves_between.ensures.visits c.ask_moved.ensures.visits)
