-- A follower answers, or the bench.
use Rattle.std.proofs.Common.{◌≡◌, List, ℕ, refl, rules}
use Rattle.std.proofs.lemmas.Result.{err_from_is_err_and}
use Rattle.retro_run.specs.Delivery.{Writes}
use Rattle.retro_run.proofs.Muted.{answer_of_bench, answered_by_bench, answered_by_follower, of_follower}
use Rattle.retro_run.proofs.script.answer_line.Goals as goal

pub returns-in-Some-clause-answered : goal.returns-in-Some-clause-answered
returns-in-Some-clause-answered g c =
    answered_by_follower (g.B.AnyBench.state c.args.bench.now).bench _ c.args.line.now c.args.long c.in-Some.number c.in-Some.ensures.speaks.0
    _ refl c.in-Some.ensures.speaks.1 c.answer_by_follower.result _ _ (search rules) c.answer_by_follower.ensures.refused c.answer_by_follower.ensures.gone

pub returns-in-Some-clause-writes : goal.returns-in-Some-clause-writes
returns-in-Some-clause-writes g c =
    of_follower (g.B.AnyBench.state c.args.bench.now).bench _ c.args.line.now c.args.long c.in-Some.number c.in-Some.ensures.speaks.0 _ refl c.in-Some.ensures.speaks.1
    (λ (text : List ℕ). Writes g.K.Sink g.K.SendingSink.sends text (c.answer_by_follower.new.sink ≡ c.args.sink.now) c.args.sink.now c.answer_by_follower.new.sink c.answer_by_follower.result) c.answer_by_follower.ensures.writes

pub returns-clause-answered : goal.returns-clause-answered
returns-clause-answered g c =
    answered_by_bench _ _ _ (g.B.AnyBench.state c.line_into.new.self) c.line_into.new.answer c.in_ok-refused.refused (c.in_default.ensures.silent refl) c.in_ok-refused.ensures.reacts
    _ c.in_ok-refused.ensures.spent (rw c.as_bytes.ensures at c.in_ok-hand_on.ensures)

pub returns-clause-writes : goal.returns-clause-writes
returns-clause-writes g c =
    rw (← answer_of_bench _ _ _ (g.B.AnyBench.state c.line_into.new.self) c.line_into.new.answer c.in_ok-refused.refused (c.in_default.ensures.silent refl) c.in_ok-refused.ensures.reacts)
    (rw c.as_bytes-2.ensures at c.in_ok-append.ensures.appended, c.in_ok-append.ensures.unflushed)

pub returns-in_err-append-clause-writes : goal.returns-in_err-append-clause-writes
returns-in_err-append-clause-writes g c =
    let p = err_from_is_err_and c.from_residual-in_err-append.result c.from_residual-in_err-append.ensures.1 in
    rw (
      p.1,
      p.2,
      c.in_err-append.ensures.failed,
      ← answer_of_bench _ _ _ (g.B.AnyBench.state c.line_into.new.self) c.line_into.new.answer c.in_ok-refused.refused (c.in_default.ensures.silent refl) c.in_ok-refused.ensures.reacts,
    )
    (rw c.as_bytes-2.ensures at c.in_err-append.ensures.part, c.in_err-append.ensures.last)
