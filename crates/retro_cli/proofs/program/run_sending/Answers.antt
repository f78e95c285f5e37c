-- The promise is kept by the followed run, or by the run.
use Rattle.std.proofs.Common.{◌≡◌, true, false, sym, ◌∙◌}
use Rattle.retro_cli.specs.Forms.{form_of, is_follow}
use Rattle.retro_cli.proofs.Statuses.{keeps_promise, promise_unfollowed}
use Rattle.retro_cli.proofs.program.run_sending.Goals as goal

pub returns-then-is_follow-clause-promise : goal.returns-then-is_follow-clause-promise
returns-then-is_follow-clause-promise g c =
    let yes : is_follow c.args.words.now ≡ true = sym c.is_follow.ensures ∙ c.if-is_follow.true in
    rw (yes, c.status_after.ensures)
    (keeps_promise g.S.Source g.K.Sink _ _ _ _ c.follow_from_start.result _ _ _ c.follow_from_start.ensures.cause
    record {
      prefix = c.follow_from_start.ensures.prefix;
      stands = c.follow_from_start.ensures.stands;
    }
    (λ none. let wrong = none.0 in cc))

pub returns-else-is_follow-clause-promise : goal.returns-else-is_follow-clause-promise
returns-else-is_follow-clause-promise g c =
    let no : is_follow c.args.words.now ≡ false = sym c.is_follow.ensures ∙ c.if-is_follow.false in
    promise_unfollowed g.S.Source g.K.Sink _ _ _ _ c.run_by_form.result (is_follow c.args.words.now) (form_of c.args.words.now) _ _ no (λ form. rw no form)
    c.run_by_form.ensures.promise
