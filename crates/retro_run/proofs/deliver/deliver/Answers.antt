-- The text was written, and then one flush was made.
use Rattle.std.proofs.Common.{refl, inr, rules, Ok, Err}
use Rattle.retro_run.proofs.deliver.deliver.Goals as goal

pub returns-in-Ok-clause-stands : goal.returns-in-Ok-clause-stands
returns-in-Ok-clause-stands g c = record {
  appended = search rules;
  flush = record {
    middle = c.append.new.sink;
    wrote = c.in_ok-append.ensures.unflushed;
    answer = Ok c.in-Ok.field-0;
    is = refl;
    flush = c.in-Ok.ensures.does;
  };
  flushed = search rules;
}

pub returns-in-Err-clause-stands : goal.returns-in-Err-clause-stands
returns-in-Err-clause-stands g c = inr (
  search rules,
  record {
    middle = c.append.new.sink;
    wrote = c.in_ok-append.ensures.unflushed;
    answer = Err c.in-Err.field-0;
    is = refl;
    flush = c.in-Err.ensures.does;
  },
)

pub returns-in-Ok-clause-sent : goal.returns-in-Ok-clause-sent
returns-in-Ok-clause-sent g c = g.met.K.SendingSink.flush_sends _ _ c.in-Ok.field-0 c.in-Ok.ensures.does
