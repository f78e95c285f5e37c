-- No more is accepted than was read, and out of memory hides no refusal.
use Rattle.std.proofs.Common.{arith, sym, ◌∙◌}
use Rattle.retro_run.proofs.Judged.{accepts_one, unrefused, unhidden}
use Rattle.retro_run.proofs.judging.Judging.take.Goals as goal

pub invariant_of-self : goal.invariant_of-self
invariant_of-self c =
    let one = accepts_one c.self.inside.checker c.take.new.self c.args.line.now c.args.long c.in-Ok.ensures.ok in
    (omega (arith, one, c.self.invariant.0), unrefused _ _ (sym c.is_some.ensures ∙ c.if-is_some.false))

pub returns-in-Err-NoMemory-clause-none_hidden : goal.returns-in-Err-NoMemory-clause-none_hidden
returns-in-Err-NoMemory-clause-none_hidden c =
    rw (← c.self.view_is)
    (unhidden c.self.inside.checker c.self.inside.lines c.self.inside.refusal c.args.line.now c.args.long c.in-Err-NoMemory.field-0
    (sym c.is_some.ensures ∙ c.if-is_some.false) c.in-Err-NoMemory.field-0-is c.in-Err-NoMemory.ensures.cause)
