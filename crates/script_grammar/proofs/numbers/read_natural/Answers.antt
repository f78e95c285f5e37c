use Rattle.std.proofs.Common.{arith, sym, ◌∙◌}
use Rattle.script_grammar.proofs.Digits.{digit_from_range, ended, stopped}
use Rattle.script_grammar.proofs.numbers.read_natural.Goals as goal

pub returns-in_err-value : goal.returns-in_err-value
returns-in_err-value c =
    rw c.from_residual.ensures
    (stopped _ c.args.digits.now c.loop-digit.digit-index c.loop-digit.value
    (sym c.is_empty.ensures ∙ c.if-is_empty.false)
    c.loop-digit.invariant.0
    c.loop-digit-test.true
    (digit_from_range _ c.if-not-is_ascii_digit.ensures.cases.0 c.if-not-is_ascii_digit.ensures.cases.1)
    (sym c.in_err-value.ensures))

pub returns : goal.returns
returns c =
    ended _ c.args.digits.now c.loop-digit.digit-index c.loop-digit.value
    (sym c.is_empty.ensures ∙ c.if-is_empty.false)
    c.loop-digit.invariant.0
    c.loop-digit-test.false
    (omega arith)
