use Rattle.std.proofs.Common.{◌<◌, ◌^◌, arith, sym, ◌∙◌}
use Rattle.std.proofs.lemmas.Fmt.{parse-decimal}
use Rattle.evidence.proofs.NumberTexts.{number_parsed, no_number}
use Rattle.evidence.proofs.numbers.parse_number.Goals as goal

pub returns-in-Err : goal.returns-in-Err
returns-in-Err c =
    sym (no_number c.args.text.now (λ n small spelled.
    absurd (cc (parse-decimal 32 n c.args.text.now c.parse.result small (omega arith) spelled c.parse.ensures.value.0))))

pub returns-in-Ok : goal.returns-in-Ok
returns-in-Ok c =
    let small : c.in-Ok.number < 2 ^ 32 = omega (arith, c.in-Ok.ensures.value.0) in
    c.then_some.ensures
    ∙ number_parsed c.args.text.now c.format.result.now c.in-Ok.number c.eq.result small c.format.ensures.text c.eq.ensures
    (λ n fits spelled. cc (parse-decimal 32 n c.args.text.now c.parse.result fits (omega arith) spelled c.parse.ensures.value.0))
