use Rattle.std.proofs.Common.{sym, ap, ◌∙◌, w64}
use Rattle.std.specs.Prelude.{FitsSigned}
use Rattle.std.specs.Bool.{then_some}
use Rattle.std.specs.Fmt.{signed_decimal}
use Rattle.std.proofs.lemmas.Int.{to_z-of_z}
use Rattle.evidence.proofs.NumberTexts.{key_parsed, no_key, key_text_parsed, parsed_fits, value_fits}
use Rattle.evidence.proofs.numbers.parse_key.Goals as goal

pub returns-in-Err : goal.returns-in-Err
returns-in-Err c =
    sym (no_key c.args.text.now (λ v small spelled.
    absurd (cc (key_text_parsed c.args.text.now v c.parse.result small spelled c.parse.ensures.value.0))))

pub returns-in-Ok : goal.returns-in-Ok
returns-in-Ok c =
    let fits : FitsSigned w64 c.in-Ok.key = parsed_fits c.args.text.now c.in-Ok.key c.parse.result c.parse.ensures.value.0 c.in-Ok.is in
    c.then_some.ensures
    ∙ ap (λ v. then_some c.eq.result v) (to_z-of_z w64 c.in-Ok.key fits)
    ∙ key_parsed c.args.text.now c.format.result.now c.in-Ok.key c.eq.result (value_fits _ fits)
    (c.format.ensures.text ∙ ap (λ v. signed_decimal v) (to_z-of_z w64 c.in-Ok.key fits)) c.eq.ensures
    (λ v small spelled. cc (key_text_parsed c.args.text.now v c.parse.result small spelled c.parse.ensures.value.0, c.in-Ok.is))
