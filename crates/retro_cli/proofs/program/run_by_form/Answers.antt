-- The promise is kept by how the script was answered, which nobody follows, the evidence judged, or the generated script summed up.
use Rattle.std.proofs.Common.{◌≡◌, ◌≤◌, ◌∙◌, ℕ, List, Some, ap, arith, refl, sym}
use Rattle.retro_base.specs.declared.kind.Kind.{Kind}
use Rattle.retro_run.specs.Summary.{most_generated}
use Rattle.retro_cli.specs.declared.form.Form.TheVariants.{Gen}
use Rattle.retro_cli.specs.Forms.{form_of, generation}
use Rattle.retro_cli.proofs.Statuses.{cause_at_sink, judges_evidence, keeps_promise, promise_of_none, sums_up}
use Rattle.retro_cli.proofs.program.run_by_form.Goals as goal

-- a generated script has no more lines than it may have
generation_within : (word shown start : List ℕ) (kind : Kind) (lines first : ℕ) → generation word shown start ≡ Some (Gen kind lines first) → lines ≤ most_generated
generation_within word shown start kind lines first is = grind arith

form_within : (words : List (List ℕ)) (kind : Kind) (lines first : ℕ) → form_of words ≡ Some (Gen kind lines first) → lines ≤ most_generated
form_within words kind lines first is = grind (arith, generation_within)

pub run_generated-requires : goal.run_generated-requires
run_generated-requires g c =
    form_within c.args.words.now c.in-Some-Gen.kind c.in-Some-Gen.lines c.in-Some-Gen.start (sym c.form_of.ensures ∙ c.in-Some-Gen.is ∙ ap Some c.in-Some-Gen.field-0-is)

pub returns-in-Some-Run-clause-promise : goal.returns-in-Some-Run-clause-promise
returns-in-Some-Run-clause-promise g c =
    rw (← c.form_of.ensures, c.in-Some-Run.is, c.in-Some-Run.field-0-is, c.status_after.ensures)
    (keeps_promise g.S.Source g.K.Sink _ _ _ _ c.run_script.result _ _ _ c.run_script.ensures.cause
    record { prefix = c.run_script.ensures.prefix; stands = c.run_script.ensures.stands } (λ none. cc))

pub returns-in-Some-Check-clause-promise : goal.returns-in-Some-Check-clause-promise
returns-in-Some-Check-clause-promise g c =
    let checked = c.run_check.ensures in
    rw (← c.form_of.ensures, c.in-Some-Check.is, c.in-Some-Check.field-0-is, c.status_after-in-Some-Check.ensures)
    (keeps_promise g.S.Source g.K.Sink _ _ _ _ c.run_check.result _ _ _ checked.cause
    (judges_evidence g.S.Source g.K.Sink g.K.SendingSink.sends _ _ _ _ c.run_check.result checked.ended checked.stands checked.refusal) (λ none. cc))

pub returns-in-Some-Gen-clause-promise : goal.returns-in-Some-Gen-clause-promise
returns-in-Some-Gen-clause-promise g c =
    let made = c.run_generated.ensures in
    rw (← c.form_of.ensures, c.in-Some-Gen.is, c.in-Some-Gen.field-0-is, c.status_after-in-Some-Gen.ensures)
    (keeps_promise g.S.Source g.K.Sink _ _ _ _ c.run_generated.result _ _ _
    (cause_at_sink g.S.Source g.K.Sink _ _ _ _ c.run_generated.result refl made.reads_nothing made.in_time made.sink_faults)
    (sums_up g.S.Source g.K.Sink g.K.SendingSink.sends _ _ _ _ _ _ _ c.run_generated.result refl made.stands made.refusal made.reads_nothing made.in_time) (λ none. cc))

pub returns-in-None-clause-promise : goal.returns-in-None-clause-promise
returns-in-None-clause-promise g c =
    rw (← c.form_of.ensures, c.in-None.is) (promise_of_none g.S.Source g.K.Sink _ _ _ _ _ _ _ refl refl (refl, refl) refl (λ some. cc))
