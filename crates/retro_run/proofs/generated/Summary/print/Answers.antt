-- What was appended, piece by piece.
use Rattle.std.proofs.Common.{◌∙◌, append_assoc, refl, Result, Ok, Err}
use Rattle.std.specs.Prelude.{OnOk}
use Rattle.retro_run.proofs.generated.Summary.print.Goals as goal

on_ok : {X E A B : Type 0} (result : Result X E) → (A → B) → OnOk result A → OnOk result B
on_ok (Ok value) f a = f a
on_ok (Err error) f a = tt

pub returns : goal.returns
returns c =
    on_ok c.push_all-6.result
    (λ last. last
    ∙ rw (
      c.in_ok-push_number-5.ensures.ok,
      c.in_ok-push_all-5.ensures.ok,
      c.in_ok-push_number-4.ensures.ok,
      c.in_ok-push_all-4.ensures.ok,
      c.in_ok-push_number-3.ensures.ok,
      c.in_ok-push_all-3.ensures.ok,
      c.in_ok-push_number-2.ensures.ok,
      c.in_ok-push_all-2.ensures.ok,
      c.in_ok-push_number.ensures.ok,
      c.in_ok-push_all.ensures.ok,
    ) (simp append_assoc refl))
    c.push_all-6.ensures.ok
