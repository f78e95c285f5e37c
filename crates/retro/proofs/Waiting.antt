-- Where nothing waits, all that was written is in the sink.
use Rattle.std.proofs.Common.{◌≡◌, ℕ, List, [], Option, None, Some, refl, sym, ap, ◌∙◌}
use Rattle.std.proofs.lemmas.List.{append-nil}
use Rattle.retro_io.specs.Outbox.{then_waiting}

then_none : (written : Option (List ℕ)) → then_waiting written [] ≡ written
then_none None = refl
then_none (Some bytes) = ap (λ xs. Some xs) (append-nil bytes)

pub all_is_in : (written : Option (List ℕ)) (waiting : List ℕ) → waiting ≡ [] → written ≡ then_waiting written waiting
all_is_in written waiting e = sym (ap (then_waiting written) e ∙ then_none written)
