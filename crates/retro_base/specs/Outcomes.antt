-- Facts about the outcome of a replay: the state after the last row, or the index of the first one that fails.
use Rattle.std.proofs.Common.{◌≡◌, ℕ, refl, ap, Some, None, Result, Ok, Err}
use Rattle.std.specs.Result.{result_err, result_unwrap_or}
use Rattle.retro_base.specs.Replay.{one_later}

-- an outcome that is no failure still is none one place earlier, and one place later
pub earlier_none : {S : Type 0} (r : Result S ℕ) → result_err (one_later r) ≡ None → result_err r ≡ None
earlier_none (Ok state) none = refl
earlier_none (Err index) none = absurd (cc)

pub later_none : {S : Type 0} (r : Result S ℕ) → result_err r ≡ None → result_err (one_later r) ≡ None
later_none (Ok state) none = refl
later_none (Err index) none = absurd (cc)

-- a failure has its index, and no failure a state
pub err_of : {S : Type 0} (r : Result S ℕ) (index : ℕ) → result_err r ≡ Some index → r ≡ Err index
err_of (Ok state) index fails = absurd (cc)
err_of (Err j) index fails = let same : j ≡ index = cc in ap (λ k. Err k) same

pub is_ok : {S : Type 0} (r : Result S ℕ) → result_err r ≡ None → (s : S) × (r ≡ Ok s)
is_ok (Ok state) none = (state, refl)
is_ok (Err index) none = absurd (cc)

-- one place later the state is the same
pub same_state : {S : Type 0} (r : Result S ℕ) (s : S) → result_unwrap_or (one_later r) s ≡ result_unwrap_or r s
same_state (Ok state) s = refl
same_state (Err index) s = refl

pub later_ok : {S : Type 0} (r : Result S ℕ) (s : S) → one_later r ≡ Ok s → r ≡ Ok s
later_ok (Ok state) s ok = ok
later_ok (Err index) s ok = absurd (cc)
