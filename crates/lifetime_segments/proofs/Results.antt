-- What is known where a call went well, or failed.
use Rattle.std.proofs.Common.{◌≡◌, subst}
use Rattle.std.specs.Prelude.{Option, None, List, Result, Ok, Err, OnOk, OnErr}
use Rattle.lifetime_segments.specs.declared.lifetime.Lifetime.{Lifetime}
use Rattle.lifetime_segments.specs.Tries.{Changes, Edits}

pub ok_weaker : {T E : Type 0} {P Q : Type 0} (result : Result T E) → (P → Q) → OnOk result P → OnOk result Q
ok_weaker (Ok x) weaker held = weaker held
ok_weaker (Err e) weaker held = tt

pub err_always : {T E : Type 0} {P : Type 0} (result : Result T E) → P → OnErr result P
err_always (Ok x) held = tt
err_always (Err e) held = held

-- an edit, by what is known at either end
pub edits_by : {A T E P Q : Type 0} (gone come : Option (Lifetime A)) (Old New : List (Lifetime A) → Type 0) (result : Result T E)
    → (P → Changes gone come Old New) → (Q → Changes None None Old New) → OnOk result P → OnErr result Q → Edits gone come Old New result
edits_by _ come Old New (Ok x) changes keeps went failed = (changes went, tt)
edits_by _ come Old New (Err e) changes keeps went failed = (tt, keeps failed)

pub changes_at : {A : Type 0} (gone come other_gone other_come : Option (Lifetime A)) (Old New : List (Lifetime A) → Type 0) → gone ≡ other_gone → come ≡ other_come → Changes gone come Old New → Changes other_gone other_come Old New
changes_at gone come other_gone other_come Old New same_gone same_come changes =
    subst (λ o. Changes o other_come Old New) same_gone (subst (λ o. Changes gone o Old New) same_come changes)
