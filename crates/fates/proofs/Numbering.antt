-- What is there after one more row.
use Rattle.std.proofs.Common.{◌≡◌, ℕ, pos, zero, suc, true, List, [], ◌∷◌, ◌++◌, map, take, refl, sym, ap, ◌∙◌, Option, Some, None}
use Rattle.std.specs.List.{slice_get}
use Rattle.std.specs.Option.{is_some}
use Rattle.std.specs.Result.{result_err, result_unwrap_or}
use Rattle.retro_base.specs.Holders.{numbered, holders}
use Rattle.retro_base.specs.declared.kind.Kind.{Kind}
use Rattle.retro_base.specs.declared.row.Row.{Row}
use Rattle.retro_base.specs.PrefixLaws.{valid_take}
use Rattle.retro_base.specs.Replay.{run, IsValid}
use Rattle.retro_base.specs.State.{State, empty, step}
use Rattle.retro_base.specs.Timeline.{AreOfKind}
use Rattle.retro_base.specs.lemmas.Folds.{fold_rows-nil, fold_rows-last, last_possible}
use Rattle.retro_base.specs.lemmas.ValuedRows.{valued_valid}
use Rattle.retro_base.specs.Outcomes.{is_ok}

next_taken : (rows : List Row) (index : ℕ) (row : Row) → slice_get rows index ≡ Some row → take (suc index) (map numbered rows) ≡ take index (map numbered rows) ++ numbered row ∷ []
next_taken [] index row there = absurd (cc)
next_taken (first ∷ rows) zero row there = ap (λ r. numbered r ∷ []) (let same : first ≡ row = cc in same)
next_taken (first ∷ rows) (suc index) row there = ap (λ rs. numbered first ∷ rs) (next_taken rows index row there)

some_next : (row : Row) (state : State) (o : Option State) → step row state ≡ o → is_some o ≡ true → (next : State) × (step row state ≡ Some next)
some_next row state None e some = absurd (cc)
some_next row state (Some next) e some = (next, e)

pub holders_next : (kind : Kind) (rows : List Row) (index : ℕ) (row : Row) → AreOfKind kind rows → IsValid kind rows → slice_get rows index ≡ Some row
    → step (numbered row) (holders kind rows index) ≡ Some (holders kind rows (suc index))
holders_next kind rows index row all valid there =
    let whole = valued_valid (λ row. pos row.number) kind rows all valid in
    let front = is_ok (run (take index (map numbered rows)) (empty kind)) (valid_take kind (map numbered rows) index whole) in
    let more : result_err (run (take index (map numbered rows) ++ numbered row ∷ []) (empty kind)) ≡ None =
    rw (← next_taken rows index row there) (valid_take kind (map numbered rows) (suc index) whole) in
    let goes = some_next (numbered row) front.0 (step (numbered row) front.0) refl (last_possible step (take index (map numbered rows)) (numbered row) (empty kind) front.0 front.1 more) in
    let now : holders kind rows index ≡ front.0 = ap (λ r. result_unwrap_or r (empty kind)) front.1 in
    let then : holders kind rows (suc index) ≡ goes.0 =
    ap (λ rs. result_unwrap_or (run rs (empty kind)) (empty kind)) (next_taken rows index row there)
    ∙ ap (λ r. result_unwrap_or r (empty kind)) (fold_rows-last step (take index (map numbered rows)) (numbered row) (empty kind) front.0 goes.0 front.1 goes.1) in
    ap (step (numbered row)) now ∙ goes.1 ∙ ap (λ s. Some s) (sym then)

pub holders_first : (kind : Kind) (rows : List Row) → holders kind rows 0 ≡ empty kind
holders_first kind rows = ap (λ r. result_unwrap_or r (empty kind)) (fold_rows-nil step (empty kind))
