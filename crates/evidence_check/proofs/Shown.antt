-- What marked rows show is what the definition of the change reads off the rows.
use Rattle.std.proofs.Common.{◌≡◌, ℕ, zero, suc, Bool, true, false, List, [], ◌∷◌, take, drop, refl, sym, ap, ◌∙◌, Some, None}
use Rattle.std.specs.Prelude.{slice_get, option_map}
use Rattle.std.specs.List.{AllByRecursion}
use Rattle.std.proofs.lemmas.Option.{slice_get-map}
use Rattle.retro_base.specs.declared.row.Row.{Row}
use Rattle.retro_base.specs.Better.{comes_after, best_among}
use Rattle.retro_base.specs.Bridges.{survivors}
use Rattle.retro_base.specs.Carried.{IsPqEdit}
use Rattle.retro_base.specs.MarkedChange.{is_one_of, dead_in, alive_in}
use Rattle.retro_base.specs.MarkedChange as change
use Rattle.retro_base.specs.OrderLaws.{all_at}
use Rattle.retro_base.specs.State.{comes_before}
use Rattle.retro_base.specs.Weights.{added_by}
use Rattle.retro_base.specs.lemmas.bridges.Best.{best_marked}
use Rattle.evidence_check.specs.declared.weighed_row.WeighedRow.{WeighedRow}
use Rattle.evidence_check.specs.Marks.{MarksSurvivors, IsMarked, alive_entry, dead_entry, entry_of, greatest_dead, is_alive_at, least_alive, unweighed, rows_of}
use Rattle.evidence_check.specs.Truth.{edit_with}
use Rattle.evidence_check.proofs.Marking.{take_rows, drop_rows}

pub all_take : {X : Type 0} (P : X → Type 0) (n : ℕ) (xs : List X) → AllByRecursion P xs → AllByRecursion P (take n xs)
all_take P zero xs all = tt
all_take P (suc n) [] all = tt
all_take P (suc n) (x ∷ xs) all = (all.0, all_take P n xs all.1)

all_drop : {X : Type 0} (P : X → Type 0) (n : ℕ) (xs : List X) → AllByRecursion P xs → AllByRecursion P (drop n xs)
all_drop P zero xs all = all
all_drop P (suc n) [] all = tt
all_drop P (suc n) (x ∷ xs) all = all_drop P n xs all.1

module _ (marked : List WeighedRow) (kept : MarksSurvivors marked) (place : ℕ) where
  pub greatest_is : greatest_dead (drop place marked) ≡ change.greatest_dead (rows_of marked) place
  greatest_is =
      best_marked (IsMarked (survivors (rows_of marked))) comes_before unweighed dead_entry (change.dead_entry (survivors (rows_of marked))) (λ row marks. ap (λ b. dead_in b (entry_of row)) marks) None
      (drop place marked) (all_drop (IsMarked (survivors (rows_of marked))) place marked kept.marks)
      ∙ ap (best_among comes_before (change.dead_entry (survivors (rows_of marked))) None) (sym (drop_rows place marked))

  pub least_is : least_alive (take place marked) ≡ change.least_survivor (rows_of marked) place
  least_is =
      best_marked (IsMarked (survivors (rows_of marked))) comes_after unweighed alive_entry (change.alive_entry (survivors (rows_of marked))) (λ row marks. ap (λ b. alive_in b (entry_of row)) marks) None
      (take place marked) (all_take (IsMarked (survivors (rows_of marked))) place marked kept.marks)
      ∙ ap (best_among comes_after (change.alive_entry (survivors (rows_of marked))) None) (sym (take_rows place marked))

  -- the entry of the row at the place survives where its mark says so
  pub mark_at : (row : Row) → slice_get (rows_of marked) place ≡ Some row → is_alive_at marked place ≡ is_one_of (survivors (rows_of marked)) (added_by row)
  mark_at row there =
      elim (slice_get marked place) as (λ o. slice_get marked place ≡ o → is_alive_at marked place ≡ is_one_of (survivors (rows_of marked)) (added_by row)) [
        | None ↦ λ none. let wrong : None ≡ Some row = ap (option_map unweighed) (sym none) ∙ sym (slice_get-map unweighed marked place) ∙ there in absurd (cc)
        | Some m ↦ λ is.
            let one : Some (unweighed m) ≡ Some row = ap (option_map unweighed) (sym is) ∙ sym (slice_get-map unweighed marked place) ∙ there in
            let same : unweighed m ≡ row = cc in
            rw is (all_at (IsMarked (survivors (rows_of marked))) marked place m kept.marks is ∙ ap (λ r. is_one_of (survivors (rows_of marked)) (added_by r)) same)
      ] refl

-- so the change of a row that is cut, by its mark
pub mark_cut : (marked : List WeighedRow) → MarksSurvivors marked → (added : Bool) (place : ℕ) (row : Row) → IsPqEdit (rows_of marked) (edit_with added place row) → added ≡ false
    → is_alive_at marked place ≡ is_one_of (survivors (rows_of marked)) (added_by row)
mark_cut marked kept true place row possible is = absurd (cc)
mark_cut marked kept false place row possible is = mark_at marked kept place row possible.within
