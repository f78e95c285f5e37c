-- Ranges of rows in two parts.
use Rattle.std.proofs.Common.{◌≡◌, ℕ, zero, suc, ◌+◌, ◌-◌, ◌≤◌, List, [], ◌∷◌, ◌++◌, length, take, drop, refl, ap, ◌∙◌, arith, add-one}
use Rattle.std.proofs.lemmas.List.{drop-append-le, length-drop, length-take}
use Rattle.std.proofs.Math.Seq.{take-append-add, drop-append-add}
use Rattle.std.specs.List.{slice_range, remove}
use Rattle.retro_base.specs.declared.row.Row.{Row}

module _ (before after : List Row) (own : ℕ) (own_is : own ≡ length before) where
  beyond_is : (k : ℕ) → own ≤ k → k ≡ length before + (k - own)
  beyond_is k beyond = omega (arith, own_is, beyond)

  pub take-later : (to : ℕ) → own ≤ to → take to (before ++ after) ≡ before ++ take (to - own) after
  take-later to beyond = ap (λ k. take k (before ++ after)) (beyond_is to beyond) ∙ take-append-add before after (to - own)

  pub drop-earlier : (from : ℕ) → from ≤ own → drop from (before ++ after) ≡ drop from before ++ after
  drop-earlier from within = drop-append-le from before after (omega (arith, own_is, within))

  pub drop-later : (from : ℕ) → own ≤ from → drop from (before ++ after) ≡ drop (from - own) after
  drop-later from beyond = ap (λ k. drop k (before ++ after)) (beyond_is from beyond) ∙ drop-append-add before after (from - own)

  pub range-later : (from to : ℕ) → own ≤ from → slice_range (before ++ after) from to ≡ slice_range after (from - own) (to - own)
  range-later from to beyond =
      ap (take (to - from)) (drop-later from beyond)
      ∙ ap (λ k. take k (drop (from - own) after)) (let same : to - from ≡ to - own - (from - own) = omega (arith, beyond) in same)

  pub range-across : (from to : ℕ) → from ≤ own → own ≤ to → slice_range (before ++ after) from to ≡ drop from before ++ take (to - own) after
  range-across from to within beyond =
      ap (take (to - from)) (drop-earlier from within)
      ∙ ap (λ k. take k (drop from before ++ after)) (let same : to - from ≡ length (drop from before) + (to - own) = omega (arith, own_is, within, beyond, length-drop from before) in same)
      ∙ take-append-add (drop from before) after (to - own)

-- of no rows there are none
pub take_none : (n : ℕ) → take {A = Row} n [] ≡ []
take_none zero = refl
take_none (suc n) = refl

-- all of them
pub take_all : (rows : List Row) (n : ℕ) → n ≡ length rows → take n rows ≡ rows
take_all [] n all = rw all refl
take_all (row ∷ rows) zero all = absurd (omega (arith, all))
take_all (row ∷ rows) (suc n) all = ap (λ l. row ∷ l) (take_all rows n (omega (arith, all)))

pub take_size : (rows : List Row) (n : ℕ) → length (take n rows) ≤ n
take_size rows n = omega (arith, length-take n rows)

pub drop_size : (rows : List Row) (n : ℕ) → length (drop n rows) ≡ length rows - n
drop_size rows n = length-drop n rows

pub removed_is : (rows : List Row) (place : ℕ) → take place rows ++ drop (place + 1) rows ≡ remove rows place
removed_is rows place = ap (λ k. take place rows ++ drop k rows) (add-one place)
