-- Ranges of a list around a middle item.
use Rattle.std.proofs.Common.{◌≡◌, ℕ, suc, ◌+◌, ◌-◌, ◌<◌, ◌≤◌, List, ◌∷◌, ◌++◌, length, take, drop, ap, ◌∙◌, arith}
use Rattle.std.proofs.lemmas.List.{take-append-le, drop-append-le, length-drop}
use Rattle.std.proofs.Math.Seq.{take-append-add, drop-append-add}
use Rattle.std.specs.List.{slice_range}

module _ {A : Type 0} (before after : List A) (middle : A) where
  beyond_is : (k : ℕ) → length before < k → k ≡ length before + suc (k - length before - 1)
  beyond_is k beyond = omega arith

  pub take-before : (to : ℕ) → to ≤ length before → take to (before ++ middle ∷ after) ≡ take to before
  take-before to within = take-append-le to before (middle ∷ after) within

  pub take-after : (to : ℕ) → length before < to → take to (before ++ middle ∷ after) ≡ before ++ middle ∷ take (to - length before - 1) after
  take-after to beyond =
      ap (λ k. take k (before ++ middle ∷ after)) (beyond_is to beyond)
      ∙ take-append-add before (middle ∷ after) (suc (to - length before - 1))

  pub drop-before : (from : ℕ) → from ≤ length before → drop from (before ++ middle ∷ after) ≡ drop from before ++ middle ∷ after
  drop-before from within = drop-append-le from before (middle ∷ after) within

  pub drop-after : (from : ℕ) → length before < from → drop from (before ++ middle ∷ after) ≡ drop (from - length before - 1) after
  drop-after from beyond =
      ap (λ k. drop k (before ++ middle ∷ after)) (beyond_is from beyond)
      ∙ drop-append-add before (middle ∷ after) (suc (from - length before - 1))

  pub range-before : (from to : ℕ) → from ≤ to → to ≤ length before → slice_range (before ++ middle ∷ after) from to ≡ slice_range before from to
  range-before from to order within =
      ap (take (to - from)) (drop-before from (omega arith))
      ∙ take-append-le (to - from) (drop from before) (middle ∷ after) (omega (arith, length-drop from before))

  pub range-after : (from to : ℕ) → length before < from → slice_range (before ++ middle ∷ after) from to ≡ slice_range after (from - length before - 1) (to - length before - 1)
  range-after from to beyond =
      ap (take (to - from)) (drop-after from beyond)
      ∙ ap (λ k. take k (drop (from - length before - 1) after)) (let same : to - from ≡ to - length before - 1 - (from - length before - 1) = omega arith in same)

  pub range-around : (from to : ℕ) → from ≤ length before → length before < to → slice_range (before ++ middle ∷ after) from to ≡ drop from before ++ middle ∷ take (to - length before - 1) after
  range-around from to within beyond =
      ap (take (to - from)) (drop-before from within)
      ∙ ap (λ k. take k (drop from before ++ middle ∷ after)) (let same : to - from ≡ length (drop from before) + suc (to - length before - 1) = omega (arith, length-drop from before) in same)
      ∙ take-append-add (drop from before) (middle ∷ after) (suc (to - length before - 1))
