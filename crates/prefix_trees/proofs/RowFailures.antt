-- From a search among the sizes of a line to the first row that finds nothing to take.
use Rattle.std.proofs.Common.{◌≡◌, ℕ, ◌+◌, ◌-◌, ◌<◌, ◌≤◌, ℤ, pos, negsuc, ◌-ℤ◌, true, List, length, Option, None, Some, sym, ap, ◌∙◌, arith, subst}
use Rattle.std.specs.Int.Signed.{le_z}
use Rattle.std.specs.Prelude.{slice_get}
use Rattle.std.specs.List.{insert, remove}
use Rattle.monoid_laws.specs.PrefixSumLaws.{le_true}
use Rattle.retro_base.specs.declared.op.Op.{Op}
use Rattle.retro_base.specs.declared.row.Row.{Row}
use Rattle.prefix_trees.specs.Growth.{sign_of}
use Rattle.prefix_trees.specs.Falls.{NeverFalls, FallsFirst}
use Rattle.prefix_trees.specs.Prefixes.{FindsFirstAtMost, IsFirstAtMost, NoneAtMost}
use Rattle.prefix_trees.specs.EditLaws.{falls-insert, falls-later, falls-remove-none, falls-remove-some, never-falls-insert, never-falls-remove}

-- a row that takes nothing, or one that adds nothing and is taken out, stops no other
pub with_none : (rows : List Row) (place : ℕ) (op : Op) (sign : ℤ) → NeverFalls rows → place ≤ length rows → sign ≡ sign_of op → le_z (pos 0) sign ≡ true
    → (row : Row) → row.op ≡ op → FallsFirst (insert rows place row) None
with_none rows place op sign never within is takes_none row same =
    never-falls-insert rows place never row within (le_true (pos 0) (sign_of row.op) (subst (λ s. le_z (pos 0) s ≡ true) (is ∙ ap sign_of (sym same)) takes_none))

pub without_nothing : (rows : List Row) (place : ℕ) (row : Row) (sign : ℤ) → NeverFalls rows → slice_get rows place ≡ Some row → place < length rows
    → sign ≡ sign_of row.op → le_z sign (pos 0) ≡ true → FallsFirst (remove rows place) None
without_nothing rows place row sign never at inside is adds_none = never-falls-remove rows place never row at inside (le_true (sign_of row.op) (pos 0) (subst (λ s. le_z s (pos 0) ≡ true) is adds_none))

module _ (rows : List Row) (never : NeverFalls rows) (place : ℕ) (value : ℤ) where
  pub with_row : (op : Op) (answer : Option ℕ) → value ≡ negsuc 0 -ℤ sign_of op → place ≤ length rows → FindsFirstAtMost sign_of rows place value answer
      → (row : Row) → row.op ≡ op → FallsFirst (insert rows place row) answer
  with_row op answer value_is within found row same =
      falls-insert rows place never row within answer (subst (λ v. FindsFirstAtMost sign_of rows place v answer) (value_is ∙ ap (λ o. negsuc 0 -ℤ sign_of o) (sym same)) found)

  module _ (row : Row) (at : slice_get rows place ≡ Some row) (inside : place < length rows) (value_is : value ≡ sign_of row.op -ℤ pos 1) where
    pub without_none : NoneAtMost sign_of rows (place + 1) (length rows) value → FallsFirst (remove rows place) None
    without_none found = falls-remove-none rows place never row at inside (subst (λ v. FindsFirstAtMost sign_of rows (place + 1) v None) value_is found)

    without_first : (later : ℕ) → IsFirstAtMost sign_of rows (place + 1) value later → IsFirstAtMost sign_of rows (place + 1) (sign_of row.op -ℤ pos 1) later
    without_first later found = subst (λ v. IsFirstAtMost sign_of rows (place + 1) v later) value_is found

    pub without_some : (later : ℕ) → IsFirstAtMost sign_of rows (place + 1) value later → FallsFirst (remove rows place) (Some (later - 2))
    without_some later found = falls-remove-some rows place never row at inside later (without_first later found)

    pub two_on : (later : ℕ) → IsFirstAtMost sign_of rows (place + 1) value later → 2 ≤ later
    two_on later found = omega (arith, falls-later rows place never row at inside later (without_first later found))

    pub within_rest : (later : ℕ) → IsFirstAtMost sign_of rows (place + 1) value later → later - 2 + 1 < length rows
    within_rest later found = omega (arith, two_on later found, found.within)
