-- A pass over the rows counts the dead entries that are held, which are none at a bridge.
use Rattle.std.proofs.Common.{◌≡◌, ◌≢◌, ℕ, pos, suc, ◌+◌, ◌-◌, ◌+ℤ◌, ◌<◌, ◌≤◌, true, false, List, [], ◌∷◌, length, get_or, ◌⊎◌, inl, inr, refl, ap, sym, ◌∙◌, arith, subst, add-one}
use Rattle.std.specs.Prelude.{◌≤ℤ◌, slice_get}
use Rattle.std.proofs.lemmas.List.Sums.{fold_more}
use Rattle.std.proofs.Math.Seq.{take-length}
use Rattle.retro_base.specs.declared.row.Entry.{Entry}
use Rattle.retro_base.specs.declared.row.Row.{Row}
use Rattle.retro_base.specs.Better.{comes_after}
use Rattle.retro_base.specs.Bridges.{survivors, entries_at, is_bridge, last_bridge, first_bridge}
use Rattle.retro_base.specs.BridgeTable.{IsSurvivorBefore}
use Rattle.retro_base.specs.Carried.{IsPqHistory}
use Rattle.retro_base.specs.MarkedChange.{least_survivor}
use Rattle.retro_base.specs.Weights.{added_by, weight, weight_as, sum_of_weights}
use Rattle.retro_base.specs.lemmas.bridges.Best.{FindsBest, after_is_order, least_found, one_best}
use Rattle.retro_base.specs.lemmas.bridges.Entries.{In, contains_in}
use Rattle.retro_base.specs.lemmas.bridges.LossTable.{first_is_least}
use Rattle.retro_base.specs.lemmas.bridges.StatedBridges.{end_is_bridge, last_found}
use Rattle.retro_base.specs.lemmas.bridges.Tests.{bridge_passes, passes_bridge}
use Rattle.retro_base.specs.lemmas.bridges.Weighing.{bridge_is_zero, sum_not_negative}

-- so many dead entries are held at a place
pub record HoldsDead (rows : List Row) (place dead : ℕ) : Type 0 where
  pub weighs : sum_of_weights rows place ≡ pos dead
  pub few : dead ≤ place

module _ (rows : List Row) (history : IsPqHistory rows) where
  module _ (alive : List Entry) (place dead : ℕ) (row d : Row) (same : alive ≡ survivors rows) (so_far : HoldsDead rows place dead) (within : place < length rows) (at : row ≡ get_or rows place d) where
    next_sum : sum_of_weights rows (place + 1) ≡ pos dead +ℤ weight_as alive (added_by row)
    next_sum = fold_more (λ sum r. sum +ℤ weight rows r) (pos 0) rows place d within ∙ rw (so_far.weighs, same, at) refl

    pub next_held : pos 0 ≤ℤ (pos dead +ℤ weight_as alive (added_by row))
    next_held = subst (λ z. pos 0 ≤ℤ z) next_sum (sum_not_negative rows (place + 1) history)

    pub holds_next : (after : ℕ) → pos after ≡ pos dead +ℤ weight_as alive (added_by row) → after ≤ dead + 1 → HoldsDead rows (place + 1) after
    holds_next after weighs few = record { weighs = next_sum ∙ sym weighs; few = omega (arith, so_far.few) }

  pub bridge_here : (place : ℕ) → HoldsDead rows place 0 → is_bridge rows place ≡ true
  bridge_here place none = bridge_passes rows place ((bridge_is_zero rows place history).1 none.weighs)

  pub no_bridge_here : (place dead : ℕ) → HoldsDead rows place dead → dead ≢ 0 → is_bridge rows place ≡ false
  no_bridge_here place dead held some = elim (is_bridge rows place) as (λ b. is_bridge rows place ≡ b → b ≡ false) [
    | true ↦ λ passes. let none : pos dead ≡ pos 0 = sym held.weighs ∙ (bridge_is_zero rows place history).0 (passes_bridge rows place passes) in absurd (some (cc))
    | false ↦ λ fails. refl
  ] refl

  -- back from a place
  pub last_here : (place dead : ℕ) → HoldsDead rows (place + 1) dead → dead ≡ 0 → place + 1 ≡ last_bridge rows (place + 1)
  last_here place dead held none =
      subst (λ n. is_bridge rows n ≡ true → n ≡ last_bridge rows n) (sym (add-one place)) (λ passes. rw passes refl) (bridge_here (place + 1) (rw none at held))

  pub last_before : (place dead bridge : ℕ) → HoldsDead rows (place + 1) dead → dead ≢ 0 → bridge ≡ last_bridge rows place → bridge ≡ last_bridge rows (place + 1)
  last_before place dead bridge held some last =
      subst (λ n. is_bridge rows n ≡ false → bridge ≡ last_bridge rows n) (sym (add-one place)) (λ fails. rw fails last) (no_bridge_here (place + 1) dead held some)

  -- on from a place
  still : (place : ℕ) → place < length rows → length rows - place ≡ suc (length rows - suc place)
  still place within = omega arith

  pub first_here : (place dead : ℕ) → HoldsDead rows place dead → dead ≡ 0 → place < length rows → first_bridge rows place ≡ place
  first_here place dead held none within = rw (still place within, bridge_here place (rw none at held)) refl

  first_later : (place dead : ℕ) → HoldsDead rows place dead → dead ≢ 0 → place < length rows → first_bridge rows place ≡ first_bridge rows (place + 1)
  first_later place dead held some within = rw (add-one place, still place within, no_bridge_here place dead held some) refl

  pub first_next : (from place dead : ℕ) → HoldsDead rows place dead → place < length rows → (from ≤ place → first_bridge rows from ≡ first_bridge rows place)
      → ((from ≤ place) × (dead ≢ 0)) ⊎ (place < from) → from ≤ place + 1 → first_bridge rows from ≡ first_bridge rows (place + 1)
  first_next from place dead held within so_far either after = elim either [
    | inl on ↦ so_far on.0 ∙ first_later place dead held on.1 within
    | inr early ↦ ap (first_bridge rows) (let same : from ≡ place + 1 = omega arith in same)
  ]

-- the place after all rows is a bridge, where the survivors are held
pub last_at_end : (rows : List Row) → last_bridge rows (length rows) ≡ length rows
last_at_end rows =
    let last = last_found rows (length rows) in
    let not_before : ¬ (last_bridge rows (length rows) < length rows) = λ before. last.last (length rows) before (omega arith) (end_is_bridge rows) in
    omega (arith, last.within, not_before)

first_held : (rows : List Row) (held : List Entry) → IsPqHistory rows → entries_at rows (length rows) ≡ held → survivors rows ≡ held
    → FindsBest comes_after (IsSurvivorBefore rows (length rows)) (slice_get held 0)
first_held rows [] history holds all = λ e early. (let inside : In e [] = subst (In e) all (contains_in _ e early.1) in inside)
first_held rows (first ∷ others) history holds all = first_is_least rows (length rows) first others history (end_is_bridge rows) holds

pub least_at_end : (rows : List Row) → IsPqHistory rows → least_survivor rows (length rows) ≡ slice_get (survivors rows) 0
least_at_end rows history =
    one_best comes_after after_is_order (IsSurvivorBefore rows (length rows)) _ _ (least_found rows (length rows))
    (first_held rows (survivors rows) history (ap survivors (take-length rows)) refl)
