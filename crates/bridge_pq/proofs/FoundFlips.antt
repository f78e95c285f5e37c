-- What is found at a bridge is the change that is read off the marks, and what the edit flips.
use Rattle.std.proofs.Common.{◌≡◌, ◌≢◌, ℕ, suc, ◌+◌, ◌-◌, ◌≤◌, true, false, List, length, cond, inl, inr, sym, ap, ◌∙◌, arith, subst, add-one, Option, Some, None}
use Rattle.std.specs.Prelude.{nat_lt, Contains, option_map}
use Rattle.std.specs.List.{insert, remove, slice_get}
use Rattle.std.proofs.lemmas.Bool.{cases_lt}
use Rattle.retro_base.specs.declared.kind.Kind.TheVariants.{Pq}
use Rattle.retro_base.specs.declared.row.Change.{Change}
use Rattle.retro_base.specs.declared.row.Change.TheVariants.{Gain, Lose}
use Rattle.retro_base.specs.declared.row.Entry.{Entry}
use Rattle.retro_base.specs.declared.row.Row.{Row}
use Rattle.retro_base.specs.Better.{comes_after, better_of}
use Rattle.retro_base.specs.State.{comes_before}
use Rattle.retro_base.specs.BridgeTable.{IsSurvivorBefore}
use Rattle.retro_base.specs.Bridges.{survivors, last_bridge, first_bridge}
use Rattle.retro_base.specs.Carried.{IsPqEdit}
use Rattle.retro_base.specs.Changes.{IsPqChange}
use Rattle.retro_base.specs.Edits.{Edit, add, cut, edited, IsAccepted}
use Rattle.retro_base.specs.MarkedChange.{greatest_dead, least_survivor, gained, lost, added_change, cut_change, marked_change, marked_failure}
use Rattle.retro_base.specs.MarkedChangeLaws.{IsRightOf}
use Rattle.retro_base.specs.Replay.{failure}
use Rattle.retro_base.specs.Weights.{added_by}
use Rattle.retro_base.specs.lemmas.bridges.Entries.{in_contains, contains_in}
use Rattle.retro_base.specs.lemmas.bridges.Tests.{in_is_among, not_among}
use Rattle.retro_base.specs.lemmas.bridges.Histories.{some_same, none_some}
use Rattle.retro_base.specs.lemmas.bridges.MarkedChange.{marks_tell}
use Rattle.retro_base.specs.lemmas.bridges.Best.{FindsBest, least_found}
use Rattle.bridge_pq.specs.Bridged.{AddsAt, FindsRow}
use Rattle.bridge_pq.specs.Flips.{Flips}
use Rattle.bridge_pq.proofs.LowestPlaces.{lt_true, lt_false}
use Rattle.bridge_pq.proofs.Places.{insert-at, insert-before, insert-after, remove-before, remove-after}
use Rattle.bridge_pq.proofs.FlippedRows.{flip-gain, flip-loss}
use Rattle.retro_base.specs.Facts.{one_at, some_is_not_none}

-- the place of a row after another one came in or went
pub adds-with : (rows : List Row) (place p : ℕ) (row : Row) (e : Entry) → place ≤ length rows → AddsAt rows p e → AddsAt (insert rows place row) (cond (nat_lt p place) p (p + 1)) e
adds-with rows place p row e within at = elim (cases_lt p place) [
  | inl before ↦ subst (λ n. AddsAt (insert rows place row) n e) (sym (ap (λ b. cond b p (p + 1)) (lt_true p place before))) (at.0, insert-before rows place p row before within ∙ at.1, at.2)
  | inr after ↦
      let moved : cond (nat_lt p place) p (p + 1) ≡ suc p = ap (λ b. cond b p (p + 1)) (lt_false p place after) ∙ add-one p in
      subst (λ n. AddsAt (insert rows place row) n e) (sym moved) (at.0, insert-after rows place p row after within ∙ at.1, at.2)
]

pub adds-without : (rows : List Row) (place p : ℕ) (e : Entry) → p ≢ place → AddsAt rows p e → AddsAt (remove rows place) (cond (nat_lt p place) p (p - 1)) e
adds-without rows place p e other at = elim (cases_lt p place) [
  | inl before ↦ subst (λ n. AddsAt (remove rows place) n e) (sym (ap (λ b. cond b p (p - 1)) (lt_true p place before))) (at.0, remove-before rows place p before ∙ at.1, at.2)
  | inr after ↦
      let moved : cond (nat_lt p place) p (p - 1) ≡ p - 1 = ap (λ b. cond b p (p - 1)) (lt_false p place after) in
      let back : suc (p - 1) ≡ p = omega arith in
      subst (λ n. AddsAt (remove rows place) n e) (sym moved) (at.0, remove-after rows place (p - 1) (omega arith) ∙ ap (slice_get rows) back ∙ at.1, at.2)
]

pub same-entry : (rows : List Row) (p : ℕ) (a b : Entry) → AddsAt rows p a → AddsAt rows p b → a ≡ b
same-entry rows p a b first second =
    some_same (added_by first.0) first.2 (ap added_by (one_at rows p first.0 second.0 first.1 second.1) ∙ second.2)

-- the entry that was read at the place is the one that was found
pub found-at : (rows : List Row) (p : ℕ) (entry : Option Entry) (e : Entry) → FindsRow rows entry (Some p) → AddsAt rows p e → entry ≡ Some e
found-at rows p entry e found at = found.1 ∙ ap (λ x. Some x) (same-entry rows p found.0 e found.2 at)

-- the change by what was found at the bridge
module _ (rows : List Row) (place : ℕ) (row : Row) (bridge : ℕ) (found : Option Entry) where
  pub added-gain : (new : Entry) → added_by row ≡ Some new → bridge ≡ last_bridge rows place → greatest_dead rows bridge ≡ found
      → marked_change rows (add place row) ≡ option_map (λ e. Gain bridge e) (better_of comes_before (Some new) found)
  added-gain new adds is greatest =
      ap (added_change rows place) adds ∙ ap (λ b. gained rows b (Some new)) (sym is) ∙ ap (λ o. option_map (λ e. Gain bridge e) (better_of comes_before (Some new) o)) greatest

  pub added-loss : added_by row ≡ None → bridge ≡ first_bridge rows place → least_survivor rows bridge ≡ found
      → marked_change rows (add place row) ≡ option_map (λ e. Lose (Some bridge) e) found
  added-loss takes is least = ap (added_change rows place) takes ∙ ap (lost rows) (sym is) ∙ ap (option_map (λ e. Lose (Some bridge) e)) least

  pub cut-gain : added_by row ≡ None → bridge ≡ last_bridge rows place → greatest_dead rows bridge ≡ found
      → marked_change rows (cut place row) ≡ option_map (λ e. Gain bridge e) (better_of comes_before None found)
  cut-gain takes is greatest =
      ap (cut_change rows place) takes ∙ ap (λ b. gained rows b None) (sym is) ∙ ap (λ o. option_map (λ e. Gain bridge e) (better_of comes_before None o)) greatest

  pub cut-loss : (own : Entry) → added_by row ≡ Some own → ¬ Contains (survivors rows) own → bridge ≡ first_bridge rows (place + 1) → least_survivor rows bridge ≡ found
      → marked_change rows (cut place row) ≡ option_map (λ e. Lose (Some bridge) e) found
  cut-loss own adds died is least =
      let outside = not_among own (survivors rows) (λ inside. died (in_contains (survivors rows) own inside)) in
      ap (cut_change rows place) adds ∙ ap (λ b. cond b (Some (Lose None own)) (lost rows (first_bridge rows (suc place)))) outside
      ∙ ap (lost rows) (sym (is ∙ ap (first_bridge rows) (add-one place))) ∙ ap (option_map (λ e. Lose (Some bridge) e)) least

pub own-read : (rows : List Row) (place : ℕ) (row : Row) (own : Entry) → added_by row ≡ Some own → Contains (survivors rows) own → marked_change rows (cut place row) ≡ Some (Lose None own)
own-read rows place row own adds lives =
    ap (cut_change rows place) adds
    ∙ ap (λ b. cond b (Some (Lose None own)) (lost rows (first_bridge rows (suc place)))) (in_is_among own (survivors rows) (contains_in (survivors rows) own lives))

-- what it flips
module _ (rows : List Row) (edit : Edit) (possible : IsPqEdit rows edit) where
  pub read-changes : (change : Change) → marked_change rows edit ≡ Some change → IsPqChange rows edit change
  read-changes change read = (subst (IsRightOf rows edit) read (marks_tell rows edit possible)).1

  pub flips-gain : (bridge p : ℕ) (e : Entry) → marked_change rows edit ≡ Some (Gain bridge e) → AddsAt (edited rows edit) p e
      → Flips rows edit (record { change = Gain bridge e; entry = e; place = p; survives = true })
  flips-gain bridge p e read there =
      let changes = read-changes (Gain bridge e) read in record { changes = changes; there = there; marks = flip-gain e (survivors rows) (survivors (edited rows edit)) changes.1 }

  pub flips-loss : (bridge p : ℕ) (e : Entry) → marked_change rows edit ≡ Some (Lose (Some bridge) e) → AddsAt (edited rows edit) p e
      → Flips rows edit (record { change = Lose (Some bridge) e; entry = e; place = p; survives = false })
  flips-loss bridge p e read there =
      let changes = read-changes (Lose (Some bridge) e) read in record { changes = changes; there = there; marks = flip-loss e (survivors rows) (survivors (edited rows edit)) changes.1 }

  -- of an accepted edit a change is read
  pub never-none : IsAccepted Pq rows edit → marked_change rows edit ≡ None → ⊥
  never-none accepted none =
      let fails : failure Pq (edited rows edit) ≡ Some (marked_failure rows edit) = subst (IsRightOf rows edit) none (marks_tell rows edit possible) in
      some_is_not_none (sym fails ∙ accepted)

pub new-there : (rows : List Row) (place : ℕ) (row : Row) (new : Entry) → IsPqEdit rows (add place row) → added_by row ≡ Some new → AddsAt (insert rows place row) place new
new-there rows place row new possible adds = (row, insert-at rows place row possible.within, adds)

-- the row that is cut is another one
pub takes-not : (rows : List Row) (place p : ℕ) (row : Row) (e : Entry) → slice_get rows place ≡ Some row → added_by row ≡ None → AddsAt rows p e → p ≢ place
takes-not rows place p row e there takes at same =
    let here : at.0 ≡ row = one_at rows place at.0 row (subst (λ n. slice_get rows n ≡ Some at.0) same at.1) there in
    none_some (added_by at.0) (ap added_by here ∙ takes) at.2

pub dead-not : (rows : List Row) (place bridge p : ℕ) (row : Row) (own e : Entry) → slice_get rows place ≡ Some row → added_by row ≡ Some own
    → ¬ Contains (survivors rows) own → AddsAt rows p e → least_survivor rows bridge ≡ Some e → p ≢ place
dead-not rows place bridge p row own e there adds died at least same =
    let here : e ≡ own = same-entry rows place e own (subst (λ n. AddsAt rows n e) same at) (row, there, adds) in
    died (subst (Contains (survivors rows)) here (lives (least_survivor rows bridge) (least_found rows bridge) least))
  where
    lives : (found : Option Entry) → FindsBest comes_after (IsSurvivorBefore rows bridge) found → found ≡ Some e → Contains (survivors rows) e
    lives None best none = absurd (cc)
    lives (Some x) best is = let one : x ≡ e = cc in subst (Contains (survivors rows)) one best.one.1
