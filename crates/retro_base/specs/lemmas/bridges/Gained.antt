-- What is gained: of the entries that are taken after the edit, and of the one that comes in, the greatest is left over. No
-- dead entry is held at the last bridge before it, and those that were taken between are outlived by a greater dead one.
--
--     bridge ... place | taken entries ...      gained: the greatest dead entry from the bridge on
use Rattle.std.proofs.Common.{◌≡◌, ℕ, suc, ◌+◌, ◌-◌, ◌<◌, ◌≤◌, List, ◌∷◌, ◌++◌, length, take, drop, ◌⊎◌, inl, inr, ap, sym, ◌∙◌, arith, subst, Some, None}
use Rattle.std.specs.Prelude.{◌↔◌}
use Rattle.std.proofs.lemmas.List.{drop-drop, take-map}
use Rattle.std.proofs.lemmas.Option.{slice_get_within}
use Rattle.retro_base.specs.declared.row.Entry.{Entry}
use Rattle.retro_base.specs.declared.row.Row.{Row}
use Rattle.retro_base.specs.Edits.{add, cut, edited}
use Rattle.retro_base.specs.Bridges.{entries_at, survivors, IsBridge, IsLastBridge}
use Rattle.retro_base.specs.Changes.{Joins, Gains}
use Rattle.retro_base.specs.Weights.{added_by}
use Rattle.retro_base.specs.Carried.{IsPqHistory, IsPqEdit}
use Rattle.retro_base.specs.BridgeTable.{added, IsDeadFrom, IsGreatest}
use Rattle.retro_base.specs.State.{comes_before}
use Rattle.retro_base.specs.lemmas.bridges.Best.{best_alone, before_is_order}
use Rattle.retro_base.specs.lemmas.bridges.Bridging.{AllIn, all_in, bridge_all, all_bridge}
use Rattle.retro_base.specs.lemmas.bridges.Added.{added_adds, adds_added}
use Rattle.retro_base.specs.lemmas.bridges.Entries.{In, contains_in, in_contains}
use Rattle.retro_base.specs.lemmas.bridges.EntryOrder.{not_before_later}
use Rattle.retro_base.specs.lemmas.bridges.Moves.{Leads, Adds, came_from, adds_first, adds_second, adds_both}
use Rattle.retro_base.specs.lemmas.bridges.Histories.{moves_of, moves_split, history_at}
use Rattle.retro_base.specs.lemmas.bridges.Junctions.{parted_at, row_at, seam_of_add, seam_of_cut, junction_added, junction_taken}
use Rattle.retro_base.specs.lemmas.bridges.After.{after_place, entries_after, carried_to_end, one_more_survives}
use Rattle.retro_base.specs.lemmas.bridges.Carried.{AtMost}
use Rattle.retro_base.specs.lemmas.bridges.Chain.{NoneAfter, outlived}
use Rattle.retro_base.specs.lemmas.bridges.Later.{one_joins}
use Rattle.retro_base.specs.lemmas.bridges.EditJunctions.{cut_take_holds}

-- between a bridge and a place after it
pub record Between (rows : List Row) (bridge place : ℕ) : Type 0 where
  pub up_to : Leads (moves_of (take (place - bridge) (drop bridge rows))) (entries_at rows bridge) (entries_at rows place)
  pub split : moves_of (drop bridge rows) ≡ moves_of (take (place - bridge) (drop bridge rows)) ++ moves_of (drop place rows)

pub between : (rows : List Row) (bridge place : ℕ) → IsPqHistory rows → bridge ≤ place → place ≤ length rows → Between rows bridge place
between rows bridge place history before within =
    let parts = after_place (parted_at rows bridge (omega arith) history) history.valid (place - bridge) in
    let there : bridge + (place - bridge) ≡ place = omega arith in
    record {
      up_to = subst (λ n. Leads (moves_of (take (place - bridge) (drop bridge rows))) (entries_at rows bridge) (entries_at rows n)) there parts.up_to;
      split = moves_split (place - bridge) (drop bridge rows)
          ∙ ap (λ l. moves_of (take (place - bridge) (drop bridge rows)) ++ moves_of l) (drop-drop (place - bridge) bridge rows ∙ ap (λ n. drop n rows) there);
    }

-- no place between is a bridge
none_between : (rows : List Row) (bridge place : ℕ) → IsPqHistory rows → place ≤ length rows → IsLastBridge rows place bridge
    → NoneAfter (place - bridge) (moves_of (drop bridge rows)) (entries_at rows bridge) (survivors rows)
none_between rows bridge place history within last = λ k next less way all.
    let before : bridge ≤ place = last.within in
    let there : entries_at rows (bridge + suc k) ≡ next =
    entries_after (parted_at rows bridge (omega arith) history) (suc k) next
    (subst (λ l. Leads l (entries_at rows bridge) next) (take-map added_by (suc k) (drop bridge rows)) way) in
    last.last (bridge + suc k) (omega arith) (omega arith)
    (all_bridge (survivors rows) (entries_at rows (bridge + suc k)) (subst (AllIn (survivors rows)) (sym there) all))

-- what is dead and held at the place, or added after it, was added from the bridge on
pub dead_from : (rows : List Row) (bridge place : ℕ) (x : Entry) → IsPqHistory rows → bridge ≤ place → place ≤ length rows → IsBridge rows bridge
    → In x (entries_at rows place) ⊎ Adds x (moves_of (drop place rows)) → ¬ In x (survivors rows) → IsDeadFrom rows bridge x
dead_from rows bridge place x history before within is_bridge origin died =
    let b = between rows bridge place history before within in
    let front = moves_of (take (place - bridge) (drop bridge rows)) in
    let adds : Adds x (front ++ moves_of (drop place rows)) = elim origin [
      | inl there ↦ elim (came_from x front (entries_at rows bridge) (entries_at rows place) b.up_to there) [
        | inl early ↦ absurd (died (all_in (survivors rows) (entries_at rows bridge) x (bridge_all (survivors rows) (entries_at rows bridge) is_bridge) early))
        | inr added ↦ adds_first x front (moves_of (drop place rows)) added
      ]
      | inr later ↦ adds_second x front (moves_of (drop place rows)) later
    ] in
    (in_contains _ x (adds_added (drop bridge rows) x (subst (Adds x) (sym b.split) adds)), λ inside. died (contains_in _ x inside))

-- what is no less than all the dead that are held at the place or added after it is no less than the dead from the bridge on
pub bound_from : (rows : List Row) (bridge place : ℕ) (last x : Entry) → IsPqHistory rows → place ≤ length rows → IsLastBridge rows place bridge
    → ((y : Entry) → In y (entries_at rows place) ⊎ Adds y (moves_of (drop place rows)) → ¬ In y (survivors rows) → AtMost y last)
    → IsDeadFrom rows bridge x → AtMost x last
bound_from rows bridge place last x history within last_bridge bound dead =
    let before : bridge ≤ place = last_bridge.within in
    let b = between rows bridge place history before within in
    let front = moves_of (take (place - bridge) (drop bridge rows)) in
    let died : ¬ In x (survivors rows) = λ inside. dead.1 (in_contains _ x inside) in
    let adds : Adds x (front ++ moves_of (drop place rows)) = subst (Adds x) b.split (added_adds (drop bridge rows) x (contains_in _ x dead.0)) in
    elim (adds_both x front (moves_of (drop place rows)) adds) [
      | inl early ↦
          let moved = take-map added_by (place - bridge) (drop bridge rows) in
          let outlives = outlived (place - bridge) (moves_of (drop bridge rows)) (entries_at rows bridge) (entries_at rows place) (survivors rows) x
          (history_at rows bridge history).ready (subst (λ l. Leads l (entries_at rows bridge) (entries_at rows place)) (sym moved) b.up_to)
          (none_between rows bridge place history within last_bridge) (inr (subst (Adds x) (sym moved) early)) died in
          not_before_later last outlives.later x (bound outlives.later (inl outlives.held_there) outlives.dead) outlives.no_less
      | inr later ↦ bound x (inr later) died
    ]

-- the greatest is one alone, and is the one that is gained
pub gained_iff : (P : Entry → Type 0) (last entry : Entry) (before after : List Entry) → Joins last before after → IsGreatest P last
    → Joins entry before after ↔ IsGreatest P entry
gained_iff P last entry before after joined greatest = (
  λ join. subst (IsGreatest P) (sym (one_joins entry last before after join joined.joined)) greatest,
  λ great. subst (λ x. Joins x before after) (best_alone comes_before before_is_order P last entry greatest great) joined,
)

pub added_entry_gains : (rows : List Row) (place : ℕ) (row : Row) (new : Entry) (bridge : ℕ) (entry : Entry) → IsPqEdit rows (add place row)
    → added_by row ≡ Some new → IsLastBridge rows place bridge
    → Gains rows (add place row) entry ↔ IsGreatest (λ e. (e ≡ new) ⊎ IsDeadFrom rows bridge e) entry
added_entry_gains rows place row new bridge entry possible adds last_bridge =
    let j = junction_added (seam_of_add rows place row possible) new adds in
    let history = possible.history in
    let c = carried_to_end j history.valid in
    gained_iff _ c.last entry (survivors rows) (survivors (edited rows (add place row))) (one_more_survives j history.valid)
    (record {
      one = elim c.among [
        | inl same ↦ inl same
        | inr origin ↦ inr (dead_from rows bridge place c.last history last_bridge.within possible.within last_bridge.bridges origin c.absent)
      ];
      unbeaten = λ other is_one. elim is_one [
        | inl same ↦ subst (λ x. AtMost x c.last) (sym same) c.least
        | inr dead ↦ bound_from rows bridge place c.last other history possible.within last_bridge c.greatest dead
      ];
    })

pub cut_take_gains : (rows : List Row) (place : ℕ) (row : Row) (bridge : ℕ) (entry : Entry) → IsPqEdit rows (cut place row)
    → added_by row ≡ None → IsLastBridge rows place bridge
    → Gains rows (cut place row) entry ↔ IsGreatest (IsDeadFrom rows bridge) entry
cut_take_gains rows place row bridge entry possible takes last_bridge =
    let found = cut_take_holds rows place row possible takes in
    let j = junction_taken (seam_of_cut rows place row possible) found.0 found.1 takes found.2 in
    let history = possible.history in
    let c = carried_to_end j history.valid in
    let inside : place < length rows = slice_get_within rows place row possible.within in
    let within : place ≤ length rows = omega arith in
    let next : moves_of (drop place rows) ≡ None ∷ moves_of (drop (suc place) rows) =
    ap moves_of (row_at rows place row possible.within) ∙ ap (λ m. m ∷ moves_of (drop (suc place) rows)) takes in
    gained_iff _ c.last entry (survivors rows) (survivors (edited rows (cut place row))) (one_more_survives j history.valid)
    (record {
      one = dead_from rows bridge place c.last history last_bridge.within within last_bridge.bridges
          (elim c.among [
            | inl same ↦ inl (subst (In c.last) (sym found.2) (inl same))
            | inr origin ↦ elim origin [
              | inl there ↦ inl (subst (In c.last) (sym found.2) (inr there))
              | inr added ↦ inr (subst (Adds c.last) (sym next) added)
            ]
          ]) c.absent;
      unbeaten = λ other dead. bound_from rows bridge place c.last other history within last_bridge
          (λ y origin died. elim origin [
            | inl there ↦ elim (subst (In y) found.2 there) [
              | inl first ↦ subst (λ z. AtMost z c.last) (sym first) c.least
              | inr later ↦ c.greatest y (inl later) died
            ]
            | inr added ↦ c.greatest y (inr (subst (Adds y) next added)) died
          ]) dead;
    })
