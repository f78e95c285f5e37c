-- The extremes of a range of marked rows are the greatest dead entry and the least survivor that its rows add.
use Rattle.std.proofs.Common.{◌≡◌, ℕ, zero, suc, ◌+◌, ◌-◌, ◌<◌, ◌≤◌, Bool, true, false, List, [], ◌∷◌, take, drop, length, inl, inr, refl, sym, ap, ◌∙◌, arith, subst, Option, Some, None}
use Rattle.std.specs.Prelude.{map, option_map}
use Rattle.std.specs.List.{slice_get, slice_range, cons_option}
use Rattle.std.specs.Ordering.{is_gt, flip_args}
use Rattle.std.specs.declared.cmp.Ordering.{Ordering}
use Rattle.std.proofs.lemmas.List.{take_all, length-drop}
use Rattle.std.proofs.lemmas.Option.{slice_get_within}
use Rattle.monoid_laws.specs.Extreme.{NoElement, IsFirstGreatest, IsGreatestOffset}
use Rattle.retro_base.specs.declared.row.Entry.{Entry}
use Rattle.retro_base.specs.declared.row.Row.{Row}
use Rattle.retro_base.specs.Better.{comes_after, best_among}
use Rattle.retro_base.specs.BridgeTable.{added}
use Rattle.retro_base.specs.Bridges.{survivors}
use Rattle.retro_base.specs.Facts.{get_drop, get_taken}
use Rattle.retro_base.specs.MarkedChange.{is_one_of, dead_in, alive_in, dead_entry, alive_entry, greatest_dead, least_survivor}
use Rattle.retro_base.specs.State.{comes_before}
use Rattle.retro_base.specs.Weights.{added_by}
use Rattle.retro_base.specs.lemmas.bridges.Best.{IsOrder, Shown, before_is_order, after_is_order, best_is, best_marked}
use Rattle.retro_base.specs.lemmas.bridges.Entries.{In}
use Rattle.retro_base.specs.lemmas.bridges.Histories.{some_same}
use Rattle.bridge_pq.specs.declared.marked_row.MarkedRow.{MarkedRow}
use Rattle.bridge_pq.specs.Bridged.{AddsAt, FindsRow}
use Rattle.bridge_pq.specs.EntryOrder.{entry_order}
use Rattle.bridge_pq.specs.MarkedRows.{rows_of, AreMarked}
use Rattle.bridge_pq.proofs.EntryCmp.{agrees}
use Rattle.bridge_pq.proofs.Places.{get-map, map-get}
use Rattle.bridge_pq.proofs.RowMeasures.{dead_of, alive_of, map-take, map-drop}

-- marks of parts
pub marked-drop : (alive : List Entry) (items : List MarkedRow) (n : ℕ) → AreMarked alive items → AreMarked alive (drop n items)
marked-drop alive items zero marked = marked
marked-drop alive [] (suc n) marked = tt
marked-drop alive (item ∷ items) (suc n) marked = marked-drop alive items n marked.1

pub marked-take : (alive : List Entry) (items : List MarkedRow) (n : ℕ) → AreMarked alive items → AreMarked alive (take n items)
marked-take alive items zero marked = tt
marked-take alive [] (suc n) marked = tt
marked-take alive (item ∷ items) (suc n) marked = (marked.0, marked-take alive items n marked.1)

-- an entry that a row adds is among the added ones
adds_here : (rows : List Row) (row first : Row) (x : Entry) → added_by row ≡ Some x → Some first ≡ Some row → In x (added (first ∷ rows))
adds_here rows row first x adds same =
    let is : added_by first ≡ Some x = ap added_by (some_same (Some first) refl same) ∙ adds in
    subst (λ m. In x (cons_option m (added rows))) (sym is) (inl refl)

adds_later : (rows : List Row) (first : Row) (x : Entry) → In x (added rows) → In x (added (first ∷ rows))
adds_later rows first x inside = elim (added_by first) as (λ m. In x (cons_option m (added rows))) [ Some y ↦ inr inside | None ↦ inside ]

pub adds-in : (rows : List Row) (place : ℕ) (row : Row) (x : Entry) → slice_get rows place ≡ Some row → added_by row ≡ Some x → In x (added rows)
adds-in [] place row x at adds = absurd (cc)
adds-in (first ∷ rows) zero row x at adds = adds_here rows row first x adds at
adds-in (first ∷ rows) (suc place) row x at adds = adds_later rows first x (adds-in rows place row x at adds)

-- the extreme of what rows show is the best of it
module _ (beaten : Entry → Entry → Bool) (is_order : IsOrder beaten) (order : Entry → Entry → Ordering) (agrees_with : (x e : Entry) → is_gt (order x e) ≡ false → beaten e x ≡ false)
    (shown : MarkedRow → Option Entry) where
  at_place : (items : List MarkedRow) (e : Entry) → Shown shown items e → (place : ℕ) × (slice_get (map shown items) place ≡ Some (Some e))
  at_place [] e shows = absurd shows
  at_place (item ∷ items) e shows = elim shows [
    | inl here ↦ (zero, ap (λ o. Some o) here)
    | inr later ↦ let rest = at_place items e later in (suc rest.0, rest.1)
  ]

  shows_at : (items : List MarkedRow) (place : ℕ) (e : Entry) → slice_get (map shown items) place ≡ Some (Some e) → Shown shown items e
  shows_at [] place e at = absurd (cc)
  shows_at (item ∷ items) zero e at = inl (let here : shown item ≡ Some e = cc in here)
  shows_at (item ∷ items) (suc place) e at = inr (shows_at items place e at)

  none-best : (items : List MarkedRow) → NoElement (map shown items) → best_among beaten shown None items ≡ None
  none-best items none = best_is beaten is_order shown items None (λ e shows. let at = at_place items e shows in none at.0 e at.1)

  some-best : (items : List MarkedRow) (e : Entry) (place : ℕ) → IsFirstGreatest order (map shown items) e place → best_among beaten shown None items ≡ Some e
  some-best items e place first = best_is beaten is_order shown items (Some e) (record {
    one = shows_at items place e first.there;
    unbeaten = λ x shows. let at = at_place items x shows in agrees_with x e (first.greatest at.0 x at.1);
  })

-- what a row shows it adds
dead-added : (mark : Bool) (m : Option Entry) (e : Entry) → dead_in mark m ≡ Some e → m ≡ Some e
dead-added true m e is = absurd (cc)
dead-added false m e is = is

alive-added : (mark : Bool) (m : Option Entry) (e : Entry) → alive_in mark m ≡ Some e → m ≡ Some e
alive-added true m e is = is
alive-added false m e is = absurd (cc)

adds-shown : (shown : MarkedRow → Option Entry) → ((item : MarkedRow) (e : Entry) → shown item ≡ Some e → added_by item.row ≡ Some e)
    → (items : List MarkedRow) (place : ℕ) (e : Entry) → slice_get (map shown items) place ≡ Some (Some e) → AddsAt (rows_of items) place e
adds-shown shown adds items place e at =
    let found = map-get shown items place (Some e) at in
    (found.0.row, get-map (λ (item : MarkedRow). item.row) items place found.0 found.1, adds found.0 e found.2)

-- the ranges that are measured
pub range-after : (items : List MarkedRow) (from : ℕ) → from ≤ length items → slice_range items from (length items) ≡ drop from items
range-after items from within = take_all (length items - from) (drop from items) (omega (arith, length-drop from items))

pub range-before : (items : List MarkedRow) (to : ℕ) → slice_range items 0 to ≡ take to items
range-before items to = ap (λ n. take n items) (let same : to - 0 ≡ to = omega arith in same)

pub adds-within : (rows : List Row) (place : ℕ) (x : Entry) → AddsAt rows place x → place < length rows
adds-within rows place x adds = slice_get_within rows place adds.0 adds.1

-- what is found is what the definition of the change reads
module _ (items : List MarkedRow) (marked : AreMarked (survivors (rows_of items)) items) where
  dead-read : (from : ℕ) → greatest_dead (rows_of items) from ≡ best_among comes_before (λ (item : MarkedRow). dead_in item.survives (added_by item.row)) None (drop from items)
  dead-read from =
      ap (best_among comes_before (dead_entry (survivors (rows_of items))) None) (sym (map-drop (λ (item : MarkedRow). item.row) items from))
      ∙ sym (best_marked (λ (item : MarkedRow). item.survives ≡ is_one_of (survivors (rows_of items)) (added_by item.row)) comes_before (λ item. item.row)
      (λ item. dead_in item.survives (added_by item.row)) (dead_entry (survivors (rows_of items))) (λ item mark. ap (λ b. dead_in b (added_by item.row)) mark) None (drop from items)
      (marked-drop (survivors (rows_of items)) items from marked))

  alive-read : (to : ℕ) → least_survivor (rows_of items) to ≡ best_among comes_after (λ (item : MarkedRow). alive_in item.survives (added_by item.row)) None (take to items)
  alive-read to =
      ap (best_among comes_after (alive_entry (survivors (rows_of items))) None) (sym (map-take (λ (item : MarkedRow). item.row) items to))
      ∙ sym (best_marked (λ (item : MarkedRow). item.survives ≡ is_one_of (survivors (rows_of items)) (added_by item.row)) comes_after (λ item. item.row)
      (λ item. alive_in item.survives (added_by item.row)) (alive_entry (survivors (rows_of items))) (λ item mark. ap (λ b. alive_in b (added_by item.row)) mark) None (take to items)
      (marked-take (survivors (rows_of items)) items to marked))

  pub found-greatest : (from : ℕ) (found : Option ℕ) → IsGreatestOffset entry_order (dead_of (drop from items)) found
      → FindsRow (rows_of items) (greatest_dead (rows_of items) from) (option_map (λ place. from + place) found)
  found-greatest from None none = dead-read from ∙ none-best comes_before before_is_order entry_order agrees _ (drop from items) none
  found-greatest from (Some place) one =
      let at = adds-shown _ (λ item e is. dead-added item.survives (added_by item.row) e is) (drop from items) place one.0 one.1.there in (
        one.0,
        dead-read from ∙ some-best comes_before before_is_order entry_order agrees _ (drop from items) one.0 place one.1,
        (at.0, sym (get_drop (rows_of items) from place) ∙ ap (λ l. slice_get l place) (sym (map-drop (λ (item : MarkedRow). item.row) items from)) ∙ at.1, at.2),
      )

  pub found-least : (to : ℕ) (found : Option ℕ) → IsGreatestOffset (flip_args entry_order) (alive_of (slice_range items 0 to)) found
      → FindsRow (rows_of items) (least_survivor (rows_of items) to) found
  found-least to None none =
      alive-read to ∙ none-best comes_after after_is_order (flip_args entry_order) (λ x e less. agrees e x less) _ (take to items) (subst (λ l. NoElement (alive_of l)) (range-before items to) none)
  found-least to (Some place) one =
      let first = subst (λ l. IsFirstGreatest (flip_args entry_order) (alive_of l) one.0 place) (range-before items to) one.1 in
      let at = adds-shown _ (λ item e is. alive-added item.survives (added_by item.row) e is) (take to items) place one.0 first.there in (
        one.0,
        alive-read to ∙ some-best comes_after after_is_order (flip_args entry_order) (λ x e less. agrees e x less) _ (take to items) one.0 place first,
        (at.0, get_taken (rows_of items) to place at.0 (ap (λ l. slice_get l place) (sym (map-take (λ (item : MarkedRow). item.row) items to)) ∙ at.1), at.2),
      )
