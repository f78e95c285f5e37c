-- A queue that has the first rows of a later one: its present, and the rows between, lead to what is held there.
use Rattle.std.proofs.Common.{◌≡◌, ℕ, ◌+◌, ◌-◌, ◌≤◌, List, [], ◌++◌, length, take, drop, ap, sym, subst, ◌∙◌, arith}
use Rattle.std.proofs.lemmas.List.{take-append-drop}
use Rattle.retro_base.specs.declared.kind.Kind.TheVariants.{Pq}
use Rattle.retro_base.specs.declared.row.Row.{Row}
use Rattle.retro_base.specs.Bridges.{entries_at, survivors}
use Rattle.retro_base.specs.Carried.{IsPqHistory}
use Rattle.retro_base.specs.Replay.{state_at}
use Rattle.retro_base.specs.State.{entries}
use Rattle.retro_base.specs.Timeline.{IsReplayable}
use Rattle.retro_base.specs.lemmas.FirstRows.{replayable_first}
use Rattle.retro_base.specs.lemmas.bridges.After.{after_front}
use Rattle.retro_base.specs.lemmas.bridges.Histories.{moves_of, valid_leads}
use Rattle.retro_base.specs.lemmas.bridges.Moves.{Leads}
use Rattle.bridge_pq.specs.declared.marked_entry.MarkedEntry.{MarkedEntry}
use Rattle.bridge_pq.specs.declared.marked_row.MarkedRow.{MarkedRow}
use Rattle.bridge_pq.specs.Bridged.{IsBridged}
use Rattle.bridge_pq.specs.Gathered.{moves_from, IsEarlier}
use Rattle.bridge_pq.specs.MarkedEntries.{present_in}
use Rattle.bridge_pq.specs.MarkedRows.{rows_of}
use Rattle.bridge_pq.proofs.Edited.{history-of}
use Rattle.bridge_pq.proofs.HeldEntries.{present-is, present-state}
use Rattle.bridge_pq.proofs.Present.{entries-few}

history_first : (rows : List Row) (to : ℕ) → IsReplayable Pq rows → IsPqHistory (take to rows)
history_first rows to replayable =
    let first = replayable_first Pq rows to replayable in
    record { of_kind = first.of_kind; own_numbers = first.own_numbers; valid = first.valid }

-- what is held at a place, as a state
pub held_state : (rows : List Row) (to : ℕ) → IsReplayable Pq rows → state_at Pq rows to ≡ entries (entries_at rows to)
held_state rows to replayable = present-state (take to rows) (history_first rows to replayable)

module _ (items later_items : List MarkedRow) (kept later_kept : List MarkedEntry) (bridged : IsBridged items kept) (later_bridged : IsBridged later_items later_kept)
    (own later : List Row) (own_is : rows_of items ≡ own) (later_is : rows_of later_items ≡ later) (first : own ≡ take (length own) later) where
  leads_on : (from to : ℕ) → from ≡ length own → from ≤ to → Leads (moves_from (rows_of later_items) from to) (present_in kept) (entries_at (rows_of later_items) to)
  leads_on from to here order =
      let rows = rows_of later_items in
      let front : rows_of items ≡ take from rows = own_is ∙ first ∙ ap (λ n. take n later) (sym here) ∙ ap (take from) (sym later_is) in
      let parts : rows ≡ rows_of items ++ drop from rows = sym (take-append-drop from rows) ∙ ap (λ l. l ++ drop from rows) (sym front) in
      let held : present_in kept ≡ survivors (rows_of items) = present-is (rows_of items) kept (history-of items kept bridged) bridged.holds in
      let start : Leads (moves_of (rows_of items)) [] (present_in kept) =
      subst (Leads (moves_of (rows_of items)) []) (sym held) (valid_leads (rows_of items) bridged.replayable.of_kind bridged.replayable.valid) in
      subst (λ n. Leads (moves_from rows from to) (present_in kept) (entries_at rows n)) (let same : from + (to - from) ≡ to = omega arith in same)
      (after_front rows (rows_of items) (drop from rows) from (to - from) (present_in kept) parts (ap (λ (l : List Row). length l) own_is ∙ sym here)
      later_bridged.replayable.of_kind later_bridged.replayable.valid start).up_to

  pub is_earlier : (from to : ℕ) → from ≡ length own → length own ≤ to → to ≤ length later → IsEarlier kept (rows_of later_items) from to
  is_earlier from to here order within = record {
    order = omega (arith, here, order);
    within = omega (arith, within, ap (λ (l : List Row). length l) later_is);
    few = later_bridged.replayable.few;
    fewer = omega (arith, entries-few items kept bridged, ap (λ (l : List Row). length l) own_is, here);
    rise = bridged.holds.rise;
    leads = leads_on from to here (omega (arith, here, order));
  }
