-- What holds of each entry that rows add holds of each survivor.
use Rattle.std.proofs.Common.{◌≡◌, ◌≢◌, ℕ, true, false, List, [], ◌∷◌, refl, sym, ap, ◌∙◌, inl, inr, Some}
use Rattle.std.specs.List.{AllByRecursion}
use Rattle.std.specs.Result.{result_unwrap_or}
use Rattle.retro_base.specs.declared.kind.Kind.TheVariants.{Pq}
use Rattle.retro_base.specs.declared.op.Op.{Op}
use Rattle.retro_base.specs.declared.op.Op.TheVariants.{Ins, DelMin}
use Rattle.retro_base.specs.declared.row.Entry.{Entry}
use Rattle.retro_base.specs.declared.row.Row.{Row}
use Rattle.retro_base.specs.Bridges.{entries_of, is_among, survivors}
use Rattle.retro_base.specs.Kind.{kind_of}
use Rattle.retro_base.specs.Replay.{fold_rows, run}
use Rattle.retro_base.specs.State.{entries, perform, comes_before, with_entry}
use Rattle.retro_base.specs.Timeline.{AreOfKind, IsFresh}
use Rattle.retro_base.specs.Weights.{added_as, added_by}
use Rattle.retro_base.specs.lemmas.bridges.Histories.{added_number}
use Rattle.retro_base.specs.lemmas.bridges.Entries.{In}
use Rattle.retro_base.specs.lemmas.bridges.Tests.{is_among_in}
use Rattle.retro_base.specs.Outcomes.{same_state}

module _ (P : Entry → Type 0) where
  all_with_entry : (new : Entry) (held : List Entry) → P new → AllByRecursion P held → AllByRecursion P (with_entry new held)
  all_with_entry new [] holds all = (holds, tt)
  all_with_entry new (first ∷ others) holds all =
      elim (comes_before new first) as (λ b. comes_before new first ≡ b → AllByRecursion P (with_entry new (first ∷ others))) [
        | true ↦ λ before. rw before (holds, all)
        | false ↦ λ after. rw after (all.0, all_with_entry new others holds all.1)
      ] refl

  -- and of the one that came in
  pub of_joined : (new : Entry) (held : List Entry) → AllByRecursion P (with_entry new held) → P new
  of_joined new [] all = all.0
  of_joined new (first ∷ others) all =
      elim (comes_before new first) as (λ b. comes_before new first ≡ b → P new) [
        | true ↦ λ before. let held : AllByRecursion P (new ∷ first ∷ others) = rw before at all in held.0
        | false ↦ λ after. let held : AllByRecursion P (first ∷ with_entry new others) = rw after at all in of_joined new others held.1
      ] refl

  -- what the row adds, if it adds an entry, has the property
  abbrev pub Adds : Row → Type 0
  Adds row = (e : Entry) → added_by row ≡ Some e → P e

  -- what rows leave, from these entries on
  abbrev left : List Row → List Entry → List Entry
  left rows held = entries_of (result_unwrap_or (run rows (entries held)) (entries []))

  next : (op : Op) (own time : ℕ) (rows : List Row) (held : List Entry) → kind_of op ≡ Pq → ((e : Entry) → added_as op own ≡ Some e → P e)
      → ((more : List Entry) → AllByRecursion P more → AllByRecursion P (left rows more)) → AllByRecursion P held
      → AllByRecursion P (left (record { number = own; time = time; op = op } ∷ rows) held)
  unfolding fold_rows perform
  next (Ins key) own time rows held kind adds rest all =
      let new : Entry = record { key = key; number = own } in
      rw (same_state (run rows (entries (with_entry new held))) (entries [])) (rest (with_entry new held) (all_with_entry new held (adds new refl) all))
  next DelMin own time rows [] kind adds rest all = tt
  next DelMin own time rows (first ∷ others) kind adds rest all = rw (same_state (run rows (entries others)) (entries [])) (rest others all.1)
  next op own time rows held kind adds rest all = absurd (cc)

  all_left : (rows : List Row) (held : List Entry) → AreOfKind Pq rows → AllByRecursion Adds rows → AllByRecursion P held → AllByRecursion P (left rows held)
  unfolding fold_rows
  all_left [] held kind adds all = all
  all_left (row ∷ rows) held kind adds all = next row.op row.number row.time rows held kind.0 adds.0 (λ more there. all_left rows more kind.1 adds.1 there) all

  pub all_survivors : (rows : List Row) → AreOfKind Pq rows → AllByRecursion Adds rows → AllByRecursion P (survivors rows)
  all_survivors rows kind adds = all_left rows [] kind adds tt

other_numbers : (number : ℕ) (rows : List Row) → IsFresh number rows → AllByRecursion (Adds (λ e. e.number ≢ number)) rows
other_numbers number [] fresh = tt
other_numbers number (row ∷ rows) fresh = (
  λ e is same. fresh.0 (sym (added_number row.op row.number e is) ∙ same),
  other_numbers number rows fresh.1,
)

none_in : (number : ℕ) (e : Entry) (held : List Entry) → AllByRecursion (λ x. x.number ≢ number) held → In e held → e.number ≢ number
none_in number e [] none inside = absurd inside
none_in number e (first ∷ others) none inside = elim inside [
  | inl same ↦ λ is. none.0 (ap (λ x. x.number) (sym same) ∙ is)
  | inr further ↦ none_in number e others none.1 further
]

-- an entry with a fresh number does not survive
pub fresh_entry : (number : ℕ) (rows : List Row) (e : Entry) → AreOfKind Pq rows → IsFresh number rows → e.number ≡ number → is_among (survivors rows) e ≡ false
fresh_entry number rows e kind fresh is =
    elim (is_among (survivors rows) e) as (λ b. is_among (survivors rows) e ≡ b → b ≡ false) [
      | true ↦ λ among. absurd (none_in number e (survivors rows) (all_survivors (λ x. x.number ≢ number) rows kind (other_numbers number rows fresh)) (is_among_in e (survivors rows) among) is)
      | false ↦ λ outside. refl
    ] refl
