-- What is read off marked rows: the row at a place, and the change of an edit.
use Rattle.std.proofs.Common.{◌≡◌, ℕ, suc, Bool, true, false, not, ◌&&◌, cond, List, refl, sym, ap, ◌∙◌, subst, inl, inr, Option, Some, None}
use Rattle.std.specs.Prelude.{◌⊎◌, option_map, slice_get}
use Rattle.std.specs.Option.{option_map_or}
use Rattle.std.proofs.lemmas.Option.{slice_get-map}
use Rattle.retro_base.specs.declared.row.Change.{Change}
use Rattle.retro_base.specs.declared.row.Change.TheVariants.{Plain, Gain, Lose}
use Rattle.retro_base.specs.declared.row.Entry.{Entry}
use Rattle.retro_base.specs.declared.row.Row.{Row}
use Rattle.retro_base.specs.Better.{better_of}
use Rattle.retro_base.specs.Bridges.{first_bridge, survives}
use Rattle.retro_base.specs.MarkedChange.{greatest_dead, least_survivor, lost, added_change, cut_change, marked_change}
use Rattle.retro_base.specs.State.{comes_before}
use Rattle.retro_base.specs.Weights.{added_by}
use Rattle.retro_base.specs.lemmas.bridges.EntryOrder.{same_entry-refl}
use Rattle.evidence_check.specs.declared.weighed_row.WeighedRow.{WeighedRow}
use Rattle.evidence_check.specs.Changed.{changed_entry}
use Rattle.evidence_check.specs.Marks.{unweighed, rows_of}
use Rattle.evidence_check.specs.Parts.{is_entry}
use Rattle.evidence_check.specs.Truth.{edit_with, fails_at}

-- a test of the row at a place
pub fails_none : (test : Row → Bool) (place : ℕ) (marked : List WeighedRow) → slice_get marked place ≡ None → true ≡ fails_at test place (rows_of marked)
fails_none test place marked none =
    sym (ap (λ o. option_map_or (λ row. not (test row)) o true) (slice_get-map unweighed marked place ∙ ap (option_map unweighed) none))

pub fails_some : (test : Row → Bool) (place : ℕ) (marked : List WeighedRow) (row : WeighedRow) → slice_get marked place ≡ Some row → not (test (unweighed row)) ≡ fails_at test place (rows_of marked)
fails_some test place marked row some =
    sym (ap (λ o. option_map_or (λ r. not (test r)) o true) (slice_get-map unweighed marked place ∙ ap (option_map unweighed) some))

-- what a change that was read says of its entry: it is that of the row which is put in, or it is read off the rows
abbrev pub Reads : List Row → Bool → Option Entry → Option Change → Type 0
Reads rows added own None = Unit {0}
Reads rows added own (Some Plain) = ⊥
Reads rows added own (Some (Gain bridge entry)) = ((added ≡ true) × (own ≡ Some entry)) ⊎ (greatest_dead rows bridge ≡ Some entry)
Reads rows added own (Some (Lose None entry)) = Unit {0}
Reads rows added own (Some (Lose (Some bridge) entry)) = least_survivor rows bridge ≡ Some entry

module _ (rows : List Row) (added : Bool) (own : Option Entry) where
  reads_gain : (bridge : ℕ) (new dead : Option Entry) → greatest_dead rows bridge ≡ dead → ((e : Entry) → new ≡ Some e → (added ≡ true) × (own ≡ Some e))
      → Reads rows added own (option_map (λ e. Gain bridge e) (better_of comes_before new dead))
  reads_gain bridge None None is of_new = tt
  reads_gain bridge (Some n) None is of_new = inl (of_new n refl)
  reads_gain bridge None (Some d) is of_new = inr is
  reads_gain bridge (Some n) (Some d) is of_new = elim (comes_before n d) as (λ t. Reads rows added own (Some (Gain bridge (cond t d n)))) [ true ↦ inr is | false ↦ inl (of_new n refl) ]

  reads_loss : (bridge : ℕ) (found : Option Entry) → least_survivor rows bridge ≡ found → Reads rows added own (option_map (λ e. Lose (Some bridge) e) found)
  reads_loss bridge None is = tt
  reads_loss bridge (Some e) is = is

added_reads : (rows : List Row) (place : ℕ) (own : Option Entry) → Reads rows true own (added_change rows place own)
added_reads rows place None = reads_loss rows true None _ _ refl
added_reads rows place (Some n) = reads_gain rows true (Some n) _ (Some n) _ refl (λ e is. (refl, is))

cut_reads : (rows : List Row) (place : ℕ) (own : Option Entry) → Reads rows false own (cut_change rows place own)
cut_reads rows place None = reads_gain rows false None _ None _ refl (λ e is. absurd (cc))
cut_reads rows place (Some n) =
    elim (survives rows n) as (λ b. Reads rows false (Some n) (cond b (Some (Lose None n)) (lost rows (first_bridge rows (suc place))))) [ true ↦ tt | false ↦ reads_loss rows false (Some n) _ _ refl ]

pub change_reads : (rows : List Row) (added : Bool) (place : ℕ) (row : Row) (change : Change) → marked_change rows (edit_with added place row) ≡ Some change → Reads rows added (added_by row) (Some change)
change_reads rows true place row change is = subst (Reads rows true (added_by row)) is (added_reads rows place (added_by row))
change_reads rows false place row change is = subst (Reads rows false (added_by row)) is (cut_reads rows place (added_by row))

-- the row of evidence is not that of the entry
pub not_own : (added : Bool) (new : Option Entry) (entry : Entry) → (added && is_entry new entry) ≡ false → added ≡ true → new ≡ Some entry → ⊥
not_own added new entry other is same =
    let both : (added && is_entry new entry) ≡ true = rw (is, same) (same_entry-refl entry) in
    let wrong : true ≡ false = sym both ∙ other in cc

-- so a change that was read names an entry
pub names_entry : (rows : List Row) (added : Bool) (place : ℕ) (row : Row) (change : Change) → marked_change rows (edit_with added place row) ≡ Some change
    → (entry : Entry) × (changed_entry change ≡ Some entry)
names_entry rows added place row Plain is = absurd (change_reads rows added place row Plain is)
names_entry rows added place row (Gain bridge entry) is = (entry, refl)
names_entry rows added place row (Lose bridge entry) is = (entry, refl)
