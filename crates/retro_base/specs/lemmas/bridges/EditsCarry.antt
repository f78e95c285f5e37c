-- What an edit carries: after an edit that gives the new states have one entry more, and after any other accepted edit
-- the old states have one more.
use Rattle.std.proofs.Common.{◌≡◌, ℕ, suc, ◌+◌, ◌≤◌, Bool, true, false, List, [], length, length-append, arith, inl, inr, refl, ap, sym, subst, Some}
use Rattle.std.specs.Prelude.{slice_get}
use Rattle.retro_base.specs.Weights.{added_by}
use Rattle.retro_base.specs.declared.kind.Kind.TheVariants.{Pq}
use Rattle.retro_base.specs.declared.row.Entry.{Entry}
use Rattle.retro_base.specs.declared.row.Row.{Row}
use Rattle.retro_base.specs.Edits.{Edit, edited, IsAccepted}
use Rattle.retro_base.specs.Bridges.{entries_at, survivors, IsBridge}
use Rattle.retro_base.specs.Changes.{Joins}
use Rattle.retro_base.specs.Carried.{IsPqEdit, gives, Differ, Carries, ChangesBy, old_start, new_start}
use Rattle.retro_base.specs.lemmas.bridges.Bridging.{all_in, bridge_all}
use Rattle.retro_base.specs.lemmas.bridges.Histories.{valid_leads, never_both, moves_of}
use Rattle.retro_base.specs.lemmas.bridges.After.{row_after, carried_after, one_more_after, carried_to_end, one_more_survives, rich_valid}
use Rattle.retro_base.specs.lemmas.bridges.Entries.{In, with_in}
use Rattle.retro_base.specs.lemmas.bridges.Surviving.{kept_after}
use Rattle.retro_base.specs.lemmas.bridges.Later.{adding_later, one_joins, junction_later}
use Rattle.retro_base.specs.lemmas.bridges.EditJunctions.{Taking, giving, taking}

pub giving_accepted : (rows : List Row) (edit : Edit) → IsPqEdit rows edit → gives edit ≡ true → IsAccepted Pq rows edit
giving_accepted rows edit possible gain = rich_valid (giving rows edit possible gain).junction possible.history.valid

-- an accepted edit finds what it takes
pub accepted_taking : (rows : List Row) (edit : Edit) → IsPqEdit rows edit → IsAccepted Pq rows edit → gives edit ≡ false → Taking rows edit
accepted_taking rows edit possible accepted loss = elim (taking rows edit possible loss) [
  | inl t ↦ t
  | inr nothing ↦ absurd (never_both (moves_of (edited rows edit)) [] _ _ (valid_leads (edited rows edit) nothing.of_kind accepted) nothing.fails)
]

one_carried_by : (rows : List Row) (edit : Edit) (more : ℕ) → IsPqEdit rows edit → IsAccepted Pq rows edit → (b : Bool) → gives edit ≡ b
    → (entry : Entry) × Differ b entry (entries_at rows (old_start edit + more)) (entries_at (edited rows edit) (new_start edit + more))
one_carried_by rows edit more possible accepted true gain =
    let j = (giving rows edit possible gain).junction in ((carried_after j possible.history.valid more).last, one_more_after j possible.history.valid more)
one_carried_by rows edit more possible accepted false loss =
    let j = (accepted_taking rows edit possible accepted loss).junction in ((carried_after j accepted more).last, one_more_after j accepted more)

pub one_carried : (rows : List Row) (edit : Edit) (more : ℕ) → IsPqEdit rows edit → IsAccepted Pq rows edit → (entry : Entry) × Carries rows edit more entry
one_carried rows edit more possible accepted = one_carried_by rows edit more possible accepted (gives edit) refl

presents_by : (rows : List Row) (edit : Edit) → IsPqEdit rows edit → IsAccepted Pq rows edit → (b : Bool) → gives edit ≡ b
    → (entry : Entry) × Differ b entry (survivors rows) (survivors (edited rows edit))
presents_by rows edit possible accepted true gain =
    let j = (giving rows edit possible gain).junction in ((carried_to_end j possible.history.valid).last, one_more_survives j possible.history.valid)
presents_by rows edit possible accepted false loss =
    let j = (accepted_taking rows edit possible accepted loss).junction in ((carried_to_end j accepted).last, one_more_survives j accepted)

pub presents_differ : (rows : List Row) (edit : Edit) → IsPqEdit rows edit → IsAccepted Pq rows edit → (entry : Entry) × ChangesBy rows edit entry
presents_differ rows edit possible accepted = presents_by rows edit possible accepted (gives edit) refl

-- a row that adds leaves the carried entry as it is
adding_by : (rows : List Row) (edit : Edit) (more : ℕ) (row : Row) (added entry : Entry) → IsPqEdit rows edit → IsAccepted Pq rows edit
    → slice_get rows (old_start edit + more) ≡ Some row → added_by row ≡ Some added → (b : Bool) → gives edit ≡ b
    → Differ b entry (entries_at rows (old_start edit + more)) (entries_at (edited rows edit) (new_start edit + more))
    → Differ b entry (entries_at rows (old_start edit + suc more)) (entries_at (edited rows edit) (new_start edit + suc more))
adding_by rows edit more row added entry possible accepted at adds true gain join =
    let j = (giving rows edit possible gain).junction in
    adding_later j possible.history.valid more row added entry (row_after j.poorer more row at) adds join
adding_by rows edit more row added entry possible accepted at adds false loss join =
    let j = (accepted_taking rows edit possible accepted loss).junction in
    adding_later j accepted more row added entry (row_after j.richer more row at) adds join

pub adding_carries_on : (rows : List Row) (edit : Edit) (more : ℕ) (row : Row) (added entry : Entry) → IsPqEdit rows edit → IsAccepted Pq rows edit
    → slice_get rows (old_start edit + more) ≡ Some row → added_by row ≡ Some added
    → Carries rows edit more entry → Carries rows edit (suc more) entry
adding_carries_on rows edit more row added entry possible accepted at adds join =
    adding_by rows edit more row added entry possible accepted at adds (gives edit) refl join

-- from a bridge on the missing entry stays the same
missing_by : (rows : List Row) (edit : Edit) (more further : ℕ) (entry : Entry) → IsPqEdit rows edit → IsAccepted Pq rows edit → gives edit ≡ false
    → old_start edit + more ≤ length rows → IsBridge rows (old_start edit + more)
    → Joins entry (entries_at (edited rows edit) (new_start edit + more)) (entries_at rows (old_start edit + more))
    → Joins entry (entries_at (edited rows edit) (new_start edit + (more + further))) (entries_at rows (old_start edit + (more + further)))
missing_by rows edit more further entry possible accepted loss within bridge join =
    let t = accepted_taking rows edit possible accepted loss in
    let j = t.junction in
    let inside : more ≤ length t.after = omega (arith, within, ap length j.richer.is, length-append j.richer.front t.after, j.richer.size) in
    let there = carried_after j accepted more in
    let joined = one_more_after j accepted more in
    let same : there.last ≡ entry = sym (one_joins entry there.last _ _ join joined.joined) in
    let lives : In there.last (survivors rows) = all_in (survivors rows) (entries_at rows (old_start edit + more)) there.last (bridge_all (survivors rows) (entries_at rows (old_start edit + more)) bridge)
    (subst (In there.last) (sym joined.joined) (with_in there.last there.last (entries_at (edited rows edit) (new_start edit + more)) (inl refl))) in
    let kept = kept_after (junction_later j accepted more inside) possible.history.valid lives further in
    let new_at : new_start edit + more + further ≡ new_start edit + (more + further) = omega arith in
    let old_at : old_start edit + more + further ≡ old_start edit + (more + further) = omega arith in
    subst (λ x. Joins x (entries_at (edited rows edit) (new_start edit + (more + further))) (entries_at rows (old_start edit + (more + further)))) same
    (subst (λ n. Joins there.last (entries_at (edited rows edit) (new_start edit + (more + further))) (entries_at rows n)) old_at
    (subst (λ n. Joins there.last (entries_at (edited rows edit) n) (entries_at rows (old_start edit + more + further))) new_at kept))

pub missing_stays : (rows : List Row) (edit : Edit) (more further : ℕ) (entry : Entry) → IsPqEdit rows edit → IsAccepted Pq rows edit
    → gives edit ≡ false → old_start edit + more ≤ length rows → IsBridge rows (old_start edit + more)
    → Carries rows edit more entry → Carries rows edit (more + further) entry
missing_stays rows edit more further entry possible accepted loss within bridge join =
    subst (λ b. Differ b entry (entries_at rows (old_start edit + (more + further))) (entries_at (edited rows edit) (new_start edit + (more + further)))) (sym loss)
    (missing_by rows edit more further entry possible accepted loss within bridge
    (subst (λ b. Differ b entry (entries_at rows (old_start edit + more)) (entries_at (edited rows edit) (new_start edit + more))) loss join))
