-- An edit makes a junction of the rows before it and those after it: where it gives, the new rows are the richer ones, and
-- else the old ones are. Only an added row that takes may find nothing to take at its place.
--
--     old   before |       | after
--     new   before | ins 2 | after      the edit gives: the new rows hold the 2 more
use Rattle.std.proofs.Common.{◌≡◌, ℕ, suc, true, false, not, is_some, List, [], ◌∷◌, ◌++◌, take, drop, length-take-le, ◌⊎◌, inl, inr, refl, sym, arith, subst, Some, None}
use Rattle.std.specs.Prelude.{slice_get}
use Rattle.retro_base.specs.declared.kind.Kind.TheVariants.{Pq}
use Rattle.retro_base.specs.declared.row.Entry.{Entry}
use Rattle.retro_base.specs.declared.row.Row.{Row}
use Rattle.retro_base.specs.Timeline.{AreOfKind}
use Rattle.retro_base.specs.Edits.{Edit, add, cut, edited}
use Rattle.retro_base.specs.Bridges.{entries_at, survivors}
use Rattle.retro_base.specs.Weights.{added_by}
use Rattle.retro_base.specs.Carried.{IsPqEdit, gives, old_start, new_start}
use Rattle.retro_base.specs.lemmas.Counted.{around}
use Rattle.retro_base.specs.lemmas.bridges.Moves.{Leads, FailsAt, fails_later}
use Rattle.retro_base.specs.lemmas.bridges.Histories.{moves_of, moves_append, moves_length, history_at}
use Rattle.retro_base.specs.lemmas.bridges.Junctions.{Junction, row_at, seam_of_add, seam_of_cut, junction_added, junction_taken}

-- the junction of two lists of rows, whatever entry the richer one holds more
pub record Joint (poor rich : List Row) (poor_place rich_place : ℕ) : Type 0 where
  pub entry : Entry
  pub held : List Entry
  pub after : List Row
  pub junction : Junction entry held after poor rich poor_place rich_place

-- that of an edit that gives, and of one that does not
abbrev pub Giving : List Row → Edit → Type 0
Giving rows edit = Joint rows (edited rows edit) (old_start edit) (new_start edit)

abbrev pub Taking : List Row → Edit → Type 0
Taking rows edit = Joint (edited rows edit) rows (new_start edit) (old_start edit)

joint : {entry : Entry} {held : List Entry} {after poor rich : List Row} {poor_place rich_place : ℕ} → Junction entry held after poor rich poor_place rich_place
    → Joint poor rich poor_place rich_place
joint {entry} {held} {after} j = record { entry = entry; held = held; after = after; junction = j }

-- an added row finds nothing to take
pub record FindsNothing (rows : List Row) (edit : Edit) : Type 0 where
  pub of_kind : AreOfKind Pq (edited rows edit)
  pub fails : FailsAt (moves_of (edited rows edit)) [] (old_start edit)

-- rows around the one that stands at a place
pub rows_around : (rows : List Row) (place : ℕ) (row : Row) → slice_get rows place ≡ Some row → take place rows ++ row ∷ drop (suc place) rows ≡ rows
rows_around rows place row at = sym (around rows place row at)

-- a row that takes is cut: it found an entry
pub cut_take_holds : (rows : List Row) (place : ℕ) (row : Row) → IsPqEdit rows (cut place row) → added_by row ≡ None
    → (x : Entry) × (held : List Entry) × (entries_at rows place ≡ x ∷ held)
cut_take_holds rows place row possible takes =
    let next : Leads (None ∷ moves_of (drop (suc place) rows)) (entries_at rows place) (survivors rows) =
    subst (λ m. Leads (m ∷ moves_of (drop (suc place) rows)) (entries_at rows place) (survivors rows)) takes
    (subst (λ l. Leads (moves_of l) (entries_at rows place) (survivors rows)) (row_at rows place row possible.within) (history_at rows place possible.history).second) in
    elim (entries_at rows place) as (λ l. Leads (None ∷ moves_of (drop (suc place) rows)) l (survivors rows) → (x : Entry) × (held : List Entry) × (l ≡ x ∷ held)) [
      | [] ↦ λ none. absurd none
      | x ∷ held ↦ λ later. (x, held, refl)
    ] next

-- a row that takes is put in where nothing is held: it fails
pub added_take_fails : (rows : List Row) (place : ℕ) (row : Row) → IsPqEdit rows (add place row) → added_by row ≡ None → entries_at rows place ≡ []
    → FindsNothing rows (add place row)
added_take_fails rows place row possible takes none =
    let first = (history_at rows place possible.history).first in
    record {
      of_kind = (seam_of_add rows place row possible).of_kind;
      fails = subst (λ l. FailsAt l [] place) (sym (moves_append (take place rows) (row ∷ drop place rows)))
          (fails_later (moves_of (take place rows)) (moves_of (row ∷ drop place rows)) [] [] 0 place
          (subst (Leads (moves_of (take place rows)) []) none first)
          (subst (λ m. FailsAt (m ∷ moves_of (drop place rows)) [] 0) (sym takes) tt)
          (omega (arith, moves_length (take place rows), length-take-le place rows possible.within)));
    }

taking_added : (rows : List Row) (place : ℕ) (row : Row) → IsPqEdit rows (add place row) → added_by row ≡ None → Taking rows (add place row) ⊎ FindsNothing rows (add place row)
taking_added rows place row possible takes = elim (entries_at rows place) as (λ l. entries_at rows place ≡ l → Taking rows (add place row) ⊎ FindsNothing rows (add place row)) [
  | [] ↦ λ none. inr (added_take_fails rows place row possible takes none)
  | x ∷ held ↦ λ same. inl (joint (junction_taken (seam_of_add rows place row possible) x held takes same))
] refl

pub giving : (rows : List Row) (edit : Edit) → IsPqEdit rows edit → gives edit ≡ true → Giving rows edit
giving rows (add place row) possible gain = elim (added_by row) as (λ m. added_by row ≡ m → is_some m ≡ true → Giving rows (add place row)) [
  | Some e ↦ λ adds yes. joint (junction_added (seam_of_add rows place row possible) e adds)
  | None ↦ λ takes no. absurd (cc)
] refl gain
giving rows (cut place row) possible gain = elim (added_by row) as (λ m. added_by row ≡ m → not (is_some m) ≡ true → Giving rows (cut place row)) [
  | Some e ↦ λ adds no. absurd (cc)
  | None ↦ λ takes yes.
      let found = cut_take_holds rows place row possible takes in
      joint (junction_taken (seam_of_cut rows place row possible) found.0 found.1 takes found.2)
] refl gain

pub taking : (rows : List Row) (edit : Edit) → IsPqEdit rows edit → gives edit ≡ false → Taking rows edit ⊎ FindsNothing rows edit
taking rows (add place row) possible loss = elim (added_by row) as (λ m. added_by row ≡ m → is_some m ≡ false → Taking rows (add place row) ⊎ FindsNothing rows (add place row)) [
  | Some e ↦ λ adds no. absurd (cc)
  | None ↦ λ takes yes. taking_added rows place row possible takes
] refl loss
taking rows (cut place row) possible loss = elim (added_by row) as (λ m. added_by row ≡ m → not (is_some m) ≡ false → Taking rows (cut place row) ⊎ FindsNothing rows (cut place row)) [
  | Some e ↦ λ adds yes. inl (joint (junction_added (seam_of_cut rows place row possible) e adds))
  | None ↦ λ takes no. absurd (cc)
] refl loss
