-- An edit makes two lists of rows that end alike. At the place where they join, one list holds one entry more: the richer
-- one, which has a row more that adds, or a row fewer that takes.
--
--     before | ins 4 | after         held and 4
--     before         | after         held
use Rattle.std.proofs.Common.{◌≡◌, ◌≢◌, ℕ, suc, ◌<◌, ◌≤◌, List, [], ◌∷◌, ◌++◌, length, take, drop, append_assoc, length-append, length-take-le, inl, inr, refl, ap, sym, ◌∙◌, arith, subst, Option, Some, None}
use Rattle.std.specs.Prelude.{slice_get}
use Rattle.std.proofs.Math.Seq.{drop-cons}
use Rattle.std.proofs.lemmas.List.{take-append-drop}
use Rattle.std.proofs.lemmas.Option.{get_or_from_slice_get, slice_get_within}
use Rattle.retro_base.specs.declared.kind.Kind.TheVariants.{Pq}
use Rattle.retro_base.specs.declared.row.Entry.{Entry}
use Rattle.retro_base.specs.declared.row.Row.{Row}
use Rattle.retro_base.specs.State.{with_entry}
use Rattle.retro_base.specs.Kind.{kind_of}
use Rattle.retro_base.specs.Timeline.{IsFresh, AreOfKind}
use Rattle.retro_base.specs.Edits.{add, cut, edited}
use Rattle.retro_base.specs.Bridges.{entries_at}
use Rattle.retro_base.specs.Weights.{added_by}
use Rattle.retro_base.specs.Carried.{IsPqHistory, IsPqEdit}
use Rattle.retro_base.specs.OrderLaws.{all_parts, all_with, all_without}
use Rattle.retro_base.specs.lemmas.Counted.{around}
use Rattle.retro_base.specs.lemmas.bridges.Entries.{In, first_once, with_above}
use Rattle.retro_base.specs.lemmas.bridges.Moves.{Leads, Adds, Ready, ready_on, ready_taken, ready_with, came_from, new_here}
use Rattle.retro_base.specs.lemmas.bridges.Histories.{moves_of, rows_lead, added_number, fresh_adds, history_at}

-- rows in two parts: the first ones, up to a place, lead to what is held there
pub record Parted (rows after : List Row) (place : ℕ) (held : List Entry) : Type 0 where
  pub front : List Row
  pub is : rows ≡ front ++ after
  pub size : length front ≡ place
  pub leads : Leads (moves_of front) [] held
  pub of_kind : AreOfKind Pq rows

abbrev pub parted_at : (rows : List Row) (place : ℕ) → place ≤ length rows → IsPqHistory rows → Parted rows (drop place rows) place (entries_at rows place)
parted_at rows place within history = record {
  front = take place rows;
  is = sym (take-append-drop place rows);
  size = length-take-le place rows within;
  leads = (history_at rows place history).first;
  of_kind = history.of_kind;
}

-- two lists that are parted, with the entry that the richer one holds more where they join
pub record Junction (entry : Entry) (held : List Entry) (after poor rich : List Row) (poor_place rich_place : ℕ) : Type 0 where
  pub poorer : Parted poor after poor_place held
  pub richer : Parted rich after rich_place (with_entry entry held)
  pub ready : Ready held (moves_of after)
  pub absent : ¬ In entry held
  pub never : ¬ Adds entry (moves_of after)

pub rich_ready : {entry : Entry} {held : List Entry} {after poor rich : List Row} {poor_place rich_place : ℕ} → Junction entry held after poor rich poor_place rich_place
    → Ready (with_entry entry held) (moves_of after)
rich_ready {entry} {held} {after} j = ready_with entry (moves_of after) held j.ready j.absent j.never

-- rows with a row at a place and without it: what is held before it, and what its move and the ones after it can count on
pub record Seam (row : Row) (less more after : List Row) (place : ℕ) (held : List Entry) : Type 0 where
  pub without : Parted less after place held
  pub is : more ≡ without.front ++ row ∷ after
  pub of_kind : AreOfKind Pq more
  pub ready : Ready held (added_by row ∷ moves_of after)

pub row_at : (rows : List Row) (place : ℕ) (row : Row) → slice_get rows place ≡ Some row → drop place rows ≡ row ∷ drop (suc place) rows
row_at rows place row at =
    drop-cons rows place row (slice_get_within rows place row at) ∙ ap (λ r. r ∷ drop (suc place) rows) (get_or_from_slice_get rows place row row at)

-- a row that is cut
pub seam_of_cut : (rows : List Row) (place : ℕ) (row : Row) → IsPqEdit rows (cut place row)
    → Seam row (edited rows (cut place row)) rows (drop (suc place) rows) place (entries_at rows place)
seam_of_cut rows place row possible =
    let parts = history_at rows place possible.history in
    let inside : place < length rows = slice_get_within rows place row possible.within in
    record {
      without = record {
        front = take place rows;
        is = refl;
        size = length-take-le place rows (omega arith);
        leads = parts.first;
        of_kind = all_without (λ r. kind_of r.op ≡ Pq) rows place possible.history.of_kind;
      };
      is = around rows place row possible.within;
      of_kind = possible.history.of_kind;
      ready = subst (λ l. Ready (entries_at rows place) (moves_of l)) (row_at rows place row possible.within) parts.ready;
    }

-- a row that is put in with a number of its own
ready_before : (row : Row) (after : List Row) (before : List Row) (held : List Entry) (m : Option Entry) → added_by row ≡ m
    → Leads (moves_of before) [] held → IsFresh row.number before → IsFresh row.number after
    → Ready held (moves_of after) → Ready held (m ∷ moves_of after)
ready_before row after before held None takes first fresh_before fresh ready = record { rising = ready.rising; once = ready.once; apart = ready.apart }
ready_before row after before held (Some e) adds first fresh_before fresh ready =
    let numbered : e.number ≡ row.number = added_number row.op row.number e adds in
    record {
      rising = ready.rising;
      once = (fresh_adds after row.number e fresh numbered, ready.once);
      apart = λ x inside added. elim added [
        | inl same ↦ elim (came_from x (moves_of before) [] held first inside) [
          | inl none ↦ none
          | inr came ↦ fresh_adds before row.number x fresh_before (ap (λ (f : Entry). f.number) same ∙ numbered) came
        ]
        | inr later ↦ ready.apart x inside later
      ];
    }

pub seam_of_add : (rows : List Row) (place : ℕ) (row : Row) → IsPqEdit rows (add place row)
    → Seam row rows (edited rows (add place row)) (drop place rows) place (entries_at rows place)
seam_of_add rows place row possible =
    let parts = history_at rows place possible.history in
    let fresh = all_parts (λ r. r.number ≢ row.number) (take place rows) (drop place rows) (subst (IsFresh row.number) (sym (take-append-drop place rows)) possible.own_row.1) in
    record {
      without = parted_at rows place possible.within possible.history;
      is = refl;
      of_kind = all_with (λ r. kind_of r.op ≡ Pq) rows place row possible.history.of_kind possible.own_row.0;
      ready = ready_before row (drop place rows) (take place rows) (entries_at rows place) (added_by row) refl parts.first fresh.0 fresh.1 parts.ready;
    }

module _ {row : Row} {less more after : List Row} {place : ℕ} {held : List Entry} (s : Seam row less more after place held) where
  -- the rows with it lead on by its move
  with_row : (next : List Entry) → Leads (added_by row ∷ []) held next → Parted more after (suc place) next
  with_row next one = record {
    front = s.without.front ++ row ∷ [];
    is = s.is ∙ sym (append_assoc s.without.front (row ∷ []) after);
    size = omega (arith, length-append s.without.front (row ∷ []), s.without.size);
    leads = rows_lead s.without.front (row ∷ []) [] held next s.without.leads one;
    of_kind = s.of_kind;
  }

  -- a row that adds joins the rows with it and without it
  pub junction_added : (e : Entry) → added_by row ≡ Some e → Junction e held after less more place (suc place)
  junction_added e adds =
      let ready : Ready held (Some e ∷ moves_of after) = subst (λ m. Ready held (m ∷ moves_of after)) adds s.ready in
      record {
        poorer = s.without;
        richer = with_row (with_entry e held) (subst (λ m. Leads (m ∷ []) held (with_entry e held)) (sym adds) refl);
        ready = ready_on e (moves_of after) held ready;
        absent = new_here e (moves_of after) held ready;
        never = ready.once.0;
      }

  -- a row that takes joins the rows without it and with it
  pub junction_taken : (x : Entry) (rest : List Entry) → added_by row ≡ None → held ≡ x ∷ rest → Junction x rest after more less (suc place) place
  junction_taken x rest takes holds =
      let ready : Ready (x ∷ rest) (None ∷ moves_of after) = subst (λ l. Ready l (None ∷ moves_of after)) holds (subst (λ m. Ready held (m ∷ moves_of after)) takes s.ready) in
      record {
        poorer = with_row rest (subst (λ m. Leads (m ∷ []) held rest) (sym takes) (subst (λ l. Leads (None ∷ []) l rest) (sym holds) refl));
        richer = subst (Parted less after place) (holds ∙ sym (with_above x rest ready.rising.0)) s.without;
        ready = ready_taken x (moves_of after) rest ready;
        absent = first_once x rest ready.rising.0;
        never = ready.apart x (inl refl);
      }
