-- A junction moves on: so many rows after it the same two lists join again, and the richer one holds the carried entry more.
-- A row that adds leaves the carried entry as it is.
--
--     held and c | take ...    and then    rest and d | ...
use Rattle.std.proofs.Common.{◌≡◌, ◌≢◌, ℕ, suc, ◌+◌, ◌≤◌, List, [], ◌∷◌, length, take, drop, inl, inr, refl, ap, sym, ◌∙◌, subst, Some}
use Rattle.std.specs.Prelude.{slice_get}
use Rattle.retro_base.specs.declared.kind.Kind.TheVariants.{Pq}
use Rattle.retro_base.specs.declared.row.Entry.{Entry}
use Rattle.retro_base.specs.declared.row.Row.{Row}
use Rattle.retro_base.specs.State.{with_entry}
use Rattle.retro_base.specs.Replay.{IsValid}
use Rattle.retro_base.specs.Bridges.{entries_at}
use Rattle.retro_base.specs.Changes.{Joins}
use Rattle.retro_base.specs.PrefixLaws.{take_next}
use Rattle.retro_base.specs.Weights.{added_by}
use Rattle.retro_base.specs.lemmas.bridges.Entries.{In, with_in, in_with, in_contains, with_swapped}
use Rattle.retro_base.specs.lemmas.bridges.Moves.{Leads, Adds, Ready, ready_later}
use Rattle.retro_base.specs.lemmas.bridges.Histories.{moves_of, moves_split, rows_lead}
use Rattle.retro_base.specs.lemmas.bridges.Junctions.{Parted, Junction, rich_ready, row_at}
use Rattle.retro_base.specs.lemmas.bridges.After.{entries_after, after_place, parted_later, joins, carried_after, rich_valid}

-- the entry more is one alone
pub one_joins : (x y : Entry) (less more : List Entry) → Joins x less more → more ≡ with_entry y less → x ≡ y
one_joins x y less more join same =
    elim (in_with y x less (subst (In x) (sym join.joined ∙ same) (with_in x x less (inl refl)))) [
      | inl one ↦ one
      | inr there ↦ absurd (join.absent (in_contains less x there))
    ]

-- and stays where both come to have another entry more
joins_added : (x e : Entry) (less more : List Entry) → Joins x less more → x ≢ e → Joins x (with_entry e less) (with_entry e more)
joins_added x e less more join other =
    joins x (with_entry e less) (with_entry e more)
    (λ inside. elim (in_with e x less inside) [ inl same ↦ other same | inr there ↦ join.absent (in_contains less x there) ])
    (ap (with_entry e) join.joined ∙ with_swapped e x less (λ same. other (sym same)))

pub ready_after : (after : List Row) (more : ℕ) (held next : List Entry) → Ready held (moves_of after) → Leads (moves_of (take more after)) held next
    → Ready next (moves_of (drop more after))
ready_after after more held next ready on =
    ready_later (moves_of (take more after)) (moves_of (drop more after)) held next (subst (Ready held) (moves_split more after) ready) on

-- what is held after a row that adds
next_held : {rows after : List Row} {place : ℕ} {held : List Entry} (p : Parted rows after place held) → IsValid Pq rows → (more : ℕ) (row : Row) (e : Entry)
    → slice_get after more ≡ Some row → added_by row ≡ Some e → entries_at rows (place + suc more) ≡ with_entry e (entries_at rows (place + more))
next_held {rows} {after} {place} {held} p valid more row e at adds =
    let next = entries_at rows (place + more) in
    entries_after p (suc more) (with_entry e next)
    (subst (λ l. Leads (moves_of l) held (with_entry e next)) (sym (take_next after more row at))
    (rows_lead (take more after) (row ∷ []) held next (with_entry e next) (after_place p valid more).up_to
    (subst (λ m. Leads (m ∷ []) next (with_entry e next)) (sym adds) refl)))

module _ {entry : Entry} {held : List Entry} {after poor rich : List Row} {poor_place rich_place : ℕ}
    (j : Junction entry held after poor rich poor_place rich_place) where
  -- the lists join again, by any entries that they lead to
  pub junction_between : (more : ℕ) → more ≤ length after → (last : Entry) (next : List Entry) → Leads (moves_of (take more after)) held next
      → Leads (moves_of (take more after)) (with_entry entry held) (with_entry last next) → ¬ In last next
      → Junction last next (drop more after) poor rich (poor_place + more) (rich_place + more)
  junction_between more within last next poor_on rich_on absent = record {
    poorer = parted_later j.poorer more next within poor_on;
    richer = parted_later j.richer more (with_entry last next) within rich_on;
    ready = ready_after after more held next j.ready poor_on;
    absent = absent;
    never = (ready_after after more (with_entry entry held) (with_entry last next) (rich_ready j) rich_on).apart last (with_in last last next (inl refl));
  }

  pub junction_later : (valid : IsValid Pq poor) (more : ℕ) → more ≤ length after
      → Junction (carried_after j valid more).last (entries_at poor (poor_place + more)) (drop more after) poor rich (poor_place + more) (rich_place + more)
  junction_later valid more within =
      let there = carried_after j valid more in
      junction_between more within there.last (entries_at poor (poor_place + more)) (after_place j.poorer valid more).up_to there.leads there.absent

  -- a row that adds leaves the entry more as it is
  pub adding_later : IsValid Pq poor → (more : ℕ) (row : Row) (e last : Entry) → slice_get after more ≡ Some row → added_by row ≡ Some e
      → Joins last (entries_at poor (poor_place + more)) (entries_at rich (rich_place + more))
      → Joins last (entries_at poor (poor_place + suc more)) (entries_at rich (rich_place + suc more))
  adding_later valid more row e last at adds join =
      let less = entries_at poor (poor_place + more) in
      let richer = entries_at rich (rich_place + more) in
      let replays = rich_valid j valid in
      let ready = ready_after after more (with_entry entry held) richer (rich_ready j) (after_place j.richer replays more).up_to in
      let inside : In last richer = subst (In last) (sym join.joined) (with_in last last less (inl refl)) in
      let next : moves_of (drop more after) ≡ Some e ∷ moves_of (drop (suc more) after) =
      ap moves_of (row_at after more row at) ∙ ap (λ m. m ∷ moves_of (drop (suc more) after)) adds in
      let other : last ≢ e = λ same. ready.apart last inside (subst (Adds last) (sym next) (inl same)) in
      subst (λ l. Joins last l (entries_at rich (rich_place + suc more))) (sym (next_held j.poorer valid more row e at adds))
      (subst (Joins last (with_entry e less)) (sym (next_held j.richer replays more row e at adds)) (joins_added last e less richer join other))
