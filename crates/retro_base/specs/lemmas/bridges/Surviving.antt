-- An entry that survives is never taken. So where one of two lists of rows holds it more than the other one does, it does so
-- to the end, and the other one replays whole where the first one does.
--
--     poor   held          then  a b
--     rich   held and c    then  a b c      c survives
use Rattle.std.proofs.Common.{◌≡◌, ◌≢◌, ℕ, ◌+◌, Bool, true, false, List, [], ◌∷◌, take, drop, inl, inr, refl, ap, sym, ◌∙◌, subst, Option, Some, None}
use Rattle.retro_base.specs.declared.kind.Kind.TheVariants.{Pq}
use Rattle.retro_base.specs.declared.row.Entry.{Entry}
use Rattle.retro_base.specs.declared.row.Row.{Row}
use Rattle.retro_base.specs.State.{comes_before, with_entry}
use Rattle.retro_base.specs.Replay.{IsValid}
use Rattle.retro_base.specs.Bridges.{entries_at, survivors}
use Rattle.retro_base.specs.Changes.{Joins}
use Rattle.retro_base.specs.lemmas.bridges.Entries.{In, with_in, in_with, with_first, with_later, with_swapped}
use Rattle.retro_base.specs.lemmas.bridges.Moves.{Leads, Adds, Ready, ready_added, ready_taken, taken_for_good, came_from, adds_second}
use Rattle.retro_base.specs.lemmas.bridges.Histories.{moves_of, moves_split}
use Rattle.retro_base.specs.lemmas.bridges.Junctions.{Junction, rich_ready}
use Rattle.retro_base.specs.lemmas.bridges.After.{after_place, all_after, entries_after, valid_by, survivors_by, joins, ready_up_to}

-- the same moves without the entry, and what they lead to
pub record Without (c : Entry) (moves : List (Option Entry)) (held end : List Entry) : Type 0 where
  pub less : List Entry
  pub leads : Leads moves held less
  pub one_more : end ≡ with_entry c less
  pub absent : ¬ In c less

kept_taken : (c x : Entry) (moves : List (Option Entry)) (held end : List Entry) → (b : Bool) → comes_before c x ≡ b
    → Ready (with_entry c (x ∷ held)) (None ∷ moves) → ¬ In c (x ∷ held) → Leads (None ∷ moves) (with_entry c (x ∷ held)) end → In c end
    → (Ready (with_entry c held) moves → Leads moves (with_entry c held) end → Without c moves held end)
    → Without c (None ∷ moves) (x ∷ held) end
kept_taken c x moves held end true before ready absent leads lives rest =
    let first = with_first c x held before in
    absurd (taken_for_good c moves (x ∷ held) end (subst (λ l. Ready l (None ∷ moves)) first ready) (subst (λ l. Leads (None ∷ moves) l end) first leads) lives)
kept_taken c x moves held end false beyond ready absent leads lives rest =
    let later = with_later c x held beyond in
    let less = rest (ready_taken x moves (with_entry c held) (subst (λ l. Ready l (None ∷ moves)) later ready)) (subst (λ l. Leads (None ∷ moves) l end) later leads) in
    record { less = less.less; leads = less.leads; one_more = less.one_more; absent = less.absent }

pub kept : (moves : List (Option Entry)) (c : Entry) (held end : List Entry) → Ready (with_entry c held) moves → ¬ In c held
    → Leads moves (with_entry c held) end → In c end → Without c moves held end
kept [] c held end ready absent leads lives = record { less = held; leads = refl; one_more = sym leads; absent = absent }
kept (Some e ∷ moves) c held end ready absent leads lives =
    let other : c ≢ e = λ same. ready.apart c (with_in c c held (inl refl)) (inl same) in
    let swapped = with_swapped e c held (λ same. other (sym same)) in
    let less = kept moves c (with_entry e held) end
    (subst (λ l. Ready l moves) swapped (ready_added e moves (with_entry c held) ready))
    (λ inside. elim (in_with e c held inside) [ inl same ↦ other same | inr there ↦ absent there ])
    (subst (λ l. Leads moves l end) swapped leads) lives in
    record { less = less.less; leads = less.leads; one_more = less.one_more; absent = less.absent }
kept (None ∷ moves) c [] end ready absent leads lives = absurd (taken_for_good c moves [] end ready leads lives)
kept (None ∷ moves) c (x ∷ held) end ready absent leads lives =
    kept_taken c x moves held end (comes_before c x) refl ready absent leads lives
    (λ prepared way. kept moves c held end prepared (λ inside. absent (inr inside)) way lives)

joins_without : {c : Entry} {moves : List (Option Entry)} {held end : List Entry} (w : Without c moves held end) (less : List Entry) → less ≡ w.less → Joins c less end
joins_without {c} {moves} {held} {end} w less same =
    joins c less end (subst (λ l. ¬ In c l) (sym same) w.absent) (w.one_more ∙ ap (with_entry c) (sym same))

module _ {entry : Entry} {held : List Entry} {after poor rich : List Row} {poor_place rich_place : ℕ}
    (j : Junction entry held after poor rich poor_place rich_place) (valid : IsValid Pq rich) (lives : In entry (survivors rich)) where
  without_to_end : Without entry (moves_of after) held (survivors rich)
  without_to_end = kept (moves_of after) entry held (survivors rich) (rich_ready j) j.absent (all_after j.richer valid) lives

  -- the poorer rows replay whole, and their present is the other one without the entry
  pub poor_valid : IsValid Pq poor
  poor_valid = valid_by j.poorer without_to_end.less without_to_end.leads

  pub kept_to_end : Joins entry (survivors poor) (survivors rich)
  kept_to_end = joins_without without_to_end (survivors poor) (survivors_by j.poorer without_to_end.less without_to_end.leads)

  -- it is held until then
  still_held : (further : ℕ) → In entry (entries_at rich (rich_place + further))
  still_held further =
      elim (came_from entry (moves_of (drop further after)) (entries_at rich (rich_place + further)) (survivors rich) (after_place j.richer valid further).on lives) [
        | inl there ↦ there
        | inr added ↦ absurd (j.never (subst (Adds entry) (sym (moves_split further after))
            (adds_second entry (moves_of (take further after)) (moves_of (drop further after)) added)))
      ]

  pub kept_after : (further : ℕ) → Joins entry (entries_at poor (poor_place + further)) (entries_at rich (rich_place + further))
  kept_after further =
      let less = kept (moves_of (take further after)) entry held (entries_at rich (rich_place + further))
      (ready_up_to further after (with_entry entry held) (rich_ready j)) j.absent (after_place j.richer valid further).up_to (still_held further) in
      joins_without less (entries_at poor (poor_place + further)) (entries_after j.poorer further less.less less.leads)
