-- After the place where two lists of rows join, the richer one holds exactly one entry more at each place, and so many
-- rows lead both of them on.
--
--     poor   held          then  a b        then  a b
--     rich   held and c    then  a b c      then  a b d
use Rattle.std.proofs.Common.{◌≡◌, ℕ, ◌+◌, ◌≤◌, List, [], ◌++◌, length, take, drop, append_assoc, length-append, length-take, ap, sym, ◌∙◌, arith, subst, Some}
use Rattle.std.specs.Prelude.{slice_get}
use Rattle.std.proofs.Math.Seq.{take-append-add}
use Rattle.std.proofs.lemmas.List.{take-append-drop, drop_at}
use Rattle.retro_base.specs.declared.kind.Kind.TheVariants.{Pq}
use Rattle.retro_base.specs.declared.row.Entry.{Entry}
use Rattle.retro_base.specs.declared.row.Row.{Row}
use Rattle.retro_base.specs.State.{with_entry}
use Rattle.retro_base.specs.Kind.{kind_of}
use Rattle.retro_base.specs.Replay.{IsValid}
use Rattle.retro_base.specs.Timeline.{AreOfKind}
use Rattle.retro_base.specs.Bridges.{entries_at, survivors}
use Rattle.retro_base.specs.Changes.{Joins}
use Rattle.retro_base.specs.Facts.{get_drop}
use Rattle.retro_base.specs.OrderLaws.{all_joined, all_parts}
use Rattle.retro_base.specs.lemmas.Replayable.{all_before}
use Rattle.retro_base.specs.lemmas.bridges.Entries.{In, contains_in}
use Rattle.retro_base.specs.lemmas.bridges.Moves.{Leads, Adds, Ready, leads_parts, one_end, ready_first, adds_first}
use Rattle.retro_base.specs.lemmas.bridges.Histories.{moves_of, moves_append, moves_split, rows_lead, leads_survivors, leads_valid, valid_leads}
use Rattle.retro_base.specs.lemmas.bridges.Junctions.{Parted, Junction}
use Rattle.retro_base.specs.lemmas.bridges.Carried.{Carried, carried}

-- the first rows after the front, up to a place
rows_up_to : (rows front after : List Row) (place more : ℕ) → rows ≡ front ++ after → length front ≡ place → take (place + more) rows ≡ front ++ take more after
rows_up_to rows front after place more is same = rw (is, ← same) (take-append-add front after more)

-- where the rows replay whole, the moves after the front lead by what is held at the place to the survivors
pub record After (rows after : List Row) (place more : ℕ) (held : List Entry) : Type 0 where
  pub up_to : Leads (moves_of (take more after)) held (entries_at rows (place + more))
  pub on : Leads (moves_of (drop more after)) (entries_at rows (place + more)) (survivors rows)

module _ {rows after : List Row} {place : ℕ} {held : List Entry} (p : Parted rows after place held) where
  -- where the rows after the place lead on, they lead to what is held so many rows further
  pub entries_after : (more : ℕ) (next : List Entry) → Leads (moves_of (take more after)) held next → entries_at rows (place + more) ≡ next
  entries_after more next on =
      let kinds = all_parts (λ r. kind_of r.op ≡ Pq) p.front after (subst (AreOfKind Pq) p.is p.of_kind) in
      ap survivors (rows_up_to rows p.front after place more p.is p.size)
      ∙ leads_survivors (p.front ++ take more after) next
      (all_joined (λ r. kind_of r.op ≡ Pq) p.front (take more after) kinds.0 (all_before (λ r. kind_of r.op ≡ Pq) after more kinds.1))
      (rows_lead p.front (take more after) [] held next p.leads on)

  -- so many rows further they part again
  pub parted_later : (more : ℕ) (next : List Entry) → more ≤ length after → Leads (moves_of (take more after)) held next → Parted rows (drop more after) (place + more) next
  parted_later more next within on = record {
    front = p.front ++ take more after;
    is = p.is ∙ ap (λ l. p.front ++ l) (sym (take-append-drop more after)) ∙ sym (append_assoc p.front (take more after) (drop more after));
    size = omega (arith, p.size, length-append p.front (take more after), length-take more after);
    leads = rows_lead p.front (take more after) [] held next p.leads on;
    of_kind = p.of_kind;
  }

  -- a row of theirs at a place further on
  pub row_after : (more : ℕ) (row : Row) → slice_get rows (place + more) ≡ Some row → slice_get after more ≡ Some row
  row_after more row at = ap (λ l. slice_get l more) (sym (ap (drop place) p.is ∙ drop_at p.front after place p.size)) ∙ get_drop rows place more ∙ at

  -- where all of them can be performed, they lead to the survivors
  pub all_after : IsValid Pq rows → Leads (moves_of after) held (survivors rows)
  all_after valid =
      let parts = leads_parts (moves_of p.front) (moves_of after) [] (survivors rows)
      (subst (λ l. Leads l [] (survivors rows)) (ap moves_of p.is ∙ moves_append p.front after) (valid_leads rows p.of_kind valid)) in
      subst (λ l. Leads (moves_of after) l (survivors rows)) (one_end (moves_of p.front) [] parts.0 held parts.1 p.leads) parts.2

  pub after_place : IsValid Pq rows → (more : ℕ) → After rows after place more held
  after_place valid more =
      let two = leads_parts (moves_of (take more after)) (moves_of (drop more after)) held (survivors rows)
      (subst (λ l. Leads l held (survivors rows)) (moves_split more after) (all_after valid)) in
      let here : entries_at rows (place + more) ≡ two.0 = entries_after more two.0 two.1 in
      record {
        up_to = subst (Leads (moves_of (take more after)) held) (sym here) two.1;
        on = subst (λ l. Leads (moves_of (drop more after)) l (survivors rows)) (sym here) two.2;
      }

  -- and where those after the place lead to some entries, all of them replay whole and leave these
  leads_to_end : (end : List Entry) → Leads (moves_of after) held end → Leads (moves_of rows) [] end
  leads_to_end end on = subst (λ l. Leads (moves_of l) [] end) (sym p.is) (rows_lead p.front after [] held end p.leads on)

  pub valid_by : (end : List Entry) → Leads (moves_of after) held end → IsValid Pq rows
  valid_by end on = leads_valid rows end p.of_kind (leads_to_end end on)

  pub survivors_by : (end : List Entry) → Leads (moves_of after) held end → survivors rows ≡ end
  survivors_by end on = leads_survivors rows end p.of_kind (leads_to_end end on)

pub after_front : (rows front after : List Row) (place more : ℕ) (held : List Entry) → rows ≡ front ++ after → length front ≡ place
    → AreOfKind Pq rows → IsValid Pq rows → Leads (moves_of front) [] held → After rows after place more held
after_front rows front after place more held is same of_kind valid first =
    let p : Parted rows after place held = record { front = front; is = is; size = same; leads = first; of_kind = of_kind } in
    after_place p valid more

-- no entry that is added after is among the first moves
never_up_to : (x : Entry) (more : ℕ) (after : List Row) → ¬ Adds x (moves_of after) → ¬ Adds x (moves_of (take more after))
never_up_to x more after never added = never (subst (Adds x) (sym (moves_split more after)) (adds_first x (moves_of (take more after)) (moves_of (drop more after)) added))

pub ready_up_to : (more : ℕ) (after : List Row) (held : List Entry) → Ready held (moves_of after) → Ready held (moves_of (take more after))
ready_up_to more after held ready =
    ready_first (moves_of (take more after)) (moves_of (drop more after)) held (subst (Ready held) (moves_split more after) ready)

pub joins : (x : Entry) (less more : List Entry) → ¬ In x less → more ≡ with_entry x less → Joins x less more
joins x less more absent same = record { absent = λ inside. absent (contains_in less x inside); joined = same }

module _ {entry : Entry} {held : List Entry} {after poor rich : List Row} {poor_place rich_place : ℕ}
    (j : Junction entry held after poor rich poor_place rich_place) (valid : IsValid Pq poor) where
  -- so many rows after the place
  pub carried_after : (more : ℕ) → Carried entry (moves_of (take more after)) held (entries_at poor (poor_place + more))
  carried_after more =
      carried (moves_of (take more after)) entry held (entries_at poor (poor_place + more)) (ready_up_to more after held j.ready) j.absent
      (never_up_to entry more after j.never) (after_place j.poorer valid more).up_to

  pub one_more_after : (more : ℕ) → Joins (carried_after more).last (entries_at poor (poor_place + more)) (entries_at rich (rich_place + more))
  one_more_after more = joins _ _ _ (carried_after more).absent (entries_after j.richer more _ (carried_after more).leads)

  -- after all rows
  pub carried_to_end : Carried entry (moves_of after) held (survivors poor)
  carried_to_end = carried (moves_of after) entry held (survivors poor) j.ready j.absent j.never (all_after j.poorer valid)

  pub rich_valid : IsValid Pq rich
  rich_valid = valid_by j.richer _ carried_to_end.leads

  pub one_more_survives : Joins carried_to_end.last (survivors poor) (survivors rich)
  one_more_survives = joins _ _ _ carried_to_end.absent (survivors_by j.richer _ carried_to_end.leads)
