-- Two replays of the same rows, one of them with an entry more: it has exactly one more at each later place. Where that
-- entry comes before the one that is taken, the taken one is the one more from then on.
--
--     d e      take, add a  lead to  a e      d is taken
--     c d e    take, add a  lead to  a d e    c is taken: first c is the one more, and then d
use Rattle.std.proofs.Common.{◌≡◌, ◌≢◌, List, [], ◌∷◌, true, false, ◌⊎◌, inl, inr, refl, ap, sym, ◌∙◌, subst, Option, Some, None}
use Rattle.retro_base.specs.declared.row.Entry.{Entry}
use Rattle.retro_base.specs.State.{comes_before, with_entry}
use Rattle.retro_base.specs.lemmas.bridges.EntryOrder.{before_irreflexive, before_or_after}
use Rattle.retro_base.specs.lemmas.bridges.Entries.{In, first_once, with_in, in_with, with_first, with_later, with_above, with_swapped, not_before}
use Rattle.retro_base.specs.lemmas.bridges.Moves.{Leads, Adds, Ready, ready_added, ready_taken}

-- no entry of these comes after this one
abbrev pub AtMost : Entry → Entry → Type 0
AtMost x y = comes_before y x ≡ false

-- from one entry more at the beginning: the one more at the end, which is the greatest of it and all that are taken
pub record Carried (carried : Entry) (moves : List (Option Entry)) (held end : List Entry) : Type 0 where
  pub last : Entry
  pub leads : Leads moves (with_entry carried held) (with_entry last end)
  pub absent : ¬ In last end
  pub least : AtMost carried last
  pub greatest : (x : Entry) → In x held ⊎ Adds x moves → ¬ In x end → AtMost x last
  pub among : (last ≡ carried) ⊎ (In last held ⊎ Adds last moves)

-- a step that adds another entry
carried_added : (e c : Entry) (moves : List (Option Entry)) (held end : List Entry) → c ≢ e
    → Carried c moves (with_entry e held) end → Carried c (Some e ∷ moves) held end
carried_added e c moves held end other next = record {
  last = next.last;
  leads = subst (λ l. Leads moves l (with_entry next.last end)) (with_swapped c e held other) next.leads;
  absent = next.absent;
  least = next.least;
  greatest = λ x origin died. next.greatest x (elim origin [
    | inl there ↦ inl (with_in e x held (inr there))
    | inr added ↦ elim added [ inl same ↦ inl (with_in e x held (inl same)) | inr further ↦ inr further ]
  ]) died;
  among = elim next.among [
    | inl same ↦ inl same
    | inr origin ↦ inr (elim origin [
      | inl there ↦ elim (in_with e next.last held there) [ inl same ↦ inr (inl same) | inr before ↦ inl before ]
      | inr added ↦ inr (inr added)
    ])
  ];
}

-- a step that takes: the carried entry goes, and the one that is taken without it is carried on, or another one is taken with it and without it
carried_taken : (c x y : Entry) (moves : List (Option Entry)) (held end : List Entry) (next : Carried y moves held end)
    → Leads (None ∷ moves) (with_entry c (x ∷ held)) (with_entry next.last end) → AtMost c next.last → AtMost x next.last → (y ≡ c) ⊎ (y ≡ x)
    → Carried c (None ∷ moves) (x ∷ held) end
carried_taken c x y moves held end next leads least first which = record {
  last = next.last;
  leads = leads;
  absent = next.absent;
  least = least;
  greatest = λ z origin died. elim origin [
    | inl there ↦ elim there [ inl same ↦ subst (λ e. AtMost e next.last) (sym same) first | inr further ↦ next.greatest z (inl further) died ]
    | inr added ↦ next.greatest z (inr added) died
  ];
  among = elim next.among [
    | inl same ↦ elim which [ inl own ↦ inl (same ∙ own) | inr taken ↦ inr (inl (inl (same ∙ taken))) ]
    | inr origin ↦ inr (elim origin [ inl there ↦ inl (inr there) | inr added ↦ inr added ])
  ];
}

pub carried : (moves : List (Option Entry)) (c : Entry) (held end : List Entry) → Ready held moves → ¬ In c held → ¬ Adds c moves
    → Leads moves held end → Carried c moves held end
carried [] c held end ready absent never leads = record {
  last = c;
  leads = ap (with_entry c) leads;
  absent = subst (λ l. ¬ In c l) leads absent;
  least = before_irreflexive c;
  greatest = λ x origin died. elim origin [ inl there ↦ absurd (died (subst (In x) leads there)) | inr added ↦ absurd added ];
  among = inl refl;
}
carried (Some e ∷ moves) c held end ready absent never leads =
    carried_added e c moves held end (λ same. never (inl same))
    (carried moves c (with_entry e held) end (ready_added e moves held ready)
    (λ inside. elim (in_with e c held inside) [ inl same ↦ never (inl same) | inr there ↦ absent there ])
    (λ added. never (inr added)) leads)
carried (None ∷ moves) c [] end ready absent never leads = absurd leads
carried (None ∷ moves) c (x ∷ held) end ready absent never leads =
    elim (comes_before c x) as (λ t. comes_before c x ≡ t → Carried c (None ∷ moves) (x ∷ held) end) [
      | true ↦ λ before.
          let next = carried moves x held end (ready_taken x moves held ready) (first_once x held ready.rising.0) (ready.apart x (inl refl)) leads in
          carried_taken c x x moves held end next
          (subst (λ l. Leads (None ∷ moves) l (with_entry next.last end)) (sym (with_first c x held before))
          (subst (λ l. Leads moves l (with_entry next.last end)) (with_above x held ready.rising.0) next.leads))
          (not_before c next.last x before next.least) next.least (inr refl)
      | false ↦ λ later.
          let next = carried moves c held end (ready_taken x moves held ready) (λ inside. absent (inr inside)) never leads in
          carried_taken c x c moves held end next (subst (λ l. Leads (None ∷ moves) l (with_entry next.last end)) (sym (with_later c x held later)) next.leads)
          next.least (not_before x next.last c (before_or_after c x (λ same. absent (inl same)) later) next.least) (inl refl)
    ] refl
