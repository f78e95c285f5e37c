-- A history of a priority queue as moves: its replay leads from nothing to the survivors, by way of what is held at each
-- place.
--
--     ins 4, ins 2, delmin    are the moves    add 4, add 2, take
use Rattle.std.proofs.Common.{◌≡◌, ℕ, zero, suc, List, [], ◌∷◌, ◌++◌, length, take, drop, map, ◌⊎◌, inl, inr, refl, ap, sym, ◌∙◌, subst, Option, Some, None, Result, Ok, Err}
use Rattle.std.specs.Option.{option_map}
use Rattle.std.specs.Result.{result_err, result_unwrap_or}
use Rattle.std.proofs.lemmas.List.{take-append-drop, length-map, map-append}
use Rattle.retro_base.specs.declared.kind.Kind.TheVariants.{Pq}
use Rattle.retro_base.specs.declared.op.Op.{Op}
use Rattle.retro_base.specs.declared.op.Op.TheVariants.{Ins, DelMin}
use Rattle.retro_base.specs.declared.row.Entry.{Entry}
use Rattle.retro_base.specs.declared.row.Row.{Row}
use Rattle.retro_base.specs.Kind.{kind_of}
use Rattle.retro_base.specs.State.{entries, perform, step, empty, with_entry, without_first}
use Rattle.retro_base.specs.Replay.{run, one_later, IsValid}
use Rattle.retro_base.specs.Timeline.{IsFresh, HaveOwnNumbers, AreOfKind}
use Rattle.retro_base.specs.Bridges.{entries_of, entries_at, survivors}
use Rattle.retro_base.specs.Weights.{added_as, added_by}
use Rattle.retro_base.specs.Carried.{IsPqHistory}
use Rattle.retro_base.specs.lemmas.Replayable.{all_before}
use Rattle.retro_base.specs.lemmas.Folds.{fold_rows-nil, fold_rows-some, fold_rows-none}
use Rattle.retro_base.specs.lemmas.bridges.Moves.{Leads, FailsAt, Adds, AddEachOnce, Ready, leads_both, leads_parts, one_end, ready_later}

abbrev pub moves_of : List Row → List (Option Entry)
moves_of rows = map added_by rows

-- the entries after a move, where it finds one to take
abbrev moved : Option Entry → List Entry → Option (List Entry)
moved (Some e) held = Some (with_entry e held)
moved None held = without_first held

-- a row of a priority queue performs its move
performed_as : (op : Op) (number : ℕ) (time : ℕ) (held : List Entry) → kind_of op ≡ Pq
    → perform op number (entries held) ≡ option_map entries (moved (added_by (record { number = number; time = time; op = op })) held)
unfolding perform
performed_as (Ins k) number time held of_kind = refl
performed_as DelMin number time held of_kind = refl
performed_as op number time held of_kind = absurd (cc)

-- the outcome of a replay is that of its moves
abbrev Outcome : List (Option Entry) → List Row → List Entry → Type 0
Outcome moves rows held = ((end : List Entry) × (run rows (entries held) ≡ Ok (entries end)) × Leads moves held end)
    ⊎ ((index : ℕ) × (run rows (entries held) ≡ Err index) × FailsAt moves held index)

outcome_next : (move : Option Entry) (moves : List (Option Entry)) (row : Row) (rows : List Row) (held next : List Entry)
    → step row (entries held) ≡ Some (entries next)
    → ((end : List Entry) → Leads moves next end → Leads (move ∷ moves) held end)
    → ((index : ℕ) → FailsAt moves next index → FailsAt (move ∷ moves) held (suc index))
    → Outcome moves rows next → Outcome (move ∷ moves) (row ∷ rows) held
outcome_next move moves row rows held next goes leads fails rest = elim rest [
  | inl ends ↦ inl (ends.0, fold_rows-some step row rows _ _ goes ∙ ap one_later ends.1, leads ends.0 ends.2)
  | inr stops ↦ inr (suc stops.0, fold_rows-some step row rows _ _ goes ∙ ap one_later stops.1, fails stops.0 stops.2)
]

outcome_by : (move : Option Entry) (moves : List (Option Entry)) (row : Row) (rows : List Row) (held : List Entry)
    → step row (entries held) ≡ option_map entries (moved move held)
    → ((next : List Entry) → Outcome moves rows next) → Outcome (move ∷ moves) (row ∷ rows) held
outcome_by (Some e) moves row rows held same rest =
    outcome_next (Some e) moves row rows held (with_entry e held) same (λ end leads. leads) (λ index fails. fails) (rest (with_entry e held))
outcome_by None moves row rows [] same rest = inr (zero, fold_rows-none step row rows _ same, tt)
outcome_by None moves row rows (x ∷ held) same rest =
    outcome_next None moves row rows (x ∷ held) held same (λ end leads. leads) (λ index fails. fails) (rest held)

pub outcome : (rows : List Row) (held : List Entry) → AreOfKind Pq rows → Outcome (moves_of rows) rows held
outcome [] held of_kind = inl (held, fold_rows-nil step _, refl)
outcome (row ∷ rows) held of_kind =
    outcome_by (added_by row) (moves_of rows) row rows held (performed_as row.op row.number row.time held of_kind.0)
    (λ next. outcome rows next of_kind.1)

-- moves that lead to an end do not fail, and moves fail at one index
pub never_both : (moves : List (Option Entry)) (held end : List Entry) (index : ℕ) → Leads moves held end → FailsAt moves held index → ⊥
never_both [] held end index leads fails = fails
never_both (Some e ∷ moves) held end zero leads fails = fails
never_both (Some e ∷ moves) held end (suc index) leads fails = never_both moves (with_entry e held) end index leads fails
never_both (None ∷ moves) [] end index leads fails = leads
never_both (None ∷ moves) (x ∷ held) end zero leads fails = fails
never_both (None ∷ moves) (x ∷ held) end (suc index) leads fails = never_both moves held end index leads fails

one_failure : (moves : List (Option Entry)) (held : List Entry) (i j : ℕ) → FailsAt moves held i → FailsAt moves held j → i ≡ j
one_failure [] held i j first second = absurd first
one_failure (Some e ∷ moves) held zero j first second = absurd first
one_failure (Some e ∷ moves) held (suc i) zero first second = absurd second
one_failure (Some e ∷ moves) held (suc i) (suc j) first second = ap suc (one_failure moves (with_entry e held) i j first second)
one_failure (None ∷ moves) [] zero zero first second = refl
one_failure (None ∷ moves) [] zero (suc j) first second = absurd second
one_failure (None ∷ moves) [] (suc i) j first second = absurd first
one_failure (None ∷ moves) (x ∷ held) zero j first second = absurd first
one_failure (None ∷ moves) (x ∷ held) (suc i) zero first second = absurd second
one_failure (None ∷ moves) (x ∷ held) (suc i) (suc j) first second = ap suc (one_failure moves held i j first second)

-- so each outcome of the moves is that of the replay, and the other way round
pub leads_run : (rows : List Row) (held end : List Entry) → AreOfKind Pq rows → Leads (moves_of rows) held end → run rows (entries held) ≡ Ok (entries end)
leads_run rows held end of_kind leads = elim (outcome rows held of_kind) [
  | inl ends ↦ ends.1 ∙ ap (λ l. Ok (entries l)) (one_end (moves_of rows) held ends.0 end ends.2 leads)
  | inr stops ↦ absurd (never_both (moves_of rows) held end stops.0 leads stops.2)
]

pub fails_run : (rows : List Row) (held : List Entry) (index : ℕ) → AreOfKind Pq rows → FailsAt (moves_of rows) held index → run rows (entries held) ≡ Err index
fails_run rows held index of_kind fails = elim (outcome rows held of_kind) [
  | inl ends ↦ absurd (never_both (moves_of rows) held ends.0 index ends.2 fails)
  | inr stops ↦ stops.1 ∙ ap (λ i. Err i) (one_failure (moves_of rows) held stops.0 index stops.2 fails)
]

err_not_none : {S : Type 0} {i : ℕ} (r : Result S ℕ) → r ≡ Err i → result_err r ≡ None → ⊥
err_not_none r e valid = let wrong : Some _ ≡ None = sym (ap result_err e) ∙ valid in absurd (cc)

-- rows that replay whole lead from nothing to the survivors
pub valid_leads : (rows : List Row) → AreOfKind Pq rows → IsValid Pq rows → Leads (moves_of rows) [] (survivors rows)
valid_leads rows of_kind valid = elim (outcome rows [] of_kind) [
  | inl ends ↦ subst (λ r. Leads (moves_of rows) [] (entries_of (result_unwrap_or r (empty Pq)))) (sym ends.1) ends.2
  | inr stops ↦ absurd (err_not_none _ stops.1 valid)
]

-- moves that lead from nothing to an end lead to the survivors
pub leads_survivors : (rows : List Row) (end : List Entry) → AreOfKind Pq rows → Leads (moves_of rows) [] end → survivors rows ≡ end
leads_survivors rows end of_kind leads = ap (λ r. entries_of (result_unwrap_or r (empty Pq))) (leads_run rows [] end of_kind leads)

pub leads_valid : (rows : List Row) (end : List Entry) → AreOfKind Pq rows → Leads (moves_of rows) [] end → IsValid Pq rows
leads_valid rows end of_kind leads = ap result_err (leads_run rows [] end of_kind leads)

pub moves_length : (rows : List Row) → length (moves_of rows) ≡ length rows
moves_length rows = length-map rows added_by

pub moves_append : (a b : List Row) → moves_of (a ++ b) ≡ moves_of a ++ moves_of b
moves_append a b = map-append added_by a b

-- and lead on one after the other
pub rows_lead : (a b : List Row) (held middle end : List Entry) → Leads (moves_of a) held middle → Leads (moves_of b) middle end → Leads (moves_of (a ++ b)) held end
rows_lead a b held middle end first second =
    subst (λ l. Leads l held end) (sym (moves_append a b)) (leads_both (moves_of a) (moves_of b) held middle end first second)

pub some_same : {X : Type 0} {x y : X} (o : Option X) → o ≡ Some x → o ≡ Some y → x ≡ y
some_same o e f = cc

pub none_some : {X : Type 0} {x : X} (o : Option X) → o ≡ None → o ≡ Some x → ⊥
none_some o e f = cc

-- the entry that a row adds has its number
pub added_number : (op : Op) (number : ℕ) (e : Entry) → added_as op number ≡ Some e → e.number ≡ number
added_number (Ins k) number e same = ap (λ (f : Entry). f.number) (some_same _ same refl)
added_number op number e same = absurd (none_some _ refl same)

-- rows that do not have a number add no entry that has it
pub fresh_adds : (rows : List Row) (number : ℕ) (x : Entry) → IsFresh number rows → x.number ≡ number → ¬ Adds x (moves_of rows)
fresh_adds [] number x fresh same = λ none. none
fresh_adds (row ∷ rows) number x fresh same =
    elim (added_by row) as (λ m. added_by row ≡ m → Adds x (m ∷ moves_of rows) → ⊥) [
      | Some e ↦ λ adds here. elim here [
        | inl first ↦ fresh.0 (sym (added_number row.op row.number e adds) ∙ ap (λ (f : Entry). f.number) (sym first) ∙ same)
        | inr later ↦ fresh_adds rows number x fresh.1 same later
      ]
      | None ↦ λ takes later. fresh_adds rows number x fresh.1 same later
    ] refl

-- rows with numbers of their own add each entry once
once_of : (rows : List Row) → HaveOwnNumbers rows → AddEachOnce (moves_of rows)
once_of [] own = tt
once_of (row ∷ rows) own = elim (added_by row) as (λ m. added_by row ≡ m → AddEachOnce (m ∷ moves_of rows)) [
  | Some e ↦ λ adds. (fresh_adds rows row.number e own.0 (added_number row.op row.number e adds), once_of rows own.1)
  | None ↦ λ takes. once_of rows own.1
] refl

pub ready_at_start : (rows : List Row) → HaveOwnNumbers rows → Ready [] (moves_of rows)
ready_at_start rows own = record { rising = tt; once = once_of rows own; apart = λ x none. absurd none }

-- rows in two parts: those up to a place, and the others
pub moves_split : (more : ℕ) (after : List Row) → moves_of after ≡ moves_of (take more after) ++ moves_of (drop more after)
moves_split more after = ap moves_of (sym (take-append-drop more after)) ∙ moves_append (take more after) (drop more after)

pub whole_ready : (rows : List Row) (place : ℕ) → IsPqHistory rows → Ready [] (moves_of (take place rows) ++ moves_of (drop place rows))
whole_ready rows place history = subst (Ready []) (moves_split place rows) (ready_at_start rows history.own_numbers)

-- the first ones lead to what is held at the place, and the others from there to the survivors
pub record At (rows : List Row) (place : ℕ) : Type 0 where
  pub first : Leads (moves_of (take place rows)) [] (entries_at rows place)
  pub second : Leads (moves_of (drop place rows)) (entries_at rows place) (survivors rows)
  pub ready : Ready (entries_at rows place) (moves_of (drop place rows))

pub history_at : (rows : List Row) (place : ℕ) → IsPqHistory rows → At rows place
history_at rows place history =
    let front = moves_of (take place rows) in
    let back = moves_of (drop place rows) in
    let parts = leads_parts front back [] (survivors rows) (subst (λ l. Leads l [] (survivors rows)) (moves_split place rows) (valid_leads rows history.of_kind history.valid)) in
    let same : entries_at rows place ≡ parts.0 = leads_survivors (take place rows) parts.0 (all_before (λ r. kind_of r.op ≡ Pq) rows place history.of_kind) parts.1 in
    record {
      first = subst (Leads front []) (sym same) parts.1;
      second = subst (λ l. Leads back l (survivors rows)) (sym same) parts.2;
      ready = subst (λ l. Ready l back) (sym same) (ready_later front back [] parts.0 (whole_ready rows place history) parts.1);
    }
