-- The first row that could not be performed after an edit of a queue by bridges.
use Rattle.std.proofs.Common.{◌≡◌, ℕ, zero, suc, ◌+◌, ◌≤◌, ◌-◌, true, List, [], ◌∷◌, take, length, inl, inr, refl, sym, ap, ◌∙◌, arith, subst, add-one, Some, None, Option, Result, Err}
use Rattle.std.specs.Prelude.{Contains, is_some}
use Rattle.std.specs.List.{insert, remove, slice_get, cons_option}
use Rattle.std.specs.Option.{option_map, option_map_or}
use Rattle.std.specs.Result.{result_err}
use Rattle.retro_base.specs.declared.kind.Kind.TheVariants.{Pq}
use Rattle.retro_base.specs.declared.op.Op.{Op}
use Rattle.retro_base.specs.declared.op.Op.TheVariants.{DelMin}
use Rattle.retro_base.specs.declared.row.Change.TheVariants.{Lose}
use Rattle.retro_base.specs.declared.row.Entry.{Entry}
use Rattle.retro_base.specs.declared.row.Row.{Row}
use Rattle.retro_base.specs.Better.{comes_after}
use Rattle.retro_base.specs.Bridges.{survivors, first_bridge}
use Rattle.retro_base.specs.BridgeTable.{added, IsSurvivorBefore, IsLeast}
use Rattle.retro_base.specs.Carried.{IsPqHistory, IsPqEdit}
use Rattle.retro_base.specs.Counting.{quantity_of, quantity_after, counted}
use Rattle.retro_base.specs.Edits.{Edit, add, cut, edited}
use Rattle.retro_base.specs.Kind.{kind_of}
use Rattle.retro_base.specs.MarkedChange.{least_survivor, marked_change, marked_failure}
use Rattle.retro_base.specs.MarkedChangeLaws.{IsRightOf}
use Rattle.retro_base.specs.Replay.{failure, fold_rows, one_later}
use Rattle.retro_base.specs.Timeline.{IsFresh}
use Rattle.retro_base.specs.Weights.{added_as, added_by}
use Rattle.retro_base.specs.lemmas.Counted.{failure_with}
use Rattle.retro_base.specs.lemmas.Folds.{fold_rows-cons}
use Rattle.retro_base.specs.lemmas.bridges.Entries.{In, contains_in, in_contains}
use Rattle.retro_base.specs.lemmas.bridges.EditsCarry.{giving_accepted}
use Rattle.retro_base.specs.lemmas.bridges.Best.{FindsBest, least_found}
use Rattle.retro_base.specs.lemmas.bridges.Histories.{none_some}
use Rattle.retro_base.specs.lemmas.bridges.MarkedChange.{marks_tell}
use Rattle.retro_base.specs.lemmas.bridges.StatedBridges.{adds_or_takes}
use Rattle.bridge_pq.specs.Bridged.{FindsRow}
use Rattle.bridge_pq.proofs.FoundFlips.{added-loss, cut-loss, own-read}

-- a number above those of all rows
abbrev pub number_above : List Row → ℕ
number_above [] = 0
number_above (row ∷ rows) = suc row.number + number_above rows

fresh_from : (rows : List Row) (number : ℕ) → number_above rows ≤ number → IsFresh number rows
fresh_from [] number above = tt
fresh_from (row ∷ rows) number above = (
  λ same. (let wrong : ⊥ = omega (arith, above, same) in wrong),
  fresh_from rows number (omega (arith, above)),
)

-- the same row with such a number
abbrev pub numbered_above : List Row → Row → Row
numbered_above rows row = record { number = number_above rows; time = row.time; op = row.op }

fresh_number : (rows : List Row) (row : Row) → IsFresh (numbered_above rows row).number rows
fresh_number rows row = fresh_from rows (number_above rows) (omega arith)

later_alike : (f g : ℕ → Result ℕ ℕ) (after : Option ℕ) → ((next : ℕ) → f next ≡ g next)
    → option_map_or (λ next. one_later (f next)) after (Err 0) ≡ option_map_or (λ next. one_later (g next)) after (Err 0)
later_alike f g None same = refl
later_alike f g (Some next) same = ap one_later (same next)

-- counting looks at the operations alone
module _ (next_of : Op → ℕ → Option ℕ) where
  abbrev pub by_op : List Row → ℕ → Result ℕ ℕ
  by_op rows n = fold_rows (λ row count. next_of row.op count) rows n

  first_alike : (a b : Row) (rows : List Row) (n : ℕ) → a.op ≡ b.op → by_op (a ∷ rows) n ≡ by_op (b ∷ rows) n
  first_alike a b rows n same =
      fold_rows-cons (λ row count. next_of row.op count) a rows n
      ∙ ap (λ op. option_map_or (λ next. one_later (by_op rows next)) (next_of op n) (Err 0)) same
      ∙ sym (fold_rows-cons (λ row count. next_of row.op count) b rows n)

  counted_alike : (rows : List Row) (place : ℕ) (a b : Row) → a.op ≡ b.op → (n : ℕ) → by_op (insert rows place a) n ≡ by_op (insert rows place b) n
  counted_alike rows zero a b same n = first_alike a b rows n same
  counted_alike [] (suc place) a b same n = first_alike a b [] n same
  counted_alike (first ∷ rows) (suc place) a b same n =
      fold_rows-cons (λ row count. next_of row.op count) first (insert rows place a) n
      ∙ later_alike (by_op (insert rows place a)) (by_op (insert rows place b)) (next_of first.op n) (λ next. counted_alike rows place a b same next)
      ∙ sym (fold_rows-cons (λ row count. next_of row.op count) first (insert rows place b) n)

-- so the failure is that of a row with another number
fails_alike : (rows : List Row) (place : ℕ) (a b : Row) → IsPqHistory rows → a.op ≡ b.op → kind_of a.op ≡ Pq → failure Pq (insert rows place a) ≡ failure Pq (insert rows place b)
fails_alike rows place a b history same of_kind =
    failure_with Pq rows place a history.of_kind history.valid of_kind
    ∙ ap result_err (counted_alike (quantity_after (quantity_of a.op)) rows place a b same 0 ∙ ap (λ op. counted (quantity_of op) (insert rows place b) 0) same)
    ∙ sym (failure_with Pq rows place b history.of_kind history.valid (ap kind_of (sym same) ∙ of_kind))

-- whether a row adds does not depend on its number
takes_alike : (op : Op) (a b : ℕ) → kind_of op ≡ Pq → added_as op a ≡ None → added_as op b ≡ None
takes_alike op a b of_kind takes = elim (adds_or_takes op of_kind) [ inl ins ↦ absurd (none_some (added_as op a) takes (ap (λ o. added_as o a) ins.1)) | inr is ↦ ap (λ o. added_as o b) is ]

-- an operation of a priority queue that does not take adds
pub not-take-adds : (op : Op) (number : ℕ) → kind_of op ≡ Pq → (op ≡ DelMin → ⊥) → is_some (added_as op number) ≡ true
not-take-adds op number of_kind not_take = elim (adds_or_takes op of_kind) [ inl ins ↦ ap (λ o. is_some (added_as o number)) ins.1 | inr is ↦ absurd (not_take is) ]

-- where a survivor stands before a place, one stands before each place after it
added_later : (rows : List Row) (place later : ℕ) (e : Entry) → place ≤ later → In e (added (take place rows)) → In e (added (take later rows))
added_later rows zero later e order inside = absurd inside
added_later [] (suc place) later e order inside = absurd inside
added_later (first ∷ rows) (suc place) zero e order inside = absurd (omega arith)
added_later (first ∷ rows) (suc place) (suc later) e order inside =
    elim (added_by first) as (λ m. In e (cons_option m (added (take place rows))) → In e (cons_option m (added (take later rows)))) [
      | Some x ↦ λ here. elim here [ inl same ↦ inl same | inr beyond ↦ inr (added_later rows place later e (omega arith) beyond) ]
      | None ↦ λ beyond. added_later rows place later e (omega arith) beyond
    ] inside

later_one : (rows : List Row) (later : ℕ) (e : Entry) → IsSurvivorBefore rows later e → (found : Option Entry) → FindsBest comes_after (IsSurvivorBefore rows later) found → (x : Entry) × (found ≡ Some x)
later_one rows later e early None none = absurd (none e early)
later_one rows later e early (Some x) best = (x, refl)

pub least-later : (rows : List Row) (place later : ℕ) → place ≤ later → (found : Option ℕ) → is_some found ≡ true → FindsRow rows (least_survivor rows place) found
    → (x : Entry) × (least_survivor rows later ≡ Some x)
least-later rows place later order None some there = absurd (cc)
least-later rows place later order (Some p) some there =
    let least : IsLeast (IsSurvivorBefore rows place) there.0 = subst (FindsBest comes_after (IsSurvivorBefore rows place)) there.1 (least_found rows place) in
    later_one rows later there.0 (in_contains _ there.0 (added_later rows place later there.0 order (contains_in _ there.0 least.one.0)), least.one.1)
    (least_survivor rows later) (least_found rows later)

-- no row fails where a survivor is found, and else one at this index
abbrev pub failure_by : Option Entry → ℕ → Option ℕ
failure_by None index = Some index
failure_by (Some e) index = None

failure_of : (rows : List Row) (edit : Edit) (bridge : ℕ) (found : Option Entry) → IsPqEdit rows edit → marked_change rows edit ≡ option_map (λ e. Lose (Some bridge) e) found
    → failure Pq (edited rows edit) ≡ failure_by found (marked_failure rows edit)
failure_of rows edit bridge None possible read = subst (IsRightOf rows edit) read (marks_tell rows edit possible)
failure_of rows edit bridge (Some e) possible read = (subst (IsRightOf rows edit) read (marks_tell rows edit possible)).0

module _ (rows : List Row) (place : ℕ) (row : Row) (history : IsPqHistory rows) (within : place ≤ length rows) (of_kind : kind_of row.op ≡ Pq) where
  possible : IsPqEdit rows (add place (numbered_above rows row))
  possible = record { history = history; within = within; own_row = (of_kind, fresh_number rows row) }

  alike : failure Pq (insert rows place row) ≡ failure Pq (insert rows place (numbered_above rows row))
  alike = fails_alike rows place row (numbered_above rows row) history refl of_kind

  pub take-failure : (found : Option Entry) → added_by row ≡ None → least_survivor rows (first_bridge rows place) ≡ found
      → failure Pq (insert rows place row) ≡ failure_by found (first_bridge rows place)
  take-failure found takes least =
      alike ∙ failure_of rows (add place (numbered_above rows row)) (first_bridge rows place) found possible
      (added-loss rows place (numbered_above rows row) (first_bridge rows place) found (takes_alike row.op row.number (number_above rows) of_kind takes) refl least)

  pub add-goes : is_some (added_as row.op (number_above rows)) ≡ true → failure Pq (insert rows place row) ≡ None
  add-goes adds = alike ∙ giving_accepted rows (add place (numbered_above rows row)) possible adds

module _ (rows : List Row) (place : ℕ) (row : Row) (own : Entry) (history : IsPqHistory rows) (there : slice_get rows place ≡ Some row) (adds : added_by row ≡ Some own) where
  possible_cut : IsPqEdit rows (cut place row)
  possible_cut = record { history = history; within = there; own_row = tt }

  pub cut-failure : (found : Option Entry) → ¬ Contains (survivors rows) own → least_survivor rows (first_bridge rows (place + 1)) ≡ found
      → failure Pq (remove rows place) ≡ failure_by found (first_bridge rows (place + 1) - 2)
  cut-failure found dead least =
      failure_of rows (cut place row) (first_bridge rows (place + 1)) found possible_cut (cut-loss rows place row (first_bridge rows (place + 1)) found own adds dead refl least)
      ∙ ap (λ n. failure_by found (first_bridge rows n - 2)) (sym (add-one place))

  pub cut-survivor-goes : Contains (survivors rows) own → failure Pq (remove rows place) ≡ None
  cut-survivor-goes lives = (subst (IsRightOf rows (cut place row)) (own-read rows place row own adds lives) (marks_tell rows (cut place row) possible_cut)).0

pub cut-take-goes : (rows : List Row) (place : ℕ) (row : Row) → IsPqHistory rows → slice_get rows place ≡ Some row → added_by row ≡ None → failure Pq (remove rows place) ≡ None
cut-take-goes rows place row history there takes =
    giving_accepted rows (cut place row) (record { history = history; within = there; own_row = tt }) (rw takes refl)
