-- Of a dictionary, the rows of the edited key alone decide which row fails first.
use Rattle.std.proofs.Common.{◌≡◌, ℕ, ℤ, suc, ◌+◌, ◌≤◌, length, arith, Bool, true, false, List, [], ◌∷◌, ◌++◌, refl, sym, ap, ◌∙◌, Option, Some, None, Result, Ok, Err, cond, Less, Equal, Greater}
use Rattle.std.specs.Prelude.{if◌then◌else◌}
use Rattle.std.specs.Map.{remove_entry}
use Rattle.std.specs.Option.{option_map}
use Rattle.std.specs.Ordering.{int_cmp, int_eq, match_ordering}
use Rattle.std.specs.Result.{result_err}
use Rattle.retro_base.specs.declared.counting.Quantity.TheVariants.{Key}
use Rattle.retro_base.specs.declared.kind.Kind.TheVariants.{Dict}
use Rattle.retro_base.specs.declared.op.Op.{Op}
use Rattle.retro_base.specs.declared.op.Op.TheVariants.{Put, Del}
use Rattle.retro_base.specs.declared.row.Row.{Row}
use Rattle.retro_base.specs.Kind.{kind_of}
use Rattle.retro_base.specs.State.{State, pairs, perform, step, with_key}
use Rattle.retro_base.specs.Replay.{one_later, fold_rows, run}
use Rattle.retro_base.specs.Timeline.{AreOfKind}
use Rattle.retro_base.specs.Counting.{one_fewer, pair_after, quantity_of, quantity_after, counted}
use Rattle.retro_base.specs.lemmas.Folds.{not_both, ok_same, fold_rows-nil, fold_rows-some, fold_rows-none, fold_rows-append, front_possible, after_possible, between_goes, still_none}
use Rattle.retro_base.specs.lemmas.SortedPairs.{AreSorted, has, same_key, same_as_itself, sorted_with, has_with, sorted_without, others_stay, is_gone}
use Rattle.retro_base.specs.Facts.{some_is_not_none}
use Rattle.retro_base.specs.Outcomes.{earlier_none, later_none, is_ok, later_ok}

-- how many pairs of a key there are: 1 or none
abbrev pub pair_count : ℤ → List (ℤ × ℤ) → ℕ
pair_count key ps = cond (has key ps) 1 0

-- what an operation that can be performed leaves
abbrev Goes : Op → List (ℤ × ℤ) → State → Type 0
Goes op ps state = (qs : List (ℤ × ℤ)) × (state ≡ pairs qs) × AreSorted qs × ((q : ℤ) → pair_after q op (pair_count q ps) ≡ Some (pair_count q qs)) × (length qs ≤ suc (length ps))

-- an operation that cannot be performed finds no pair of its key
abbrev Stops : Op → List (ℤ × ℤ) → Type 0
Stops op ps = (key : ℤ) × (quantity_of op ≡ Key key) × (pair_after key op (pair_count key ps) ≡ None)

pub put_length : (k v : ℤ) (ps : List (ℤ × ℤ)) → length (with_key k v ps) ≤ suc (length ps)
put_length k v [] = omega arith
put_length k v (e ∷ es) =
    elim (int_cmp k e.0) as (λ o. length (match_ordering o ((k, v) ∷ e ∷ es) ((e.0, v) ∷ es) (e ∷ with_key k v es)) ≤ suc (suc (length es))) [
      | Less ↦ omega arith
      | Equal ↦ omega arith
      | Greater ↦ omega (arith, put_length k v es)
    ]

del_length : (k : ℤ) (ps : List (ℤ × ℤ)) → length (remove_entry (int_eq k) ps) ≤ suc (length ps)
del_length k [] = omega arith
del_length k (e ∷ es) =
    elim (int_eq k e.0) as (λ b. length (cond b es (e ∷ remove_entry (int_eq k) es)) ≤ suc (suc (length es))) [
      | true ↦ omega arith
      | false ↦ omega (arith, del_length k es)
    ]

put_goes : (k v : ℤ) (ps : List (ℤ × ℤ)) (state : State) → AreSorted ps → Some (pairs (with_key k v ps)) ≡ Some state → Goes (Put k v) ps state
put_goes k v ps state sorted e = (
  with_key k v ps,
  (let same : state ≡ pairs (with_key k v ps) = cc in same),
  sorted_with k v ps sorted,
  λ q. rw (has_with k v q ps) (elim (int_eq q k) as (λ b. cond b (Some 1) (Some (pair_count q ps)) ≡ Some (cond (cond b true (has q ps)) 1 0)) [ true ↦ refl | false ↦ refl ]),
  put_length k v ps,
)

del_counts : (k : ℤ) (ps : List (ℤ × ℤ)) → AreSorted ps → has k ps ≡ true → (q : ℤ) → pair_after q (Del k) (pair_count q ps) ≡ Some (pair_count q (remove_entry (int_eq k) ps))
del_counts k ps sorted there q =
    elim (int_eq q k) as (λ b. int_eq q k ≡ b → cond b (one_fewer (pair_count q ps)) (Some (pair_count q ps)) ≡ Some (pair_count q (remove_entry (int_eq k) ps))) [
      | true ↦ λ same. rw (same_key q k same, there, is_gone k ps sorted) refl
      | false ↦ λ apart. ap (λ b. Some (cond b 1 0)) (sym (others_stay k q ps apart))
    ] refl

del_goes : (k : ℤ) (ps : List (ℤ × ℤ)) (state : State) (b : Bool) → AreSorted ps → has k ps ≡ b
    → option_map pairs (if b then Some (remove_entry (int_eq k) ps) else None) ≡ Some state → Goes (Del k) ps state
del_goes k ps state true sorted there e = (
  remove_entry (int_eq k) ps,
  (let same : state ≡ pairs (remove_entry (int_eq k) ps) = cc in same),
  sorted_without k ps sorted,
  del_counts k ps sorted there,
  del_length k ps,
)
del_goes k ps state false sorted there e = absurd (cc)

del_stops : (k : ℤ) (ps : List (ℤ × ℤ)) (b : Bool) → has k ps ≡ b
    → option_map pairs (if b then Some (remove_entry (int_eq k) ps) else None) ≡ None → Stops (Del k) ps
del_stops k ps true there e = absurd (cc)
del_stops k ps false there e = (k, refl, rw (same_as_itself k, there) refl)

goes : (op : Op) (number : ℕ) (ps : List (ℤ × ℤ)) (state : State) → kind_of op ≡ Dict → AreSorted ps → perform op number (pairs ps) ≡ Some state → Goes op ps state
unfolding perform
goes (Put k v) n ps state h sorted e = put_goes k v ps state sorted e
goes (Del k) n ps state h sorted e = del_goes k ps state (has k ps) sorted refl e
goes op n ps state h sorted e = absurd (cc)

stops : (op : Op) (number : ℕ) (ps : List (ℤ × ℤ)) → kind_of op ≡ Dict → perform op number (pairs ps) ≡ None → Stops op ps
unfolding perform
stops (Del k) n ps h e = del_stops k ps (has k ps) refl e
stops op n ps h e = absurd (cc)

same_later : {S T : Type 0} (r : Result S ℕ) (q : Result T ℕ) → result_err r ≡ result_err q → result_err (one_later r) ≡ result_err (one_later q)
same_later (Ok s) (Ok t) e = refl
same_later (Ok s) (Err j) e = absurd (cc)
same_later (Err i) (Ok t) e = absurd (cc)
same_later (Err i) (Err j) e = let same : i ≡ j = cc in ap (λ k. Some (suc k)) same

abbrev keyed : ℤ → Row → ℕ → Option ℕ
keyed key row n = quantity_after (Key key) row.op n

-- where all rows can be performed, the rows of each key find their pairs
pub all_keys : (rows : List Row) (ps : List (ℤ × ℤ)) → AreOfKind Dict rows → AreSorted ps → result_err (run rows (pairs ps)) ≡ None
    → (q : ℤ) → result_err (counted (Key q) rows (pair_count q ps)) ≡ None
all_keys [] ps all sorted valid q = ap result_err (fold_rows-nil (keyed q) (pair_count q ps))
all_keys (row ∷ rows) ps all sorted valid q =
    elim (step row (pairs ps)) as (λ o. step row (pairs ps) ≡ o → result_err (counted (Key q) (row ∷ rows) (pair_count q ps)) ≡ None) [
      | None ↦ λ at. absurd (some_is_not_none (sym (ap result_err (fold_rows-none step row rows (pairs ps) at)) ∙ valid))
      | Some t ↦ λ at.
          let to = goes row.op row.number ps t all.0 sorted at in
          let rest : result_err (run rows (pairs to.0)) ≡ None =
          earlier_none _ (sym (ap result_err (fold_rows-some step row rows (pairs ps) (pairs to.0) (at ∙ ap (λ s. Some s) to.1))) ∙ valid) in
          ap result_err (fold_rows-some (keyed q) row rows (pair_count q ps) (pair_count q to.0) (to.3 q))
          ∙ later_none _ (all_keys rows to.0 all.1 to.2 rest q)
    ] refl

-- where the rows of all other keys find their pairs, the first failure is that of this key's rows
pub one_key : (key : ℤ) (rows : List Row) (ps : List (ℤ × ℤ)) → AreOfKind Dict rows → AreSorted ps
    → ((q : ℤ) → int_eq q key ≡ false → result_err (counted (Key q) rows (pair_count q ps)) ≡ None)
    → result_err (run rows (pairs ps)) ≡ result_err (counted (Key key) rows (pair_count key ps))
one_key key [] ps all sorted others = ap result_err (fold_rows-nil step (pairs ps)) ∙ sym (ap result_err (fold_rows-nil (keyed key) (pair_count key ps)))
one_key key (row ∷ rows) ps all sorted others =
    elim (step row (pairs ps)) as (λ o. step row (pairs ps) ≡ o → result_err (run (row ∷ rows) (pairs ps)) ≡ result_err (counted (Key key) (row ∷ rows) (pair_count key ps))) [
      | None ↦ λ at.
          let no = stops row.op row.number ps all.0 at in
          let fails : counted (Key no.0) (row ∷ rows) (pair_count no.0 ps) ≡ Err 0 = fold_rows-none (keyed no.0) row rows (pair_count no.0 ps) no.2 in
          elim (int_eq no.0 key) as (λ b. int_eq no.0 key ≡ b → result_err (run (row ∷ rows) (pairs ps)) ≡ result_err (counted (Key key) (row ∷ rows) (pair_count key ps))) [
            | true ↦ λ same. ap result_err (fold_rows-none step row rows (pairs ps) at) ∙ sym (ap result_err (rw (same_key no.0 key same) at fails))
            | false ↦ λ apart. absurd (some_is_not_none (sym (ap result_err fails) ∙ others no.0 apart))
          ] refl
      | Some t ↦ λ at.
          let to = goes row.op row.number ps t all.0 sorted at in
          let rest = one_key key rows to.0 all.1 to.2
          (λ q apart. earlier_none _ (sym (ap result_err (fold_rows-some (keyed q) row rows (pair_count q ps) (pair_count q to.0) (to.3 q))) ∙ others q apart)) in
          ap result_err (fold_rows-some step row rows (pairs ps) (pairs to.0) (at ∙ ap (λ s. Some s) to.1))
          ∙ same_later _ _ rest
          ∙ sym (ap result_err (fold_rows-some (keyed key) row rows (pair_count key ps) (pair_count key to.0) (to.3 key)))
    ] refl

-- A row that leaves the count as it is may be put in or taken out.
module _ (next_of : Row → ℕ → Option ℕ) (row : Row) (passes : (n : ℕ) → next_of row n ≡ Some n) where
  pub passed_in : (before after : List Row) (n : ℕ) → result_err (fold_rows next_of (before ++ after) n) ≡ None
      → result_err (fold_rows next_of (before ++ row ∷ after) n) ≡ None
  passed_in before after n e =
      let front = is_ok (fold_rows next_of before n) (front_possible next_of before after n e) in
      ap result_err (between_goes next_of before after row n front.0 front.0 front.1 (passes front.0))
      ∙ still_none (length before + 1) _ (after_possible next_of before after n front.0 front.1 e)

  pub passed_out : (before after : List Row) (n : ℕ) → result_err (fold_rows next_of (before ++ row ∷ after) n) ≡ None
      → result_err (fold_rows next_of (before ++ after) n) ≡ None
  passed_out before after n e =
      let front = is_ok (fold_rows next_of before n) (front_possible next_of before (row ∷ after) n e) in
      let rest = after_possible next_of before (row ∷ after) n front.0 front.1 e in
      ap result_err (fold_rows-append next_of before after n front.0 front.1)
      ∙ still_none (length before) _ (earlier_none _ (sym (ap result_err (fold_rows-some next_of row after front.0 front.0 (passes front.0))) ∙ rest))

-- an operation of a dictionary has a key, and leaves the pairs of other keys as they are
abbrev Keyed : Op → Type 0
Keyed op = (key : ℤ) × (quantity_of op ≡ Key key) × ((q : ℤ) (n : ℕ) → int_eq q key ≡ false → pair_after q op n ≡ Some n)

pub key_of_row : (op : Op) → kind_of op ≡ Dict → Keyed op
key_of_row (Put k v) h = (k, refl, λ q n apart. rw apart refl)
key_of_row (Del k) h = (k, refl, λ q n apart. rw apart refl)
key_of_row op h = absurd (cc)

-- each row adds at most one pair
pub pairs_few : (rows : List Row) (ps : List (ℤ × ℤ)) (state : State) → AreOfKind Dict rows → AreSorted ps → run rows (pairs ps) ≡ Ok state
    → (qs : List (ℤ × ℤ)) × (state ≡ pairs qs) × (length qs ≤ length ps + length rows)
pairs_few [] ps state all sorted e = (ps, ok_same _ e (fold_rows-nil step (pairs ps)), omega arith)
pairs_few (row ∷ rows) ps state all sorted e =
    elim (step row (pairs ps)) as (λ o. step row (pairs ps) ≡ o → (qs : List (ℤ × ℤ)) × (state ≡ pairs qs) × (length qs ≤ length ps + suc (length rows))) [
      | None ↦ λ at. absurd (not_both _ (fold_rows-none step row rows (pairs ps) at) e)
      | Some t ↦ λ at.
          let to = goes row.op row.number ps t all.0 sorted at in
          let rest = pairs_few rows to.0 state all.1 to.2
          (later_ok _ state (sym (fold_rows-some step row rows (pairs ps) (pairs to.0) (at ∙ ap (λ s. Some s) to.1)) ∙ e)) in
          (rest.0, rest.1, omega (arith, rest.2, to.4))
    ] refl
