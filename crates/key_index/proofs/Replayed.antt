-- A row of a dictionary fails exactly where it takes out a key that is not there; which keys are there is all that counts.
use Rattle.std.proofs.Common.{◌≡◌, ℕ, ℤ, suc, Bool, true, false, not, ◌&&◌, cond, Option, Some, None, Result, Ok, Err, Less, Equal, Greater, List, [], ◌∷◌, map, refl, sym, ap, ◌∙◌}
use Rattle.std.specs.Prelude.{if◌then◌else◌}
use Rattle.std.specs.List.{AllByRecursion}
use Rattle.std.specs.List.Sorted.{IsStrictlySortedBy}
use Rattle.std.specs.Map.{lookup, remove_entry, keys_of}
use Rattle.std.specs.Option.{is_some, option_map, option_map_or}
use Rattle.std.specs.Ordering.{int_cmp, int_eq, match_ordering, ordering_reverse}
use Rattle.std.specs.Result.{result_err}
use Rattle.std.proofs.lemmas.Cmp.{int_cmp_total, int_eq_equiv}
use Rattle.std.proofs.lemmas.Map.{lookup-remove_entry}
use Rattle.std.proofs.lemmas.Map.Keys.{IsDistinct-from_sorted}
use Rattle.std.proofs.lemmas.Map.Lookups.{exact_signed}
use Rattle.retro_base.specs.declared.kind.Kind.TheVariants.{Dict}
use Rattle.retro_base.specs.declared.op.Op.TheVariants.{Enq, Deq, Push, Pop, PushL, PushR, PopL, PopR, Put, Del, Ins, DelMin}
use Rattle.retro_base.specs.declared.row.Row.{Row}
use Rattle.retro_base.specs.Kind.{kind_of}
use Rattle.retro_base.specs.State.{State, pairs, perform, step, with_key}
use Rattle.retro_base.specs.Replay.{one_later, fold_rows, run}
use Rattle.key_index.specs.KeyRows.{KeyRow, key_of, is_on, as_row, failure_of}
use Rattle.key_index.specs.RowsBeside.{puts, takes_out}
use Rattle.retro_base.specs.lemmas.SortedPairs.{swapped}

abbrev AreSorted : List (ℤ × ℤ) → Type 0
AreSorted ps = IsStrictlySortedBy int_cmp (keys_of ps)

abbrev has : ℤ → List (ℤ × ℤ) → Bool
has key ps = is_some (lookup (int_eq key) ps)

abbrev AllAbove : ℤ → List (ℤ × ℤ) → Type 0
AllAbove low ps = AllByRecursion (λ k. int_cmp low k ≡ Less) (keys_of ps)

all_further : (low high : ℤ) (ps : List (ℤ × ℤ)) → int_cmp low high ≡ Less → AllAbove high ps → AllAbove low ps
all_further low high [] below all = tt
all_further low high (e ∷ es) below all = (int_cmp_total.trans low high e.0 below all.0, all_further low high es below all.1)

has-cons : (q : ℤ) (e : ℤ × ℤ) (es : List (ℤ × ℤ)) → has q (e ∷ es) ≡ cond (int_eq q e.0) true (has q es)
has-cons q e es = elim (int_eq q e.0) as (λ b. is_some (cond b (Some e.1) (lookup (int_eq q) es)) ≡ cond b true (has q es)) [ true ↦ refl | false ↦ refl ]

-- the keys stay in order, and which are there
module _ (key value : ℤ) where
  above_with : (low : ℤ) (ps : List (ℤ × ℤ)) → AllAbove low ps → int_cmp low key ≡ Less → AllAbove low (with_key key value ps)
  above_with low [] all here = (here, tt)
  above_with low (e ∷ es) all here =
      elim (int_cmp key e.0) as (λ o. AllAbove low (match_ordering o ((key, value) ∷ e ∷ es) ((e.0, value) ∷ es) (e ∷ with_key key value es))) [
        | Less ↦ (here, all)
        | Equal ↦ all
        | Greater ↦ (all.0, above_with low es all.1 here)
      ]

  sorted_with : (ps : List (ℤ × ℤ)) → AreSorted ps → AreSorted (with_key key value ps)
  unfolding IsStrictlySortedBy
  sorted_with [] s = (tt, tt)
  sorted_with (e ∷ es) s =
      elim (int_cmp key e.0) as (λ o. int_cmp key e.0 ≡ o → AreSorted (match_ordering o ((key, value) ∷ e ∷ es) ((e.0, value) ∷ es) (e ∷ with_key key value es))) [
        | Less ↦ λ below. ((below, all_further key e.0 es below s.0), s)
        | Equal ↦ λ same. s
        | Greater ↦ λ above. (above_with e.0 es s.0 (int_cmp_total.antisymm e.0 key ∙ ap ordering_reverse above), sorted_with es s.1)
      ] refl

  put_has : (q : ℤ) (ps : List (ℤ × ℤ)) → has q (with_key key value ps) ≡ cond (int_eq q key) true (has q ps)
  put_has q [] = has-cons q (key, value) []
  put_has q (e ∷ es) =
      elim (int_cmp key e.0) as (λ o. int_cmp key e.0 ≡ o → has q (match_ordering o ((key, value) ∷ e ∷ es) ((e.0, value) ∷ es) (e ∷ with_key key value es)) ≡ cond (int_eq q key) true (has q (e ∷ es))) [
        | Less ↦ λ below. has-cons q (key, value) (e ∷ es)
        | Equal ↦ λ same.
            let one : key ≡ e.0 = exact_signed key e.0 same in
            has-cons q (e.0, value) es ∙ twice (int_eq q e.0) (has q es)
            ∙ ap (λ b. cond (int_eq q e.0) true b) (sym (has-cons q e es)) ∙ ap (λ k. cond (int_eq q k) true (has q (e ∷ es))) (sym one)
        | Greater ↦ λ above.
            has-cons q e (with_key key value es) ∙ ap (λ b. cond (int_eq q e.0) true b) (put_has q es)
            ∙ swapped (int_eq q e.0) (int_eq q key) (has q es) ∙ ap (λ b. cond (int_eq q key) true b) (sym (has-cons q e es))
      ] refl where
        twice : (a h : Bool) → cond a true h ≡ cond a true (cond a true h)
        twice true h = refl
        twice false h = refl

module _ (key : ℤ) where
  above_without : (low : ℤ) (ps : List (ℤ × ℤ)) → AllAbove low ps → AllAbove low (remove_entry (int_eq key) ps)
  above_without low [] all = tt
  above_without low (e ∷ es) all =
      elim (int_eq key e.0) as (λ b. AllAbove low (cond b es (e ∷ remove_entry (int_eq key) es))) [ true ↦ all.1 | false ↦ (all.0, above_without low es all.1) ]

  sorted_without : (ps : List (ℤ × ℤ)) → AreSorted ps → AreSorted (remove_entry (int_eq key) ps)
  unfolding IsStrictlySortedBy
  sorted_without [] s = tt
  sorted_without (e ∷ es) s =
      elim (int_eq key e.0) as (λ b. AreSorted (cond b es (e ∷ remove_entry (int_eq key) es))) [ true ↦ s.1 | false ↦ (above_without e.0 es s.0, sorted_without es s.1) ]

  removed_has : (q : ℤ) (ps : List (ℤ × ℤ)) → AreSorted ps → has q (remove_entry (int_eq key) ps) ≡ cond (int_eq key q) false (has q ps)
  removed_has q ps s =
      ap is_some (lookup-remove_entry int_eq_equiv (int_eq key) (λ x y h. int_eq_equiv.congr key x y h) q ps (IsDistinct-from_sorted int_cmp (keys_of ps) s))
      ∙ (elim (int_eq key q) as (λ b. is_some (cond b None (lookup (int_eq q) ps)) ≡ cond b false (has q ps)) [ true ↦ refl | false ↦ refl ])

-- which keys are there after a row
abbrev pub there_after : KeyRow → (ℤ → Bool) → ℤ → Bool
there_after row there key = cond (is_on key row) (puts row.1) (there key)

-- the first row that takes out a key that is not there
abbrev pub fails : (ℤ → Bool) → List KeyRow → Option ℕ
fails there [] = None
fails there (row ∷ rows) = cond (takes_out row.1 && not (there (key_of row.1))) (Some 0) (option_map suc (fails (there_after row there) rows))

err_later : {S : Type 0} (r : Result S ℕ) → result_err (one_later r) ≡ option_map suc (result_err r)
err_later (Ok s) = refl
err_later (Err i) = refl

run_none : (s : State) → result_err (run [] s) ≡ None
unfolding fold_rows
run_none s = refl

run_goes : (row : Row) (rows : List Row) (s t : State) → step row s ≡ Some t → result_err (run (row ∷ rows) s) ≡ option_map suc (result_err (run rows t))
unfolding fold_rows
run_goes row rows s t goes = ap result_err (ap (λ o. option_map_or (λ next. one_later (fold_rows step rows next)) o (Err 0)) goes) ∙ err_later (fold_rows step rows t)

run_stops : (row : Row) (rows : List Row) (s : State) → step row s ≡ None → result_err (run (row ∷ rows) s) ≡ Some 0
unfolding fold_rows
run_stops row rows s stops = ap result_err (ap (λ o. option_map_or (λ next. one_later (fold_rows step rows next)) o (Err 0)) stops)

put_steps : (label : ℕ) (key value : ℤ) (ps : List (ℤ × ℤ)) → step (as_row (label, Put key value)) (pairs ps) ≡ Some (pairs (with_key key value ps))
unfolding perform
put_steps label key value ps = refl

del_steps : (label : ℕ) (key : ℤ) (ps : List (ℤ × ℤ)) → step (as_row (label, Del key)) (pairs ps) ≡ option_map pairs (if has key ps then Some (remove_entry (int_eq key) ps) else None)
unfolding perform
del_steps label key ps = refl

-- performing rows fails where the first of them takes out a key that is not there
pub fails_is : (rows : List KeyRow) (ps : List (ℤ × ℤ)) (there : ℤ → Bool) → AllByRecursion (λ (row : KeyRow). kind_of row.1 ≡ Dict) rows → AreSorted ps → ((key : ℤ) → has key ps ≡ there key)
    → result_err (run (map as_row rows) (pairs ps)) ≡ fails there rows
fails_is [] ps there dict s same = run_none (pairs ps)
fails_is ((label, Put k v) ∷ rows) ps there dict s same =
    run_goes (as_row (label, Put k v)) (map as_row rows) (pairs ps) (pairs (with_key k v ps)) (put_steps label k v ps)
    ∙ ap (option_map suc) (fails_is rows (with_key k v ps) (there_after (label, Put k v) there) dict.1 (sorted_with k v ps s)
    (λ key. put_has k v key ps ∙ ap (λ b. cond b true (has key ps)) (int_eq_equiv.symm key k) ∙ ap (λ h. cond (int_eq k key) true h) (same key)))
fails_is ((label, Del k) ∷ rows) ps there dict s same =
    elim (has k ps) as (λ b. has k ps ≡ b → result_err (run (map as_row ((label, Del k) ∷ rows)) (pairs ps)) ≡ fails there ((label, Del k) ∷ rows)) [
      | true ↦ λ here.
          run_goes (as_row (label, Del k)) (map as_row rows) (pairs ps) (pairs (remove_entry (int_eq k) ps))
          (del_steps label k ps ∙ ap (λ b. option_map pairs (if b then Some (remove_entry (int_eq k) ps) else None)) here)
          ∙ ap (option_map suc) (fails_is rows (remove_entry (int_eq k) ps) (there_after (label, Del k) there) dict.1 (sorted_without k ps s)
          (λ key. removed_has k key ps s ∙ ap (λ h. cond (int_eq k key) false h) (same key)))
          ∙ ap (λ b. cond (not b) (Some 0) (option_map suc (fails (there_after (label, Del k) there) rows))) (sym here ∙ same k)
      | false ↦ λ gone.
          run_stops (as_row (label, Del k)) (map as_row rows) (pairs ps) (del_steps label k ps ∙ ap (λ b. option_map pairs (if b then Some (remove_entry (int_eq k) ps) else None)) gone)
          ∙ ap (λ b. cond (not b) (Some 0) (option_map suc (fails (there_after (label, Del k) there) rows))) (sym gone ∙ same k)
    ] refl
fails_is ((label, Enq v) ∷ rows) ps there dict s same = absurd (let wrong = dict.0 in cc)
fails_is ((label, Deq) ∷ rows) ps there dict s same = absurd (let wrong = dict.0 in cc)
fails_is ((label, Push v) ∷ rows) ps there dict s same = absurd (let wrong = dict.0 in cc)
fails_is ((label, Pop) ∷ rows) ps there dict s same = absurd (let wrong = dict.0 in cc)
fails_is ((label, PushL v) ∷ rows) ps there dict s same = absurd (let wrong = dict.0 in cc)
fails_is ((label, PushR v) ∷ rows) ps there dict s same = absurd (let wrong = dict.0 in cc)
fails_is ((label, PopL) ∷ rows) ps there dict s same = absurd (let wrong = dict.0 in cc)
fails_is ((label, PopR) ∷ rows) ps there dict s same = absurd (let wrong = dict.0 in cc)
fails_is ((label, Ins k) ∷ rows) ps there dict s same = absurd (let wrong = dict.0 in cc)
fails_is ((label, DelMin) ∷ rows) ps there dict s same = absurd (let wrong = dict.0 in cc)

-- before the first row no key is there
abbrev pub nothing : ℤ → Bool
nothing key = false

sorted_nil : AreSorted []
unfolding IsStrictlySortedBy
sorted_nil = tt

pub failure_is : (rows : List KeyRow) → AllByRecursion (λ (row : KeyRow). kind_of row.1 ≡ Dict) rows → failure_of rows ≡ fails nothing rows
failure_is rows dict = fails_is rows [] nothing dict sorted_nil (λ key. refl)
