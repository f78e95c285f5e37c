-- Rows of a dictionary are performed by their operations alone, and leave pairs.
use Rattle.std.proofs.Common.{◌≡◌, ℕ, zero, suc, ◌+◌, ◌≤◌, ℤ, true, false, cond, Option, Some, None, Result, Ok, Err, Less, Equal, Greater, List, [], ◌∷◌, map, take, length, refl, sym, ap, ◌∙◌, arith}
use Rattle.std.specs.Prelude.{if◌then◌else◌}
use Rattle.std.specs.Map.{lookup, remove_entry}
use Rattle.std.specs.Option.{is_some, option_map, option_map_or}
use Rattle.std.specs.Ordering.{int_cmp, int_eq, match_ordering}
use Rattle.std.specs.Result.{result_err}
use Rattle.retro_base.specs.declared.op.Op.{Op}
use Rattle.retro_base.specs.declared.op.Op.TheVariants.{Enq, Deq, Push, Pop, PushL, PushR, PopL, PopR, Put, Del, Ins, DelMin}
use Rattle.retro_base.specs.declared.kind.Kind.TheVariants.{Dict}
use Rattle.retro_base.specs.declared.row.Row.{Row}
use Rattle.retro_base.specs.State.{State, pairs, perform, step, with_key, without_key}
use Rattle.retro_base.specs.Replay.{one_later, fold_rows, run, failure}
use Rattle.key_index.specs.KeyRows.{as_row, failure_of}
use Rattle.retro_dictionary.specs.Asked.{IsNumber, AreOfNumbers}
use Rattle.retro_dictionary.specs.Numbers.{IsOfNumbers, HaveNumbers}
use Rattle.retro_dictionary.specs.Labelled.{labelled}
use Rattle.retro_base.specs.lemmas.CountedKeys.{put_length}

-- the pairs after an operation
abbrev pub pairs_after : Op → List (ℤ × ℤ) → Option (List (ℤ × ℤ))
pairs_after (Put key value) ps = Some (with_key key value ps)
pairs_after (Del key) ps = without_key key ps
pairs_after op ps = None

perform-pairs : (op : Op) (number : ℕ) (ps : List (ℤ × ℤ)) → perform op number (pairs ps) ≡ option_map pairs (pairs_after op ps)
unfolding perform
perform-pairs (Put key value) number ps = refl
perform-pairs (Del key) number ps = refl
perform-pairs (Enq v) number ps = refl
perform-pairs Deq number ps = refl
perform-pairs (Push v) number ps = refl
perform-pairs Pop number ps = refl
perform-pairs (PushL v) number ps = refl
perform-pairs (PushR v) number ps = refl
perform-pairs PopL number ps = refl
perform-pairs PopR number ps = refl
perform-pairs (Ins k) number ps = refl
perform-pairs DelMin number ps = refl

-- what the rows after a first one make of the pairs that it leaves
abbrev pub run_after : List Row → Option (List (ℤ × ℤ)) → Result State ℕ
run_after rows None = Err 0
run_after rows (Some qs) = one_later (run rows (pairs qs))

pub run-none : (s : State) → run [] s ≡ Ok s
unfolding fold_rows
run-none s = refl

pub run-cons : (row : Row) (rows : List Row) (ps : List (ℤ × ℤ)) → run (row ∷ rows) (pairs ps) ≡ run_after rows (pairs_after row.op ps)
unfolding fold_rows
run-cons row rows ps =
    ap (λ o. option_map_or (λ next. one_later (fold_rows step rows next)) o (Err 0)) (perform-pairs row.op row.number ps)
    ∙ elim (pairs_after row.op ps) as (λ o. option_map_or (λ next. one_later (fold_rows step rows next)) (option_map pairs o) (Err 0) ≡ run_after rows o) [ None ↦ refl | Some qs ↦ refl ]

-- numbers and times change nothing
pub run-labelled : (labels : List ℕ) (rows : List Row) (ps : List (ℤ × ℤ)) → length labels ≡ length rows → run (map as_row (labelled labels rows)) (pairs ps) ≡ run rows (pairs ps)
run-labelled [] [] ps same = refl
run-labelled [] (row ∷ rows) ps same = absurd (omega arith)
run-labelled (label ∷ labels) [] ps same = absurd (omega arith)
run-labelled (label ∷ labels) (row ∷ rows) ps same =
    run-cons (as_row (label, row.op)) (map as_row (labelled labels rows)) ps
    ∙ elim (pairs_after row.op ps) as (λ o. run_after (map as_row (labelled labels rows)) o ≡ run_after rows o) [
      | None ↦ refl
      | Some qs ↦ ap one_later (run-labelled labels rows qs (omega arith))
    ]
    ∙ sym (run-cons row rows ps)

-- before the first row there is no pair
pub failure-labelled : (labels : List ℕ) (rows : List Row) → length labels ≡ length rows → failure_of (labelled labels rows) ≡ failure Dict rows
failure-labelled labels rows same = ap result_err (run-labelled labels rows [] same)

-- keys and values stay numbers of 64 bits
keys-with : (key value : ℤ) (ps : List (ℤ × ℤ)) → IsNumber key → IsNumber value → AreOfNumbers ps → AreOfNumbers (with_key key value ps)
keys-with key value [] is fits all = ((is, fits), tt)
keys-with key value (e ∷ es) is fits all =
    elim (int_cmp key e.0) as (λ o. AreOfNumbers (match_ordering o ((key, value) ∷ e ∷ es) ((e.0, value) ∷ es) (e ∷ with_key key value es))) [
      | Less ↦ ((is, fits), all)
      | Equal ↦ ((all.0.0, fits), all.1)
      | Greater ↦ (all.0, keys-with key value es is fits all.1)
    ]

no_more : (key : ℤ) (ps : List (ℤ × ℤ)) → length (remove_entry (int_eq key) ps) ≤ length ps
no_more key [] = omega arith
no_more key (e ∷ es) = elim (int_eq key e.0) as (λ b. length (cond b es (e ∷ remove_entry (int_eq key) es)) ≤ suc (length es)) [ true ↦ omega arith | false ↦ omega (arith, no_more key es) ]

keys-without : (key : ℤ) (ps : List (ℤ × ℤ)) → AreOfNumbers ps → AreOfNumbers (remove_entry (int_eq key) ps)
keys-without key [] all = tt
keys-without key (e ∷ es) all = elim (int_eq key e.0) as (λ b. AreOfNumbers (cond b es (e ∷ remove_entry (int_eq key) es))) [ true ↦ all.1 | false ↦ (all.0, keys-without key es all.1) ]

-- what a row leaves of so many pairs
abbrev IfPairs : ℕ → Option (List (ℤ × ℤ)) → Type 0
IfPairs count None = Unit {0}
IfPairs count (Some ps) = AreOfNumbers ps × (length ps ≤ suc count)

keys-after : (op : Op) (ps : List (ℤ × ℤ)) → IsOfNumbers op → AreOfNumbers ps → IfPairs (length ps) (pairs_after op ps)
keys-after (Put key value) ps is all = (keys-with key value ps is.0 is.1 all, put_length key value ps)
keys-after (Del key) ps is all = elim (is_some (lookup (int_eq key) ps)) as
    (λ b. IfPairs (length ps) (if b then Some (remove_entry (int_eq key) ps) else None))
    [ true ↦ (keys-without key ps all, omega (arith, no_more key ps)) | false ↦ tt ]
keys-after (Enq v) ps is all = tt
keys-after Deq ps is all = tt
keys-after (Push v) ps is all = tt
keys-after Pop ps is all = tt
keys-after (PushL v) ps is all = tt
keys-after (PushR v) ps is all = tt
keys-after PopL ps is all = tt
keys-after PopR ps is all = tt
keys-after (Ins k) ps is all = tt
keys-after DelMin ps is all = tt

-- what the first rows leave
pub record Leave (rows : List Row) (before : List (ℤ × ℤ)) : Type 0 where
  pub left : List (ℤ × ℤ)
  pub ran : run rows (pairs before) ≡ Ok (pairs left)
  pub keys : AreOfNumbers left
  pub few : length left ≤ length before + length rows

not_failed : (r : Result State ℕ) → result_err (one_later r) ≡ None → result_err r ≡ None
not_failed (Ok s) ok = refl
not_failed (Err i) ok = absurd (cc)

pub leave : (rows : List Row) (place : ℕ) (ps : List (ℤ × ℤ)) → HaveNumbers rows → AreOfNumbers ps → result_err (run rows (pairs ps)) ≡ None → Leave (take place rows) ps
leave rows zero ps keyed keys ok = record { left = ps; ran = run-none (pairs ps); keys = keys; few = omega arith }
leave [] (suc place) ps keyed keys ok = record { left = ps; ran = run-none (pairs ps); keys = keys; few = omega arith }
leave (row ∷ rows) (suc place) ps keyed keys ok =
    elim (pairs_after row.op ps) as (λ o. pairs_after row.op ps ≡ o → IfPairs (length ps) o → Leave (row ∷ take place rows) ps) [
      | None ↦ λ stops _. absurd (let wrong = ap result_err (sym (run-cons row rows ps ∙ ap (run_after rows) stops)) ∙ ok in cc)
      | Some qs ↦ λ goes kept.
          let rest = leave rows place qs keyed.1 kept.0 (not_failed (run rows (pairs qs)) (ap result_err (sym (run-cons row rows ps ∙ ap (run_after rows) goes)) ∙ ok)) in
          record { left = rest.left; ran = run-cons row (take place rows) ps ∙ ap (run_after (take place rows)) goes ∙ ap one_later rest.ran; keys = rest.keys; few = omega (arith, rest.few, kept.1) }
    ] refl (keys-after row.op ps keyed.0 keys)
