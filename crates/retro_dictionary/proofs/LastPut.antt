-- The value of a key after some rows is what the last row on it puts.
use Rattle.std.proofs.Common.{◌≡◌, ℕ, ℤ, Bool, true, false, ◌&&◌, cond, Option, Some, None, Result, Ok, Err, Less, Equal, Greater, List, [], ◌∷◌, map, refl, sym, ap, ◌∙◌, arith}
use Rattle.std.specs.Prelude.{if◌then◌else◌}
use Rattle.std.specs.List.{filter}
use Rattle.std.specs.Map.{lookup, remove_entry, keys_of}
use Rattle.std.specs.Option.{is_some, option_or, option_and_then}
use Rattle.std.specs.Ordering.{int_cmp, int_eq, match_ordering}
use Rattle.std.proofs.lemmas.Bool.Decides.{Decides-int_eq}
use Rattle.std.proofs.lemmas.Cmp.{int_eq_equiv}
use Rattle.std.proofs.lemmas.Int.{ints}
use Rattle.std.proofs.lemmas.Map.{lookup-remove_entry}
use Rattle.std.proofs.lemmas.Map.Keys.{IsDistinct-from_sorted}
use Rattle.std.proofs.lemmas.Map.Lookups.{exact_signed}
use Rattle.retro_base.specs.declared.op.Op.{Op}
use Rattle.retro_base.specs.declared.op.Op.TheVariants.{Enq, Deq, Push, Pop, PushL, PushR, PopL, PopR, Put, Del, Ins, DelMin}
use Rattle.retro_base.specs.Replay.{one_later, run}
use Rattle.retro_base.specs.State.{State, pairs, with_key}
use Rattle.key_index.specs.KeyRows.{KeyRow, as_row, is_on, last_of}
use Rattle.retro_dictionary.specs.Asked.{value_put}
use Rattle.retro_dictionary.proofs.PairsInOrder.{AreSorted, sorted_with, sorted_without}
use Rattle.retro_dictionary.proofs.Performed.{pairs_after, run_after, run-cons, run-none}

ran_later : (r : Result State ℕ) (s : State) → one_later r ≡ Ok s → r ≡ Ok s
ran_later (Ok t) s ran = ran
ran_later (Err i) s ran = absurd (cc)

same_pairs : (ps qs : List (ℤ × ℤ)) → ◌≡◌ {A = Result State ℕ} (Ok (pairs ps)) (Ok (pairs qs)) → ps ≡ qs
same_pairs ps qs same = cc

module _ (key : ℤ) where
  abbrev value : List (ℤ × ℤ) → Option ℤ
  value ps = lookup (int_eq key) ps

  value-head : (e : ℤ × ℤ) (es : List (ℤ × ℤ)) → value (e ∷ es) ≡ cond (int_eq key e.0) (Some e.1) (value es)
  value-head e es = refl

  -- what a put and a deletion leave
  value-with : (k v : ℤ) (ps : List (ℤ × ℤ)) → value (with_key k v ps) ≡ cond (int_eq key k) (Some v) (value ps)
  value-with k v [] = refl
  value-with k v (e ∷ es) =
      elim (int_cmp k e.0) as (λ o. int_cmp k e.0 ≡ o → value (match_ordering o ((k, v) ∷ e ∷ es) ((e.0, v) ∷ es) (e ∷ with_key k v es)) ≡ cond (int_eq key k) (Some v) (value (e ∷ es))) [
        | Less ↦ λ below. refl
        | Equal ↦ λ same.
            let one : k ≡ e.0 = exact_signed k e.0 same in
            twice (int_eq key e.0) (Some v) (Some e.1) (value es) ∙ ap (λ n. cond (int_eq key n) (Some v) (value (e ∷ es))) (sym one)
        | Greater ↦ λ above.
            ap (cond (int_eq key e.0) (Some e.1)) (value-with k v es)
            ∙ swapped (int_eq key e.0) (int_eq key k) (Some e.1) (Some v) (value es) (λ first second. apart k e.0 ((Decides-int_eq key e.0).0 first) ((Decides-int_eq key k).0 second) above)
      ] refl where
        twice : (a : Bool) (x y z : Option ℤ) → cond a x z ≡ cond a x (cond a y z)
        twice true x y z = refl
        twice false x y z = refl

        apart : (k j : ℤ) → key ≡ j → key ≡ k → int_cmp k j ≡ Greater → ⊥
        apart k j first second above = grind (arith, ints)

        swapped : (a b : Bool) (x y z : Option ℤ) → (a ≡ true → b ≡ true → ⊥) → cond a x (cond b y z) ≡ cond b y (cond a x z)
        swapped true true x y z not_both = absurd (not_both refl refl)
        swapped true false x y z not_both = refl
        swapped false true x y z not_both = refl
        swapped false false x y z not_both = refl

  value-without : (k : ℤ) (ps : List (ℤ × ℤ)) → AreSorted ps → value (remove_entry (int_eq k) ps) ≡ cond (int_eq k key) None (value ps)
  value-without k ps s = lookup-remove_entry int_eq_equiv (int_eq k) (λ x y h. int_eq_equiv.congr k x y h) key ps (IsDistinct-from_sorted int_cmp (keys_of ps) s)

  -- the value of the key after rows that follow on a value
  abbrev after : List KeyRow → Option ℤ → Option ℤ
  after [] was = was
  after (row ∷ rows) was = after rows (cond (is_on key row) (value_put row.1) was)

  turned : (k : ℤ) → int_eq key k ≡ int_eq k key
  turned k = grind (arith, ints)

  abbrev Ran : List KeyRow → List (ℤ × ℤ) → Type 0
  Ran rows left = (ps : List (ℤ × ℤ)) → AreSorted ps → run (map as_row rows) (pairs ps) ≡ Ok (pairs left) → value left ≡ after rows (value ps)

  module _ (label : ℕ) (rows : List KeyRow) (ps left : List (ℤ × ℤ)) (s : AreSorted ps) (rest : Ran rows left) where
    stops : run_after (map as_row rows) None ≡ Ok (pairs left) → ⊥
    stops wrong = cc

    goes : (op : Op) → run_after (map as_row rows) (pairs_after op ps) ≡ Ok (pairs left) → value left ≡ after rows (cond (is_on key (label, op)) (value_put op) (value ps))
    goes (Put k v) went =
        rest (with_key k v ps) (sorted_with k v ps s) (ran_later _ _ went)
        ∙ ap (after rows) (value-with k v ps ∙ ap (λ b. cond b (Some v) (value ps)) (turned k))
    goes (Del k) went =
        elim (is_some (lookup (int_eq k) ps)) as (λ b. run_after (map as_row rows) (if b then Some (remove_entry (int_eq k) ps) else None) ≡ Ok (pairs left) → value left ≡ after rows (cond (int_eq k key) None (value ps))) [
          | true ↦ λ on. rest (remove_entry (int_eq k) ps) (sorted_without k ps s) (ran_later _ _ on) ∙ ap (after rows) (value-without k ps s)
          | false ↦ λ off. absurd (stops off)
        ] went
    goes (Enq v) went = absurd (stops went)
    goes Deq went = absurd (stops went)
    goes (Push v) went = absurd (stops went)
    goes Pop went = absurd (stops went)
    goes (PushL v) went = absurd (stops went)
    goes (PushR v) went = absurd (stops went)
    goes PopL went = absurd (stops went)
    goes PopR went = absurd (stops went)
    goes (Ins k) went = absurd (stops went)
    goes DelMin went = absurd (stops went)

  after-ran : (rows : List KeyRow) (left : List (ℤ × ℤ)) → Ran rows left
  after-ran [] left ps s ran = ap value (same_pairs left ps (sym ran ∙ run-none (pairs ps)))
  after-ran (row ∷ rows) left ps s ran = goes row.0 rows ps left s (after-ran rows left) row.1 (sym (run-cons (as_row row) (map as_row rows) ps) ∙ ran)

  -- the last row on the key decides
  abbrev left_by : Option KeyRow → Option ℤ → Option ℤ
  left_by None was = was
  left_by (Some row) was = value_put row.1

  after-last : (rows : List KeyRow) (was : Option ℤ) → after rows was ≡ left_by (last_of (filter (is_on key) rows)) was
  after-last [] was = refl
  after-last (row ∷ rows) was =
      elim (is_on key row) as (λ b. after rows (cond b (value_put row.1) was) ≡ left_by (last_of (cond b (row ∷ filter (is_on key) rows) (filter (is_on key) rows))) was) [
        | true ↦ after-last rows (value_put row.1) ∙ later (last_of (filter (is_on key) rows))
        | false ↦ after-last rows was
      ] where
        later : (o : Option KeyRow) → left_by o (value_put row.1) ≡ left_by (option_or o (Some row)) was
        later None = refl
        later (Some other) = refl

  left-by-none : (o : Option KeyRow) → left_by o None ≡ option_and_then (λ row. value_put row.1) o
  left-by-none None = refl
  left-by-none (Some row) = refl

  -- of the rows that pass a test
  on_those : (test : KeyRow → Bool) (rows : List KeyRow) → filter (is_on key) (filter test rows) ≡ filter (λ row. is_on key row && test row) rows
  on_those test [] = refl
  on_those test (row ∷ rows) =
      elim (test row) as (λ b. filter (is_on key) (cond b (row ∷ filter test rows) (filter test rows)) ≡ cond (is_on key row && b) (row ∷ filter (λ r. is_on key r && test r) rows) (filter (λ r. is_on key r && test r) rows)) [
        | true ↦ ap (λ those. cond (is_on key row) (row ∷ those) those) (on_those test rows) ∙ kept (is_on key row) row (filter (λ r. is_on key r && test r) rows)
        | false ↦ on_those test rows ∙ left_out (is_on key row) row (filter (λ r. is_on key r && test r) rows)
      ] where
        kept : (a : Bool) (row : KeyRow) (rows : List KeyRow) → cond a (row ∷ rows) rows ≡ cond (a && true) (row ∷ rows) rows
        kept true row rows = refl
        kept false row rows = refl

        left_out : (a : Bool) (row : KeyRow) (rows : List KeyRow) → rows ≡ cond (a && false) (row ∷ rows) rows
        left_out true row rows = refl
        left_out false row rows = refl

  pub value-last : (test : KeyRow → Bool) (rows : List KeyRow) (left : List (ℤ × ℤ)) → AreSorted [] → run (map as_row (filter test rows)) (pairs []) ≡ Ok (pairs left)
      → value left ≡ option_and_then (λ row. value_put row.1) (last_of (filter (λ row. is_on key row && test row) rows))
  value-last test rows left s ran =
      after-ran (filter test rows) left [] s ran ∙ after-last (filter test rows) None ∙ left-by-none (last_of (filter (is_on key) (filter test rows)))
      ∙ ap (λ those. option_and_then (λ row. value_put row.1) (last_of those)) (on_those test rows)
