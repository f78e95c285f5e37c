-- The rows beside an edit on its key decide whether the edited rows fail, and where first.
use Rattle.std.proofs.Common.{◌≡◌, ℕ, ℤ, zero, suc, ◌+◌, Bool, true, false, not, ◌&&◌, cond, Option, Some, None, List, [], ◌∷◌, ◌++◌, length, map, slice_get, refl, sym, ap, ◌∙◌, arith}
use Rattle.std.specs.List.{filter}
use Rattle.std.specs.Option.{option_or, option_map, option_and_then}
use Rattle.std.specs.Ordering.{int_eq}
use Rattle.std.proofs.lemmas.Bool.Decides.{Decides-int_eq}
use Rattle.std.proofs.lemmas.Cmp.{int_eq_equiv}
use Rattle.key_index.specs.KeyRows.{KeyRow, key_of, is_on, last_of}
use Rattle.key_index.specs.RowsBeside.{puts, takes_out, is_there, taken_at}
use Rattle.key_index.proofs.Lists.{first_of}
use Rattle.key_index.proofs.Replayed.{there_after, fails, nothing}

-- a row that does not fail, and then the others
went : (b : Bool) (o : Option ℕ) → cond b (Some 0) (option_map suc o) ≡ None → (b ≡ false) × (o ≡ None)
went true o ok = absurd (cc)
went false None ok = (refl, refl)
went false (Some i) ok = absurd (cc)

goes : (b : Bool) (o p : Option ℕ) → b ≡ false → o ≡ p → cond b (Some 0) (option_map suc o) ≡ option_map suc p
goes b o p ok same = rw ok (ap (option_map suc) same)

-- where a row can be performed it can be performed with more keys there
more_and : (t b c : Bool) → (b ≡ true → c ≡ true) → (t && not b) ≡ false → (t && not c) ≡ false
more_and false b c more ok = refl
more_and true false c more ok = absurd (cc)
more_and true true c more ok = ap not (more refl)

pub with_more : (rows : List KeyRow) (there more : ℤ → Bool) → ((key : ℤ) → there key ≡ true → more key ≡ true) → fails there rows ≡ None → fails more rows ≡ None
with_more [] there more all ok = refl
with_more (row ∷ rows) there more all ok =
    let here = went (takes_out row.1 && not (there (key_of row.1))) (fails (there_after row there) rows) ok in
    goes (takes_out row.1 && not (more (key_of row.1))) (fails (there_after row more) rows) None
    (more_and (takes_out row.1) (there (key_of row.1)) (more (key_of row.1)) (all (key_of row.1)) here.0)
    (with_more rows (there_after row there) (there_after row more) (λ key. kept (is_on key row) key) here.1) where
      kept : (b : Bool) (key : ℤ) → cond b (puts row.1) (there key) ≡ true → cond b (puts row.1) (more key) ≡ true
      kept true key h = h
      kept false key h = all key h

-- the index of the first row on a key, where it takes the key out
abbrev pub first_taken : ℤ → List KeyRow → Option ℕ
first_taken key [] = None
first_taken key (row ∷ rows) = cond (is_on key row) (cond (takes_out row.1) (Some 0) None) (option_map suc (first_taken key rows))

-- where one key is not there, and all others as they were, the next row on it decides
module _ (k : ℤ) where
  others_same : (row : KeyRow) (there less : ℤ → Bool) → key_of row.1 ≡ k → ((key : ℤ) → int_eq k key ≡ false → there key ≡ less key) → (key : ℤ) → there_after row there key ≡ true → there_after row less key ≡ true
  others_same row there less one same key h =
      elim (is_on key row) as (λ b. is_on key row ≡ b → cond b (puts row.1) (there key) ≡ true → cond b (puts row.1) (less key) ≡ true) [
        | true ↦ λ on h. h
        | false ↦ λ off h. sym (same key (ap (λ j. int_eq j key) (sym one) ∙ off)) ∙ h
      ] refl h

  on_it : (row : KeyRow) (rows : List KeyRow) (there less : ℤ → Bool) (t : Bool) → takes_out row.1 ≡ t → key_of row.1 ≡ k → ((key : ℤ) → int_eq k key ≡ false → there key ≡ less key) → less k ≡ false
      → fails (there_after row there) rows ≡ None → fails less (row ∷ rows) ≡ cond t (Some 0) None
  on_it row rows there less true takes one same gone ok =
      ap (λ b. cond b (Some 0) (option_map suc (fails (there_after row less) rows))) (ap (λ b. b && not (less (key_of row.1))) takes ∙ ap not (ap less one ∙ gone))
  on_it row rows there less false takes one same gone ok =
      goes (takes_out row.1 && not (less (key_of row.1))) (fails (there_after row less) rows) None (ap (λ b. b && not (less (key_of row.1))) takes)
      (with_more rows (there_after row there) (there_after row less) (others_same row there less one same) ok)

  pub without_key : (rows : List KeyRow) (there less : ℤ → Bool) → ((key : ℤ) → int_eq k key ≡ false → there key ≡ less key) → less k ≡ false → fails there rows ≡ None → fails less rows ≡ first_taken k rows
  without_key [] there less same gone ok = refl
  without_key (row ∷ rows) there less same gone ok =
      let here = went (takes_out row.1 && not (there (key_of row.1))) (fails (there_after row there) rows) ok in
      elim (is_on k row) as (λ b. is_on k row ≡ b → fails less (row ∷ rows) ≡ cond b (cond (takes_out row.1) (Some 0) None) (option_map suc (first_taken k rows))) [
        | true ↦ λ on. on_it row rows there less (takes_out row.1) refl ((Decides-int_eq (key_of row.1) k).0 on) same gone here.1
        | false ↦ λ off.
            let other : int_eq k (key_of row.1) ≡ false = int_eq_equiv.symm k (key_of row.1) ∙ off in
            goes (takes_out row.1 && not (less (key_of row.1))) (fails (there_after row less) rows) (first_taken k rows)
            (ap (λ b. takes_out row.1 && not b) (sym (same (key_of row.1) other)) ∙ here.0)
            (without_key rows (there_after row there) (there_after row less) (λ key far. ap (λ b. cond (is_on key row) (puts row.1) b) (same key far))
            (ap (λ b. cond b (puts row.1) (less k)) off ∙ gone) here.1)
      ] refl

-- which keys are there after some rows
abbrev pub there_later : List KeyRow → (ℤ → Bool) → ℤ → Bool
there_later [] there = there
there_later (row ∷ rows) there = there_later rows (there_after row there)

-- that is what the last row on each key says
abbrev left_by : Option KeyRow → Bool → Bool
left_by None before = before
left_by (Some row) before = puts row.1

one_more : (o : Option KeyRow) (row : KeyRow) (before : Bool) → left_by o (puts row.1) ≡ left_by (option_or o (Some row)) before
one_more None row before = refl
one_more (Some r) row before = refl

later_is : (rows : List KeyRow) (there : ℤ → Bool) (key : ℤ) → there_later rows there key ≡ left_by (last_of (filter (is_on key) rows)) (there key)
later_is [] there key = refl
later_is (row ∷ rows) there key =
    later_is rows (there_after row there) key
    ∙ elim (is_on key row) as (λ b. left_by (last_of (filter (is_on key) rows)) (cond b (puts row.1) (there key)) ≡ left_by (last_of (cond b (row ∷ filter (is_on key) rows) (filter (is_on key) rows))) (there key)) [
      | true ↦ one_more (last_of (filter (is_on key) rows)) row (there key)
      | false ↦ refl
    ]

pub there_is : (rows : List KeyRow) (key : ℤ) → there_later rows nothing key ≡ is_there (last_of (filter (is_on key) rows))
there_is rows key = later_is rows nothing key ∙ ended (last_of (filter (is_on key) rows)) where
  ended : (o : Option KeyRow) → left_by o false ≡ is_there o
  ended None = refl
  ended (Some row) = refl

-- rows in two parts
added : (n : ℕ) (o : Option ℕ) → option_map suc (option_map (λ i. n + i) o) ≡ option_map (λ i. suc n + i) o
added n None = refl
added n (Some i) = ap Some (let same : suc (n + i) ≡ suc n + i = omega arith in same)

none_added : (o : Option ℕ) → o ≡ option_map (λ i. 0 + i) o
none_added None = refl
none_added (Some i) = ap Some (let same : i ≡ 0 + i = omega arith in same)

pub in_parts : (front back : List KeyRow) (there : ℤ → Bool) → fails there front ≡ None → fails there (front ++ back) ≡ option_map (λ i. length front + i) (fails (there_later front there) back)
in_parts [] back there ok = none_added (fails there back)
in_parts (row ∷ front) back there ok =
    let here = went (takes_out row.1 && not (there (key_of row.1))) (fails (there_after row there) front) ok in
    goes (takes_out row.1 && not (there (key_of row.1))) (fails (there_after row there) (front ++ back)) _ here.0 (in_parts front back (there_after row there) here.1)
    ∙ added (length front) (fails (there_later front (there_after row there)) back)

pub front_goes : (front back : List KeyRow) (there : ℤ → Bool) → fails there (front ++ back) ≡ None → fails there front ≡ None
front_goes [] back there ok = refl
front_goes (row ∷ front) back there ok =
    let here = went (takes_out row.1 && not (there (key_of row.1))) (fails (there_after row there) (front ++ back)) ok in
    goes (takes_out row.1 && not (there (key_of row.1))) (fails (there_after row there) front) None here.0 (front_goes front back (there_after row there) here.1)

pub back_goes : (front back : List KeyRow) (there : ℤ → Bool) → fails there (front ++ back) ≡ None → fails (there_later front there) back ≡ None
back_goes [] back there ok = ok
back_goes (row ∷ front) back there ok =
    let here = went (takes_out row.1 && not (there (key_of row.1))) (fails (there_after row there) (front ++ back)) ok in
    back_goes front back (there_after row there) here.1

pub row_goes : (row : KeyRow) (rows : List KeyRow) (there : ℤ → Bool) → fails there (row ∷ rows) ≡ None → ((takes_out row.1 && not (there (key_of row.1))) ≡ false) × (fails (there_after row there) rows ≡ None)
row_goes row rows there ok = went (takes_out row.1 && not (there (key_of row.1))) (fails (there_after row there) rows) ok

-- the name of the first row that takes the key out
pub taken_name : {X : Type 0} (name : ℕ → X) (key : ℤ) (rows : List KeyRow)
    → option_and_then (slice_get (map (λ (row : KeyRow). name row.0) rows)) (first_taken key rows) ≡ option_map name (taken_at (first_of (filter (is_on key) rows)))
taken_name name key [] = refl
taken_name name key (row ∷ rows) =
    elim (is_on key row) as (λ b. option_and_then (slice_get (map (λ (r : KeyRow). name r.0) (row ∷ rows))) (cond b (cond (takes_out row.1) (Some 0) None) (option_map suc (first_taken key rows)))
    ≡ option_map name (taken_at (first_of (cond b (row ∷ filter (is_on key) rows) (filter (is_on key) rows))))) [
      | true ↦ elim (takes_out row.1) as (λ t. option_and_then (slice_get (map (λ (r : KeyRow). name r.0) (row ∷ rows))) (cond t (Some 0) None) ≡ option_map name (cond t (Some row.0) None)) [ true ↦ refl | false ↦ refl ]
      | false ↦ later (first_taken key rows) ∙ taken_name name key rows
    ] where
      later : (o : Option ℕ) → option_and_then (slice_get (map (λ (r : KeyRow). name r.0) (row ∷ rows))) (option_map suc o) ≡ option_and_then (slice_get (map (λ (r : KeyRow). name r.0) rows)) o
      later None = refl
      later (Some i) = refl

pub name_after : {X : Type 0} (front back : List X) (n : ℕ) (o : Option ℕ) → n ≡ length front → option_and_then (slice_get (front ++ back)) (option_map (λ i. n + i) o) ≡ option_and_then (slice_get back) o
name_after front back n None same = refl
name_after [] back n (Some i) same = ap (slice_get back) (let none : n + i ≡ i = omega arith in none)
name_after (x ∷ front) back zero (Some i) same = absurd (omega arith)
name_after (x ∷ front) back (suc n) (Some i) same =
    ap (slice_get (x ∷ (front ++ back))) (let one : suc n + i ≡ suc (n + i) = omega arith in one) ∙ name_after front back n (Some i) (omega (arith, same))
