-- What the operations and questions of a dictionary come to.
use Rattle.std.proofs.Common.{◌≡◌, ℕ, ℤ, Bool, true, false, List, [], ◌∷◌, ◌++◌, ◌+◌, ◌-◌, ◌^◌, ◌<◌, ◌≤◌, suc, cond, ◌&&◌, length, map}
use Rattle.std.proofs.Common.{length-append, arith, fold, ◌+ℤ◌, int_le, reverse, IsSome, refl, sym, ap, ◌∙◌, Option, Some, None}
use Rattle.std.specs.Prelude.{if◌then◌else◌}
use Rattle.std.specs.Option.{option_map, option_or, is_some}
use Rattle.std.specs.Ordering.{int_eq}
use Rattle.std.specs.List.{find}
use Rattle.std.specs.Map.{lookup, remove_entry}
use Rattle.std.proofs.lemmas.List.{reverse-append, length-map}
use Rattle.std.proofs.lemmas.List.Folds.{find-append}
use Rattle.retro_base.specs.declared.op.Op.{Op}
use Rattle.retro_base.specs.declared.op.Op.TheVariants.{Enq, Deq, Push, Pop, PushL, PushR, PopL, PopR, Put, Del, Ins, DelMin}
use Rattle.retro_base.specs.State.{pairs, perform, without_key}
use Rattle.retro_base.specs.Answers.{pairs_between}

deleted_by : (b : Bool) (ps qs : List (ℤ × ℤ)) → IsSome (option_map pairs (if b then Some ps else None)) → qs ≡ ps
    → option_map pairs (if b then Some ps else None) ≡ Some (pairs qs)
deleted_by true ps qs some e = ap (λ x. Some (pairs x)) (sym e)
deleted_by false ps qs some e = absurd (cc)

-- where a key can be deleted, the pairs without it are left
pub deleted : (key : ℤ) (ps qs : List (ℤ × ℤ)) → IsSome (option_map pairs (without_key key ps)) → qs ≡ remove_entry (int_eq key) ps
    → option_map pairs (without_key key ps) ≡ Some (pairs qs)
deleted key ps qs some e = deleted_by (is_some (lookup (int_eq key) ps)) (remove_entry (int_eq key) ps) qs some e

-- what is performed on pairs is put or delete
pub no_operation_of_pairs : (op : Op) (number : ℕ) (ps : List (ℤ × ℤ)) → IsSome (perform op number (pairs ps))
    → ((k v : ℤ) → op ≡ Put k v → ⊥) → ((k : ℤ) → op ≡ Del k → ⊥) → ⊥
unfolding perform
no_operation_of_pairs (Enq v) n ps some put del = absurd (cc)
no_operation_of_pairs Deq n ps some put del = absurd (cc)
no_operation_of_pairs (Push v) n ps some put del = absurd (cc)
no_operation_of_pairs Pop n ps some put del = absurd (cc)
no_operation_of_pairs (PushL v) n ps some put del = absurd (cc)
no_operation_of_pairs (PushR v) n ps some put del = absurd (cc)
no_operation_of_pairs PopL n ps some put del = absurd (cc)
no_operation_of_pairs PopR n ps some put del = absurd (cc)
no_operation_of_pairs (Put k v) n ps some put del = put k v refl
no_operation_of_pairs (Del k) n ps some put del = del k refl
no_operation_of_pairs (Ins k) n ps some put del = absurd (cc)
no_operation_of_pairs DelMin n ps some put del = absurd (cc)

-- The last element that passes, found by going forward: what is found so far, and what may still come.
module _ {X : Type 0} (test : X → Bool) (x : X) (xs : List X) (so_far : Option X) where
  or_later : (o p q : Option X) → option_or (option_or o p) q ≡ option_or o (option_or p q)
  or_later None p q = refl
  or_later (Some y) p q = refl

  with_first : option_or (find test (reverse (x ∷ xs))) so_far ≡ option_or (find test (reverse xs)) (option_or (find test (x ∷ [])) so_far)
  with_first =
      ap (λ ys. option_or (find test ys) so_far) (reverse-append (x ∷ []) xs)
      ∙ ap (λ o. option_or o so_far) (find-append test (reverse xs) (x ∷ [])) ∙ or_later (find test (reverse xs)) (find test (x ∷ [])) so_far

  pub last_found : test x ≡ true → option_or (find test (reverse (x ∷ xs))) so_far ≡ option_or (find test (reverse xs)) (Some x)
  last_found passes = with_first ∙ rw passes refl

  pub last_passed_over : test x ≡ false → option_or (find test (reverse (x ∷ xs))) so_far ≡ option_or (find test (reverse xs)) so_far
  last_passed_over fails = with_first ∙ rw fails refl

module _ {X : Type 0} (test : X → Bool) (x : X) (all xs : List X) (so_far answer : Option X) where
  -- a turn of the loop that goes forward
  pub turn_found : all ≡ x ∷ xs → test x ≡ true → option_or (find test (reverse all)) so_far ≡ answer → option_or (find test (reverse xs)) (Some x) ≡ answer
  turn_found first passes before = sym (last_found test x xs so_far passes) ∙ ap (λ ys. option_or (find test (reverse ys)) so_far) (sym first) ∙ before

  pub turn_passed_over : all ≡ x ∷ xs → test x ≡ false → option_or (find test (reverse all)) so_far ≡ answer → option_or (find test (reverse xs)) so_far ≡ answer
  turn_passed_over first fails before = sym (last_passed_over test x xs so_far fails) ∙ ap (λ ys. option_or (find test (reverse ys)) so_far) (sym first) ∙ before

-- a turn of the loop that adds up the values of the keys from low to high
module _ (low high key value : ℤ) (all rest : List (ℤ × ℤ)) (sum answer : ℤ) (first : all ≡ (key, value) ∷ rest)
    (before : fold (λ s pair. s +ℤ pair.1) sum (pairs_between low high all) ≡ answer) where
  turn : fold (λ s pair. s +ℤ pair.1) sum (pairs_between low high ((key, value) ∷ rest)) ≡ answer
  turn = ap (λ ps. fold (λ s pair. s +ℤ pair.1) sum (pairs_between low high ps)) (sym first) ∙ before

  pub turn_added : (next : ℤ) → (int_le low key && int_le key high) ≡ true → next ≡ sum +ℤ value
      → fold (λ s pair. s +ℤ pair.1) next (pairs_between low high rest) ≡ answer
  turn_added next inside e = rw e (rw inside at turn)

  pub turn_passed : (int_le low key && int_le key high) ≡ false → fold (λ s pair. s +ℤ pair.1) sum (pairs_between low high rest) ≡ answer
  turn_passed outside = rw outside at turn

-- what is listed so far leaves room for one item more, where there is one
pub room : {A B : Type 0} (f : A → B) (listed : List B) (left all : List A) (x : A) (rest : List A)
    → listed ++ map f left ≡ map f all → left ≡ x ∷ rest → length all < 2 ^ 32 → length listed < 2 ^ 32 - 1
room f listed left all x rest e first few = omega (arith, simp (length-append, length-map) at (ap length e), ap length first)

-- of the pairs from low to high there are at most as many as of all
pub pairs_between-le : (low high : ℤ) (ps : List (ℤ × ℤ)) → length (pairs_between low high ps) ≤ length ps
pairs_between-le low high [] = omega arith
pairs_between-le low high (p ∷ ps) =
    elim (int_le low p.0 && int_le p.0 high) as (λ b. length (cond b (p ∷ pairs_between low high ps) (pairs_between low high ps)) ≤ suc (length ps)) [
      | true ↦ omega (arith, pairs_between-le low high ps)
      | false ↦ omega (arith, pairs_between-le low high ps)
    ]

-- so a count of them that has come so far can go on
pub count_room : (count : ℕ) (low high : ℤ) (left ps : List (ℤ × ℤ)) → count + length left ≡ length (pairs_between low high ps)
    → length ps < 9223372036854775808 → count + 1 < 18446744073709551616
count_room count low high left ps e few = omega (arith, e, pairs_between-le low high ps)
