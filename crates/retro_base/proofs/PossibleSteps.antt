-- Which rows can be performed at all, several operations at once.
use Rattle.std.proofs.Common.{◌≡◌, ◌⊎◌, inl, inr, ℕ, ℤ, Bool, true, false, not, cond, List, [], ◌∷◌, length, arith, refl, Some, None}
use Rattle.std.specs.Prelude.{◌==◌, is_some}
use Rattle.std.proofs.lemmas.Bool.{ne_eqb}
use Rattle.std.specs.Option.{option_map}
use Rattle.std.specs.Ordering.{int_eq}
use Rattle.std.specs.Map.{lookup}
use Rattle.retro_base.specs.declared.op.Op.{Op}
use Rattle.retro_base.specs.declared.op.Op.TheVariants.{Enq, Deq, Push, Pop, PushL, PushR, PopL, PopR, Put, Del, Ins, DelMin}
use Rattle.retro_base.specs.State.{items, pairs, perform}
use Rattle.retro_base.proofs.PairSteps.{no_operation_of_pairs}

module _ (op : Op) (number : ℕ) (xs : List ℤ) where
  -- the operations that put an item in
  pub puts_possible : ((v : ℤ) × (op ≡ Enq v)) ⊎ (((v : ℤ) × (op ≡ Push v)) ⊎ (((v : ℤ) × (op ≡ PushL v)) ⊎ ((v : ℤ) × (op ≡ PushR v))))
      → is_some (perform op number (items xs)) ≡ true
  unfolding perform
  puts_possible (inl h) = rw h.1 refl
  puts_possible (inr (inl h)) = rw h.1 refl
  puts_possible (inr (inr (inl h))) = rw h.1 refl
  puts_possible (inr (inr (inr h))) = rw h.1 refl

  -- the operations of other kinds
  pub others_impossible : ((k : ℤ) × (v : ℤ) × (op ≡ Put k v)) ⊎ (((k : ℤ) × (op ≡ Del k)) ⊎ (((k : ℤ) × (op ≡ Ins k)) ⊎ (op ≡ DelMin)))
      → is_some (perform op number (items xs)) ≡ false
  unfolding perform
  others_impossible (inl h) = rw h.2 refl
  others_impossible (inr (inl h)) = rw h.1 refl
  others_impossible (inr (inr (inl h))) = rw h.1 refl
  others_impossible (inr (inr (inr h))) = rw h refl

-- the operations that take an item out
pub takes_possible : (op : Op) (number : ℕ) (xs : List ℤ) (empty : Bool) → (op ≡ Deq) ⊎ ((op ≡ Pop) ⊎ ((op ≡ PopL) ⊎ (op ≡ PopR)))
    → empty ≡ (length xs == 0) → not empty ≡ is_some (perform op number (items xs))
unfolding perform
takes_possible op number [] empty (inl h) is = rw (h, is) refl
takes_possible op number [] empty (inr (inl h)) is = rw (h, is) refl
takes_possible op number [] empty (inr (inr (inl h))) is = rw (h, is) refl
takes_possible op number [] empty (inr (inr (inr h))) is = rw (h, is) refl
takes_possible op number (x ∷ xs) empty (inl h) is = rw (h, is, ne_eqb (length (x ∷ xs)) 0 (omega arith)) refl
takes_possible op number (x ∷ xs) empty (inr (inl h)) is = rw (h, is, ne_eqb (length (x ∷ xs)) 0 (omega arith)) refl
takes_possible op number (x ∷ xs) empty (inr (inr (inl h))) is = rw (h, is, ne_eqb (length (x ∷ xs)) 0 (omega arith)) refl
takes_possible op number (x ∷ xs) empty (inr (inr (inr h))) is = rw (h, is, ne_eqb (length (x ∷ xs)) 0 (omega arith)) refl

some_if : (b : Bool) (ps : List (ℤ × ℤ)) → is_some (option_map pairs (cond b (Some ps) None)) ≡ b
some_if true ps = refl
some_if false ps = refl

-- a key can be deleted where it is there
pub delete_possible : (op : Op) (number : ℕ) (key : ℤ) (ps : List (ℤ × ℤ)) → op ≡ Del key
    → is_some (perform op number (pairs ps)) ≡ is_some (lookup (int_eq key) ps)
unfolding perform
delete_possible op number key ps h = rw h (some_if (is_some (lookup (int_eq key) ps)) _)

-- on pairs nothing else can be performed
pub others_impossible_on_pairs : (op : Op) (number : ℕ) (ps : List (ℤ × ℤ)) → ((k v : ℤ) → op ≡ Put k v → ⊥) → ((k : ℤ) → op ≡ Del k → ⊥)
    → false ≡ is_some (perform op number (pairs ps))
others_impossible_on_pairs op number ps put del =
    elim (is_some (perform op number (pairs ps))) as (λ b. is_some (perform op number (pairs ps)) ≡ b → false ≡ b) [
      | true ↦ λ some. absurd (no_operation_of_pairs op number ps some put del)
      | false ↦ λ none. refl
    ] refl
