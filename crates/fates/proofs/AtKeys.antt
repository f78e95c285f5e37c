-- The pair of a key stays until the next row on its key, which takes it.
use Rattle.std.proofs.Common.{◌≡◌, ◌≢◌, ℕ, ℤ, pos, Bool, true, false, cond, List, [], ◌∷◌, refl, sym, ap, subst, ◌∙◌, Option, Some, None, Ordering, Less, Equal, Greater}
use Rattle.std.specs.Prelude.{◌||◌, if◌then◌else◌}
use Rattle.std.specs.List.{list_any, AllByRecursion}
use Rattle.std.specs.List.Sorted.{IsStrictlySortedBy}
use Rattle.std.specs.Map.{lookup, remove_entry, keys_of}
use Rattle.std.specs.Option.{option_map, is_some}
use Rattle.std.specs.Ordering.{int_cmp, int_eq, match_ordering, is_eq}
use Rattle.std.proofs.lemmas.Cmp.{int_cmp_total}
use Rattle.std.proofs.lemmas.Map.Lookups.{exact_signed}
use Rattle.fates.specs.declared.standing.Standing.{Standing}
use Rattle.fates.specs.declared.standing.Standing.TheVariants.{AtKey}
use Rattle.fates.specs.Holding.{NoneIs, IsOnlyAt, StandsAtKey}
use Rattle.retro_base.specs.Holders.{holds, numbered_op}
use Rattle.fates.specs.Standings.{pair_after}
use Rattle.fates.proofs.Held.{other_number, or_false, or_true_first}
use Rattle.retro_base.specs.declared.op.Op.{Op}
use Rattle.retro_base.specs.declared.op.Op.TheVariants.{Enq, Deq, Push, Pop, PushL, PushR, PopL, PopR, Put, Del, Ins, DelMin}
use Rattle.retro_base.specs.State.{State, pairs, perform, with_key}
use Rattle.retro_base.specs.lemmas.SortedPairs.{AreSorted, same_key, same_as_itself, sorted_with, sorted_without}
use Rattle.retro_base.specs.Facts.{either_true, some_is}

-- where it stands after a step, or that it is gone
abbrev pub PairGoes : ℕ → State → Option Standing → Type 0
PairGoes number state None = holds number state ≡ false
PairGoes number state (Some (AtKey key)) = StandsAtKey number key state
PairGoes number state (Some standing) = ⊥

-- a value at another key is not the number
value_apart : (number : ℕ) (key : ℤ) (pair : ℤ × ℤ) → IsOnlyAt number key pair → (pair.0 ≡ key → ⊥) → int_eq pair.1 (pos number) ≡ false
value_apart number key pair only other = elim (int_eq pair.1 (pos number)) as (λ b. int_eq pair.1 (pos number) ≡ b → b ≡ false) [
  | true ↦ λ same. absurd (other (only (same_key pair.1 (pos number) same)))
  | false ↦ λ apart. refl
] refl

not_below_itself : (key : ℤ) (o : Ordering) → int_cmp key key ≡ o → o ≡ Less → ⊥
not_below_itself key o is below = let same = same_as_itself key in let wrong : true ≡ false = sym same ∙ ap is_eq (is ∙ below) in cc

not_above_itself : (key : ℤ) (o : Ordering) → int_cmp key key ≡ o → o ≡ Greater → ⊥
not_above_itself key o is above = let same = same_as_itself key in let wrong : true ≡ false = sym same ∙ ap is_eq (is ∙ above) in cc

below_other : (low key : ℤ) → int_cmp low key ≡ Less → key ≡ low → ⊥
below_other low key below same = not_below_itself low (int_cmp low low) refl (subst (λ k. int_cmp low k ≡ Less) same below)

above_other : (high key : ℤ) → int_cmp high key ≡ Greater → key ≡ high → ⊥
above_other high key above same = not_above_itself high (int_cmp high high) refl (subst (λ k. int_cmp high k ≡ Greater) same above)

not_itself : (key another : ℤ) → int_eq key another ≡ false → another ≡ key → ⊥
not_itself key another other same = let wrong : true ≡ false = sym (same_as_itself key) ∙ subst (λ k. int_eq key k ≡ false) same other in cc

not_the_number : (number n : ℕ) → n ≢ number → pos n ≡ pos number → ⊥
not_the_number number n apart same = apart (cc)

-- among pairs of keys above it there is none
none_above : (number : ℕ) (key : ℤ) (ps : List (ℤ × ℤ)) → AllByRecursion (λ k. int_cmp key k ≡ Less) (keys_of ps) → AllByRecursion (IsOnlyAt number key) ps → NoneIs number ps
none_above number key [] above alone = refl
none_above number key (p ∷ ps) above alone = or_false _ _ (value_apart number key p alone.0 (below_other key p.0 above.0)) (none_above number key ps above.1 alone.1)

further : (low high : ℤ) (ps : List (ℤ × ℤ)) → int_cmp low high ≡ Less → AllByRecursion (λ k. int_cmp high k ≡ Less) (keys_of ps)
    → AllByRecursion (λ k. int_cmp low k ≡ Less) (keys_of ps)
further low high [] below all = tt
further low high (p ∷ ps) below all = (int_cmp_total.trans low high p.0 below all.0, further low high ps below all.1)

-- A row on the key itself.
module _ (number : ℕ) (key : ℤ) where
  pub none_put : (n : ℕ) (ps : List (ℤ × ℤ)) → n ≢ number → AreSorted ps → AllByRecursion (IsOnlyAt number key) ps → NoneIs number (with_key key (pos n) ps)
  unfolding IsStrictlySortedBy
  none_put n [] apart sorted alone = or_false _ _ (other_number n number apart) refl
  none_put n (p ∷ ps) apart sorted alone =
      elim (int_cmp key p.0) as (λ o. int_cmp key p.0 ≡ o → NoneIs number (match_ordering o ((key, pos n) ∷ p ∷ ps) ((p.0, pos n) ∷ ps) (p ∷ with_key key (pos n) ps))) [
        | Less ↦ λ below. or_false _ _ (other_number n number apart) (none_above number key (p ∷ ps) (below, further key p.0 ps below sorted.0) alone)
        | Equal ↦ λ same.
            let one : p.0 ≡ key = sym (exact_signed key p.0 same) in
            or_false _ _ (other_number n number apart) (none_above number key ps (subst (λ k. AllByRecursion (λ q. int_cmp k q ≡ Less) (keys_of ps)) one sorted.0) alone.1)
        | Greater ↦ λ above. or_false _ _ (value_apart number key p alone.0 (above_other key p.0 above)) (none_put n ps apart sorted.1 alone.1)
      ] refl

  pub none_left : (ps : List (ℤ × ℤ)) → AreSorted ps → AllByRecursion (IsOnlyAt number key) ps → NoneIs number (remove_entry (int_eq key) ps)
  unfolding IsStrictlySortedBy
  none_left [] sorted alone = refl
  none_left (p ∷ ps) sorted alone =
      elim (int_eq key p.0) as (λ b. int_eq key p.0 ≡ b → NoneIs number (cond b ps (p ∷ remove_entry (int_eq key) ps))) [
        | true ↦ λ same. none_above number key ps (subst (λ k. AllByRecursion (λ q. int_cmp k q ≡ Less) (keys_of ps)) (sym (same_key key p.0 same)) sorted.0) alone.1
        | false ↦ λ other.
            or_false _ _ (value_apart number key p alone.0 (λ same. not_itself key p.0 other same)) (none_left ps sorted.1 alone.1)
      ] refl

-- A row on another key.
module _ (number : ℕ) (key another : ℤ) (apart : int_eq key another ≡ false) where
  pub found_put : (value : ℤ) (ps : List (ℤ × ℤ)) → lookup (int_eq key) (with_key another value ps) ≡ lookup (int_eq key) ps
  found_put value [] = rw apart refl
  found_put value (p ∷ ps) =
      elim (int_cmp another p.0) as (λ o. int_cmp another p.0 ≡ o
      → lookup (int_eq key) (match_ordering o ((another, value) ∷ p ∷ ps) ((p.0, value) ∷ ps) (p ∷ with_key another value ps)) ≡ lookup (int_eq key) (p ∷ ps)) [
        | Less ↦ λ below. rw apart refl
        | Equal ↦ λ same. let first : int_eq key p.0 ≡ false = subst (λ k. int_eq key k ≡ false) (exact_signed another p.0 same) apart in rw first refl
        | Greater ↦ λ above. ap (λ o. cond (int_eq key p.0) (Some p.1) o) (found_put value ps)
      ] refl

  pub found_left : (ps : List (ℤ × ℤ)) → lookup (int_eq key) (remove_entry (int_eq another) ps) ≡ lookup (int_eq key) ps
  found_left [] = refl
  found_left (p ∷ ps) =
      elim (int_eq another p.0) as (λ b. int_eq another p.0 ≡ b → lookup (int_eq key) (cond b ps (p ∷ remove_entry (int_eq another) ps)) ≡ lookup (int_eq key) (p ∷ ps)) [
        | true ↦ λ same. let first : int_eq key p.0 ≡ false = subst (λ k. int_eq key k ≡ false) (same_key another p.0 same) apart in rw first refl
        | false ↦ λ other. ap (λ o. cond (int_eq key p.0) (Some p.1) o) (found_left ps)
      ] refl

pub alone_put : (number n : ℕ) (key another : ℤ) (ps : List (ℤ × ℤ)) → n ≢ number → AllByRecursion (IsOnlyAt number key) ps
    → AllByRecursion (IsOnlyAt number key) (with_key another (pos n) ps)
alone_put number n key another [] apart alone = (λ same. absurd (not_the_number number n apart same), tt)
alone_put number n key another (p ∷ ps) apart alone =
    elim (int_cmp another p.0) as (λ o. AllByRecursion (IsOnlyAt number key) (match_ordering o ((another, pos n) ∷ p ∷ ps) ((p.0, pos n) ∷ ps) (p ∷ with_key another (pos n) ps))) [
      | Less ↦ (λ same. absurd (not_the_number number n apart same), alone)
      | Equal ↦ (λ same. absurd (not_the_number number n apart same), alone.1)
      | Greater ↦ (alone.0, alone_put number n key another ps apart alone.1)
    ]

pub alone_left : (number : ℕ) (key another : ℤ) (ps : List (ℤ × ℤ)) → AllByRecursion (IsOnlyAt number key) ps
    → AllByRecursion (IsOnlyAt number key) (remove_entry (int_eq another) ps)
alone_left number key another [] alone = tt
alone_left number key another (p ∷ ps) alone =
    elim (int_eq another p.0) as (λ b. AllByRecursion (IsOnlyAt number key) (cond b ps (p ∷ remove_entry (int_eq another) ps))) [
      | true ↦ alone.1
      | false ↦ (alone.0, alone_left number key another ps alone.1)
    ]

module _ (number n : ℕ) (key : ℤ) (held : List (ℤ × ℤ)) (state : State) (apart : n ≢ number) (sorted : AreSorted held)
    (here : lookup (int_eq key) held ≡ Some (pos number)) (alone : AllByRecursion (IsOnlyAt number key) held) where
  put_goes : (another : ℤ) (b : Bool) → int_eq key another ≡ b → Some (pairs (with_key another (pos n) held)) ≡ Some state
      → PairGoes number state (cond b None (Some (AtKey key)))
  put_goes another true same e =
      rw (some_is state (pairs (with_key another (pos n) held)) e, ← same_key key another same) (none_put number key n held apart sorted alone)
  put_goes another false other e = record {
    held = with_key another (pos n) held;
    is = some_is state (pairs (with_key another (pos n) held)) e;
    sorted = sorted_with another (pos n) held sorted;
    here = found_put number key another other (pos n) held ∙ here;
    alone = alone_put number n key another held apart alone;
  }

  del_goes : (another : ℤ) (b c : Bool) → int_eq key another ≡ b
      → option_map pairs (if c then Some (remove_entry (int_eq another) held) else None) ≡ Some state
      → PairGoes number state (cond b None (Some (AtKey key)))
  del_goes another b false is e = absurd (cc)
  del_goes another true true same e =
      rw (some_is state (pairs (remove_entry (int_eq another) held)) e, ← same_key key another same) (none_left number key held sorted alone)
  del_goes another false true other e = record {
    held = remove_entry (int_eq another) held;
    is = some_is state (pairs (remove_entry (int_eq another) held)) e;
    sorted = sorted_without another held sorted;
    here = found_left number key another other held ∙ here;
    alone = alone_left number key another held alone;
  }

goes : (op : Op) (number n : ℕ) (key : ℤ) (held : List (ℤ × ℤ)) (state : State) → n ≢ number → AreSorted held → lookup (int_eq key) held ≡ Some (pos number)
    → AllByRecursion (IsOnlyAt number key) held → perform (numbered_op n op) n (pairs held) ≡ Some state → PairGoes number state (pair_after key op)
unfolding perform
goes (Enq v) number n key held state apart sorted here alone e = absurd (cc)
goes Deq number n key held state apart sorted here alone e = absurd (cc)
goes (Push v) number n key held state apart sorted here alone e = absurd (cc)
goes Pop number n key held state apart sorted here alone e = absurd (cc)
goes (PushL v) number n key held state apart sorted here alone e = absurd (cc)
goes (PushR v) number n key held state apart sorted here alone e = absurd (cc)
goes PopL number n key held state apart sorted here alone e = absurd (cc)
goes PopR number n key held state apart sorted here alone e = absurd (cc)
goes (Put k v) number n key held state apart sorted here alone e = put_goes number n key held state apart sorted here alone k (int_eq key k) refl e
goes (Del k) number n key held state apart sorted here alone e = del_goes number n key held state apart sorted here alone k (int_eq key k) (is_some (lookup (int_eq k) held)) refl e
goes (Ins k) number n key held state apart sorted here alone e = absurd (cc)
goes DelMin number n key held state apart sorted here alone e = absurd (cc)

-- a row takes the pair of a key on, or out
pub pair_goes : (op : Op) (number n : ℕ) (key : ℤ) (before state : State) → n ≢ number → StandsAtKey number key before
    → perform (numbered_op n op) n before ≡ Some state → PairGoes number state (pair_after key op)
pair_goes op number n key before state apart stands e =
    goes op number n key stands.held state apart stands.sorted stands.here stands.alone (subst (λ s. perform (numbered_op n op) n s ≡ Some state) stands.is e)

-- it is there
pub pair_is_held : (number : ℕ) (key : ℤ) (ps : List (ℤ × ℤ)) → lookup (int_eq key) ps ≡ Some (pos number) → list_any (λ pair. int_eq pair.1 (pos number)) ps ≡ true
pair_is_held number key [] here = absurd (cc)
pair_is_held number key (p ∷ ps) here =
    elim (int_eq key p.0) as (λ b. cond b (Some p.1) (lookup (int_eq key) ps) ≡ Some (pos number) → (int_eq p.1 (pos number) || list_any (λ pair. int_eq pair.1 (pos number)) ps) ≡ true) [
      | true ↦ λ found. let one : p.1 ≡ pos number = cc in
          let same : int_eq p.1 (pos number) ≡ true = rw one (same_as_itself (pos number)) in
          or_true_first _ _ same
      | false ↦ λ found. either_true _ _ (pair_is_held number key ps found)
    ] here
