-- The pairs of a dictionary keep their keys rising, and which keys are there after an operation.
use Rattle.std.proofs.Common.{◌≡◌, ℤ, Bool, true, false, List, [], ◌∷◌, refl, sym, ap, ◌∙◌, Some, cond, Ordering, Less, Equal, Greater}
use Rattle.std.specs.List.{AllByRecursion}
use Rattle.std.specs.List.Sorted.{IsStrictlySortedBy}
use Rattle.std.specs.Map.{lookup, remove_entry, keys_of}
use Rattle.std.specs.Option.{is_some}
use Rattle.std.specs.Ordering.{int_cmp, int_eq, match_ordering, ordering_reverse, is_eq}
use Rattle.std.proofs.lemmas.Cmp.{int_cmp_total, int_eq_equiv}
use Rattle.std.proofs.lemmas.Map.Lookups.{exact_signed}
use Rattle.retro_base.specs.State.{with_key}

-- the keys rise
abbrev pub AreSorted : List (ℤ × ℤ) → Type 0
AreSorted ps = IsStrictlySortedBy int_cmp (keys_of ps)

-- the key is there
abbrev pub has : ℤ → List (ℤ × ℤ) → Bool
has key ps = is_some (lookup (int_eq key) ps)

-- all keys are above this one
abbrev AllAbove : ℤ → List (ℤ × ℤ) → Type 0
AllAbove low ps = AllByRecursion (λ k. int_cmp low k ≡ Less) (keys_of ps)

pub sorted_nil : AreSorted []
unfolding IsStrictlySortedBy
sorted_nil = tt

equal_by : (o : Ordering) → is_eq o ≡ true → o ≡ Equal
equal_by Less h = absurd (cc)
equal_by Equal h = refl
equal_by Greater h = absurd (cc)

pub same_key : (x y : ℤ) → int_eq x y ≡ true → x ≡ y
same_key x y h = exact_signed x y (equal_by (int_cmp x y) h)

pub same_as_itself : (x : ℤ) → int_eq x x ≡ true
same_as_itself x = int_eq_equiv.refl x

all_further : (low high : ℤ) (ps : List (ℤ × ℤ)) → int_cmp low high ≡ Less → AllAbove high ps → AllAbove low ps
all_further low high [] below all = tt
all_further low high (e ∷ es) below all = (int_cmp_total.trans low high e.0 below all.0, all_further low high es below all.1)

has-cons : (q : ℤ) (e : ℤ × ℤ) (es : List (ℤ × ℤ)) → has q (e ∷ es) ≡ cond (int_eq q e.0) true (has q es)
has-cons q e es = elim (int_eq q e.0) as (λ b. is_some (cond b (Some e.1) (lookup (int_eq q) es)) ≡ cond b true (has q es)) [ true ↦ refl | false ↦ refl ]

none_above : (key : ℤ) (ps : List (ℤ × ℤ)) → AllAbove key ps → has key ps ≡ false
none_above key [] all = refl
none_above key (e ∷ es) all = has-cons key e es ∙ ap (λ o. cond (is_eq o) true (has key es)) all.0 ∙ none_above key es all.1

-- the two choices may be made in either order
pub swapped : (a b h : Bool) → cond a true (cond b true h) ≡ cond b true (cond a true h)
swapped true true h = refl
swapped true false h = refl
swapped false true h = refl
swapped false false h = refl

twice : (a h : Bool) → cond a true h ≡ cond a true (cond a true h)
twice true h = refl
twice false h = refl

module _ (key value : ℤ) where
  above_with : (low : ℤ) (ps : List (ℤ × ℤ)) → AllAbove low ps → int_cmp low key ≡ Less → AllAbove low (with_key key value ps)
  above_with low [] all here = (here, tt)
  above_with low (e ∷ es) all here =
      elim (int_cmp key e.0) as (λ o. AllAbove low (match_ordering o ((key, value) ∷ e ∷ es) ((e.0, value) ∷ es) (e ∷ with_key key value es))) [
        | Less ↦ (here, all)
        | Equal ↦ all
        | Greater ↦ (all.0, above_with low es all.1 here)
      ]

  pub sorted_with : (ps : List (ℤ × ℤ)) → AreSorted ps → AreSorted (with_key key value ps)
  unfolding IsStrictlySortedBy
  sorted_with [] s = (tt, tt)
  sorted_with (e ∷ es) s =
      elim (int_cmp key e.0) as (λ o. int_cmp key e.0 ≡ o → AreSorted (match_ordering o ((key, value) ∷ e ∷ es) ((e.0, value) ∷ es) (e ∷ with_key key value es))) [
        | Less ↦ λ below. ((below, all_further key e.0 es below s.0), s)
        | Equal ↦ λ same. s
        | Greater ↦ λ above. (above_with e.0 es s.0 (int_cmp_total.antisymm e.0 key ∙ ap ordering_reverse above), sorted_with es s.1)
      ] refl

  pub has_with : (q : ℤ) (ps : List (ℤ × ℤ)) → has q (with_key key value ps) ≡ cond (int_eq q key) true (has q ps)
  has_with q [] = has-cons q (key, value) []
  has_with q (e ∷ es) =
      elim (int_cmp key e.0) as (λ o. int_cmp key e.0 ≡ o → has q (match_ordering o ((key, value) ∷ e ∷ es) ((e.0, value) ∷ es) (e ∷ with_key key value es)) ≡ cond (int_eq q key) true (has q (e ∷ es))) [
        | Less ↦ λ below. has-cons q (key, value) (e ∷ es)
        | Equal ↦ λ same.
            let one : key ≡ e.0 = exact_signed key e.0 same in
            has-cons q (e.0, value) es ∙ twice (int_eq q e.0) (has q es)
            ∙ ap (λ b. cond (int_eq q e.0) true b) (sym (has-cons q e es)) ∙ ap (λ k. cond (int_eq q k) true (has q (e ∷ es))) (sym one)
        | Greater ↦ λ above.
            has-cons q e (with_key key value es) ∙ ap (λ b. cond (int_eq q e.0) true b) (has_with q es)
            ∙ swapped (int_eq q e.0) (int_eq q key) (has q es) ∙ ap (λ b. cond (int_eq q key) true b) (sym (has-cons q e es))
      ] refl

module _ (key : ℤ) where
  above_without : (low : ℤ) (ps : List (ℤ × ℤ)) → AllAbove low ps → AllAbove low (remove_entry (int_eq key) ps)
  above_without low [] all = tt
  above_without low (e ∷ es) all =
      elim (int_eq key e.0) as (λ b. AllAbove low (cond b es (e ∷ remove_entry (int_eq key) es))) [ true ↦ all.1 | false ↦ (all.0, above_without low es all.1) ]

  pub sorted_without : (ps : List (ℤ × ℤ)) → AreSorted ps → AreSorted (remove_entry (int_eq key) ps)
  unfolding IsStrictlySortedBy
  sorted_without [] s = tt
  sorted_without (e ∷ es) s =
      elim (int_eq key e.0) as (λ b. AreSorted (cond b es (e ∷ remove_entry (int_eq key) es))) [ true ↦ s.1 | false ↦ (above_without e.0 es s.0, sorted_without es s.1) ]

  pub others_stay : (q : ℤ) (ps : List (ℤ × ℤ)) → int_eq q key ≡ false → has q (remove_entry (int_eq key) ps) ≡ has q ps
  others_stay q [] apart = refl
  others_stay q (e ∷ es) apart =
      elim (int_eq key e.0) as (λ b. int_eq key e.0 ≡ b → has q (cond b es (e ∷ remove_entry (int_eq key) es)) ≡ has q (e ∷ es)) [
        | true ↦ λ same.
            let not_first : int_eq q e.0 ≡ false = rw (← same_key key e.0 same) apart in
            sym (has-cons q e es ∙ ap (λ b. cond b true (has q es)) not_first)
        | false ↦ λ other.
            has-cons q e (remove_entry (int_eq key) es) ∙ ap (λ b. cond (int_eq q e.0) true b) (others_stay q es apart) ∙ sym (has-cons q e es)
      ] refl

  pub is_gone : (ps : List (ℤ × ℤ)) → AreSorted ps → has key (remove_entry (int_eq key) ps) ≡ false
  unfolding IsStrictlySortedBy
  is_gone [] s = refl
  is_gone (e ∷ es) s =
      elim (int_eq key e.0) as (λ b. int_eq key e.0 ≡ b → has key (cond b es (e ∷ remove_entry (int_eq key) es)) ≡ false) [
        | true ↦ λ same. let one : e.0 ≡ key = sym (same_key key e.0 same) in none_above key es (rw one at s.0)
        | false ↦ λ other. has-cons key e (remove_entry (int_eq key) es) ∙ ap (λ b. cond b true (has key (remove_entry (int_eq key) es))) other ∙ is_gone es s.1
      ] refl
