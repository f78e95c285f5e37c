-- Pairs with rising keys: what one that is put in or taken out leaves.
use Rattle.std.proofs.Common.{◌≡◌, ℤ, Bool, true, false, not, cond, Less, Equal, Greater, List, [], ◌∷◌, refl, sym, ap, ◌∙◌}
use Rattle.std.specs.List.{AllByRecursion, filter}
use Rattle.std.specs.List.Sorted.{IsStrictlySortedBy}
use Rattle.std.specs.Map.{remove_entry, keys_of}
use Rattle.std.specs.Ordering.{int_cmp, int_eq, is_eq, match_ordering, ordering_reverse}
use Rattle.std.proofs.lemmas.Bool.Decides.{Decides-int_eq}
use Rattle.std.proofs.lemmas.Cmp.{int_cmp_total}
use Rattle.std.proofs.lemmas.Map.Lookups.{exact_signed}
use Rattle.retro_base.specs.State.{with_key}
use Rattle.retro_dictionary.proofs.AsMany.{HaveSameItems, same-refl, same-cons, same-trans, same-middle}

abbrev pub AreSorted : List (ℤ × ℤ) → Type 0
AreSorted ps = IsStrictlySortedBy int_cmp (keys_of ps)

abbrev AllAbove : ℤ → List (ℤ × ℤ) → Type 0
AllAbove low ps = AllByRecursion (λ k. int_cmp low k ≡ Less) (keys_of ps)

-- a pair of another key
abbrev pub is_off : ℤ → ℤ × ℤ → Bool
is_off key pair = not (int_eq key pair.0)

pub sorted_nil : AreSorted []
unfolding IsStrictlySortedBy
sorted_nil = tt

all_further : (low high : ℤ) (ps : List (ℤ × ℤ)) → int_cmp low high ≡ Less → AllAbove high ps → AllAbove low ps
all_further low high [] below all = tt
all_further low high (e ∷ es) below all = (int_cmp_total.trans low high e.0 below all.0, all_further low high es below all.1)

off-yes : (key : ℤ) (e : ℤ × ℤ) (es : List (ℤ × ℤ)) → int_eq key e.0 ≡ false → filter (is_off key) (e ∷ es) ≡ e ∷ filter (is_off key) es
off-yes key e es other = ap (λ b. cond (not b) (e ∷ filter (is_off key) es) (filter (is_off key) es)) other

off-no : (key : ℤ) (e : ℤ × ℤ) (es : List (ℤ × ℤ)) → int_eq key e.0 ≡ true → filter (is_off key) (e ∷ es) ≡ filter (is_off key) es
off-no key e es one = ap (λ b. cond (not b) (e ∷ filter (is_off key) es) (filter (is_off key) es)) one

-- none of the pairs above a key is on it
above_off : (key : ℤ) (ps : List (ℤ × ℤ)) → AllAbove key ps → filter (is_off key) ps ≡ ps
above_off key [] all = refl
above_off key (e ∷ es) all =
    off-yes key e es (ap is_eq all.0) ∙ ap (λ ps. e ∷ ps) (above_off key es all.1)

module _ (key value : ℤ) where
  above_with : (low : ℤ) (ps : List (ℤ × ℤ)) → AllAbove low ps → int_cmp low key ≡ Less → AllAbove low (with_key key value ps)
  above_with low [] all here = (here, tt)
  above_with low (e ∷ es) all here =
      elim (int_cmp key e.0) as (λ o. AllAbove low (match_ordering o ((key, value) ∷ e ∷ es) ((e.0, value) ∷ es) (e ∷ with_key key value es))) [
        | Less ↦ (here, all)
        | Equal ↦ all
        | Greater ↦ (all.0, above_with low es all.1 here)
      ]

  pub sorted_with : (ps : List (ℤ × ℤ)) → AreSorted ps → AreSorted (with_key key value ps)
  unfolding IsStrictlySortedBy
  sorted_with [] s = (tt, tt)
  sorted_with (e ∷ es) s =
      elim (int_cmp key e.0) as (λ o. int_cmp key e.0 ≡ o → AreSorted (match_ordering o ((key, value) ∷ e ∷ es) ((e.0, value) ∷ es) (e ∷ with_key key value es))) [
        | Less ↦ λ below. ((below, all_further key e.0 es below s.0), s)
        | Equal ↦ λ same. s
        | Greater ↦ λ above. (above_with e.0 es s.0 (int_cmp_total.antisymm e.0 key ∙ ap ordering_reverse above), sorted_with es s.1)
      ] refl

  -- the pair is there, and those of the other keys
  pub with_key-same : (ps : List (ℤ × ℤ)) → AreSorted ps → HaveSameItems (with_key key value ps) ((key, value) ∷ filter (is_off key) ps)
  unfolding IsStrictlySortedBy
  with_key-same [] s = same-refl ((key, value) ∷ [])
  with_key-same (e ∷ es) s =
      elim (int_cmp key e.0) as (λ o. int_cmp key e.0 ≡ o → HaveSameItems (match_ordering o ((key, value) ∷ e ∷ es) ((e.0, value) ∷ es) (e ∷ with_key key value es)) ((key, value) ∷ filter (is_off key) (e ∷ es))) [
        | Less ↦ λ below.
            rw (above_off key (e ∷ es) (below, all_further key e.0 es below s.0)) (same-refl ((key, value) ∷ e ∷ es))
        | Equal ↦ λ same.
            let one : key ≡ e.0 = exact_signed key e.0 same in
            let rest : filter (is_off key) (e ∷ es) ≡ es = off-no key e es (ap is_eq same) ∙ ap (λ k. filter (is_off k) es) one ∙ above_off e.0 es s.0 in
            rw rest (rw one (same-refl ((e.0, value) ∷ es)))
        | Greater ↦ λ above.
            rw (off-yes key e es (ap is_eq above))
            (same-trans (e ∷ with_key key value es) (e ∷ (key, value) ∷ filter (is_off key) es) ((key, value) ∷ e ∷ filter (is_off key) es)
            (same-cons e (with_key key value es) ((key, value) ∷ filter (is_off key) es) (with_key-same es s.1))
            (same-middle (e ∷ []) (key, value) (filter (is_off key) es)))
      ] refl

module _ (key : ℤ) where
  -- those of the other keys are left
  pub without_key-is : (ps : List (ℤ × ℤ)) → AreSorted ps → remove_entry (int_eq key) ps ≡ filter (is_off key) ps
  unfolding IsStrictlySortedBy
  without_key-is [] s = refl
  without_key-is (e ∷ es) s =
      elim (int_eq key e.0) as (λ b. int_eq key e.0 ≡ b → cond b es (e ∷ remove_entry (int_eq key) es) ≡ cond (not b) (e ∷ filter (is_off key) es) (filter (is_off key) es)) [
        | true ↦ λ same.
            let one : key ≡ e.0 = (Decides-int_eq key e.0).0 same in
            sym (ap (λ k. filter (is_off k) es) one ∙ above_off e.0 es s.0)
        | false ↦ λ other. ap (λ ps. e ∷ ps) (without_key-is es s.1)
      ] refl

  above_without : (low : ℤ) (ps : List (ℤ × ℤ)) → AllAbove low ps → AllAbove low (remove_entry (int_eq key) ps)
  above_without low [] all = tt
  above_without low (e ∷ es) all =
      elim (int_eq key e.0) as (λ b. AllAbove low (cond b es (e ∷ remove_entry (int_eq key) es))) [ true ↦ all.1 | false ↦ (all.0, above_without low es all.1) ]

  pub sorted_without : (ps : List (ℤ × ℤ)) → AreSorted ps → AreSorted (remove_entry (int_eq key) ps)
  unfolding IsStrictlySortedBy
  sorted_without [] s = tt
  sorted_without (e ∷ es) s =
      elim (int_eq key e.0) as (λ b. AreSorted (cond b es (e ∷ remove_entry (int_eq key) es))) [ true ↦ s.1 | false ↦ (above_without e.0 es s.0, sorted_without es s.1) ]
