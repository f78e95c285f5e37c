-- What lies in a span and in its halves.
use Rattle.std.proofs.Common.{◌≡◌, ℕ, zero, suc, ◌+◌, ◌-◌, ◌*◌, ◌≤◌, ◌<◌, ◌⊎◌, Bool, true, false, cond, List, [], ◌∷◌, ◌++◌, Option, Some, None, inl, inr, refl, sym, ap, ◌∙◌, arith}
use Rattle.std.specs.Prelude.{◌^◌, ◌&&◌, min, nat_le, nat_lt}
use Rattle.std.specs.List.{AllByRecursion}
use Rattle.std.proofs.Math.Nat.{pow-succ'}
use Rattle.std.proofs.lemmas.Bool.Decides.{nat_tests}
use Rattle.lifetime_segments.specs.declared.lifetime.Lifetime.{Lifetime}
use Rattle.lifetime_segments.specs.Ordered.{IsOrder, in_order}
use Rattle.lifetime_segments.specs.Lifetimes.{holds, items_at}
use Rattle.lifetime_segments.specs.Tries.{Lies, ending, seen_from, is_whole, whole_item, in_first, in_second, items_below, taken, with}
use Rattle.lifetime_segments.proofs.Taken.{after, mapped, none-with, taken-either, taken-taken}

-- a span is twice its half
pub double : (level : ℕ) → 0 < level → 2 ^ level ≡ 2 ^ (level - 1) + 2 ^ (level - 1)
double level deep =
    let down : level ≡ suc (level - 1) = omega arith in
    let twice : 2 ^ suc (level - 1) ≡ 2 * 2 ^ (level - 1) = pow-succ' 2 (level - 1) in
    let same : 2 ^ level ≡ 2 ^ suc (level - 1) = ap (λ n. 2 ^ n) down in
    omega arith

module _ {A : Type 0} where
  -- a lifetime that lies in a span and is not whole there lies in its halves
  pub has_halves : (level : ℕ) (life : Lifetime A) → Lies level life → is_whole level life ≡ false → 0 < level
  has_halves zero life lies broken = let rises = lies.rises in let within = lies.within in absurd (grind (arith, nat_tests))
  has_halves (suc level) life lies broken = omega arith

  pub whole-here : (level : ℕ) (life : Lifetime A) → is_whole level life ≡ true → whole_item level life ≡ Some life.item
  whole-here level life whole = ap (λ b. cond b (Some life.item) None) whole

  pub whole-none : (level : ℕ) (life : Lifetime A) → is_whole level life ≡ false → whole_item level life ≡ None
  whole-none level life broken = ap (λ b. cond b (Some life.item) None) broken

  -- where it is whole nothing of it lies in a half, and else what there is
  pub first-at : (level : ℕ) (life : Lifetime A) (b : Bool) → is_whole level life ≡ b → in_first level life ≡ cond b None (cond (nat_lt life.from (2 ^ (level - 1))) (Some (ending (min life.to (2 ^ (level - 1))) life)) None)
  first-at level life b is = ap (λ b. cond b None (cond (nat_lt life.from (2 ^ (level - 1))) (Some (ending (min life.to (2 ^ (level - 1))) life)) None)) is

  second-at : (level : ℕ) (life : Lifetime A) (b : Bool) → is_whole level life ≡ b → in_second level life ≡ cond b None (cond (nat_lt (2 ^ (level - 1)) life.to) (Some (seen_from (2 ^ (level - 1)) life)) None)
  second-at level life b is = ap (λ b. cond b None (cond (nat_lt (2 ^ (level - 1)) life.to) (Some (seen_from (2 ^ (level - 1)) life)) None)) is

  pub first-whole : (level : ℕ) (life : Lifetime A) → is_whole level life ≡ true → in_first level life ≡ None
  first-whole level life whole = first-at level life true whole

  pub second-whole : (level : ℕ) (life : Lifetime A) → is_whole level life ≡ true → in_second level life ≡ None
  second-whole level life whole = second-at level life true whole

  pub first-is : (level : ℕ) (life : Lifetime A) → is_whole level life ≡ false → life.from < 2 ^ (level - 1) → in_first level life ≡ Some (ending (min life.to (2 ^ (level - 1))) life)
  first-is level life broken begins =
      let near : nat_lt life.from (2 ^ (level - 1)) ≡ true = grind (arith, nat_tests) in
      first-at level life false broken ∙ ap (λ b. cond b (Some (ending (min life.to (2 ^ (level - 1))) life)) None) near

  pub second-is : (level : ℕ) (life : Lifetime A) → is_whole level life ≡ false → 2 ^ (level - 1) < life.to → in_second level life ≡ Some (seen_from (2 ^ (level - 1)) life)
  second-is level life broken ends =
      let far : nat_lt (2 ^ (level - 1)) life.to ≡ true = grind (arith, nat_tests) in
      second-at level life false broken ∙ ap (λ b. cond b (Some (seen_from (2 ^ (level - 1)) life)) None) far

  pub second-none : (level : ℕ) (life : Lifetime A) → is_whole level life ≡ false → life.to ≤ 2 ^ (level - 1) → in_second level life ≡ None
  second-none level life broken ends =
      let near : nat_lt (2 ^ (level - 1)) life.to ≡ false = grind (arith, nat_tests) in
      second-at level life false broken ∙ ap (λ b. cond b (Some (seen_from (2 ^ (level - 1)) life)) None) near

  -- where nothing lies in the span itself nor in its halves, nothing lies in it
  pub none_lie : (level : ℕ) (lives : List (Lifetime A)) → AllByRecursion (Lies level) lives → taken (whole_item level) lives ≡ [] → taken (in_first level) lives ≡ [] → taken (in_second level) lives ≡ [] → lives ≡ []
  none_lie level [] lie no_wholes no_firsts no_seconds = refl
  none_lie level (life ∷ lives) lie no_wholes no_firsts no_seconds =
      absurd (nowhere lie.0 (none-with (whole_item level life) _ no_wholes) (none-with (in_first level life) _ no_firsts) (none-with (in_second level life) _ no_seconds)) where
        refused : {Y : Type 0} (b : Bool) (y : Y) → cond b (Some y) None ≡ None → b ≡ false
        refused true y none = absurd (cc)
        refused false y none = refl

        nowhere : Lies level life → whole_item level life ≡ None → in_first level life ≡ None → in_second level life ≡ None → ⊥
        nowhere lies no_whole no_first no_second =
            let broken : is_whole level life ≡ false = refused (is_whole level life) life.item no_whole in
            let far : nat_lt life.from (2 ^ (level - 1)) ≡ false = refused _ (ending (min life.to (2 ^ (level - 1))) life) (sym (first-at level life false broken) ∙ no_first) in
            let near : nat_lt (2 ^ (level - 1)) life.to ≡ false = refused _ (seen_from (2 ^ (level - 1)) life) (sym (second-at level life false broken) ∙ no_second) in
            let rises = lies.rises in
            grind (arith, nat_tests)

  -- the item of a lifetime that holds a label
  abbrev pub item_there : ℕ → Lifetime A → Option A
  item_there label life = cond (holds label life) (Some life.item) None

  pub items-taken : (label : ℕ) (lives : List (Lifetime A)) → items_at label lives ≡ taken (item_there label) lives
  items-taken label lives = mapped (holds label) (λ life. life.item) lives

  item-none : (label : ℕ) (life : Lifetime A) → holds label life ≡ false → None ≡ item_there label life
  item-none label life gone = sym (ap (λ b. cond b (Some life.item) None) gone)

  -- it is there by what of the lifetime lies in the half of the label
  first-there : (level label : ℕ) (life : Lifetime A) → label < 2 ^ (level - 1) → is_whole level life ≡ false → after (in_first level life) (item_there label) ≡ item_there label life
  first-there level label life within broken =
      ap (λ o. after o (item_there label)) (first-at level life false broken)
      ∙ (elim (nat_lt life.from (2 ^ (level - 1))) as
      (λ b. nat_lt life.from (2 ^ (level - 1)) ≡ b → after (cond b (Some (ending (min life.to (2 ^ (level - 1))) life)) None) (item_there label) ≡ item_there label life) [
        | true ↦ λ near. ap (λ b. cond (nat_le life.from label && b) (Some life.item) None) (clipped label life.to (2 ^ (level - 1)) within)
        | false ↦ λ far. item-none label life (grind (arith, nat_tests))
      ] refl) where
        clipped : (label to half : ℕ) → label < half → nat_lt label (min to half) ≡ nat_lt label to
        clipped label to half within = grind (arith, nat_tests)

  second-there : (level label : ℕ) (life : Lifetime A) → 2 ^ (level - 1) ≤ label → is_whole level life ≡ false → after (in_second level life) (item_there (label - 2 ^ (level - 1))) ≡ item_there label life
  second-there level label life within broken =
      ap (λ o. after o (item_there (label - 2 ^ (level - 1)))) (second-at level life false broken)
      ∙ (elim (nat_lt (2 ^ (level - 1)) life.to) as
      (λ b. nat_lt (2 ^ (level - 1)) life.to ≡ b → after (cond b (Some (seen_from (2 ^ (level - 1)) life)) None) (item_there (label - 2 ^ (level - 1))) ≡ item_there label life) [
        | true ↦ λ far. ap (λ b. cond b (Some life.item) None) (seen (2 ^ (level - 1)) label life.from life.to within)
        | false ↦ λ near. item-none label life (grind (arith, nat_tests))
      ] refl) where
        seen : (half label from to : ℕ) → half ≤ label → (nat_le (from - half) (label - half) && nat_lt (label - half) (to - half)) ≡ (nat_le from label && nat_lt label to)
        seen half label from to after = grind (arith, nat_tests)

  -- those below a span are those of the half of the label
  pub items_below-first : (level label : ℕ) (lives : List (Lifetime A)) → label < 2 ^ (level - 1) → items_at label (taken (in_first level) lives) ≡ items_below level label lives
  items_below-first level label lives within =
      let near : nat_lt label (2 ^ (level - 1)) ≡ true = grind (arith, nat_tests) in
      sym (ap (λ b. cond b (items_at label (taken (in_first level) lives)) (items_at (label - 2 ^ (level - 1)) (taken (in_second level) lives))) near)

  pub items_below-second : (level label : ℕ) (lives : List (Lifetime A)) → 2 ^ (level - 1) ≤ label → items_at (label - 2 ^ (level - 1)) (taken (in_second level) lives) ≡ items_below level label lives
  items_below-second level label lives within =
      let far : nat_lt label (2 ^ (level - 1)) ≡ false = grind (arith, nat_tests) in
      sym (ap (λ b. cond b (items_at label (taken (in_first level) lives)) (items_at (label - 2 ^ (level - 1)) (taken (in_second level) lives))) far)

  -- at level 0 all items that are there lie in the span itself
  pub zero_items : (lives : List (Lifetime A)) → items_at 0 lives ≡ taken (whole_item 0) lives
  zero_items lives = items-taken 0 lives ∙ same lives where
    whole : (life : Lifetime A) → holds 0 life ≡ is_whole 0 life
    whole life = grind (arith, nat_tests)

    same : (lives : List (Lifetime A)) → taken (item_there 0) lives ≡ taken (whole_item 0) lives
    same [] = refl
    same (life ∷ lives) = ap (with (item_there 0 life)) (same lives) ∙ ap (λ b. with (cond b (Some life.item) None) (taken (whole_item 0) lives)) (whole life)

  module _ {before : A → A → Bool} (order : IsOrder before) where
    -- the items in a span itself and those of one of its halves are those that are there at a label of this half
    half-in_order : (clip : Lifetime A → Option (Lifetime A)) (level label seen : ℕ) → label < 2 ^ level → ((life : Lifetime A) → is_whole level life ≡ true → clip life ≡ None)
        → ((life : Lifetime A) → is_whole level life ≡ false → after (clip life) (item_there seen) ≡ item_there label life) → (lives : List (Lifetime A))
        → in_order before (taken (whole_item level) lives ++ items_at seen (taken clip lives)) ≡ in_order before (items_at label lives)
    half-in_order clip level label seen within none there lives =
        ap (λ items. in_order before (taken (whole_item level) lives ++ items)) (items-taken seen (taken clip lives) ∙ taken-taken clip (item_there seen) lives)
        ∙ taken-either order (whole_item level) (λ life. after (clip life) (item_there seen)) (item_there label) each lives
        ∙ sym (ap (in_order before) (items-taken label lives)) where
          holds_all : (life : Lifetime A) → is_whole level life ≡ true → holds label life ≡ true
          holds_all life whole = grind (arith, nat_tests)

          each : (life : Lifetime A)
              → ((after (clip life) (item_there seen) ≡ None) × (whole_item level life ≡ item_there label life)) ⊎ ((whole_item level life ≡ None) × (after (clip life) (item_there seen) ≡ item_there label life))
          each life = elim (is_whole level life) as (λ b. is_whole level life ≡ b
              → ((after (clip life) (item_there seen) ≡ None) × (whole_item level life ≡ item_there label life)) ⊎ ((whole_item level life ≡ None) × (after (clip life) (item_there seen) ≡ item_there label life))) [
                | true ↦ λ whole. inl (ap (λ o. after o (item_there seen)) (none life whole), whole-here level life whole ∙ sym (ap (λ b. cond b (Some life.item) None) (holds_all life whole)))
                | false ↦ λ broken. inr (whole-none level life broken, there life broken)
              ] refl

    pub items_below-in_order : (level label : ℕ) (lives : List (Lifetime A)) → label < 2 ^ level → in_order before (taken (whole_item level) lives ++ items_below level label lives) ≡ in_order before (items_at label lives)
    items_below-in_order level label lives within = elim (nat_lt label (2 ^ (level - 1))) as (λ b. nat_lt label (2 ^ (level - 1)) ≡ b
        → in_order before (taken (whole_item level) lives ++ items_below level label lives) ≡ in_order before (items_at label lives)) [
          | true ↦ λ near.
              let first : label < 2 ^ (level - 1) = grind (arith, nat_tests) in
              ap (λ items. in_order before (taken (whole_item level) lives ++ items)) (sym (items_below-first level label lives first))
              ∙ half-in_order (in_first level) level label label within (first-whole level) (λ life broken. first-there level label life first broken) lives
          | false ↦ λ far.
              let second : 2 ^ (level - 1) ≤ label = grind (arith, nat_tests) in
              ap (λ items. in_order before (taken (whole_item level) lives ++ items)) (sym (items_below-second level label lives second))
              ∙ half-in_order (in_second level) level label (label - 2 ^ (level - 1)) within (second-whole level) (λ life broken. second-there level label life second broken) lives
        ] refl
