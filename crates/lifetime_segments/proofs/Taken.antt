-- What is taken of each element of a list, where something is.
use Rattle.std.proofs.Common.{◌≡◌, ◌≤◌, ◌⊎◌, Bool, true, false, cond, List, [], ◌∷◌, ◌++◌, length, Option, Some, None, inl, inr, refl, sym, ap, ◌∙◌, arith}
use Rattle.std.specs.Prelude.{map}
use Rattle.std.specs.List.{filter}
use Rattle.lifetime_segments.specs.Ordered.{IsOrder, insert_by, in_order}
use Rattle.lifetime_segments.specs.OrderedLaws.{in_order-middle, insert_by-either, insert_by-swap}
use Rattle.lifetime_segments.specs.Tries.{with, taken}

abbrev pub after : {Y Z : Type 0} → Option Y → (Y → Option Z) → Option Z
after (Some y) f = f y
after None f = None

-- what is taken of what was taken
pub taken-taken : {X Y Z : Type 0} (first : X → Option Y) (second : Y → Option Z) (xs : List X) → taken second (taken first xs) ≡ taken (λ x. after (first x) second) xs
taken-taken first second [] = refl
taken-taken first second (x ∷ xs) = elim (first x) as (λ o. taken second (with o (taken first xs)) ≡ with (after o second) (taken (λ x. after (first x) second) xs)) [
  | Some y ↦ ap (with (second y)) (taken-taken first second xs)
  | None ↦ taken-taken first second xs
]

pub mapped : {X Y : Type 0} (test : X → Bool) (f : X → Y) (xs : List X) → map f (filter test xs) ≡ taken (λ x. cond (test x) (Some (f x)) None) xs
mapped test f [] = refl
mapped test f (x ∷ xs) = elim (test x) as (λ b. map f (cond b (x ∷ filter test xs) (filter test xs)) ≡ with (cond b (Some (f x)) None) (taken (λ x. cond (test x) (Some (f x)) None) xs)) [
  | true ↦ ap (λ ys. f x ∷ ys) (mapped test f xs)
  | false ↦ mapped test f xs
]

pub taken-some : {X : Type 0} (xs : List X) → taken (λ x. Some x) xs ≡ xs
taken-some [] = refl
taken-some (x ∷ xs) = ap (λ ys. x ∷ ys) (taken-some xs)

pub length-taken : {X Y : Type 0} (f : X → Option Y) (xs : List X) → length (taken f xs) ≤ length xs
length-taken f [] = omega arith
length-taken f (x ∷ xs) =
    let fewer = length-taken f xs in
    elim (f x) as (λ o. length (with o (taken f xs)) ≤ length (x ∷ xs)) [
      | Some y ↦ omega arith
      | None ↦ omega arith
    ]

-- no element is nothing more
pub none-with : {Y : Type 0} (o : Option Y) (ys : List Y) → with o ys ≡ [] → o ≡ None
none-with (Some y) ys nothing = absurd (cc)
none-with None ys nothing = refl

module _ {X Y : Type 0} {before : Y → Y → Bool} (order : IsOrder before) where
  -- what is taken in one way of some elements, and in another way of the others, is what is taken of all
  pub taken-either : (f g all : X → Option Y) → ((x : X) → ((g x ≡ None) × (f x ≡ all x)) ⊎ ((f x ≡ None) × (g x ≡ all x))) → (xs : List X) → in_order before (taken f xs ++ taken g xs) ≡ in_order before (taken all xs)
  taken-either f g all each [] = refl
  taken-either f g all each (x ∷ xs) = joined (each x) (taken-either f g all each xs) where
    joined : ((g x ≡ None) × (f x ≡ all x)) ⊎ ((f x ≡ None) × (g x ≡ all x)) → in_order before (taken f xs ++ taken g xs) ≡ in_order before (taken all xs)
        → in_order before (with (f x) (taken f xs) ++ with (g x) (taken g xs)) ≡ in_order before (with (all x) (taken all xs))
    joined (inl here) rest =
        ap (λ o. in_order before (with (f x) (taken f xs) ++ with o (taken g xs))) here.0
        ∙ ap (λ o. in_order before (with o (taken f xs) ++ taken g xs)) here.1
        ∙ (elim (all x) as (λ o. in_order before (with o (taken f xs) ++ taken g xs) ≡ in_order before (with o (taken all xs))) [
          | Some y ↦ ap (insert_by before y) rest
          | None ↦ rest
        ])
    joined (inr here) rest =
        ap (λ o. in_order before (with o (taken f xs) ++ with (g x) (taken g xs))) here.0
        ∙ ap (λ o. in_order before (taken f xs ++ with o (taken g xs))) here.1
        ∙ (elim (all x) as (λ o. in_order before (taken f xs ++ with o (taken g xs)) ≡ in_order before (with o (taken all xs))) [
          | Some y ↦ in_order-middle order y (taken f xs) (taken g xs) ∙ ap (insert_by before y) rest
          | None ↦ rest
        ])

module _ {X Y : Type 0} (earlier : X → X → Bool) {before : Y → Y → Bool} (order : IsOrder before) (f : X → Option Y) where
  with-alike : (o : Option Y) (ys zs : List Y) → in_order before ys ≡ in_order before zs → in_order before (with o ys) ≡ in_order before (with o zs)
  with-alike (Some y) ys zs same = ap (insert_by before y) same
  with-alike None ys zs same = same

  with-swap : (o p : Option Y) (ys : List Y) → in_order before (with o (with p ys)) ≡ in_order before (with p (with o ys))
  with-swap (Some y) (Some z) ys = insert_by-swap order y z (in_order before ys)
  with-swap (Some y) None ys = refl
  with-swap None p ys = refl

  taken-insert_by : (x : X) (xs : List X) → in_order before (taken f (insert_by earlier x xs)) ≡ in_order before (taken f (x ∷ xs))
  taken-insert_by x [] = refl
  taken-insert_by x (y ∷ ys) = insert_by-either (λ zs. in_order before (taken f zs) ≡ in_order before (taken f (x ∷ y ∷ ys))) earlier x y ys
      (with-alike (f y) (taken f (insert_by earlier x ys)) (taken f (x ∷ ys)) (taken-insert_by x ys) ∙ with-swap (f y) (f x) (taken f ys)) refl

  pub taken-in_order : (xs : List X) → in_order before (taken f (in_order earlier xs)) ≡ in_order before (taken f xs)
  taken-in_order [] = refl
  taken-in_order (x ∷ xs) = taken-insert_by x (in_order earlier xs) ∙ with-alike (f x) (taken f (in_order earlier xs)) (taken f xs) (taken-in_order xs)

  -- of lists that are one in their order as much is taken
  pub taken-alike : (xs ys : List X) → in_order earlier xs ≡ in_order earlier ys → in_order before (taken f xs) ≡ in_order before (taken f ys)
  taken-alike xs ys same = sym (taken-in_order xs) ∙ ap (λ zs. in_order before (taken f zs)) same ∙ taken-in_order ys
