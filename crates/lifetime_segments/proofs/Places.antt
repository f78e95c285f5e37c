-- The place of an element among those in their order.
use Rattle.std.proofs.Common.{◌≡◌, ℕ, zero, suc, ◌≤◌, ◌<◌, Some, None, slice_get, slice_set, Bool, true, false, cond, not, List, [], ◌∷◌, length, refl, sym, subst, ap, ◌∙◌, arith}
use Rattle.std.specs.List.{AllByRecursion, insert, remove}
use Rattle.std.specs.List.Sorted.{IsPartitionPoint, IsPartitionedBy}
use Rattle.std.specs.Prelude.{slice_index_or}
use Rattle.retro_base.specs.OrderLaws.{all_weaker}
use Rattle.weighted_tree.specs.Partitioned.{IsPartitioned}
use Rattle.lifetime_segments.specs.Ordered.{IsOrder, AreInOrder, insert_by, is_in, without, place_in, position_in}
use Rattle.lifetime_segments.specs.OrderedLaws.{between, not_before-chains, insert_by-front}

-- the place of an element is where it is put in, and where it is taken out
pub insert-place : {A : Type 0} (before : A → A → Bool) (x : A) (xs : List A) → insert xs (place_in before x xs) x ≡ insert_by before x xs
insert-place before x [] = refl
insert-place before x (y ∷ ys) = elim (before y x) as (λ b. insert (y ∷ ys) (cond b (suc (place_in before x ys)) 0) x ≡ cond b (y ∷ insert_by before x ys) (x ∷ y ∷ ys)) [
  | true ↦ ap (λ zs. y ∷ zs) (insert-place before x ys)
  | false ↦ refl
]

pub remove-place : {A : Type 0} (before : A → A → Bool) (x : A) (xs : List A) → is_in before x xs ≡ true → remove xs (place_in before x xs) ≡ without before x xs
remove-place before x [] there = absurd (cc)
remove-place before x (y ∷ ys) there = elim (before y x) as (λ b. cond b (is_in before x ys) (not (before x y)) ≡ true
    → remove (y ∷ ys) (cond b (suc (place_in before x ys)) 0) ≡ cond b (y ∷ without before x ys) (cond (before x y) (y ∷ ys) ys)) [
      | true ↦ λ there. ap (λ zs. y ∷ zs) (remove-place before x ys there)
      | false ↦ elim (before x y) as (λ b. not b ≡ true → ys ≡ cond b (y ∷ ys) ys) [
        | true ↦ λ there. absurd (cc)
        | false ↦ λ _. refl
      ]
    ] there

pub place-within : {A : Type 0} (before : A → A → Bool) (x : A) (xs : List A) → place_in before x xs ≤ length xs
place-within before x [] = omega arith
place-within before x (y ∷ ys) = elim (before y x) as (λ b. cond b (suc (place_in before x ys)) 0 ≤ suc (length ys)) [
  | true ↦ let below = place-within before x ys in omega arith
  | false ↦ omega arith
]

pub place-there : {A : Type 0} (before : A → A → Bool) (x : A) (xs : List A) → is_in before x xs ≡ true → place_in before x xs < length xs
place-there before x [] there = absurd (cc)
place-there before x (y ∷ ys) there = elim (before y x) as (λ b. cond b (is_in before x ys) (not (before x y)) ≡ true → cond b (suc (place_in before x ys)) 0 < suc (length ys)) [
  | true ↦ λ there. let below = place-there before x ys there in omega arith
  | false ↦ λ there. omega arith
] there

-- whether it is there is seen at its place
pub is_in-end : {A : Type 0} (before : A → A → Bool) (x : A) (xs : List A) → place_in before x xs ≡ length xs → is_in before x xs ≡ false
is_in-end before x [] end = refl
is_in-end before x (y ∷ ys) end = elim (before y x) as (λ b. cond b (suc (place_in before x ys)) 0 ≡ suc (length ys) → cond b (is_in before x ys) (not (before x y)) ≡ false) [
  | true ↦ λ end. is_in-end before x ys (omega arith)
  | false ↦ λ end. absurd (omega arith)
] end

pub is_in-at : {A : Type 0} (before : A → A → Bool) (x y : A) (xs : List A) → slice_get xs (place_in before x xs) ≡ Some y → is_in before x xs ≡ not (before x y)
is_in-at before x y [] there = absurd (cc)
is_in-at before x y (z ∷ zs) there = elim (before z x) as (λ b. slice_get (z ∷ zs) (cond b (suc (place_in before x zs)) 0) ≡ Some y → cond b (is_in before x zs) (not (before x z)) ≡ not (before x y)) [
  | true ↦ λ there. is_in-at before x y zs there
  | false ↦ λ there. let same : z ≡ y = cc in ap (λ w. not (before x w)) same
] there

-- an element has a position exactly where it is there
pub position-here : {A : Type 0} (before : A → A → Bool) (x : A) (xs : List A) (place : ℕ) → place ≡ place_in before x xs → is_in before x xs ≡ true → Some place ≡ position_in before x xs
position-here before x xs place is there = ap Some is ∙ sym (ap (λ b. cond b (Some (place_in before x xs)) None) there)

pub position-nowhere : {A : Type 0} (before : A → A → Bool) (x : A) (xs : List A) → is_in before x xs ≡ false → None ≡ position_in before x xs
position-nowhere before x xs none = sym (ap (λ b. cond b (Some (place_in before x xs)) None) none)

pub position-some : {A : Type 0} (before : A → A → Bool) (x : A) (xs : List A) (place : ℕ) → position_in before x xs ≡ Some place → (is_in before x xs ≡ true) × (place_in before x xs ≡ place)
position-some before x xs place found = elim (is_in before x xs) as (λ b. cond b (Some (place_in before x xs)) None ≡ Some place → (b ≡ true) × (place_in before x xs ≡ place)) [
  | true ↦ λ found. (refl, cc)
  | false ↦ λ found. absurd (cc)
] found

pub position-none : {A : Type 0} (before : A → A → Bool) (x : A) (xs : List A) → position_in before x xs ≡ None → is_in before x xs ≡ false
position-none before x xs none = elim (is_in before x xs) as (λ b. cond b (Some (place_in before x xs)) None ≡ None → b ≡ false) [
  | true ↦ λ none. absurd (cc)
  | false ↦ λ _. refl
] none

pub position-within : {A : Type 0} (before : A → A → Bool) (x : A) (xs : List A) (place : ℕ) → position_in before x xs ≡ Some place → place < length xs
position-within before x xs place found =
    let some = position-some before x xs place found in
    subst (λ n. n < length xs) some.1 (place-there before x xs some.0)

pub position-remove : {A : Type 0} (before : A → A → Bool) (x : A) (xs : List A) (place : ℕ) → position_in before x xs ≡ Some place → remove xs place ≡ without before x xs
position-remove before x xs place found =
    let some = position-some before x xs place found in
    ap (remove xs) (sym some.1) ∙ remove-place before x xs some.0

-- where the elements stop to stand before it
pub place-point : {A : Type 0} (before : A → A → Bool) (x : A) (xs : List A) (count : ℕ) → count ≤ length xs → IsPartitionPoint (λ y. before y x ≡ true) (λ y. before y x ≡ false) xs count → count ≡ place_in before x xs
place-point before x [] zero within point = refl
place-point before x [] (suc count) within point = absurd (omega arith)
place-point before x (y ∷ ys) zero within point = let here : before y x ≡ false = point.1 0 y (omega arith) (omega arith) in rw here refl
place-point before x (y ∷ ys) (suc count) within point =
    let past : before y x ≡ true = point.0 0 y (omega arith) (omega arith) in
    rw past (ap suc (place-point before x ys count (omega arith) (λ k d from to. point.0 (suc k) d (omega arith) (omega arith), λ k d from to. point.1 (suc k) d (omega arith) (omega arith))))

-- what holds of all elements holds of the one at a place
pub all_at : {A : Type 0} (P : A → Type 0) (xs : List A) (place : ℕ) (d : A) → AllByRecursion P xs → place < length xs → P (slice_index_or xs place d)
all_at P [] place d all within = absurd (omega arith)
all_at P (x ∷ xs) zero d all within = all.0
all_at P (x ∷ xs) (suc place) d all within = all_at P xs place d all.1 (omega arith)

-- in an order they stop at one place
module _ {A : Type 0} {before : A → A → Bool} (order : IsOrder before) where
  pub place-parted : (x : A) (xs : List A) → AreInOrder before xs → IsPartitioned (λ y. before y x) xs
  place-parted x [] ordered = tt
  place-parted x (y ∷ ys) ordered =
      (λ here. all_weaker (λ z. before z y ≡ false) (λ z. before z x ≡ false) ys (λ z later. not_before-chains order x y z here later) ordered.0, place-parted x ys ordered.1)

  -- the same as std says it of a slice
  pub place-parted_by : (x : A) (xs : List A) → AreInOrder before xs → IsPartitionedBy (λ y. before y x) xs
  place-parted_by x [] ordered i j d up within here = absurd (omega arith)
  place-parted_by x (y ∷ ys) ordered zero zero d up within here = here
  place-parted_by x (y ∷ ys) ordered zero (suc j) d up within here =
      between order x y (slice_index_or ys j d) here (all_at (λ z. before z y ≡ false) ys j d ordered.0 (omega arith))
  place-parted_by x (y ∷ ys) ordered (suc i) zero d up within here = absurd (omega arith)
  place-parted_by x (y ∷ ys) ordered (suc i) (suc j) d up within here = place-parted_by x ys ordered.1 i j d (omega arith) (omega arith) here

-- where an element would be put in at the front
put-front : {A : Type 0} (before : A → A → Bool) (x : A) (xs : List A) → place_in before x xs ≡ 0 → insert_by before x xs ≡ x ∷ xs
put-front before x [] front = refl
put-front before x (y ∷ ys) front = elim (before y x) as (λ b. cond b (suc (place_in before x ys)) 0 ≡ 0 → cond b (y ∷ insert_by before x ys) (x ∷ y ∷ ys) ≡ x ∷ y ∷ ys) [
  | true ↦ λ front. absurd (omega arith)
  | false ↦ λ _. refl
] front

module _ {A : Type 0} {before : A → A → Bool} (order : IsOrder before) where
  -- an element that would be put in right before another, or right after it, stands in order in its place
  pub replaced : (x y : A) (xs : List A) → AreInOrder before xs → is_in before x xs ≡ true → place_in before x xs ≤ place_in before y xs → place_in before y xs ≤ suc (place_in before x xs)
      → slice_set xs (place_in before x xs) y ≡ insert_by before y (without before x xs)
  replaced x y [] ordered there low high = absurd (cc)
  replaced x y (z ∷ zs) ordered there low high = elim (before z x) as
      (λ b. cond b (is_in before x zs) (not (before x z)) ≡ true → cond b (suc (place_in before x zs)) 0 ≤ place_in before y (z ∷ zs) → place_in before y (z ∷ zs) ≤ suc (cond b (suc (place_in before x zs)) 0)
      → slice_set (z ∷ zs) (cond b (suc (place_in before x zs)) 0) y ≡ insert_by before y (cond b (z ∷ without before x zs) (cond (before x z) (z ∷ zs) zs))) [
        | true ↦ λ there low high. behind (replaced x y zs ordered.1 there) low high
        | false ↦ λ there _ high. sym (ap (insert_by before y) (here there) ∙ at_front high)
      ] there low high where
        behind : (place_in before x zs ≤ place_in before y zs → place_in before y zs ≤ suc (place_in before x zs) → slice_set zs (place_in before x zs) y ≡ insert_by before y (without before x zs))
            → suc (place_in before x zs) ≤ place_in before y (z ∷ zs) → place_in before y (z ∷ zs) ≤ suc (suc (place_in before x zs))
            → z ∷ slice_set zs (place_in before x zs) y ≡ insert_by before y (z ∷ without before x zs)
        behind rest low high = elim (before z y) as
            (λ b. suc (place_in before x zs) ≤ cond b (suc (place_in before y zs)) 0 → cond b (suc (place_in before y zs)) 0 ≤ suc (suc (place_in before x zs))
            → z ∷ slice_set zs (place_in before x zs) y ≡ cond b (z ∷ insert_by before y (without before x zs)) (y ∷ z ∷ without before x zs)) [
              | true ↦ λ low high. ap (λ ws. z ∷ ws) (rest (omega arith) (omega arith))
              | false ↦ λ low _. absurd (omega arith)
            ] low high

        here : not (before x z) ≡ true → cond (before x z) (z ∷ zs) zs ≡ zs
        here there = elim (before x z) as (λ b. not b ≡ true → cond b (z ∷ zs) zs ≡ zs) [
          | true ↦ λ there. absurd (cc)
          | false ↦ λ _. refl
        ] there

        at_front : place_in before y (z ∷ zs) ≤ 1 → insert_by before y zs ≡ y ∷ zs
        at_front high = elim (before z y) as (λ b. before z y ≡ b → cond b (suc (place_in before y zs)) 0 ≤ 1 → insert_by before y zs ≡ y ∷ zs) [
          | true ↦ λ _ high. put-front before y zs (omega arith)
          | false ↦ λ far _. insert_by-front order y zs (all_weaker (λ w. before w z ≡ false) (λ w. before w y ≡ false) zs (λ w later. not_before-chains order y z w far later) ordered.0)
        ] refl high
