-- Lists that stand in an order.
use Rattle.std.specs.Prelude.{◌≡◌, Bool, true, false, cond, not, ℕ, suc, List, [], ◌∷◌, Option, Some, None}
use Rattle.std.specs.List.{AllByRecursion}

-- a strict total order
pub record IsOrder {A : Type 0} (before : A → A → Bool) : Type 0 where
  pub strict : (x : A) → before x x ≡ false
  pub chains : (x y z : A) → before x y ≡ true → before y z ≡ true → before x z ≡ true
  pub total : (x y : A) → before x y ≡ false → before y x ≡ false → x ≡ y

-- no element stands before one in front of it; equal elements may stand side by side
abbrev pub AreInOrder : {A : Type 0} → (A → A → Bool) → List A → Type 0
AreInOrder before [] = Unit {0}
AreInOrder before (x ∷ xs) = AllByRecursion (λ later. before later x ≡ false) xs × AreInOrder before xs

-- an element put in right after those in front that stand before it
abbrev pub insert_by : {A : Type 0} → (A → A → Bool) → A → List A → List A
insert_by before x [] = x ∷ []
insert_by before x (y ∷ ys) = cond (before y x) (y ∷ insert_by before x ys) (x ∷ y ∷ ys)

-- the elements put in one by one
abbrev pub in_order : {A : Type 0} → (A → A → Bool) → List A → List A
in_order before [] = []
in_order before (x ∷ xs) = insert_by before x (in_order before xs)

-- whether an element is there, right after those in front that stand before it
abbrev pub is_in : {A : Type 0} → (A → A → Bool) → A → List A → Bool
is_in before x [] = false
is_in before x (y ∷ ys) = cond (before y x) (is_in before x ys) (not (before x y))

-- the elements without it
abbrev pub without : {A : Type 0} → (A → A → Bool) → A → List A → List A
without before x [] = []
without before x (y ∷ ys) = cond (before y x) (y ∷ without before x ys) (cond (before x y) (y ∷ ys) ys)

-- how many in front stand before it
abbrev pub place_in : {A : Type 0} → (A → A → Bool) → A → List A → ℕ
place_in before x [] = 0
place_in before x (y ∷ ys) = cond (before y x) (suc (place_in before x ys)) 0

-- its place, if it is there
abbrev pub position_in : {A : Type 0} → (A → A → Bool) → A → List A → Option ℕ
position_in before x xs = cond (is_in before x xs) (Some (place_in before x xs)) None
