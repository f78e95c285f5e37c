-- A list whose first elements were changed one after another, as a loop leaves it on its way.
use Rattle.std.proofs.Common.{◌≡◌, ℕ, zero, suc, ◌+◌, ◌<◌, List, [], ◌∷◌, length, take, drop, map, get_or, set, refl, ap, ◌∙◌, arith}
use Rattle.std.specs.List.{AllByRecursion}

abbrev pub map_first : {X : Type 0} → (X → X) → ℕ → List X → List X
map_first f zero xs = xs
map_first f (suc count) [] = []
map_first f (suc count) (x ∷ xs) = f x ∷ map_first f count xs

-- what holds of all holds of each
pub all_of : {X : Type 0} (P : X → Type 0) (xs : List X) (index : ℕ) (x d : X) → AllByRecursion P xs → index < length xs → x ≡ get_or xs index d → P x
all_of P [] index x d all below here = absurd (omega arith)
all_of P (y ∷ ys) zero x d all below here = rw here all.0
all_of P (y ∷ ys) (suc index) x d all below here = all_of P ys index x d all.1 (omega arith) here

pub length-map_first : {X : Type 0} (f : X → X) (count : ℕ) (xs : List X) → length (map_first f count xs) ≡ length xs
length-map_first f zero xs = refl
length-map_first f (suc count) [] = refl
length-map_first f (suc count) (x ∷ xs) = omega (arith, length-map_first f count xs)

-- the next element is as before
pub next_as_before : {X : Type 0} (f : X → X) (count : ℕ) (xs : List X) (d : X) → get_or (map_first f count xs) count d ≡ get_or xs count d
next_as_before f zero xs d = refl
next_as_before f (suc count) [] d = refl
next_as_before f (suc count) (x ∷ xs) d = next_as_before f count xs d

one_more : {X : Type 0} (f : X → X) (count : ℕ) (xs : List X) (d : X) → count < length xs → set (map_first f count xs) count (f (get_or xs count d)) ≡ map_first f (suc count) xs
one_more f zero [] d below = absurd (omega arith)
one_more f zero (x ∷ xs) d below = refl
one_more f (suc count) [] d below = absurd (omega arith)
one_more f (suc count) (x ∷ xs) d below = ap (λ ys. f x ∷ ys) (one_more f count xs d (omega arith))

-- it is changed next
pub next_changed : {X : Type 0} (f : X → X) (count : ℕ) (xs now : List X) (d y : X) → count < length xs → now ≡ map_first f count xs → y ≡ f (get_or now count d)
    → set now count y ≡ map_first f (count + 1) xs
next_changed f count xs now d y below as_is changed =
    let next : suc count ≡ count + 1 = omega arith in
    rw (changed, as_is) (ap (λ z. set (map_first f count xs) count (f z)) (next_as_before f count xs d) ∙ one_more f count xs d below ∙ ap (λ (n : ℕ). map_first f n xs) next)

-- what held of all at first holds of it still
pub next_has : {X : Type 0} (P : X → Type 0) (f : X → X) (count : ℕ) (xs now : List X) (d : X) → AllByRecursion P xs → count < length xs → now ≡ map_first f count xs
    → P (get_or now count d)
next_has P f count xs now d all below as_is = rw (as_is, next_as_before f count xs d) (all_of P xs count _ d all below refl)

all_changed_by : {X : Type 0} (f : X → X) (count : ℕ) (xs : List X) → length xs ≡ count → map_first f count xs ≡ map f xs
all_changed_by f zero [] e = refl
all_changed_by f zero (x ∷ xs) e = absurd (omega arith)
all_changed_by f (suc count) [] e = refl
all_changed_by f (suc count) (x ∷ xs) e = ap (λ ys. f x ∷ ys) (all_changed_by f count xs (omega arith))

-- at the end all were changed
pub all_changed : {X : Type 0} (f : X → X) (count : ℕ) (xs now : List X) → now ≡ map_first f count xs → length now ≡ count → now ≡ map f xs
all_changed f count xs now as_is all = as_is ∙ all_changed_by f count xs (omega (arith, length-map_first f count xs, ap (λ l. length l) as_is))

-- the changed ones and the others
pub first_changed : {X : Type 0} (f : X → X) (count : ℕ) (xs : List X) → take count (map_first f count xs) ≡ map f (take count xs)
first_changed f zero xs = refl
first_changed f (suc count) [] = refl
first_changed f (suc count) (x ∷ xs) = ap (λ ys. f x ∷ ys) (first_changed f count xs)

pub others_as_before : {X : Type 0} (f : X → X) (count : ℕ) (xs : List X) → drop count (map_first f count xs) ≡ drop count xs
others_as_before f zero xs = refl
others_as_before f (suc count) [] = refl
others_as_before f (suc count) (x ∷ xs) = others_as_before f count xs

-- an element put where it stands
pub set_here : {X : Type 0} (xs : List X) (index : ℕ) (d y : X) → y ≡ get_or xs index d → set xs index y ≡ xs
set_here [] index d y here = refl
set_here (x ∷ xs) zero d y here = ap (λ z. z ∷ xs) here
set_here (x ∷ xs) (suc index) d y here = ap (λ zs. x ∷ zs) (set_here xs index d y here)

-- where the next element stayed as it was, the ones before it and the others are known
pub changed_before : {X : Type 0} (f : X → X) (count : ℕ) (xs now front : List X) (d y : X) → now ≡ map_first f count xs → y ≡ get_or now count d
    → front ≡ take count (set now count y) → front ≡ map f (take count xs)
changed_before f count xs now front d y as_is stays parts =
    parts ∙ ap (λ l. take count l) (set_here now count d y stays ∙ as_is) ∙ first_changed f count xs

pub unchanged_from : {X : Type 0} (f : X → X) (count : ℕ) (xs now back : List X) (d y : X) → now ≡ map_first f count xs → y ≡ get_or now count d
    → back ≡ drop count (set now count y) → back ≡ drop count xs
unchanged_from f count xs now back d y as_is stays parts =
    parts ∙ ap (λ l. drop count l) (set_here now count d y stays ∙ as_is) ∙ others_as_before f count xs
