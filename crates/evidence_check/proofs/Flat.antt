-- Lists that are made of the lists of parts, and edits of one of these.
use Rattle.std.proofs.Common.{◌≡◌, ℕ, zero, suc, ◌+◌, ◌-◌, ◌<◌, ◌≤◌, Bool, List, [], ◌∷◌, ◌++◌, length, take, drop, set, refl, sym, ap, ◌∙◌, arith, Option, Some, None}
use Rattle.std.proofs.Common.{append_assoc, length-append}
use Rattle.std.specs.Prelude.{slice_get, insert, remove, MatchOption}
use Rattle.std.specs.List.{flat_map}
use Rattle.std.proofs.lemmas.List.{append-nil}
use Rattle.std.proofs.lemmas.List.Concat.{flat_map-append}
use Rattle.evidence_check.specs.declared.weighed_row.WeighedRow.{WeighedRow}
use Rattle.evidence_check.specs.Parts.{marked_at}

module _ {P A : Type 0} (f : P → List A) where
  -- the list around one part
  pub flat_around : (parts : List P) (index : ℕ) (part : P) → slice_get parts index ≡ Some part
      → flat_map f parts ≡ flat_map f (take index parts) ++ (f part ++ flat_map f (drop (suc index) parts))
  flat_around [] index part there = absurd (cc)
  flat_around (first ∷ others) zero part there = let same : first ≡ part = cc in rw same refl
  flat_around (first ∷ others) (suc index) part there =
      ap (λ rest. f first ++ rest) (flat_around others index part there)
      ∙ sym (append_assoc (f first) (flat_map f (take index others)) (f part ++ flat_map f (drop (suc index) others)))

  -- the same where another part stands there
  pub flat_set : (parts : List P) (index : ℕ) (part new : P) → slice_get parts index ≡ Some part
      → flat_map f (set parts index new) ≡ flat_map f (take index parts) ++ (f new ++ flat_map f (drop (suc index) parts))
  flat_set [] index part new there = absurd (cc)
  flat_set (first ∷ others) zero part new there = refl
  flat_set (first ∷ others) (suc index) part new there =
      ap (λ rest. f first ++ rest) (flat_set others index part new there)
      ∙ sym (append_assoc (f first) (flat_map f (take index others)) (f new ++ flat_map f (drop (suc index) others)))

  -- and one more after it
  pub flat_more : (parts : List P) (index : ℕ) (part new rest : P) → slice_get parts index ≡ Some part
      → flat_map f (insert (set parts index new) (suc index) rest) ≡ flat_map f (take index parts) ++ ((f new ++ f rest) ++ flat_map f (drop (suc index) parts))
  flat_more [] index part new rest there = absurd (cc)
  flat_more (first ∷ others) zero part new rest there = sym (append_assoc (f new) (f rest) (flat_map f others))
  flat_more (first ∷ others) (suc index) part new rest there =
      ap (λ more. f first ++ more) (flat_more others index part new rest there)
      ∙ sym (append_assoc (f first) (flat_map f (take index others)) ((f new ++ f rest) ++ flat_map f (drop (suc index) others)))

  -- or none
  pub flat_without : (parts : List P) (index : ℕ) (part : P) → slice_get parts index ≡ Some part
      → flat_map f (remove parts index) ≡ flat_map f (take index parts) ++ flat_map f (drop (suc index) parts)
  flat_without [] index part there = absurd (cc)
  flat_without (first ∷ others) zero part there = refl
  flat_without (first ∷ others) (suc index) part there =
      ap (λ rest. f first ++ rest) (flat_without others index part there)
      ∙ sym (append_assoc (f first) (flat_map f (take index others)) (flat_map f (drop (suc index) others)))

  -- the first parts and one more
  pub flat_next : (parts : List P) (index : ℕ) (part : P) → slice_get parts index ≡ Some part
      → flat_map f (take (suc index) parts) ≡ flat_map f (take index parts) ++ f part
  flat_next [] index part there = absurd (cc)
  flat_next (first ∷ others) zero part there = let same : first ≡ part = cc in rw same (append-nil (f part))
  flat_next (first ∷ others) (suc index) part there =
      ap (λ rest. f first ++ rest) (flat_next others index part there) ∙ sym (append_assoc (f first) (flat_map f (take index others)) (f part))

-- numbers that do not compute
past_none : (k : ℕ) → 0 + k ≡ k
past_none k = omega arith

past_one : (n k : ℕ) → suc n + k ≡ suc (n + k)
past_one n k = omega arith

less_none : (k : ℕ) → k - 0 ≡ k
less_none k = omega arith

less_one : (k n : ℕ) → suc k - suc n ≡ k - n
less_one k n = omega arith

nothing_less : (n : ℕ) → 0 - n ≡ 0
nothing_less n = omega arith

module _ {A : Type 0} where
  -- an element of two lists joined
  pub get_second : (xs ys : List A) (k : ℕ) → slice_get (xs ++ ys) (length xs + k) ≡ slice_get ys k
  get_second [] ys k = ap (slice_get ys) (past_none k)
  get_second (x ∷ xs) ys k = ap (slice_get (x ∷ (xs ++ ys))) (past_one (length xs) k) ∙ get_second xs ys k

  pub get_first : (xs ys : List A) (k : ℕ) → k < length xs → slice_get (xs ++ ys) k ≡ slice_get xs k
  get_first [] ys k within = absurd (let none : ⊥ = omega arith in none)
  get_first (x ∷ xs) ys zero within = refl
  get_first (x ∷ xs) ys (suc k) within = get_first xs ys k (omega arith)

  -- the first elements of two lists joined, and the others
  no_elements : (to : ℕ) → take to (let none : List A = [] in none) ≡ []
  no_elements zero = refl
  no_elements (suc to) = refl

  none_left : (from : ℕ) → drop from (let none : List A = [] in none) ≡ []
  none_left zero = refl
  none_left (suc from) = refl

  pub take-join : (to : ℕ) (xs ys : List A) → take to (xs ++ ys) ≡ take to xs ++ take (to - length xs) ys
  take-join to [] ys = ap (λ n. take n ys) (sym (less_none to)) ∙ ap (λ first. first ++ take (to - 0) ys) (sym (no_elements to))
  take-join zero (x ∷ xs) ys = ap (λ n. take n ys) (sym (nothing_less (suc (length xs))))
  take-join (suc to) (x ∷ xs) ys = ap (λ more. x ∷ more) (take-join to xs ys ∙ ap (λ n. take to xs ++ take n ys) (sym (less_one to (length xs))))

  pub drop-join : (from : ℕ) (xs ys : List A) → drop from (xs ++ ys) ≡ drop from xs ++ drop (from - length xs) ys
  drop-join from [] ys = ap (λ n. drop n ys) (sym (less_none from)) ∙ ap (λ first. first ++ drop (from - 0) ys) (sym (none_left from))
  drop-join zero (x ∷ xs) ys = ap (λ n. (x ∷ xs) ++ drop n ys) (sym (nothing_less (suc (length xs))))
  drop-join (suc from) (x ∷ xs) ys = drop-join from xs ys ∙ ap (λ n. drop from xs ++ drop n ys) (sym (less_one from (length xs)))

-- a mark within one of two lists
pub mark_first : (xs ys : List WeighedRow) (k : ℕ) (alive : Bool) → k < length xs → marked_at k alive (xs ++ ys) ≡ marked_at k alive xs ++ ys
mark_first [] ys k alive within = absurd (let none : ⊥ = omega arith in none)
mark_first (x ∷ xs) ys zero alive within = refl
mark_first (x ∷ xs) ys (suc k) alive within = ap (λ more. x ∷ more) (mark_first xs ys k alive (omega arith))

pub mark_second : (xs ys : List WeighedRow) (n k : ℕ) (alive : Bool) → length xs ≡ n → n ≤ k → marked_at k alive (xs ++ ys) ≡ xs ++ marked_at (k - n) alive ys
mark_second [] ys n k alive long up = ap (λ at. marked_at at alive ys) (let same : k ≡ k - n = omega (arith, long) in same)
mark_second (x ∷ xs) ys n zero alive long up = absurd (let none : ⊥ = omega (arith, long) in none)
mark_second (x ∷ xs) ys n (suc k) alive long up =
    ap (λ more. x ∷ more) (mark_second xs ys (length xs) k alive refl (omega (arith, long)) ∙ ap (λ at. xs ++ marked_at at alive ys) (let same : k - length xs ≡ suc k - n = omega (arith, long) in same))

pub length_marked : (place : ℕ) (alive : Bool) (xs : List WeighedRow) → length (marked_at place alive xs) ≡ length xs
length_marked place alive [] = refl
length_marked zero alive (x ∷ xs) = refl
length_marked (suc place) alive (x ∷ xs) = ap (λ n. suc n) (length_marked place alive xs)

-- parts of which the later ones were taken out
pub part_shorter : {P V : Type 0} (f : P → List WeighedRow) (items : V → List P) (rest : Option V) (old new : List P) → MatchOption rest (new ≡ old) (λ r. new ++ items r ≡ old)
    → length (flat_map f new) ≤ length (flat_map f old)
part_shorter f items None old new same = let equal = ap (λ l. length (flat_map f l)) same in omega (arith, equal)
part_shorter f items (Some r) old new joined =
    let whole : length (flat_map f old) ≡ length (flat_map f new) + length (flat_map f (items r)) =
    ap (λ l. length (flat_map f l)) (sym joined) ∙ ap length (flat_map-append f new (items r)) ∙ length-append (flat_map f new) (flat_map f (items r)) in
    omega (arith, whole)

pub rest_shorter : {P : Type 0} (f : P → List WeighedRow) (old new rest : List P) → new ++ rest ≡ old → length (flat_map f rest) ≤ length (flat_map f old)
rest_shorter f old new rest joined =
    let whole : length (flat_map f old) ≡ length (flat_map f new) + length (flat_map f rest) =
    ap (λ l. length (flat_map f l)) (sym joined) ∙ ap length (flat_map-append f new rest) ∙ length-append (flat_map f new) (flat_map f rest) in
    omega (arith, whole)
