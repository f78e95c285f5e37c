-- Rows are found by the names beside them.
use Rattle.std.proofs.Common.{◌≡◌, ℕ, zero, suc, ◌+◌, ◌<◌, ◌≤◌, Bool, true, false, not, cond, Some, None, List, [], ◌∷◌, ◌++◌, length, map, take, drop}
use Rattle.std.proofs.Common.{replicate, slice_get, ◌==◌, nat_lt, refl, sym, ap, ◌∙◌, arith, inl, inr, eq-eqb, position}
use Rattle.std.proofs.lemmas.Bool.{cases_Bool, lt-ltb, le-ltb, ltb-false, ltb-true}
use Rattle.std.proofs.lemmas.List.{take_all, length-map, length-take-le, length-drop}
use Rattle.std.specs.List.{position_or_len}
use Rattle.retro_base.specs.declared.row.Row.{Row}
use Rattle.retro_base.specs.Places.{place_of_row}
use Rattle.order_timeline.specs.Numbers.{name_of}
use Rattle.order_timeline.specs.Runs.{rows_in, start_of, name_for_each, IsNotBefore}

abbrev pub is_name : ℕ → ℕ → Bool
is_name name other = other == name

abbrev pub has_number : ℕ → Row → Bool
has_number number row = row.number == number

pub some_same : {A : Type 0} {x y : A} → Some x ≡ Some y → x ≡ y
some_same same = cc

pub none_not : {A : Type 0} {x : A} → None ≡ Some x → ⊥
none_not same = cc

none_in : (index : ℕ) → start_of [] index ≡ 0
none_in zero = refl
none_in (suc index) = refl

-- the first that passes
module _ {A : Type 0} (passes : A → Bool) where
  pub first_here : (x : A) (xs : List A) → passes x ≡ true → position_or_len passes (x ∷ xs) ≡ 0
  first_here x xs is = ap (λ b. cond (not b) (1 + position_or_len passes xs) 0) is

  pub first_later : (x : A) (xs : List A) → passes x ≡ false → position_or_len passes (x ∷ xs) ≡ 1 + position_or_len passes xs
  first_later x xs fails = ap (λ b. cond (not b) (1 + position_or_len passes xs) 0) fails

  -- no item up to a place passes
  pub not_here : (xs : List A) (place : ℕ) (x : A) → place ≤ position_or_len passes xs → slice_get xs place ≡ Some x → passes x ≡ false → place + 1 ≤ position_or_len passes xs
  not_here [] place x before read fails = cc
  not_here (y ∷ xs) zero x before read fails =
      let same : y ≡ x = cc in omega (arith, first_later y xs (ap passes same ∙ fails))
  not_here (y ∷ xs) (suc place) x before read fails = elim (cases_Bool (passes y)) [
    | inl is ↦ absurd (omega (arith, first_here y xs is))
    | inr fails_first ↦ omega (arith, first_later y xs fails_first, not_here xs place x (omega (arith, first_later y xs fails_first)) read fails)
  ]

  here : (xs : List A) (place : ℕ) (x : A) → place ≤ position_or_len passes xs → slice_get xs place ≡ Some x → passes x ≡ true → (position_or_len passes xs ≡ place) × (place < length xs)
  here [] place x before read is = cc
  here (y ∷ xs) zero x before read is =
      let same : y ≡ x = cc in (first_here y xs (ap passes same ∙ is), omega arith)
  here (y ∷ xs) (suc place) x before read is = elim (cases_Bool (passes y)) [
    | inl is_first ↦ absurd (omega (arith, first_here y xs is_first))
    | inr fails_first ↦
        let rest = here xs place x (omega (arith, first_later y xs fails_first)) read is in
        (omega (arith, first_later y xs fails_first, rest.0), omega (arith, rest.1))
  ]

  pub position_here : (xs : List A) (place : ℕ) (x : A) → place ≤ position_or_len passes xs → slice_get xs place ≡ Some x → passes x ≡ true → position passes xs ≡ Some place
  position_here xs place x before read is =
      let found = here xs place x before read is in
      ap (λ n. cond (nat_lt n (length xs)) (Some n) None) found.0 ∙ ap (λ b. cond b (Some place) None) (lt-ltb place (length xs) found.1)

  pub position_nowhere : (xs : List A) (place : ℕ) → length xs ≤ place → place ≤ position_or_len passes xs → position passes xs ≡ None
  position_nowhere xs place end before =
      ap (λ b. cond b (Some (position_or_len passes xs)) None) (le-ltb (position_or_len passes xs) (length xs) (omega arith))

  pub position_is : (xs : List A) (place : ℕ) → position passes xs ≡ Some place → position_or_len passes xs ≡ place
  position_is xs place is = elim (cases_Bool (nat_lt (position_or_len passes xs) (length xs))) [
    | inl within ↦ some_same (sym (ap (λ b. cond b (Some (position_or_len passes xs)) None) within) ∙ is)
    | inr none ↦ absurd (none_not (sym (ap (λ b. cond b (Some (position_or_len passes xs)) None) none) ∙ is))
  ]

  pub position_none : (xs : List A) → position passes xs ≡ None → length xs ≤ position_or_len passes xs
  position_none xs none = elim (cases_Bool (nat_lt (position_or_len passes xs) (length xs))) [
    | inl within ↦ absurd (none_not (sym none ∙ ap (λ b. cond b (Some (position_or_len passes xs)) None) within))
    | inr beyond ↦ ltb-false (position_or_len passes xs) (length xs) beyond
  ]

  pub position_within : (xs : List A) (place : ℕ) → position passes xs ≡ Some place → place < length xs
  position_within xs place is = elim (cases_Bool (nat_lt (position_or_len passes xs) (length xs))) [
    | inl within ↦ omega (arith, ltb-true (position_or_len passes xs) (length xs) within, position_is xs place is)
    | inr none ↦ absurd (none_not (sym (ap (λ b. cond b (Some (position_or_len passes xs)) None) none) ∙ is))
  ]

  -- where none before a place passes, the first one is the first of those from there on
  from_place : (xs : List A) (place : ℕ) → place ≤ position_or_len passes xs → position_or_len passes xs ≡ place + position_or_len passes (drop place xs)
  from_place xs zero before = omega arith
  from_place [] (suc place) before = absurd (omega arith)
  from_place (x ∷ xs) (suc place) before = elim (cases_Bool (passes x)) [
    | inl is ↦ absurd (omega (arith, first_here x xs is))
    | inr fails ↦ omega (arith, first_later x xs fails, from_place xs place (omega (arith, first_later x xs fails)))
  ]

  -- the first of some is the first of all, where one of them passes
  among : (xs : List A) (count : ℕ) → position_or_len passes (take count xs) < length (take count xs) → position_or_len passes xs ≡ position_or_len passes (take count xs)
  among xs zero some = absurd (omega arith)
  among [] (suc count) some = absurd (omega arith)
  among (x ∷ xs) (suc count) some = elim (cases_Bool (passes x)) [
    | inl is ↦ first_here x xs is ∙ sym (first_here x (take count xs) is)
    | inr fails ↦ omega (arith, first_later x xs fails, first_later x (take count xs) fails, among xs count (omega (arith, first_later x (take count xs) fails)))
  ]

  past_all : (xs : List A) (count : ℕ) → length (take count xs) ≤ position_or_len passes (take count xs) → length (take count xs) ≤ position_or_len passes xs
  past_all xs zero none = omega arith
  past_all [] (suc count) none = omega arith
  past_all (x ∷ xs) (suc count) none = elim (cases_Bool (passes x)) [
    | inl is ↦ absurd (omega (arith, first_here x (take count xs) is))
    | inr fails ↦ omega (arith, first_later x xs fails, first_later x (take count xs) fails, past_all xs count (omega (arith, first_later x (take count xs) fails)))
  ]

shown : (number : ℕ) (rows : List Row) → position_or_len (is_name number) (map (λ (row : Row). row.number) rows) ≡ position_or_len (has_number number) rows
shown number [] = refl
shown number (row ∷ rows) = elim (cases_Bool (row.number == number)) [
  | inl is ↦ first_here (is_name number) row.number (map (λ (r : Row). r.number) rows) is ∙ sym (first_here (has_number number) row rows is)
  | inr fails ↦ omega (arith, first_later (is_name number) row.number (map (λ (r : Row). r.number) rows) fails, first_later (has_number number) row rows fails, shown number rows)
]

-- the numbers of some rows from a place on
abbrev pub numbers_from : List Row → ℕ → ℕ → List ℕ
numbers_from rows place count = map (λ (row : Row). row.number) (take count (drop place rows))

-- a row whose number is among them is found there
pub found_among : (number : ℕ) (rows : List Row) (place count index : ℕ) → IsNotBefore rows place number → count ≤ length (drop place rows)
    → position (is_name number) (numbers_from rows place count) ≡ Some index → place_of_row number rows ≡ Some (place + index)
found_among number rows place count index before few found =
    let some = take count (drop place rows) in
    let here : position_or_len (has_number number) some ≡ index = sym (shown number some) ∙ position_is (is_name number) (numbers_from rows place count) index found in
    let within : index < length some = omega (arith, position_within (is_name number) (numbers_from rows place count) index found, length-map some (λ (row : Row). row.number)) in
    let all = from_place (has_number number) rows place before in
    let first = among (has_number number) (drop place rows) count (omega (arith, here, within)) in
    let end : place + index < length rows = omega (arith, within, length-take-le count (drop place rows) few, few, length-drop place rows) in
    ap (λ n. cond (nat_lt n (length rows)) (Some n) None) (let is : position_or_len (has_number number) rows ≡ place + index = omega (arith, all, first, here) in is)
    ∙ ap (λ b. cond b (Some (place + index)) None) (lt-ltb (place + index) (length rows) end)

-- and where it is not it stands after them
pub none_among : (number : ℕ) (rows : List Row) (place count : ℕ) → IsNotBefore rows place number → count ≤ length (drop place rows)
    → position (is_name number) (numbers_from rows place count) ≡ None → IsNotBefore rows (place + count) number
none_among number rows place count before few none =
    let some = take count (drop place rows) in
    let beyond : length some ≤ position_or_len (has_number number) some =
    omega (arith, position_none (is_name number) (numbers_from rows place count) none, length-map some (λ (row : Row). row.number), shown number some) in
    omega (arith, from_place (has_number number) rows place before, past_all (has_number number) (drop place rows) count beyond, length-take-le count (drop place rows) few)

-- a number without a name is that of no row
pub nowhere : (number : ℕ) (rows : List Row) (names : List ℕ) → length names ≡ length rows → name_of number rows names ≡ None → position_or_len (has_number number) rows ≡ length rows
nowhere number [] names same none = refl
nowhere number (row ∷ rows) [] same none = absurd (omega arith)
nowhere number (row ∷ rows) (name ∷ names) same none = elim (cases_Bool (row.number == number)) [
  | inl equal ↦ absurd (none_not (sym none ∙ ap (λ b. cond b (Some name) (name_of number rows names)) equal))
  | inr unequal ↦
      omega (arith, first_later (has_number number) row rows unequal, nowhere number rows names (omega arith) (sym (ap (λ b. cond b (Some name) (name_of number rows names)) unequal) ∙ none))
]

pub no_place : (number : ℕ) (rows : List Row) (names : List ℕ) → length names ≡ length rows → name_of number rows names ≡ None → place_of_row number rows ≡ None
no_place number rows names same none = position_nowhere (has_number number) rows (length rows) (omega arith) (omega (arith, nowhere number rows names same none))

-- a row stands no earlier than its name
no_earlier : (number name : ℕ) (rows : List Row) (names : List ℕ) → name_of number rows names ≡ Some name → position_or_len (is_name name) names ≤ position_or_len (has_number number) rows
no_earlier number name [] names is = absurd (none_not is)
no_earlier number name (row ∷ rows) [] is = absurd (none_not is)
no_earlier number name (row ∷ rows) (next ∷ names) is = elim (cases_Bool (row.number == number)) [
  | inl equal ↦
      let same : next ≡ name = some_same (sym (ap (λ b. cond b (Some next) (name_of number rows names)) equal) ∙ is) in
      omega (arith, first_here (is_name name) next names (eq-eqb next name same))
  | inr unequal ↦
      let rest = no_earlier number name rows names (sym (ap (λ b. cond b (Some next) (name_of number rows names)) unequal) ∙ is) in
      elim (cases_Bool (next == name)) [
        | inl here_first ↦ omega (arith, first_here (is_name name) next names here_first)
        | inr later ↦ omega (arith, first_later (is_name name) next names later, first_later (has_number number) row rows unequal, rest)
      ]
]

-- a name is that of no row before its run
past_run : (run name next : ℕ) (rest : List ℕ) → (next == name) ≡ false → position_or_len (is_name name) (replicate run next ++ rest) ≡ run + position_or_len (is_name name) rest
past_run zero name next rest differs = omega arith
past_run (suc run) name next rest differs = omega (arith, first_later (is_name name) next (replicate run next ++ rest) differs, past_run run name next rest differs)

run_begins : (name : ℕ) (runs names : List ℕ) → start_of runs (position_or_len (is_name name) names) ≤ position_or_len (is_name name) (name_for_each runs names)
run_begins name [] names = omega (arith, none_in (position_or_len (is_name name) names))
run_begins name (run ∷ runs) [] = omega arith
run_begins name (run ∷ runs) (next ∷ names) = elim (cases_Bool (next == name)) [
  | inl equal ↦ omega (arith, ap (start_of (run ∷ runs)) (first_here (is_name name) next names equal))
  | inr unequal ↦
      let later : position_or_len (is_name name) (next ∷ names) ≡ suc (position_or_len (is_name name) names) = omega (arith, first_later (is_name name) next names unequal) in
      omega (arith, ap (start_of (run ∷ runs)) later, past_run run name next (name_for_each runs names) unequal, run_begins name runs names)
]

-- so the row is looked for from there on
pub not_before_run : (number name run : ℕ) (rows : List Row) (runs names : List ℕ) → name_of number rows (name_for_each runs names) ≡ Some name
    → position (is_name name) names ≡ Some run → IsNotBefore rows (start_of runs run) number
not_before_run number name run rows runs names is found =
    omega (arith, ap (start_of runs) (position_is (is_name name) names run found), run_begins name runs names, no_earlier number name rows (name_for_each runs names) is)

all_runs : (runs : List ℕ) (index : ℕ) → length runs ≤ index → start_of runs index ≡ rows_in runs
all_runs runs index end = ap rows_in (take_all index runs end)

-- a name that no run has is that of no row
pub no_run : (number name : ℕ) (rows : List Row) (runs names : List ℕ) → length names ≡ length runs → rows_in runs ≡ length rows
    → name_of number rows (name_for_each runs names) ≡ Some name → position (is_name name) names ≡ None → place_of_row number rows ≡ None
no_run number name rows runs names each all is none =
    position_nowhere (has_number number) rows (length rows) (omega arith)
    (omega (arith, all_runs runs (position_or_len (is_name name) names) (omega (arith, position_none (is_name name) names none)), run_begins name runs names, no_earlier number name rows (name_for_each runs names) is))
