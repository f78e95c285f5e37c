-- The name of each row, where a row comes, goes, or gets another name.
use Rattle.std.proofs.Common.{◌≡◌, ◌≢◌, ℕ, zero, suc, ◌+◌, cond, Option, Some, None, List, [], ◌∷◌, length, slice_get, set, ◌==◌, if◌then◌else◌, refl, sym, ap, ◌∙◌, subst, arith, inl, inr, eq-eqb, eqb-true}
use Rattle.std.proofs.lemmas.Bool.{cases_Bool, ne_eqb}
use Rattle.std.specs.List.{insert, remove}
use Rattle.retro_base.specs.declared.row.Row.{Row}
use Rattle.retro_base.specs.Timeline.{IsFresh, HaveOwnNumbers}
use Rattle.order_timeline.specs.Numbers.{name_of}

-- a number that no row has
pub none_of : (number : ℕ) (rows : List Row) (names : List ℕ) → IsFresh number rows → name_of number rows names ≡ None
none_of number [] names fresh = refl
none_of number (row ∷ rows) [] fresh = refl
none_of number (row ∷ rows) (name ∷ names) fresh =
    ap (λ b. cond b (Some name) (name_of number rows names)) (ne_eqb row.number number fresh.0) ∙ none_of number rows names fresh.1

-- a row that stands among rows has none of the other numbers
differs : (number : ℕ) (rows : List Row) (place : ℕ) (row : Row) → IsFresh number rows → slice_get rows place ≡ Some row → row.number ≢ number
differs number [] place row fresh read same = cc
differs number (other ∷ rows) zero row fresh read same = let is : other ≡ row = cc in fresh.0 (ap (λ r. r.number) is ∙ same)
differs number (other ∷ rows) (suc place) row fresh read same = differs number rows place row fresh.1 read same

-- two tests of different numbers
apart : (one other number : ℕ) (first second rest : Option ℕ) → one ≢ other
    → cond (one == number) first (cond (other == number) second rest) ≡ cond (other == number) second (cond (one == number) first rest)
apart one other number first second rest differ = elim (cases_Bool (one == number)) [
  | inl is ↦ elim (cases_Bool (other == number)) [
    | inl also ↦ absurd (differ (eqb-true one number is ∙ sym (eqb-true other number also)))
    | inr not_other ↦ simp (is, not_other)
  ]
  | inr not_one ↦ simp not_one
]

-- a row that stands among others, at a name of its own
pub name_with : (number : ℕ) (rows : List Row) (names : List ℕ) (place : ℕ) (row : Row) (name : ℕ) → slice_get rows place ≡ Some row → length names + 1 ≡ length rows → IsFresh row.number (remove rows place)
    → name_of number rows (insert names place name) ≡ (if row.number == number then Some name else name_of number (remove rows place) names)
name_with number [] names place row name read same fresh = cc
name_with number (other ∷ rows) names zero row name read same fresh = let is : other ≡ row = cc in ap (λ r. cond (r.number == number) (Some name) (name_of number rows names)) is
name_with number (other ∷ []) [] (suc place) row name read same fresh = cc
name_with number (other ∷ next ∷ rows) [] (suc place) row name read same fresh = absurd (omega arith)
name_with number (other ∷ rows) (first ∷ names) (suc place) row name read same fresh =
    ap (λ rest. cond (other.number == number) (Some first) rest) (name_with number rows names place row name read (omega arith) fresh.1)
    ∙ apart other.number row.number number (Some first) (Some name) (name_of number (remove rows place) names) fresh.0

-- a row that is taken out with its name
pub name_without : (number : ℕ) (rows : List Row) (names : List ℕ) (place : ℕ) (row : Row) → slice_get rows place ≡ Some row → length names ≡ length rows → HaveOwnNumbers rows
    → name_of number (remove rows place) (remove names place) ≡ (if row.number == number then None else name_of number rows names)
name_without number [] names place row read same own = cc
name_without number (other ∷ rows) [] place row read same own = absurd (omega arith)
name_without number (other ∷ rows) (name ∷ names) zero row read same own =
    let is : other ≡ row = cc in
    subst (λ r. name_of number rows names ≡ cond (r.number == number) None (cond (other.number == number) (Some name) (name_of number rows names))) is
    (elim (cases_Bool (other.number == number)) [
      | inl equal ↦ rw equal (none_of number rows names (subst (λ n. IsFresh n rows) (eqb-true other.number number equal) own.0))
      | inr unequal ↦ rw unequal refl
    ])
name_without number (other ∷ rows) (name ∷ names) (suc place) row read same own =
    ap (λ rest. cond (other.number == number) (Some name) rest) (name_without number rows names place row read (omega arith) own.1)
    ∙ apart other.number row.number number (Some name) None (name_of number rows names) (λ equal. differs other.number rows place row own.0 read (sym equal))

-- another name for a row
pub name_set : (number : ℕ) (rows : List Row) (names : List ℕ) (place : ℕ) (row : Row) (name : ℕ) → slice_get rows place ≡ Some row → length names ≡ length rows → HaveOwnNumbers rows
    → name_of number rows (set names place name) ≡ (if row.number == number then Some name else name_of number rows names)
name_set number [] names place row name read same own = cc
name_set number (other ∷ rows) [] place row name read same own = absurd (omega arith)
name_set number (other ∷ rows) (first ∷ names) zero row name read same own =
    let is : other ≡ row = cc in
    subst (λ r. cond (other.number == number) (Some name) (name_of number rows names) ≡ cond (r.number == number) (Some name) (cond (other.number == number) (Some first) (name_of number rows names))) is
    (elim (cases_Bool (other.number == number)) [
      | inl equal ↦ simp equal
      | inr unequal ↦ simp unequal
    ])
name_set number (other ∷ rows) (first ∷ names) (suc place) row name read same own =
    ap (λ rest. cond (other.number == number) (Some first) rest) (name_set number rows names place row name read (omega arith) own.1)
    ∙ apart other.number row.number number (Some first) (Some name) (name_of number rows names) (λ equal. differs other.number rows place row own.0 read (sym equal))

-- the name of a row that is there
pub name_at : (rows : List Row) (names : List ℕ) (place : ℕ) (row : Row) (name : ℕ) → slice_get rows place ≡ Some row → slice_get names place ≡ Some name → HaveOwnNumbers rows → name_of row.number rows names ≡ Some name
name_at [] names place row name read there own = cc
name_at (other ∷ rows) [] place row name read there own = cc
name_at (other ∷ rows) (first ∷ names) zero row name read there own =
    let is : other ≡ row = cc in
    ap (λ b. cond b (Some first) (name_of row.number rows names)) (eq-eqb other.number row.number (ap (λ r. r.number) is)) ∙ there
name_at (other ∷ rows) (first ∷ names) (suc place) row name read there own =
    ap (λ b. cond b (Some first) (name_of row.number rows names)) (ne_eqb other.number row.number (λ equal. differs other.number rows place row own.0 read (sym equal)))
    ∙ name_at rows names place row name read there own.1
