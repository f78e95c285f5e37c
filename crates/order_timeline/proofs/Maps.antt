-- What the table of names keeps.
use Rattle.std.proofs.Common.{◌≡◌, ℕ, zero, suc, ◌+◌, ◌-◌, ◌<◌, ◌≤◌, cond, Option, Some, None, IsSome, List, [], ◌∷◌, ◌++◌, length}
use Rattle.std.proofs.Common.{slice_get, get_or, set, take, drop, replicate, ◌==◌, refl, sym, ap, ◌∙◌, subst, arith, inl, inr, eqb-true}
use Rattle.std.proofs.lemmas.Bool.{cases_Bool}
use Rattle.std.proofs.lemmas.List.{drop_more, set_at, length-append, length-take-le, length-replicate, append_assoc, append-nil, replicate_more, take-append-drop, length-set}
use Rattle.std.proofs.lemmas.List.Edits.{length-insert, length-remove}
use Rattle.std.specs.List.{insert, remove}
use Rattle.retro_base.specs.declared.row.Row.{Row}
use Rattle.retro_base.specs.Timeline.{IsFresh, HaveOwnNumbers}
use Rattle.order_timeline.specs.Numbers.{IsNamed, Pages, name_in, written, Changes, Writes, IsSame}
use Rattle.order_timeline.proofs.Named.{none_of, name_with, name_without, name_set, name_at}
use Rattle.std.proofs.lemmas.Option.{slice_get_within}

-- the last change of a number counts
pub twice : (first second third : Pages) (number : ℕ) (one other : Option ℕ) → Changes first second number one → Changes second third number other → Changes first third number other
twice first second third number one other before after = λ n. after n ∙ elim (cases_Bool (number == n)) [
  | inl is ↦ simp is
  | inr unequal ↦ rw unequal (before n ∙ ap (λ b. cond b one (name_in first n)) unequal)
]

-- a row that was put in has its name
pub named_with : (rows : List Row) (names : List ℕ) (before after : Pages) (place : ℕ) (row : Row) (name : ℕ) → slice_get rows place ≡ Some row
    → IsFresh row.number (remove rows place) → IsNamed (remove rows place) names before → Writes before after row.number name → IsNamed rows (insert names place name) after
named_with rows names before after place row name read fresh others writes =
    let within = slice_get_within rows place row read in
    let same : length names + 1 ≡ length rows = omega (arith, others.as_many, length-remove rows place within) in
    record {
      as_many = omega (arith, length-insert names place name (omega arith));
      filed = λ number. writes number ∙ ap (λ rest. cond (row.number == number) (Some name) rest) (others.filed number) ∙ sym (name_with number rows names place row name read same fresh);
    }

-- the others keep theirs where it was taken out again
pub named_again : (rows : List Row) (names : List ℕ) (before after : Pages) (number : ℕ) → IsFresh number rows → IsNamed rows names before → Changes before after number None → IsNamed rows names after
named_again rows names before after number fresh others changes = record {
  as_many = others.as_many;
  filed = λ other. changes other ∙ elim (cases_Bool (number == other)) [
    | inl is ↦ rw is (sym (none_of other rows names (subst (λ n. IsFresh n rows) (eqb-true number other is) fresh)))
    | inr unequal ↦ rw unequal (others.filed other)
  ];
}

pub named_same : (rows : List Row) (names : List ℕ) (before after : Pages) → IsNamed rows names before → IsSame before after → IsNamed rows names after
named_same rows names before after named same = record { as_many = named.as_many; filed = λ number. same number ∙ named.filed number }

-- a row less
pub named_without : (rows : List Row) (names : List ℕ) (before after : Pages) (place : ℕ) (row : Row) → slice_get rows place ≡ Some row → place < length rows → HaveOwnNumbers rows
    → IsNamed rows names before → Changes before after row.number None → IsNamed (remove rows place) (remove names place) after
named_without rows names before after place row read within own named changes = record {
  as_many = omega (arith, length-remove names place (omega (arith, named.as_many)), length-remove rows place within, named.as_many);
  filed = λ number. changes number ∙ ap (λ rest. cond (row.number == number) None rest) (named.filed number) ∙ sym (name_without number rows names place row read named.as_many own);
}

read_there : (xs : List ℕ) (place : ℕ) → place < length xs → (x : ℕ) × (slice_get xs place ≡ Some x)
read_there [] place within = absurd (omega arith)
read_there (x ∷ xs) zero within = (x, refl)
read_there (x ∷ xs) (suc place) within = read_there xs place (omega arith)

-- a row's number is there
pub number_there : (place : ℕ) (rows : List Row) (names : List ℕ) (numbers : Pages) (row : Row) → HaveOwnNumbers rows → IsNamed rows names numbers
    → slice_get rows place ≡ Some row → IsSome (name_in numbers row.number)
number_there place rows names numbers row own named read =
    let there = read_there names place (omega (arith, slice_get_within rows place row read, named.as_many)) in
    subst IsSome (sym (named.filed row.number ∙ name_at rows names place row there.0 read there.1 own)) refl

set_written : (names : List ℕ) (from count name : ℕ) → from + count < length names → set (written names from count name) (from + count) name ≡ written names from (count + 1) name
set_written names from count name within =
    let front = take from names ++ replicate count name in
    let rest = drop (from + (count + 1)) names in
    ap (λ xs. set (front ++ xs) (from + count) name) (drop_more names (from + count) 0 within
    ∙ ap (λ n. get_or names (from + count) 0 ∷ drop n names) (let same : from + count + 1 ≡ from + (count + 1) = omega arith in same))
    ∙ set_at front (get_or names (from + count) 0) rest name (from + count) (omega (arith, length-append (take from names) (replicate count name), length-take-le from names (omega arith), length-replicate count name))
    ∙ sym (append_assoc front (name ∷ []) rest)
    ∙ ap (λ xs. xs ++ rest) (append_assoc (take from names) (replicate count name) (name ∷ []) ∙ ap (λ xs. take from names ++ xs) (replicate_more count name))

-- one row more has the name
pub written_more : (rows : List Row) (names : List ℕ) (before after : Pages) (from place name : ℕ) (row : Row) → HaveOwnNumbers rows → from ≤ place → slice_get rows place ≡ Some row
    → IsNamed rows (written names from (place - from) name) before → length names ≡ length rows → Writes before after row.number name → IsNamed rows (written names from (place + 1 - from) name) after
written_more rows names before after from place name row own order read named long writes =
    let count = place - from in
    let within : from + count < length names = omega (arith, slice_get_within rows place row read) in
    let partly = written names from count name in
    let same : set partly place name ≡ written names from (place + 1 - from) name =
    ap (λ n. set partly n name) (let here : place ≡ from + count = omega arith in here) ∙ set_written names from count name within
    ∙ ap (λ n. written names from n name) (let more : count + 1 ≡ place + 1 - from = omega arith in more) in
    subst (λ xs. IsNamed rows xs after) same (record {
      as_many = omega (arith, length-set partly place name, named.as_many);
      filed = λ number. writes number ∙ ap (λ rest. cond (row.number == number) (Some name) rest) (named.filed number) ∙ sym (name_set number rows partly place row name read named.as_many own);
    })

pub written_none : (names : List ℕ) (from name : ℕ) → written names from (from - from) name ≡ names
written_none names from name =
    ap (λ n. written names from n name) (let none : from - from ≡ 0 = omega arith in none)
    ∙ ap (λ xs. xs ++ drop (from + 0) names) (append-nil (take from names))
    ∙ ap (λ n. take from names ++ drop n names) (let same : from + 0 ≡ from = omega arith in same)
    ∙ take-append-drop from names
