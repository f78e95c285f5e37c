-- The part that holds a row, and what an edit of it is of all rows.
use Rattle.std.proofs.Common.{◌≡◌, ℕ, zero, suc, ◌+◌, ◌-◌, ◌<◌, ◌≤◌, Bool, List, [], ◌∷◌, ◌++◌, length, take, drop, set, get_or, refl, sym, ap, ◌∙◌, arith, Some, Result, Ok, Err}
use Rattle.std.specs.Prelude.{slice_get, insert, remove, OnErr}
use Rattle.std.specs.List.{flat_map}
use Rattle.std.proofs.lemmas.List.{append-nil}
use Rattle.std.proofs.lemmas.List.Edits.{insert-append_left, insert-append_right, remove-append_left, remove-append_right}
use Rattle.std.proofs.lemmas.Option.{get_or_from_slice_get, slice_get_within}
use Rattle.evidence_check.specs.declared.weighed_row.WeighedRow.{WeighedRow}
use Rattle.evidence_check.specs.declared.search.Held.{Held}
use Rattle.evidence_check.specs.Parts.{Holds, marked_at}
use Rattle.evidence_check.proofs.Flat.{flat_around, flat_more, flat_set, flat_without, mark_first, mark_second}
use Rattle.evidence_check.proofs.Walks.{fits, row_there, small, there}

remove_only : (rows : List WeighedRow) (place : ℕ) → length rows ≡ 1 → place < length rows → remove rows place ≡ []
remove_only [] place one within = absurd (let none : ⊥ = omega arith in none)
remove_only (row ∷ []) zero one within = refl
remove_only (row ∷ []) (suc place) one within = absurd (let none : ⊥ = omega arith in none)
remove_only (row ∷ (other ∷ rows)) place one within = absurd (let none : ⊥ = omega arith in none)

pub on_err : {X E : Type 0} (result : Result X E) (P : Type 0) → P → OnErr result P
on_err (Ok x) P is = tt
on_err (Err e) P is = is

pub some_first : {P : Type 0} (parts : List P) → 0 < length parts → (part : P) × (slice_get parts 0 ≡ Some part)
some_first [] some = absurd (let none : ⊥ = omega arith in none)
some_first (part ∷ parts) some = (part, refl)

module _ {P : Type 0} (f : P → List WeighedRow) (parts : List P) (least place : ℕ) (held : Held) (holds : Holds f parts least place held) (part : P) (is : part ≡ get_or parts held.index part) where
  pub held_within : held.index < length parts
  held_within = slice_get_within parts held.index holds.part holds.there

  held_there : slice_get parts held.index ≡ Some part
  held_there = there f parts held.index part held_within is

  pub held_to : place + least ≤ held.before + length (f part)
  held_to =
      let held_is : holds.part ≡ part = sym (get_or_from_slice_get parts held.index holds.part part holds.there) ∙ sym is in
      let to = holds.to in let same : length (f holds.part) ≡ length (f part) = ap (λ p. length (f p)) held_is in omega (arith, to, same)

  pub held_small : (most : ℕ) → length (flat_map f parts) ≤ most → length (f part) ≤ most
  held_small most few = small f parts held.index part held_within is most few

  pub held_less : (most : ℕ) → length (flat_map f parts) < most → length (f part) < most
  held_less most few = let less = fits f parts held.index part held_within is in omega (arith, less, few)

  pub held_row : 1 ≤ least → slice_get (f part) (place - held.before) ≡ slice_get (flat_map f parts) place
  held_row some = row_there f parts held.index part held_within is place held.before holds.before holds.from (omega (arith, held_to, some))

  -- an edit that changes the rows of the part alone
  held_edit : (edit : List WeighedRow → ℕ → List WeighedRow) → ((xs ys : List WeighedRow) (k : ℕ) → k + least ≤ length xs → edit (xs ++ ys) k ≡ edit xs k ++ ys)
      → ((xs ys : List WeighedRow) (n k : ℕ) → length xs ≡ n → n ≤ k → edit (xs ++ ys) k ≡ xs ++ edit ys (k - n)) → (new : List WeighedRow) (after : List P) → new ≡ edit (f part) (place - held.before)
      → flat_map f after ≡ flat_map f (take held.index parts) ++ (new ++ flat_map f (drop (suc held.index) parts)) → flat_map f after ≡ edit (flat_map f parts) place
  held_edit edit in_first in_second new after edits around =
      let first = flat_map f (take held.index parts) in
      let rest = flat_map f (drop (suc held.index) parts) in
      around ∙ ap (λ l. first ++ (l ++ rest)) edits
      ∙ ap (λ more. first ++ more) (sym (in_first (f part) rest (place - held.before) (omega (arith, held_to, holds.from))))
      ∙ sym (in_second first (f part ++ rest) held.before place (sym holds.before) holds.from)
      ∙ ap (λ l. edit l place) (sym (flat_around f parts held.index part held_there))

  pub held_mark : 1 ≤ least → (new : P) (alive : Bool) → f new ≡ marked_at (place - held.before) alive (f part) → flat_map f (set parts held.index new) ≡ marked_at place alive (flat_map f parts)
  held_mark some new alive marks =
      held_edit (λ l k. marked_at k alive l) (λ xs ys k within. mark_first xs ys k alive (omega (arith, some, within))) (λ xs ys n k. mark_second xs ys n k alive) (f new) _ marks
      (flat_set f parts held.index part new held_there)

  pub held_remove : 1 ≤ least → (new : P) → f new ≡ remove (f part) (place - held.before) → flat_map f (set parts held.index new) ≡ remove (flat_map f parts) place
  held_remove some new removes =
      held_edit remove (λ xs ys k within. remove-append_left xs ys k (omega (arith, some, within))) remove-append_right (f new) _ removes (flat_set f parts held.index part new held_there)

  pub held_gone : 1 ≤ least → length (f part) ≡ 1 → flat_map f (remove parts held.index) ≡ remove (flat_map f parts) place
  held_gone some one =
      held_edit remove (λ xs ys k within. remove-append_left xs ys k (omega (arith, some, within))) remove-append_right [] _
      (sym (remove_only (f part) (place - held.before) one (omega (arith, held_to, holds.from, some)))) (flat_without f parts held.index part held_there)

  -- all fits that is put in, or there is a rest
  pub goes_in : (new : P) (row : WeighedRow) → f new ++ [] ≡ insert (f part) (place - held.before) row → flat_map f (set parts held.index new) ≡ insert (flat_map f parts) place row
  goes_in new row inserts =
      held_edit (λ l k. insert l k row) (λ xs ys k within. insert-append_left xs ys k row (omega (arith, within))) (λ xs ys n k. insert-append_right xs ys n k row) (f new) _
      (sym (append-nil (f new)) ∙ inserts) (flat_set f parts held.index part new held_there)

  pub goes_with_rest : (new rest : P) (row : WeighedRow) (after : ℕ) → after ≡ held.index + 1 → f new ++ f rest ≡ insert (f part) (place - held.before) row
      → flat_map f (insert (set parts held.index new) after rest) ≡ insert (flat_map f parts) place row
  goes_with_rest new rest row after is_after inserts =
      held_edit (λ l k. insert l k row) (λ xs ys k within. insert-append_left xs ys k row (omega (arith, within))) (λ xs ys n k. insert-append_right xs ys n k row) (f new ++ f rest) _ inserts
      (ap (λ n. flat_map f (insert (set parts held.index new) n rest)) (let one : after ≡ suc held.index = omega (arith, is_after) in one) ∙ flat_more f parts held.index part new rest held_there)

  pub stays : (new : P) → f new ≡ f part → flat_map f (set parts held.index new) ≡ flat_map f parts
  stays new same =
      flat_set f parts held.index part new held_there
      ∙ ap (λ l. flat_map f (take held.index parts) ++ (l ++ flat_map f (drop (suc held.index) parts))) same ∙ sym (flat_around f parts held.index part held_there)
