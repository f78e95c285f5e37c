-- What a table in pages has at a number.
use Rattle.std.proofs.Common.{◌≡◌, ℕ, zero, suc, ◌/◌, ◌%◌, ◌<◌, ◌≤◌, true, cond, Option, Some, None, IsSome, List, [], ◌∷◌, ◌++◌, length, inl}
use Rattle.std.proofs.Common.{get_or, set, replicate, ◌==◌, false, refl, sym, ap, ◌∙◌, subst, arith, inl, inr, eqb-true}
use Rattle.std.proofs.lemmas.Bool.{cases_Bool, eqb-false, ne_eqb}
use Rattle.std.proofs.lemmas.Bool.Decides.{eqb_tells}
use Rattle.std.proofs.lemmas.List.{get_or-set_same, get_or-set_other, length-replicate}
use Rattle.std.proofs.lemmas.Nat.{div-add-mod'}
use Rattle.std.specs.List.{list_all}
use Rattle.std.specs.Option.{is_none}
use Rattle.order_timeline.specs.Runs.{RepresentsRows}
use Rattle.order_timeline.specs.Numbers.{Pages, span, IsPage, page_of, name_in, HasPlace, PageChanges, Changes, IsSame}

-- one page more that has nothing
blank : (pages : Pages) (index : ℕ) → get_or (pages ++ [] ∷ []) index [] ≡ get_or pages index []
blank [] zero = refl
blank [] (suc zero) = refl
blank [] (suc (suc index)) = refl
blank (page ∷ pages) zero = refl
blank (page ∷ pages) (suc index) = blank pages index

pub more_pages : (pages : Pages) → IsSame pages (pages ++ [] ∷ [])
unfolding name_in
more_pages pages number = ap (λ page. get_or page (number % span) None) (blank pages (number / span))

-- a number that has a name has a place
within_page : (page : List (Option ℕ)) (place : ℕ) → IsSome (get_or page place None) → place < length page
within_page [] place some = cc
within_page (name ∷ page) zero some = omega arith
within_page (name ∷ page) (suc place) some = omega (arith, within_page page place some)

within_pages : (pages : Pages) (index place : ℕ) → place < length (get_or pages index []) → index < length pages
within_pages [] index place within = absurd (omega arith)
within_pages (page ∷ pages) zero place within = omega arith
within_pages (page ∷ pages) (suc index) place within = omega (arith, within_pages pages index place within)

pub has_place : (pages : Pages) (number : ℕ) → IsSome (name_in pages number) → HasPlace pages number
unfolding name_in
has_place pages number some =
    let place = within_page (page_of pages number) (number % span) some in
    record { page = within_pages pages (number / span) (number % span) place; place = place }

test_same : (a b : ℕ) → a ≡ b → (a == b) ≡ true
test_same a b same = elim (eqb_tells a b) [ inl tells ↦ tells.0 | inr tells ↦ absurd (tells.1 same) ]

-- a name that is written at a place of a page, or taken out there
pub page_with : (names : List (Option ℕ)) (place : ℕ) (entry : Option ℕ) → place < length names → PageChanges names (set names place entry) place entry
page_with names place entry within other = elim (cases_Bool (place == other)) [
  | inl is ↦
      let same : place ≡ other = eqb-true place other is in
      subst (λ n. get_or (set names place entry) n None ≡ cond (place == n) entry (get_or names n None)) same
      (get_or-set_same names place entry None within ∙ sym (ap (λ b. cond b entry (get_or names place None)) (test_same place place refl)))
  | inr unequal ↦
      get_or-set_other names place other entry None (λ same. eqb-false place other unequal (sym same)) ∙ sym (ap (λ b. cond b entry (get_or names other None)) unequal)
]

-- then the page has a name
pub has_name : (names : List (Option ℕ)) (place name : ℕ) → place < length names → list_all is_none (set names place (Some name)) ≡ false
has_name [] place name within = absurd (omega arith)
has_name (other ∷ names) zero name within = refl
has_name (None ∷ names) (suc place) name within = has_name names place name (omega arith)
has_name (Some other ∷ names) (suc place) name within = refl

-- a page in which there is a place has room for each name
pub full_where : (capacity : ℕ) (names : List (Option ℕ)) (place : ℕ) → IsPage capacity names → place < length names → length names ≡ span
full_where capacity names place is within = elim is [ inl none ↦ absurd (omega (arith, ap length none.1)) | inr full ↦ full.0 ]

-- so it has where it has any
pub full_some : (capacity : ℕ) (names : List (Option ℕ)) → IsPage capacity names → 0 < length names → length names ≡ span
full_some capacity names is some = full_where capacity names 0 is some

-- and it has none where it has no room
pub empty_where : (capacity : ℕ) (names : List (Option ℕ)) → IsPage capacity names → length names ≡ 0 → names ≡ []
empty_where capacity names is none = elim is [ inl without ↦ without.1 | inr full ↦ absurd (omega (arith, full.0, none)) ]

-- a page without a name
blank_page : (page : List (Option ℕ)) → list_all is_none page ≡ true → (place : ℕ) → get_or page place None ≡ None
blank_page [] all place = refl
blank_page (None ∷ page) all zero = refl
blank_page (None ∷ page) all (suc place) = blank_page page all place
blank_page (Some name ∷ page) all place = cc

-- the last name of a page is taken out, and the page let go
pub page_gone : (names : List (Option ℕ)) (place : ℕ) → place < length names → list_all is_none (set names place None) ≡ true → PageChanges names [] place None
page_gone names place within blank other = sym (blank_page (set names place None) blank other) ∙ page_with names place None within other

-- the first name of a page that had none
no_names : (n place : ℕ) → get_or {A = Option ℕ} (replicate n None) place None ≡ None
no_names zero place = refl
no_names (suc n) zero = refl
no_names (suc n) (suc place) = no_names n place

pub page_begun : (place : ℕ) (entry : Option ℕ) → place < span → PageChanges [] (set (replicate span None) place entry) place entry
page_begun place entry within other =
    page_with (replicate span None) place entry (omega (arith, length-replicate {A = Option ℕ} span None)) other
    ∙ ap (cond (place == other) entry) (no_names span other)

same_places : (number other : ℕ) → other / span ≡ number / span → (number % span == other % span) ≡ (number == other)
same_places number other here = elim (eqb_tells (number % span) (other % span)) [
  | inl tells ↦ tells.0 ∙ sym (test_same number other (omega (arith, div-add-mod' number span, div-add-mod' other span, here, tells.1)))
  | inr tells ↦ tells.0 ∙ sym (ne_eqb number other (λ same. tells.1 (ap (λ n. n % span) same)))
]

-- the page of a number changes there
changed_there : (pages : Pages) (number other : ℕ) (entry : Option ℕ) (new : List (Option ℕ)) → number / span < length pages
    → PageChanges (page_of pages number) new (number % span) entry → name_in (set pages (number / span) new) other ≡ cond (number == other) entry (name_in pages other)
unfolding name_in
changed_there pages number other entry new within changes = elim (cases_Bool (other / span == number / span)) [
  | inl same ↦
      let here : other / span ≡ number / span = eqb-true (other / span) (number / span) same in
      ap (λ n. get_or (get_or (set pages (number / span) new) n []) (other % span) None) here
      ∙ ap (λ p. get_or p (other % span) None) (get_or-set_same pages (number / span) new [] within)
      ∙ changes (other % span)
      ∙ ap (λ b. cond b entry (get_or (page_of pages number) (other % span) None)) (same_places number other here)
      ∙ ap (λ n. cond (number == other) entry (get_or (get_or pages n []) (other % span) None)) (sym here)
  | inr differs ↦
      ap (λ p. get_or p (other % span) None) (get_or-set_other pages (number / span) (other / span) new [] (eqb-false (other / span) (number / span) differs))
      ∙ sym (ap (λ b. cond b entry (name_in pages other)) (ne_eqb number other (λ same. eqb-false (other / span) (number / span) differs (ap (λ n. n / span) (sym same)))))
]

-- a number without a name has none taken
pub none_taken : (pages : Pages) (number : ℕ) → name_in pages number ≡ None → Changes pages pages number None
none_taken pages number none other = elim (cases_Bool (number == other)) [
  | inl is ↦
      let same : number ≡ other = eqb-true number other is in
      ap (name_in pages) (sym same) ∙ none ∙ sym (ap (λ b. cond b None (name_in pages other)) is)
  | inr unequal ↦ sym (ap (λ b. cond b None (name_in pages other)) unequal)
]

-- a page that is there, whatever stands for one that is not
pub page_at : {A : Type 0} (xs : List A) (index : ℕ) (other instead : A) → index < length xs → get_or xs index other ≡ get_or xs index instead
page_at [] index other instead within = absurd (omega arith)
page_at (x ∷ xs) zero other instead within = refl
page_at (x ∷ xs) (suc index) other instead within = page_at xs index other instead (omega arith)

beyond : {A : Type 0} (xs : List A) (index : ℕ) (instead : A) → length xs ≤ index → get_or xs index instead ≡ instead
beyond [] index instead end = refl
beyond (x ∷ xs) zero instead end = absurd (omega arith)
beyond (x ∷ xs) (suc index) instead end = beyond xs index instead (omega arith)

pub name_of_page : (pages : Pages) (number : ℕ) (page : List (Option ℕ)) → page ≡ page_of pages number → get_or page (number % span) None ≡ name_in pages number
unfolding name_in
name_of_page pages number page is = ap (λ p. get_or p (number % span) None) is

pub no_page : (pages : Pages) (number : ℕ) → length pages ≤ number / span → None ≡ name_in pages number
unfolding name_in
no_page pages number end = sym (ap (λ p. get_or p (number % span) None) (beyond pages (number / span) [] end))

-- a page that was read, and what it is after a change at the number
pub page_changed : (pages now : Pages) (number : ℕ) (entry : Option ℕ) (page new : List (Option ℕ)) → pages ≡ now → number / span < length now
    → page ≡ get_or pages (number / span) page → PageChanges page new (number % span) entry → Changes now (set pages (number / span) new) number entry
page_changed pages now number entry page new seen within is changes other =
    let there : number / span < length pages = subst (λ ps. number / span < length ps) (sym seen) within in
    changed_there pages number other entry new there (λ place. changes place ∙ ap (λ p. cond (number % span == place) entry (get_or p place None)) (is ∙ page_at pages (number / span) page [] there))
    ∙ ap (λ ps. cond (number == other) entry (name_in ps other)) seen

-- another page that says the same
same_page : (pages : Pages) (index : ℕ) (page : List (Option ℕ)) → index < length pages
    → ((place : ℕ) → get_or page place None ≡ get_or (get_or pages index []) place None) → IsSame pages (set pages index page)
unfolding name_in
same_page pages index page within same number = elim (cases_Bool (number / span == index)) [
  | inl is ↦
      let here : number / span ≡ index = eqb-true (number / span) index is in
      ap (λ n. get_or (get_or (set pages index page) n []) (number % span) None) here
      ∙ ap (λ p. get_or p (number % span) None) (get_or-set_same pages index page [] within)
      ∙ same (number % span)
      ∙ sym (ap (λ n. get_or (get_or pages n []) (number % span) None) here)
  | inr other ↦ ap (λ p. get_or p (number % span) None) (get_or-set_other pages index (number / span) page [] (eqb-false (number / span) index other))
]

-- a page that was read, and another one in its place that says the same
pub page_same : (pages now : Pages) (number : ℕ) (page new : List (Option ℕ)) → pages ≡ now → number / span < length pages → page ≡ get_or pages (number / span) page
    → ((place : ℕ) → get_or new place None ≡ get_or page place None) → IsSame now (set pages (number / span) new)
page_same pages now number page new seen within is same other =
    same_page pages (number / span) new within (λ place. same place ∙ ap (λ p. get_or p place None) (is ∙ page_at pages (number / span) page [] within)) other ∙ ap (λ ps. name_in ps other) seen

-- a timeline without rows
pub nobody : RepresentsRows [] [] [] []
unfolding name_in
nobody = record { ordered = record { few = omega arith; in_order = tt; own_numbers = tt }; in_runs = record { each = refl; named = record { as_many = refl; filed = λ number. refl } }; filled = inl tt }
