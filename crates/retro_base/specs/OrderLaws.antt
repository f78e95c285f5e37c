-- A row that is put in where its time fits keeps the times from falling, and so does a row that is taken out; and where a time fits.
use Rattle.std.proofs.Common.{◌≡◌, ◌≢◌, ℕ, zero, suc, ◌+◌, ◌<◌, ◌≤◌, true, false, cond, List, [], ◌∷◌, ◌++◌, slice_get, refl, sym, ◌∙◌, ap, arith, Some}
use Rattle.std.specs.List.{insert, remove, AllByRecursion}
use Rattle.std.proofs.Math.Dec.{leb}
use Rattle.std.proofs.lemmas.Bool.{leb-true, leb-false, lt-leb}
use Rattle.std.proofs.lemmas.List.Sums.{sum_by-cons}
use Rattle.retro_base.specs.declared.row.Row.{Row}
use Rattle.retro_base.specs.Places.{place_of_time}
use Rattle.retro_base.specs.Timeline.{TimesNeverFall, IsFresh, HaveOwnNumbers}
use Rattle.retro_base.specs.Order.{Fits}

-- a fact about all rows that follows from another
pub all_weaker : {X : Type 0} (P Q : X → Type 0) (xs : List X) → ((x : X) → P x → Q x) → AllByRecursion P xs → AllByRecursion Q xs
all_weaker P Q [] weaker all = tt
all_weaker P Q (x ∷ xs) weaker all = (weaker x all.0, all_weaker P Q xs weaker all.1)

-- what holds of all elements and of one more holds of all after it is put in
pub all_with : {X : Type 0} (P : X → Type 0) (xs : List X) (place : ℕ) (x : X) → AllByRecursion P xs → P x → AllByRecursion P (insert xs place x)
all_with P xs zero x all here = (here, all)
all_with P [] (suc place) x all here = (here, tt)
all_with P (y ∷ ys) (suc place) x all here = (all.0, all_with P ys place x all.1 here)

-- what holds of all elements holds of all that stay when one is taken out
pub all_without : {X : Type 0} (P : X → Type 0) (xs : List X) (place : ℕ) → AllByRecursion P xs → AllByRecursion P (remove xs place)
all_without P [] zero all = tt
all_without P [] (suc place) all = tt
all_without P (x ∷ xs) zero all = all.1
all_without P (x ∷ xs) (suc place) all = (all.0, all_without P xs place all.1)

-- what holds of all elements of two lists holds of those of both together, and the other way round
pub all_joined : {X : Type 0} (P : X → Type 0) (xs ys : List X) → AllByRecursion P xs → AllByRecursion P ys → AllByRecursion P (xs ++ ys)
all_joined P [] ys first second = second
all_joined P (x ∷ xs) ys first second = (first.0, all_joined P xs ys first.1 second)

pub all_parts : {X : Type 0} (P : X → Type 0) (xs ys : List X) → AllByRecursion P (xs ++ ys) → AllByRecursion P xs × AllByRecursion P ys
all_parts P [] ys all = (tt, all)
all_parts P (x ∷ xs) ys all = let rest = all_parts P xs ys all.1 in ((all.0, rest.0), rest.1)

-- what holds of all elements holds of each
pub all_at : {X : Type 0} (P : X → Type 0) (xs : List X) (index : ℕ) (x : X) → AllByRecursion P xs → slice_get xs index ≡ Some x → P x
all_at P [] index x all there = absurd (cc)
all_at P (y ∷ ys) zero x all there = let same : y ≡ x = cc in rw same at all.0
all_at P (y ∷ ys) (suc index) x all there = all_at P ys index x all.1 there

pub times_with : (rows : List Row) (place : ℕ) (row : Row) → TimesNeverFall rows → Fits rows place row.time → TimesNeverFall (insert rows place row)
times_with rows zero row never fits = (fits, never)
times_with [] (suc place) row never fits = (tt, tt)
times_with (first ∷ rows) (suc place) row never fits =
    (all_with (λ r. first.time ≤ r.time) rows place row never.0 fits.0, times_with rows place row never.1 fits.1)

pub times_without : (rows : List Row) (place : ℕ) → TimesNeverFall rows → TimesNeverFall (remove rows place)
times_without [] zero never = tt
times_without [] (suc place) never = tt
times_without (row ∷ rows) zero never = never.1
times_without (row ∷ rows) (suc place) never = (all_without (λ r. row.time ≤ r.time) rows place never.0, times_without rows place never.1)

-- the first row counts where it is not later
pub place_of_time-cons : (time : ℕ) (row : Row) (rows : List Row) → place_of_time time (row ∷ rows) ≡ cond (leb row.time time) 1 0 + place_of_time time rows
place_of_time-cons time row rows = sum_by-cons _ row rows

not_later : (time : ℕ) (row : Row) (rows : List Row) → leb row.time time ≡ true → place_of_time time (row ∷ rows) ≡ suc (place_of_time time rows)
not_later time row rows e = place_of_time-cons time row rows ∙ rw e (omega arith)

later : (time : ℕ) (row : Row) (rows : List Row) → leb row.time time ≡ false → place_of_time time (row ∷ rows) ≡ place_of_time time rows
later time row rows e = place_of_time-cons time row rows ∙ rw e (omega arith)

-- a time before all rows has the first place
pub first_place : (time : ℕ) (rows : List Row) → AllByRecursion (λ row. time < row.time) rows → place_of_time time rows ≡ 0
first_place time [] all = refl
first_place time (row ∷ rows) all = later time row rows (lt-leb row.time time all.0) ∙ first_place time rows all.1

-- a time fits after all rows up to it
pub time_fits : (time : ℕ) (rows : List Row) → TimesNeverFall rows → Fits rows (place_of_time time rows) time
time_fits time [] never = tt
time_fits time (first ∷ rows) never =
    elim (leb first.time time) as (λ b. leb first.time time ≡ b → Fits (first ∷ rows) (place_of_time time (first ∷ rows)) time) [
      | true ↦ λ e. rw (not_later time first rows e) (leb-true _ _ e, time_fits time rows never.1)
      | false ↦ λ e.
          let earlier : time < first.time = leb-false _ _ e in
          let with_first : AllByRecursion (λ r. time < r.time) rows = all_weaker (λ r. first.time ≤ r.time) _ rows (λ r h. omega arith) never.0 in
          rw (later time first rows e, first_place time rows with_first)
          (omega arith, all_weaker (λ r. time < r.time) (λ r. time ≤ r.time) rows (λ r h. omega arith) with_first)
    ] refl

first_time : (first row : Row) → Some first ≡ Some row → first.time ≡ row.time
first_time first row there = let same : first ≡ row = cc in ap (λ (r : Row). r.time) same

-- the time of a row fits in front of it
pub fits_before : (rows : List Row) (place : ℕ) (row : Row) → TimesNeverFall rows → slice_get rows place ≡ Some row → Fits rows place row.time
fits_before [] place row never there = absurd (cc)
fits_before (first ∷ rows) zero row never there =
    let same_time : first.time ≡ row.time = first_time first row there in (omega (arith, same_time), rw same_time at never.0)
fits_before (first ∷ rows) (suc place) row never there =
    (all_at (λ r. first.time ≤ r.time) rows place row never.0 there, fits_before rows place row never.1 there)

-- the time of a row fits after it
pub fits_after : (rows : List Row) (place : ℕ) (row : Row) → TimesNeverFall rows → slice_get rows place ≡ Some row → Fits rows (suc place) row.time
fits_after [] place row never there = absurd (cc)
fits_after (first ∷ rows) zero row never there =
    let same_time : first.time ≡ row.time = first_time first row there in (omega (arith, same_time), rw same_time at never.0)
fits_after (first ∷ rows) (suc place) row never there =
    (all_at (λ r. first.time ≤ r.time) rows place row never.0 there, fits_after rows place row never.1 there)

-- numbers of their own are so still where a fresh one comes, and where one goes
pub own_numbers_with : (rows : List Row) (place : ℕ) (row : Row) → HaveOwnNumbers rows → IsFresh row.number rows → HaveOwnNumbers (insert rows place row)
own_numbers_with rows zero row own fresh = (fresh, own)
own_numbers_with [] (suc place) row own fresh = (tt, tt)
own_numbers_with (first ∷ rows) (suc place) row own fresh =
    (all_with (λ r. r.number ≢ first.number) rows place row own.0 (λ same. fresh.0 (sym same)), own_numbers_with rows place row own.1 fresh.1)

pub own_numbers_without : (rows : List Row) (place : ℕ) → HaveOwnNumbers rows → HaveOwnNumbers (remove rows place)
own_numbers_without [] zero own = tt
own_numbers_without [] (suc place) own = tt
own_numbers_without (row ∷ rows) zero own = own.1
own_numbers_without (row ∷ rows) (suc place) own = (all_without (λ r. r.number ≢ row.number) rows place own.0, own_numbers_without rows place own.1)
