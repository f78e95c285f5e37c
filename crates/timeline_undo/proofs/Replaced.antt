-- The rows after a row was replaced, in whichever order its two edits are made.
use Rattle.std.proofs.Common.{◌≡◌, ℕ, zero, suc, ◌+◌, ◌-◌, ◌<◌, ◌≤◌, true, false, cond, List, [], ◌∷◌, ◌++◌, length, take, drop, slice_get, Some, refl, sym, ◌∙◌, ap, arith}
use Rattle.std.specs.Prelude.{nat_le}
use Rattle.std.specs.List.{insert, remove, AllByRecursion}
use Rattle.std.proofs.Math.Dec.{leb}
use Rattle.std.proofs.lemmas.Bool.{leb-true, leb-false, le-leb, lt-leb}
use Rattle.retro_base.specs.declared.row.Row.{Row}
use Rattle.retro_base.specs.Edits.{edited_by}
use Rattle.retro_base.specs.Kind.{adds}
use Rattle.retro_base.specs.OrderLaws.{all_at, place_of_time-cons, first_place}
use Rattle.retro_base.specs.Places.{place_of_time}
use Rattle.retro_base.specs.Timeline.{TimesNeverFall}
use Rattle.timeline_undo.specs.declared.replacement.Replacement.{Replacement}
use Rattle.retro_base.specs.declared.target.Target.{Target}
use Rattle.retro_base.specs.declared.target.Target.TheVariants.{At, Into}
use Rattle.timeline_undo.specs.Replaced.{before_without, replaced, replacement_of, step_of_replacement}
use Rattle.retro_base.specs.Shift.{place_for, put_then_cut, cut_then_put, shift_of}

-- one is put in before another, which is taken out then
put_before : {X : Type 0} (xs : List X) (before n index : ℕ) (new old : X) → before + n ≡ index → slice_get xs index ≡ Some old
    → remove (insert xs before new) (suc index) ≡ take before xs ++ new ∷ (take n (drop before xs) ++ drop (suc index) xs)
put_before [] before n index new old e there = absurd (cc)
put_before (x ∷ xs) zero n index new old e there = let same : n ≡ index = omega arith in rw same refl
put_before (x ∷ xs) (suc before) n zero new old e there = absurd (omega arith)
put_before (x ∷ xs) (suc before) n (suc index) new old e there = ap (λ rs. x ∷ rs) (put_before xs before n index new old (omega arith) there)

-- one is put in after another, which is taken out then
put_after : {X : Type 0} (xs : List X) (index n before : ℕ) (new old : X) → suc index + n ≡ before → slice_get xs index ≡ Some old → before ≤ length xs
    → remove (insert xs before new) index ≡ take index xs ++ (take n (drop (suc index) xs) ++ new ∷ drop before xs)
put_after [] index n before new old e there within = absurd (cc)
put_after (x ∷ xs) index n zero new old e there within = absurd (omega arith)
put_after (x ∷ xs) zero n (suc before) new old e there within = let same : n ≡ before = omega arith in rw same refl
put_after (x ∷ xs) (suc index) n (suc before) new old e there within = ap (λ rs. x ∷ rs) (put_after xs index n before new old (omega arith) there (omega arith))

-- one is taken out, and another is put in before it
cut_before : {X : Type 0} (xs : List X) (before n index : ℕ) (new old : X) → before + n ≡ index → slice_get xs index ≡ Some old
    → insert (remove xs index) before new ≡ take before xs ++ new ∷ (take n (drop before xs) ++ drop (suc index) xs)
cut_before [] before n index new old e there = absurd (cc)
cut_before (x ∷ xs) zero n index new old e there = let same : n ≡ index = omega arith in rw same refl
cut_before (x ∷ xs) (suc before) n zero new old e there = absurd (omega arith)
cut_before (x ∷ xs) (suc before) n (suc index) new old e there = ap (λ rs. x ∷ rs) (cut_before xs before n index new old (omega arith) there)

-- one is taken out, and another is put in after it
cut_after : {X : Type 0} (xs : List X) (index n before : ℕ) (new old : X) → suc index + n ≡ suc before → slice_get xs index ≡ Some old
    → insert (remove xs index) before new ≡ take index xs ++ (take n (drop (suc index) xs) ++ new ∷ drop (suc before) xs)
cut_after [] index n before new old e there = absurd (cc)
cut_after (x ∷ xs) zero n before new old e there = let same : n ≡ before = omega arith in rw same refl
cut_after (x ∷ xs) (suc index) n zero new old e there = absurd (omega arith)
cut_after (x ∷ xs) (suc index) n (suc before) new old e there = ap (λ rs. x ∷ rs) (cut_after xs index n before new old (omega arith) there)

pub put_first : (rows : List Row) (r : Replacement) → slice_get rows r.index ≡ Some r.old → r.before ≤ length rows
    → edited_by rows (put_then_cut r.before r.new r.index r.old) ≡ replaced rows r
put_first rows r there within =
    elim (nat_le r.before r.index) as (λ b. nat_le r.before r.index ≡ b → edited_by rows (put_then_cut r.before r.new r.index r.old) ≡ replaced rows r) [
      | true ↦ λ e.
          let below : r.before ≤ r.index = leb-true _ _ e in
          let one : r.index + 1 ≡ suc r.index = omega arith in
          rw (e, one) (put_before rows r.before (r.index - r.before) r.index r.new r.old (omega arith) there)
      | false ↦ λ e.
          let above : r.index < r.before = leb-false _ _ e in
          rw e (put_after rows r.index (r.before - suc r.index) r.before r.new r.old (omega arith) there within)
    ] refl

pub cut_first : (rows : List Row) (r : Replacement) → slice_get rows r.index ≡ Some r.old
    → edited_by rows (cut_then_put r.index r.old (before_without r.index r.before) r.new) ≡ replaced rows r
cut_first rows r there =
    elim (nat_le r.before r.index) as (λ b. nat_le r.before r.index ≡ b → edited_by rows (cut_then_put r.index r.old (before_without r.index r.before) r.new) ≡ replaced rows r) [
      | true ↦ λ e.
          let below : r.before ≤ r.index = leb-true _ _ e in
          rw e (cut_before rows r.before (r.index - r.before) r.index r.new r.old (omega arith) there)
      | false ↦ λ e.
          let above : r.index < r.before = leb-false _ _ e in
          let one : suc (r.before - 1) ≡ r.before = omega arith in
          rw e (cut_after rows r.index (r.before - suc r.index) (r.before - 1) r.new r.old (omega arith) there ∙ rw one refl)
    ] refl

-- the rows after both edits
pub edited_is_replaced : (rows : List Row) (r : Replacement) → slice_get rows r.index ≡ Some r.old → r.before ≤ length rows
    → edited_by rows (step_of_replacement r) ≡ replaced rows r
edited_is_replaced rows r there within =
    elim (adds r.new.op) as (λ b. adds r.new.op ≡ b → edited_by rows (step_of_replacement r) ≡ replaced rows r) [
      | true ↦ λ e. rw e (put_first rows r there within)
      | false ↦ λ e. rw e (cut_first rows r there)
    ] refl

all_later : (low high : ℕ) (rows : List Row) → low < high → AllByRecursion (λ (r : Row). high ≤ r.time) rows → AllByRecursion (λ (r : Row). low < r.time) rows
all_later low high [] below all = tt
all_later low high (row ∷ rows) below all = (omega (arith, all.0), all_later low high rows below all.1)

-- a row of the time or before it counts, and then it stands before the place of the time
counts_one : (time : ℕ) (rows : List Row) (index : ℕ) (old : Row) → slice_get rows index ≡ Some old
    → place_of_time time (remove rows index) + cond (leb old.time time) 1 0 ≡ place_of_time time rows
counts_one time [] index old there = absurd (cc)
counts_one time (row ∷ rows) zero old there =
    let same : row ≡ old = cc in
    let first : place_of_time time (row ∷ rows) ≡ cond (leb old.time time) 1 0 + place_of_time time rows = rw (← same) (place_of_time-cons time row rows) in
    omega (arith, first)
counts_one time (row ∷ rows) (suc index) old there =
    omega (arith, place_of_time-cons time row rows, place_of_time-cons time row (remove rows index), counts_one time rows index old there)

stands_up_to : (time : ℕ) (rows : List Row) (index : ℕ) (old : Row) → TimesNeverFall rows → slice_get rows index ≡ Some old → old.time ≤ time
    → index < place_of_time time rows
stands_up_to time [] index old never there early = absurd (cc)
stands_up_to time (row ∷ rows) zero old never there early =
    let same : row ≡ old = cc in
    let here : leb row.time time ≡ true = rw same (le-leb _ _ early) in
    let more : place_of_time time (row ∷ rows) ≡ suc (place_of_time time rows) = place_of_time-cons time row rows ∙ rw here (omega arith) in
    rw more (omega arith)
stands_up_to time (row ∷ rows) (suc index) old never there early =
    let first : row.time ≤ old.time = all_at (λ r. row.time ≤ r.time) rows index old never.0 there in
    let here : leb row.time time ≡ true = le-leb _ _ (omega arith) in
    let more : place_of_time time (row ∷ rows) ≡ suc (place_of_time time rows) = place_of_time-cons time row rows ∙ rw here (omega arith) in
    rw more (omega (arith, stands_up_to time rows index old never.1 there early))

stands_later : (time : ℕ) (rows : List Row) (index : ℕ) (old : Row) → TimesNeverFall rows → slice_get rows index ≡ Some old → time < old.time
    → place_of_time time rows ≤ index
stands_later time [] index old never there late = absurd (cc)
stands_later time (row ∷ rows) zero old never there late =
    let same : row ≡ old = cc in
    let here : time < row.time = rw same late in
    let none : place_of_time time (row ∷ rows) ≡ 0 = first_place time (row ∷ rows) (here, all_later time row.time rows here never.0) in
    rw none (omega arith)
stands_later time (row ∷ rows) (suc index) old never there late =
    let rest = stands_later time rows index old never.1 there late in
    elim (leb row.time time) as (λ b. leb row.time time ≡ b → place_of_time time (row ∷ rows) ≤ suc index) [
      | true ↦ λ e. let more : place_of_time time (row ∷ rows) ≡ suc (place_of_time time rows) = place_of_time-cons time row rows ∙ rw e (omega arith) in rw more (omega (arith, rest))
      | false ↦ λ e. let more : place_of_time time (row ∷ rows) ≡ place_of_time time rows = place_of_time-cons time row rows ∙ rw e (omega arith) in rw more (omega (arith, rest))
    ] refl

-- without a row as many stand up to a time as before, or one fewer where it stood among them
without_row : (time : ℕ) (rows : List Row) (index : ℕ) (old : Row) → TimesNeverFall rows → slice_get rows index ≡ Some old
    → place_of_time time (remove rows index) ≡ before_without index (place_of_time time rows)
without_row time rows index old never there =
    elim (leb old.time time) as (λ b. leb old.time time ≡ b → place_of_time time (remove rows index) ≡ before_without index (place_of_time time rows)) [
      | true ↦ λ e.
          let one : place_of_time time (remove rows index) + 1 ≡ place_of_time time rows = rw e at (counts_one time rows index old there) in
          let above = stands_up_to time rows index old never there (leb-true _ _ e) in
          rw (lt-leb (place_of_time time rows) index above) (omega arith)
      | false ↦ λ e.
          let none : place_of_time time (remove rows index) + 0 ≡ place_of_time time rows = rw e at (counts_one time rows index old there) in
          let below = stands_later time rows index old never there (leb-false _ _ e) in
          rw (le-leb (place_of_time time rows) index below) (omega arith)
    ] refl

-- the edits of a replacement are those of the shift
place_without : (target : Target) (rows : List Row) (index : ℕ) (old : Row) → TimesNeverFall rows → slice_get rows index ≡ Some old
    → before_without index (place_for target index rows) ≡ place_for target index (remove rows index)
place_without (At time) rows index old never there = sym (without_row time rows index old never there)
place_without (Into op) rows index old never there = rw (le-leb index index (omega arith)) refl

pub replacement_is_shift : (rows : List Row) (target : Target) (number index : ℕ) (old : Row) → TimesNeverFall rows → slice_get rows index ≡ Some old
    → step_of_replacement (replacement_of rows target number index old) ≡ shift_of rows target number index old
replacement_is_shift rows target number index old never there = rw (place_without target rows index old never there) refl
