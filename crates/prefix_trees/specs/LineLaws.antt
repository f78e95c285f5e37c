-- What one row does to a line of items: those that stay keep their distance to the ends, and an item that
-- is new is the one that the row adds.
use Rattle.std.proofs.Common.{◌≡◌, ℕ, zero, suc, ◌-◌, ◌<◌, ℤ, pos, negsuc, ◌+ℤ◌, List, [], ◌∷◌, ◌++◌, take, length, Option, Some, None, Ok, refl, sym, ap, ◌∙◌, arith, inl, inr, length-append, length-take}
use Rattle.std.specs.Prelude.{slice_get}
use Rattle.std.proofs.lemmas.Bool.{cases_lt}
use Rattle.std.proofs.lemmas.Int.{ints}
use Rattle.std.specs.Option.{option_map}
use Rattle.retro_base.specs.declared.op.Op.{Op}
use Rattle.retro_base.specs.declared.op.Op.TheVariants.{Enq, Deq, Push, Pop, PushL, PushR, PopL, PopR}
use Rattle.retro_base.specs.declared.row.Row.{Row}
use Rattle.retro_base.specs.Facts.{get_take}
use Rattle.retro_base.specs.Kind.{kind_of}
use Rattle.retro_base.specs.Outcomes.{later_ok}
use Rattle.retro_base.specs.Replay.{run}
use Rattle.retro_base.specs.State.{State, items, perform, step, without_first, without_last}
use Rattle.retro_base.specs.lemmas.Folds.{not_both, fold_rows-some, fold_rows-none}
use Rattle.prefix_trees.specs.Growth.{IsLine, left_growth, right_growth, sign_of, value_of}

-- the line ys comes of xs by an operation that grows so much at either end and adds this item
pub record Moves (left right : ℤ) (value : Option ℤ) (xs ys : List ℤ) : Type 0 where
  pub size : pos (length ys) ≡ pos (length xs) +ℤ (left +ℤ right)
  pub kept : (i j : ℕ) → i < length xs → j < length ys → pos j ≡ pos i +ℤ left → slice_get ys j ≡ slice_get xs i
  pub written : (j : ℕ) → j < length ys → ((i : ℕ) → i < length xs → pos j ≡ pos i +ℤ left → ⊥) → slice_get ys j ≡ value

same_at : (xs : List ℤ) (i j : ℕ) → i ≡ j → slice_get xs i ≡ slice_get xs j
same_at xs i j same = ap (slice_get xs) same

get-append : (xs ys : List ℤ) (i : ℕ) → i < length xs → slice_get (xs ++ ys) i ≡ slice_get xs i
get-append [] ys i within = absurd (omega arith)
get-append (x ∷ xs) ys zero within = refl
get-append (x ∷ xs) ys (suc i) within = get-append xs ys i (omega arith)

get-last : (xs : List ℤ) (y : ℤ) → slice_get (xs ++ y ∷ []) (length xs) ≡ Some y
get-last [] y = refl
get-last (x ∷ xs) y = get-last xs y

-- an item comes to the left end
joins_left : (value : ℤ) (xs : List ℤ) → Moves (pos 1) (pos 0) (Some value) xs (value ∷ xs)
joins_left value xs = record {
  size = omega (arith, ints);
  kept = λ i j from to is. same_at (value ∷ xs) j (suc i) (omega (arith, ints));
  written = λ j within apart. elim (cases_lt 0 j) [
    | inl later ↦ absurd (apart (j - 1) (omega arith) (omega (arith, ints)))
    | inr first ↦ same_at (value ∷ xs) j 0 (omega arith)
  ];
}

-- and to the right end
joins_right : (value : ℤ) (xs : List ℤ) → Moves (pos 0) (pos 1) (Some value) xs (xs ++ value ∷ [])
joins_right value xs = record {
  size = omega (arith, ints, length-append xs (value ∷ []));
  kept = λ i j from to is. same_at (xs ++ value ∷ []) j i (omega (arith, ints)) ∙ get-append xs (value ∷ []) i from;
  written = λ j within apart. elim (cases_lt j (length xs)) [
    | inl earlier ↦ absurd (apart j earlier (omega (arith, ints)))
    | inr last ↦ same_at (xs ++ value ∷ []) j (length xs) (omega (arith, length-append xs (value ∷ []))) ∙ get-last xs value
  ];
}

-- the left end leaves
leaves_left : (x : ℤ) (xs : List ℤ) → Moves (negsuc 0) (pos 0) None (x ∷ xs) xs
leaves_left x xs = record {
  size = omega (arith, ints);
  kept = λ i j from to is. sym (same_at (x ∷ xs) i (suc j) (omega (arith, ints)));
  written = λ j within apart. absurd (apart (suc j) (omega arith) (omega (arith, ints)));
}

-- and the right end
leaves_right : (x : ℤ) (xs : List ℤ) → Moves (pos 0) (negsuc 0) None (x ∷ xs) (take (length xs) (x ∷ xs))
leaves_right x xs =
    let size : length (take (length xs) (x ∷ xs)) ≡ length xs = omega (arith, length-take (length xs) (x ∷ xs)) in
    record {
      size = omega (arith, ints, size);
      kept = λ i j from to is. get_take (x ∷ xs) (length xs) j (omega (arith, size)) ∙ same_at (x ∷ xs) j i (omega (arith, ints));
      written = λ j within apart. absurd (apart j (omega (arith, size)) (omega (arith, ints)));
    }

-- a step from the line to another one
abbrev pub Steps : ℤ → ℤ → Option ℤ → List ℤ → State → Type 0
Steps left right value xs state = (ys : List ℤ) × (state ≡ items ys) × Moves left right value xs ys

comes_to : (xs ys : List ℤ) (state : State) → ◌≡◌ {A = Option State} (Some (items ys)) (Some state) → state ≡ items ys
comes_to xs ys state is = cc

nothing_left : (state : State) → ◌≡◌ {A = Option State} None (Some state) → ⊥
nothing_left state is = cc

first_leaves : (xs : List ℤ) (state : State) → option_map items (without_first xs) ≡ Some state → Steps (negsuc 0) (pos 0) None xs state
first_leaves [] state is = absurd (nothing_left state is)
first_leaves (x ∷ xs) state is = (xs, comes_to (x ∷ xs) xs state is, leaves_left x xs)

last_leaves : (xs : List ℤ) (state : State) → option_map items (without_last xs) ≡ Some state → Steps (pos 0) (negsuc 0) None xs state
last_leaves [] state is = absurd (nothing_left state is)
last_leaves (x ∷ xs) state is = (take (length xs) (x ∷ xs), comes_to (x ∷ xs) (take (length xs) (x ∷ xs)) state is, leaves_right x xs)

-- where an operation of such a kind can be performed
pub line_step : (op : Op) (number : ℕ) (xs : List ℤ) (state : State) → IsLine (kind_of op) → perform op number (items xs) ≡ Some state
    → Steps (left_growth op) (right_growth op) (value_of op) xs state
unfolding perform
line_step (Enq v) n xs state h is = (xs ++ v ∷ [], comes_to xs (xs ++ v ∷ []) state is, joins_right v xs)
line_step Deq n xs state h is = first_leaves xs state is
line_step (Push v) n xs state h is = (v ∷ xs, comes_to xs (v ∷ xs) state is, joins_left v xs)
line_step Pop n xs state h is = first_leaves xs state is
line_step (PushL v) n xs state h is = (v ∷ xs, comes_to xs (v ∷ xs) state is, joins_left v xs)
line_step (PushR v) n xs state h is = (xs ++ v ∷ [], comes_to xs (xs ++ v ∷ []) state is, joins_right v xs)
line_step PopL n xs state h is = first_leaves xs state is
line_step PopR n xs state h is = last_leaves xs state is
line_step op n xs state h is = absurd h

nothing_to_take : (xs : List ℤ) → option_map items (without_first xs) ≡ None → length xs ≡ 0
nothing_to_take [] is = refl
nothing_to_take (x ∷ xs) is = absurd (cc)

nothing_to_take_last : (xs : List ℤ) → option_map items (without_last xs) ≡ None → length xs ≡ 0
nothing_to_take_last [] is = refl
nothing_to_take_last (x ∷ xs) is = absurd (cc)

always_some : (state : State) → ◌≡◌ {A = Option State} (Some state) None → ⊥
always_some state is = cc

-- it cannot be performed only where it takes an item and there is none
pub line_stop : (op : Op) (number : ℕ) (xs : List ℤ) → IsLine (kind_of op) → perform op number (items xs) ≡ None → (sign_of op ≡ negsuc 0) × (length xs ≡ 0)
unfolding perform
line_stop (Enq v) n xs h is = absurd (always_some (items (xs ++ v ∷ [])) is)
line_stop Deq n xs h is = (refl, nothing_to_take xs is)
line_stop (Push v) n xs h is = absurd (always_some (items (v ∷ xs)) is)
line_stop Pop n xs h is = (refl, nothing_to_take xs is)
line_stop (PushL v) n xs h is = absurd (always_some (items (v ∷ xs)) is)
line_stop (PushR v) n xs h is = absurd (always_some (items (xs ++ v ∷ [])) is)
line_stop PopL n xs h is = (refl, nothing_to_take xs is)
line_stop PopR n xs h is = (refl, nothing_to_take_last xs is)
line_stop op n xs h is = absurd h

-- the growth at both ends is that of the whole
pub growth_is : (op : Op) → left_growth op +ℤ right_growth op ≡ sign_of op
growth_is (Enq v) = refl
growth_is op = refl

-- rows that can be performed: the first row is, and then the others
pub run-first : (row : Row) (rows : List Row) (state end : State) → run (row ∷ rows) state ≡ Ok end
    → (next : State) × (step row state ≡ Some next) × (run rows next ≡ Ok end)
run-first row rows state end is =
    elim (step row state) as (λ o. step row state ≡ o → (next : State) × (step row state ≡ Some next) × (run rows next ≡ Ok end)) [
      | None ↦ λ stops. absurd (not_both _ (fold_rows-none step row rows state stops) is)
      | Some next ↦ λ goes. (next, goes, later_ok (run rows next) end (sym (fold_rows-some step row rows state next goes) ∙ is))
    ] refl
