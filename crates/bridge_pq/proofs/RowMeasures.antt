-- What a range of marked rows measures, part by part: the walk of the weights, and the extremes of the dead and of the survivors.
use Rattle.std.proofs.Common.{◌≡◌, ℕ, zero, suc, ℤ, pos, ◌+ℤ◌, Bool, List, [], ◌∷◌, map, take, drop, refl, sym, ap, ◌∙◌, arith, Option, Some, None}
use Rattle.std.specs.List.{fold}
use Rattle.std.specs.declared.cmp.Ordering.{Ordering}
use Rattle.std.specs.Ordering.{flip_args}
use Rattle.std.proofs.lemmas.Int.{ints}
use Rattle.monoid_laws.specs.Both.{joined_both}
use Rattle.monoid_laws.specs.Extreme.{Extreme, no_extreme, joined_extreme, one_element, extreme_of}
use Rattle.monoid_laws.specs.Measure.{measure_of}
use Rattle.monoid_laws.specs.Summed.{sum_of, sum_to}
use Rattle.bridge_pq.specs.Dips.{Dip, no_dip, one_dip, joined_dip, dip_of}
use Rattle.retro_base.specs.declared.row.Entry.{Entry}
use Rattle.retro_base.specs.declared.row.Row.{Row}
use Rattle.retro_base.specs.Bridges.{survivors}
use Rattle.retro_base.specs.Weights.{added_by, weight, weight_as, sum_of_weights}
use Rattle.bridge_pq.specs.declared.marked_row.MarkedRow.{MarkedRow}
use Rattle.retro_base.specs.MarkedChange.{is_one_of, dead_in, alive_in}
use Rattle.bridge_pq.specs.MarkedRows.{rows_of, AreMarked, weight_in, weights_of, row_measure}
use Rattle.monoid_laws.specs.SummedLaws.{add_assoc}

-- the dead and the survivors that the rows add
abbrev pub dead_of : List MarkedRow → List (Option Entry)
dead_of items = map (λ item. dead_in item.survives (added_by item.row)) items

abbrev pub alive_of : List MarkedRow → List (Option Entry)
alive_of items = map (λ item. alive_in item.survives (added_by item.row)) items

module _ (order : Entry → Entry → Ordering) where
  abbrev pub measures_of : List MarkedRow → Dip × (Extreme Entry × Extreme Entry)
  measures_of items = measure_of (no_dip, (no_extreme, no_extreme)) (joined_both joined_dip (joined_both (joined_extreme order) (joined_extreme (flip_args order)))) row_measure items

  pub dip-part : (items : List MarkedRow) → (measures_of items).0 ≡ dip_of (weights_of items)
  dip-part [] = refl
  dip-part (item ∷ items) = ap (joined_dip (one_dip (weight_in item.survives (added_by item.row)))) (dip-part items)

  pub dead-part : (items : List MarkedRow) → (measures_of items).1.0 ≡ extreme_of order (dead_of items)
  dead-part [] = refl
  dead-part (item ∷ items) = ap (joined_extreme order (one_element (dead_in item.survives (added_by item.row)))) (dead-part items)

  pub alive-part : (items : List MarkedRow) → (measures_of items).1.1 ≡ extreme_of (flip_args order) (alive_of items)
  alive-part [] = refl
  alive-part (item ∷ items) = ap (joined_extreme (flip_args order) (one_element (alive_in item.survives (added_by item.row)))) (alive-part items)

module _ {A B : Type 0} (f : A → B) where
  pub map-take : (xs : List A) (n : ℕ) → map f (take n xs) ≡ take n (map f xs)
  map-take xs zero = refl
  map-take [] (suc n) = refl
  map-take (x ∷ xs) (suc n) = ap (λ l. f x ∷ l) (map-take xs n)

  pub map-drop : (xs : List A) (n : ℕ) → map f (drop n xs) ≡ drop n (map f xs)
  map-drop xs zero = refl
  map-drop [] (suc n) = refl
  map-drop (x ∷ xs) (suc n) = map-drop xs n

-- the walk of the weights from a place on
pub dip-after : (order : Entry → Entry → Ordering) (items : List MarkedRow) (from : ℕ) → (measures_of order (drop from items)).0 ≡ dip_of (drop from (weights_of items))
dip-after order items from = dip-part order (drop from items) ∙ ap dip_of (map-drop (λ item. weight_in item.survives (added_by item.row)) items from)

-- the marks make the weights those of the definitions
weighs_by : (alive : List Entry) (m : Option Entry) (survives : Bool) → survives ≡ is_one_of alive m → weight_in survives m ≡ weight_as alive m
weighs_by alive None survives same = refl
weighs_by alive (Some e) survives same = ap (λ b. weight_in b (Some e)) same

marked-weights : (alive : List Entry) (items : List MarkedRow) → AreMarked alive items → weights_of items ≡ map (λ row. weight_as alive (added_by row)) (rows_of items)
marked-weights alive [] marked = refl
marked-weights alive (item ∷ items) marked =
    ap (λ w. w ∷ weights_of items) (weighs_by alive (added_by item.row) item.survives marked.0)
    ∙ ap (λ ws. weight_as alive (added_by item.row) ∷ ws) (marked-weights alive items marked.1)

folded : (f : Row → ℤ) (z : ℤ) (rows : List Row) → fold (λ sum row. sum +ℤ f row) z rows ≡ z +ℤ sum_of (map f rows)
folded f z [] = omega (arith, ints)
folded f z (row ∷ rows) = folded f (z +ℤ f row) rows ∙ add_assoc z (f row) (sum_of (map f rows))

pub sums-are : (items : List MarkedRow) (place : ℕ) → AreMarked (survivors (rows_of items)) items → sum_to (weights_of items) place ≡ sum_of_weights (rows_of items) place
sums-are items place marked =
    ap (λ ws. sum_of (take place ws)) (marked-weights (survivors (rows_of items)) items marked)
    ∙ ap sum_of (sym (map-take (weight (rows_of items)) (rows_of items) place))
    ∙ sym (folded (weight (rows_of items)) (pos 0) (take place (rows_of items)) ∙ zero_first (sum_of (map (weight (rows_of items)) (take place (rows_of items)))))
  where
    zero_first : (z : ℤ) → pos 0 +ℤ z ≡ z
    zero_first z = omega (arith, ints)
