-- Rows in order: the tests of the searches fall along them, and they stay in order when they are filtered.
use Rattle.std.proofs.Common.{◌≡◌, ℕ, ℤ, ◌<◌, Bool, true, false, not, cond, List, [], ◌∷◌, ◌++◌, refl, ap, ◌∙◌, arith}
use Rattle.std.specs.Prelude.{nat_le, nat_lt, ◌==◌}
use Rattle.std.specs.List.{AllByRecursion, filter}
use Rattle.std.specs.Ordering.{int_eq}
use Rattle.std.proofs.lemmas.Int.{ints}
use Rattle.std.proofs.lemmas.Bool.Decides.{nat_tests}
use Rattle.retro_base.specs.OrderLaws.{all_weaker}
use Rattle.weighted_tree.specs.Partitioned.{IsPartitioned}
use Rattle.weighted_tree.specs.PartitionLaws.{joined}
use Rattle.key_index.specs.KeyRows.{KeyRow, LabelsRise, key_of, up_to, behind}
use Rattle.key_index.specs.Ordered.{AreByKey, pair_before, pair_up_to, stands_before, reaches}
use Rattle.key_index.proofs.Lists.{all_filter, all-append, all_front, all_after, filter-same}

label_past : (limit label later : ℕ) → nat_le label limit ≡ false → label < later → nat_le later limit ≡ false
label_past limit label later past order = grind (arith, nat_tests)

pair_past : (k : ℤ) (l : ℕ) (j : ℤ) (m : ℕ) (key : ℤ) (limit : ℕ) → pair_up_to k l key limit ≡ false → pair_before k l j m ≡ true → pair_up_to j m key limit ≡ false
pair_past k l j m key limit past order = grind (arith, ints, nat_tests)

-- pairs beside a bound
pub pair_less : (k : ℤ) (l : ℕ) (key : ℤ) (label : ℕ) → pair_before k l key label ≡ true → pair_up_to k l key label ≡ true
pair_less k l key label less = grind (arith, ints, nat_tests)

pub pair_comes_before : (k : ℤ) (l : ℕ) (j : ℤ) (m : ℕ) (key : ℤ) (label : ℕ) → pair_before k l j m ≡ true → pair_up_to j m key label ≡ true → pair_before k l key label ≡ true
pair_comes_before k l j m key label less up = grind (arith, ints, nat_tests)

pub pair_not_itself : (k : ℤ) (l : ℕ) (key : ℤ) (label : ℕ) → int_eq k key ≡ true → l ≡ label → pair_before k l key label ≡ false
pair_not_itself k l key label on here = grind (arith, ints, nat_tests)

pair_below_on : (k : ℤ) (l : ℕ) (key : ℤ) (label : ℕ) → pair_up_to k l key label ≡ true → (l == label) ≡ false → pair_before k l key label ≡ true
pair_below_on k l key label up other = grind (arith, ints, nat_tests)

pair_below_off : (k : ℤ) (l : ℕ) (key : ℤ) (label : ℕ) → pair_up_to k l key label ≡ true → int_eq k key ≡ false → pair_before k l key label ≡ true
pair_below_off k l key label up off = grind (arith, ints, nat_tests)

pub pair_below : (k : ℤ) (l : ℕ) (key : ℤ) (label : ℕ) → pair_up_to k l key label ≡ true → (int_eq k key ≡ true → (l == label) ≡ false) → pair_before k l key label ≡ true
pair_below k l key label up other = elim (int_eq k key) as (λ b. int_eq k key ≡ b → pair_before k l key label ≡ true) [
  | true ↦ λ on. pair_below_on k l key label up (other on)
  | false ↦ λ off. pair_below_off k l key label up off
] refl

label_falls : (limit : ℕ) (rows : List KeyRow) → LabelsRise rows → IsPartitioned (λ (row : KeyRow). nat_le row.0 limit) rows
label_falls limit [] rise = tt
label_falls limit (row ∷ rows) rise = (
  λ past. all_weaker (λ (later : KeyRow). row.0 < later.0) (λ (later : KeyRow). nat_le later.0 limit ≡ false) rows (λ later order. label_past limit row.0 later.0 past order) rise.0,
  label_falls limit rows rise.1,
)

pub key_falls : (key : ℤ) (limit : ℕ) (rows : List KeyRow) → AreByKey rows → IsPartitioned (reaches key limit) rows
key_falls key limit [] order = tt
key_falls key limit (row ∷ rows) order = (
  λ past. all_weaker (λ (later : KeyRow). stands_before row later ≡ true) (λ (later : KeyRow). pair_up_to (key_of later.1) later.0 key limit ≡ false) rows
      (λ later before. pair_past (key_of row.1) row.0 (key_of later.1) later.0 key limit past before) order.0,
  key_falls key limit rows order.1,
)

pub lt_is_not_le : (limit label : ℕ) → nat_lt limit label ≡ not (nat_le label limit)
lt_is_not_le limit label = grind (arith, nat_tests)

-- rows in two parts are all rows
pub parted : (label : ℕ) (rows : List KeyRow) → LabelsRise rows → up_to label rows ++ behind label rows ≡ rows
parted label rows rise =
    ap (λ back. up_to label rows ++ back) (filter-same (λ row. nat_lt label row.0) (λ row. not (nat_le row.0 label)) (λ row. lt_is_not_le label row.0) rows)
    ∙ joined (λ (row : KeyRow). nat_le row.0 label) rows (label_falls label rows rise)

pub by_key_filter : (test : KeyRow → Bool) (rows : List KeyRow) → AreByKey rows → AreByKey (filter test rows)
by_key_filter test [] order = tt
by_key_filter test (row ∷ rows) order = elim (test row) as (λ b. AreByKey (cond b (row ∷ filter test rows) (filter test rows))) [
  | true ↦ (all_filter test (λ (later : KeyRow). stands_before row later ≡ true) rows order.0, by_key_filter test rows order.1)
  | false ↦ by_key_filter test rows order.1
]

pub rise_filter : (test : KeyRow → Bool) (rows : List KeyRow) → LabelsRise rows → LabelsRise (filter test rows)
rise_filter test [] rise = tt
rise_filter test (row ∷ rows) rise = elim (test row) as (λ b. LabelsRise (cond b (row ∷ filter test rows) (filter test rows))) [
  | true ↦ (all_filter test (λ (later : KeyRow). row.0 < later.0) rows rise.0, rise_filter test rows rise.1)
  | false ↦ rise_filter test rows rise.1
]

pair_through : (k : ℤ) (l : ℕ) (j : ℤ) (m : ℕ) (i : ℤ) (n : ℕ) → pair_before k l j m ≡ true → pair_before j m i n ≡ true → pair_before k l i n ≡ true
pair_through k l j m i n first second = grind (arith, ints, nat_tests)

pub before_through : (a b c : KeyRow) → stands_before a b ≡ true → stands_before b c ≡ true → stands_before a c ≡ true
before_through a b c first second = pair_through (key_of a.1) a.0 (key_of b.1) b.0 (key_of c.1) c.0 first second

-- a row between rows that stand before it and rows that stand after it
pub rise_around : (front back : List KeyRow) (row : KeyRow) → LabelsRise front → AllByRecursion (λ (r : KeyRow). r.0 < row.0) front
    → LabelsRise back → AllByRecursion (λ (r : KeyRow). row.0 < r.0) back → LabelsRise (front ++ row ∷ back)
rise_around [] back row rise below rest above = (above, rest)
rise_around (first ∷ front) back row rise below rest above = (
  all-append (λ (r : KeyRow). first.0 < r.0) front (row ∷ back) rise.0
      (below.0, all_weaker (λ (r : KeyRow). row.0 < r.0) (λ (r : KeyRow). first.0 < r.0) back (λ r over. omega (arith, below.0)) above),
  rise_around front back row rise.1 below.1 rest above,
)

pub by_key_around : (front back : List KeyRow) (row : KeyRow) → AreByKey front → AllByRecursion (λ (r : KeyRow). stands_before r row ≡ true) front
    → AreByKey back → AllByRecursion (λ (r : KeyRow). stands_before row r ≡ true) back → AreByKey (front ++ row ∷ back)
by_key_around [] back row order below rest above = (above, rest)
by_key_around (first ∷ front) back row order below rest above = (
  all-append (λ (r : KeyRow). stands_before first r ≡ true) front (row ∷ back) order.0
      (below.0, all_weaker (λ (r : KeyRow). stands_before row r ≡ true) (λ (r : KeyRow). stands_before first r ≡ true) back (λ r over. before_through first row r below.0 over) above),
  by_key_around front back row order.1 below.1 rest above,
)

-- and what is left without it
pub rise_without : (front back : List KeyRow) (row : KeyRow) → LabelsRise (front ++ row ∷ back) → LabelsRise (front ++ back)
rise_without [] back row rise = rise.1
rise_without (first ∷ front) back row rise = (
  all-append (λ (r : KeyRow). first.0 < r.0) front back (all_front (λ (r : KeyRow). first.0 < r.0) front (row ∷ back) rise.0) (all_after (λ (r : KeyRow). first.0 < r.0) front (row ∷ back) rise.0).1,
  rise_without front back row rise.1,
)

pub by_key_without : (front back : List KeyRow) (row : KeyRow) → AreByKey (front ++ row ∷ back) → AreByKey (front ++ back)
by_key_without [] back row order = order.1
by_key_without (first ∷ front) back row order = (
  all-append (λ (r : KeyRow). stands_before first r ≡ true) front back (all_front (λ (r : KeyRow). stands_before first r ≡ true) front (row ∷ back) order.0)
      (all_after (λ (r : KeyRow). stands_before first r ≡ true) front (row ∷ back) order.0).1,
  by_key_without front back row order.1,
)

-- rows before one stand before it, and those after it after it
pub by_key_front : (front back : List KeyRow) (row : KeyRow) → AreByKey (front ++ row ∷ back) → AllByRecursion (λ (r : KeyRow). stands_before r row ≡ true) front
by_key_front [] back row order = tt
by_key_front (first ∷ front) back row order = ((all_after (λ (r : KeyRow). stands_before first r ≡ true) front (row ∷ back) order.0).0, by_key_front front back row order.1)

pub by_key_back : (front back : List KeyRow) (row : KeyRow) → AreByKey (front ++ row ∷ back) → AllByRecursion (λ (r : KeyRow). stands_before row r ≡ true) back
by_key_back [] back row order = order.0
by_key_back (first ∷ front) back row order = by_key_back front back row order.1
