-- The place of a mark, by the number of marks in front of a place. The layers above may cite these laws.
use Rattle.std.proofs.Common.{◌≡◌, ℕ, zero, suc, ◌+◌, ◌<◌, ◌≤◌, ℤ, Bool, true, false, List, [], ◌∷◌, take, Some, refl, ap, sym, ◌∙◌, arith}
use Rattle.std.specs.Prelude.{if◌then◌else◌}
use Rattle.prefix_trees.specs.SignPrefixes.{marks_in, IsKthMarked}

-- a longer prefix has no fewer marks
pub marks-rise : (items : List (ℤ × Bool)) (place later : ℕ) → place ≤ later → marks_in (take place items) ≤ marks_in (take later items)
marks-rise items zero later order = omega arith
marks-rise items (suc place) zero order = absurd (omega arith)
marks-rise [] (suc place) (suc later) order = omega arith
marks-rise (item ∷ items) (suc place) (suc later) order = omega (arith, marks-rise items place later (omega arith))

marked_first : (sign : ℤ) (b : Bool) (k : ℕ) → k < (if b then 1 else 0) + 0 → (◌≡◌ {A = Bool} b true) × (k ≡ 0)
marked_first sign true k more = (refl, omega arith)
marked_first sign false k more = absurd (omega arith)

first_is : (item : ℤ × Bool) (items : List (ℤ × Bool)) (k : ℕ) → k < (if item.1 then 1 else 0) + 0 → IsKthMarked (item ∷ items) k 0
first_is item items k more =
    let found = marked_first item.0 item.1 k more in
    record {
      marked = (item.0, ap (λ b. Some (item.0, b)) found.0);
      before = sym found.1;
    }

one_further : (item : ℤ × Bool) (items : List (ℤ × Bool)) (j k place : ℕ) → k ≡ (if item.1 then 1 else 0) + j → IsKthMarked items j place → IsKthMarked (item ∷ items) k (suc place)
one_further item items j k place more kth = record {
  marked = kth.marked;
  before = ap (λ n. (if item.1 then 1 else 0) + n) kth.before ∙ sym more;
}

less_one : (m k : ℕ) → m ≤ k → (j : ℕ) × (k ≡ m + j)
less_one zero k order = (k, omega arith)
less_one (suc m) zero order = absurd (omega arith)
less_one (suc m) (suc k) order = let rest = less_one m k (omega arith) in (rest.0, omega (arith, rest.1))

-- where the number of marks comes to exceed k, there is the k-th
pub kth-is : (items : List (ℤ × Bool)) (k place : ℕ) → marks_in (take place items) ≤ k → k < marks_in (take (suc place) items) → IsKthMarked items k place
kth-is [] k zero few more = absurd (omega arith)
kth-is [] k (suc place) few more = absurd (omega arith)
kth-is (item ∷ items) k zero few more = first_is item items k more
kth-is (item ∷ items) k (suc place) few more =
    let less = less_one (if item.1 then 1 else 0) k (omega (arith, few)) in
    one_further item items less.0 k place less.1 (kth-is items less.0 place (omega (arith, few, less.1)) (omega (arith, more, less.1)))
