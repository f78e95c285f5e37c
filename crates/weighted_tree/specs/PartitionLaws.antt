-- What the place at which a test turns false says of a list: the elements before it pass, and the others fail.
use Rattle.std.proofs.Common.{◌≡◌, ℕ, zero, suc, ◌≤◌, ◌<◌, Bool, true, false, not, cond, List, [], ◌∷◌, ◌++◌, length, take, drop, get_or, refl, sym, ap, ◌∙◌, arith}
use Rattle.std.specs.Fn.{Shared}
use Rattle.std.specs.Borrow.{Bor}
use Rattle.std.specs.List.{AllByRecursion, filter}
use Rattle.std.specs.List.Sorted.{IsPartitionedBy, IsPartitionPoint}
use Rattle.weighted_tree.specs.Partitioned.{IsPartitioned}
use Rattle.weighted_tree.specs.Search.{TellsItems, FindsPartition}

-- so many elements in front pass the test, and those after them fail it
pub record Divides {A : Type 0} (test : A → Bool) (xs : List A) (count : ℕ) : Type 0 where
  pub front : take count xs ≡ filter test xs
  pub back : drop count xs ≡ filter (λ x. not (test x)) xs
  pub counted : count ≡ length (filter test xs)

module _ {A : Type 0} (test : A → Bool) where
  abbrev IsPoint : List A → ℕ → Type 0
  IsPoint xs count = IsPartitionPoint (λ x. test x ≡ true) (λ x. test x ≡ false) xs count

  fails_at : (xs : List A) (j : ℕ) (d : A) → AllByRecursion (λ x. test x ≡ false) xs → j < length xs → test (get_or xs j d) ≡ false
  fails_at [] j d all within = absurd (omega arith)
  fails_at (x ∷ xs) zero d all within = all.0
  fails_at (x ∷ xs) (suc j) d all within = fails_at xs j d all.1 (omega arith)

  passes_before : (x : A) (xs : List A) (j : ℕ) (d : A) → IsPartitioned test (x ∷ xs) → j < length xs → test (get_or xs j d) ≡ true → test x ≡ true
  passes_before x xs j d parted within holding = elim (test x) as (λ b. test x ≡ b → b ≡ true) [
    | true ↦ λ _. refl
    | false ↦ λ failing. sym (fails_at xs j d (parted.0 failing) within) ∙ holding
  ] refl

  -- none that passes stands after one that fails
  parted_by : (xs : List A) → IsPartitioned test xs → IsPartitionedBy test xs
  parted_by [] parted i j d order within holding = absurd (omega arith)
  parted_by (x ∷ xs) parted zero zero d order within holding = holding
  parted_by (x ∷ xs) parted zero (suc j) d order within holding = passes_before x xs j d parted (omega arith) holding
  parted_by (x ∷ xs) parted (suc i) zero d order within holding = absurd (omega arith)
  parted_by (x ∷ xs) parted (suc i) (suc j) d order within holding = parted_by xs parted.1 i j d (omega arith) (omega arith) holding

  -- at the place where it turns
  pub divides : (xs : List A) (count : ℕ) → count ≤ length xs → IsPoint xs count → Divides test xs count
  divides [] zero within point = record { front = refl; back = refl; counted = refl }
  divides [] (suc count) within point = absurd (omega arith)
  divides (x ∷ xs) zero within point =
      let failing : test x ≡ false = point.1 0 x (omega arith) (omega arith) in
      let rest = divides xs zero (omega arith) (λ k d from to. absurd (omega arith), λ k d from to. point.1 (suc k) d (omega arith) (omega arith)) in
      record {
        front = rw failing rest.front;
        back = rw failing (ap (λ ys. x ∷ ys) rest.back);
        counted = rw failing rest.counted;
      }
  divides (x ∷ xs) (suc count) within point =
      let passing : test x ≡ true = point.0 0 x (omega arith) (omega arith) in
      let rest = divides xs count (omega arith) (λ k d from to. point.0 (suc k) d (omega arith) (omega arith), λ k d from to. point.1 (suc k) d (omega arith) (omega arith)) in
      record {
        front = rw passing (ap (λ ys. x ∷ ys) rest.front);
        back = rw passing rest.back;
        counted = rw passing (ap suc rest.counted);
      }

  -- a list along which the test turns false once is the elements that pass, and then the others
  pub joined : (xs : List A) → IsPartitioned test xs → filter test xs ++ filter (λ x. not (test x)) xs ≡ xs
  joined [] parted = refl
  joined (x ∷ xs) parted = elim (test x) as (λ b. test x ≡ b → cond b (x ∷ filter test xs) (filter test xs) ++ cond (not b) (x ∷ filter (λ y. not (test y)) xs) (filter (λ y. not (test y)) xs) ≡ x ∷ xs) [
    | true ↦ λ passing. ap (λ ys. x ∷ ys) (joined xs parted.1)
    | false ↦ λ failing.
        let rest = divides xs 0 (omega arith) (λ k d from to. absurd (omega arith), λ k d from to. fails_at xs k d (parted.0 failing) to) in
        ap (λ ys. ys ++ x ∷ filter (λ y. not (test y)) xs) (sym rest.front) ∙ ap (λ ys. x ∷ ys) (sym rest.back)
  ] refl

  -- what a search finds, whatever the closure is that tells the test
  module _ {F : Type 0} (calls : Shared F (Bor A × Unit {0}) Bool) (closure : F) (xs : List A) (count : ℕ) (found : FindsPartition calls closure xs count)
      (tells : TellsItems calls closure test) (parted : IsPartitioned test xs) where
    pub point_found : IsPoint xs count
    point_found = found test tells (parted_by xs parted)

    pub divides_found : count ≤ length xs → Divides test xs count
    divides_found within = divides xs count within point_found
