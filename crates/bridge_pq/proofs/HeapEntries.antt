-- A heap of entries in their order: the order in which it keeps them does not matter, and what is on top comes first.
use Rattle.std.proofs.Common.{◌≡◌, ◌≢◌, ℕ, suc, ◌+◌, ◌<◌, true, false, cond, List, [], ◌∷◌, map, length, inl, inr, refl, sym, ap, subst, ◌∙◌, arith, Some, None}
use Rattle.std.specs.Prelude.{if◌then◌else◌, slice_index_or}
use Rattle.std.proofs.lemmas.List.{length-map}
use Rattle.std.specs.BinaryHeap.{IsUpperBound}
use Rattle.std.specs.List.{slice_get, sum_by}
use Rattle.std.specs.List.Sorted.{IsPermutation}
use Rattle.std.specs.declared.cmp.Reverse.{Reverse}
use Rattle.std.proofs.lemmas.List.Sorted.{sum_by_pushed, sum_by-IsPermutation, IsPermutation-refl}
use Rattle.retro_base.specs.declared.row.Entry.{Entry}
use Rattle.retro_base.specs.Bridges.{same_entry}
use Rattle.retro_base.specs.EntriesInOrder.{AreInOrder}
use Rattle.retro_base.specs.State.{comes_before, with_entry}
use Rattle.retro_base.specs.lemmas.bridges.EntryOrder.{before_or_after, same_or_other, same_entry-refl, not_same}
use Rattle.bridge_pq.specs.Gathered.{with_all, IsTaken}
use Rattle.bridge_pq.specs.Heaps.{in_heap, reverse_order}
use Rattle.bridge_pq.proofs.GatheredEntries.{NoneBefore, put_first, all_gathered, gathered_in_order, length_gathered}
use Rattle.bridge_pq.proofs.EntryCmp.{agrees_less}

-- how often an entry is there
abbrev one : Entry → Entry → ℕ
one x y = if same_entry x y then 1 else 0

abbrev count : Entry → List Entry → ℕ
count x [] = 0
count x (y ∷ ys) = one x y + count x ys

one_other : (x y : Entry) → x ≢ y → one x y ≡ 0
one_other x y other = rw (not_same x y other) refl

one_itself : (x : Entry) → one x x ≡ 1
one_itself x = rw (same_entry-refl x) refl

count_put : (x e : Entry) (xs : List Entry) → count x (with_entry e xs) ≡ one x e + count x xs
count_put x e [] = refl
count_put x e (y ∷ ys) = elim (comes_before e y) as (λ b. count x (cond b (e ∷ y ∷ ys) (y ∷ with_entry e ys)) ≡ one x e + (one x y + count x ys)) [
  | true ↦ refl
  | false ↦ omega (arith, count_put x e ys)
]

-- the same in a heap
count_heap : (x : Entry) (items : List (Reverse Entry)) → count x (in_heap items) ≡ sum_by (λ (r : Reverse Entry). one x r.0) items
unfolding with_all
count_heap x [] = refl
count_heap x (r ∷ items) =
    count_put x r.0 (in_heap items) ∙ ap (λ n. one x r.0 + n) (count_heap x items)
    ∙ sym (sum_by_pushed (λ (r : Reverse Entry). one x r.0) r items (r ∷ items) (IsPermutation-refl (r ∷ items)))

-- an entry before the first one is not there
absent : (x y : Entry) (ys : List Entry) → comes_before x y ≡ true → NoneBefore y ys → count x ys ≡ 0
absent x y [] first none = refl
absent x y (z ∷ zs) first none =
    let other : x ≢ z = λ same. let wrong : true ≡ false = sym first ∙ (rw same none.0) in absurd (cc) in
    omega (arith, one_other x z other, absent x y zs first none.1)

not_there : (x y : Entry) (ys : List Entry) → x ≢ y → comes_before x y ≡ true → NoneBefore y ys → count x (y ∷ ys) ≡ 0
not_there x y ys other first none = omega (arith, one_other x y other, absent x y ys first none)

there : (x : Entry) (xs : List Entry) → count x (x ∷ xs) ≡ suc (count x xs)
there x xs = omega (arith, one_itself x)

-- two lists in order with the same entries are one
alike : (xs ys : List Entry) → AreInOrder xs → AreInOrder ys → ((x : Entry) → count x xs ≡ count x ys) → xs ≡ ys
alike [] [] order others same = refl
alike [] (y ∷ ys) order others same = absurd (omega (arith, same y, there y ys))
alike (x ∷ xs) [] order others same = absurd (omega (arith, same x, there x xs))
alike (x ∷ xs) (y ∷ ys) order others same = elim (same_or_other x y) [
  | inl is ↦
      let rest : xs ≡ ys = alike xs ys order.1 others.1 (λ z.
      let both : one z x + count z xs ≡ one z y + count z ys = same z in
      let first : one z x ≡ one z y = ap (one z) is in
      omega (arith, both, first)) in
      rw (is, rest) refl
  | inr other ↦ elim (comes_before x y) as (λ b. comes_before x y ≡ b → x ∷ xs ≡ y ∷ ys) [
    | true ↦ λ first. absurd (omega (arith, same x, there x xs, not_there x y ys other first others.0))
    | false ↦ λ after. absurd (omega (arith, same y, there y ys, not_there y x xs (λ back. other (sym back)) (before_or_after x y other after) order.0))
  ] refl
]

pub heap_in_order : (items : List (Reverse Entry)) → AreInOrder (in_heap items)
heap_in_order items = gathered_in_order (map (λ (r : Reverse Entry). r.0) items) [] tt

-- in whatever order a heap keeps them
pub reordered : (items others : List (Reverse Entry)) → IsPermutation items others → in_heap others ≡ in_heap items
reordered items others permutation = alike (in_heap others) (in_heap items) (heap_in_order others) (heap_in_order items) (λ x.
    count_heap x others ∙ sum_by-IsPermutation (λ (r : Reverse Entry). one x r.0) items others permutation ∙ sym (count_heap x items))

-- what bounds a heap comes first
none_below : (top : Reverse Entry) (items : List (Reverse Entry)) → IsUpperBound reverse_order top items → NoneBefore top.0 (map (λ (r : Reverse Entry). r.0) items)
none_below top [] bound = tt
none_below top (r ∷ items) bound = (agrees_less r.0 top.0 bound.0, none_below top items bound.1)

pub top_first : (top : Reverse Entry) (items : List (Reverse Entry)) → IsUpperBound reverse_order top items → in_heap (top ∷ items) ≡ top.0 ∷ in_heap items
unfolding with_all
top_first top items bound =
    put_first top.0 (in_heap items) (all_gathered (λ y. comes_before y top.0 ≡ false) (map (λ (r : Reverse Entry). r.0) items) [] (none_below top items bound) tt)

-- what is on top is the first
pub least_of : (items : List (Reverse Entry)) (top : Reverse Entry) → 0 < length items → top ≡ slice_index_or items 0 top → IsUpperBound reverse_order top items
    → Some top.0 ≡ slice_get (in_heap items) 0
least_of [] top some is bound = absurd (omega arith)
least_of (r ∷ items) top some is bound =
    let same : top ≡ r = is in
    rw (top_first r items (subst (λ t. IsUpperBound reverse_order t (r ∷ items)) same bound).1) (ap (λ (t : Reverse Entry). Some t.0) same)

-- what goes from the top was the first
pub top_taken : (items rest : List (Reverse Entry)) (top : Reverse Entry) → IsPermutation items (top ∷ rest) → IsUpperBound reverse_order top rest
    → IsTaken (in_heap items) (Some top.0) (in_heap rest)
top_taken items rest top permutation bound =
    let is : in_heap items ≡ top.0 ∷ in_heap rest = sym (reordered items (top ∷ rest) permutation) ∙ top_first top rest bound in
    record { first = rw is refl; others = rw is refl }

pub none_in : (items : List (Reverse Entry)) → length items ≡ 0 → in_heap items ≡ []
unfolding with_all
none_in [] none = refl
none_in (r ∷ items) none = absurd (omega arith)

pub none_least : (items : List (Reverse Entry)) → length items ≡ 0 → None ≡ slice_get (in_heap items) 0
none_least items none = rw (none_in items none) refl

pub none_taken : (items others : List (Reverse Entry)) → length items ≡ 0 → others ≡ items → IsTaken (in_heap items) None (in_heap others)
none_taken items others none same = rw (same, none_in items none) (record { first = refl; others = refl })

pub pushed_in : (entry : Entry) (items others : List (Reverse Entry)) (put : Reverse Entry) → put.0 ≡ entry → IsPermutation (put ∷ items) others → in_heap others ≡ with_entry entry (in_heap items)
unfolding with_all
pushed_in entry items others put is permutation = reordered (put ∷ items) others permutation ∙ ap (λ e. with_entry e (in_heap items)) is

pub heap_length : (items : List (Reverse Entry)) → length (in_heap items) ≡ length items
heap_length items = omega (arith, length_gathered (map (λ (r : Reverse Entry). r.0) items) [], length-map items (λ (r : Reverse Entry). r.0))

pub empty_heap : (items : List (Reverse Entry)) → items ≡ [] → in_heap items ≡ []
unfolding with_all
empty_heap items is = rw is refl
