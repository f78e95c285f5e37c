-- A read of the items of a node, put together from its two sides: what it writes, and the nodes that it visits.
use Rattle.std.proofs.Common.{◌≡◌, ℕ, zero, suc, ◌+◌, ◌-◌, ◌<◌, ◌≤◌, List, [], ◌∷◌, ◌++◌, map, take, drop, length, length-append, refl, sym, ap, ◌∙◌, arith}
use Rattle.std.specs.Prelude.{slice_set}
use Rattle.std.proofs.Math.Seq.{take-append-add, take-append_seam, drop-append-add}
use Rattle.std.proofs.lemmas.List.{append_assoc, append-nil, take-append-le, take-append-drop, map-append, length-map, set_split, length-take-le, length-drop, drop-drop}
use Rattle.weighted_tree.specs.Balance.{Part, weight}
use Rattle.weighted_tree.specs.Nodes.{IsRoot}
use Rattle.weighted_tree.specs.Reads.{overwritten, edge, VisitsOfRead}
use Rattle.weighted_tree.specs.declared.subtree.Node.{Node}
use Rattle.costs.specs.Visits.{VisitsWithin}
use Rattle.weighted_tree.proofs.Levels.{few-by_levels, few_beside, few_in_leaf}
use Rattle.weighted_tree.proofs.Ranges.{drop-before, drop-after}

module _ {A : Type 0} (former : List A) where
  -- two writes side by side are one
  pub overwritten_on : (place : ℕ) (first second : List A) (next : ℕ) → place ≤ length former → next ≡ place + length first
      → overwritten (overwritten former place first) next second ≡ overwritten former place (first ++ second)
  overwritten_on place first second next within next_is =
      let front = take place former ++ first in
      let rest = drop (place + length first) former in
      let long : next ≡ length front = omega (arith, length-append (take place former) first, length-take-le place former within) in
      let start : take next (front ++ rest) ≡ front = ap (λ n. take n (front ++ rest)) long ∙ take-append_seam front rest in
      let end : drop (next + length second) (front ++ rest) ≡ drop (place + length (first ++ second)) former =
      ap (λ n. drop (n + length second) (front ++ rest)) long ∙ drop-append-add front rest (length second) ∙ drop-drop (length second) (place + length first) former
      ∙ ap (λ n. drop n former) (let sum : place + length first + length second ≡ place + length (first ++ second) = omega (arith, length-append first second) in sum) in
      ap (λ xs. xs ++ second ++ drop (next + length second) (front ++ rest)) start ∙ ap (λ xs. front ++ second ++ xs) end
      ∙ ap (λ xs. xs ++ drop (place + length (first ++ second)) former) (append_assoc (take place former) first second)

  pub set_overwritten : (place : ℕ) (x : A) → place < length former → slice_set former place x ≡ overwritten former place (x ∷ [])
  set_overwritten place x within =
      set_split former place x within
      ∙ ap (λ n. take place former ++ x ∷ drop n former) (let next : suc place ≡ place + length (x ∷ []) = omega arith in next)
      ∙ sym (append_assoc (take place former) (x ∷ []) (drop (place + length (x ∷ [])) former))

take_none : {A : Type 0} (xs : List A) → [] ≡ take 0 xs
take_none [] = refl
take_none (x ∷ xs) = refl

-- nothing written
pub written_none : {A B : Type 0} (shows : A → B) (former : List B) (place : ℕ) (xs : List A) → former ≡ overwritten former place (map shows (take (place - place) xs))
written_none shows former place xs =
    let none : 0 ≡ place - place = omega arith in
    let here : place ≡ place + 0 = omega arith in
    sym (take-append-drop place former)
    ∙ ap (λ n. take place former ++ drop n former) here
    ∙ ap (λ xs. xs ++ drop (place + 0) former) (sym (append-nil (take place former)))
    ∙ ap (λ ys. overwritten former place (map shows ys)) (take_none xs ∙ ap (λ n. take n xs) none)

module _ {A : Type 0} (items left right : List A) (item : A) (split : items ≡ left ++ item ∷ right) where
  pub drop_right : (from inner : ℕ) → length left < from → inner ≡ from - length left - 1 → drop inner right ≡ drop from items
  drop_right from inner beyond inner_is = ap (λ n. drop n right) inner_is ∙ sym (ap (drop from) split ∙ drop-after left right item from beyond)

  -- the rest of the left side, the item, and some of the right side
  take_both : (from count more : ℕ) → from ≤ length left → count ≡ length left - from + suc more → take count (drop from items) ≡ drop from left ++ item ∷ take more right
  take_both from count more within count_is =
      ap (take count) (ap (drop from) split ∙ drop-before left right item from within)
      ∙ ap (λ n. take n (drop from left ++ item ∷ right)) (let same : count ≡ length (drop from left) + suc more = omega (arith, length-drop from left) in same)
      ∙ take-append-add (drop from left) (item ∷ right) (suc more)

  -- some of the rest of the left side
  pub written_left : (from count : ℕ) → from ≤ length left → count ≤ length left - from → take count (drop from left) ≡ take count (drop from items)
  written_left from count within few =
      sym (ap (take count) (ap (drop from) split ∙ drop-before left right item from within)
      ∙ take-append-le count (drop from left) (item ∷ right) (omega (arith, length-drop from left)))

  take_left : (from : ℕ) → from ≤ length left → take (length left - from) (drop from left) ≡ drop from left
  take_left from within = let same : length left - from ≡ length (drop from left) = omega (arith, length-drop from left) in ap (λ n. take n (drop from left)) same ∙ take_own (drop from left) where
    take_own : (xs : List A) → take (length xs) xs ≡ xs
    take_own [] = refl
    take_own (x ∷ xs) = ap (λ ys. x ∷ ys) (take_own xs)

  pub written_both : {B : Type 0} (shows : A → B) (former first last : List B) (filled from end result : ℕ) → filled ≤ length former → from ≤ length left → end
      ≡ filled + (length left - from) → end < length first → end + 1 ≤ result
      → first ≡ overwritten former filled (map shows (take (end - filled) (drop from left)))
      → last ≡ overwritten (slice_set first end (shows item)) (end + 1) (map shows (take (result - (end + 1)) (drop 0 right)))
      → last ≡ overwritten former filled (map shows (take (result - filled) (drop from items)))
  written_both shows former first last filled from end result room within end_is free after first_is last_is =
      let near = map shows (drop from left) in
      let far = map shows (take (result - (end + 1)) right) in
      let near_is : first ≡ overwritten former filled near = first_is
      ∙ ap (λ n. overwritten former filled (map shows (take n (drop from left)))) (let all : end - filled ≡ length left - from = omega arith in all)
      ∙ ap (λ xs. overwritten former filled (map shows xs)) (take_left from within) in
      let far_is : slice_set first end (shows item) ≡ overwritten first end (shows item ∷ []) = set_overwritten first end (shows item) free in
      let long : length near ≡ length left - from = length-map (drop from left) shows ∙ length-drop from left in
      let next : end ≡ filled + length near = omega arith in
      last_is ∙ ap (λ xs. overwritten xs (end + 1) far) far_is
      ∙ overwritten_on first end (shows item ∷ []) far (end + 1) (omega arith) (omega arith)
      ∙ ap (λ xs. overwritten xs end (shows item ∷ far)) near_is
      ∙ overwritten_on former filled near (shows item ∷ far) end room next
      ∙ ap (overwritten former filled) (sym (map-append shows (drop from left) (item ∷ take (result - (end + 1)) right)))
      ∙ ap (λ xs. overwritten former filled (map shows xs)) (sym (take_both from (result - filled) (result - (end + 1)) within (omega arith)))

-- at an end of the range there is at most one node a level
edge_within : (beyond levels : ℕ) → edge beyond levels ≤ levels
edge_within zero levels = omega arith
edge_within (suc beyond) levels = omega arith

edge_more : (beyond levels : ℕ) → edge beyond levels ≤ edge beyond (suc levels)
edge_more zero levels = omega arith
edge_more (suc beyond) levels = omega arith

edge_some : (beyond levels : ℕ) → 0 < beyond → edge beyond levels ≡ levels
edge_some zero levels some = absurd (omega arith)
edge_some (suc beyond) levels some = refl

module _ {A M : Type 0} (part : Part A) (node : Node A M) (start visited : ℕ) (root : IsRoot part node) (visit : visited ≡ start + 1) (from rest end : ℕ) where
  sides : weight part ≡ weight node.left + weight node.right
  sides = omega (arith, root.nodes_are)

  -- in the right side alone
  pub read_right : (inner read left : ℕ) → 0 < from → left ≡ rest → VisitsOfRead (weight node.right) inner left (visited + read) end → VisitsOfRead (weight part) from rest (start + read) end
  read_right inner read left some left_is below zero within = absurd (omega (arith, sides))
  read_right inner read left some left_is below (suc levels) within =
      omega (arith, below levels (within (weight node.right) (omega (arith, sides, root.balanced))), edge_within inner levels, edge_some from (suc levels) some, ap (λ n. edge n levels) left_is, edge_more rest levels)

  -- in the left side alone
  pub read_left : (inner read : ℕ) → 0 < rest → VisitsOfRead (weight node.left) from inner (visited + read) end → VisitsOfRead (weight part) from rest (start + read) end
  read_left inner read some below zero within = absurd (omega (arith, sides))
  read_left inner read some below (suc levels) within =
      omega (arith, below levels (within (weight node.left) (omega (arith, sides, root.balanced))), edge_within inner levels, edge_some rest (suc levels) some, edge_more from levels)

  -- to the end of the left side, and on into the right one
  pub read_both : (none first middle second left read : ℕ) → none ≡ 0 → left ≡ rest → read ≡ first + 1 + second → VisitsOfRead (weight node.left) from none (visited + first) middle
      → VisitsOfRead (weight node.right) 0 left (middle + second) end → VisitsOfRead (weight part) from rest (start + read) end
  read_both none first middle second left read none_is left_is read_is near far zero within = absurd (omega (arith, sides))
  read_both none first middle second left read none_is left_is read_is near far (suc levels) within =
      omega (
        arith,
        near levels (within (weight node.left) (omega (arith, sides, root.balanced))),
        far levels (within (weight node.right) (omega (arith, sides, root.balanced))),
        ap (λ n. edge n levels) none_is,
        ap (λ n. edge n levels) left_is,
        edge_more from levels,
        edge_more rest levels,
      )

-- beside one visit an item, two nodes a level are no more than twelve a digit
pub few_by_read : (whole length from rest start before after : ℕ) → start ≡ before → 1 ≤ whole → whole ≤ length + 1 → before ≤ after → VisitsOfRead whole from rest start after
    → VisitsWithin 12 length before after
few_by_read whole length from rest start before after same some light none_lost visits =
    few-by_levels whole length before after some light none_lost (λ levels within. omega (arith, visits levels within, edge_within from levels, edge_within rest levels))

-- beside one visit an item, none in a leaf
pub few_by_leaf : (leaf length from rest start before after : ℕ) → start ≡ before → leaf ≤ 1 → before ≤ after → VisitsOfRead leaf from rest start after → VisitsWithin 12 length before after
few_by_leaf leaf length from rest start before after same none none_lost visits =
    few_in_leaf length before after none_lost (omega (arith, visits 0 none, edge_within from 0, edge_within rest 0))

-- in a root, and then in a leaf
pub few_by_both : (whole leaf length from rest after_leaf none start middle before after : ℕ) → 1 ≤ whole → whole ≤ length + 1 → leaf ≤ 1 → before ≤ after
    → (first second : ℕ) → before ≡ start + first + second → VisitsOfRead whole from rest (start + first) middle → VisitsOfRead leaf none after_leaf (middle + second) after
    → VisitsWithin 12 length before after
few_by_both whole leaf length from rest after_leaf none start middle before after some light small none_lost first second before_is visits more =
    few_beside whole length before after some light none_lost
    (λ levels within. omega (arith, visits levels within, more 0 small, edge_within from levels, edge_within rest levels, edge_within none 0, edge_within after_leaf 0))
