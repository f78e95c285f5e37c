-- A piece that is fused with one more row of the second piece is the fused piece with one more row. Of a taking there are four cases: the
-- second piece leaves nothing, and the first has nothing to stay, or something; or the second leaves something, and its least entry is
-- taken, or the least that stays of the first.
use Rattle.std.proofs.Common.{◌≡◌, ℕ, ◌+◌, ◌-◌, true, false, List, [], ◌∷◌, ◌++◌, length, refl, ap, sym, ◌∙◌, arith, subst, append_assoc}
use Rattle.retro_base.specs.declared.op.Op.{Op}
use Rattle.retro_base.specs.declared.op.Op.TheVariants.{Enq, Deq, Push, Pop, PushL, PushR, PopL, PopR, Put, Del, Ins, DelMin}
use Rattle.retro_base.specs.declared.row.Entry.{Entry}
use Rattle.retro_base.specs.EntriesInOrder.{AreInOrder}
use Rattle.retro_base.specs.State.{comes_before, with_entry}
use Rattle.retro_base.specs.lemmas.bridges.EntryOrder.{before_one_way}
use Rattle.retro_base.specs.lemmas.CountedEntries.{with_length}
use Rattle.pq_fusion.specs.Pieces.{PieceParts, IsRising, no_parts, after_take, after_row, together, greatest, all_but_greatest, met, kept, fuse}
use Rattle.pq_fusion.proofs.Order.{IsLeast, least_further, least_first, least_with, order_with, with_either, together_none, together_more}
use Rattle.pq_fusion.proofs.Order.{order_together, least_together, length_together, together_alone, with_in_first, with_in_second, with_none}
use Rattle.pq_fusion.proofs.Split.{InParts, parts_of, lesser_is, greater_is, order_front, order_back, least_moves, with_lesser, with_greater}

-- a piece by its parts
abbrev pub parts : List Entry → List Entry → ℕ → PieceParts
parts left removed unmet = record { left = left; removed = removed; unmet = unmet }

pub same_parts : (k l r s : List Entry) (m n : ℕ) → k ≡ l → r ≡ s → m ≡ n → parts k r m ≡ parts l s n
same_parts k l r s m n e f g = rw (e, f, g) refl

abbrev take_of : PieceParts → PieceParts
take_of piece = after_take piece.left piece.removed piece.unmet

-- two pieces fused, by the parts of what the first leaves and the second removes
abbrev made : PieceParts → PieceParts → List Entry → List Entry → PieceParts
made a b lesser greater = parts (together b.left greater) (together a.removed lesser) (a.unmet + (b.unmet - length a.left))

fuse_is : (a b : PieceParts) (lesser greater : List Entry) → InParts (met a b) (kept a b) lesser greater → fuse a b ≡ made a b lesser greater
unfolding fuse
fuse_is a b lesser greater split =
    same_parts _ _ _ _ _ _ (ap (together b.left) (greater_is (met a b) (kept a b) lesser greater split))
    (ap (together a.removed) (lesser_is (met a b) (kept a b) lesser greater split)) refl

met_parts : (a b : PieceParts) → InParts (met a b) (kept a b) (all_but_greatest (kept a b) (met a b)) (greatest (kept a b) (met a b))
met_parts a b = parts_of (met a b) (kept a b) (omega (arith, length_together a.left b.removed))

-- the second piece leaves nothing: the least that stays of the first is taken, or nothing
take_of_first : (a : PieceParts) (removed : List Entry) (unmet : ℕ) (lesser greater : List Entry) → AreInOrder (together a.left removed)
    → InParts (together a.left removed) (length a.left - unmet) lesser greater
    → fuse a (parts [] removed (unmet + 1)) ≡ take_of (made a (parts [] removed unmet) lesser greater)
take_of_first a removed unmet lesser [] order split =
    fuse_is a (parts [] removed (unmet + 1)) lesser [] (record { joined = split.joined; counted = omega (arith, split.counted) })
    ∙ same_parts _ _ _ _ _ _ (together_none []) refl (omega (arith, split.counted))
    ∙ ap (λ l. after_take l (together a.removed lesser) (a.unmet + (unmet - length a.left))) (sym (together_none []))
take_of_first a removed unmet lesser (t ∷ ts) order split =
    let ordered : AreInOrder (lesser ++ t ∷ ts) = subst AreInOrder split.joined order in
    let moved : lesser ++ t ∷ [] ≡ with_entry t lesser = least_moves lesser ts t ordered in
    fuse_is a (parts [] removed (unmet + 1)) (lesser ++ t ∷ []) ts (record { joined = split.joined ∙ sym (append_assoc lesser (t ∷ []) ts); counted = omega (arith, split.counted) })
    ∙ same_parts _ _ _ _ _ _ (together_none ts) (ap (together a.removed) moved ∙ with_in_second t a.removed lesser) (omega (arith, split.counted))
    ∙ ap (λ l. after_take l (together a.removed lesser) (a.unmet + (unmet - length a.left))) (sym (together_none (t ∷ ts)))

-- the least entry that the second leaves comes before all that stays of the first: it is taken
take_of_second : (a : PieceParts) (y : Entry) (ys removed : List Entry) (unmet : ℕ) (lesser greater : List Entry) → IsLeast y ys → IsLeast y greater
    → InParts (together a.left removed) (length a.left - unmet) lesser greater
    → fuse a (parts ys (with_entry y removed) unmet) ≡ take_of (made a (parts (y ∷ ys) removed unmet) lesser greater)
take_of_second a y ys removed unmet lesser greater least below split =
    let joined : together a.left (with_entry y removed) ≡ with_entry y lesser ++ greater =
    with_in_second y a.left removed ∙ ap (with_entry y) split.joined ∙ with_lesser y lesser greater below in
    fuse_is a (parts ys (with_entry y removed) unmet) (with_entry y lesser) greater (record { joined = joined; counted = split.counted })
    ∙ same_parts _ _ _ _ _ _ refl (with_in_second y a.removed lesser) refl
    ∙ ap (λ l. after_take l (together a.removed lesser) (a.unmet + (unmet - length a.left)))
    (sym (together_more y ys greater ∙ least_first y (together ys greater) (least_together y ys greater least below)))

-- the least that stays of the first is no greater than it: that one is taken
take_of_staying : (a : PieceParts) (y : Entry) (ys removed : List Entry) (unmet : ℕ) (lesser : List Entry) (t : Entry) (ts : List Entry) → IsLeast y ys
    → AreInOrder (together a.left removed) → comes_before y t ≡ false
    → InParts (together a.left removed) (length a.left - unmet) lesser (t ∷ ts)
    → fuse a (parts ys (with_entry y removed) unmet) ≡ take_of (made a (parts (y ∷ ys) removed unmet) lesser (t ∷ ts))
take_of_staying a y ys removed unmet lesser t ts least order later split =
    let ordered : AreInOrder (lesser ++ t ∷ ts) = subst AreInOrder split.joined order in
    let above : IsLeast t ts = (order_back lesser (t ∷ ts) ordered).0 in
    let moved : lesser ++ t ∷ [] ≡ with_entry t lesser = least_moves lesser ts t ordered in
    let joined : together a.left (with_entry y removed) ≡ (lesser ++ t ∷ []) ++ with_entry y ts =
    with_in_second y a.left removed ∙ ap (with_entry y) split.joined ∙ with_greater y lesser ts t ordered later ∙ sym (append_assoc lesser (t ∷ []) (with_entry y ts)) in
    let first : with_entry y (together ys (t ∷ ts)) ≡ t ∷ with_entry y (together ys ts) =
    ap (λ l. with_entry y (together ys l)) (sym (least_first t ts above)) ∙ ap (with_entry y) (with_in_second t ys ts) ∙ with_either y t (together ys ts)
    ∙ least_first t (with_entry y (together ys ts)) (least_with t y (together ys ts) (least_together t ys ts (least_further t y ys later least) above) later) in
    fuse_is a (parts ys (with_entry y removed) unmet) (lesser ++ t ∷ []) (with_entry y ts) (record { joined = joined; counted = omega (arith, with_length y ts, split.counted) })
    ∙ same_parts _ _ _ _ _ _ (with_in_second y ys ts) (ap (together a.removed) moved ∙ with_in_second t a.removed lesser) refl
    ∙ ap (λ l. after_take l (together a.removed lesser) (a.unmet + (unmet - length a.left))) (sym (together_more y ys (t ∷ ts) ∙ first))

take_of_some : (a : PieceParts) (y : Entry) (ys removed : List Entry) (unmet : ℕ) (lesser greater : List Entry) → IsLeast y ys
    → AreInOrder (together a.left removed)
    → InParts (together a.left removed) (length a.left - unmet) lesser greater
    → fuse a (parts ys (with_entry y removed) unmet) ≡ take_of (made a (parts (y ∷ ys) removed unmet) lesser greater)
take_of_some a y ys removed unmet lesser [] least order split = take_of_second a y ys removed unmet lesser [] least tt split
take_of_some a y ys removed unmet lesser (t ∷ ts) least order split =
    elim (comes_before t y) as (λ b. comes_before t y ≡ b → fuse a (parts ys (with_entry y removed) unmet) ≡ take_of (made a (parts (y ∷ ys) removed unmet) lesser (t ∷ ts))) [
      | true ↦ λ before. take_of_staying a y ys removed unmet lesser t ts least order (before_one_way t y before) split
      | false ↦ λ after.
          let ordered : AreInOrder (lesser ++ t ∷ ts) = subst AreInOrder split.joined order in
          take_of_second a y ys removed unmet lesser (t ∷ ts) least (after, least_further y t ts after (order_back lesser (t ∷ ts) ordered).0) split
    ] refl

fuse_take : (a : PieceParts) (left removed : List Entry) (unmet : ℕ) → AreInOrder left → AreInOrder removed
    → fuse a (after_take left removed unmet) ≡ take_of (fuse a (parts left removed unmet))
fuse_take a [] removed unmet first second =
    let split = met_parts a (parts [] removed unmet) in
    take_of_first a removed unmet _ _ (order_together a.left removed second) split ∙ ap take_of (sym (fuse_is a (parts [] removed unmet) _ _ split))
fuse_take a (y ∷ ys) removed unmet first second =
    let split = met_parts a (parts (y ∷ ys) removed unmet) in
    take_of_some a y ys removed unmet _ _ first.0 (order_together a.left removed second) split ∙ ap take_of (sym (fuse_is a (parts (y ∷ ys) removed unmet) _ _ split))

fuse_add : (a b : PieceParts) (e : Entry) → fuse a (parts (with_entry e b.left) b.removed b.unmet) ≡ parts (with_entry e (fuse a b).left) (fuse a b).removed (fuse a b).unmet
unfolding fuse
fuse_add a b e = same_parts _ _ _ _ _ _ (with_in_first e b.left _) refl refl

pub fuse_row : (op : Op) (number : ℕ) (a b : PieceParts) → IsRising b → fuse a (after_row op number b) ≡ after_row op number (fuse a b)
unfolding after_row
fuse_row (Enq v) number a b rising = refl
fuse_row Deq number a b rising = refl
fuse_row (Push v) number a b rising = refl
fuse_row Pop number a b rising = refl
fuse_row (PushL v) number a b rising = refl
fuse_row (PushR v) number a b rising = refl
fuse_row PopL number a b rising = refl
fuse_row PopR number a b rising = refl
fuse_row (Put k v) number a b rising = refl
fuse_row (Del k) number a b rising = refl
fuse_row (Ins k) number a b rising = fuse_add a b (record { key = k; number = number })
fuse_row DelMin number a b rising = fuse_take a b.left b.removed b.unmet rising.left rising.removed

-- one more row keeps the lists rising
rising_take : (left removed : List Entry) (unmet : ℕ) → AreInOrder left → AreInOrder removed → IsRising (after_take left removed unmet)
rising_take [] removed unmet first second = record { left = tt; removed = second }
rising_take (x ∷ xs) removed unmet first second = record { left = first.1; removed = order_with x removed second }

pub rising_row : (op : Op) (number : ℕ) (a : PieceParts) → IsRising a → IsRising (after_row op number a)
unfolding after_row
rising_row (Enq v) number a rising = rising
rising_row Deq number a rising = rising
rising_row (Push v) number a rising = rising
rising_row Pop number a rising = rising
rising_row (PushL v) number a rising = rising
rising_row (PushR v) number a rising = rising
rising_row PopL number a rising = rising
rising_row PopR number a rising = rising
rising_row (Put k v) number a rising = rising
rising_row (Del k) number a rising = rising
rising_row (Ins k) number a rising = record { left = order_with (record { key = k; number = number }) a.left rising.left; removed = rising.removed }
rising_row DelMin number a rising = rising_take a.left a.removed a.unmet rising.left rising.removed

-- so do two pieces
rising_made : (a b : PieceParts) (lesser greater : List Entry) → IsRising b → InParts (met a b) (kept a b) lesser greater → IsRising (made a b lesser greater)
rising_made a b lesser greater rising split =
    let ordered : AreInOrder (lesser ++ greater) = subst AreInOrder split.joined (order_together a.left b.removed rising.removed) in
    record {
      left = order_together b.left greater (order_back lesser greater ordered);
      removed = order_together a.removed lesser (order_front lesser greater ordered);
    }

pub fused_rise : (a b : PieceParts) → IsRising a → IsRising b → IsRising (fuse a b)
fused_rise a b first second = rw (fuse_is a b _ _ (met_parts a b)) (rising_made a b _ _ second (met_parts a b))

-- the piece of no rows is a unit
no_less : (n : ℕ) → 0 + (n - 0) ≡ n
no_less n = omega arith

pub unit_before : (a : PieceParts) → IsRising a → fuse no_parts a ≡ a
unit_before a rising =
    let split : InParts (together [] a.removed) (0 - a.unmet) a.removed [] = record { joined = together_none a.removed ∙ with_none a.removed; counted = omega arith } in
    fuse_is no_parts a a.removed [] split
    ∙ same_parts _ _ _ _ _ _ (together_alone a.left rising.left) (together_none a.removed) (no_less a.unmet)

pub unit_after : (a : PieceParts) → IsRising a → fuse a no_parts ≡ a
unit_after a rising =
    let split : InParts (together a.left []) (length a.left - 0) [] a.left = record { joined = together_alone a.left rising.left; counted = omega arith } in
    fuse_is a no_parts [] a.left split
    ∙ same_parts _ _ _ _ _ _ (together_none a.left) (together_alone a.removed rising.removed) (omega arith)
