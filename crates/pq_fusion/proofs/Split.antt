-- Rising entries in two parts, the lesser ones and the greater ones: where one more comes to stand.
use Rattle.std.proofs.Common.{◌≡◌, ℕ, zero, suc, ◌-◌, ◌≤◌, true, false, cond, List, [], ◌∷◌, ◌++◌, length, take, drop, refl, ap, sym, ◌∙◌, arith, length-append}
use Rattle.std.proofs.lemmas.List.{take-append-drop, length-drop}
use Rattle.retro_base.specs.declared.row.Entry.{Entry}
use Rattle.retro_base.specs.EntriesInOrder.{AreInOrder}
use Rattle.retro_base.specs.State.{comes_before, with_entry}
use Rattle.retro_base.specs.lemmas.bridges.Entries.{with_later}
use Rattle.pq_fusion.specs.Pieces.{greatest, all_but_greatest}
use Rattle.pq_fusion.proofs.Order.{IsLeast, not_earlier, least_first}

-- the parts in which the greater ones are so many
pub record InParts (entries : List Entry) (n : ℕ) (lesser greater : List Entry) : Type 0 where
  pub joined : entries ≡ lesser ++ greater
  pub counted : length greater ≡ n

pub parts_of : (entries : List Entry) (n : ℕ) → n ≤ length entries → InParts entries n (all_but_greatest n entries) (greatest n entries)
parts_of entries n within = record {
  joined = sym (take-append-drop (length entries - n) entries);
  counted = omega (arith, length-drop (length entries - n) entries);
}

take_seam : (xs ys : List Entry) (k : ℕ) → k ≡ length xs → take k (xs ++ ys) ≡ xs
take_seam [] ys k here = rw here refl
take_seam (x ∷ xs) ys zero here = absurd (omega (arith, here))
take_seam (x ∷ xs) ys (suc k) here = ap (λ l. x ∷ l) (take_seam xs ys k (omega (arith, here)))

drop_seam : (xs ys : List Entry) (k : ℕ) → k ≡ length xs → drop k (xs ++ ys) ≡ ys
drop_seam [] ys k here = rw here refl
drop_seam (x ∷ xs) ys zero here = absurd (omega (arith, here))
drop_seam (x ∷ xs) ys (suc k) here = drop_seam xs ys k (omega (arith, here))

pub lesser_is : (entries : List Entry) (n : ℕ) (lesser greater : List Entry) → InParts entries n lesser greater → all_but_greatest n entries ≡ lesser
lesser_is entries n lesser greater parts = rw parts.joined (take_seam lesser greater _ (omega (arith, length-append lesser greater, parts.counted)))

pub greater_is : (entries : List Entry) (n : ℕ) (lesser greater : List Entry) → InParts entries n lesser greater → greatest n entries ≡ greater
greater_is entries n lesser greater parts = rw parts.joined (drop_seam lesser greater _ (omega (arith, length-append lesser greater, parts.counted)))

least_front : (x : Entry) (xs ys : List Entry) → IsLeast x (xs ++ ys) → IsLeast x xs
least_front x [] ys least = tt
least_front x (y ∷ xs) ys least = (least.0, least_front x xs ys least.1)

-- the parts of a rising list rise
pub order_front : (xs ys : List Entry) → AreInOrder (xs ++ ys) → AreInOrder xs
order_front [] ys order = tt
order_front (x ∷ xs) ys order = (least_front x xs ys order.0, order_front xs ys order.1)

pub order_back : (xs ys : List Entry) → AreInOrder (xs ++ ys) → AreInOrder ys
order_back [] ys order = order
order_back (x ∷ xs) ys order = order_back xs ys order.1

-- no entry of the second part comes before one of the first
front_before : (x : Entry) (xs ys : List Entry) (y : Entry) → IsLeast x (xs ++ y ∷ ys) → comes_before y x ≡ false
front_before x [] ys y least = least.0
front_before x (z ∷ zs) ys y least = front_before x zs ys y least.1

-- the least of the greater ones is no less than the lesser ones
pub least_moves : (xs ys : List Entry) (y : Entry) → AreInOrder (xs ++ y ∷ ys) → xs ++ y ∷ [] ≡ with_entry y xs
least_moves [] ys y order = refl
least_moves (x ∷ xs) ys y order =
    let later = front_before x xs ys y order.0 in
    ap (λ l. x ∷ l) (least_moves xs ys y order.1) ∙ sym (with_later y x xs later)

-- an entry that is no greater than the greater ones comes to the lesser ones
pub with_lesser : (e : Entry) (xs ys : List Entry) → IsLeast e ys → with_entry e (xs ++ ys) ≡ with_entry e xs ++ ys
with_lesser e [] ys least = least_first e ys least
with_lesser e (x ∷ xs) ys least = elim (comes_before e x) as (λ b. cond b (e ∷ x ∷ (xs ++ ys)) (x ∷ with_entry e (xs ++ ys)) ≡ cond b (e ∷ x ∷ xs) (x ∷ with_entry e xs) ++ ys) [
  | true ↦ refl
  | false ↦ ap (λ l. x ∷ l) (with_lesser e xs ys least)
]

-- one that is no less than the least of the greater ones comes after it
pub with_greater : (e : Entry) (xs ys : List Entry) (y : Entry) → AreInOrder (xs ++ y ∷ ys) → comes_before e y ≡ false
    → with_entry e (xs ++ y ∷ ys) ≡ xs ++ y ∷ with_entry e ys
with_greater e [] ys y order later = with_later e y ys later
with_greater e (x ∷ xs) ys y order later =
    with_later e x (xs ++ y ∷ ys) (not_earlier x y e (front_before x xs ys y order.0) later) ∙ ap (λ l. x ∷ l) (with_greater e xs ys y order.1 later)
