-- Where numbers never fall, the items up to a number stand before the others.
use Rattle.std.proofs.Common.{◌≡◌, ℕ, ◌≤◌, Bool, false, nat_le, List, [], ◌∷◌, length, ◌∙◌, arith}
use Rattle.std.specs.Fn.{Shared}
use Rattle.std.specs.Borrow.{Bor}
use Rattle.std.proofs.lemmas.Bool.Decides.{nat_tests}
use Rattle.std.proofs.lemmas.List.Sums.{length-filter}
use Rattle.retro_base.specs.OrderLaws.{all_weaker}
use Rattle.weighted_tree.specs.Partitioned.{IsPartitioned}
use Rattle.weighted_tree.specs.PartitionLaws.{divides_found}
use Rattle.weighted_tree.specs.Search.{TellsItems, FindsPartition}
use Rattle.order_labels.specs.Order.{NeverFalls, count_up_to}

still_beyond : (limit number later : ℕ) → nat_le number limit ≡ false → number ≤ later → nat_le later limit ≡ false
still_beyond limit number later beyond above = grind (arith, nat_tests)

module _ {A : Type 0} (number : A → ℕ) (limit : ℕ) where
  abbrev pub is_up_to : A → Bool
  is_up_to item = nat_le (number item) limit

  pub parted_up_to : (items : List A) → NeverFalls number items → IsPartitioned is_up_to items
  parted_up_to [] order = tt
  parted_up_to (item ∷ items) order = (
    λ beyond. all_weaker (λ later. number item ≤ number later) (λ later. is_up_to later ≡ false) items (λ later above. still_beyond limit (number item) (number later) beyond above) order.0,
    parted_up_to items order.1,
  )

  -- what a search finds that asks of each item whether it is one of them
  pub count_found : {F : Type 0} (calls : Shared F (Bor A × Unit {0}) Bool) (closure : F) (items : List A) (count : ℕ)
      → FindsPartition calls closure items count → TellsItems calls closure is_up_to → NeverFalls number items → count ≤ length items → count
      ≡ count_up_to number items limit
  count_found calls closure items count found tells order within = (divides_found is_up_to calls closure items count found tells (parted_up_to items order) within).counted ∙ length-filter is_up_to items
