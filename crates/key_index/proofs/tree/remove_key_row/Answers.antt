use Rattle.std.proofs.Common.{◌≡◌, w64, of_z, to_z, ◌∙◌, arith}
use Rattle.std.proofs.lemmas.Int.{to_z-of_z}
use Rattle.key_index.specs.KeyRows.{key_of, without}
use Rattle.key_index.specs.Ordered.{IsIndexed, by_label}
use Rattle.key_index.proofs.ByLabel.{by_label_is, index_of}
use Rattle.key_index.proofs.TakenOut.{count_is, taken_indexed}
use Rattle.key_index.proofs.tree.remove_key_row.Goals as goal
use Rattle.key_index.proofs.tree.remove_key_row.Goals.{After-count_up_to-count, After-remove}

-- the key as it is handed on
key-is : (c : After-count_up_to-count) → to_z w64 (of_z w64 c.key_of.result) ≡ key_of c.args.op
key-is c = to_z-of_z w64 c.key_of.result (record { sfits = c.key_of.type_inv }) ∙ c.key_of.ensures

pub overflow_sub-count : goal.overflow_sub-count
overflow_sub-count c =
    omega (
      arith,
      count_is c.args.label c.args.op (by_label c.args.by_key.now) c.args.by_key.now c.requires.index c.requires.there c.count_up_to-count.result c.count_up_to-count.ensures.within
          (rw (key-is (goal.at.overflow_sub-count c).After-count_up_to-count) at c.count_up_to-count.ensures.front),
    )

-- the rows without it, and the same in the order of their keys
indexed : (c : After-remove) → to_z w64 (of_z w64 c.key_of.result) ≡ key_of c.args.op → IsIndexed (without c.args.label (by_label c.args.by_key.now)) c.remove.new.tree
indexed c key_is =
    rw c.remove.ensures.items
    (taken_indexed c.args.label c.args.op (by_label c.args.by_key.now) c.args.by_key.now c.requires.index c.requires.there c.count_up_to-count.result c.count_up_to-count.ensures.within
    (rw key_is at c.count_up_to-count.ensures.front))

pub returns-clause-index : goal.returns-clause-index
returns-clause-index c =
    index_of _ _ (indexed (goal.at.returns-clause-index c).After-remove (key-is (goal.at.returns-clause-index c).After-count_up_to-count))

pub returns-clause-rows : goal.returns-clause-rows
returns-clause-rows c =
    by_label_is _ _ (indexed (goal.at.returns-clause-rows c).After-remove (key-is (goal.at.returns-clause-rows c).After-count_up_to-count))
