use Rattle.std.proofs.Common.{◌≡◌, w64, of_z, to_z, ◌∙◌}
use Rattle.std.proofs.lemmas.Int.{to_z-of_z}
use Rattle.key_index.specs.KeyRows.{key_of, with_row}
use Rattle.key_index.specs.Ordered.{IsIndexed, by_label}
use Rattle.key_index.proofs.ByLabel.{by_label_is, index_of}
use Rattle.key_index.proofs.Neighbours.{last_is, next_is, same_around, around_fresh, beside_is}
use Rattle.key_index.proofs.PutIn.{none_has, put_indexed}
use Rattle.key_index.proofs.tree.insert_key_row.Goals as goal
use Rattle.key_index.proofs.tree.insert_key_row.Goals.{In_ok-insert}

-- the rows with one more, and the same in the order of their keys
indexed : (c : In_ok-insert) → IsIndexed (with_row c.args.label c.args.op (by_label c.args.by_key.now)) c.insert.new.tree
indexed c =
    let key_is : to_z w64 (of_z w64 c.key_of-key.result) ≡ key_of c.args.op = to_z-of_z w64 c.key_of-key.result (record { sfits = c.key_of-key.type_inv }) ∙ c.key_of-key.ensures in
    rw (c.in_ok-insert.ensures.ok, c.new.ensures)
    (put_indexed c.args.label c.args.op (by_label c.args.by_key.now) c.args.by_key.now c.count_up_to-place.result c.requires.index c.requires.fresh c.requires.dict
    (rw key_is at c.count_up_to-place.ensures.front) (rw key_is at c.count_up_to-place.ensures.back))

pub returns-clause-index : goal.returns-clause-index
returns-clause-index c = index_of _ _ (indexed (goal.at.returns-clause-index c).In_ok-insert)

pub returns-clause-ok : goal.returns-clause-ok
returns-clause-ok c = by_label_is _ _ (indexed (goal.at.returns-clause-ok c).In_ok-insert)

pub returns-clause-beside : goal.returns-clause-beside
returns-clause-beside c =
    let key_is : to_z w64 (of_z w64 c.key_of-key.result) ≡ key_of c.args.op = to_z-of_z w64 c.key_of-key.result (record { sfits = c.key_of-key.type_inv }) ∙ c.key_of-key.ensures in
    let key = key_of c.args.op in
    let rows = c.args.by_key.now in
    beside_is
    ((rw key_is at c.last_on-before.ensures) ∙ last_is key c.args.label rows c.count_up_to-place.result c.requires.index.ordered (rw key_is at c.count_up_to-place.ensures.front))
    ((rw key_is at c.next_on-after.ensures) ∙ next_is key c.args.label rows c.count_up_to-place.result c.requires.index.ordered (rw key_is at c.count_up_to-place.ensures.back))
    ∙ same_around key (by_label rows) rows (c.requires.index.same key) c.args.label
    ∙ around_fresh key c.args.label (by_label rows) (none_has c.args.label (by_label rows) c.requires.fresh)
