use Rattle.std.proofs.Common.{◌≡◌, subst, sym, Some, rules}
use Rattle.key_index.specs.KeyRows.{op_at, with_row}
use Rattle.retro_dictionary.proofs.EditSteps.{op-put}
use Rattle.retro_dictionary.proofs.edit.put_labelled.Goals as goal

pub remove_row-requires : goal.remove_row-requires
remove_row-requires c =
    let put : c.insert_beside.new.self ≡ with_row c.args.label c.args.op c.args.index.now = search rules in
    record { there = subst (λ index. op_at c.args.label index ≡ Some c.args.op) (sym put) (op-put c.args.label c.args.op c.args.index.now c.requires.fresh) }
