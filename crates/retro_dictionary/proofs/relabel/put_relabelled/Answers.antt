use Rattle.std.proofs.Common.{◌≡◌, ◌+◌, Some, List, length, sym, ap, ◌∙◌, subst, refl, rules}
use Rattle.std.specs.List.{insert}
use Rattle.key_index.specs.KeyRows.{KeyRow, op_at, without}
use Rattle.key_index.specs.Relabelled.{HoldsLabels, relabelled}
use Rattle.order_labels.specs.Labels.{spread}
use Rattle.retro_dictionary.specs.declared.labelled_rows.LabelledRows.{LabelledRows}
use Rattle.retro_dictionary.specs.LabelledRows.{ordered}
use Rattle.retro_dictionary.specs.Labelled.{labelled}
use Rattle.retro_dictionary.specs.Lifetimes.{lifetimes_of}
use Rattle.retro_dictionary.specs.Ready.{IsLabelled}
use Rattle.retro_dictionary.specs.Relabelling.{CanRelabel, labelled_anew, new_label, other_labels, relabelled_with, with_row_at}
use Rattle.retro_dictionary.proofs.EditSteps.{kept-as, op-put}
use Rattle.retro_dictionary.proofs.Relabelling.{can-relabel-listed, all-listed, kept-all, taken-out, inserted-full}
use Rattle.retro_dictionary.proofs.relabel.put_relabelled.Goals as goal
use Rattle.retro_dictionary.proofs.relabel.put_relabelled.Goals.{After-new_label-label, In_ok-relabel_with, After-remove_row}

-- all rows can be relabelled
can : (c : After-new_label-label) → CanRelabel c.in_ok-former.former c.in_ok-fresh.fresh c.new_label-label.result c.args.kept.now.index
can c =
    can-relabel-listed _ _ _ _ c.requires.ready.all c.args.place c.requires.ready.can.within c.requires.ready.few _ _ _ (length c.args.kept.now.rows) c.in_ok-former.ensures
    (c.in_ok-fresh.ensures ∙ ap (λ n. other_labels n c.args.place) c.len-count.ensures) refl (c.new_label-label.ensures ∙ ap (λ n. new_label n c.args.place) c.len-count.ensures)

-- and are, with the new one
indexed : (c : In_ok-relabel_with) → c.relabel_with.new.index ≡ labelled (spread (length c.args.kept.now.rows + 1)) (insert c.args.kept.now.rows c.args.place c.args.row)
indexed c =
    c.in_ok-relabel_with.ensures.ok
    ∙ all-listed _ _ _ _ c.requires.ready.all c.args.place c.requires.ready.can.within c.requires.ready.few _ _ _ (length c.args.kept.now.rows) c.in_ok-former.ensures
    (c.in_ok-fresh.ensures ∙ ap (λ n. other_labels n c.args.place) c.len-count.ensures) refl (c.new_label-label.ensures ∙ ap (λ n. new_label n c.args.place) c.len-count.ensures) c.args.row

-- or the new one is taken out again
without-new : (c : After-remove_row) → CanRelabel c.in_ok-former.former c.in_ok-fresh.fresh c.new_label-label.result c.args.kept.now.index
    → c.remove_row.new.self ≡ relabelled c.in_ok-former.former c.in_ok-fresh.fresh c.args.kept.now.index
without-new c can =
    let same : c.put_indexed.new.kept ≡ record c.args.kept.now { index = c.relabel_with.new.index } = search rules in
    taken-out _ _ _ _ _ _ _ can c.in_ok-relabel_with.ensures.ok (c.remove_row.ensures ∙ ap (λ kept. without c.new_label-label.result kept.index) same)

pub relabel_with-requires-clause-can : goal.relabel_with-requires-clause-can
relabel_with-requires-clause-can c = can (goal.at.relabel_with-requires-clause-can c).After-new_label-label

pub put_indexed-requires-clause-indexed : goal.put_indexed-requires-clause-indexed
put_indexed-requires-clause-indexed c = indexed (goal.at.put_indexed-requires-clause-indexed c).In_ok-relabel_with

pub remove_row-requires : goal.remove_row-requires
remove_row-requires c =
    let can = can (goal.at.remove_row-requires c).After-new_label-label in
    let label = c.new_label-label.result in
    let former = c.in_ok-former.former in
    let fresh = c.in_ok-fresh.fresh in
    let same : c.put_indexed.new.kept.index ≡ relabelled_with former fresh label c.args.row.op c.args.kept.now.index = search rules in
    record { there = subst (λ index. op_at label index ≡ Some c.args.row.op) (sym same) (op-put label c.args.row.op (relabelled former fresh c.args.kept.now.index) can.free) }

pub relabel-requires : goal.relabel-requires
relabel-requires c =
    let can = can (goal.at.relabel-requires c).After-new_label-label in
    record {
      former = can.fresh_rise;
      fresh = can.former_rise;
      as_many = sym can.as_many;
      all = subst (HoldsLabels c.in_ok-fresh.fresh) (sym (without-new (goal.at.relabel-requires c).After-remove_row can)) can.held_fresh;
    }

pub returns-then-is_err-clause-err : goal.returns-then-is_err-clause-err
returns-then-is_err-clause-err c =
    let can = can (goal.at.returns-then-is_err-clause-err c).After-new_label-label in
    let holding : List KeyRow → LabelledRows = λ index. record c.args.kept.now { index = index } in
    let same : c.put_indexed.new.kept ≡ holding c.relabel_with.new.index = search rules in
    let renewed : LabelledRows → LabelledRows = λ kept. record kept { index = c.relabel.new.self } in
    ap renewed same
    ∙ ap holding
    (c.relabel.ensures ∙ ap (relabelled c.in_ok-fresh.fresh c.in_ok-former.former) (without-new (goal.at.returns-then-is_err-clause-err c).After-remove_row can) ∙ can.back)

pub returns-clause-kept : goal.returns-clause-kept
returns-clause-kept c =
    let all = indexed (goal.at.returns-clause-kept c).In_ok-relabel_with in
    let made : c.put_indexed.new.kept ≡ labelled_anew c.args.place (with_row_at c.args.place c.args.row (record c.args.kept.now { index = c.relabel_with.new.index })) = search rules in
    subst IsLabelled (sym made)
    (kept-as _ _ _ _ _ _ _ _
    (kept-all _ _ _ _ c.requires.ready.all c.args.place c.requires.ready.can.within c.requires.ready.few c.args.row c.requires.ready.can)
    refl (inserted-full c.args.kept.now.labels c.args.kept.now.rows c.args.place c.requires.ready.all.as_many c.requires.full) all (ap (λ i. ordered (lifetimes_of i)) all))
