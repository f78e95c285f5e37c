use Rattle.std.proofs.Common.{◌≡◌, ap, ◌∙◌, length, arith}
use Rattle.evidence_check.specs.Changed.{moved_place}
use Rattle.evidence_check.proofs.Made.{where_rows}
use Rattle.evidence_check.proofs.Making.{changed_inside, few_added, fresh_added, kept_made, length_where, moved_inside, number_cut, numbers_marked, numbers_where, place_added, place_cut, room_added, rows_added, rows_cut}
use Rattle.evidence_check.proofs.edits.make.Goals as goal

pub insert_row_and_number-requires-clause-few : goal.insert_row_and_number-requires-clause-few
insert_row_and_number-requires-clause-few g c = room_added c.args.rows.now c.args.evidence.now c.requires.kept.marks c.requires.evidence c.requires.truth c.if-evidence.true

pub insert_row_and_number-requires-clause-within : goal.insert_row_and_number-requires-clause-within
insert_row_and_number-requires-clause-within g c = place_added c.args.rows.now c.args.evidence.now c.requires.kept.marks c.requires.evidence c.requires.truth c.if-evidence.true

pub insert_row_and_number-requires-clause-fresh : goal.insert_row_and_number-requires-clause-fresh
insert_row_and_number-requires-clause-fresh g c = fresh_added c.args.rows.now c.args.evidence.now c.requires.kept.marks c.requires.evidence c.requires.truth c.if-evidence.true

pub mark_moved-requires-clause-few : goal.mark_moved-requires-clause-few
mark_moved-requires-clause-few g c = few_added c.args.rows.now c.args.evidence.now c.requires.kept.marks c.requires.evidence c.requires.truth c.if-evidence.true c.insert_row_and_number.new.rows c.in_ok-insert_row_and_number.ensures.ok

pub mark_moved-requires-clause-within : goal.mark_moved-requires-clause-within
mark_moved-requires-clause-within g c = moved_inside c.args.rows.now c.args.evidence.now c.requires.kept.marks c.requires.evidence c.requires.truth c.read_change.ensures c.changed_place-changed.result c.changed_place-changed.ensures c.if-evidence.true c.insert_row_and_number.new.rows c.in_ok-insert_row_and_number.ensures.ok

pub mark_at-requires-clause-within : goal.mark_at-requires-clause-within
mark_at-requires-clause-within g c = changed_inside c.args.rows.now c.args.evidence.now c.requires.kept.marks c.requires.evidence c.requires.truth c.read_change.ensures c.changed_place-changed.result c.changed_place-changed.ensures

pub remove_row_and_number-requires-clause-few : goal.remove_row_and_number-requires-clause-few
remove_row_and_number-requires-clause-few g c =
    let same : length c.mark_at.new.rows ≡ length c.args.rows.now = ap length c.mark_at.ensures ∙ length_where c.changed_place-changed.result c.is_gain-alive.result c.args.rows.now in
    omega (arith, same, c.requires.kept.marks.few)

pub remove_row_and_number-requires-clause-within : goal.remove_row_and_number-requires-clause-within
remove_row_and_number-requires-clause-within g c =
    let same : length c.mark_at.new.rows ≡ length c.args.rows.now = ap length c.mark_at.ensures ∙ length_where c.changed_place-changed.result c.is_gain-alive.result c.args.rows.now in
    let within = place_cut c.args.rows.now c.args.evidence.now c.requires.kept.marks c.requires.evidence c.requires.truth c.if-evidence.false in
    omega (arith, same, within)

pub remove_row_and_number-requires-clause-own : goal.remove_row_and_number-requires-clause-own
remove_row_and_number-requires-clause-own g c =
    rw (c.mark_at.ensures, where_rows c.changed_place-changed.result c.is_gain-alive.result c.args.rows.now) (number_cut c.args.rows.now c.args.evidence.now c.requires.kept.marks c.requires.evidence c.requires.truth c.if-evidence.false)

pub remove_row_and_number-requires-clause-distinct : goal.remove_row_and_number-requires-clause-distinct
remove_row_and_number-requires-clause-distinct g c =
    rw (c.mark_at.ensures, where_rows c.changed_place-changed.result c.is_gain-alive.result c.args.rows.now) c.requires.kept.marks.replayable.own_numbers

pub remove_row_and_number-requires-clause-numbers : goal.remove_row_and_number-requires-clause-numbers
remove_row_and_number-requires-clause-numbers g c =
    numbers_where c.changed_place-changed.result c.is_gain-alive.result c.args.rows.now c.mark_at.new.rows c.args.numbers.now c.mark_at.ensures c.requires.kept.numbers_are

pub returns-in_ok-insert_row_and_number-clause-kept : goal.returns-in_ok-insert_row_and_number-clause-kept
returns-in_ok-insert_row_and_number-clause-kept g c =
    kept_made c.args.rows.now c.args.evidence.now c.requires.kept.marks c.requires.evidence c.requires.truth c.one_change_is_named.ensures.of_pq c.mark_moved.new.rows c.insert_row_and_number.new.numbers
    (rows_added c.args.rows.now c.args.evidence.now c.requires.kept.marks c.requires.evidence c.requires.truth c.read_change.ensures c.changed_place-changed.result c.changed_place-changed.ensures c.if-evidence.true c.insert_row_and_number.new.rows c.mark_moved.new.rows c.is_gain-alive.result c.in_ok-insert_row_and_number.ensures.ok c.is_gain-alive.ensures c.mark_moved.ensures)
    (numbers_marked (moved_place c.args.evidence.now.place c.changed_place-changed.result) c.is_gain-alive.result c.insert_row_and_number.new.rows c.mark_moved.new.rows c.insert_row_and_number.new.numbers c.mark_moved.ensures
    c.in_ok-insert_row_and_number.ensures.numbers)

pub returns-in_ok-insert_row_and_number-clause-ok : goal.returns-in_ok-insert_row_and_number-clause-ok
returns-in_ok-insert_row_and_number-clause-ok g c =
    rows_added c.args.rows.now c.args.evidence.now c.requires.kept.marks c.requires.evidence c.requires.truth c.read_change.ensures c.changed_place-changed.result c.changed_place-changed.ensures c.if-evidence.true c.insert_row_and_number.new.rows c.mark_moved.new.rows c.is_gain-alive.result c.in_ok-insert_row_and_number.ensures.ok c.is_gain-alive.ensures c.mark_moved.ensures

pub returns-else-evidence-clause-kept : goal.returns-else-evidence-clause-kept
returns-else-evidence-clause-kept g c =
    kept_made c.args.rows.now c.args.evidence.now c.requires.kept.marks c.requires.evidence c.requires.truth c.one_change_is_named.ensures.of_pq c.remove_row_and_number.new.rows c.remove_row_and_number.new.numbers
    (rows_cut c.args.rows.now c.args.evidence.now c.requires.kept.marks c.requires.evidence c.requires.truth c.read_change.ensures c.changed_place-changed.result c.changed_place-changed.ensures c.if-evidence.false c.mark_at.new.rows c.remove_row_and_number.new.rows c.is_gain-alive.result c.mark_at.ensures c.is_gain-alive.ensures c.remove_row_and_number.ensures.rows)
    c.remove_row_and_number.ensures.numbers

pub returns-else-evidence-clause-ok : goal.returns-else-evidence-clause-ok
returns-else-evidence-clause-ok g c =
    rows_cut c.args.rows.now c.args.evidence.now c.requires.kept.marks c.requires.evidence c.requires.truth c.read_change.ensures c.changed_place-changed.result c.changed_place-changed.ensures c.if-evidence.false c.mark_at.new.rows c.remove_row_and_number.new.rows c.is_gain-alive.result c.mark_at.ensures c.is_gain-alive.ensures c.remove_row_and_number.ensures.rows
