use Rattle.std.proofs.Common.{◌≡◌, ◌-◌, true, false, length, ap, arith, rules, subst, sym, ◌∙◌, inl, inr, refl}
use Rattle.pq_fusion.specs.declared.row_edit.RowEdit.{RowEdit}
use Rattle.pq_fusion.specs.declared.subtree.Link.{Link}
use Rattle.pq_fusion.specs.declared.subtree.Pair.{Pair}
use Rattle.pq_fusion.specs.Bounds.{higher, lower}
use Rattle.pq_fusion.specs.Nodes.{pair_rows, part_of}
use Rattle.pq_fusion.specs.Passages.{with_piece}
use Rattle.pq_fusion.specs.RowEdits.{CanBeMade, IsPossible, PassesBy, count_after, edited, past}
use Rattle.pq_fusion.specs.Searches.{EditVisits, SearchesWithin}
use Rattle.pq_fusion.specs.Wear.{WornRows}
use Rattle.pq_fusion.proofs.Edged.{passes_first, passes_second}
use Rattle.pq_fusion.proofs.Edited.{edited_pair, few_edited, piece_after}
use Rattle.pq_fusion.proofs.RowEdits.{behind_first, near_after, possible_first, possible_second, side_found}
use Rattle.pq_fusion.proofs.Walked.{into_earlier, into_later, opened_pair, piece_edited, side_edited}
use Rattle.pq_fusion.proofs.Worn.{rare_earlier, rare_later}
use Rattle.pq_fusion.proofs.+edit.Goals as goal

pub edit::edit_row-after-requires : goal.edit::edit_row-after-requires
edit::edit_row-after-requires g t c =
    piece_after c.args.pair.value c.deref_mut.result.now c.in_ok-pair.field-0.piece c.requires.sound
    (ap (λ (p : Pair). with_piece p c.in_ok-pair.field-0.piece) c.deref_mut.ensures.value ∙ c.in_ok-pair.ensures)
    c.args.edit c.requires.possible c.gains-gains.result c.of_row.result c.in-Ok.passed c.gains-gains.ensures c.of_row.ensures c.in-Ok.ensures.passed

pub edit::edit_row-count_after-requires : goal.edit::edit_row-count_after-requires
edit::edit_row-count_after-requires g t c =
    let few = few_edited c.args.pair.value c.deref_mut.result.now c.in_ok-pair.field-0.piece c.requires.sound
    (ap (λ (p : Pair). with_piece p c.in_ok-pair.field-0.piece) c.deref_mut.ensures.value ∙ c.in_ok-pair.ensures)
    c.args.edit c.requires.possible c.edit_below.new.self c.in-Ok.ensures.ok in
    omega (arith, few, ap (λ (p : Pair). p.size) c.deref-in-Ok.ensures)

pub edit::edit_row-returns-in-Ok-clause-edited : goal.edit::edit_row-returns-in-Ok-clause-edited
edit::edit_row-returns-in-Ok-clause-edited g t c =
    let below = c.edit_below.new.self in
    let counted = c.count_after.ensures.count ∙ ap (λ (p : Pair). count_after c.args.edit.way p.size) c.deref-in-Ok.ensures in
    let made : c.deref_mut-in-Ok-2.result.now ≡ record { earlier = below.earlier; later = below.later; size = count_after c.args.edit.way below.size; piece = below.piece } =
    c.deref_mut-in-Ok-2.ensures.value ∙ ap (λ (p : Pair). record { earlier = p.earlier; later = p.later; size = c.count_after.result; piece = p.piece }) c.deref_mut-in-Ok.ensures.value
    ∙ ap (λ n. record { earlier = below.earlier; later = below.later; size = n; piece = below.piece }) counted in
    edited_pair c.args.pair.value c.deref_mut.result.now c.in_ok-pair.field-0.piece c.requires.sound
    (ap (λ (p : Pair). with_piece p c.in_ok-pair.field-0.piece) c.deref_mut.ensures.value ∙ c.in_ok-pair.ensures)
    c.args.edit c.requires.possible c.gains-gains.result c.of_row.result c.in-Ok.passed c.gains-gains.ensures c.of_row.ensures c.in-Ok.ensures.passed
    c.requires.bears below _ c.after.result c.after.ensures.piece c.after.ensures.passes
    (ap (λ (p : Pair). with_piece p c.after.result) made) c.in-Ok.ensures.ok

pub edit::edit_row-returns-in-Err-clause-visits : goal.edit::edit_row-returns-in-Err-clause-visits
edit::edit_row-returns-in-Err-clause-visits g t c =
    let is = ap (λ (p : Pair). with_piece p c.in_ok-pair.field-0.piece) c.deref_mut.ensures.value ∙ c.in_ok-pair.ensures in
    side_edited (pair_rows c.args.pair.value) c.args.steps.now c.boundary_for-boundary.new.steps
    (subst (λ (p : Pair). SearchesWithin 6 (length (pair_rows p)) c.args.steps.now c.boundary_for-boundary.new.steps) c.deref.ensures c.boundary_for-boundary.ensures.visits)
    (pair_rows c.deref_mut.result.now) c.edit_below.new.steps (ap pair_rows is) c.edit_below.ensures.visits

pub edit::edit_row-returns-in-Ok-clause-visits : goal.edit::edit_row-returns-in-Ok-clause-visits
edit::edit_row-returns-in-Ok-clause-visits g t c =
    let is = ap (λ (p : Pair). with_piece p c.in_ok-pair.field-0.piece) c.deref_mut.ensures.value ∙ c.in_ok-pair.ensures in
    piece_edited (pair_rows c.args.pair.value) c.args.steps.now c.boundary_for-boundary.new.steps
    (subst (λ (p : Pair). SearchesWithin 6 (length (pair_rows p)) c.args.steps.now c.boundary_for-boundary.new.steps) c.deref.ensures c.boundary_for-boundary.ensures.visits)
    (pair_rows c.deref_mut.result.now) c.edit_below.new.steps (ap pair_rows is) c.edit_below.ensures.visits
    c.in_ok-pair.field-0.piece c.after.new.steps (ap (λ (p : Pair). p.piece) is ∙ c.requires.sound.piece_is) c.after.ensures.visits

pub subtree::Subtree::edit-returns-clause-visits : goal.subtree::Subtree::edit-returns-clause-visits
subtree::Subtree::edit-returns-clause-visits g t c =
    let same = ap (λ (l : Link). (part_of l).rows) c.in-Fork.ensures.value ∙ ap (λ (p : WornRows). p.rows) c.self.view_is in
    subst (λ l. EditVisits 14 1 l c.args.steps.now c.edit_row-edited.new.steps) same
    (opened_pair (pair_rows c.in-Fork.pair.value) c.args.steps.now c.tick.new.self c.edit_row-edited.new.steps c.tick.ensures c.edit_row-edited.ensures.visits)

pub subtree::Pair::edit_below-past-behind-requires : goal.subtree::Pair::edit_below-past-behind-requires
subtree::Pair::edit_below-past-behind-requires g t c =
    let pair = c.args.self.now in
    let edit = c.args.edit in
    omega (arith, c.len-before.ensures.count, behind_first edit.way edit.place (length pair.earlier.rows) (side_found edit.way edit.place (length pair.earlier.rows) c.len-before.result c.is_first.result false c.len-before.ensures.count c.is_first.ensures c.if-is_first.false))

pub subtree::Pair::edit_below-edit-requires : goal.subtree::Pair::edit_below-edit-requires
subtree::Pair::edit_below-edit-requires g t c =
    let pair = c.args.self.now in
    let edit = c.args.edit in
    let possible : IsPossible edit.way pair.earlier.rows edit.place edit.row =
    possible_first edit.way pair.earlier.rows pair.later.rows edit.place edit.row c.requires.possible (side_found edit.way edit.place (length pair.earlier.rows) c.len-before.result c.is_first.result true c.len-before.ensures.count c.is_first.ensures c.if-is_first.true) in
    search rules

pub subtree::Pair::edit_below-edit-requires-2 : goal.subtree::Pair::edit_below-edit-requires-2
subtree::Pair::edit_below-edit-requires-2 g t c =
    let pair = c.args.self.now in
    let edit = c.args.edit in
    let possible : CanBeMade c.past-behind.result pair.later.rows =
    subst (λ (e : RowEdit). CanBeMade e pair.later.rows) (sym (c.past-behind.ensures ∙ ap (past edit) c.len-before.ensures.count))
    (possible_second edit.way pair.earlier.rows pair.later.rows edit.place edit.row c.requires.possible (side_found edit.way edit.place (length pair.earlier.rows) c.len-before.result c.is_first.result false c.len-before.ensures.count c.is_first.ensures c.if-is_first.false)) in
    search rules

pub subtree::Pair::edit_below-returns-then-is_first-clause-ok : goal.subtree::Pair::edit_below-returns-then-is_first-clause-ok
subtree::Pair::edit_below-returns-then-is_first-clause-ok g t c =
    let pair = c.args.self.now in
    let edit = c.args.edit in
    inl (side_found edit.way edit.place (length pair.earlier.rows) c.len-before.result c.is_first.result true c.len-before.ensures.count c.is_first.ensures c.if-is_first.true, c.in_ok-passed.ensures.rows, refl)

pub subtree::Pair::edit_below-returns-clause-ok : goal.subtree::Pair::edit_below-returns-clause-ok
subtree::Pair::edit_below-returns-clause-ok g t c =
    let pair = c.args.self.now in
    let edit = c.args.edit in
    inr (
      side_found edit.way edit.place (length pair.earlier.rows) c.len-before.result c.is_first.result false c.len-before.ensures.count c.is_first.ensures c.if-is_first.false,
      c.in_ok-passed-2.ensures.rows ∙ ap (λ (e : RowEdit). edited e pair.later.rows) (c.past-behind.ensures ∙ ap (past edit) c.len-before.ensures.count),
      refl,
    )

pub subtree::Pair::edit_below-returns-then-is_first-clause-passed : goal.subtree::Pair::edit_below-returns-then-is_first-clause-passed
subtree::Pair::edit_below-returns-then-is_first-clause-passed g t c =
    let pair = c.args.self.now in
    let edit = c.args.edit in
    subst (λ y. PassesBy edit y (pair_rows pair)) (sym c.higher.ensures)
    (passes_first edit.way edit.place edit.row pair.earlier.rows pair.later.rows c.in_ok-passed.passed c.args.boundary c.requires.possible c.requires.boundary
    (side_found edit.way edit.place (length pair.earlier.rows) c.len-before.result c.is_first.result true c.len-before.ensures.count c.is_first.ensures c.if-is_first.true) (omega (arith, c.requires.balanced.earlier_light)) c.in_ok-passed.ensures.passed)

pub subtree::Pair::edit_below-returns-clause-passed : goal.subtree::Pair::edit_below-returns-clause-passed
subtree::Pair::edit_below-returns-clause-passed g t c =
    let pair = c.args.self.now in
    let edit = c.args.edit in
    let x = c.in_ok-passed-2.passed in
    subst (λ y. PassesBy edit y (pair_rows pair)) (sym (c.from_later.ensures ∙ ap (λ o. higher o (lower x c.args.boundary)) c.of_row.ensures))
    (passes_second edit.way edit.place edit.row pair.earlier.rows pair.later.rows x c.args.boundary c.requires.possible c.requires.boundary (side_found edit.way edit.place (length pair.earlier.rows) c.len-before.result c.is_first.result false c.len-before.ensures.count c.is_first.ensures c.if-is_first.false)
    (subst (λ (e : RowEdit). PassesBy e x pair.later.rows) (c.past-behind.ensures ∙ ap (past edit) c.len-before.ensures.count) c.in_ok-passed-2.ensures.passed))

pub subtree::Pair::edit_below-returns-then-is_first-clause-rare : goal.subtree::Pair::edit_below-returns-then-is_first-clause-rare
subtree::Pair::edit_below-returns-then-is_first-clause-rare g t c =
    let pair = c.args.self.now in
    let edit = c.args.edit in
    let possible = possible_first edit.way pair.earlier.rows pair.later.rows edit.place edit.row c.requires.possible (side_found edit.way edit.place (length pair.earlier.rows) c.len-before.result c.is_first.result true c.len-before.ensures.count c.is_first.ensures c.if-is_first.true) in
    let near = near_after edit.way pair.earlier.rows edit.place edit.row possible in
    let size = ap length c.in_ok-passed.ensures.rows in
    rare_earlier pair.earlier pair.later c.edit.new.self c.requires.balanced _ _ (omega (arith, near.0, size)) (omega (arith, near.1, size)) c.in_ok-passed.ensures.rare

pub subtree::Pair::edit_below-returns-clause-rare : goal.subtree::Pair::edit_below-returns-clause-rare
subtree::Pair::edit_below-returns-clause-rare g t c =
    let pair = c.args.self.now in
    let edit = c.args.edit in
    let possible = possible_second edit.way pair.earlier.rows pair.later.rows edit.place edit.row c.requires.possible (side_found edit.way edit.place (length pair.earlier.rows) c.len-before.result c.is_first.result false c.len-before.ensures.count c.is_first.ensures c.if-is_first.false) in
    let near = near_after edit.way pair.later.rows (edit.place - length pair.earlier.rows) edit.row possible in
    let size : length c.edit-2.new.self.rows ≡ length (edited (past edit (length pair.earlier.rows)) pair.later.rows) =
    ap length c.in_ok-passed-2.ensures.rows ∙ ap (λ (e : RowEdit). length (edited e pair.later.rows)) (c.past-behind.ensures ∙ ap (past edit) c.len-before.ensures.count) in
    rare_later pair.earlier pair.later c.edit-2.new.self c.requires.balanced _ _ (omega (arith, near.0, size)) (omega (arith, near.1, size)) c.in_ok-passed-2.ensures.rare

pub subtree::Pair::edit_below-returns-then-is_first-clause-visits : goal.subtree::Pair::edit_below-returns-then-is_first-clause-visits
subtree::Pair::edit_below-returns-then-is_first-clause-visits g t c =
    into_earlier c.args.self.now.earlier.rows c.args.self.now.later.rows c.args.steps.now c.edit.new.steps c.requires.balanced c.edit.ensures.visits

pub subtree::Pair::edit_below-returns-in_err-passed-clause-visits : goal.subtree::Pair::edit_below-returns-in_err-passed-clause-visits
subtree::Pair::edit_below-returns-in_err-passed-clause-visits g t c =
    into_earlier c.args.self.now.earlier.rows c.args.self.now.later.rows c.args.steps.now c.edit.new.steps c.requires.balanced c.edit.ensures.visits

pub subtree::Pair::edit_below-returns-clause-visits : goal.subtree::Pair::edit_below-returns-clause-visits
subtree::Pair::edit_below-returns-clause-visits g t c =
    into_later c.args.self.now.earlier.rows c.args.self.now.later.rows c.args.steps.now c.edit-2.new.steps c.requires.balanced c.edit-2.ensures.visits

pub subtree::Pair::edit_below-returns-in_err-passed-2-clause-visits : goal.subtree::Pair::edit_below-returns-in_err-passed-2-clause-visits
subtree::Pair::edit_below-returns-in_err-passed-2-clause-visits g t c =
    into_later c.args.self.now.earlier.rows c.args.self.now.later.rows c.args.steps.now c.edit-2.new.steps c.requires.balanced c.edit-2.ensures.visits
