use Rattle.std.proofs.Common.{◌≡◌, ◌-◌, length, subst, sym, ap, ◌∙◌, arith, add-one}
use Rattle.order_labels.specs.ApartLaws.{gap_at, next_at_end, after_within}
use Rattle.order_labels.specs.Labels.{label_limit, label_before, label_after as label_later}
use Rattle.retro_dictionary.specs.Edited.{IsBetween}
use Rattle.retro_dictionary.specs.RowLabels.{label_after}
use Rattle.retro_dictionary.proofs.RareRows.{after-between, beside-between, former-below, later-above}
use Rattle.retro_dictionary.proofs.free_label.free_label.Goals as goal

pub overflow_sub-beside : goal.overflow_sub-beside
overflow_sub-beside c =
    omega (arith, gap_at 1 0 label_limit c.args.labels.now c.args.place c.requires.within c.requires.labels.rising, c.beside-beside.ensures.before, c.beside-beside.ensures.after_it)

pub label_after-requires-clause-order : goal.label_after-requires-clause-order
label_after-requires-clause-order c =
    omega (arith, c.beside-beside.ensures.former, c.beside-beside.ensures.before, former-below c.args.labels.now c.args.place c.requires.within c.requires.labels.rising)

pub returns-then-place-gt0-clause-between : goal.returns-then-place-gt0-clause-between
returns-then-place-gt0-clause-between c =
    let labels = c.args.labels.now in
    let last : c.args.place ≡ length labels = c.if-place-len.true ∙ c.len.ensures.length in
    let label : c.label_after.result ≡ label_after (label_before 0 labels (c.args.place - 1)) (label_before 0 labels c.args.place) =
    c.label_after.ensures ∙ ap (λ former. label_after former c.beside-beside.result.before) c.beside-beside.ensures.former ∙ ap (label_after (label_before 0 labels (c.args.place - 1))) c.beside-beside.ensures.before in
    subst (IsBetween labels c.args.place) (sym label)
    (after-between labels c.args.place last (omega (arith, c.beside-beside.ensures.before, c.beside-beside.ensures.after_it, next_at_end label_limit labels c.args.place last)))

pub gap_or_end-left-requires : goal.gap_or_end-left-requires
gap_or_end-left-requires c =
    omega (arith, c.beside-beside.ensures.former, c.beside-beside.ensures.before, former-below c.args.labels.now c.args.place c.requires.within c.requires.labels.rising)

pub gap_or_end-right-requires : goal.gap_or_end-right-requires
gap_or_end-right-requires c =
    omega (
      arith,
      c.beside-beside.ensures.after_it,
      c.beside-beside.ensures.later,
      ap (label_later label_limit c.args.labels.now) (add-one c.args.place),
      later-above 0 c.args.labels.now c.args.place c.requires.labels.rising,
    )

pub label_beside-requires-clause-within : goal.label_beside-requires-clause-within
label_beside-requires-clause-within c = omega (arith, c.beside-beside.ensures.after_it, after_within 1 0 label_limit c.args.labels.now c.args.place c.requires.labels.rising)

pub returns-clause-between : goal.returns-clause-between
returns-clause-between c =
    beside-between c.args.recent c.args.so_far c.gap_or_end-left.result c.beside-beside.result.before c.beside-beside.result.after c.gap_or_end-right.result c.label_beside.result c.args.labels.now c.args.place
    c.beside-beside.ensures.before c.beside-beside.ensures.after_it (omega arith) c.label_beside.ensures
