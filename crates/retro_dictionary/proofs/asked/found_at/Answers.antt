use Rattle.std.proofs.Common.{◌-◌, ap, ◌∙◌, arith}
use Rattle.order_labels.specs.Labels.{label_limit}
use Rattle.retro_dictionary.specs.PairSearch.{found_in}
use Rattle.retro_dictionary.proofs.LabelledRows.{label-below, pairs-after}
use Rattle.retro_dictionary.proofs.asked.found_at.Goals as goal

pub ask-requires : goal.ask-requires
ask-requires c = record { within = label-below label_limit 0 c.args.labels.now (c.args.place - 1) c.label_at.result c.requires.labels.rising c.label_at.ensures }

pub returns : goal.returns
returns c = c.ask.ensures ∙ ap (λ ps. found_in ps c.args.range) (pairs-after c.args.labels.now c.args.segments.now c.args.place c.label_at.result (omega arith) c.label_at.ensures)
