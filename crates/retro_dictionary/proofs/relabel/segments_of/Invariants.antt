use Rattle.std.proofs.Common.{◌≡◌, length, drop}
use Rattle.order_labels.specs.Labels.{spread}
use Rattle.retro_dictionary.specs.LabelledRows.{ordered}
use Rattle.retro_dictionary.specs.Labelled.{labelled}
use Rattle.retro_dictionary.specs.Lifetimes.{lifetimes_of}
use Rattle.retro_dictionary.proofs.relabel.segments_of.Given as goal

abbrev pub invariant-loop-place : goal.invariant-loop-place
invariant-loop-place l = l.segments ≡ ordered (lifetimes_of (labelled (drop l.place (spread (length l.rows))) (drop l.place l.rows)))
