use Rattle.std.proofs.Common.{◌-◌, sym, ap, ◌∙◌, arith}
use Rattle.std.proofs.lemmas.Result.{IfOk-weaker}
use Rattle.lifetime_segments.specs.Lifetimes.{items_at}
use Rattle.order_labels.specs.Labels.{label_limit}
use Rattle.retro_base.specs.Answers.{content}
use Rattle.retro_base.specs.State.{pairs}
use Rattle.retro_dictionary.specs.Asked.{pairs_at}
use Rattle.retro_dictionary.proofs.LabelledRows.{label-below, pairs-after}
use Rattle.retro_dictionary.proofs.SortedPairs.{sorted-is}
use Rattle.retro_dictionary.proofs.listed.list_at.Goals as goal

pub returns-then-place-eq0 : goal.returns-then-place-eq0
unfolding content
returns-then-place-eq0 c = c.new.ensures ∙ ap (λ n. content (pairs (pairs_at c.args.labels.now c.args.segments.now n))) (sym c.if-place-eq0.true)

pub items_at-requires : goal.items_at-requires
items_at-requires c = record { within = label-below label_limit 0 c.args.labels.now (c.args.place - 1) c.label_at.result c.requires.labels.rising c.label_at.ensures }

pub returns : goal.returns
returns c =
    IfOk-weaker c.listing_of.result _ _
    (λ listing is. is ∙ ap (λ ps. content (pairs ps))
    (c.deref.ensures.value
    ∙ sorted-is _ c.sort_unstable.new.self.items (items_at c.label_at.result c.args.segments.now) c.in_ok-held.ensures.items c.sort_unstable.ensures.permutation c.sort_unstable.ensures.sorted
    ∙ pairs-after c.args.labels.now c.args.segments.now c.args.place c.label_at.result (omega arith) c.label_at.ensures))
    c.listing_of.ensures
