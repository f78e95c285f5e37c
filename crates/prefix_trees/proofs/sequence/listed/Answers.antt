use Rattle.std.proofs.Common.{◌≡◌, length, ◌++◌, ◌∷◌, [], w64, ◌∙◌, ap, rules, arith, subst}
use Rattle.std.proofs.lemmas.Int.{to_z-of_z}
use Rattle.retro_base.specs.declared.question.Item.TheVariants as contents
use Rattle.prefix_trees.proofs.LineAnswers.{listed_to, listed-more, listed-length, listed-all}
use Rattle.prefix_trees.proofs.sequence.listed.Goals as goal

pub loop-index-init : goal.loop-index-init
loop-index-init g c = λ line at. c.new-listing.ensures

pub push-requires : goal.push-requires
push-requires g c =
    let rows = c.args.rows.now in
    let size = c.size_at-size.ensures in
    let small : length c.loop-index.listing ≡ c.loop-index.index =
    listed-length g.S.Sequence.kind rows g.met.S.Sequence.is_line c.requires.replayable c.args.place c.size_at-size.result c.loop-index.index c.loop-index.listing
    c.requires.within size.size c.loop-index.auto.index-end c.loop-index.invariant in
    omega (arith, small, c.loop-index-test.true, size.few, c.requires.replayable.few)

pub loop-index-preserved : goal.loop-index-preserved
loop-index-preserved g c = λ line at.
    c.in_ok-push.ensures.ok
    ∙ ap (λ value. c.loop-index.listing ++ contents.Single value ∷ []) (to_z-of_z w64 c.item_at-value.result (search rules))
    ∙ listed-more g.S.Sequence.kind c.args.rows.now g.met.S.Sequence.is_line c.requires.replayable c.args.place c.loop-index.index c.item_at-value.result c.loop-index.listing
    c.item_at-value.ensures.item c.loop-index.invariant line at

pub returns : goal.returns
returns g c =
    let rows = c.args.rows.now in
    let size = c.size_at-size.ensures in
    let end : c.loop-index.index ≡ c.size_at-size.result = omega (arith, c.loop-index.auto.index-end, c.loop-index-test.false) in
    listed-all g.S.Sequence.kind rows g.met.S.Sequence.is_line c.requires.replayable c.args.place c.size_at-size.result c.loop-index.listing c.requires.within size.size
    (subst (λ index. listed_to g.S.Sequence.kind rows g.met.S.Sequence.is_line c.requires.replayable c.args.place index c.loop-index.listing) end c.loop-index.invariant)
