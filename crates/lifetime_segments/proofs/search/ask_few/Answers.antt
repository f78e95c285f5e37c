use Rattle.std.proofs.Common.{◌≡◌, ◌+◌, ◌<◌, suc, ◌∷◌, [], length, take, sym, ap, ◌∙◌, arith, length-take}
use Rattle.lifetime_segments.specs.Lifetimes.{items_at}
use Rattle.lifetime_segments.specs.Lawful.{AreLawful, most_items}
use Rattle.lifetime_segments.specs.Ordered.{in_order}
use Rattle.lifetime_segments.specs.OrderedLaws.{in_order-absorbs, in_order-ordered, length-in_order}
use Rattle.lifetime_segments.proofs.FewLives.{items_at-there, items_at-gone}
use Rattle.lifetime_segments.proofs.InRange.{nothing_below, nothing_above}
use Rattle.lifetime_segments.proofs.Nodes.{items_at-few}
use Rattle.lifetime_segments.proofs.search.ask_few.Given.{Over}
use Rattle.lifetime_segments.proofs.search.ask_few.Goals as goal
use Rattle.lifetime_segments.proofs.search.ask_few.Goals.{then-holds, else-holds, After-get-life}

pub loop-place-init : goal.loop-place-init
loop-place-init g c =
    c.empty-part.ensures ∙ nothing_below g.met.D.Decomposable.order g.met.D.Decomposable.laws g.met.D.RangeSearch.range_laws c.args.query c.args.label (take c.place_from-place.result c.args.few.now) c.place_from-place.ensures.below

-- there is room for the item that is looked at now, beside those that were looked at
room : (g : Over) (c : After-get-life g) → length (in_order g.D.Decomposable.stands_before (items_at c.args.label (take c.loop-place.place c.args.few.now))) < most_items
room g c =
    let seen = take c.loop-place.place c.args.few.now in
    omega (
      arith,
      length-in_order g.D.Decomposable.stands_before (items_at c.args.label seen),
      items_at-few c.args.label seen,
      length-take c.loop-place.place c.args.few.now,
      c.requires.few,
      c.loop-place-test.true,
      c.len-place-end.ensures,
    )

pub with_one-part-requires : goal.with_one-part-requires
with_one-part-requires g c =
    let items = items_at c.args.label (take c.loop-place.place c.args.few.now) in
    record {
      answer = record {
        items = in_order g.D.Decomposable.stands_before items;
        ordered = in_order-ordered g.met.D.Decomposable.order items;
        room = room g (goal.at.with_one-part-requires g c).After-get-life;
        answers = c.loop-place.invariant;
      };
    }

pub returns-then-is_above : goal.returns-then-is_above
returns-then-is_above g c =
    c.loop-place.invariant
    ∙ nothing_above g.met.D.Decomposable.order g.met.D.Decomposable.laws g.met.D.RangeSearch.range_laws c.args.query c.args.label c.args.few.now c.loop-place.place c.get-life.result c.requires.ordered c.requires.few
    c.get-life.ensures (sym c.is_above.ensures ∙ c.if-is_above.true)

pub loop-place-preserved : goal.loop-place-preserved
loop-place-preserved g c =
    let before = g.D.Decomposable.stands_before in
    let answer = g.D.Decomposable.answer in
    let few = c.args.few.now in
    let seen = items_at c.args.label (take c.loop-place.place few) in
    let next : suc c.loop-place.place ≡ c.loop-place.place + 1 = omega arith in
    elim c.if-holds.branch [
      | then-holds w ↦
          let lawful : AreLawful before (in_order before seen) (c.get-life.result.item ∷ []) = record {
            first_ordered = in_order-ordered g.met.D.Decomposable.order seen;
            second_ordered = (tt, tt);
            few = omega (arith, room g (goal.at.loop-place-preserved g c).After-get-life);
          } in
          w.part-is
          ∙ w.with_one-part.ensures
          ∙ ap (λ part. g.D.Decomposable.combined part (answer (c.get-life.result.item ∷ []) c.args.query)) c.loop-place.invariant
          ∙ sym (g.met.D.Decomposable.laws.together (in_order before seen) (c.get-life.result.item ∷ []) c.args.query lawful)
          ∙ ap (λ items. answer items c.args.query)
          (in_order-absorbs g.met.D.Decomposable.order seen (c.get-life.result.item ∷ [])
          ∙ ap (in_order before) (sym (items_at-there c.args.label few c.loop-place.place c.get-life.result c.get-life.ensures (sym c.holds.ensures ∙ w.if-holds.true))))
          ∙ ap (λ n. answer (in_order before (items_at c.args.label (take n few))) c.args.query) next
      | else-holds w ↦
          w.part-is
          ∙ c.loop-place.invariant
          ∙ ap (λ items. answer (in_order before items) c.args.query) (sym (items_at-gone c.args.label few c.loop-place.place c.get-life.result c.get-life.ensures (sym c.holds.ensures ∙ w.if-holds.false)))
          ∙ ap (λ n. answer (in_order before (items_at c.args.label (take n few))) c.args.query) next
    ]
