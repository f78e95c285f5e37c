use Rattle.std.proofs.Common.{rules, ◌*◌, ◌∙◌, ap, arith}
use Rattle.checkpoint_full.specs.Checkpoints.{place_of}
use Rattle.checkpoint_full.specs.Widths.{multiples_below}
use Rattle.checkpoint_full.proofs.Between.{one_made}
use Rattle.checkpoint_full.proofs.Made.{all_settled, none_to_come, to_come-first, to_come-next}
use Rattle.checkpoint_full.proofs.Thinned.{is_wide}
use Rattle.checkpoint_full.proofs.checkpoints.make.Goals as goal

pub loop-latest-init : goal.loop-latest-init
loop-latest-init g c = record {
  first = search rules;
  latest = search rules;
  close = search rules;
  to_come = to_come-first c.args.width (multiples_below c.args.width (place_of c.args.present.now)) c.first_made.result c.args.present.now c.in_ok-latest.latest c.new-checkpoints.result.items
      c.new-checkpoints.ensures.items c.in_ok-latest.ensures (omega (arith, c.first_made.ensures.within, c.place.ensures.place))
      (λ some. omega (arith, c.first_made.ensures.before some, c.place.ensures.place))
      (c.first_made.ensures.last ∙ ap (λ (rows : _). multiples_below c.args.width rows * c.args.width) c.place.ensures.place);
}

pub loop-latest-preserved : goal.loop-latest-preserved
loop-latest-preserved g c =
    let loop = c.loop-latest.invariant in
    let more = one_made c.args.width c.args.present.now c.loop-latest.checkpoints.items c.push.new.self.items c.loop-latest.latest c.in_ok-earlier.earlier c.saturating_sub.result
    loop.first loop.latest loop.close c.in_ok-earlier.ensures (omega (arith, c.saturating_sub.ensures, c.place-in-loop-latest-2.ensures.place))
    (omega (arith, c.saturating_sub.ensures, c.place-in-loop-latest-2.ensures.place)) c.in_ok-push.ensures.items in
    record {
      first = more.0;
      latest = more.1;
      close = more.2;
      to_come = to_come-next c.args.width (multiples_below c.args.width (place_of c.args.present.now)) (place_of c.args.present.now) c.saturating_sub.result c.loop-latest.checkpoints.items c.push.new.self.items
          c.loop-latest.latest c.in_ok-earlier.earlier loop.to_come
          (omega (arith, c.loop-latest-test.true, c.place-in-loop-latest.ensures.place))
          c.in_ok-earlier.ensures (omega (arith, c.saturating_sub.ensures, c.place-in-loop-latest-2.ensures.place)) c.in_ok-push.ensures.items;
    }

pub returns-clause-places : goal.returns-clause-places
returns-clause-places g c =
    let to_come = c.loop-latest.invariant.to_come in
    none_to_come c.args.width (multiples_below c.args.width (place_of c.args.present.now)) to_come.left c.loop-latest.checkpoints.items c.push-2.new.self.items c.loop-latest.latest
    (is_wide _ c.requires.of_widths).0 to_come.stands to_come.places (omega (arith, c.loop-latest-test.false, c.place-in-loop-latest.ensures.place)) c.in_ok-push-2.ensures.items

pub returns-clause-settled : goal.returns-clause-settled
returns-clause-settled g c =
    all_settled c.args.width (multiples_below c.args.width (place_of c.args.present.now)) c.args.present.now c.loop-latest.checkpoints.items c.push-2.new.self.items c.loop-latest.latest
    (is_wide _ c.requires.of_widths).0 c.requires.few c.loop-latest.invariant.to_come c.in_ok-push-2.ensures.items
