use Rattle.std.proofs.Common.{◌+◌, length, map, sym, subst, ap, ◌∙◌, arith}
use Rattle.std.specs.List.{AllByRecursion}
use Rattle.std.proofs.lemmas.List.{length-map}
use Rattle.std.proofs.lemmas.List.Edits.{length-remove}
use Rattle.checkpoint_full.specs.Checkpoints.{place_of, HoldsFirstRows}
use Rattle.checkpoint_full.proofs.Settled.{all_without, drops_one, keeps_one, none_left}
use Rattle.checkpoint_full.proofs.settle.thin.Goals as goal

pub loop-index-preserved-then-is_between_close : goal.loop-index-preserved-then-is_between_close
loop-index-preserved-then-is_between_close g c =
    let loop = c.loop-index.invariant in
    record {
      within = omega (
        arith,
        ap (λ cs. length cs) c.drop_at.ensures.items,
        c.loop-index-test.true,
        c.len.ensures,
        length-remove c.loop-index.checkpoints.items c.loop-index.index (omega (arith, c.loop-index-test.true, c.len.ensures)),
      );
      first = subst (λ cs. AllByRecursion (HoldsFirstRows c.args.present.now) cs) (sym c.drop_at.ensures.items)
          (all_without (HoldsFirstRows c.args.present.now) c.loop-index.checkpoints.items c.loop-index.index loop.first);
      spares = c.drop_at.ensures.spares;
      left = drops_one c.is_between_close.result c.loop-index.index (c.loop-index.index + 1) c.args.width c.args.present.now c.as_slice.result.now
          c.loop-index.checkpoints.items c.drop_at.new.checkpoints.items _ c.as_slice.ensures.value (omega arith) c.is_between_close.ensures c.if-is_between_close.true
          (omega (arith, c.loop-index-test.true, c.len.ensures)) c.drop_at.ensures.items loop.left;
    }

pub loop-index-preserved : goal.loop-index-preserved
loop-index-preserved g c =
    let loop = c.loop-index.invariant in
    record {
      within = omega (arith, c.loop-index-test.true, c.len.ensures);
      first = loop.first;
      spares = loop.spares;
      left = keeps_one c.is_between_close.result c.loop-index.index (c.loop-index.index + 1) c.args.width c.args.present.now c.as_slice.result.now
          c.loop-index.checkpoints.items _ c.as_slice.ensures.value (omega arith) c.is_between_close.ensures c.if-is_between_close.false
          (omega (arith, c.loop-index-test.true, c.len.ensures)) loop.left;
    }

pub returns-clause-places : goal.returns-clause-places
returns-clause-places g c =
    sym (none_left c.loop-index.index c.args.width (place_of c.args.present.now) (map place_of c.loop-index.checkpoints.items)
    (omega (arith, length-map c.loop-index.checkpoints.items place_of, c.loop-index-test.false, c.len.ensures)))
    ∙ c.loop-index.invariant.left
