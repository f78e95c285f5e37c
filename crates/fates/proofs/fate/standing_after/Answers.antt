use Rattle.std.proofs.Common.{◌≡◌, arith, subst}
use Rattle.retro_base.specs.Kind.{kind_of}
use Rattle.retro_base.specs.Holders.{holders}
use Rattle.fates.proofs.Steps.{Ready, counted_first, stands_first, few_first}
use Rattle.fates.proofs.Windows.{window_counted, window_counted_up}
use Rattle.fates.proofs.fate.standing_after.Goals as goal

pub loop-from-init : goal.loop-from-init
loop-from-init c = record {
  within = omega arith;
  ready = counted_first c.args.own c.args.rows.now c.requires.adding;
  few = omega arith;
}

pub loop-from-preserved : goal.loop-from-preserved
loop-from-preserved c = record {
  within = omega arith;
  ready = rw c.count_along-count.ensures
      (window_counted c.args.rows.now c.loop-from.window c.read_rows-read.new.rows c.args.place c.args.own c.requires.replayable c.requires.there
      c.loop-from.from c.read_rows-read.result c.read_rows-read.ensures.rows (omega arith) c.min-before.result c.loop-from.count (omega arith) (omega arith)
      c.loop-from.invariant.ready);
  few = window_counted_up c.args.own c.read_rows-read.new.rows c.min-before.result c.loop-from.count c.count_along-count.result c.loop-from.from
      c.count_along-count.ensures c.loop-from.invariant.few;
}

pub returns : goal.returns
returns c =
    let at_end : c.loop-from.from ≡ c.args.place = omega arith in
    let ready = subst (λ k. Ready c.args.own c.loop-from.count (holders (kind_of c.args.own.op) c.args.rows.now k)) at_end c.loop-from.invariant.ready in
    record {
      stands = rw c.of.ensures
          (stands_first c.args.rows.now c.args.place c.loop-from.count c.args.own c.requires.replayable c.requires.there c.requires.adding ready);
      few = rw c.of.ensures (few_first c.args.own c.loop-from.count c.args.place (omega arith));
    }
