use Rattle.std.proofs.Common.{◌+◌, ◌<◌, suc, add-one, arith, subst, sym, ◌∙◌}
use Rattle.retro_base.specs.declared.row.Row.{Row}
use Rattle.retro_base.specs.Kind.{kind_of}
use Rattle.retro_base.specs.Holders.{holders}
use Rattle.fates.specs.Holding.{Stands}
use Rattle.fates.proofs.Steps.{few_more, there_first}
use Rattle.fates.proofs.Windows.{index_within, window_goes, window_stops}
use Rattle.fates.proofs.fate.fate_of.Goals as goal
use Rattle.retro_base.specs.Facts.{one_at}

pub standing_after-standing-requires-clause-replayable :
    goal.standing_after-standing-requires-clause-replayable
standing_after-standing-requires-clause-replayable c = c.requires.replayable c.row_at-own.result c.row_at-own.ensures

pub loop-from-init : goal.loop-from-init
loop-from-init c = record {
  later = omega arith;
  within = omega (arith, c.requires.within);
  walked = λ own here.
      let same = one_at c.args.rows.now c.args.place c.row_at-own.result own c.row_at-own.ensures here in
      let stands = subst (λ (o : Row). Stands c.standing_after-standing.result o.number (holders (kind_of o.op) c.args.rows.now (suc c.args.place))) same
      c.standing_after-standing.ensures.stands in
      record {
        stands = rw (add-one c.args.place) stands;
        few = few_more c.standing_after-standing.result c.args.place (c.args.place + 1) (omega arith) c.standing_after-standing.ensures.few;
        there = there_first c.args.rows.now c.args.place own c.standing_after-standing.result stands;
      };
}

pub overflow_add-result : goal.overflow_add-result
overflow_add-result c =
    let within : c.in-Err.index < c.read_rows-read.result =
    index_within c.read_rows-read.new.rows c.read_rows-read.result c.loop-from.standing c.in-Err.index (sym c.along.ensures ∙ c.in-Err.is) in
    omega (arith, within, c.len.ensures.length)

pub returns-in-Err : goal.returns-in-Err
returns-in-Err c = λ own here.
    window_stops c.args.rows.now c.loop-from.window c.read_rows-read.new.rows c.args.place own (c.requires.replayable own here) here
    c.loop-from.from c.read_rows-read.result c.read_rows-read.ensures.rows (omega arith) c.loop-from.standing c.in-Err.index c.loop-from.invariant.later
    (c.loop-from.invariant.walked own here) (sym c.along.ensures ∙ c.in-Err.is)

pub loop-from-preserved : goal.loop-from-preserved
loop-from-preserved c = record {
  later = omega arith;
  within = omega arith;
  walked = λ own here.
      window_goes c.args.rows.now c.loop-from.window c.read_rows-read.new.rows c.args.place own (c.requires.replayable own here) here
      c.loop-from.from c.read_rows-read.result c.read_rows-read.ensures.rows (omega arith) c.loop-from.standing c.in-Ok.next c.loop-from.invariant.later
      (c.loop-from.invariant.walked own here) (sym c.along.ensures ∙ c.in-Ok.is);
}
