use Rattle.std.proofs.Common.{◌+◌, ◌-◌, ◌^◌, suc, sym, ◌∙◌, arith}
use Rattle.fates.proofs.Steps.{few_more, few_next}
use Rattle.fates.proofs.standing.Standing.along.Goals as goal
use Rattle.retro_base.specs.Limits.{most_rows}
use Rattle.retro_base.specs.lemmas.Folds.{no_row, comes_to_start, comes_to_next, comes_to_failure, comes_to_end}

pub loop-index-init : goal.loop-index-init
loop-index-init c = record {
  comes = comes_to_start _;
  few = few_more c.args.self most_rows (most_rows + 0) (omega arith) c.requires.room;
}

pub after-requires : goal.after-requires
after-requires c = few_more c.loop-index.standing (most_rows + c.loop-index.index) (2 ^ 32 - 2) (omega arith) c.loop-index.invariant.few

pub returns-in-None : goal.returns-in-None
returns-in-None c = sym (comes_to_failure no_row c.loop-index.invariant.comes (omega arith) (sym c.after.ensures ∙ c.in-None.is))

pub loop-index-preserved : goal.loop-index-preserved
loop-index-preserved c =
    let goes = sym c.after.ensures ∙ c.in-Some.is in record {
      comes = comes_to_next no_row c.loop-index.invariant.comes (omega arith) goes;
      few = few_more c.in-Some.next (suc (most_rows + c.loop-index.index)) (most_rows + (c.loop-index.index + 1)) (omega arith)
          (few_next c.loop-index.standing c.in-Some.next _ (most_rows + c.loop-index.index) c.loop-index.invariant.few goes);
    }

pub returns : goal.returns
returns c = sym (comes_to_end c.loop-index.invariant.comes (omega arith))
