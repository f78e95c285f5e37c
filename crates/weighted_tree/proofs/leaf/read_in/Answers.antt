use Rattle.std.proofs.Common.{rules, ◌≡◌, ◌+◌, ap, ◌∙◌, arith, map, take, drop}
use Rattle.std.specs.Prelude.{slice_set}
use Rattle.std.proofs.lemmas.List.{length-set}
use Rattle.weighted_tree.specs.Reads.{overwritten}
use Rattle.weighted_tree.proofs.Leaves.{written_next}
use Rattle.weighted_tree.proofs.leaf.read_in.Goals as goal
use Rattle.weighted_tree.proofs.leaf.read_in.Goals.{then-done-gt0, else-done-gt0}

pub on-preserved : goal.on-preserved
on-preserved g c =
    let x = c.index-leaf-from.result in
    record {
      written = λ shows tells. ap (slice_set c.on.items (c.args.filled + c.on.done)) (tells x _ c.show.ensures)
          ∙ written_next shows c.args.items.now c.on.items c.args.leaf.now c.args.from c.args.filled c.on.done x (omega arith) c.on.invariant.size (omega arith)
          (search rules) (c.on.invariant.written shows tells);
      size = length-set c.on.items (c.args.filled + c.on.done) c.show.result ∙ c.on.invariant.size;
      within = omega arith;
      visits = elim c.if-done-gt0.branch [
        | then-done-gt0 w ↦ omega (arith, w.steps-is)
        | else-done-gt0 w ↦ omega (arith, w.steps-is)
      ];
    }

pub returns-clause-items : goal.returns-clause-items
returns-clause-items g c = λ shows tells. c.on.invariant.written shows tells
    ∙ ap (λ n. overwritten c.args.items.now c.args.filled (map shows (take n (drop c.args.from c.args.leaf.now))))
    (let all : c.on.done ≡ c.args.count = omega arith in all)
