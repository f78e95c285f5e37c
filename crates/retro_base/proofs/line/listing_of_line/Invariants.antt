use Rattle.std.proofs.Common.{◌≡◌, ◌++◌, map}
use Rattle.std.specs.VecDeque.Iter.{deque_iter_rest}
use Rattle.retro_base.specs.declared.question.Item.TheVariants.{Single}
use Rattle.retro_base.proofs.line.listing_of_line.Given as goal

abbrev pub invariant-loop-value : goal.invariant-loop-value
invariant-loop-value l = l.listing ++ map (λ x. Single x) (deque_iter_rest l.value-iterator) ≡ map (λ x. Single x) l.line.items
