-- What a closed node ends as, where it was opened to be changed.
use Rattle.std.specs.Prelude.{Box}
use Rattle.std.specs.Borrow.{Lends, Fml, RattleType, MutBor}
use Rattle.std.specs.Global.{Global}
use Rattle.std.specs.contracts.alloc.Global as global
use Rattle.std.specs.contracts.boxed.Box as boxed
use Rattle.std.specs.contracts.impls.GlobalAllocator.TheImpl.{ghosts}
use Rattle.monoids.specs.declared.monoid.Measured as Measured
use Rattle.monoids.specs.declared.monoid.Monoid as Monoid
use Rattle.weighted_tree.specs.declared.closed.Closed.{Closed}
use Rattle.weighted_tree.specs.declared.subtree.Node.{Node}
use Rattle.weighted_tree.specs.contracts.closed.Closed.{the_row}
use Rattle.weighted_tree.specs.contracts.subtree.Node.{the_row as node_row}

module _ (T M : RattleType) (measured : Measured.Ghosts T.Denot M.Denot) (monoid : Monoid.Ghosts M.Denot) (closed : MutBor (Closed T.Denot M.Denot)) where
  -- once the borrow ends, the last node written through it
  abbrev pub lends_node : MutBor (Box (Node T.Denot M.Denot) Global) → Fml
  lends_node node = Lends (the_row T M measured monoid) (boxed.the_row (node_row T M measured monoid) global.the_row ghosts) closed node (λ w. record { node = w })
