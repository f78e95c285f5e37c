-- Laws on the stated bridge and on the change: each edit states one bridge, and each accepted edit has one change. The functions
-- that name them meet the relations.
use Rattle.std.specs.Prelude.{◌≡◌, ◌≢◌, ℕ, List, Option}
use Rattle.retro_base.specs.declared.kind.Kind.{Kind}
use Rattle.retro_base.specs.declared.kind.Kind.TheVariants.{Pq}
use Rattle.retro_base.specs.declared.row.Change.{Change}
use Rattle.retro_base.specs.declared.row.Row.{Row}
use Rattle.retro_base.specs.Edits.{Edit, IsAccepted}
use Rattle.retro_base.specs.Bridges.{IsStatedBridge, stated_bridge}
use Rattle.retro_base.specs.Changes.{IsChange, change_of}
use Rattle.retro_base.specs.Carried.{IsPqEdit}

-- the stated bridge is the one that `stated_bridge` names, and no other
pub record IsTheStatedBridge (rows : List Row) (edit : Edit) (bridge : Option ℕ) : Type 0 where
  pub meets : IsStatedBridge rows edit bridge
  pub alone : (other : Option ℕ) → IsStatedBridge rows edit other → other ≡ bridge

abbrev pub OneBridgeIsStated : Type 0
OneBridgeIsStated = (rows : List Row) (edit : Edit) → IsPqEdit rows edit → IsTheStatedBridge rows edit (stated_bridge rows edit)

-- the change is the one that `change_of` names, and no other
pub record IsTheChange (kind : Kind) (rows : List Row) (edit : Edit) (change : Change) : Type 0 where
  pub meets : IsChange kind rows edit change
  pub alone : (other : Change) → IsChange kind rows edit other → other ≡ change

abbrev pub OneChangeOfPq : Type 0
OneChangeOfPq = (rows : List Row) (edit : Edit) → IsPqEdit rows edit → IsAccepted Pq rows edit → IsTheChange Pq rows edit (change_of Pq rows edit)

-- of the other kinds it is `Plain`
abbrev pub OneChangeOfOthers : Type 0
OneChangeOfOthers = (kind : Kind) (rows : List Row) (edit : Edit) → kind ≢ Pq → IsTheChange kind rows edit (change_of kind rows edit)
