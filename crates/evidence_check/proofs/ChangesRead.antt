-- The change that is read off the marks is the one that the truth names, and where none is read the rows after it do not replay.
use Rattle.std.proofs.Common.{◌≡◌, List, refl, sym, ap, ◌∙◌, Option, Some, None}
use Rattle.retro_base.specs.declared.kind.Kind.TheVariants.{Pq}
use Rattle.retro_base.specs.declared.row.Change.{Change}
use Rattle.retro_base.specs.declared.row.Change.TheVariants.{Plain, Gain, Lose}
use Rattle.retro_base.specs.declared.row.Row.{Row}
use Rattle.retro_base.specs.Bridges.{stated_bridge}
use Rattle.retro_base.specs.Carried.{IsPqEdit}
use Rattle.retro_base.specs.ChangeLaws.{OneBridgeIsStated, OneChangeOfPq}
use Rattle.retro_base.specs.Changes.{IsPqChange, change_of}
use Rattle.retro_base.specs.Edits.{Edit, IsAccepted}
use Rattle.retro_base.specs.Facts.{some_is_not_none}
use Rattle.retro_base.specs.MarkedChange.{marked_change}
use Rattle.retro_base.specs.MarkedChangeLaws.{IsRightOf, MarksTellTheChange}
use Rattle.evidence_check.specs.Marks.{cause_against}
use Rattle.evidence_check.specs.Truth.{bridge_of, change_cause}

-- the laws that this stands on
pub record Laws : Type 0 where
  pub marks : MarksTellTheChange
  pub bridge : OneBridgeIsStated
  pub of_pq : OneChangeOfPq

module _ (laws : Laws) (rows : List Row) (edit : Edit) (possible : IsPqEdit rows edit) where
  bridge_is : (change : Change) → IsPqChange rows edit change → bridge_of change ≡ stated_bridge rows edit
  bridge_is Plain is = absurd is
  bridge_is (Gain bridge entry) is = (laws.bridge rows edit possible).alone (Some bridge) is.0
  bridge_is (Lose bridge entry) is = (laws.bridge rows edit possible).alone bridge is.0

  pub cause_read : (stated : Change) → cause_against stated (marked_change rows edit) ≡ change_cause rows edit stated
  cause_read stated = told (marked_change rows edit) (laws.marks rows edit possible)
    where
      told : (read : Option Change) → IsRightOf rows edit read → cause_against stated read ≡ change_cause rows edit stated
      told None fails = rw fails refl
      told (Some change) right = rw (right.0, ← ((laws.of_pq rows edit possible right.0).alone change right.1), ← (bridge_is change right.1)) refl

  pub read_is : (change : Change) → IsAccepted Pq rows edit → change ≡ change_of Pq rows edit → marked_change rows edit ≡ Some change
  read_is change accepted is = told (marked_change rows edit) (laws.marks rows edit possible)
    where
      told : (read : Option Change) → IsRightOf rows edit read → read ≡ Some change
      told None fails = absurd (some_is_not_none (sym fails ∙ accepted))
      told (Some read) right = ap Some ((laws.of_pq rows edit possible accepted).alone read right.1 ∙ sym is)
