-- The entries that rows add are those that their moves add.
use Rattle.std.proofs.Common.{List, [], ◌∷◌, inl, inr, Some, None}
use Rattle.std.specs.List.{cons_option}
use Rattle.retro_base.specs.declared.row.Entry.{Entry}
use Rattle.retro_base.specs.declared.row.Row.{Row}
use Rattle.retro_base.specs.Weights.{added_by}
use Rattle.retro_base.specs.BridgeTable.{added}
use Rattle.retro_base.specs.lemmas.bridges.Entries.{In}
use Rattle.retro_base.specs.lemmas.bridges.Moves.{Adds}
use Rattle.retro_base.specs.lemmas.bridges.Histories.{moves_of}

pub added_adds : (rows : List Row) (x : Entry) → In x (added rows) → Adds x (moves_of rows)
added_adds [] x inside = absurd inside
added_adds (row ∷ rows) x inside = elim (added_by row) as (λ m. In x (cons_option m (added rows)) → Adds x (m ∷ moves_of rows)) [
  | Some e ↦ λ here. elim here [ inl same ↦ inl same | inr later ↦ inr (added_adds rows x later) ]
  | None ↦ λ later. added_adds rows x later
] inside

pub adds_added : (rows : List Row) (x : Entry) → Adds x (moves_of rows) → In x (added rows)
adds_added [] x adds = absurd adds
adds_added (row ∷ rows) x adds = elim (added_by row) as (λ m. Adds x (m ∷ moves_of rows) → In x (cons_option m (added rows))) [
  | Some e ↦ λ here. elim here [ inl same ↦ inl same | inr later ↦ inr (adds_added rows x later) ]
  | None ↦ λ later. adds_added rows x later
] adds
