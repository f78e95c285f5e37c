-- What became of what a row put in: the later row that took it out, or that it stays.
use Rattle.std.specs.Prelude.{◌≡◌, ℕ, suc, true, false, ◌<◌, ◌≤◌, List, length}
use Rattle.fates.specs.declared.fate.Fate.{Fate}
use Rattle.fates.specs.declared.fate.Fate.TheVariants.{Taken, Stays}
use Rattle.retro_base.specs.declared.kind.Kind.{Kind}
use Rattle.retro_base.specs.declared.row.Row.{Row}
use Rattle.retro_base.specs.Holders.{holders, holds}

-- what the row at the index put in, with this number, is there up to the place, and the row at the place takes it out
pub record IsTakenAt (kind : Kind) (rows : List Row) (index number place : ℕ) : Type 0 where
  pub later : index < place
  pub within : place < length rows
  pub there : (q : ℕ) → index < q → q ≤ place → holds number (holders kind rows q) ≡ true
  pub gone : holds number (holders kind rows (suc place)) ≡ false

-- the fate of what the row at the index put in
abbrev pub IsFate : Kind → List Row → ℕ → ℕ → Fate → Type 0
IsFate kind rows index number (Taken place) = IsTakenAt kind rows index number place
IsFate kind rows index number Stays = (q : ℕ) → index < q → q ≤ length rows → holds number (holders kind rows q) ≡ true
