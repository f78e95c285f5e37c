-- One entry of a rising list in the place of another.
use Rattle.std.specs.Prelude.{◌≡◌, ◌⊎◌, ℕ, ◌≤◌, true, false, List, [], ◌∷◌, length}
use Rattle.std.specs.List.{AllWithin}
use Rattle.retro_base.specs.declared.row.Entry.{Entry}
use Rattle.retro_base.specs.EntriesInOrder.{AreInOrder}
use Rattle.retro_base.specs.State.{comes_before}
use Rattle.pq_fusion.specs.declared.bound.Bound.{Bound}
use Rattle.pq_fusion.specs.declared.bound.Bound.TheVariants.{Low, At, Top}
use Rattle.pq_fusion.specs.Bounds.{with_bound}

-- the place of an entry in a rising list: those before it come before the entry, and no others
pub record IsPlaceOf (entry : Entry) (entries : List Entry) (place : ℕ) : Type 0 where
  pub within : place ≤ length entries
  pub before : AllWithin (λ y. comes_before y entry ≡ true) entries 0 place
  pub from : AllWithin (λ y. comes_before y entry ≡ false) entries place (length entries)

-- the entry is one of these
abbrev pub Has : Entry → List Entry → Type 0
Has x [] = ⊥
Has x (y ∷ ys) = (x ≡ y) ⊎ Has x ys

abbrev pub HasBound : Bound → List Entry → Type 0
HasBound (At entry) entries = Has entry entries
HasBound Low entries = Unit {0}
HasBound Top entries = Unit {0}

-- with the one that is put in, the old list is the new one with the other that is taken out
pub record IsExchange (put take : Bound) (old new : List Entry) : Type 0 where
  pub order : AreInOrder new
  pub same : with_bound put old ≡ with_bound take new
