-- An edit that was made in rows that replay, and left rows that replay.
use Rattle.std.proofs.Common.{◌≡◌, ◌≢◌, ℕ, zero, suc, List, [], ◌∷◌, sym}
use Rattle.std.specs.List.{insert, AllByRecursion}
use Rattle.retro_base.specs.declared.kind.Kind.{Kind}
use Rattle.retro_base.specs.declared.kind.Kind.TheVariants.{Pq}
use Rattle.retro_base.specs.declared.row.Change.{Change}
use Rattle.retro_base.specs.declared.row.Row.{Row}
use Rattle.retro_base.specs.Carried.{AddsOwnRow, IsPqEdit}
use Rattle.retro_base.specs.Changes.{IsChange}
use Rattle.retro_base.specs.Edits.{Edit, add, cut, edited, IsWithin}
use Rattle.retro_base.specs.Kind.{kind_of}
use Rattle.retro_base.specs.Timeline.{HaveOwnNumbers, IsFresh, IsReplayable}

-- the edit could be made, and this is its change
pub record IsMade (kind : Kind) (rows : List Row) (edit : Edit) (change : Change) : Type 0 where
  pub before : IsReplayable kind rows
  pub within : IsWithin rows edit
  pub after : IsReplayable kind (edited rows edit)
  pub changed : IsChange kind rows edit change

-- what holds of all rows holds of the one that was put in
pub all_inserted : {X : Type 0} (P : X → Type 0) (xs : List X) (place : ℕ) (x : X) → AllByRecursion P (insert xs place x) → P x
all_inserted P xs zero x all = all.0
all_inserted P [] (suc place) x all = all.0
all_inserted P (y ∷ ys) (suc place) x all = all_inserted P ys place x all.1

-- its number is none of the others
pub inserted_is_fresh : (rows : List Row) (place : ℕ) (row : Row) → HaveOwnNumbers (insert rows place row) → IsFresh row.number rows
inserted_is_fresh rows zero row own = own.0
inserted_is_fresh [] (suc place) row own = tt
inserted_is_fresh (first ∷ rows) (suc place) row own =
    (λ same. all_inserted (λ r. r.number ≢ first.number) rows place row own.0 (sym same), inserted_is_fresh rows place row own.1)

pub adds_own_row : (rows : List Row) (edit : Edit) → IsReplayable Pq (edited rows edit) → AddsOwnRow rows edit
adds_own_row rows (add place row) after =
    (all_inserted (λ r. kind_of r.op ≡ Pq) rows place row after.of_kind, inserted_is_fresh rows place row after.own_numbers)
adds_own_row rows (cut place row) after = tt

-- so it is an edit of a priority queue, of which the laws on bridges speak
pub pq_edit_of : (rows : List Row) (edit : Edit) (change : Change) → IsMade Pq rows edit change → IsPqEdit rows edit
pq_edit_of rows edit change made = record {
  history = record { of_kind = made.before.of_kind; own_numbers = made.before.own_numbers; valid = made.before.valid };
  within = made.within;
  own_row = adds_own_row rows edit made.after;
}
