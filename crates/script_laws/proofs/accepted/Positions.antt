-- A spot is a place among the rows, and a cut takes a row that stands there.
use Rattle.std.proofs.Common.{◌≡◌, ℕ, ◌<◌, ◌≤◌, true, nat_le, List, length, slice_get, refl, arith, Option, Some, None, option_map}
use Rattle.std.specs.Prelude.{option_and_then, IfSome}
use Rattle.std.proofs.lemmas.List.Sums.{count_by-le-length}
use Rattle.std.proofs.lemmas.Option.{slice_get_within}
use Rattle.retro_base.specs.declared.kind.Kind.{Kind}
use Rattle.retro_base.specs.declared.row.Row.{Row}
use Rattle.retro_base.specs.Edits.{Edit, add, cut}
use Rattle.retro_base.specs.Kind.{same_kind}
use Rattle.retro_base.specs.Places.{place_of_row}
use Rattle.script_grammar.specs.declared.command.Spot.{Spot}
use Rattle.script_grammar.specs.declared.command.Spot.TheVariants as spots
use Rattle.reactions.specs.declared.position.Position.{Position}
use Rattle.reactions.specs.TimelineEffects.{next_position, position_before, position_of}

-- two kinds are one
pub same_kind_is : (kind other : Kind) → same_kind kind other ≡ true → kind ≡ other
same_kind_is kind other is = grind arith

-- positions
abbrev position_at : ℕ → Row → Position
position_at place row = record { place = place; time = row.time }

placed_within : (rows : List Row) (place : ℕ) (row : Option Row) → slice_get rows place ≡ row
    → IfSome (option_map (λ (r : Row). position_at place r) row) (λ p. p.place < length rows)
placed_within rows place row there = grind (arith, slice_get_within)

found_within : (rows : List Row) (place : Option ℕ)
    → IfSome (option_and_then (λ p. option_map (λ (r : Row). position_at p r) (slice_get rows p)) place) (λ p. p.place < length rows)
found_within rows None = tt
found_within rows (Some place) = placed_within rows place (slice_get rows place) refl

not_after : (n : ℕ) (position : Option Position) → IfSome position (λ p. p.place < n) → IfSome position (λ p. p.place ≤ n)
not_after n position within = grind arith

one_further : (n : ℕ) (position : Option Position) → IfSome position (λ p. p.place < n) → IfSome (option_map next_position position) (λ p. p.place ≤ n)
one_further n position within = grind arith

pub position_within : (spot : Spot) (rows : List Row) → IfSome (position_of spot rows) (λ p. p.place ≤ length rows)
position_within (spots.At time) rows = count_by-le-length (λ (row : Row). nat_le row.time time) rows
position_within (spots.Before number) rows = not_after (length rows) (position_before number rows) (found_within rows (place_of_row number rows))
position_within (spots.After number) rows = one_further (length rows) (position_before number rows) (found_within rows (place_of_row number rows))

-- cuts
abbrev pub IsCutOf : List Row → Edit → Type 0
IsCutOf rows (add place row) = ⊥
IsCutOf rows (cut place row) = slice_get rows place ≡ Some row

cut_there : (rows : List Row) (place : ℕ) (row : Option Row) → slice_get rows place ≡ row → IfSome (option_map (cut place) row) (IsCutOf rows)
cut_there rows place row there = grind arith

pub cut_is : (rows : List Row) (place : Option ℕ) → IfSome (option_and_then (λ p. option_map (cut p) (slice_get rows p)) place) (IsCutOf rows)
cut_is rows None = tt
cut_is rows (Some place) = cut_there rows place (slice_get rows place) refl
