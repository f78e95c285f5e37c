-- Rows in three parts: those before a place, the row there, and those behind it.
use Rattle.std.proofs.Common.{◌≡◌, ℕ, zero, suc, ◌-◌, ◌<◌, ◌≤◌, length, arith, List, [], ◌∷◌, ◌++◌, ap, ◌∙◌, subst, Some}
use Rattle.std.specs.Prelude.{slice_get}
use Rattle.retro_base.specs.declared.kind.Kind.TheVariants.{Pq}
use Rattle.retro_base.specs.declared.row.Row.{Row}
use Rattle.retro_base.specs.Kind.{kind_of}
use Rattle.retro_base.specs.Timeline.{AreOfKind}

pub kind_at : (rows : List Row) (place : ℕ) (row : Row) → slice_get rows place ≡ Some row → AreOfKind Pq rows → kind_of row.op ≡ Pq
kind_at [] place row there all = absurd (cc)
kind_at (x ∷ rows) zero row there all = let same : x ≡ row = cc in subst (λ r. kind_of r.op ≡ Pq) same all.0
kind_at (x ∷ rows) (suc place) row there all = kind_at rows place row there all.1

pub there_within : (rows : List Row) (place : ℕ) (row : Row) → slice_get rows place ≡ Some row → place < length rows
there_within [] place row there = absurd (cc)
there_within (x ∷ rows) zero row there = omega arith
there_within (x ∷ rows) (suc place) row there = omega (arith, there_within rows place row there)

-- the row there is that of the earlier part, or of the later one
pub there_earlier : (earlier later : List Row) (place : ℕ) (row : Row) → place < length earlier → slice_get (earlier ++ later) place ≡ Some row → slice_get earlier place ≡ Some row
there_earlier [] later place row within there = absurd (omega (arith, within))
there_earlier (x ∷ earlier) later zero row within there = there
there_earlier (x ∷ earlier) later (suc place) row within there = there_earlier earlier later place row (omega (arith, within)) there

pub there_later : (earlier later : List Row) (place : ℕ) (row : Row) → length earlier ≤ place → slice_get (earlier ++ later) place ≡ Some row
    → slice_get later (place - length earlier) ≡ Some row
there_later [] later place row beyond there = ap (slice_get later) (let same : place - 0 ≡ place = omega arith in same) ∙ there
there_later (x ∷ earlier) later zero row beyond there = absurd (omega (arith, beyond))
there_later (x ∷ earlier) later (suc place) row beyond there =
    ap (slice_get later) (let same : suc place - suc (length earlier) ≡ place - length earlier = omega arith in same)
    ∙ there_later earlier later place row (omega (arith, beyond)) there

-- and a row that stands in one of the parts
pub earlier_there : (earlier later : List Row) (place : ℕ) (row : Row) → place < length earlier → slice_get earlier place ≡ Some row → slice_get (earlier ++ later) place ≡ Some row
earlier_there [] later place row within there = absurd (omega (arith, within))
earlier_there (x ∷ earlier) later zero row within there = there
earlier_there (x ∷ earlier) later (suc place) row within there = earlier_there earlier later place row (omega (arith, within)) there

pub later_there : (earlier later : List Row) (place : ℕ) (row : Row) → length earlier ≤ place → slice_get later (place - length earlier) ≡ Some row
    → slice_get (earlier ++ later) place ≡ Some row
later_there [] later place row beyond there = ap (slice_get later) (let same : place ≡ place - 0 = omega arith in same) ∙ there
later_there (x ∷ earlier) later zero row beyond there = absurd (omega (arith, beyond))
later_there (x ∷ earlier) later (suc place) row beyond there = later_there earlier later place row (omega (arith, beyond))
    (ap (slice_get later) (let same : place - length earlier ≡ suc place - suc (length earlier) = omega arith in same) ∙ there)
