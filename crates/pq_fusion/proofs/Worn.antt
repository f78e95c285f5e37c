-- What an edit of one side of a pair adds to the wear of the pair.
use Rattle.std.proofs.Common.{◌≡◌, ℕ, zero, suc, ◌+◌, ◌*◌, ◌≤◌, ◌⊎◌, inl, inr, false, List, ◌++◌, length, sym, subst, arith, length-append, Result, Ok, Err, OnOk}
use Rattle.std.proofs.lemmas.Bool.Decides.{nat_tests}
use Rattle.retro_base.specs.declared.row.Row.{Row}
use Rattle.costs.specs.Digits.{digits}
use Rattle.pq_fusion.specs.Nodes.{weight, IsBalanced}
use Rattle.pq_fusion.specs.Passages.{make_pair}
use Rattle.pq_fusion.specs.Wear.{WornRows, gap, joined}
use Rattle.pq_fusion.specs.WearLevels.{AnewOnLevels, AnewWithin}
use Rattle.pq_fusion.proofs.Stored.{levels-of_digits}

-- an edit of a side changes the gap by one at most
gap_earlier : (earlier later edited : ℕ) → edited ≤ earlier + 1 → earlier ≤ edited + 1 → gap edited later ≤ gap earlier later + 1
gap_earlier earlier later edited more less = omega (arith, more, less)

gap_later : (earlier later edited : ℕ) → edited ≤ later + 1 → later ≤ edited + 1 → gap earlier edited ≤ gap earlier later + 1
gap_later earlier later edited more less = omega (arith, more, less)

-- so what the edit of a side leaves to be paid is two more in the pair, which has a level more
module _ (earlier later edited : WornRows) (balanced : IsBalanced (length earlier.rows) (length later.rows)) (start end : ℕ) where
  both : length (earlier.rows ++ later.rows) ≡ length earlier.rows + length later.rows
  both = length-append earlier.rows later.rows

  pub rare_earlier : length edited.rows ≤ length earlier.rows + 1 → length earlier.rows ≤ length edited.rows + 1 → AnewOnLevels earlier edited start end
      → AnewOnLevels (joined earlier later) (joined edited later) start end
  rare_earlier more less rare zero within = absurd (omega (arith, within, balanced.earlier_light, both))
  rare_earlier more less rare (suc levels) within =
      omega (
        arith,
        rare levels (within (weight earlier.rows) (omega (arith, balanced.earlier_light, both))),
        gap_earlier (length earlier.rows) (length later.rows) (length edited.rows) more less,
      )

  pub rare_later : length edited.rows ≤ length later.rows + 1 → length later.rows ≤ length edited.rows + 1 → AnewOnLevels later edited start end
      → AnewOnLevels (joined earlier later) (joined earlier edited) start end
  rare_later more less rare zero within = absurd (omega (arith, within, balanced.earlier_light, both))
  rare_later more less rare (suc levels) within =
      omega (
        arith,
        rare levels (within (weight later.rows) (omega (arith, balanced.later_light, both))),
        gap_later (length earlier.rows) (length later.rows) (length edited.rows) more less,
      )

-- sides that an edit brings out of balance have so much wear that it pays for their rows, or these are few
pub out_of_balance : (earlier later next_earlier next_later : ℕ) → make_pair next_earlier next_later ≡ false → next_earlier ≤ earlier + 1 → earlier ≤ next_earlier + 1
    → next_later ≤ later + 1 → later ≤ next_later + 1 → (next_earlier ≡ earlier) ⊎ (next_later ≡ later) → earlier + later ≤ 64 + 2 * gap earlier later
out_of_balance earlier later next_earlier next_later out first second third fourth (inl same) = grind (arith, nat_tests)
out_of_balance earlier later next_earlier next_later out first second third fourth (inr same) = grind (arith, nat_tests)

-- in digits, of which a tree has 3 levels at most for each, and seen from outside
pub rare_seen : (before after seen : WornRows) (edited : List Row) (start end : ℕ) → seen.rows ≡ before.rows → seen.wear ≡ before.wear → AnewOnLevels before after start end
    → AnewWithin seen (record { rows = edited; wear = after.wear }) start end
rare_seen before after seen edited start end rows wear rare =
    subst (λ l. end + 2 * after.wear ≤ start + 2 * seen.wear + (6 * digits (length l + 1) + 65)) (sym rows)
    (omega (arith, wear, rare (3 * digits (length before.rows + 1)) (levels-of_digits (length before.rows + 1))))

pub on_ok : {T E : Type 0} (A B : Type 0) (result : Result T E) → (A → B) → OnOk result A → OnOk result B
on_ok A B (Ok value) more holds = more holds
on_ok A B (Err error) more holds = tt
