-- How few rows an edit makes anew. Where a part is made anew, the wear that it had pays for its rows.
use Rattle.std.specs.Prelude.{ℕ, ◌+◌, ◌*◌, ◌≤◌, List, [], ◌∷◌, length}
use Rattle.costs.specs.Digits.{digits}
use Rattle.pq_fusion.specs.Nodes.{weight, IsWithinLevels}
use Rattle.pq_fusion.specs.Wear.{WornRows, unworn}

-- an edit makes so many rows anew at most, and two more for each wear that goes; it makes two fewer for each that comes
abbrev pub AnewUpTo : ℕ → WornRows → WornRows → ℕ → ℕ → Type 0
AnewUpTo most before after counted now = now + 2 * after.wear ≤ counted + 2 * before.wear + most

-- it wears one pair on each level, and makes one run anew
abbrev pub AnewOnLevels : WornRows → WornRows → ℕ → ℕ → Type 0
AnewOnLevels before after counted now = (levels : ℕ) → IsWithinLevels (weight before.rows) levels → AnewUpTo (2 * levels + 65) before after counted now

-- that is 6 rows for each digit of one more than there are before it, and 65
abbrev pub AnewWithin : WornRows → WornRows → ℕ → ℕ → Type 0
AnewWithin before after counted now = AnewUpTo (6 * digits (length before.rows + 1) + 65) before after counted now

-- edits that find their memory, one after another, each with what it leads to and how many rows were made anew up to there
abbrev pub AreEdits : WornRows → ℕ → List (WornRows × ℕ) → Type 0
AreEdits before counted [] = Unit {0}
AreEdits before counted (next ∷ others) = AnewWithin before next.0 counted next.1 × AreEdits next.0 next.1 others

-- at last these are no more than the first number, and 6 for each digit and 65 for each edit
abbrev pub AreFew : ℕ → WornRows → ℕ → List (WornRows × ℕ) → Type 0
AreFew most before counted [] = counted ≤ most
AreFew most before counted (next ∷ others) = AreFew (most + (6 * digits (length before.rows + 1) + 65)) next.0 next.1 others

-- the empty queue has no wear, and no queue has less: what an edit makes anew was paid for before
abbrev pub FewMadeAnew : Type 0
FewMadeAnew = (counted : ℕ) (edits : List (WornRows × ℕ)) → AreEdits (unworn []) counted edits → AreFew counted (unworn []) counted edits
