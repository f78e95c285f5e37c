use Rattle.std.proofs.Common.{ℕ, ◌+◌, ◌*◌, ◌≤◌, List, [], ◌∷◌, length, arith}
use Rattle.costs.specs.Digits.{digits}
use Rattle.pq_fusion.specs.Wear.{WornRows, unworn}
use Rattle.pq_fusion.specs.WearLevels.{AreEdits, AreFew}
use Rattle.pq_fusion.proofs.laws.making_anew_is_rare.Goals as goal

few_from : (most counted : ℕ) (before : WornRows) (edits : List (WornRows × ℕ)) → counted + 2 * before.wear ≤ most → AreEdits before counted edits → AreFew most before counted edits
few_from most counted before [] few all = omega (arith, few)
few_from most counted before (next ∷ others) few all = few_from (most + (6 * digits (length before.rows + 1) + 65)) next.1 next.0 others (omega (arith, few, all.0)) all.1

pub returns : goal.returns
returns c = λ counted edits all. few_from counted counted (unworn []) edits (omega arith) all
