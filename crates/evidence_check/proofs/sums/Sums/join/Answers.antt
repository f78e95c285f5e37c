use Rattle.std.proofs.Common.{w32, SFits, refl, arith}
use Rattle.std.specs.Prelude.{◌+ℤ◌}
use Rattle.std.proofs.lemmas.Int.{ints}
use Rattle.evidence_check.proofs.Stored.{join_fits, stored_both, stored_lesser, within_fits}
use Rattle.evidence_check.proofs.SumsJoined.{same_sums}
use Rattle.evidence_check.proofs.sums.Sums.join.Goals as goal

pub returns : goal.returns
returns c =
    let a = c.args.self in
    let b = c.args.other in
    let first = join_fits a.sum a.rows c.requires.bounded.up c.requires.bounded.down (omega (arith, c.requires.few)) in
    let second = join_fits b.sum b.rows c.requires.other.up c.requires.other.down (omega (arith, c.requires.few)) in
    let both : SFits w32 (a.sum +ℤ b.sum) =
    within_fits (a.sum +ℤ b.sum) (omega (arith, ints, c.requires.few, c.requires.bounded.up, c.requires.other.up)) (omega (arith, ints, c.requires.few, c.requires.bounded.down, c.requires.other.down)) in
    let low : SFits w32 b.low = within_fits b.low (omega (arith, ints, c.requires.other.low_up)) (omega (arith, ints, c.requires.few, c.requires.other.low_down)) in
    let low_first : SFits w32 a.low = within_fits a.low (omega (arith, ints, c.requires.bounded.low_up)) (omega (arith, ints, c.requires.few, c.requires.bounded.low_down)) in
    let low_both : SFits w32 (a.sum +ℤ b.low) =
    within_fits (a.sum +ℤ b.low) (omega (arith, ints, c.requires.few, c.requires.bounded.up, c.requires.other.low_up))
    (omega (arith, ints, c.requires.few, c.requires.bounded.down, c.requires.other.low_down)) in
    same_sums _ _ _ _ _ _ _ _ _ _ refl (stored_both a.sum b.sum first second both)
    (stored_lesser c.lesser.result a.low a.sum b.low low_first first low low_both c.lesser.ensures)
    c.better_of.ensures c.better_of-2.ensures
