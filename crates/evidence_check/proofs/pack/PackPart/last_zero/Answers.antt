use Rattle.std.proofs.Common.{◌≡◌, pos, w32, SFits, length, ap, ◌∙◌}
use Rattle.std.specs.Prelude.{◌+ℤ◌, ◌≤ℤ◌}
use Rattle.std.proofs.lemmas.Int.{to_z-of_z}
use Rattle.evidence_check.specs.Sums.{low_of}
use Rattle.evidence_check.proofs.Stored.{above_fits, above_zero, low_fits, stored_both}
use Rattle.evidence_check.proofs.Zeros.{few_of, none_above, none_last}
use Rattle.evidence_check.proofs.pack.PackPart.last_zero.Goals as goal

pub overflow_add-before : goal.overflow_add-before
overflow_add-before g c =
    let is : c.self.inside.sums.low ≡ low_of c.args.self.now = ap (λ s. s.low) c.self.invariant ∙ ap low_of c.self.view_is in
    let low : SFits w32 c.self.inside.sums.low = rw is (low_fits c.args.self.now (few_of c.args.before (length c.args.self.now) c.requires)) in
    rw (to_z-of_z w32 c.args.before c.ranges.before, to_z-of_z w32 c.self.inside.sums.low low) (above_fits c.args.before c.self.inside.sums.low c.args.self.now is c.requires)

pub returns-then-before-self-gt0 : goal.returns-then-before-self-gt0
returns-then-before-self-gt0 g c =
    let is : c.self.inside.sums.low ≡ low_of c.args.self.now = ap (λ s. s.low) c.self.invariant ∙ ap low_of c.self.view_is in
    let low : SFits w32 c.self.inside.sums.low = rw is (low_fits c.args.self.now (few_of c.args.before (length c.args.self.now) c.requires)) in
    let stored = stored_both c.args.before c.self.inside.sums.low c.ranges.before low (above_fits c.args.before c.self.inside.sums.low c.args.self.now is c.requires) in
    let above : pos 1 ≤ℤ (c.args.before +ℤ low_of c.args.self.now) = above_zero _ c.args.before c.self.inside.sums.low (low_of c.args.self.now) stored is c.if-before-self-gt0.true in
    none_last c.args.before c.args.self.now c.args.to (none_above c.args.before c.args.self.now 1 c.args.to above)
