use Rattle.std.proofs.Common.{◌≡◌, ℕ, ◌+◌, ◌-◌, ◌≤◌, ◌∙◌, ap, arith}
use Rattle.costs.specs.VisitsLaws.{visits-again}
use Rattle.checkpoint_full.specs.Checkpoints.{first_of, place_of}
use Rattle.checkpoint_full.proofs.FirstRows.{one_taken_off, place_of-first_of}
use Rattle.checkpoint_full.proofs.snapshot.Snapshot.roll_back.Goals as goal

pub loop-preserved : goal.loop-preserved
loop-preserved g c =
    let now = c.args.self.now in
    let left : ℕ = place_of now + c.args.place - c.loop.counter in
    let within : left ≤ place_of now = omega (arith, c.loop.auto.counter) in
    let here : place_of c.loop.self ≡ left = rw c.loop.invariant.rows (place_of-first_of left now within) in
    record {
      rows = one_taken_off now c.loop.self _ left c.loop.invariant.rows within c.take_last_off.ensures.rows
          ∙ ap (λ (count : ℕ). first_of count now) (omega arith);
      end = c.loop.invariant.end;
      visits = visits-again 144 _ _ _ _ _ _ _ (omega (arith, c.loop.auto.counter)) (omega (arith, here)) c.loop.invariant.visits c.take_last_off.ensures.visits;
    }
