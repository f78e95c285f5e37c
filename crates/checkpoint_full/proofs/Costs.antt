-- What rows cost that are appended one after another, and taken off again.
use Rattle.std.proofs.Common.{◌≡◌, ℕ, ◌+◌, ◌≤◌, List, length, Result, Ok, Err, ap, arith}
use Rattle.std.specs.Prelude.{OnOk, OnErr}
use Rattle.std.specs.List.{insert}
use Rattle.std.proofs.lemmas.List.Edits.{length-insert}
use Rattle.costs.specs.Visits.{VisitsWithin}
use Rattle.costs.specs.VisitsLaws.{visits-longer, visits-more}

-- a bound holds with each greater factor and length
pub visits_at_most : (few more shorter length before after : ℕ) → few ≤ more → shorter ≤ length → VisitsWithin few shorter before after → VisitsWithin more length before after
visits_at_most few more shorter length before after less within visits =
    visits-more few more length before after less (visits-longer few shorter length before after within visits)

-- an insertion, also one that runs out of memory, leaves one row more at the most
pub no_longer : {X T E : Type 0} (r : Result T E) (old new : List X) (place : ℕ) (x : X) → place ≤ length old → OnOk r (new ≡ insert old place x) → OnErr r (new ≡ old)
    → length new ≤ length old + 1
no_longer (Ok t) old new place x within ok err = omega (arith, ap length ok, length-insert old place x within)
no_longer (Err e) old new place x within ok err = omega (arith, ap length err)
