-- How a line is answered, by the follower that it mutes or by the bench.
use Rattle.std.proofs.Common.{◌≡◌, ℕ, Bool, false, List, [], refl, Option, Some, None, Result, Ok, Err}
use Rattle.std.specs.Prelude.{IfOk, IfSome, IsSome, OnOk}
use Rattle.followers.specs.Followers.{Reporting}
use Rattle.reactions.specs.Bench.{Bench, BenchState}
use Rattle.reactions.specs.Reaction.{Reaction, reacts_to}
use Rattle.retro_run.specs.declared.stop.Stop.{Stop}
use Rattle.retro_run.specs.Audience.{Audience, Turn, answers, follower_at, follows_to, hears, mutes, reports, without}
use Rattle.retro_run.specs.Events.{events_among, report_line}
use Rattle.retro_run.specs.MuteLaws.{refuses_mute}

module _ (bench : Bench) (who : Audience) (bytes : List ℕ) (long : Bool) (number : ℕ) (muted : mutes bench.block bytes long ≡ Some number) where
  turn_is : (report : Reporting) → follower_at who number ≡ Some report → follows_to bench who bytes long ≡ reports who number report (reacts_to bench bytes long)
  turn_is report left = rw (muted, left) refl

  pub answered_by_follower : (at : Option Reporting) → follower_at who number ≡ at → IsSome at → (result : Result Bool Stop) (state : BenchState) (now : Audience)
      → state ≡ record { bench = bench; spent = false } → IfOk result (λ refused. refused ≡ false) → OnOk result (IfSome at (λ report. now ≡ without who number))
      → IfOk result (λ refused. (state ≡ record { bench = (follows_to bench who bytes long).reaction.bench; spent = false })
      × (refused ≡ (follows_to bench who bytes long).reaction.refused) × (now ≡ (follows_to bench who bytes long).audience))
  answered_by_follower None left some result state now is unrefused gone = absurd (cc)
  answered_by_follower (Some report) left some (Err stop) state now is unrefused gone = tt
  answered_by_follower (Some report) left some (Ok refused) state now is unrefused gone =
      rw (turn_is report left, refuses_mute bench.timelines bench.block bytes long number muted) (is, unrefused, gone)

  -- and what is said of its line is said of the answer
  pub of_follower : (at : Option Reporting) → follower_at who number ≡ at → IsSome at → (P : List ℕ → Type 0) → IfSome at (λ report. P (report_line number (report [])))
      → P (follows_to bench who bytes long).reaction.answer
  of_follower None left some P holds = absurd (cc)
  of_follower (Some report) left some P holds = rw (turn_is report left) holds

-- the bench answered a line, and its events were heard
module _ (turn : Turn) (who : Audience) (reaction : Reaction) (state : BenchState) (text : List ℕ) (refused : Bool) (is : turn ≡ answers who reaction)
    (reacts : reaction ≡ record { bench = state.bench; answer = text; refused = refused }) where
  pub answered_by_bench : (now : Audience) → state.spent ≡ false → now ≡ hears (events_among text) who
      → (state ≡ record { bench = turn.reaction.bench; spent = false }) × (refused ≡ turn.reaction.refused) × (now ≡ turn.audience)
  answered_by_bench now unspent heard = rw (is, reacts, heard) (rw (← unspent) refl, refl, refl)

  pub answer_of_bench : text ≡ turn.reaction.answer
  answer_of_bench = rw (is, reacts) refl
