-- Where nobody follows a script, the bench alone answers it.
use Rattle.std.proofs.Common.{◌≡◌, ℕ, List, [], ◌∷◌, ap, ◌∙◌, refl, arith, Option}
use Rattle.std.proofs.Math.Path.{fun_ext}
use Rattle.reactions.specs.Answers.{reactions}
use Rattle.reactions.specs.Bench.{Bench, empty_bench}
use Rattle.reactions.specs.Reaction.{Reaction, reacts}
use Rattle.retro_run.specs.Audience.{audience_after, followed, followed_from, texts_of, turn}
use Rattle.retro_run.specs.Output.{Answering, alone}

-- then no line mutes a follower
nobody_mutes : (muted : Option ℕ) (reaction : Reaction) → turn [] muted reaction ≡ record { reaction = reaction; audience = [] }
nobody_mutes muted reaction = grind arith

alone_from : (bench : Bench) (first : List (List ℕ)) → followed_from bench [] first ≡ reactions bench first
unfolding followed_from reactions
alone_from bench [] = refl
alone_from bench (line ∷ first) =
    rw (nobody_mutes _ (reacts bench line)) (ap (λ rs. reacts bench line ∷ rs) (alone_from (reacts bench line).bench first))

nobody_left : (bench : Bench) (all : List (List ℕ)) → texts_of (audience_after bench [] all) ≡ []
unfolding audience_after
nobody_left bench [] = refl
nobody_left bench (line ∷ all) = rw (nobody_mutes _ (reacts bench line)) (nobody_left (reacts bench line).bench all)

abbrev answered_so : (List (List ℕ) → List Reaction) → (List (List ℕ) → List (Option (List ℕ))) → Answering
answered_so reactions_to reports_after = record { reactions_to = reactions_to; reports_after = reports_after }

pub nobody_follows : followed [] ≡ alone
nobody_follows =
    ap (λ to. answered_so to (λ all. texts_of (audience_after empty_bench [] all))) (fun_ext (alone_from empty_bench))
    ∙ ap (λ after. answered_so (λ first. reactions empty_bench first) after) (fun_ext (nobody_left empty_bench))
