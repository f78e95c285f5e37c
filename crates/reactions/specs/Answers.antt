-- The reactions to the lines of a script, each on the bench that the lines before it have left.
use Rattle.std.specs.Prelude.{ℕ, List, [], ◌∷◌}
use Rattle.reactions.specs.Bench.{Bench}
use Rattle.reactions.specs.Reaction.{Reaction, reacts}

-- the reactions to lines, one for each
unfoldable pub reactions : Bench → List (List ℕ) → List Reaction
reactions bench [] = []
reactions bench (line ∷ more) = reacts bench line ∷ reactions (reacts bench line).bench more

-- the bench that lines leave
unfoldable pub bench_after : Bench → List (List ℕ) → Bench
bench_after bench [] = bench
bench_after bench (line ∷ more) = bench_after (reacts bench line).bench more
