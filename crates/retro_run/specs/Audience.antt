-- Who follows a script, and how its lines are answered then: the bench answers each line but those that mute a follower.
use Rattle.std.specs.Prelude.{ℕ, zero, suc, Bool, false, List, [], ◌∷◌, ◌++◌, map, Option, None, Some, option_map, Result, Ok}
use Rattle.retro_base.specs.LineLength.{is_long}
use Rattle.evidence.specs.declared.evidence.Evidence.{Evidence}
use Rattle.followers.specs.Followers.{Reporting}
use Rattle.script_grammar.specs.declared.command.Command.{Command}
use Rattle.script_grammar.specs.declared.command.Command.TheVariants.{Mute}
use Rattle.script_grammar.specs.declared.command.LineError.{LineError}
use Rattle.reactions.specs.Bench.{Bench, OpenBlock, empty_bench}
use Rattle.reactions.specs.Reaction.{Reaction, reacts, reacts_to, spelled}
use Rattle.retro_run.specs.Events.{events_among, report_line}
use Rattle.retro_run.specs.Output.{Answering}

-- the followers by their numbers, each by what it reports after further events; none under the number of one that was muted
abbrev pub Audience : Type 0
Audience = List (Option Reporting)

-- the followers as they are handed in
abbrev pub audience_of : List Reporting → Audience
audience_of followers = map (λ report. Some report) followers

-- those who are left of some followers, each seen by what it reports
abbrev pub audience_by : {F : Type 0} → (F → Reporting) → List (Option F) → Audience
audience_by seen followers = map (option_map seen) followers

-- a follower that has taken events
abbrev pub after_events : List Evidence → Reporting → Reporting
after_events events report = λ later. report (events ++ later)

-- each follower that is left has taken them
abbrev pub hears : List Evidence → Audience → Audience
hears events audience = map (option_map (after_events events)) audience

-- the follower with this number, if it is left
abbrev pub follower_at : Audience → ℕ → Option Reporting
follower_at [] number = None
follower_at (follower ∷ others) zero = follower
follower_at (follower ∷ others) (suc number) = follower_at others number

-- the others keep their numbers
abbrev pub without : Audience → ℕ → Audience
without [] number = []
without (follower ∷ others) zero = None ∷ others
without (follower ∷ others) (suc number) = follower ∷ without others number

-- the number in `mute I`
abbrev pub number_muted : Result Command LineError → Option ℕ
number_muted (Ok (Mute number)) = Some number
number_muted line = None

-- the number of the follower that a line mutes; within a block it mutes none
abbrev pub mutes : Option OpenBlock → List ℕ → Bool → Option ℕ
mutes None bytes long = number_muted (spelled bytes long)
mutes (Some block) bytes long = None

-- the reaction to a line, and who follows afterwards
pub record Turn : Type 0 where
  pub reaction : Reaction
  pub audience : Audience

-- the bench answers, and its events are heard
abbrev pub answers : Audience → Reaction → Turn
answers audience reaction = record { reaction = reaction; audience = hears (events_among reaction.answer) audience }

-- a follower reports in its place, and is not left afterwards
abbrev pub reports : Audience → ℕ → Reporting → Reaction → Turn
reports audience number report reaction = record {
  reaction = record { bench = reaction.bench; answer = report_line number (report []); refused = false };
  audience = without audience number;
}

-- by the follower that the line mutes, if it is left
abbrev pub turn_with : Audience → ℕ → Option Reporting → Reaction → Turn
turn_with audience number None reaction = answers audience reaction
turn_with audience number (Some report) reaction = reports audience number report reaction

-- by the number that the line mutes, if it mutes one
abbrev pub turn : Audience → Option ℕ → Reaction → Turn
turn audience None reaction = answers audience reaction
turn audience (Some number) reaction = turn_with audience number (follower_at audience number) reaction

-- what becomes of a line, of which these are the bytes, or where it is long the first of them
abbrev pub follows_to : Bench → Audience → List ℕ → Bool → Turn
follows_to bench audience bytes long = turn audience (mutes bench.block bytes long) (reacts_to bench bytes long)

-- what becomes of a whole line of the input
abbrev pub follows : Bench → Audience → List ℕ → Turn
follows bench audience line = follows_to bench audience line (is_long line)

-- the reactions to lines, one for each
unfoldable pub followed_from : Bench → Audience → List (List ℕ) → List Reaction
followed_from bench audience [] = []
followed_from bench audience (line ∷ more) =
    (follows bench audience line).reaction ∷ followed_from (reacts bench line).bench (follows bench audience line).audience more

-- who follows after lines
unfoldable pub audience_after : Bench → Audience → List (List ℕ) → Audience
audience_after bench audience [] = audience
audience_after bench audience (line ∷ more) = audience_after (reacts bench line).bench (follows bench audience line).audience more

-- what those who are left report, each under its number
abbrev pub texts_of : Audience → List (Option (List ℕ))
texts_of audience = map (option_map (λ (report : Reporting). report [])) audience

-- a script that these follow is answered so
abbrev pub followed : Audience → Answering
followed audience = record {
  reactions_to = λ first. followed_from empty_bench audience first;
  reports_after = λ all. texts_of (audience_after empty_bench audience all);
}
