-- Who is left after lines has heard the events among all answers to them.
use Rattle.std.proofs.Common.{◌≡◌, ℕ, zero, suc, Bool, List, [], ◌∷◌, ◌++◌, refl, sym, ap, ◌∙◌, append-nil, append_assoc, Option, Some, None}
use Rattle.std.specs.List.{cons_option}
use Rattle.std.proofs.Math.Path.{fun_ext}
use Rattle.evidence.specs.declared.evidence.Evidence.{Evidence}
use Rattle.retro_base.specs.LineLength.{is_long}
use Rattle.followers.specs.Followers.{Reporting}
use Rattle.followers.specs.Mirrors.{held, mirror_text}
use Rattle.reactions.specs.declared.outcome.Outcome.TheVariants.{Refused}
use Rattle.reactions.specs.declared.outcome.Refusal.TheVariants as refusals
use Rattle.reactions.specs.Answers.{reactions}
use Rattle.reactions.specs.Bench.{Bench, NamedTimeline, OpenBlock, empty_bench}
use Rattle.reactions.specs.Outcome.{refusal_text, reply_text}
use Rattle.reactions.specs.Reaction.{Reaction, happens, reacts}
use Rattle.retro_run.specs.Audience.{Audience, after_events, audience_after, follower_at, follows, hears, mutes, turn, turn_with, without}
use Rattle.retro_run.specs.Events.{events, events_among, events_spelled}
use Rattle.retro_run.specs.MuteLaws.{refuses_mute}
use Rattle.script_laws.specs.Mirrored.{ChangesAloneHoldThePresent, HasHeard, MirrorsReportThePresent, WhoIsLeftHasHeardAll}
use Rattle.retro_base.specs.Facts.{one_value}
use Rattle.script_laws.proofs.accepted.Printable.{refusal_line}
use Rattle.script_laws.proofs.accepted.ReadLines.{line_alone, no_event}
use Rattle.script_laws.proofs.accepted.Script.{events_from}

-- the bench refuses a line that mutes, and there is no event in that
refusal_is_silent : (number : ℕ) → events_among (reply_text (Refused (refusals.NoFollower number))) ≡ []
refusal_is_silent number =
    let text : List ℕ = refusal_text (refusals.NoFollower number) in
    let line = refusal_line (refusals.NoFollower number) tt in
    ap events_spelled (line_alone text line.0) ∙ ap (λ event. cons_option event []) (no_event text line.1)

is_silent : (timelines : List NamedTimeline) (block : Option OpenBlock) (bytes : List ℕ) (long : Bool) (number : ℕ) → mutes block bytes long ≡ Some number
    → events_among (reply_text (happens timelines block bytes long).outcome) ≡ []
is_silent timelines block bytes long number is = rw (refuses_mute timelines block bytes long number is) (refusal_is_silent number)

-- each of those who have heard events was there before
heard_at : (heard : List Evidence) (audience : Audience) (number : ℕ) (report : Reporting) → follower_at (hears heard audience) number ≡ Some report
    → HasHeard heard audience number report
heard_at heard [] number report is = absurd (cc)
heard_at heard (None ∷ others) zero report is = absurd (cc)
heard_at heard (Some first ∷ others) zero report is = record { first = first; there = refl; since = cc }
heard_at heard (follower ∷ others) (suc number) report is =
    let at : HasHeard heard others number report = heard_at heard others number report is in
    record { first = at.first; there = at.there; since = at.since }

-- who is left without another one was there with it
there_with : (audience : Audience) (gone number : ℕ) (report : Reporting) → follower_at (without audience gone) number ≡ Some report
    → follower_at audience number ≡ Some report
there_with [] gone number report is = absurd (cc)
there_with (follower ∷ others) zero zero report is = absurd (cc)
there_with (follower ∷ others) zero (suc number) report is = is
there_with (follower ∷ others) (suc gone) zero report is = is
there_with (follower ∷ others) (suc gone) (suc number) report is = there_with others gone number report is

heard_with : (audience : Audience) (gone : ℕ) (at : Option Reporting) (reaction : Reaction) → events_among reaction.answer ≡ [] → (number : ℕ) (report : Reporting)
    → follower_at (turn_with audience gone at reaction).audience number ≡ Some report → HasHeard (events_among reaction.answer) audience number report
heard_with audience gone None reaction none number report is = heard_at (events_among reaction.answer) audience number report is
heard_with audience gone (Some own) reaction none number report is =
    record { first = report; there = there_with audience gone number report is; since = ap (λ heard. after_events heard report) (sym none) }

heard_in_turn : (audience : Audience) (muted : Option ℕ) (reaction : Reaction) → ((number : ℕ) → muted ≡ Some number → events_among reaction.answer ≡ [])
    → (number : ℕ) (report : Reporting) → follower_at (turn audience muted reaction).audience number ≡ Some report
    → HasHeard (events_among reaction.answer) audience number report
heard_in_turn audience None reaction silent number report is = heard_at (events_among reaction.answer) audience number report is
heard_in_turn audience (Some gone) reaction silent number report is =
    heard_with audience gone (follower_at audience gone) reaction (silent gone refl) number report is

-- events, and then more
heard_then : (first more : List Evidence) (audience : Audience) (number : ℕ) (between report : Reporting) → HasHeard first audience number between
    → report ≡ after_events more between → HasHeard (first ++ more) audience number report
heard_then first more audience number between report earlier since =
    record {
      first = earlier.first;
      there = earlier.there;
      since = since ∙ ap (after_events more) earlier.since ∙ fun_ext (λ later. ap earlier.first (sym (append_assoc first more later)));
    }

heard_from : (script : List (List ℕ)) (bench : Bench) (audience : Audience) (number : ℕ) (report : Reporting)
    → follower_at (audience_after bench audience script) number ≡ Some report → HasHeard (events_from bench script) audience number report
unfolding reactions audience_after
heard_from [] bench audience number report is = record { first = report; there = is; since = refl }
heard_from (line ∷ script) bench audience number report is =
    let next : Bench = (reacts bench line).bench in
    let later : HasHeard (events_from next script) (follows bench audience line).audience number report =
    heard_from script next (follows bench audience line).audience number report is in
    let earlier : HasHeard (events_among (reacts bench line).answer) audience number later.first =
    heard_in_turn audience (mutes bench.block line (is_long line)) (reacts bench line)
    (λ gone. is_silent bench.timelines bench.block line (is_long line) gone) number later.first later.there in
    heard_then (events_among (reacts bench line).answer) (events_from next script) audience number later.first report earlier later.since

pub all_is_heard : WhoIsLeftHasHeardAll
all_is_heard script audience number report is = heard_from script empty_bench audience number report is

pub mirrors_report : ChangesAloneHoldThePresent → MirrorsReportThePresent
mirrors_report holds script audience number name report mirrors left =
    let heard : HasHeard (events script) audience number report = all_is_heard script audience number report left in
    let first : heard.first ≡ (λ seen. mirror_text name (held name seen)) = one_value (follower_at audience number) heard.first (λ seen. mirror_text name (held name seen)) heard.there mirrors in
    ap (λ r. r []) (heard.since ∙ ap (after_events (events script)) first) ∙ ap (λ seen. mirror_text name (held name seen)) (append-nil (events script))
    ∙ ap (mirror_text name) (holds script name)
