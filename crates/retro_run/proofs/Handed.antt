-- Followers under their numbers, and what becomes of them where they are handed the events of an answer, line by line.
use Rattle.std.proofs.Common.{◌≡◌, ℕ, zero, suc, ◌<◌, ◌≤◌, List, [], ◌∷◌, ◌++◌, length, get_or, set, map, take, drop, refl, sym, ap, ◌∙◌, arith, append_assoc, Option, Some, None}
use Rattle.std.specs.Prelude.{option_map}
use Rattle.std.specs.List.{cons_option}
use Rattle.std.proofs.Math.Path.{fun_ext}
use Rattle.std.proofs.lemmas.List.{take_all}
use Rattle.evidence.specs.declared.evidence.Evidence.{Evidence}
use Rattle.evidence.specs.Reading.{evidence_of}
use Rattle.retro_io.specs.Lines.{lines}
use Rattle.followers.specs.Followers.{Reporting}
use Rattle.retro_run.specs.Audience.{Audience, after_events, hears, follower_at, without}
use Rattle.retro_run.specs.Events.{events_among, events_spelled}
use Rattle.followers.specs.TakenLaws.{first_same, others_same}

-- no events change nothing
heard_none : (follower : Option Reporting) → option_map (after_events []) follower ≡ follower
heard_none follower = grind arith

pub hears-none : (audience : Audience) → hears [] audience ≡ audience
hears-none [] = refl
hears-none (follower ∷ audience) = ap (λ f. f ∷ hears [] audience) (heard_none follower) ∙ ap (λ fs. follower ∷ fs) (hears-none audience)

-- events, and then more
heard_more : (first more : List Evidence) (follower : Option Reporting) → option_map (after_events more) (option_map (after_events first) follower) ≡ option_map (after_events (first ++ more)) follower
heard_more first more None = refl
heard_more first more (Some report) = ap (λ f. Some f) (fun_ext (λ later. ap report (sym (append_assoc first more later))))

pub hears-append : (first more : List Evidence) (audience : Audience) → hears more (hears first audience) ≡ hears (first ++ more) audience
hears-append first more [] = refl
hears-append first more (follower ∷ audience) =
    ap (λ f. f ∷ hears more (hears first audience)) (heard_more first more follower) ∙ ap (λ fs. option_map (after_events (first ++ more)) follower ∷ fs) (hears-append first more audience)

-- those who have taken the events of what is left of an answer have, before it, taken those of all
abbrev pub HandsOn : List ℕ → List ℕ → Audience → Audience → Type 0
HandsOn answer rest before now = hears (events_among rest) now ≡ hears (events_among answer) before

cons-events : (event : Option Evidence) (more : List Evidence) → cons_option event more ≡ cons_option event [] ++ more
cons-events event more = grind arith

pub hands_on_line : (answer rest after line : List ℕ) (before now next : Audience) → HandsOn answer rest before now → lines rest ≡ line ∷ lines after
    → next ≡ hears (events_spelled (line ∷ [])) now → HandsOn answer after before next
hands_on_line answer rest after line before now next on cut taken =
    ap (hears (events_among after)) taken ∙ hears-append (events_spelled (line ∷ [])) (events_among after) now
    ∙ ap (λ es. hears es now) (sym (ap events_spelled cut ∙ cons-events (evidence_of line) (events_among after))) ∙ on

pub hands_on_all : (answer rest : List ℕ) (before now : Audience) → HandsOn answer rest before now → rest ≡ [] → now ≡ hears (events_among answer) before
hands_on_all answer rest before now on none = sym (hears-none now) ∙ ap (λ r. hears (events_among r) now) (sym none) ∙ on

-- each follower is seen as what it reports, if it is left
module _ {F : Type 0} (seen : F → Option Reporting) (event : Evidence) where
  abbrev heard : Option Reporting → Option Reporting
  heard follower = option_map (after_events (event ∷ [])) follower

  -- the first ones have taken an event
  abbrev pub HaveTaken : List F → List F → Type 0
  HaveTaken before now = map seen now ≡ map heard (map seen before)

  -- one more has taken it
  pub one_more : (i : ℕ) (before now : List F) (next next' : F) → HaveTaken (take i before) (take i now) → drop i now ≡ drop i before
      → i < length now → seen next' ≡ heard (seen (get_or now i next)) → HaveTaken (take (suc i) before) (take (suc i) (set now i next'))
  one_more i before [] next next' taken others within takes = absurd (omega arith)
  one_more zero [] (x ∷ now) next next' taken others within takes = absurd (cc)
  one_more zero (y ∷ before) (x ∷ now) next next' taken others within takes =
      ap (λ f. f ∷ []) (takes ∙ ap (λ f. heard (seen f)) (first_same x y now before others))
  one_more (suc i) [] (x ∷ now) next next' taken others within takes = absurd (cc)
  one_more (suc i) (y ∷ before) (x ∷ now) next next' taken others within takes =
      ap (λ f. f ∷ map seen (take (suc i) (set now i next'))) (first_same _ _ _ _ taken)
      ∙ ap (λ fs. heard (seen y) ∷ fs) (one_more i before now next next' (others_same _ _ _ _ taken) others (omega arith) takes)

  -- all have taken it
  pub all_taken : (i : ℕ) (before now : List F) → HaveTaken (take i before) (take i now) → length before ≤ i → length now ≤ i → HaveTaken before now
  all_taken i before now taken most most' = sym (ap (map seen) (take_all i now most')) ∙ taken ∙ ap (λ fs. map heard (map seen fs)) (take_all i before most)

module _ {F : Type 0} (seen : F → Option Reporting) where
  pub there : (followers : List F) (number : ℕ) (follower : F) → number < length followers → follower ≡ get_or followers number follower
      → follower_at (map seen followers) number ≡ seen follower
  there [] number follower within is = absurd (omega arith)
  there (first ∷ others) zero follower within is = ap seen (sym is)
  there (first ∷ others) (suc number) follower within is = there others number follower (omega arith) is

  pub past_all : (followers : List F) (number : ℕ) → length followers ≤ number → follower_at (map seen followers) number ≡ None
  past_all [] number past = refl
  past_all (first ∷ others) zero past = absurd (omega arith)
  past_all (first ∷ others) (suc number) past = past_all others number (omega arith)

  pub let_go : (followers : List F) (number : ℕ) (gone : F) → seen gone ≡ None → map seen (set followers number gone) ≡ without (map seen followers) number
  let_go [] number gone is = refl
  let_go (first ∷ others) zero gone is = ap (λ f. f ∷ map seen others) is
  let_go (first ∷ others) (suc number) gone is = ap (λ fs. seen first ∷ fs) (let_go others number gone is)

  pub none_to_let_go : (followers : List F) (number : ℕ) → length followers ≤ number → map seen followers ≡ without (map seen followers) number
  none_to_let_go [] number past = refl
  none_to_let_go (first ∷ others) zero past = absurd (omega arith)
  none_to_let_go (first ∷ others) (suc number) past = ap (λ fs. seen first ∷ fs) (none_to_let_go others number (omega arith))
