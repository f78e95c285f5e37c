-- Followers of events, each seen as what it reports after any further events.
use Rattle.std.specs.Prelude.{◌≡◌, ℕ, List, ◌∷◌, map, take, drop}
use Rattle.evidence.specs.declared.evidence.Evidence.{Evidence}

-- what a follower reports once it has taken these further events too
abbrev pub Reporting : Type 0
Reporting = List Evidence → List ℕ

-- it has taken an event: what it reports after further ones is what it reported after this one and those
abbrev pub HasTaken : Evidence → Reporting → Reporting → Type 0
HasTaken event before after = (events : List Evidence) → after events ≡ before (event ∷ events)

-- it reports what it reported
abbrev pub StaysAlike : Reporting → Reporting → Type 0
StaysAlike before after = (events : List Evidence) → after events ≡ before events

-- what followers report after further events, one after the other
abbrev pub reports_after : List Evidence → List Reporting → List (List ℕ)
reports_after events followers = map (λ (report : Reporting). report events) followers

-- each of them has taken an event
abbrev pub HaveTaken : Evidence → List Reporting → List Reporting → Type 0
HaveTaken event before after = (events : List Evidence) → reports_after events after ≡ reports_after (event ∷ events) before

-- each reports what it reported
abbrev pub StayAlike : List Reporting → List Reporting → Type 0
StayAlike before after = (events : List Evidence) → reports_after events after ≡ reports_after events before

-- some first ones have taken an event, and the others are as before
pub record FirstHaveTaken (event : Evidence) (before after : List Reporting) : Type 0 where
  pub count : ℕ
  pub taken : HaveTaken event (take count before) (take count after)
  pub others : StayAlike (drop count before) (drop count after)
