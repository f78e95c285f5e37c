-- The followers that the program hands in, by its words.
use Rattle.std.specs.Prelude.{ℕ, List, [], ◌∷◌, Option, None, Some}
use Rattle.followers.specs.Followers.{Reporting}
use Rattle.followers.specs.Mirrors.{held, mirror_text}
use Rattle.followers.specs.Totals.{tally}
use Rattle.retro_base.specs.Name.{name_of}

-- the second of two words, if it is a name
abbrev pub name_followed : List (List ℕ) → Option (List ℕ)
name_followed [] = None
name_followed (word ∷ []) = None
name_followed (word ∷ name ∷ []) = name_of name
name_followed (word ∷ name ∷ other ∷ more) = None

-- what a mirror of a name reports
abbrev pub mirror : List ℕ → Reporting
mirror name = λ events. mirror_text name (held name events)

-- a tally, and after it a mirror of the name, if there is one
abbrev pub with_mirror : Option (List ℕ) → List Reporting
with_mirror None = tally ∷ []
with_mirror (Some name) = tally ∷ mirror name ∷ []

abbrev pub followers_of : List (List ℕ) → List Reporting
followers_of words = with_mirror (name_followed words)
