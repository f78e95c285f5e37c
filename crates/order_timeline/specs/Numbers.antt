-- The name of each row, by the row's number.
use Rattle.std.specs.Prelude.{◌≡◌, ◌⊎◌, ℕ, false, Option, Some, None, ◌+◌, ◌/◌, ◌%◌, ◌<◌, List, [], ◌∷◌, ◌++◌, length, get_or, take, drop, replicate, ◌==◌, if◌then◌else◌}
use Rattle.std.specs.List.{list_all}
use Rattle.std.specs.Option.{is_none}
use Rattle.retro_base.specs.declared.row.Row.{Row}

-- the name of the row with this number, where there is one; rows and names stand side by side
abbrev pub name_of : ℕ → List Row → List ℕ → Option ℕ
name_of number [] names = None
name_of number (row ∷ rows) [] = None
name_of number (row ∷ rows) (name ∷ names) = if row.number == number then Some name else name_of number rows names

-- a table in pages, each of which has the names of so many numbers that follow one another, or none
abbrev pub span : ℕ
span = 256

abbrev pub Pages : Type 0
Pages = List (List (Option ℕ))

-- what a page keeps in so much memory: no name in none, or room for the name of each number and one name at least
abbrev pub IsPage : ℕ → List (Option ℕ) → Type 0
IsPage capacity names = ((capacity ≡ 0) × (names ≡ [])) ⊎ ((length names ≡ span) × (list_all is_none names ≡ false))

-- the place in a page gets this entry, and all others keep theirs
abbrev pub PageChanges : List (Option ℕ) → List (Option ℕ) → ℕ → Option ℕ → Type 0
PageChanges before after place entry = (other : ℕ) → get_or after other None ≡ (if place == other then entry else get_or before other None)

-- the page of a number
abbrev pub page_of : Pages → ℕ → List (Option ℕ)
page_of pages number = get_or pages (number / span) []

-- the name that the table has at a number, where it has one
unfoldable pub name_in : Pages → ℕ → Option ℕ
name_in pages number = get_or (page_of pages number) (number % span) None

-- there is room for a name at the number
pub record HasPlace (pages : Pages) (number : ℕ) : Type 0 where
  pub page : number / span < length pages
  pub place : number % span < length (page_of pages number)

-- each row has a name, and the table has it at the row's number, and nothing else
pub record IsNamed (rows : List Row) (names : List ℕ) (numbers : Pages) : Type 0 where
  pub as_many : length names ≡ length rows
  pub filed : (number : ℕ) → name_in numbers number ≡ name_of number rows names

-- each row's number is there, whatever its name is
abbrev pub HasSomeNames : List Row → Pages → Type 0
HasSomeNames rows numbers = (names : List ℕ) × IsNamed rows names numbers

-- the number gets this entry, and all others keep theirs
abbrev pub Changes : Pages → Pages → ℕ → Option ℕ → Type 0
Changes before after number entry = (other : ℕ) → name_in after other ≡ (if number == other then entry else name_in before other)

-- the number gets this name
abbrev pub Writes : Pages → Pages → ℕ → ℕ → Type 0
Writes before after number name = Changes before after number (Some name)

-- every number keeps its entry
abbrev pub IsSame : Pages → Pages → Type 0
IsSame before after = (number : ℕ) → name_in after number ≡ name_in before number

-- so many names from a place on are all this one
abbrev pub written : List ℕ → ℕ → ℕ → ℕ → List ℕ
written names from count name = take from names ++ replicate count name ++ drop (from + count) names

-- whatever the names were, so many from a place on are this one now
abbrev pub WritesRun : List Row → ℕ → ℕ → ℕ → Pages → Pages → Type 0
WritesRun rows from count name before after = (names : List ℕ) → IsNamed rows names before → IsNamed rows (written names from count name) after
