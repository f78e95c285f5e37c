-- What a standing says of what is there.
use Rattle.std.specs.Prelude.{◌≡◌, ℕ, ℤ, pos, suc, true, false, ◌==◌, List, ◌∷◌, ◌++◌, length}
use Rattle.std.specs.Prelude.{Some}
use Rattle.std.specs.List.{list_any, AllByRecursion}
use Rattle.std.specs.Map.{lookup}
use Rattle.std.specs.Ordering.{int_eq}
use Rattle.fates.specs.declared.standing.Standing.{Standing}
use Rattle.fates.specs.declared.standing.Standing.TheVariants.{InLine, AtKey, AfterLesser}
use Rattle.retro_base.specs.Holders.{holders}
use Rattle.fates.specs.Standings.{IsUpTo}
use Rattle.retro_base.specs.declared.row.Entry.{Entry}
use Rattle.retro_base.specs.declared.row.Row.{Row}
use Rattle.retro_base.specs.Kind.{kind_of}
use Rattle.retro_base.specs.State.{State, items, pairs, entries, comes_before}
use Rattle.retro_base.specs.lemmas.SortedPairs.{AreSorted}

-- the number is none of these
abbrev pub Lacks : ℕ → List ℤ → Type 0
Lacks number xs = list_any (λ x. int_eq x (pos number)) xs ≡ false

-- the item of this number has so many on its left and on its right, none of which is its own
pub record StandsInLine (number left right : ℕ) (state : State) : Type 0 where
  pub front : List ℤ
  pub back : List ℤ
  pub is : state ≡ items (front ++ pos number ∷ back)
  pub left_is : length front ≡ left
  pub right_is : length back ≡ right
  pub none_left : Lacks number front
  pub none_right : Lacks number back

-- no entry has the number
abbrev pub NoneHas : ℕ → List Entry → Type 0
NoneHas number es = list_any (λ e. e.number == number) es ≡ false

abbrev pub AllBefore : Entry → List Entry → Type 0
AllBefore entry es = AllByRecursion (λ e. comes_before e entry ≡ true) es

-- the entry stands after so many lesser ones, and no other one has its number
pub record StandsAfterLesser (entry : Entry) (lesser : ℕ) (state : State) : Type 0 where
  pub front : List Entry
  pub back : List Entry
  pub is : state ≡ entries (front ++ entry ∷ back)
  pub lesser_is : length front ≡ lesser
  pub before : AllBefore entry front
  pub none_front : NoneHas entry.number front
  pub none_back : NoneHas entry.number back

-- no value is the number
abbrev pub NoneIs : ℕ → List (ℤ × ℤ) → Type 0
NoneIs number ps = list_any (λ pair. int_eq pair.1 (pos number)) ps ≡ false

-- a pair whose value is the number has the key
abbrev pub IsOnlyAt : ℕ → ℤ → ℤ × ℤ → Type 0
IsOnlyAt number key pair = pair.1 ≡ pos number → pair.0 ≡ key

-- the number is the value of the key, and of no other one
pub record StandsAtKey (number : ℕ) (key : ℤ) (state : State) : Type 0 where
  pub held : List (ℤ × ℤ)
  pub is : state ≡ pairs held
  pub sorted : AreSorted held
  pub here : lookup (int_eq key) held ≡ Some (pos number)
  pub alone : AllByRecursion (IsOnlyAt number key) held

-- it stands so among what is there
abbrev pub Stands : Standing → ℕ → State → Type 0
Stands (InLine left right) number state = StandsInLine number left right state
Stands (AtKey key) number state = StandsAtKey number key state
Stands (AfterLesser entry lesser) number state = (entry.number ≡ number) × StandsAfterLesser entry lesser state

-- it stands so right after its own row
pub record StandsAfterOwn (rows : List Row) (place : ℕ) (own : Row) (standing : Standing) : Type 0 where
  pub stands : Stands standing own.number (holders (kind_of own.op) rows (suc place))
  pub few : IsUpTo standing place
