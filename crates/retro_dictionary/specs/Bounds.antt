-- Up to where pairs are looked for.
use Rattle.std.specs.Prelude.{◌≡◌, ℕ, suc, ℤ, Bool, true, false, not, Some, List, take, drop, slice_get, int_le, int_lt}
use Rattle.std.specs.List.{filter}
use Rattle.retro_dictionary.specs.declared.pairs.KeyRange.{KeyRange}
use Rattle.retro_dictionary.specs.declared.search.Bound.{Bound}
use Rattle.retro_dictionary.specs.declared.search.Bound.TheVariants.{Below, UpTo}
use Rattle.retro_dictionary.specs.declared.search.Placed.{Placed}
use Rattle.retro_dictionary.specs.Asked.{IsNumber}

-- a pair stands up to a bound
abbrev pub reaches : Bound → ℤ × ℤ → Bool
reaches (Below key) pair = int_lt pair.0 key
reaches (UpTo key) pair = int_le pair.0 key

-- so many pairs in front stand up to it, and those after them do not
pub record StandUpTo (bound : Bound) (ps : List (ℤ × ℤ)) (count : ℕ) : Type 0 where
  pub front : take count ps ≡ filter (reaches bound) ps
  pub back : drop count ps ≡ filter (λ pair. not (reaches bound pair)) ps

-- the element at a place, if there is one, fails a test
abbrev pub FailsAt : {A : Type 0} → (A → Bool) → List A → ℕ → Type 0
FailsAt {A} test xs place = (x : A) → slice_get xs place ≡ Some x → test x ≡ false

-- the key at a place, if there is one, is a number of 64 bits
abbrev pub HasNumber : List (ℤ × ℤ) → ℕ → Type 0
HasNumber ps place = (pair : ℤ × ℤ) → slice_get ps place ≡ Some pair → IsNumber pair.0

-- the first and the last of the pairs whose keys lie in a range
pub record IsFirstWithin (range : KeyRange) (ps : List (ℤ × ℤ)) (first : Placed) : Type 0 where
  pub there : slice_get ps first.place ≡ Some first.pair
  pub number : HasNumber ps first.place
  pub begins : StandUpTo (Below range.low) ps first.place
  pub reached : reaches (UpTo range.high) first.pair ≡ true

pub record IsLastWithin (range : KeyRange) (ps : List (ℤ × ℤ)) (last : Placed) : Type 0 where
  pub there : slice_get ps last.place ≡ Some last.pair
  pub ends : StandUpTo (UpTo range.high) ps (suc last.place)
