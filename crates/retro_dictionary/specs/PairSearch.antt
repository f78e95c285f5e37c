-- What is asked of pairs of a key and a value: those whose keys lie in a range, their number, their sum, and both ends.
use Rattle.std.specs.Prelude.{◌+◌, ℤ, ◌+ℤ◌, Bool, ◌&&◌, ◌||◌, int_lt, Option, Some, None, List, [], length, slice_get, if◌then◌else◌}
use Rattle.std.specs.Int.{int_wrap, w128}
use Rattle.std.specs.Ordering.{int_eq}
use Rattle.retro_base.specs.Answers.{pairs_between, sum_of_values, last_of}
use Rattle.retro_dictionary.specs.declared.pairs.Found.{Found}
use Rattle.retro_dictionary.specs.declared.pairs.KeyRange.{KeyRange}

-- a pair stands before another one by its key, and then by its value
abbrev pub pair_before : ℤ × ℤ → ℤ × ℤ → Bool
pair_before pair other = int_lt pair.0 other.0 || (int_eq pair.0 other.0 && int_lt pair.1 other.1)

-- a sum as 128 bits hold it, which is the sum itself wherever it fits them
abbrev pub in_bits : ℤ → ℤ
in_bits sum = int_wrap w128 sum

-- what is found of pairs in their order: the first of them is the least, and the last the greatest
abbrev pub found_of : List (ℤ × ℤ) → Found
found_of ps = record { count = length ps; sum = in_bits (sum_of_values ps); least = slice_get ps 0; greatest = last_of ps }

-- what is found of those whose keys lie in a range
abbrev pub found_in : List (ℤ × ℤ) → KeyRange → Found
found_in ps range = found_of (pairs_between range.low range.high ps)

-- the lesser and the greater of two pairs, where they are there
abbrev pub lesser : Option (ℤ × ℤ) → Option (ℤ × ℤ) → Option (ℤ × ℤ)
lesser None second = second
lesser (Some pair) None = Some pair
lesser (Some pair) (Some other) = if pair_before other pair then Some other else Some pair

abbrev pub greater : Option (ℤ × ℤ) → Option (ℤ × ℤ) → Option (ℤ × ℤ)
greater None second = second
greater (Some pair) None = Some pair
greater (Some pair) (Some other) = if pair_before other pair then Some pair else Some other

-- nothing is found
abbrev pub none_found : Found
none_found = found_of []

-- what is found of the pairs of both
abbrev pub found_together : Found → Found → Found
found_together a b = record { count = a.count + b.count; sum = in_bits (a.sum +ℤ b.sum); least = lesser a.least b.least; greatest = greater a.greatest b.greatest }

-- a pair whose key is below the lower end of a range, or above its upper end
abbrev pub stands_below : KeyRange → ℤ × ℤ → Bool
stands_below range pair = int_lt pair.0 range.low

abbrev pub stands_above : KeyRange → ℤ × ℤ → Bool
stands_above range pair = int_lt range.high pair.0
