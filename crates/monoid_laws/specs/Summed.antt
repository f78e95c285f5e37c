-- The sum of a range of numbers.
use Rattle.std.specs.Prelude.{ℕ, ◌+◌, ◌*◌, ◌^◌, ◌≤◌, ℤ, pos, ◌+ℤ◌, nat_abs, List, [], ◌∷◌, take}

-- how many numbers there are, and their sum
pub record Summed : Type 0 where
  pub items : ℕ
  pub sum : ℤ

-- no numbers
abbrev pub no_sum : Summed
no_sum = record { items = 0; sum = pos 0 }

-- one number
abbrev pub one_sum : ℤ → Summed
one_sum x = record { items = 1; sum = x }

-- the numbers of both
abbrev pub joined_sum : Summed → Summed → Summed
joined_sum a b = record { items = a.items + b.items; sum = a.sum +ℤ b.sum }

-- numbers of 64 bits add up to this at most
abbrev pub IsBounded : Summed → Type 0
IsBounded a = nat_abs a.sum ≤ a.items * 2 ^ 63

-- the sum of a list
abbrev pub sum_of : List ℤ → ℤ
sum_of [] = pos 0
sum_of (x ∷ xs) = x +ℤ sum_of xs

-- the sum of the first so many numbers
abbrev pub sum_to : List ℤ → ℕ → ℤ
sum_to xs place = sum_of (take place xs)
