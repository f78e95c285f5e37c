-- Binary digits.
use Rattle.std.specs.Prelude.{ℕ, zero, suc, ◌+◌, ◌/◌, nat_lt, if◌then◌else◌}

-- halvings until nothing but one digit is left, and at most `fuel` of them
abbrev pub digits_by : ℕ → ℕ → ℕ
digits_by zero n = 1
digits_by (suc fuel) n = if nat_lt n 2 then 1 else 1 + digits_by fuel (n / 2)

-- the number of binary digits of n, and 1 for 0
unfoldable pub digits : ℕ → ℕ
digits n = digits_by n n
