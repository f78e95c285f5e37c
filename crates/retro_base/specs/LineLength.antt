-- How long a line may be.
use Rattle.std.specs.Prelude.{ℕ, Bool, nat_lt, List, length}
use Rattle.retro_base.specs.Limits.{longest_line}

-- a line has more bytes than a line may have
abbrev pub is_long : List ℕ → Bool
is_long line = nat_lt longest_line (length line)
