-- The limits, as numbers. Each stands here alone: the constants of the code are proved to be these.
use Rattle.std.specs.Prelude.{ℕ, ◌^◌}

-- the rows of a timeline
abbrev pub most_rows : ℕ
most_rows = 131072

-- the number that no row draws: row numbers are from 1 to below it
abbrev pub next_limit : ℕ
next_limit = 16777216

-- the bytes of a line that is not long
abbrev pub longest_line : ℕ
longest_line = 4096

-- the bytes of a name
abbrev pub longest_name : ℕ
longest_name = 32

-- the timelines of a bench
abbrev pub most_timelines : ℕ
most_timelines = 8

-- the bytes of an input
abbrev pub most_bytes : ℕ
most_bytes = 2 ^ 30

-- the steps of a timeline that can be undone
abbrev pub most_steps : ℕ
most_steps = 1024
