-- What a line buffer is seen as.
use Rattle.std.specs.Prelude.{ℕ, ◌+◌, ◌-◌, List}
use Rattle.retro_base.specs.Limits.{longest_line}

-- the bytes that the buffer has room for
abbrev pub buffer_size : ℕ
buffer_size = 65536

-- the room beside a line that is not long and its line end
abbrev pub room_beside_line : ℕ
room_beside_line = buffer_size - (longest_line + 1)

-- the bytes held, and what is shown of the line that was given last
pub record Buffered : Type 0 where
  pub held : List ℕ
  pub shown : List ℕ
