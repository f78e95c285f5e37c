-- The numbers that are drawn: those of a linear congruential generator modulo 2 ^ 64, whose upper 31 bits are given.
use Rattle.std.specs.Prelude.{ℕ, zero, suc, ◌+◌, ◌*◌, ◌/◌, ◌%◌, ◌^◌}

-- the state after a draw
abbrev pub next_state : ℕ → ℕ
next_state state = (6364136223846793005 * state + 1442695040888963407) % 2 ^ 64

-- the state after so many draws
abbrev pub state_after : ℕ → ℕ → ℕ
state_after zero state = state
state_after (suc draws) state = state_after draws (next_state state)

-- what a draw gives that led to this state
abbrev pub given : ℕ → ℕ
given state = state / 2 ^ 33

-- the first draw, and the second one, from a state on
abbrev pub first_draw : ℕ → ℕ
first_draw state = given (state_after 1 state)

abbrev pub second_draw : ℕ → ℕ
second_draw state = given (state_after 2 state)
