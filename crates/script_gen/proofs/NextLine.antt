-- The next one of the lines to come.
use Rattle.std.proofs.Common.{◌≡◌, ◌≢◌, ℕ, zero, suc, ◌+◌, ◌-◌, ◌≤◌, ◌∷◌, refl, add-one, arith}
use Rattle.retro_base.specs.declared.kind.Kind.{Kind}
use Rattle.script_gen.specs.Coming.{coming}
use Rattle.script_gen.specs.Script.{line_of, line_text, lines_from, state_later}

lines_cut : (kind : Kind) (count more number state : ℕ) → count ≡ suc more
    → lines_from kind count number state ≡ line_text kind (line_of kind number state) ∷ lines_from kind more (suc number) (state_later kind state)
lines_cut kind count more number state is = rw (is, ← add-one number) refl

pub coming_next : (kind : Kind) (lines number state : ℕ) → number ≢ 0 → number ≤ lines
    → coming kind lines number state ≡ line_text kind (line_of kind number state) ∷ coming kind lines (number + 1) (state_later kind state)
coming_next kind lines zero state some within = absurd (some refl)
coming_next kind lines (suc done) state some within =
    rw (add-one (suc done)) (lines_cut kind (lines - done) (lines - suc done) (suc done) state (omega arith))
