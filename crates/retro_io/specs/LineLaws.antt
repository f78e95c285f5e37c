-- Laws of lines, which the proofs of the layer above may cite.
use Rattle.std.proofs.Common.{◌≡◌, ℕ, ◌<◌, Bool, true, false, cond, List, [], ◌∷◌, ◌++◌, length, map, ap, refl, arith}
use Rattle.std.specs.Prelude.{◌==◌}
use Rattle.retro_io.specs.Lines.{line_feed, onto_first, pieces, without_return, lines, has_line_feed}

-- a test that gives true or another answer is false only where both are
pub both_false : (test other : Bool) → cond test true other ≡ false → (test ≡ false) × (other ≡ false)
both_false true other h = absurd (cc)
both_false false other h = (refl, h)

-- two lists without a line feed
pub unbroken-append : (xs ys : List ℕ) → has_line_feed xs ≡ false → has_line_feed ys ≡ false → has_line_feed (xs ++ ys) ≡ false
unbroken-append [] ys p q = q
unbroken-append (x ∷ xs) ys p q =
    let parts = both_false (x == line_feed) (has_line_feed xs) p in
    rw (parts.0) (unbroken-append xs ys parts.1 q)

-- the first piece, where a line feed ends it
pub pieces-cut : (piece after : List ℕ) → has_line_feed piece ≡ false → pieces (piece ++ line_feed ∷ after) ≡ piece ∷ pieces after
pieces-cut [] after p = refl
pieces-cut (b ∷ piece) after p =
    let parts = both_false (b == line_feed) (has_line_feed piece) p in
    rw (parts.0) (ap (onto_first b) (pieces-cut piece after parts.1))

-- and the first line
pub lines-cut : (piece after : List ℕ) → has_line_feed piece ≡ false → lines (piece ++ line_feed ∷ after) ≡ without_return piece ∷ lines after
lines-cut piece after p = ap (map without_return) (pieces-cut piece after p)

-- the last piece, which none ends
pieces-last : (b : ℕ) (piece : List ℕ) → has_line_feed (b ∷ piece) ≡ false → pieces (b ∷ piece) ≡ (b ∷ piece) ∷ []
pieces-last b [] p =
    let parts = both_false (b == line_feed) false p in
    rw (parts.0) refl
pieces-last b (c ∷ piece) p =
    let parts = both_false (b == line_feed) (has_line_feed (c ∷ piece)) p in
    rw (parts.0) (ap (onto_first b) (pieces-last c piece parts.1))

-- and the last line
pub lines-last : (piece : List ℕ) → has_line_feed piece ≡ false → 0 < length piece → lines piece ≡ without_return piece ∷ []
lines-last [] p h = absurd (omega arith)
lines-last (b ∷ piece) p h = ap (map without_return) (pieces-last b piece p)
