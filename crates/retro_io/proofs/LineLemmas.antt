-- Lemmas on lines and line feeds.
use Rattle.std.proofs.Common.{◌≡◌, ◌≢◌, ℕ, zero, suc, ◌+◌, ◌-◌, ◌≤◌, ◌<◌, Bool, true, false, cond, Option, None, Some}
use Rattle.std.proofs.Common.{is_some, List, [], ◌∷◌, ◌++◌, length, take, drop, get_or, sym, ap, ◌∙◌, refl, arith}
use Rattle.std.specs.Prelude.{◌==◌}
use Rattle.std.specs.List.{slice_range}
use Rattle.std.proofs.lemmas.List.{take-append-drop, drop_more, length-take-le, get_or-take, get_or-drop, length-drop, take-take, drop-take}
use Rattle.std.proofs.lemmas.Bool.{eq-eqb, false≢true, ne_eqb}
use Rattle.std.proofs.lemmas.List.Edits.{between_more}
use Rattle.retro_io.specs.LineLaws.{both_false, unbroken-append}
use Rattle.retro_io.specs.Lines.{MarksLineFeed, line_feed, carriage_return, without_return, has_line_feed}

pub unbroken-prefix : (xs ys : List ℕ) → has_line_feed (xs ++ ys) ≡ false → has_line_feed xs ≡ false
unbroken-prefix [] ys p = refl
unbroken-prefix (x ∷ xs) ys p =
    let parts = both_false (x == line_feed) (has_line_feed (xs ++ ys)) p in
    rw (parts.0) (unbroken-prefix xs ys parts.1)

pub unbroken-take : (count : ℕ) (xs : List ℕ) → has_line_feed xs ≡ false → has_line_feed (take count xs) ≡ false
unbroken-take count xs p =
    unbroken-prefix (take count xs) (drop count xs) (ap has_line_feed (take-append-drop count xs) ∙ p)

-- the prefix of the sum of two lengths
pub take_sum : (from at : ℕ) (xs : List ℕ) → from ≤ length xs → take (from + at) xs ≡ take from xs ++ take at (drop from xs)
take_sum from at xs h =
    sym (take-append-drop from (take (from + at) xs))
    ∙ ap (λ ys. ys ++ drop from (take (from + at) xs)) (take-take from (from + at) xs (omega arith))
    ∙ ap (λ ys. take from xs ++ ys) (drop-take from at xs)

-- no byte is a line feed
pub unbroken-from_each : (xs : List ℕ) → ((k : ℕ) → k < length xs → (get_or xs k 0 == line_feed) ≡ false) → has_line_feed xs ≡ false
unbroken-from_each [] each = refl
unbroken-from_each (x ∷ xs) each =
    let here : (x == line_feed) ≡ false = each 0 (omega arith) in
    rw here (unbroken-from_each xs (λ k h. each (suc k) (omega arith)))

-- one carriage return at the very end is taken off, and nothing else
pub without_return-cut : (piece : List ℕ) (b : ℕ) → (b == carriage_return) ≡ true → without_return (piece ++ b ∷ []) ≡ piece
without_return-cut [] b h = rw h refl
without_return-cut (x ∷ []) b h = ap (λ bs. x ∷ bs) (without_return-cut [] b h)
without_return-cut (x ∷ y ∷ piece) b h = ap (λ bs. x ∷ bs) (without_return-cut (y ∷ piece) b h)

pub without_return-kept : (piece : List ℕ) (b : ℕ) → (b == carriage_return) ≡ false → without_return (piece ++ b ∷ []) ≡ piece ++ b ∷ []
without_return-kept [] b h = rw h refl
without_return-kept (x ∷ []) b h = ap (λ bs. x ∷ bs) (without_return-kept [] b h)
without_return-kept (x ∷ y ∷ piece) b h = ap (λ bs. x ∷ bs) (without_return-kept (y ∷ piece) b h)

-- where a search after the first bytes, which have no line feed, found the first line feed
module _ (held : List ℕ) (from : ℕ) (within : from ≤ length held) (clear : has_line_feed (take from held) ≡ false)
    (searched : List ℕ) (is : searched ≡ drop from held) where
  pub unbroken_all : ((k : ℕ) → k < length searched → get_or searched k 0 ≢ line_feed) → has_line_feed held ≡ false
  unbroken_all none =
      let unbroken : has_line_feed searched ≡ false =
      unbroken-from_each searched (λ k h. ne_eqb (get_or searched k 0) line_feed (none k h)) in
      ap has_line_feed (sym (take-append-drop from held))
      ∙ unbroken-append (take from held) (drop from held) clear (ap has_line_feed (sym is) ∙ unbroken)

  pub unbroken_before : (at : ℕ) → at ≤ length searched → ((k : ℕ) → k < at → get_or searched k 0 ≢ line_feed)
      → has_line_feed (take (from + at) held) ≡ false
  unbroken_before at h none =
      let short : length (take at searched) ≡ at = length-take-le at searched h in
      let unbroken : has_line_feed (take at searched) ≡ false =
      unbroken-from_each (take at searched) (λ k lt. let low : k < at = omega arith in
      ap (λ b. b == line_feed) (get_or-take at searched k 0 low) ∙ ne_eqb (get_or searched k 0) line_feed (none k low)) in
      ap has_line_feed (take_sum from at held within ∙ ap (λ ys. take from held ++ take at ys) (sym is))
      ∙ unbroken-append (take from held) (take at searched) clear unbroken

  pub splits_at : (at : ℕ) → at < length searched → get_or searched at 0 ≡ line_feed
      → held ≡ take (from + at) held ++ line_feed ∷ drop (from + at + 1) held
  splits_at at h here =
      let inside : from + at < length held = omega (arith, length-drop from held, ap length is) in
      let byte : get_or held (from + at) 0 ≡ line_feed =
      sym (get_or-drop from held at 0) ∙ ap (λ ys. get_or ys at 0) (sym is) ∙ here in
      sym (take-append-drop (from + at) held)
      ∙ ap (λ ys. take (from + at) held ++ ys) (drop_more held (from + at) 0 inside ∙ ap (λ b. b ∷ drop (from + at + 1) held) byte)

-- a range that is not empty ends with its last byte
range_last : (xs : List ℕ) (start end : ℕ) → start < end → end ≤ length xs
    → slice_range xs start end ≡ slice_range xs start (end - 1) ++ get_or xs (end - 1) 0 ∷ []
range_last xs start end h k =
    let order : start ≤ end - 1 = omega arith in
    let within : end - 1 < length xs = omega arith in
    let width : end - 1 + 1 ≡ end = omega arith in
    ap (slice_range xs start) (sym width) ∙ between_more xs start (end - 1) 0 order within

pub range-cut : (xs : List ℕ) (start end : ℕ) → start < end → end ≤ length xs → get_or xs (end - 1) 0 ≡ carriage_return
    → slice_range xs start (end - 1) ≡ without_return (slice_range xs start end)
range-cut xs start end h k last =
    sym (ap without_return (range_last xs start end h k)
    ∙ without_return-cut (slice_range xs start (end - 1)) (get_or xs (end - 1) 0) (eq-eqb (get_or xs (end - 1) 0) carriage_return last))

pub range-kept : (xs : List ℕ) (start end : ℕ) → start < end → end ≤ length xs → get_or xs (end - 1) 0 ≢ carriage_return
    → slice_range xs start end ≡ without_return (slice_range xs start end)
range-kept xs start end h k other =
    let parts = range_last xs start end h k in
    parts ∙ sym (ap without_return parts
    ∙ without_return-kept (slice_range xs start (end - 1)) (get_or xs (end - 1) 0) (ne_eqb (get_or xs (end - 1) 0) carriage_return other))

pub range-empty : (xs : List ℕ) (start end : ℕ) → end ≤ start → slice_range xs start end ≡ without_return (slice_range xs start end)
range-empty xs start end h =
    let none : end - start ≡ 0 = omega arith in
    let empty : slice_range xs start end ≡ [] = ap (λ n. take n (drop start xs)) none in
    empty ∙ sym (ap without_return empty)

pub unbroken-back : (xs ys : List ℕ) → has_line_feed (xs ++ ys) ≡ false → has_line_feed ys ≡ false
unbroken-back [] ys p = p
unbroken-back (x ∷ xs) ys p =
    let parts = both_false (x == line_feed) (has_line_feed (xs ++ ys)) p in
    unbroken-back xs ys parts.1

pub unbroken-drop : (count : ℕ) (xs : List ℕ) → has_line_feed xs ≡ false → has_line_feed (drop count xs) ≡ false
unbroken-drop count xs p =
    unbroken-back (take count xs) (drop count xs) (ap has_line_feed (take-append-drop count xs) ∙ p)

-- at most one byte is taken off
pub length-without_return : (piece : List ℕ) → length piece ≤ length (without_return piece) + 1
length-without_return [] = omega arith
length-without_return (b ∷ []) = one (b == carriage_return) b
  where
    one : (test : Bool) (b : ℕ) → 1 ≤ length (cond test [] (b ∷ [])) + 1
    one true b = omega arith
    one false b = omega arith
length-without_return (b ∷ c ∷ piece) = omega (arith, length-without_return (c ∷ piece))

-- the bytes before the last one stay
pub take-without_return : (count : ℕ) (piece : List ℕ) → count < length piece → take count (without_return piece) ≡ take count piece
take-without_return count [] h = absurd (omega arith)
take-without_return zero (b ∷ piece) h = refl
take-without_return (suc count) (b ∷ []) h = absurd (omega arith)
take-without_return (suc count) (b ∷ c ∷ piece) h =
    ap (λ bs. b ∷ bs) (take-without_return count (c ∷ piece) (omega arith))

either_true : (test other : Bool) → other ≡ true → cond test true other ≡ true
either_true true other h = refl
either_true false other h = h

-- a line feed between two parts is among the bytes
pub has_feed-between : (xs ys : List ℕ) → has_line_feed (xs ++ line_feed ∷ ys) ≡ true
has_feed-between [] ys = refl
has_feed-between (x ∷ xs) ys = either_true (x == line_feed) (has_line_feed (xs ++ line_feed ∷ ys)) (has_feed-between xs ys)

-- a line feed is marked exactly where there is one
pub MarksLineFeed-has : (mark : Option ℕ) (bytes : List ℕ) → MarksLineFeed mark bytes → is_some mark ≡ has_line_feed bytes
MarksLineFeed-has None bytes none = sym none
MarksLineFeed-has (Some at) bytes cut = sym (ap has_line_feed cut.2 ∙ has_feed-between (take at bytes) (drop (at + 1) bytes))

-- so the mark of bytes that have none stays for the first of them
pub MarksLineFeed-take : (mark : Option ℕ) (bytes : List ℕ) (count : ℕ) → MarksLineFeed mark bytes → has_line_feed bytes ≡ false
    → MarksLineFeed mark (take count bytes)
MarksLineFeed-take None bytes count none unbroken = unbroken-take count bytes unbroken
MarksLineFeed-take (Some at) bytes count cut unbroken =
    absurd (false≢true (sym unbroken ∙ sym (MarksLineFeed-has (Some at) bytes cut)))

-- bytes that have none end before one that stands among them
pub feed_after : (front back : List ℕ) (from : ℕ) → has_line_feed (take from (front ++ line_feed ∷ back)) ≡ false → from ≤ length front
feed_after front back zero clear = omega arith
feed_after [] back (suc from) clear = absurd (cc)
feed_after (b ∷ front) back (suc from) clear =
    let parts = both_false (b == line_feed) (has_line_feed (take from (front ++ line_feed ∷ back))) clear in
    omega (arith, feed_after front back from parts.1)
