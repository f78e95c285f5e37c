-- Lemmas on a range of a list, `slice_range xs start end`.
use Rattle.std.proofs.Common.{◌≡◌, ℕ, ◌+◌, ◌-◌, ◌≤◌, List, ◌++◌, length, take, drop, sym, ap, ◌∙◌, arith}
use Rattle.std.specs.List.{slice_range}
use Rattle.std.proofs.lemmas.List.{take-take, drop-take, drop-drop, take_at, length-take-le, length-drop}

pub length-range : (xs : List ℕ) (start end : ℕ) → start ≤ end → end ≤ length xs → length (slice_range xs start end) ≡ end - start
length-range xs start end h k =
    let within : end - start ≤ length (drop start xs) = omega (arith, length-drop start xs) in
    length-take-le (end - start) (drop start xs) within

-- what a vector has after a write to all of its items
pub items_after : (count : ℕ) (new old : List ℕ) → length new ≡ count → take count (new ++ drop (length new) old) ≡ new
items_after count new old h = take_at new (drop (length new) old) count h

-- the bytes held are a range of the buffer
module _ (held xs : List ℕ) (start end : ℕ) (same : slice_range xs start end ≡ held) (order : start ≤ end) (within : end ≤ length xs) where
  pub held_length : length held ≡ end - start
  held_length = sym (ap length same) ∙ length-range xs start end order within

  pub held_prefix : (count : ℕ) → count ≤ length held → slice_range xs start (start + count) ≡ take count held
  held_prefix count h =
      let short : count ≤ end - start = omega (arith, held_length) in
      let width : start + count - start ≡ count = omega arith in
      ap (λ n. take n (drop start xs)) width ∙ sym (take-take count (end - start) (drop start xs) short) ∙ ap (take count) same

  pub held_after : (count : ℕ) → count ≤ length held → slice_range xs (start + count) end ≡ drop count held
  held_after count h =
      let parts : count + (end - (start + count)) ≡ end - start = omega (arith, held_length) in
      ap (λ ys. take (end - (start + count)) ys) (sym (drop-drop count start xs))
      ∙ sym (drop-take count (end - (start + count)) (drop start xs))
      ∙ ap (λ n. drop count (take n (drop start xs))) parts
      ∙ ap (drop count) same

-- what a read put after the bytes held
pub read_part : (xs : List ℕ) (held count : ℕ) → drop held (slice_range xs 0 (held + count)) ≡ take count (drop held xs)
read_part xs held count =
    let width : held + count - 0 ≡ held + count = omega arith in
    ap (λ n. drop held (take n xs)) width ∙ drop-take held count xs

-- the same in a vector that was written to, of which so many bytes were held
pub came : (held new old : List ℕ) (size start count : ℕ) → length held ≡ start → length new ≡ size
    → drop (length held) (slice_range (take size (new ++ drop (length new) old)) 0 (start + count)) ≡ take count (drop start new)
came held new old size start count short whole =
    ap (λ n. drop n (slice_range (take size (new ++ drop (length new) old)) 0 (start + count))) short
    ∙ ap (λ xs. drop start (slice_range xs 0 (start + count))) (items_after size new old whole)
    ∙ read_part new start count
