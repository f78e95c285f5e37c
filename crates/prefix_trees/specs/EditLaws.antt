-- After which row the size of a line falls below 0 first, were a row put in or taken out: the sizes after the place
-- rise or fall by what that row lets the line grow, and those before it stay.
use Rattle.std.proofs.Common.{◌≡◌, ℕ, zero, suc, ◌+◌, ◌-◌, ◌<◌, ◌≤◌, ℤ, pos, negsuc, ◌+ℤ◌, ◌-ℤ◌, ◌≤ℤ◌, ◌<ℤ◌, List, [], ◌∷◌, length, Option, Some, None, refl, ap, sym, ◌∙◌, arith, inl, inr, subst}
use Rattle.std.specs.Prelude.{slice_get}
use Rattle.std.specs.List.{insert, remove}
use Rattle.std.proofs.lemmas.Bool.{cases_lt}
use Rattle.std.proofs.lemmas.Int.{ints}
use Rattle.std.proofs.lemmas.List.Edits.{length-insert, length-remove}
use Rattle.std.proofs.lemmas.Option.{slice_get_within}
use Rattle.retro_base.specs.declared.op.Op.{Op}
use Rattle.retro_base.specs.declared.row.Row.{Row}
use Rattle.retro_base.specs.EditedLists.{insert-remove}
use Rattle.prefix_trees.specs.Growth.{sign_of, grown}
use Rattle.prefix_trees.specs.Falls.{NeverFalls, FallsFirst, FallsAtFrom}
use Rattle.prefix_trees.specs.Prefixes.{IsFirstAtMost, FindsFirstAtMost}

module _ (growth : Op → ℤ) where
  grown-insert-before : (rows : List Row) (place : ℕ) (row : Row) (k : ℕ) → k ≤ place → place ≤ length rows → grown growth (insert rows place row) k ≡ grown growth rows k
  grown-insert-before rows place row zero before within = refl
  grown-insert-before rows zero row (suc k) before within = absurd (omega arith)
  grown-insert-before [] (suc place) row (suc k) before within = absurd (omega arith)
  grown-insert-before (r ∷ rows) (suc place) row (suc k) before within = ap (λ s. growth r.op +ℤ s) (grown-insert-before rows place row k (omega arith) (omega arith))

  first_and_next : (a b c : ℤ) → a +ℤ (b +ℤ c) ≡ (a +ℤ b) +ℤ c
  first_and_next a b c = omega (arith, ints)

  turned : (a b : ℤ) → a +ℤ b ≡ b +ℤ a
  turned a b = omega (arith, ints)

  grown-insert-after : (rows : List Row) (place : ℕ) (row : Row) (k : ℕ) → place ≤ k → place ≤ length rows → grown growth (insert rows place row) (suc k) ≡ grown growth rows k +ℤ growth row.op
  grown-insert-after rows zero row k after within = turned (growth row.op) (grown growth rows k)
  grown-insert-after rows (suc place) row zero after within = absurd (omega arith)
  grown-insert-after [] (suc place) row (suc k) after within = absurd (omega arith)
  grown-insert-after (r ∷ rows) (suc place) row (suc k) after within =
      ap (λ s. growth r.op +ℤ s) (grown-insert-after rows place row k (omega arith) (omega arith)) ∙ first_and_next (growth r.op) (grown growth rows k) (growth row.op)

  -- rows without one are rows into which it may be put again
  room : (rows : List Row) (place : ℕ) (row : Row) → slice_get rows place ≡ Some row → place ≤ length (remove rows place)
  room rows place row at = let inside : place < length rows = slice_get_within rows place row at in omega (arith, length-remove rows place inside)

  grown-remove-before : (rows : List Row) (place : ℕ) (row : Row) (k : ℕ) → k ≤ place → slice_get rows place ≡ Some row → grown growth (remove rows place) k ≡ grown growth rows k
  grown-remove-before rows place row k before at =
      sym (grown-insert-before (remove rows place) place row k before (room rows place row at)) ∙ ap (λ l. grown growth l k) (insert-remove rows place row at)

  grown-remove-after : (rows : List Row) (place : ℕ) (row : Row) (k : ℕ) → place ≤ k → slice_get rows place ≡ Some row → grown growth rows (suc k) ≡ grown growth (remove rows place) k +ℤ growth row.op
  grown-remove-after rows place row k after at =
      ap (λ l. grown growth l (suc k)) (sym (insert-remove rows place row at)) ∙ grown-insert-after (remove rows place) place row k after (room rows place row at)

module _ (rows : List Row) (place : ℕ) (never : NeverFalls rows) where
  enough : (k : ℕ) → k ≤ length rows → pos 0 ≤ℤ grown sign_of rows k
  enough k within = omega (arith, ints, never k within)

  -- a row is put in
  module _ (row : Row) (within : place ≤ length rows) where
    enough_with : (k : ℕ) → ((earlier : ℕ) → place ≤ earlier → suc earlier ≤ k → (negsuc 0 -ℤ sign_of row.op) <ℤ grown sign_of rows earlier) → k ≤ length rows + 1 → pos 0 ≤ℤ (pos 0 +ℤ grown sign_of (insert rows place row) k)
    enough_with zero above small = omega (arith, ints)
    enough_with (suc k) above small = elim (cases_lt k place) [
      | inl before ↦ omega (arith, ints, grown-insert-before sign_of rows place row (suc k) (omega arith) within, enough (suc k) (omega arith))
      | inr after ↦ omega (arith, ints, grown-insert-after sign_of rows place row k after within, above k after (omega arith))
    ]

    pub falls-insert : (answer : Option ℕ) → FindsFirstAtMost sign_of rows place (negsuc 0 -ℤ sign_of row.op) answer → FallsFirst (insert rows place row) answer
    falls-insert None none = λ k small.
        enough_with k (λ earlier after below. omega (arith, ints, none earlier after (omega (arith, length-insert rows place row within)))) (omega (arith, length-insert rows place row within))
    falls-insert (Some index) first = record {
      within = omega (arith, first.within, length-insert rows place row within);
      falls = omega (arith, ints, grown-insert-after sign_of rows place row index first.above within, first.reached);
      not_before = λ k before. enough_with k (λ earlier after below. omega (arith, ints, first.not_before earlier after (omega arith))) (omega (arith, first.within));
    }

    -- a row that takes nothing lowers no size
    pub never-falls-insert : pos 0 ≤ℤ sign_of row.op → FallsFirst (insert rows place row) None
    never-falls-insert takes_none = λ k small.
        enough_with k (λ earlier after below. omega (arith, ints, takes_none, enough earlier (omega (arith, length-insert rows place row within))))
        (omega (arith, length-insert rows place row within))

  -- the row at the place is taken out
  module _ (row : Row) (at : slice_get rows place ≡ Some row) (inside : place < length rows) where
    enough_without : (k : ℕ) → ((later : ℕ) → place < later → later ≤ suc k → (sign_of row.op -ℤ pos 1) <ℤ grown sign_of rows later) → suc k ≤ length rows → pos 0 ≤ℤ (pos 0 +ℤ grown sign_of (remove rows place) k)
    enough_without k above small = elim (cases_lt place k) [
      | inl after ↦ omega (arith, ints, grown-remove-after sign_of rows place row k (omega arith) at, above (suc k) (omega arith) (omega arith))
      | inr before ↦ omega (arith, ints, grown-remove-before sign_of rows place row k before at, enough k (omega arith))
    ]

    -- the size falls no earlier than after the row that follows
    pub falls-later : (later : ℕ) → IsFirstAtMost sign_of rows (place + 1) (sign_of row.op -ℤ pos 1) later → place + 2 ≤ later
    falls-later later first = elim (cases_lt (place + 1) later) [
      | inl far ↦ omega arith
      | inr near ↦
          let same : later ≡ suc place = omega (arith, first.above) in
          absurd (omega (
            arith,
            ints,
            first.reached,
            ap (grown sign_of rows) same,
            grown-remove-after sign_of rows place row place (omega arith) at,
            grown-remove-before sign_of rows place row place (omega arith) at,
            enough place (omega arith),
          ))
    ]

    length_without : length (remove rows place) + 1 ≡ length rows
    length_without = length-remove rows place inside

    -- without a row that adds nothing no size is lower
    pub never-falls-remove : sign_of row.op ≤ℤ pos 0 → FallsFirst (remove rows place) None
    never-falls-remove adds_none k small =
        enough_without k (λ later after below. omega (arith, ints, adds_none, enough later (omega (arith, length_without)))) (omega (arith, length_without))

    pub falls-remove-none : FindsFirstAtMost sign_of rows (place + 1) (sign_of row.op -ℤ pos 1) None → FallsFirst (remove rows place) None
    falls-remove-none none k small =
        enough_without k (λ later after below. omega (arith, ints, none later (omega arith) (omega (arith, length_without)))) (omega (arith, length_without))

    falls_at : (index : ℕ) → IsFirstAtMost sign_of rows (place + 1) (sign_of row.op -ℤ pos 1) (suc (suc index)) → place ≤ index → FallsAtFrom (pos 0) (remove rows place) index
    falls_at index first far = record {
      within = omega (arith, first.within, length_without);
      falls = omega (arith, ints, grown-remove-after sign_of rows place row (suc index) (omega arith) at, first.reached);
      not_before = λ k before. enough_without k (λ later after below. omega (arith, ints, first.not_before later (omega arith) (omega arith))) (omega (arith, first.within));
    }

    pub falls-remove-some : (later : ℕ) → IsFirstAtMost sign_of rows (place + 1) (sign_of row.op -ℤ pos 1) later → FallsFirst (remove rows place) (Some (later - 2))
    falls-remove-some later first =
        let far = falls-later later first in
        falls_at (later - 2) (subst (IsFirstAtMost sign_of rows (place + 1) (sign_of row.op -ℤ pos 1)) (let same : later ≡ suc (suc (later - 2)) = omega arith in same) first) (omega arith)
