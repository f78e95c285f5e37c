-- From the row that a search finds to the item that it wrote.
use Rattle.std.proofs.Common.{◌≡◌, ℕ, ◌≤◌, ℤ, List, length, Option, Some, None, IsSome, rules, subst}
use Rattle.std.specs.Prelude.{MatchOption}
use Rattle.retro_base.specs.declared.kind.Kind.{Kind}
use Rattle.retro_base.specs.declared.row.Row.{Row}
use Rattle.retro_base.specs.Timeline.{IsReplayable}
use Rattle.prefix_trees.specs.Growth.{IsLine}
use Rattle.prefix_trees.specs.FailureLaws.{LineAt, line-at}
use Rattle.prefix_trees.specs.WriterLaws.{IsWrittenAt}

-- a row was found, and it wrote the item at the index of the line at the place
abbrev pub FindsWriter : Kind → List Row → ℕ → ℕ → Option ℕ → Type 0
FindsWriter kind rows place index answer = (items : List ℤ) → LineAt kind rows place items → MatchOption answer ⊥ (IsWrittenAt rows items index)

module _ (kind : Kind) (line : IsLine kind) (rows : List Row) (replayable : IsReplayable kind rows) (place index : ℕ) (within : place ≤ length rows)
    (answer : Option ℕ) (finds : FindsWriter kind rows place index answer) where
  some_found : (o : Option ℕ) (items : List ℤ) → MatchOption o ⊥ (IsWrittenAt rows items index) → IsSome o
  some_found None items found = absurd found
  some_found (Some written) items found = search rules

  pub is-found : IsSome answer
  is-found = let at = line-at kind rows place line replayable.of_kind replayable.valid within in some_found answer at.0 (finds at.0 at.1)

  pub some-written : (found : ℕ) → answer ≡ Some found → (items : List ℤ) × ((index : ℕ) × IsWrittenAt rows items index found)
  some-written found is =
      let at = line-at kind rows place line replayable.of_kind replayable.valid within in
      (at.0, (index, subst (λ o. MatchOption o ⊥ (IsWrittenAt rows at.0 index)) is (finds at.0 at.1)))

  pub each-written : (found : ℕ) → answer ≡ Some found → (items : List ℤ) → LineAt kind rows place items → IsWrittenAt rows items index found
  each-written found is items at = subst (λ o. MatchOption o ⊥ (IsWrittenAt rows items index)) is (finds items at)
