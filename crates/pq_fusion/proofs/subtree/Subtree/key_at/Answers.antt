use Rattle.std.proofs.Common.{◌+◌, ◌-◌, ◌*◌, ◌/◌, Some, take, length, arith, rules, refl, ap, sym, ◌∙◌, subst}
use Rattle.std.proofs.lemmas.Int.{to_z-of_z}
use Rattle.costs.specs.Digits.{digits}
use Rattle.pq_fusion.specs.declared.entry_counts.EntryCounts.{EntryCounts}
use Rattle.pq_fusion.specs.EntryCounts.{left_by}
use Rattle.pq_fusion.specs.Searches.{walk_of}
use Rattle.pq_fusion.proofs.Added.{IsRanked, entries_few, found_there, key_behind, none_there, ranked_earlier, ranked_later, ranked_starts, turn}
use Rattle.pq_fusion.proofs.Searched.{sought_ends, sought_starts}
use Rattle.pq_fusion.proofs.subtree.Subtree.key_at.Goals as goal

pub halve-init : goal.halve-init
halve-init g c =
    let rows = c.args.self.now.rows in
    let added = c.args.added.now in (
      λ x there. subst (IsRanked added x 0) (sym c.len-high.ensures) (ranked_starts rows added c.requires.added c.args.to c.args.index x there),
      refl,
      λ some. absurd (omega (arith, some)),
      omega (arith, c.len-high.ensures),
      λ levels most turns inside down small.
          sought_starts (c.len-high.result - 0) (12 * digits (length rows + 1) + walk_of levels most) turns c.args.steps.now
          (omega (arith, c.len-high.ensures, entries_few rows added c.requires.added, inside, small)),
    )

pub returns-then-index-from-clause-key : goal.returns-then-index-from-clause-key
returns-then-index-from-clause-key g c =
    none_there (left_by (take c.args.to c.args.self.now.rows)) c.args.index
    (omega (arith, ap (λ (t : EntryCounts). t.left) c.counts_at-counts.ensures.counts, c.from.ensures, c.if-index-from.true))

pub returns-then-index-from-clause-visits : goal.returns-then-index-from-clause-visits
returns-then-index-from-clause-visits g c = λ levels most turns inside down small.
    let rows = c.args.self.now.rows in
    let added = c.args.added.now in
    sought_ends 0 (12 * digits (length rows + 1) + walk_of levels most) turns c.args.steps.now c.counts_at-counts.new.steps
    (turn rows added c.requires.added (walk_of levels most) turns (c.halve.high - c.halve.low) 0 c.args.steps.now c.halve.steps c.get-entry.new.steps c.counts_at-counts.new.steps
    (omega (arith, c.halve-test.true)) (omega (arith, c.halve-test.true)) c.get-entry.ensures.visits (c.counts_at-counts.ensures.visits levels most inside down)
    (c.halve.invariant.4 levels most turns inside down small))

pub halve-preserved-then-counts-index : goal.halve-preserved-then-counts-index
halve-preserved-then-counts-index g c =
    let rows = c.args.self.now.rows in
    let added = c.args.added.now in
    let middle = c.halve.low + (c.halve.high - c.halve.low) / 2 in
    let left = ap (λ (t : EntryCounts). t.left) c.counts_at-counts.ensures.counts in
    let reached = ap (λ (t : EntryCounts). t.reaching) c.counts_at-counts.ensures.counts in (
      λ x there.
          ranked_later rows added c.requires.added c.args.to c.args.index x there c.halve.low c.halve.high middle c.get-entry.result c.get-entry.ensures.entry (c.halve.invariant.0 x there)
          (omega (arith, left, reached, c.from.ensures, c.if-index-from.false, c.if-counts-index.true, c.counts_at-counts.ensures.few)),
      ap Some (search (rules, to_z-of_z)) ∙ key_behind added middle c.get-entry.result c.get-entry.ensures.entry,
      λ some. omega (arith, left, c.from.ensures, c.if-index-from.false),
      c.halve.invariant.3,
      λ levels most turns inside down small.
          turn rows added c.requires.added (walk_of levels most) turns (c.halve.high - c.halve.low) (c.halve.high - (middle + 1)) c.args.steps.now c.halve.steps c.get-entry.new.steps c.counts_at-counts.new.steps
          (omega (arith, c.halve-test.true)) (omega (arith, c.halve-test.true)) c.get-entry.ensures.visits (c.counts_at-counts.ensures.visits levels most inside down)
          (c.halve.invariant.4 levels most turns inside down small),
    )

pub halve-preserved : goal.halve-preserved
halve-preserved g c =
    let rows = c.args.self.now.rows in
    let added = c.args.added.now in
    let middle = c.halve.low + (c.halve.high - c.halve.low) / 2 in
    let left = ap (λ (t : EntryCounts). t.left) c.counts_at-counts.ensures.counts in
    let reached = ap (λ (t : EntryCounts). t.reaching) c.counts_at-counts.ensures.counts in (
      λ x there.
          ranked_earlier rows added c.requires.added c.args.to c.args.index x there c.halve.low c.halve.high middle c.get-entry.result c.get-entry.ensures.entry (c.halve.invariant.0 x there)
          (omega (arith, left, reached, c.from.ensures, c.if-index-from.false, c.if-counts-index.false, c.counts_at-counts.ensures.few)),
      c.halve.invariant.1,
      c.halve.invariant.2,
      omega (arith, c.halve.invariant.3, c.halve-test.true),
      λ levels most turns inside down small.
          turn rows added c.requires.added (walk_of levels most) turns (c.halve.high - c.halve.low) (middle - c.halve.low) c.args.steps.now c.halve.steps c.get-entry.new.steps c.counts_at-counts.new.steps
          (omega (arith, c.halve-test.true)) (omega (arith, c.halve-test.true)) c.get-entry.ensures.visits (c.counts_at-counts.ensures.visits levels most inside down)
          (c.halve.invariant.4 levels most turns inside down small),
    )

pub returns-clause-key : goal.returns-clause-key
returns-clause-key g c =
    found_there c.args.added.now (left_by (take c.args.to c.args.self.now.rows)) c.args.index c.halve.low c.halve.high c.halve.found c.halve.invariant.1 c.halve.invariant.2 c.halve.invariant.0
    (omega (arith, c.halve-test.false))

pub returns-clause-visits : goal.returns-clause-visits
returns-clause-visits g c = λ levels most turns inside down small.
    sought_ends (c.halve.high - c.halve.low) (12 * digits (length c.args.self.now.rows + 1) + walk_of levels most) turns c.args.steps.now c.halve.steps (c.halve.invariant.4 levels most turns inside down small)
