-- From where a search of the tree turns to the place that was asked for.
use Rattle.std.proofs.Common.{◌≡◌, ℕ, ◌≤◌, ℤ, ◌-ℤ◌, Bool, true, false, ◌||◌, List, length, Option, Some, None, sym, ap, ◌∙◌, arith, inl, inr}
use Rattle.std.specs.List.{slice_range}
use Rattle.std.specs.Int.Signed.{le_z}
use Rattle.std.proofs.lemmas.Bool.{cases_Bool, or_parts}
use Rattle.std.proofs.Math.Bool.{or-true}
use Rattle.weighted_tree.specs.Search.{IsFirstOrNone, IsLastOrNone}
use Rattle.monoid_laws.specs.Walk.{walk_of, height_of}
use Rattle.monoid_laws.specs.PrefixSumLaws as prefixes
use Rattle.monoid_laws.specs.SuffixSumLaws as suffixes
use Rattle.retro_base.specs.declared.op.Op.{Op}
use Rattle.retro_base.specs.declared.row.Row.{Row}
use Rattle.prefix_trees.specs.declared.growth.End.{End}
use Rattle.prefix_trees.specs.Growth.{growths, grown, growth_at, left_growth, right_growth}
use Rattle.prefix_trees.specs.Prefixes.{FindsFirstAtMost, FindsLastAtMost, FindsLastAtEither, IsAboveBoth}
use Rattle.prefix_trees.specs.Walks.{walk_at}
use Rattle.prefix_trees.proofs.MeasuredRows.{walks_of, range-end, from_end}

module _ (growth : Op → ℤ) (rows : List Row) (value : ℤ) where
  pub finds-first : (from : ℕ) (answer : Option ℕ) → IsFirstOrNone (prefixes.reaches (growths growth rows) from value) from (length rows) answer → FindsFirstAtMost growth rows from value answer
  finds-first from None nowhere = λ place above within. prefixes.above_all (growths growth rows) from value place place above (omega arith) (nowhere place above within)
  finds-first from (Some place) first = record {
    above = first.above;
    within = first.within;
    reached = prefixes.reached_there (growths growth rows) from value place first.above first.holds_there first.not_before;
    not_before = λ earlier above before. prefixes.above_all (growths growth rows) from value earlier earlier above (omega arith) (first.not_before earlier above before);
  }

  pub finds-none : (from : ℕ) → prefixes.reaches (growths growth rows) from value (length rows) ≡ false → FindsFirstAtMost growth rows from value None
  finds-none from fails = λ place above within. prefixes.above_all (growths growth rows) from value (length rows) place above within fails

  pub finds-last : (to : ℕ) (answer : Option ℕ) → IsLastOrNone (suffixes.keeps (growths growth rows) to value) to answer → FindsLastAtMost growth rows to value answer
  finds-last to None nowhere = λ place above within. suffixes.above_all (growths growth rows) to value place place (omega arith) within (nowhere place above within)
  finds-last to (Some place) last = record {
    within = last.within;
    reached = suffixes.reached_there (growths growth rows) to value place last.within last.holds_there last.not_after;
    not_after = λ later after below. suffixes.above_all (growths growth rows) to value later later (omega arith) below (last.not_after later after below);
  }

-- the test of a measure says where an end keeps to a value
pub end-keeps : (end : End) (rows : List Row) (place to : ℕ) (count : ℤ)
    → le_z count (height_of (walk_at end (walks_of (slice_range rows place to)))) ≡ suffixes.keeps (growths (growth_at end) rows) to (grown (growth_at end) rows to -ℤ count) place
end-keeps end rows place to count =
    ap (λ w. le_z count (height_of w)) (range-end rows place to end)
    ∙ from_end (grown (growth_at end) rows to) count (height_of (walk_of (slice_range (growths (growth_at end) rows) place to)))

module _ (rows : List Row) (to : ℕ) (left right : ℤ) where
  abbrev by_left : ℕ → Bool
  by_left = suffixes.keeps (growths left_growth rows) to left

  abbrev by_right : ℕ → Bool
  by_right = suffixes.keeps (growths right_growth rows) to right

  -- one end or the other keeps to its value
  abbrev pub by_either : ℕ → Bool
  by_either place = by_left place || by_right place

  pub either-falls : (place earlier : ℕ) → earlier ≤ place → place ≤ to → by_either place ≡ true → by_either earlier ≡ true
  either-falls place earlier order within holds = elim (cases_Bool (by_left place)) [
    | inl there ↦ ap (λ b. b || by_right earlier) (suffixes.keeps-falls (growths left_growth rows) to left place earlier order within there)
    | inr fails ↦ ap (λ b. by_left earlier || b) (suffixes.keeps-falls (growths right_growth rows) to right place earlier order within
        (sym (ap (λ b. b || by_right place) fails) ∙ holds)) ∙ or-true (by_left earlier)
  ]

  above : (place : ℕ) → place ≤ to → by_either place ≡ false → IsAboveBoth rows left right place
  above place within fails =
      let both = or_parts (by_left place) (by_right place) fails in
      (suffixes.above_all (growths left_growth rows) to left place place (omega arith) within both.0, suffixes.above_all (growths right_growth rows) to right place place (omega arith) within both.1)

  pub finds-either : (answer : Option ℕ) → IsLastOrNone by_either to answer → FindsLastAtEither rows to left right answer
  finds-either None nowhere = λ place within. above place within (nowhere place (omega arith) within)
  finds-either (Some place) last = record {
    within = last.within;
    reached = elim (cases_Bool (by_left place)) [
      | inl there ↦ inl (suffixes.reached_there (growths left_growth rows) to left place last.within there
          (λ later after below. (or_parts (by_left later) (by_right later) (last.not_after later after below)).0))
      | inr fails ↦ inr (suffixes.reached_there (growths right_growth rows) to right place last.within (sym (ap (λ b. b || by_right place) fails) ∙ last.holds_there)
          (λ later after below. (or_parts (by_left later) (by_right later) (last.not_after later after below)).1))
    ];
    not_after = λ later after below. above later below (last.not_after later after below);
  }
