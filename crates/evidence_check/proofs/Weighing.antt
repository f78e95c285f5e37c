-- How many dead entries are held, row by row: the marks are the weights.
use Rattle.std.proofs.Common.{◌≡◌, ℕ, zero, suc, ◌+◌, ◌-◌, ◌<◌, ◌≤◌, pos, Bool, true, false, not, ◌&&◌, cond, List, [], ◌∷◌}
use Rattle.std.proofs.Common.{length, take, refl, sym, ap, ◌∙◌, zero-add, arith, Option, Some, None, inl, inr}
use Rattle.std.specs.Prelude.{◌==◌, ℤ, ◌+ℤ◌, count_by}
use Rattle.std.specs.Option.{option_map_or}
use Rattle.std.specs.List.{AllByRecursion, fold, list_all}
use Rattle.std.proofs.lemmas.Bool.{cases_lt, ne_eqb}
use Rattle.std.proofs.lemmas.Int.{ints}
use Rattle.std.proofs.lemmas.List.Sums.{sum_by-cons}
use Rattle.std.specs.Result.{result_unwrap_or}
use Rattle.std.proofs.lemmas.List.{take_all}
use Rattle.retro_base.specs.declared.kind.Kind.TheVariants.{Pq}
use Rattle.retro_base.specs.Replay.{run}
use Rattle.retro_base.specs.State.{empty}
use Rattle.retro_base.specs.declared.row.Entry.{Entry}
use Rattle.retro_base.specs.declared.row.Row.{Row}
use Rattle.retro_base.specs.BridgeLaws.{WeightsCountTheDead}
use Rattle.retro_base.specs.Bridges.{entries_at, entries_of, is_among, is_bridge, survivors, last_bridge, first_bridge, first_bridge_among}
use Rattle.retro_base.specs.Carried.{IsPqHistory}
use Rattle.retro_base.specs.Weights.{added_by, dead_at, weight, weight_as}
use Rattle.evidence_check.specs.declared.weighed_row.WeighedRow.{WeighedRow}
use Rattle.evidence_check.proofs.Marking.{length_rows, take_rows}
use Rattle.evidence_check.proofs.Shown.{all_take}
use Rattle.retro_base.specs.lemmas.bridges.Entries.{In}
use Rattle.retro_base.specs.lemmas.bridges.Tests.{in_is_among}
use Rattle.evidence_check.specs.Marks.{MarksSurvivors, IsMarked, entry_of, rows_of}
use Rattle.evidence_check.specs.Sums.{sum_of, weight_by, weight_of}
use Rattle.evidence_check.specs.Zeros.{IsFirstZero, IsLastZero, IsZero}

pub history : (marked : List WeighedRow) → MarksSurvivors marked → IsPqHistory (rows_of marked)
history marked kept = record {
  of_kind = kept.replayable.of_kind;
  own_numbers = kept.replayable.own_numbers;
  valid = kept.replayable.valid;
}

-- a place is a bridge where no dead entry is held
counts_none : (b all : Bool) (n : ℕ) → all ≡ (n == 0) → (b && all) ≡ (cond (not b) 1 0 + n == 0)
counts_none true all n same = rw zero-add same
counts_none false all n same = sym (ne_eqb (1 + n) 0 (λ none. omega arith))

none_fail : (test : Entry → Bool) (held : List Entry) → list_all test held ≡ (count_by (λ e. not (test e)) held == 0)
none_fail test [] = refl
none_fail test (e ∷ held) =
    let one_more : count_by (λ x. not (test x)) (e ∷ held) ≡ cond (not (test e)) 1 0 + count_by (λ x. not (test x)) held =
    sum_by-cons (λ x. cond (not (test x)) 1 0) e held in
    counts_none (test e) (list_all test held) (count_by (λ x. not (test x)) held) (none_fail test held) ∙ ap (λ n. n == 0) (sym one_more)

pub bridge_by_count : (rows : List Row) (place : ℕ) → is_bridge rows place ≡ (dead_at rows place == 0)
bridge_by_count rows place = none_fail (λ e. is_among (survivors rows) e) (entries_at rows place)

-- after all rows nothing dead is held
none_counted : (all held : List Entry) → ((e : Entry) → In e held → is_among all e ≡ true) → count_by (λ e. not (is_among all e)) held ≡ 0
none_counted all [] each = refl
none_counted all (e ∷ held) each =
    let one_more : count_by (λ x. not (is_among all x)) (e ∷ held) ≡ cond (not (is_among all e)) 1 0 + count_by (λ x. not (is_among all x)) held =
    sum_by-cons (λ x. cond (not (is_among all x)) 1 0) e held in
    one_more ∙ rw (each e (inl refl), none_counted all held (λ x further. each x (inr further))) refl

dead_at_end : (rows : List Row) → dead_at rows (length rows) ≡ 0
dead_at_end rows =
    let whole : entries_at rows (length rows) ≡ survivors rows =
    ap (λ first. entries_of (result_unwrap_or (run first (empty Pq)) (empty Pq))) (take_all (length rows) rows (omega arith)) in
    ap (λ held. count_by (λ entry. not (is_among (survivors rows) entry)) held) whole ∙ none_counted (survivors rows) (survivors rows) (λ e inside. in_is_among e (survivors rows) inside)

-- the weight that a mark says is that of the row
weight_marked : (survive : List Entry) (alive : Bool) (o : Option Entry) → alive ≡ option_map_or (is_among survive) o false → weight_as survive o ≡ weight_by alive o
weight_marked survive alive None mark = refl
weight_marked survive alive (Some e) mark = ap (λ b. cond b (pos 0) (pos 1)) (sym mark)

weights_folded : (survive : List Entry) (start : ℤ) (marked : List WeighedRow) → AllByRecursion (IsMarked survive) marked
    → fold (λ sum row. sum +ℤ weight_as survive (added_by row)) start (rows_of marked) ≡ start +ℤ sum_of marked
weights_folded survive start [] all = omega (arith, ints)
weights_folded survive start (first ∷ others) all =
    let mark : weight_as survive (entry_of first) ≡ weight_of first = weight_marked survive first.alive (entry_of first) all.0 in
    let rest = weights_folded survive (start +ℤ weight_as survive (entry_of first)) others all.1 in
    rest ∙ ap (λ w. (start +ℤ w) +ℤ sum_of others) mark ∙ moved start (weight_of first) (sum_of others)
  where
    moved : (a b c : ℤ) → ((a +ℤ b) +ℤ c) ≡ (a +ℤ (b +ℤ c))
    moved a b c = omega (arith, ints)

-- the weights of marked rows count the dead
pub sum_counts : WeightsCountTheDead → (marked : List WeighedRow) → MarksSurvivors marked → (place : ℕ) → (pos 0 +ℤ sum_of (take place marked)) ≡ pos (dead_at (rows_of marked) place)
sum_counts count marked kept place =
    sym (weights_folded (survivors (rows_of marked)) (pos 0) (take place marked) (all_take (IsMarked (survivors (rows_of marked))) place marked kept.marks))
    ∙ ap (fold (λ sum row. sum +ℤ weight (rows_of marked) row) (pos 0)) (sym (take_rows place marked))
    ∙ count (rows_of marked) place (history marked kept)

pub bridge_is_zero : WeightsCountTheDead → (marked : List WeighedRow) → MarksSurvivors marked → (place : ℕ) → IsZero (pos 0) marked place → is_bridge (rows_of marked) place ≡ true
bridge_is_zero count marked kept place zeroes =
    let none : pos (dead_at (rows_of marked) place) ≡ pos 0 = sym (sum_counts count marked kept place) ∙ zeroes in
    let no_dead : dead_at (rows_of marked) place ≡ 0 = omega (arith, ints) in
    bridge_by_count (rows_of marked) place ∙ ap (λ n. n == 0) no_dead

pub no_bridge : WeightsCountTheDead → (marked : List WeighedRow) → MarksSurvivors marked → (place : ℕ) → ¬ IsZero (pos 0) marked place → is_bridge (rows_of marked) place ≡ false
no_bridge count marked kept place other =
    bridge_by_count (rows_of marked) place
    ∙ ne_eqb (dead_at (rows_of marked) place) 0 (λ none. other (sum_counts count marked kept place ∙ ap (λ n. pos n) none))

pub zero_at_end : WeightsCountTheDead → (marked : List WeighedRow) → MarksSurvivors marked → IsZero (pos 0) marked (length marked)
zero_at_end count marked kept =
    sum_counts count marked kept (length marked) ∙ ap (λ n. pos (dead_at (rows_of marked) n)) (sym (length_rows marked)) ∙ ap (λ n. pos n) (dead_at_end (rows_of marked))

-- the last bridge up to a place, and the first one from a place on, are where the weights add up to 0
last_found : (rows : List Row) (to place : ℕ) → place ≤ to → (1 ≤ place → is_bridge rows place ≡ true) → ((other : ℕ) → suc place ≤ other → other ≤ to → is_bridge rows other ≡ false)
    → place ≡ last_bridge rows to
last_found rows zero place within is none = omega arith
last_found rows (suc to) place within is none =
    elim (cases_lt place (suc to)) [
      | inr here ↦
          let same : place ≡ suc to = omega arith in
          let bridges : is_bridge rows (suc to) ≡ true = rw same at is (omega arith) in
          same ∙ rw bridges refl
      | inl before ↦
          let misses : is_bridge rows (suc to) ≡ false = none (suc to) (omega arith) (omega arith) in
          last_found rows to place (omega arith) is (λ other from up. none other from (omega arith)) ∙ rw misses refl
    ]

first_found : (rows : List Row) (more from place : ℕ) → from ≤ place → place ≤ from + more → is_bridge rows place ≡ true → ((other : ℕ) → from ≤ other → other < place → is_bridge rows other ≡ false)
    → place ≡ first_bridge_among more rows from
first_found rows zero from place least most is none = omega arith
first_found rows (suc more) from place least most is none =
    elim (cases_lt from place) [
      | inr here ↦
          let same : place ≡ from = omega arith in
          let bridges : is_bridge rows from ≡ true = rw same at is in
          same ∙ rw bridges refl
      | inl after ↦
          let misses : is_bridge rows from ≡ false = none from (omega arith) (omega arith) in
          first_found rows more (suc from) place (omega arith) (omega arith) is (λ other up before. none other (omega arith) before) ∙ rw misses refl
    ]

module _ (count : WeightsCountTheDead) (marked : List WeighedRow) (kept : MarksSurvivors marked) where
  pub last_is : (to place : ℕ) → to ≤ length marked → IsLastZero (pos 0) marked to place → place ≡ last_bridge (rows_of marked) to
  last_is to place within found =
      last_found (rows_of marked) to place found.within (λ some. bridge_is_zero count marked kept place (found.is_zero some))
      (λ other from up. no_bridge count marked kept other (found.last other (omega arith) from up (omega arith)))

  -- there is one, since nothing dead is held after all rows
  first_some : (from place : ℕ) → 1 ≤ from → from ≤ length marked → IsFirstZero (pos 0) marked from place → 1 ≤ place
  first_some from place some within found =
      elim (cases_lt 0 place) [
        | inl one ↦ one
        | inr none ↦
            let zeroes : place ≡ 0 = omega arith in
            absurd (found.none zeroes (length marked) (omega arith) within (omega arith) (omega arith) (zero_at_end count marked kept))
      ]

  pub first_is : (from place : ℕ) → 1 ≤ from → from ≤ length marked → IsFirstZero (pos 0) marked from place → place ≡ first_bridge (rows_of marked) from
  first_is from place some within found =
      let one : 1 ≤ place = first_some from place some within found in
      let least : from ≤ place = found.within one in
      let inside : place ≤ length marked = found.inside in
      let long : length (rows_of marked) ≡ length marked = length_rows marked in
      first_found (rows_of marked) (length (rows_of marked) - from) from place least (omega arith) (bridge_is_zero count marked kept place (found.is_zero one))
      (λ other up before. no_bridge count marked kept other (found.first one other (omega arith) up (omega arith) (omega arith)))

  pub first_at_start : 0 ≡ first_bridge (rows_of marked) 0
  first_at_start =
      first_found (rows_of marked) (length (rows_of marked) - 0) 0 0 (omega arith) (omega arith) (bridge_is_zero count marked kept 0 refl) (λ other up before. absurd (let none : ⊥ = omega arith in none))
