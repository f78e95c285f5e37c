-- The visits of a walk down the tree: each node beside the path has what the path has not, and has its two lists searched.
use Rattle.std.proofs.Common.{◌≡◌, ℕ, zero, suc, ◌+◌, ◌-◌, ◌*◌, ◌/◌, ◌^◌, ◌<◌, ◌≤◌, inl, inr, true, List, length, min, refl, arith, subst}
use Rattle.std.specs.Prelude.{Bool, nat_le, ◌&&◌}
use Rattle.std.proofs.lemmas.Bool.{and_parts, cases_lt}
use Rattle.std.proofs.lemmas.Bool.Decides.{nat_tests}
use Rattle.std.proofs.lemmas.Nat.{pow-add}
use Rattle.std.proofs.Math.Nat.{mul-le-mul_left}
use Rattle.retro_base.specs.declared.row.Row.{Row}
use Rattle.retro_base.specs.Limits.{most_rows}
use Rattle.costs.specs.Digits.{digits, digits_by}
use Rattle.costs.specs.VisitsLaws.{below-digits, one_digit, one_more}
use Rattle.pq_fusion.specs.declared.subtree.Pair.{Pair}
use Rattle.pq_fusion.specs.Nodes.{IsPairOf}
use Rattle.pq_fusion.specs.Searches.{AskedWithin, SearchesPiece, SeeksWithin, SizedWithin, VisitsUpTo, WalksWithin, rows_down, turns_in_both, walk_of}
use Rattle.pq_fusion.proofs.Pairs.{sizes, some_earlier, some_later}

-- a number has no more digits than the power of two above it tells
few_by : (fuel n k : ℕ) → n < 2 ^ suc k → digits_by fuel n ≤ suc k
few_by zero n k small = omega arith
few_by (suc fuel) n zero small = omega (arith, one_digit (suc fuel) n (omega (arith, small)))
few_by (suc fuel) n (suc k) small = elim (cases_lt n 2) [
  | inl less ↦ omega (arith, one_digit (suc fuel) n less)
  | inr more ↦ omega (arith, one_more fuel n more, few_by fuel (n / 2) k (omega (arith, small, pow-add 2 (suc k) 1)))
]

few_digits : (n k : ℕ) → n < 2 ^ suc k → digits n ≤ suc k
unfolding digits
few_digits n k small = few_by n n k small

some_by : (fuel n : ℕ) → 1 ≤ digits_by fuel n
some_by zero n = omega arith
some_by (suc fuel) n = elim (cases_lt n 2) [
  | inl less ↦ omega (arith, one_digit (suc fuel) n less)
  | inr more ↦ omega (arith, one_more fuel n more)
]

some_digits : (n : ℕ) → 1 ≤ digits n
unfolding digits
some_digits n = some_by n n

-- half of a number, or less than half by one, has at most one digit less
half_digits : (n half : ℕ) → n ≤ 2 * half + 1 → digits n ≤ digits half + 1
half_digits n half less = omega (arith, few_digits n (digits half) (omega (arith, less, below-digits half, pow-add 2 (digits half) 1)))

more_turns : (j k : ℕ) → j ≤ k + 1 → turns_in_both j ≤ turns_in_both k + 4
more_turns j k less = omega (arith, less)

some_turns : (k : ℕ) → 1 ≤ k → 2 ≤ turns_in_both k
some_turns k some = omega (arith, some)

-- what a node beside the path may have where the path goes down one level
abbrev beside : ℕ → ℕ
beside rows = rows - 1 - rows_down 2 rows

beside_turns : (rows : ℕ) → 2 ≤ turns_in_both (digits (beside rows))
beside_turns rows = some_turns (digits (beside rows)) (some_digits (beside rows))

-- a node that is taken whole, and a run, are no more than a walk
whole_few : (levels most : ℕ) → rows_down levels most ≤ 1 → 1 + turns_in_both (digits most) ≤ walk_of levels most
whole_few zero most down = omega (arith, few_digits most 0 (omega (arith, down)))
whole_few (suc levels) most down = omega (
  arith,
  whole_few levels (3 * most / 4) down,
  more_turns (digits most) (digits (3 * most / 4)) (half_digits most (3 * most / 4) (omega arith)),
  beside_turns most,
)

-- a quarter of the rows of a run is no more than the turns for what stands beside
quarter_few : (most k : ℕ) → beside most < 2 ^ k → min 64 most ≤ min 64 (3 * most / 4) + (2 + turns_in_both k)
quarter_few most zero small = omega (arith, small)
quarter_few most (suc zero) small = omega (arith, small)
quarter_few most (suc (suc zero)) small = omega (arith, small)
quarter_few most (suc (suc (suc zero))) small = omega (arith, small)
quarter_few most (suc (suc (suc (suc zero)))) small = omega (arith, small)
quarter_few most (suc (suc (suc (suc (suc zero))))) small = omega (arith, small)
quarter_few most (suc (suc (suc (suc (suc (suc k)))))) small = omega arith

run_few : (levels most : ℕ) → rows_down levels most ≤ 1 → 1 + min 64 most ≤ walk_of levels most
run_few zero most down = omega (arith, down)
run_few (suc levels) most down =
    omega (arith, run_few levels (3 * most / 4) down, quarter_few most (digits (beside most)) (below-digits (beside most)))

-- the path goes down two levels: the node beside it has up to 3 quarters
two_levels : (most : ℕ) → turns_in_both (digits (3 * most / 4)) ≤ turns_in_both (digits (beside most)) + (2 + turns_in_both (digits (beside (3 * most / 4))))
two_levels most = omega (
  arith,
  more_turns (digits (3 * most / 4)) (digits (beside most)) (half_digits (3 * most / 4) (beside most) (omega arith)),
  beside_turns (3 * most / 4),
)

pub walks_whole : (rows : List Row) (start end : ℕ) → SearchesPiece 1 (length rows) start end → WalksWithin rows start end
walks_whole rows start end opens levels most few down =
    let all = opens (digits most) (omega (arith, few, below-digits most)) in
    record { none_lost = all.none_lost; few = omega (arith, all.few, whole_few levels most down) }

pub walks_run : (rows : List Row) (some start end : ℕ) → some ≤ length rows → length rows ≤ 64 → VisitsUpTo (1 + some) start end → WalksWithin rows start end
walks_run rows some start end less run visits levels most few down =
    record { none_lost = visits.none_lost; few = omega (arith, visits.few, less, run, few, run_few levels most down) }

pub walks_none : (rows : List Row) (start end : ℕ) → end ≡ start + 1 → WalksWithin rows start end
walks_none rows start end one levels most few down = record { none_lost = omega (arith, one); few = omega (arith, one, run_few levels most down) }

module _ (rows : List Row) (pair : Pair) (root : IsPairOf rows pair) where
  pub walks_earlier : (start next end : ℕ) → next ≡ start + 1 → WalksWithin pair.earlier.rows next end → WalksWithin rows start end
  walks_earlier start next end one rest zero most few down = absurd (omega (arith, few, down, sizes rows pair root, some_earlier rows pair root, some_later rows pair root))
  walks_earlier start next end one rest (suc levels) most few down =
      let below = rest levels (3 * most / 4) (omega (arith, few, sizes rows pair root, root.sound.balanced.earlier_light)) down in
      record { none_lost = omega (arith, one, below.none_lost); few = omega (arith, one, below.few) }

  -- the earlier side is read whole
  module _ (start first second end : ℕ) (one : first ≡ start + 1) (left : SearchesPiece 1 (length pair.earlier.rows) first second) (rest : WalksWithin pair.later.rows second end) where
    one_level : (levels most : ℕ) → length rows ≤ most → rows_down (suc levels) most ≤ 1 → rows_down 2 most < length pair.later.rows → VisitsUpTo (walk_of (suc levels) most) start end
    one_level levels most few down more =
        let beside_path = left (digits (beside most)) (omega (arith, few, more, sizes rows pair root, below-digits (beside most))) in
        let below = rest levels (3 * most / 4) (omega (arith, few, sizes rows pair root, root.sound.balanced.later_light)) down in
        record { none_lost = omega (arith, one, beside_path.none_lost, below.none_lost); few = omega (arith, one, beside_path.few, below.few) }

    further : (levels most : ℕ) → length rows ≤ most → rows_down (suc levels) most ≤ 1 → length pair.later.rows ≤ rows_down 2 most → VisitsUpTo (walk_of (suc levels) most) start end
    further zero most few down less = absurd (omega (arith, down, less, some_later rows pair root))
    further (suc levels) most few down less =
        let beside_path = left (digits (3 * most / 4)) (omega (arith, few, sizes rows pair root, root.sound.balanced.earlier_light, below-digits (3 * most / 4))) in
        let below = rest levels (3 * (3 * most / 4) / 4) less down in
        record { none_lost = omega (arith, one, beside_path.none_lost, below.none_lost); few = omega (arith, one, beside_path.few, below.few, two_levels most) }

    pub walks_later : WalksWithin rows start end
    walks_later zero most few down = absurd (omega (arith, few, down, sizes rows pair root, some_earlier rows pair root, some_later rows pair root))
    walks_later (suc levels) most few down = elim (cases_lt (rows_down 2 most) (length pair.later.rows)) [
      | inl more ↦ one_level levels most few down more
      | inr less ↦ further levels most few down less
    ]

-- a search of which one walk is all
pub seek_once : (rows : List Row) (start end : ℕ) → WalksWithin rows start end → SeeksWithin rows start end
seek_once rows start end walks levels most zero few down small = absurd (omega (arith, small))
seek_once rows start end walks levels most (suc turns) few down small =
    let all = walks levels most few down in
    record { none_lost = all.none_lost; few = omega (arith, all.few) }

-- in digits d: so many levels, and so many rows
abbrev levels_of : ℕ → ℕ
levels_of d = 12 * d / 5 - 2

abbrev rows_of : ℕ → ℕ
rows_of d = min (2 ^ d - 2) most_rows

-- a timeline has no more rows than 18 digits tell: each of these numbers is tried
fits : ℕ → Bool
fits d = nat_le (rows_down (levels_of d) (rows_of d)) 1 && nat_le (walk_of (levels_of d) (rows_of d)) (4 * (d + 1) * d)

all_fit : ℕ → Bool
all_fit zero = true
all_fit (suc n) = fits (suc n) && all_fit n

all_tried : all_fit 18 ≡ true
unfolding digits all_fit fits
all_tried = refl

each_fits : (n d : ℕ) → all_fit n ≡ true → 1 ≤ d → d ≤ n → fits d ≡ true
unfolding all_fit
each_fits zero d all some few = absurd (omega (arith, some, few))
each_fits (suc n) d all some few = elim (cases_lt d (suc n)) [
  | inl less ↦ each_fits n d (and_parts (fits (suc n)) (all_fit n) all).1 some (omega (arith, less))
  | inr more ↦ let same : suc n ≡ d = omega (arith, more, few) in subst (λ m. fits m ≡ true) same (and_parts (fits (suc n)) (all_fit n) all).0
]

no_more : (m n : ℕ) → nat_le m n ≡ true → m ≤ n
no_more m n less = grind (arith, nat_tests)

fit : (d : ℕ) → 1 ≤ d → d ≤ 18 → (rows_down (levels_of d) (rows_of d) ≤ 1) × (walk_of (levels_of d) (rows_of d) ≤ 4 * (d + 1) * d)
unfolding fits
fit d some few =
    let parts = and_parts (nat_le (rows_down (levels_of d) (rows_of d)) 1) (nat_le (walk_of (levels_of d) (rows_of d)) (4 * (d + 1) * d)) (each_fits 18 d all_tried some few) in
    (no_more _ _ parts.0, no_more _ _ parts.1)

module _ (n : ℕ) (few : n ≤ most_rows) where
  abbrev d : ℕ
  d = digits (n + 1)

  fitting : (rows_down (levels_of d) (rows_of d) ≤ 1) × (walk_of (levels_of d) (rows_of d) ≤ 4 * (d + 1) * d)
  fitting = fit d (some_digits (n + 1)) (few_digits (n + 1) 17 (omega (arith, few)))

  inside : n ≤ rows_of d
  inside = omega (arith, few, below-digits (n + 1))

  pub walk_digits : (start end : ℕ) → ((levels most : ℕ) → n ≤ most → rows_down levels most ≤ 1 → VisitsUpTo (walk_of levels most) start end) → SizedWithin n start end
  walk_digits start end walks =
      let all = walks (levels_of d) (rows_of d) inside fitting.0 in
      record { none_lost = all.none_lost; few = omega (arith, all.few, fitting.1) }

  pub seek_digits : (start end : ℕ)
      → ((levels most turns : ℕ) → n ≤ most → rows_down levels most ≤ 1 → most + 1 < 2 ^ turns → VisitsUpTo (turns * (12 * digits (n + 1) + walk_of levels most)) start end) → AskedWithin n start end
  seek_digits start end seeks =
      let all = seeks (levels_of d) (rows_of d) d inside fitting.0 (omega (arith, below-digits (n + 1))) in
      record { none_lost = all.none_lost; few = omega (arith, all.few, mul-le-mul_left d fitting.1) }
