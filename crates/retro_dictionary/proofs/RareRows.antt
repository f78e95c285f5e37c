-- By the rule of a dictionary rows get labels often before all are relabelled.
use Rattle.std.proofs.Common.{◌≡◌, ℕ, zero, suc, ◌+◌, ◌-◌, ◌*◌, ◌/◌, ◌%◌, ◌^◌, ◌<◌, ◌≤◌, max, min, true, false, Some, None, List, [], ◌∷◌, length, refl, ap, subst, ◌∙◌, arith, inl, inr, eq-eqb, cond, map}
use Rattle.std.specs.List.{insert, remove}
use Rattle.std.specs.Option.{option_map_or}
use Rattle.std.proofs.Math.Nat.{pow-le-pow_right}
use Rattle.std.proofs.lemmas.Bool.{cases_lt, le-leb, lt-ltb, ne_eqb}
use Rattle.std.proofs.lemmas.Nat.{pow_pos, mod_below}
use Rattle.retro_base.specs.Limits.{most_rows}
use Rattle.order_labels.specs.Labels.{AreApart, label_before, label_after as label_later, label_limit, has_room, exponent, gap_of, spread}
use Rattle.order_labels.specs.LabelLaws.{insertions, least_insertions}
use Rattle.order_labels.specs.ApartLaws.{gap_at, apart_with, apart_without, less_apart, below_more, halves_apart, next_inside, next_at_end, next_before}
use Rattle.order_labels.specs.SpreadLaws.{exponent-falls, multiples-apart, spread-apart}
use Rattle.order_labels.specs.PowerLaws.{power-within, power-least, power-next, twice}
use Rattle.order_labels.specs.RareLaws.{least-number, not_both}
use Rattle.retro_dictionary.specs.declared.recent.RecentNeighbour.{RecentNeighbour}
use Rattle.retro_dictionary.specs.declared.recent.RecentNeighbour.TheVariants.{Before, After, Neither}
use Rattle.retro_dictionary.specs.Edited.{IsBetween}
use Rattle.retro_dictionary.specs.RelabellingLaw.{EndInRelabelling, RelabellingIsRare, RowEdit, label_edit, one_more}
use Rattle.retro_dictionary.specs.RelabellingLaw.RowEdit.{PutIn, TakeOut}
use Rattle.retro_dictionary.specs.RowLabels.{distance_after, distance_beside, distance_by, gap_after, gap_before, is_after_all, label_after, label_beside, owed, rounded, row_label, row_rule}
use Rattle.retro_dictionary.specs.RowLabels.{unit_after, unit_beside, unit_further}

-- a distance that is rounded
pub rounded-some : (distance : ℕ) → 0 < rounded distance
rounded-some distance = pow_pos (exponent (max distance 1))

rounded-within : (distance : ℕ) → rounded distance ≤ max distance 1
rounded-within distance = power-within (max distance 1) (omega arith)

rounded-least : (k distance : ℕ) → 2 ^ k ≤ max distance 1 → 2 ^ k ≤ rounded distance
rounded-least k distance far = power-least (max distance 1) k far

-- how far the label of a row after all others lies from the last one
further : (unit label : ℕ) → 0 < unit → (label + unit ≤ unit_further unit label) × (unit_further unit label < label + 2 * unit)
further unit label some =
    let below : (unit - label % unit) % unit < unit = mod_below (unit - label % unit) unit some in
    (omega arith, omega arith)

pub unit-some : (gap room : ℕ) → 0 < unit_after gap room
unit-some gap room = rounded-some (distance_after gap room)

pub unit-within : (gap room : ℕ) → 2 ≤ room → 2 * unit_after gap room ≤ max 2 (room / 2)
unit-within gap room some = omega (arith, rounded-within (distance_after gap room))

unit-least : (k gap room : ℕ) → 2 * 2 ^ k ≤ gap → 4 * 2 ^ k ≤ room → 2 ^ k ≤ unit_after gap room
unit-least k gap room far some = rounded-least k (distance_after gap room) (omega arith)

-- how far that of a row before others lies from those beside it
pub beside-some : (recent : RecentNeighbour) (so_far left gap right : ℕ) → 0 < unit_beside recent so_far left gap right
beside-some recent so_far left gap right = rounded-some (min (gap / 2) (max (owed so_far) (distance_by recent left gap right)))

within-half : (gap owed distance unit : ℕ) → 2 ≤ gap → unit ≤ max (min (gap / 2) (max owed distance)) 1 → 2 * unit ≤ gap
within-half gap owed distance unit some within = omega arith

pub beside-within : (recent : RecentNeighbour) (so_far left gap right : ℕ) → 2 ≤ gap → 2 * unit_beside recent so_far left gap right ≤ gap
beside-within recent so_far left gap right some =
    within-half gap (owed so_far) (distance_by recent left gap right) (unit_beside recent so_far left gap right) some
    (rounded-within (min (gap / 2) (max (owed so_far) (distance_by recent left gap right))))

at-least : (gap owed distance least : ℕ) → 2 * least ≤ gap → least ≤ owed → least ≤ max (min (gap / 2) (max owed distance)) 1
at-least gap owed distance least far some = omega arith

beside-least : (recent : RecentNeighbour) (k so_far left gap right : ℕ) → 2 * 2 ^ k ≤ gap → 2 ^ k ≤ owed so_far → 2 ^ k ≤ unit_beside recent so_far left gap right
beside-least recent k so_far left gap right far some =
    rounded-least k (min (gap / 2) (max (owed so_far) (distance_by recent left gap right))) (at-least gap (owed so_far) (distance_by recent left gap right) (2 ^ k) far some)

-- a power of two by digits that are moved
pub shifted : (k : ℕ) → k ≤ 21 → 1 * 2 ^ k % 2 ^ 64 ≡ 2 ^ k
shifted k few =
    let small : 2 ^ k ≤ 2 ^ 21 = pow-le-pow_right (omega arith) few in
    omega (arith, small)

owed-least : (k so_far : ℕ) → suc k + so_far ≤ least_insertions → 2 ^ k ≤ owed so_far
owed-least k so_far fits = pow-le-pow_right (omega arith) (omega arith)

-- it lies as far from both as that far, where the unit is no less
pub beside-apart : (recent : RecentNeighbour) (so_far left before after right distance : ℕ) → before + 2 ≤ after → before + 2 * distance ≤ after → distance ≤ unit_beside recent so_far left (after - before) right
    → (before + distance ≤ label_beside recent so_far left before after right) × (label_beside recent so_far left before after right + distance ≤ after)
beside-apart Before so_far left before after right distance some far least =
    let within : 2 * unit_beside Before so_far left (after - before) right ≤ after - before = beside-within Before so_far left (after - before) right (omega arith) in
    (omega (arith, within, least), omega (arith, within, least))
beside-apart After so_far left before after right distance some far least =
    let within : 2 * unit_beside After so_far left (after - before) right ≤ after - before = beside-within After so_far left (after - before) right (omega arith) in
    (omega (arith, within, least, far), omega (arith, within, least))
beside-apart Neither so_far left before after right distance some far least =
    let within : 2 * unit_beside Neither so_far left (after - before) right ≤ after - before = beside-within Neither so_far left (after - before) right (omega arith) in
    (omega (arith, within, least), omega (arith, within, least))

-- that of the first row leaves as much twice at the end
first-beside : (recent : RecentNeighbour) (k so_far : ℕ) → 4 * 2 ^ k ≤ label_limit → 2 ^ k ≤ 2 ^ 21 → label_beside recent so_far label_limit 0 label_limit label_limit + 2 * 2 ^ k ≤ label_limit
first-beside Before k so_far room small = omega (arith, room, beside-within Before so_far label_limit label_limit label_limit (omega arith))
first-beside After k so_far room small =
    let far : 2 ^ suc k ≤ unit_beside After so_far label_limit label_limit label_limit =
    rounded-least (suc k) (min (label_limit / 2) (max (owed so_far) (distance_beside label_limit label_limit))) (omega (arith, small, power-next k)) in
    omega (arith, far, power-next k, beside-within After so_far label_limit label_limit label_limit (omega arith))
first-beside Neither k so_far room small = omega (arith, room, beside-within Neither so_far label_limit label_limit label_limit (omega arith))

-- the labels lie 2 ^ k apart, with twice as much left at the end, and so many insertions were counted that k more are enough
abbrev pub LieApart : ℕ → List ℕ → Type 0
LieApart k labels = AreApart (2 ^ k) 0 (label_limit - 2 ^ k) labels

wide : (k : ℕ) (labels : List ℕ) → LieApart (suc k) labels → AreApart (2 * 2 ^ k) 0 (label_limit - 2 * 2 ^ k) labels
wide k labels apart = subst (λ d. AreApart d 0 (label_limit - d) labels) (power-next k) apart

-- a label that lies apart from those beside it
with_label : (distance : ℕ) (labels : List ℕ) (place label : ℕ) → place ≤ length labels → AreApart (2 * distance) 0 (label_limit - 2 * distance) labels
    → label_before 0 labels place + distance ≤ label → label + distance ≤ label_later (label_limit - distance) labels place → AreApart distance 0 (label_limit - distance) (insert labels place label)
with_label distance labels place label within apart before after =
    apart_with distance 0 (label_limit - distance) labels place label within
    (below_more distance 0 (label_limit - 2 * distance) (label_limit - distance) labels (omega arith) (less_apart (2 * distance) distance 0 (label_limit - 2 * distance) labels (omega arith) apart)) before after

has : (labels : List ℕ) (place : ℕ) → label_before 0 labels place + 2 ≤ label_later label_limit labels place → has_room labels place ≡ true
has labels place room = le-leb 2 (label_later label_limit labels place - label_before 0 labels place) (omega arith)

by_rule : (recent : RecentNeighbour) (so_far : ℕ) (labels : List ℕ) (place : ℕ)
    → label_before 0 labels place + 2 ≤ label_later label_limit labels place → row_rule recent so_far labels place ≡ Some (row_label recent so_far labels place)
by_rule recent so_far labels place room = ap (λ b. cond b (Some (row_label recent so_far labels place)) None) (has labels place room)

pub before-others : (recent : RecentNeighbour) (so_far : ℕ) (labels : List ℕ) (place : ℕ) → is_after_all labels place ≡ false
    → row_label recent so_far labels place ≡ label_beside recent so_far (gap_before labels place) (label_before 0 labels place) (label_later label_limit labels place) (gap_after labels place)
before-others recent so_far labels place is =
    ap (λ b. cond b (label_after (label_before 0 labels (place - 1)) (label_before 0 labels place))
    (label_beside recent so_far (gap_before labels place) (label_before 0 labels place) (label_later label_limit labels place) (gap_after labels place))) is

pub after-all : (recent : RecentNeighbour) (so_far : ℕ) (labels : List ℕ) (place : ℕ)
    → is_after_all labels place ≡ true → row_label recent so_far labels place ≡ label_after (label_before 0 labels (place - 1)) (label_before 0 labels place)
after-all recent so_far labels place is =
    ap (λ b. cond b (label_after (label_before 0 labels (place - 1)) (label_before 0 labels place))
    (label_beside recent so_far (gap_before labels place) (label_before 0 labels place) (label_later label_limit labels place) (gap_after labels place))) is

pub not-last : (labels : List ℕ) (place : ℕ) → place < length labels → is_after_all labels place ≡ false
not-last labels place within = simp (ne_eqb place (length labels) (λ same. omega (arith, same)))

pub last-place : (labels : List ℕ) (place : ℕ) → 0 < place → place ≡ length labels → is_after_all labels place ≡ true
last-place labels place some same = simp (lt-ltb 0 place some, eq-eqb place (length labels) same)

-- a row gets a label that lies half as far from those beside it
module _ (recent : RecentNeighbour) (k so_far : ℕ) (fits : suc k + so_far ≤ least_insertions) where
  Halves : List ℕ → ℕ → Type 0
  Halves labels place = (label : ℕ) × (row_rule recent so_far labels place ≡ Some label) × LieApart k (insert labels place label)

  inside : (labels : List ℕ) (place : ℕ) → place < length labels → LieApart (suc k) labels → Halves labels place
  unfolding Halves
  inside labels place within apart =
      let distance = 2 ^ k in
      let before = label_before 0 labels place in
      let after = label_later label_limit labels place in
      let far : before + 2 * distance ≤ after =
      omega (arith, gap_at (2 * distance) 0 (label_limit - 2 * distance) labels place (omega arith) (wide k labels apart), next_inside (label_limit - 2 * distance) label_limit labels place within) in
      let left = gap_before labels place in
      let right = gap_after labels place in
      let beside =
      beside-apart recent so_far left before after right distance (omega (arith, far, pow_pos k)) far (beside-least recent k so_far left (after - before) right (omega (arith, far)) (owed-least k so_far fits)) in
      let label = label_beside recent so_far left before after right in (
        label,
        by_rule recent so_far labels place (omega (arith, far, pow_pos k)) ∙ ap Some (before-others recent so_far labels place (not-last labels place within)),
        with_label distance labels place label (omega arith) (wide k labels apart) beside.0 (omega (arith, beside.1, next_inside (label_limit - distance) label_limit labels place within)),
      )

  first : LieApart (suc k) [] → Halves [] 0
  unfolding Halves
  first apart =
      let distance = 2 ^ k in
      let room : 4 * distance ≤ label_limit = omega (arith, wide k [] apart) in
      let beside = beside-apart recent so_far label_limit 0 label_limit label_limit distance (omega arith) (omega (arith, room))
      (beside-least recent k so_far label_limit label_limit label_limit (omega (arith, room)) (owed-least k so_far fits)) in
      let few : k ≤ 21 = omega (arith, fits, least-number) in
      let small : 2 ^ k ≤ 2 ^ 21 = pow-le-pow_right (omega arith) few in
      (label_beside recent so_far label_limit 0 label_limit label_limit, refl, (beside.0, omega (arith, first-beside recent k so_far room small)))

  at_end : (labels : List ℕ) (place : ℕ) → 0 < place → place ≡ length labels → LieApart (suc k) labels → Halves labels place
  unfolding Halves
  at_end labels place some same apart =
      let distance = 2 ^ k in
      let former = label_before 0 labels (place - 1) in
      let last = label_before 0 labels place in
      let left : last + 2 * distance ≤ label_limit - 2 * distance =
      omega (arith, gap_at (2 * distance) 0 (label_limit - 2 * distance) labels place (omega arith) (wide k labels apart), next_at_end (label_limit - 2 * distance) labels place same) in
      let next : suc (place - 1) ≡ place = omega arith in
      let far : former + 2 * distance ≤ last =
      omega (
        arith,
        gap_at (2 * distance) 0 (label_limit - 2 * distance) labels (place - 1) (omega arith) (wide k labels apart),
        next_before 0 (label_limit - 2 * distance) labels (place - 1) (omega arith),
        ap (label_before 0 labels) next,
      ) in
      let unit = unit_after (last - former) (label_limit - last) in
      let least : distance ≤ unit = unit-least k (last - former) (label_limit - last) (omega arith) (omega (arith, pow_pos k)) in
      let most : 2 * unit ≤ max 2 ((label_limit - last) / 2) = unit-within (last - former) (label_limit - last) (omega (arith, pow_pos k)) in
      let beside = further unit last (unit-some (last - former) (label_limit - last)) in (
        label_after former last,
        by_rule recent so_far labels place (omega (arith, pow_pos k, next_at_end label_limit labels place same)) ∙ ap Some (after-all recent so_far labels place (last-place labels place some same)),
        with_label distance labels place (label_after former last) (omega arith) (wide k labels apart) (omega (arith, beside.0))
            (omega (arith, beside.1, pow_pos k, next_at_end (label_limit - distance) labels place same)),
      )

  halves : (labels : List ℕ) (place : ℕ) → place ≤ length labels → LieApart (suc k) labels → Halves labels place
  halves [] zero within apart = first apart
  halves [] (suc place) within apart = absurd (omega arith)
  halves (label ∷ labels) place within apart = elim (cases_lt place (length (label ∷ labels))) [
    | inl below ↦ inside (label ∷ labels) place below apart
    | inr last ↦ at_end (label ∷ labels) place (omega arith) (omega arith) apart
  ]

-- so as many insertions as labels last for come before one that relabels
lasts : (k so_far : ℕ) (labels : List ℕ) (edits : List RowEdit) (last : RowEdit) → k + so_far ≤ least_insertions → LieApart k labels → EndInRelabelling row_rule so_far labels edits last
    → k ≤ insertions (map label_edit edits)
unfolding Halves
lasts k so_far labels [] (TakeOut place) fits apart ends = absurd ends.1
lasts zero so_far labels [] (PutIn recent place) fits apart ends = omega arith
lasts (suc k) so_far labels [] (PutIn recent place) fits apart ends = absurd (not_both (halves recent k so_far fits labels place ends.0.0 apart).1 ends.1)
lasts k so_far labels (TakeOut place ∷ edits) last fits apart ends =
    lasts k so_far (remove labels place) edits last fits (apart_without (2 ^ k) 0 (label_limit - 2 ^ k) labels place ends.0.0 apart) ends.1
lasts zero so_far labels (PutIn recent place ∷ edits) last fits apart ends = omega arith
lasts (suc k) so_far labels (PutIn recent place ∷ edits) last fits apart ends =
    let with = halves recent k so_far fits labels place ends.0.0.0 apart in
    let after = subst (λ found. EndInRelabelling row_rule (option_map_or (λ (label : ℕ). one_more so_far) found 0)
    (option_map_or (λ label. insert labels place label) found (spread (length labels + 1))) edits last) with.1 ends.1 in
    omega (arith, lasts k (one_more so_far) (insert labels place with.0) edits last (omega arith) with.2 after)

-- labels that are spread last for as many as have to be
nearer : (j k : ℕ) (labels : List ℕ) → j ≤ k → LieApart k labels → LieApart j labels
nearer j k labels order apart =
    let less : 2 ^ j ≤ 2 ^ k = pow-le-pow_right (omega arith) order in
    below_more (2 ^ j) 0 (label_limit - 2 ^ k) (label_limit - 2 ^ j) labels (omega (arith, less)) (less_apart (2 ^ k) (2 ^ j) 0 (label_limit - 2 ^ k) labels less apart)

wider : (count : ℕ) → least_insertions < exponent (label_limit / (count + 1)) → count + 1 ≤ label_limit → LieApart least_insertions (spread count)
unfolding gap_of
wider count more few =
    let k = exponent (label_limit / (count + 1)) in
    nearer least_insertions (k - 1) (spread count) (omega arith)
    (halves_apart (2 ^ (k - 1)) 0 label_limit (spread count) (subst (λ gap. AreApart gap 0 label_limit (spread count)) (twice k (omega arith)) (spread-apart count few)))

-- those of a full dictionary leave half of all numbers at the end
widest : (count : ℕ) → count ≤ most_rows → exponent (label_limit / (count + 1)) ≡ least_insertions → LieApart least_insertions (spread count)
unfolding gap_of
widest count few same =
    let gap : gap_of count ≡ 2 ^ least_insertions = ap (λ k. 2 ^ k) same in
    let apart : AreApart (gap_of count) 0 (label_limit - gap_of count) (spread count) = multiples-apart (gap_of count) count (label_limit - gap_of count) (rw (gap, least-number) (omega arith)) in
    subst (λ k. AreApart (2 ^ k) 0 (label_limit - 2 ^ k) (spread count)) same apart

spread-lasts : (count : ℕ) → count ≤ most_rows → LieApart least_insertions (spread count)
spread-lasts count few = elim (cases_lt least_insertions (exponent (label_limit / (count + 1)))) [
  | inl more ↦ wider count more (omega arith)
  | inr same ↦ widest count few (omega (arith, exponent-falls count most_rows few))
]

pub rare : RelabellingIsRare row_rule
rare count edits last few ends = lasts least_insertions 0 (spread count) edits last (omega arith) (spread-lasts count few) ends

-- labels rise
pub former-below : (labels : List ℕ) (place : ℕ) → place ≤ length labels → AreApart 1 0 label_limit labels → label_before 0 labels (place - 1) ≤ label_before 0 labels place
former-below labels zero within apart = omega arith
former-below labels (suc place) within apart =
    let less : place ≡ suc place - 1 = omega arith in
    omega (arith, gap_at 1 0 label_limit labels place (omega arith) apart, next_before 0 label_limit labels place within, ap (label_before 0 labels) less)

pub later-above : (first : ℕ) (labels : List ℕ) (place : ℕ) → AreApart 1 first label_limit labels → label_later label_limit labels place ≤ label_later label_limit labels (suc place)
later-above first [] place apart = omega arith
later-above first (label ∷ []) zero apart = omega (arith, apart.1)
later-above first (label ∷ next ∷ labels) zero apart = omega (arith, apart.1.0)
later-above first (label ∷ labels) (suc place) apart = later-above label labels place apart.1

-- the label of a row lies between those beside its place
pub after-between : (labels : List ℕ) (place : ℕ) → place ≡ length labels → label_before 0 labels place + 2 ≤ label_limit
    → IsBetween labels place (label_after (label_before 0 labels (place - 1)) (label_before 0 labels place))
after-between labels place same room =
    let last = label_before 0 labels place in
    let gap = last - label_before 0 labels (place - 1) in
    let beside = further (unit_after gap (label_limit - last)) last (unit-some gap (label_limit - last)) in
    let most = unit-within gap (label_limit - last) (omega arith) in
    record { before = omega (arith, beside.0, unit-some gap (label_limit - last)); after_it = omega (arith, beside.1, most, next_at_end label_limit labels place same) }

pub beside-between : (recent : RecentNeighbour) (so_far left before after right label : ℕ) (labels : List ℕ) (place : ℕ) → before ≡ label_before 0 labels place → after ≡ label_later label_limit labels place → before + 2 ≤ after
    → label ≡ label_beside recent so_far left before after right → IsBetween labels place label
beside-between recent so_far left before after right label labels place first last room is =
    let beside = beside-apart recent so_far left before after right 1 room (omega arith) (beside-some recent so_far left (after - before) right) in
    record { before = omega (arith, beside.0, first, is); after_it = omega (arith, beside.1, last, is) }
