-- The pairs whose keys lie in a range stand side by side.
use Rattle.std.proofs.Common.{◌≡◌, ℕ, zero, suc, ◌+◌, ◌-◌, ◌<◌, ◌≤◌, ◌≤ℤ◌, ℤ, Bool, true, false, not, ◌&&◌, cond, Some, List, [], ◌∷◌, ◌++◌, length, take, drop, slice_get, refl, sym, ap, ◌∙◌, arith, subst, inl, inr}
use Rattle.std.specs.Prelude.{int_le}
use Rattle.std.specs.List.{AllByRecursion, filter, slice_range}
use Rattle.std.proofs.lemmas.Bool.{cases_lt}
use Rattle.std.proofs.lemmas.Int.{ints}
use Rattle.std.proofs.lemmas.List.{take-take, take-append-drop, drop-take}
use Rattle.std.proofs.lemmas.List.Elements.{filter-append}
use Rattle.std.proofs.lemmas.Option.{slice_get_within}
use Rattle.lifetime_segments.specs.Lawful.{AnswerTogether, IsAnswer, most_items}
use Rattle.lifetime_segments.specs.Ordered.{AreInOrder}
use Rattle.retro_base.specs.Answers.{pairs_between}
use Rattle.retro_base.specs.OrderLaws.{all_weaker, all_at}
use Rattle.weighted_tree.specs.Partitioned.{IsPartitioned}
use Rattle.retro_dictionary.specs.declared.pairs.Found.{Found}
use Rattle.retro_dictionary.specs.declared.pairs.KeyRange.{KeyRange}
use Rattle.retro_dictionary.specs.declared.search.Bound.{Bound}
use Rattle.retro_dictionary.specs.declared.search.Bound.TheVariants.{Below, UpTo}
use Rattle.retro_dictionary.specs.PairSearch.{pair_before, found_in, found_together, none_found}
use Rattle.retro_dictionary.specs.PairSearchLaws.{pair_laws}
use Rattle.retro_dictionary.specs.Asked.{IsNumber}
use Rattle.retro_dictionary.specs.Bounds.{reaches, StandUpTo, FailsAt, HasNumber}
use Rattle.retro_dictionary.proofs.MeasuredPairs.{all_taken}
use Rattle.retro_base.specs.Facts.{get_drop}
use Rattle.retro_dictionary.proofs.Answered.{filter-le}

module _ {A : Type 0} (test : A → Bool) where
  none_pass : (xs : List A) → AllByRecursion (λ x. test x ≡ false) xs → filter test xs ≡ []
  none_pass [] all = refl
  none_pass (x ∷ xs) all = ap (λ b. cond b (x ∷ filter test xs) (filter test xs)) all.0 ∙ none_pass xs all.1

  all_pass : (xs : List A) → AllByRecursion (λ x. test x ≡ true) xs → filter test xs ≡ xs
  all_pass [] all = refl
  all_pass (x ∷ xs) all = ap (λ b. cond b (x ∷ filter test xs) (filter test xs)) all.0 ∙ ap (λ ys. x ∷ ys) (all_pass xs all.1)

  filter_passes : (xs : List A) → AllByRecursion (λ x. test x ≡ true) (filter test xs)
  filter_passes [] = tt
  filter_passes (x ∷ xs) = elim (test x) as (λ b. test x ≡ b → AllByRecursion (λ y. test y ≡ true) (cond b (x ∷ filter test xs) (filter test xs))) [
    | true ↦ λ passing. (passing, filter_passes xs)
    | false ↦ λ failing. filter_passes xs
  ] refl

-- after a pair past a bound all are past it
further : (bound : Bound) (p q : ℤ × ℤ) → pair_before q p ≡ false → reaches bound p ≡ false → reaches bound q ≡ false
further (Below key) p q order past = grind (arith, ints)
further (UpTo key) p q order past = grind (arith, ints)

pub reaches-falls : (bound : Bound) (ps : List (ℤ × ℤ)) → AreInOrder pair_before ps → IsPartitioned (reaches bound) ps
reaches-falls bound [] ordered = tt
reaches-falls bound (p ∷ ps) ordered =
    (λ past. all_weaker (λ (q : ℤ × ℤ). pair_before q p ≡ false) (λ (q : ℤ × ℤ). reaches bound q ≡ false) ps (λ q after. further bound p q after past) ordered.0, reaches-falls bound ps ordered.1)

-- after an element that fails a test all fail it
fails_from : {A : Type 0} (test : A → Bool) (xs : List A) (place : ℕ) → IsPartitioned test xs → FailsAt test xs place → AllByRecursion (λ x. test x ≡ false) (drop place xs)
fails_from test [] zero parted fails = tt
fails_from test [] (suc place) parted fails = tt
fails_from test (x ∷ xs) zero parted fails = let failing : test x ≡ false = fails x refl in (failing, parted.0 failing)
fails_from test (x ∷ xs) (suc place) parted fails = fails_from test xs place parted.1 fails

module _ (bound : Bound) where
  -- where pairs up to a bound end is seen by the pair after them, and where there is one, by the last of them
  pub none_up_to : (ps : List (ℤ × ℤ)) → AreInOrder pair_before ps → FailsAt (reaches bound) ps 0 → StandUpTo bound ps 0
  none_up_to ps ordered fails =
      let all = fails_from (reaches bound) ps 0 (reaches-falls bound ps ordered) fails in
      record {
        front = sym (none_pass (reaches bound) ps all);
        back = sym (all_pass (λ pair. not (reaches bound pair)) ps (all_weaker (λ pair. reaches bound pair ≡ false) (λ pair. not (reaches bound pair) ≡ true) ps (λ pair failing. ap not failing) all));
      }

  one_more : (p : ℤ × ℤ) (ps : List (ℤ × ℤ)) (count : ℕ) → reaches bound p ≡ true → StandUpTo bound ps count → StandUpTo bound (p ∷ ps) (suc count)
  one_more p ps count passing rest = record { front = rw passing (ap (λ qs. p ∷ qs) rest.front); back = rw passing rest.back }

  pub some_up_to : (ps : List (ℤ × ℤ)) (place : ℕ) (last : ℤ × ℤ) → AreInOrder pair_before ps → slice_get ps place ≡ Some last → reaches bound last ≡ true
      → FailsAt (reaches bound) ps (suc place) → StandUpTo bound ps (suc place)
  some_up_to [] place last ordered there passing fails = absurd (cc)
  some_up_to (p ∷ ps) zero last ordered there passing fails =
      let same : p ≡ last = cc in
      one_more p ps 0 (ap (reaches bound) same ∙ passing) (none_up_to ps ordered.1 fails)
  some_up_to (p ∷ ps) (suc place) last ordered there passing fails =
      let first : reaches bound p ≡ true = elim (reaches bound p) as (λ b. reaches bound p ≡ b → b ≡ true) [
        | true ↦ λ _. refl
        | false ↦ λ failing. sym (all_at (λ q. reaches bound q ≡ false) ps place last ((reaches-falls bound (p ∷ ps) ordered).0 failing) there) ∙ passing
      ] refl in
      one_more p ps (suc place) first (some_up_to ps place last ordered.1 there passing fails)

  -- all do where the last one does
  pub all_up_to : (ps : List (ℤ × ℤ)) (place : ℕ) (last : ℤ × ℤ) → AreInOrder pair_before ps → slice_get ps place ≡ Some last → length ps ≡ suc place → reaches bound last ≡ true
      → StandUpTo bound ps (length ps)
  all_up_to ps place last ordered there long passing =
      subst (StandUpTo bound ps) (sym long) (some_up_to ps place last ordered there passing (λ pair past. absurd (omega (arith, long, slice_get_within ps (suc place) pair past))))

  -- a pair up to a bound stands before that place
  pub before_end : (ps : List (ℤ × ℤ)) (count place : ℕ) (pair : ℤ × ℤ) → StandUpTo bound ps count → slice_get ps place ≡ Some pair → reaches bound pair ≡ true → place < count
  before_end ps count place pair ends there passing = elim (cases_lt place count) [
    | inl before ↦ before
    | inr past ↦
        let here : slice_get (drop count ps) (place - count) ≡ Some pair =
        get_drop ps count (place - count) ∙ ap (slice_get ps) (let sum : count + (place - count) ≡ place = omega arith in sum) ∙ there in
        let failing : not (reaches bound pair) ≡ true = all_at (λ p. not (reaches bound p) ≡ true) (drop count ps) (place - count) pair
        (subst (AllByRecursion (λ p. not (reaches bound p) ≡ true)) (sym ends.back) (filter_passes (λ p. not (reaches bound p)) ps)) here in
        absurd (let never : false ≡ true = ap not (sym passing) ∙ failing in cc)
  ]

filter_both : {A : Type 0} (test other : A → Bool) (xs : List A) → filter (λ x. test x && other x) xs ≡ filter test (filter other xs)
filter_both test other [] = refl
filter_both test other (x ∷ xs) = elim (other x) as (λ b. cond (test x && b) (x ∷ filter (λ y. test y && other y) xs) (filter (λ y. test y && other y) xs) ≡ filter test (cond b (x ∷ filter other xs) (filter other xs))) [
  | true ↦ elim (test x) as (λ b. cond (b && true) (x ∷ filter (λ y. test y && other y) xs) (filter (λ y. test y && other y) xs) ≡ cond b (x ∷ filter test (filter other xs)) (filter test (filter other xs))) [
    | true ↦ ap (λ ys. x ∷ ys) (filter_both test other xs)
    | false ↦ filter_both test other xs
  ]
  | false ↦ elim (test x) as (λ b. cond (b && false) (x ∷ filter (λ y. test y && other y) xs) (filter (λ y. test y && other y) xs) ≡ filter test (filter other xs)) [
    | true ↦ filter_both test other xs
    | false ↦ filter_both test other xs
  ]
]

and-false : (b : Bool) → (b && false) ≡ false
and-false true = refl
and-false false = refl

module _ (items : List (ℤ × ℤ)) (low high : ℤ) (from : ℕ) (begins : StandUpTo (Below low) items from) where
  abbrev from_low : ℤ × ℤ → Bool
  from_low pair = int_le low pair.0

  abbrev inside : ℤ × ℤ → Bool
  inside pair = int_le low pair.0 && int_le pair.0 high

  is_below : (pair : ℤ × ℤ) → reaches (Below low) pair ≡ true → from_low pair ≡ false
  is_below pair below = grind (arith, ints)

  is_from : (pair : ℤ × ℤ) → not (reaches (Below low) pair) ≡ true → from_low pair ≡ true
  is_from pair above = grind (arith, ints)

  all_below : AllByRecursion (λ (pair : ℤ × ℤ). from_low pair ≡ false) (take from items)
  all_below = subst (AllByRecursion (λ (pair : ℤ × ℤ). from_low pair ≡ false)) (sym begins.front)
      (all_weaker (λ (pair : ℤ × ℤ). reaches (Below low) pair ≡ true) (λ (pair : ℤ × ℤ). from_low pair ≡ false) (filter (reaches (Below low)) items) is_below
      (filter_passes (reaches (Below low)) items))

  all_from : AllByRecursion (λ (pair : ℤ × ℤ). from_low pair ≡ true) (drop from items)
  all_from = subst (AllByRecursion (λ (pair : ℤ × ℤ). from_low pair ≡ true)) (sym begins.back)
      (all_weaker (λ (pair : ℤ × ℤ). not (reaches (Below low) pair) ≡ true) (λ (pair : ℤ × ℤ). from_low pair ≡ true)
      (filter (λ (pair : ℤ × ℤ). not (reaches (Below low) pair)) items) is_from (filter_passes (λ (pair : ℤ × ℤ). not (reaches (Below low) pair)) items))

  -- none lies there where the first one from the lower end on is beyond the upper end
  pub none-inside : AreInOrder pair_before items → FailsAt (reaches (UpTo high)) items from → pairs_between low high items ≡ []
  none-inside ordered fails =
      let before : AllByRecursion (λ (pair : ℤ × ℤ). inside pair ≡ false) (take from items) =
      all_weaker (λ (pair : ℤ × ℤ). from_low pair ≡ false) (λ (pair : ℤ × ℤ). inside pair ≡ false) (take from items) (λ pair below. ap (λ b. b && int_le pair.0 high) below) all_below in
      let after : AllByRecursion (λ (pair : ℤ × ℤ). inside pair ≡ false) (drop from items) =
      all_weaker (λ (pair : ℤ × ℤ). reaches (UpTo high) pair ≡ false) (λ (pair : ℤ × ℤ). inside pair ≡ false) (drop from items)
      (λ pair past. ap (λ b. from_low pair && b) past ∙ and-false (from_low pair)) (fails_from (reaches (UpTo high)) items from (reaches-falls (UpTo high) items ordered) fails) in
      ap (filter inside) (sym (take-append-drop from items)) ∙ filter-append inside (take from items) (drop from items)
      ∙ ap (λ xs. xs ++ filter inside (drop from items)) (none_pass inside (take from items) before) ∙ none_pass inside (drop from items) after

  module _ (to : ℕ) (ends : StandUpTo (UpTo high) items to) (order : from ≤ to) where
    parts : take to items ≡ take from items ++ take (to - from) (drop from items)
    parts =
        sym (take-append-drop from (take to items)) ∙ ap (λ xs. xs ++ drop from (take to items)) (take-take from to items order)
        ∙ ap (λ n. take from items ++ drop from (take n items)) (let sum : to ≡ from + (to - from) = omega arith in sum) ∙ ap (λ xs. take from items ++ xs) (drop-take from (to - from) items)

    pub slice-inside : slice_range items from to ≡ pairs_between low high items
    slice-inside =
        sym (filter_both from_low (reaches (UpTo high)) items ∙ ap (filter from_low) (sym ends.front ∙ parts) ∙ filter-append from_low (take from items) (take (to - from) (drop from items))
        ∙ ap (λ xs. xs ++ filter from_low (take (to - from) (drop from items))) (none_pass from_low (take from items) all_below)
        ∙ all_pass from_low (take (to - from) (drop from items)) (all_taken (λ (pair : ℤ × ℤ). from_low pair ≡ true) (drop from items) (to - from) all_from))

-- a key that is not below another, and one that is not above it
pub not_below : (key : ℤ) (pair : ℤ × ℤ) → key ≤ℤ pair.0 → reaches (Below key) pair ≡ false
not_below key pair order = grind (arith, ints)

pub not_above : (key : ℤ) (pair : ℤ × ℤ) → pair.0 ≤ℤ key → reaches (UpTo key) pair ≡ true
not_above key pair order = grind (arith, ints)

-- a pair whose key is a number tells that of its place
pub number_at : (ps : List (ℤ × ℤ)) (place : ℕ) (pair : ℤ × ℤ) → slice_get ps place ≡ Some pair → IsNumber pair.0 → HasNumber ps place
number_at ps place pair there is other found =
    let same : pair ≡ other = some_same pair other (sym there ∙ found) in
    subst (λ (p : ℤ × ℤ). IsNumber p.0) same is where
      some_same : (p q : ℤ × ℤ) → Some p ≡ Some q → p ≡ q
      some_same p q equal = cc

-- no more pairs lie in a range than there are
pub counts-fit : (first second : Found) → AnswerTogether pair_before found_in first second → first.count + second.count ≤ most_items
counts-fit first second both =
    omega (
      arith,
      ap (λ (f : Found). f.count) both.first_is,
      ap (λ (f : Found). f.count) both.second_is,
      both.lawful.few,
      filter-le (λ (pair : ℤ × ℤ). int_le both.query.low pair.0 && int_le pair.0 both.query.high) both.first_items,
      filter-le (λ (pair : ℤ × ℤ). int_le both.query.low pair.0 && int_le pair.0 both.query.high) both.second_items,
    )

-- a pair in which nothing is found adds nothing to an answer
pub nothing_more : (part : Found) (pair : ℤ × ℤ) (range : KeyRange) → IsAnswer pair_before found_in range part → none_found ≡ found_in (pair ∷ []) range → part ≡ found_together part (found_in (pair ∷ []) range)
nothing_more part pair range is nothing =
    is.answers
    ∙ sym (pair_laws.right_unit is.items range (record { ordered = is.ordered; few = omega (arith, is.room) }))
    ∙ ap (λ found. found_together found none_found) (sym is.answers)
    ∙ ap (found_together part) nothing
