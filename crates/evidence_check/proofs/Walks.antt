-- A walk over parts that follow one another: what holds of the rows passed, after one part more.
use Rattle.std.proofs.Common.{◌≡◌, ℕ, zero, suc, ◌+◌, ◌-◌, ◌<◌, ◌≤◌, ℤ, pos, w32, SFits, to_z, of_z, Bool, true, false, cond, List, [], ◌∷◌, ◌++◌, length, take, drop, get_or, refl, sym, ap, ◌∙◌, arith, inl, inr, Option, Some, None}
use Rattle.std.proofs.Common.{append_assoc, length-append}
use Rattle.std.specs.Prelude.{◌+ℤ◌, ◌-ℤ◌, ◌≤ℤ◌, slice_get}
use Rattle.std.specs.List.{flat_map}
use Rattle.std.specs.Option.{option_and_then}
use Rattle.std.proofs.lemmas.Bool.{cases_lt}
use Rattle.std.proofs.lemmas.Int.{ints, to_z-of_z}
use Rattle.std.proofs.lemmas.Option.{slice_get_read}
use Rattle.retro_base.specs.declared.row.Entry.{Entry}
use Rattle.retro_base.specs.Limits.{most_rows}
use Rattle.retro_base.specs.lemmas.bridges.EntryOrder.{same_entry-same, same_entry-refl}
use Rattle.evidence_check.specs.declared.weighed_row.WeighedRow.{WeighedRow}
use Rattle.evidence_check.specs.declared.sums.Sums.{Sums}
use Rattle.retro_base.specs.Better.{comes_after, better_of}
use Rattle.evidence_check.specs.Marks.{alive_entry, dead_entry, greatest_dead, least_alive}
use Rattle.retro_base.specs.lemmas.bridges.Best.{better_none}
use Rattle.retro_base.specs.State.{comes_before}
use Rattle.evidence_check.specs.Sought.{beaten_in, best_beside, shown_by}
use Rattle.evidence_check.specs.declared.better.Sought.{Sought}
use Rattle.evidence_check.specs.declared.better.Sought.TheVariants.{Dead, Alive}
use Rattle.evidence_check.specs.Parts.{is_entry, shows_at}
use Rattle.evidence_check.specs.Sums.{HasRoom, joined, sum_of, sums_of}
use Rattle.evidence_check.specs.Zeros.{HasNoZero, IsFirstZero, IsLastZero, IsZero}
use Rattle.evidence_check.proofs.Flat.{drop-join, flat_around, flat_next, get_first, get_second, take-join}
use Rattle.evidence_check.proofs.SumsJoined.{alive-join, dead-join, sum-down, sum-join, sum-up, sums-join}
use Rattle.evidence_check.proofs.Stored.{stored_add, stored_less, sum_fits, within_fits}
use Rattle.evidence_check.proofs.Zeros.{NoneAfter, NoneBefore, few_of, first_zero, none_joined, second_zero, zero_first, zero_second}

-- which entry is found
pub found_is : (found : Option Entry) (entry : Entry) → is_entry found entry ≡ true → found ≡ Some entry
found_is None entry is = absurd (let wrong : false ≡ true = is in cc)
found_is (Some other) entry is = ap Some (same_entry-same other entry is)

pub entry_found : (found : Option Entry) (entry : Entry) → found ≡ Some entry → is_entry found entry ≡ true
entry_found found entry is = rw is (same_entry-refl entry)

neither : (beaten : Entry → Entry → Bool) (a b : Option Entry) (entry : Entry) → is_entry a entry ≡ false → is_entry b entry ≡ false → is_entry (better_of beaten a b) entry ≡ false
neither beaten a None entry first second = first
neither beaten None (Some b) entry first second = second
neither beaten (Some a) (Some b) entry first second = elim (beaten a b) as (λ t. is_entry (Some (cond t b a)) entry ≡ false) [ true ↦ second | false ↦ first ]

pub shown_within : (shown : WeighedRow → Option Entry) (rows : List WeighedRow) (place : ℕ) (entry : Entry) → shows_at shown rows place ≡ Some entry → place < length rows
shown_within shown [] place entry is = absurd (cc)
shown_within shown (first ∷ others) zero entry is = omega arith
shown_within shown (first ∷ others) (suc place) entry is = let rest = shown_within shown others place entry is in omega (arith, rest)

-- the best entry beside a place, of no rows, and of some and others
pub best_of_none : (sought : Sought) (place : ℕ) → None ≡ best_beside sought place []
best_of_none Dead zero = refl
best_of_none Dead (suc place) = refl
best_of_none Alive zero = refl
best_of_none Alive (suc place) = refl

-- and of one row that shows it
pub best_here : (sought : Sought) (place : ℕ) (row : WeighedRow) (entry : Entry) → best_beside sought place (row ∷ []) ≡ Some entry → shown_by sought row ≡ Some entry
best_here Dead zero row entry is = sym (better_none comes_before (dead_entry row)) ∙ is
best_here Dead (suc zero) row entry is = absurd (cc)
best_here Dead (suc (suc place)) row entry is = absurd (cc)
best_here Alive zero row entry is = absurd (cc)
best_here Alive (suc zero) row entry is = sym (better_none comes_after (alive_entry row)) ∙ is
best_here Alive (suc (suc place)) row entry is = sym (better_none comes_after (alive_entry row)) ∙ is

best_joined : (sought : Sought) (place : ℕ) (xs ys : List WeighedRow)
    → best_beside sought place (xs ++ ys) ≡ better_of (beaten_in sought) (best_beside sought place xs) (best_beside sought (place - length xs) ys)
best_joined Dead place xs ys = ap greatest_dead (drop-join place xs ys) ∙ dead-join (drop place xs) (drop (place - length xs) ys)
best_joined Alive place xs ys = ap least_alive (take-join place xs ys) ∙ alive-join (take place xs) (take (place - length xs) ys)

-- sums of weights as they are stored, with those of one part more, and with those of one part fewer
abbrev pub stored_on : ℤ → ℤ → ℤ
stored_on sum part = sum +ℤ to_z w32 (of_z w32 part)

abbrev pub stored_back : ℤ → ℤ → ℤ
stored_back sum part = sum -ℤ to_z w32 (of_z w32 part)

-- a part back: the sum and the rows before it
pub record IsBack (before : ℤ) (first rows : List WeighedRow) (passed : ℕ) (sum : ℤ) (last : Sums) : Type 0 where
  pub fits : SFits w32 (stored_back sum last.sum)
  pub weights : to_z w32 (of_z w32 (stored_back sum last.sum)) ≡ before +ℤ sum_of first
  pub count : passed - last.rows ≡ length first
  pub after : passed ≡ (passed - last.rows) + length rows

module _ {P : Type 0} (f : P → List WeighedRow) (parts : List P) (index : ℕ) (part : P) (within : index < length parts) (is : part ≡ get_or parts index part) where
  abbrev first : List WeighedRow
  first = flat_map f (take index parts)

  abbrev rest : List WeighedRow
  rest = flat_map f (drop (suc index) parts)

  pub there : slice_get parts index ≡ Some part
  there = slice_get_read parts (length parts) index part refl within is

  pub around : flat_map f parts ≡ first ++ (f part ++ rest)
  around = flat_around f parts index part there

  pub next : flat_map f (take (index + 1) parts) ≡ first ++ f part
  next = ap (λ n. flat_map f (take n parts)) (let one : index + 1 ≡ suc index = omega arith in one) ∙ flat_next f parts index part there

  around_whole : flat_map f parts ≡ (first ++ f part) ++ rest
  around_whole = around ∙ sym (append_assoc first (f part) rest)

  pub fits : length first + length (f part) ≤ length (flat_map f parts)
  fits =
      let whole : length (flat_map f parts) ≡ length first + (length (f part) + length rest) =
      ap length around ∙ length-append first (f part ++ rest) ∙ ap (λ n. length first + n) (length-append (f part) rest) in
      omega (arith, whole)

  pub small : (most : ℕ) → length (flat_map f parts) ≤ most → length (f part) ≤ most
  small most few = let less = fits in omega (arith, less, few)

  pub passed_next : (passed n : ℕ) → passed ≡ length first → n ≡ length (f part) → passed + n ≡ length (flat_map f (take (index + 1) parts))
  passed_next passed n long is_n = let whole : length (flat_map f (take (index + 1) parts)) ≡ length first + length (f part) = ap length next ∙ length-append first (f part) in omega (arith, whole)

  pub sums_next : (sums other : Sums) → sums ≡ sums_of first → other ≡ sums_of (f part) → joined sums other ≡ sums_of (flat_map f (take (index + 1) parts))
  sums_next sums other of_first of_part =
      ap (λ s. joined s other) of_first ∙ ap (joined (sums_of first)) of_part ∙ sym (sums-join first (f part)) ∙ ap sums_of (sym next)

  pub best_next : (sought : Sought) (place left : ℕ) (best found : Option Entry) → left ≡ place - length first → best ≡ best_beside sought place first
      → found ≡ best_beside sought left (f part) → better_of (beaten_in sought) best found ≡ best_beside sought place (flat_map f (take (index + 1) parts))
  best_next sought place left best found is_left is_best is_found =
      ap (λ o. better_of (beaten_in sought) o found) is_best
      ∙ ap (better_of (beaten_in sought) (best_beside sought place first)) (is_found ∙ ap (λ n. best_beside sought n (f part)) is_left)
      ∙ sym (best_joined sought place first (f part)) ∙ ap (best_beside sought place) (sym next)

  pub none_next_best : (sought : Sought) (place left : ℕ) (entry : Entry) (found : Option Entry) → left ≡ place - length first → is_entry (best_beside sought place first) entry ≡ false
      → found ≡ best_beside sought left (f part) → is_entry found entry ≡ false → is_entry (best_beside sought place (flat_map f (take (index + 1) parts))) entry ≡ false
  none_next_best sought place left entry found is_left before is_found other =
      ap (λ o. is_entry o entry) (sym (best_next sought place left (best_beside sought place first) found is_left refl is_found))
      ∙ neither (beaten_in sought) (best_beside sought place first) found entry before other

  pub left_next : (place left n : ℕ) → left ≡ place - length first → n ≡ length (f part) → left - n ≡ place - length (flat_map f (take (index + 1) parts))
  left_next place left n is_left is_n = let passed = passed_next (length first) n refl is_n in omega (arith, passed)

  -- what a part shows
  pub shown_there : (shown : WeighedRow → Option Entry) (passed place : ℕ) (entry : Entry) → passed ≡ length first → shows_at shown (f part) place ≡ Some entry
      → shows_at shown (flat_map f parts) (passed + place) ≡ Some entry
  shown_there shown passed place entry long shows =
      ap (λ l. shows_at shown l (passed + place)) around ∙ ap (λ n. shows_at shown (first ++ (f part ++ rest)) (n + place)) long
      ∙ ap (option_and_then shown) (get_second first (f part ++ rest) place ∙ get_first (f part) rest place (shown_within shown (f part) place entry shows)) ∙ shows

  pub row_there : (place passed : ℕ) → passed ≡ length first → passed ≤ place → place < passed + length (f part) → slice_get (f part) (place - passed) ≡ slice_get (flat_map f parts) place
  row_there place passed long from to =
      let place_is : place ≡ length first + (place - passed) = omega (arith, long) in
      sym (ap (λ l. slice_get l place) around ∙ ap (slice_get (first ++ (f part ++ rest))) place_is
      ∙ get_second first (f part ++ rest) (place - passed) ∙ get_first (f part) rest (place - passed) (omega arith))

  -- one part back
  pub rows_back : (after n : ℕ) → after ≡ length (flat_map f (take (index + 1) parts)) → n ≡ length (f part) → (after - n ≡ length first) × (after ≡ (after - n) + length (f part))
  rows_back after n long is_n =
      let whole : after ≡ length first + length (f part) = long ∙ ap length next ∙ length-append first (f part) in
      (omega (arith, whole, is_n), omega (arith, whole, is_n))

  pub weights_back : (before after s : ℤ) → after ≡ before +ℤ sum_of (flat_map f (take (index + 1) parts)) → s ≡ sum_of (f part) → (after -ℤ s) ≡ before +ℤ sum_of first
  weights_back before after s whole is_s = back before after s (sum_of first) (sum_of (f part)) (whole ∙ ap (λ l. before +ℤ sum_of l) next ∙ ap (λ t. before +ℤ t) (sum-join first (f part))) is_s
    where
      back : (b a s t w : ℤ) → a ≡ b +ℤ (t +ℤ w) → s ≡ w → (a -ℤ s) ≡ b +ℤ t
      back b a s t w whole is_s = omega (arith, ints)

  module _ (before : ℤ) (room : HasRoom before (length (flat_map f parts))) (sum : ℤ) (weights : sum ≡ before +ℤ sum_of first) where
    pub room_there : HasRoom sum (length (f part))
    room_there = record {
      up = above before (sum_of first) sum (length first) (length (f part)) (length (flat_map f parts)) weights (sum-up first) fits room.up;
      down = below before (sum_of first) sum (length first) (length (f part)) (length (flat_map f parts)) weights (sum-down first) fits room.down;
    }
      where
        above : (b s t : ℤ) (n m k : ℕ) → t ≡ b +ℤ s → s ≤ℤ pos n → n + m ≤ k → (b +ℤ pos k) ≤ℤ pos most_rows → (t +ℤ pos m) ≤ℤ pos most_rows
        above b s t n m k whole most less up = omega (arith, ints)

        below : (b s t : ℤ) (n m k : ℕ) → t ≡ b +ℤ s → pos 0 ≤ℤ (s +ℤ pos n) → n + m ≤ k → pos k ≤ℤ (b +ℤ pos most_rows) → pos m ≤ℤ (t +ℤ pos most_rows)
        below b s t n m k whole most less down = omega (arith, ints)

    -- the sum after the part is small
    pub next_fits : (s : ℤ) → s ≡ sum_of (f part) → SFits w32 (sum +ℤ s)
    next_fits s is_s = bounded sum s (sum_of (f part)) (length (f part)) is_s (sum-up (f part)) (sum-down (f part)) room_there.up room_there.down
      where
        bounded : (t s w : ℤ) (n : ℕ) → s ≡ w → w ≤ℤ pos n → pos 0 ≤ℤ (w +ℤ pos n) → (t +ℤ pos n) ≤ℤ pos most_rows → pos n ≤ℤ (t +ℤ pos most_rows) → SFits w32 (t +ℤ s)
        bounded t s w n is most least up down = within_fits (t +ℤ s) (omega (arith, ints)) (omega (arith, ints))

    pub here_fits : SFits w32 sum
    here_fits = bounded sum (length (f part)) room_there.up room_there.down
      where
        bounded : (t : ℤ) (n : ℕ) → (t +ℤ pos n) ≤ℤ pos most_rows → pos n ≤ℤ (t +ℤ pos most_rows) → SFits w32 t
        bounded t n up down = within_fits t (omega (arith, ints)) (omega (arith, ints))

    -- the walk on
    none_wide : (from to : ℕ) → HasNoZero before first from (length first) → HasNoZero before first from to
    none_wide from to none place one up down inside = none place one up inside inside

    second_wide : (from passed to : ℕ) → passed ≡ length first → HasNoZero sum (f part) (from - passed) to → (bound : ℕ) → bound - length first ≤ to
        → HasNoZero (before +ℤ sum_of first) (f part) (from - length first) (bound - length first)
    second_wide from passed to long none bound less place one up down inside zeroes =
        none place one (omega (arith, long, up)) (omega (arith, down, less)) inside (ap (λ n. n +ℤ sum_of (take place (f part))) weights ∙ zeroes)

    pub none_next : (from passed found n : ℕ) (s t : ℤ) → NoneBefore before first from passed sum → found ≡ 0 → IsFirstZero sum (f part) (from - passed) found → n ≡ length (f part)
        → s ≡ sum_of (f part) → t ≡ sum +ℤ s → NoneBefore before (flat_map f (take (index + 1) parts)) from (passed + n) t
    none_next from passed found n s t so_far zeroes here is_n is_s is_t = record {
      rows = passed_next passed n so_far.rows is_n;
      weights =
          is_t ∙ ap (λ t. t +ℤ s) weights ∙ ap (λ t. (before +ℤ sum_of first) +ℤ t) is_s ∙ moved before (sum_of first) (sum_of (f part))
          ∙ ap (λ t. before +ℤ t) (sym (ap sum_of next ∙ sum-join first (f part)));
      none = rw next
          (none_joined before first (f part) from (length (first ++ f part)) (none_wide from (length (first ++ f part)) so_far.none)
          (second_wide from passed (length (f part)) so_far.rows (here.none zeroes) (length (first ++ f part)) (omega (arith, length-append first (f part)))));
    }
      where
        moved : (a b c : ℤ) → ((a +ℤ b) +ℤ c) ≡ (a +ℤ (b +ℤ c))
        moved a b c = omega (arith, ints)

    -- a place in the part is one in the whole, and the other way round
    zero_there : (passed k : ℕ) → passed ≡ length first → k ≤ length (f part) → IsZero sum (f part) k → IsZero before (flat_map f parts) (passed + k)
    zero_there passed k long inside zeroes =
        let second : IsZero before (first ++ f part) (length first + k) =
        zero_second before first (f part) k (ap (λ n. n +ℤ sum_of (take k (f part))) (sym weights) ∙ zeroes) in
        let whole : IsZero before ((first ++ f part) ++ rest) (length first + k) =
        zero_first before (first ++ f part) rest (length first + k) (omega (arith, length-append first (f part))) second in
        ap (λ n. before +ℤ sum_of (take (n + k) (flat_map f parts))) long ∙ ap (λ l. before +ℤ sum_of (take (length first + k) l)) around_whole ∙ whole

    there_zero : (passed k place : ℕ) → passed ≡ length first → place ≡ passed + k → k ≤ length (f part) → IsZero before (flat_map f parts) place → IsZero sum (f part) k
    there_zero passed k place long is_place inside zeroes =
        let place_is : place ≡ length first + k = is_place ∙ ap (λ n. n + k) long in
        let whole : IsZero before ((first ++ f part) ++ rest) (length first + k) =
        ap (λ l. before +ℤ sum_of (take (length first + k) l)) (sym around_whole) ∙ ap (λ n. before +ℤ sum_of (take n (flat_map f parts))) (sym place_is) ∙ zeroes in
        let second : IsZero before (first ++ f part) (length first + k) =
        first_zero before (first ++ f part) rest (length first + k) (omega (arith, length-append first (f part))) whole in
        ap (λ n. n +ℤ sum_of (take k (f part))) weights ∙ second_zero before first (f part) k second

    none_earlier : (from passed place : ℕ) → passed ≡ length first → HasNoZero before first from (length first) → 1 ≤ place → from ≤ place → place ≤ passed → ¬ IsZero before (flat_map f parts) place
    none_earlier from passed place long none one up inside zeroes =
        let short : place ≤ length first = omega (arith, long, inside) in
        none place one up short short
        (first_zero before first (f part ++ rest) place short (ap (λ l. before +ℤ sum_of (take place l)) (sym around) ∙ zeroes))

    pub first_found : (from passed found : ℕ) → NoneBefore before first from passed sum → 1 ≤ found → IsFirstZero sum (f part) (from - passed) found
        → IsFirstZero before (flat_map f parts) from (passed + found)
    first_found from passed found so_far some here = record {
      within = λ one. let up = here.within some in omega (arith, up);
      inside = let less = fits in omega (arith, less, so_far.rows, here.inside);
      is_zero = λ one. zero_there passed found so_far.rows here.inside (here.is_zero some);
      first = λ one place least up down inside zeroes.
          elim (cases_lt passed place) [
            | inl beyond ↦
                let place_is : place ≡ passed + (place - passed) = omega arith in
                here.first some (place - passed) (omega arith) (omega arith) (omega arith) (omega (arith, here.inside))
                (there_zero passed (place - passed) place so_far.rows place_is (omega (arith, here.inside)) zeroes)
            | inr earlier ↦ none_earlier from passed place so_far.rows so_far.none least up earlier zeroes
          ];
      none = λ zero. absurd (let wrong : ⊥ = omega arith in wrong);
    }

    -- the walk back
    none_later : (to passed found after place : ℕ) → passed ≡ length first → after ≡ passed + length (f part) → HasNoZero before (flat_map f parts) (suc after) to
        → IsLastZero sum (f part) (to - passed) found → suc (passed + found) ≤ place → place ≤ to → place ≤ length (flat_map f parts) → ¬ IsZero before (flat_map f parts) place
    none_later to passed found after place long is_after later here up down inside zeroes =
        elim (cases_lt after place) [
          | inl beyond ↦ later place (omega arith) beyond down inside zeroes
          | inr within_part ↦
              let place_is : place ≡ passed + (place - passed) = omega arith in
              here.last (place - passed) (omega arith) (omega arith) (omega arith) (omega arith)
              (there_zero passed (place - passed) place long place_is (omega arith) zeroes)
        ]

    pub last_found : (to passed found after : ℕ) → passed ≡ length first → after ≡ passed + length (f part) → HasNoZero before (flat_map f parts) (suc after) to
        → 1 ≤ found → IsLastZero sum (f part) (to - passed) found → IsLastZero before (flat_map f parts) to (passed + found)
    last_found to passed found after long is_after later some here = record {
      within = let low = here.within in omega (arith, low);
      inside = let less = fits in omega (arith, less, long, here.inside);
      is_zero = λ one. zero_there passed found long here.inside (here.is_zero some);
      last = λ place one up down inside. none_later to passed found after place long is_after later here up down inside;
    }

    pub none_back : (to passed found after : ℕ) → passed ≡ length first → after ≡ passed + length (f part) → HasNoZero before (flat_map f parts) (suc after) to
        → found ≡ 0 → IsLastZero sum (f part) (to - passed) found → NoneAfter before (flat_map f parts) first to passed sum
    none_back to passed found after long is_after later zeroes here = record {
      rows = long;
      weights = weights;
      none = λ place one up down inside. none_later to passed found after place long is_after later here (omega arith) down inside;
    }

  module _ (before : ℤ) (room : HasRoom before (length (flat_map f parts))) (sum : ℤ) (last : Sums) (is_last : last ≡ sums_of (f part)) where
    part_fits : SFits w32 last.sum
    part_fits = let is_sum : last.sum ≡ sum_of (f part) = ap (λ s. s.sum) is_last in rw is_sum (sum_fits (f part) (small most_rows (few_of before (length (flat_map f parts)) room)))

    -- the sum with the part's
    pub on_fits : sum ≡ before +ℤ sum_of first → SFits w32 (stored_on sum last.sum)
    on_fits weights = rw (to_z-of_z w32 last.sum part_fits) (next_fits before room sum weights last.sum (ap (λ s. s.sum) is_last))

    pub walk_on : (from passed found : ℕ) → NoneBefore before first from passed sum → found ≡ 0 → IsFirstZero sum (f part) (from - passed) found
        → NoneBefore before (flat_map f (take (index + 1) parts)) from (passed + last.rows) (to_z w32 (of_z w32 (stored_on sum last.sum)))
    walk_on from passed found so_far zeroes here =
        none_next before room sum so_far.weights from passed found last.rows last.sum _ so_far zeroes here (ap (λ s. s.rows) is_last) (ap (λ s. s.sum) is_last)
        (stored_add sum last.sum part_fits (next_fits before room sum so_far.weights last.sum (ap (λ s. s.sum) is_last)))

    -- the sum without it
    pub walk_back : (to at passed : ℕ) → at ≡ index + 1 → NoneAfter before (flat_map f parts) (flat_map f (take at parts)) to passed sum → IsBack before first (f part) passed sum last
    walk_back to at passed is_at none =
        let here : NoneAfter before (flat_map f parts) (flat_map f (take (index + 1) parts)) to passed sum = rw is_at at none in
        let rows = rows_back passed last.rows here.rows (ap (λ s. s.rows) is_last) in
        let weights : (sum -ℤ last.sum) ≡ before +ℤ sum_of first = weights_back before sum last.sum here.weights (ap (λ s. s.sum) is_last) in
        let left_fits : SFits w32 (sum -ℤ last.sum) = here_fits before room (sum -ℤ last.sum) weights in
        record {
          fits = rw (to_z-of_z w32 last.sum part_fits) left_fits;
          weights = stored_less sum last.sum part_fits left_fits ∙ weights;
          count = rows.0;
          after = rows.1;
        }
