-- The entry at an index of what the first rows leave, by its rank among all entries that rows add.
use Rattle.std.proofs.Common.{◌≡◌, ℕ, ℤ, zero, suc, ◌+◌, ◌-◌, ◌*◌, ◌<◌, ◌≤◌, ◌⊎◌, inl, inr, true, false, List, [], ◌∷◌, length, take, refl, ap, sym, ◌∙◌, arith, subst, Option, Some, None, slice_get}
use Rattle.std.specs.List.{cons_option}
use Rattle.std.specs.Option.{option_map}
use Rattle.std.proofs.lemmas.Bool.{cases_lt}
use Rattle.retro_base.specs.declared.op.Op.{Op}
use Rattle.retro_base.specs.declared.op.Op.TheVariants.{Enq, Deq, Push, Pop, PushL, PushR, PopL, PopR, Put, Del, Ins, DelMin}
use Rattle.retro_base.specs.declared.row.Entry.{Entry}
use Rattle.retro_base.specs.declared.row.Row.{Row}
use Rattle.retro_base.specs.Answers.{key_of}
use Rattle.retro_base.specs.BridgeTable.{added}
use Rattle.costs.specs.Digits.{digits}
use Rattle.retro_base.specs.OrderLaws.{all_at}
use Rattle.retro_base.specs.State.{comes_before}
use Rattle.costs.specs.Visits.{VisitsWithin}
use Rattle.costs.specs.VisitsLaws.{digits-monotone}
use Rattle.retro_base.specs.Weights.{added_as, added_by}
use Rattle.retro_base.specs.lemmas.bridges.Entries.{In, in_contains, contains_in, in_with}
use Rattle.retro_base.specs.lemmas.bridges.EntryOrder.{before_irreflexive, before_one_way}
use Rattle.bridge_pq.specs.Bridged.{AreAdded}
use Rattle.bridge_pq.specs.MarkedEntries.{Rise}
use Rattle.pq_fusion.specs.Pieces.{PieceParts, no_parts, after_take, after_row, after_rows}
use Rattle.pq_fusion.specs.EntryCounts.{left_by, reaching}
use Rattle.pq_fusion.specs.Searches.{VisitsUpTo}
use Rattle.pq_fusion.proofs.Counted.{rank_reached, rank_missed}
use Rattle.pq_fusion.proofs.FromRows.{tolerant_rise}
use Rattle.pq_fusion.proofs.Searched.{IsSought, sought_more}
use Rattle.pq_fusion.proofs.Stored.{added_few}

-- what rows leave was there before them, or one of them adds it
take_in : (left removed : List Entry) (unmet : ℕ) (x : Entry) → In x (after_take left removed unmet).left → In x left
take_in [] removed unmet x there = there
take_in (y ∷ ys) removed unmet x there = inr there

row_in : (op : Op) (number : ℕ) (a : PieceParts) (xs : List Entry) (x : Entry) → In x (after_row op number a).left → In x (cons_option (added_as op number) xs) ⊎ In x a.left
unfolding after_row
row_in (Enq v) number a xs x there = inr there
row_in Deq number a xs x there = inr there
row_in (Push v) number a xs x there = inr there
row_in Pop number a xs x there = inr there
row_in (PushL v) number a xs x there = inr there
row_in (PushR v) number a xs x there = inr there
row_in PopL number a xs x there = inr there
row_in PopR number a xs x there = inr there
row_in (Put k v) number a xs x there = inr there
row_in (Del k) number a xs x there = inr there
row_in (Ins k) number a xs x there = elim (in_with (record { key = k; number = number }) x a.left there) [ inl own ↦ inl (inl own) | inr before ↦ inr before ]
row_in DelMin number a xs x there = inr (take_in a.left a.removed a.unmet x there)

in_behind : (o : Option Entry) (xs : List Entry) (x : Entry) → In x xs → In x (cons_option o xs)
in_behind None xs x there = there
in_behind (Some e) xs x there = inr there

rows_in : (rows : List Row) (to : ℕ) (a : PieceParts) (x : Entry) → In x (after_rows (take to rows) a).left → In x (added rows) ⊎ In x a.left
unfolding after_rows
rows_in [] zero a x there = inr there
rows_in [] (suc to) a x there = inr there
rows_in (row ∷ rows) zero a x there = inr there
rows_in (row ∷ rows) (suc to) a x there = elim (rows_in rows to (after_row row.op row.number a) x there) [
  | inl later ↦ inl (in_behind (added_by row) (added rows) x later)
  | inr before ↦ row_in row.op row.number a (added rows) x before
]

at_in : (xs : List Entry) (index : ℕ) (x : Entry) → slice_get xs index ≡ Some x → In x xs
at_in [] index x there = absurd (cc)
at_in (y ∷ ys) zero x there = let same : y ≡ x = cc in inl (sym same)
at_in (y ∷ ys) (suc index) x there = inr (at_in ys index x there)

left_added : (rows : List Row) (to index : ℕ) (x : Entry) → slice_get (left_by (take to rows)) index ≡ Some x → In x (added rows)
left_added rows to index x there =
    elim (rows_in rows to no_parts x (at_in (left_by (take to rows)) index x there)) [ inl own ↦ own | inr none ↦ absurd none ]

-- an entry by its rank, which lies between two
pub record IsRanked (entries : List Entry) (x : Entry) (low high : ℕ) : Type 0 where
  pub rank : ℕ
  pub there : slice_get entries rank ≡ Some x
  pub from : low ≤ rank + 1
  pub to : rank < high

ranked_in : (x : Entry) (xs : List Entry) → In x xs → IsRanked xs x 0 (length xs)
ranked_in x [] inside = absurd inside
ranked_in x (y ∷ ys) inside = elim inside [
  | inl same ↦ record { rank = zero; there = ap Some (sym same); from = omega arith; to = omega arith }
  | inr further ↦ let rest = ranked_in x ys further in record { rank = suc rest.rank; there = rest.there; from = omega arith; to = omega (arith, rest.to) }
]

-- of two entries of a list that rises the first comes before the second
rise_at : (xs : List Entry) (m n : ℕ) (x y : Entry) → Rise xs → m < n → slice_get xs m ≡ Some x → slice_get xs n ≡ Some y → comes_before x y ≡ true
rise_at [] m n x y rise less first second = absurd (cc)
rise_at (z ∷ zs) m zero x y rise less first second = absurd (omega (arith, less))
rise_at (z ∷ zs) zero (suc n) x y rise less first second =
    let same : z ≡ x = cc in subst (λ e. comes_before e y ≡ true) same (all_at (λ e. comes_before z e ≡ true) zs n y rise.0 second)
rise_at (z ∷ zs) (suc m) (suc n) x y rise less first second = rise_at zs m n x y rise.1 (omega (arith, less)) first second

module _ (rows : List Row) (entries : List Entry) (all : AreAdded rows entries) where
  -- no more than there are rows
  pub entries_few : length entries ≤ length rows
  entries_few = omega (arith, all.as_many, added_few rows)

  -- a turn: an entry is read and a path walked
  pub turn : (walk turns width part start steps next end : ℕ) → 0 < width → part + part ≤ width → VisitsWithin 12 (length entries) steps next → VisitsUpTo walk next end
      → IsSought width (12 * digits (length rows + 1) + walk) turns start steps → IsSought part (12 * digits (length rows + 1) + walk) turns start end
  turn walk turns width part start steps next end some half one rest sought = sought_more width (12 * digits (length rows + 1) + walk) turns start steps part end some sought half (record {
    none_lost = omega (arith, one.none_lost, rest.none_lost);
    few = omega (arith, one.few, rest.few, digits-monotone (length entries + 1) (length rows + 1) (omega (arith, entries_few)));
  })

  module _ (to index : ℕ) (x : Entry) (left : slice_get (left_by (take to rows)) index ≡ Some x) where
    pub ranked_starts : IsRanked entries x 0 (length entries)
    ranked_starts = ranked_in x entries (contains_in entries x ((all.same x).1 (in_contains (added rows) x (left_added rows to index x left))))

    module _ (low high middle : ℕ) (e : Entry) (there : slice_get entries middle ≡ Some e) (ranked : IsRanked entries x low high) where
      -- enough entries reach the middle one, so the entry does not come before it
      pub ranked_later : length (left_by (take to rows)) - index ≤ reaching e (left_by (take to rows)) → IsRanked entries x (middle + 1) high
      ranked_later enough =
          let after : comes_before x e ≡ false = rank_reached e (left_by (take to rows)) index x (tolerant_rise (take to rows)).left left enough in
          record {
            rank = ranked.rank;
            there = ranked.there;
            to = ranked.to;
            from = elim (cases_lt ranked.rank middle) [
              | inl less ↦ let wrong : true ≡ false = sym (rise_at entries ranked.rank middle x e all.rise less ranked.there there) ∙ after in absurd (cc)
              | inr more ↦ omega (arith, more)
            ];
          }

      -- too few do, so it comes before it
      pub ranked_earlier : reaching e (left_by (take to rows)) < length (left_by (take to rows)) - index → IsRanked entries x low middle
      ranked_earlier few =
          let before : comes_before x e ≡ true = rank_missed e (left_by (take to rows)) index x (tolerant_rise (take to rows)).left left few in
          record {
            rank = ranked.rank;
            there = ranked.there;
            from = ranked.from;
            to = elim (cases_lt ranked.rank middle) [
              | inl less ↦ less
              | inr more ↦ elim (cases_lt middle ranked.rank) [
                | inl further ↦
                    let wrong : true ≡ false = sym before ∙ before_one_way e x (rise_at entries middle ranked.rank e x all.rise further there ranked.there) in absurd (cc)
                | inr here ↦
                    let place : ranked.rank ≡ middle = omega (arith, more, here) in
                    let own : Some x ≡ Some e = sym ranked.there ∙ ap (slice_get entries) place ∙ there in
                    let same : x ≡ e = cc in
                    let wrong : true ≡ false = sym before ∙ ap (λ y. comes_before y e) same ∙ before_irreflexive e in absurd (cc)
              ]
            ];
          }

-- the key of the entry in front of a rank
abbrev pub key_before : List Entry → ℕ → Option ℤ
key_before entries zero = None
key_before entries (suc rank) = option_map key_of (slice_get entries rank)

pub key_behind : (entries : List Entry) (middle : ℕ) (e : Entry) → slice_get entries middle ≡ Some e → Some e.key ≡ key_before entries (middle + 1)
key_behind entries middle e there =
    let next : suc middle ≡ middle + 1 = omega arith in ap (option_map key_of) (sym there) ∙ ap (key_before entries) next

some_there : (xs : List Entry) (index : ℕ) → slice_get xs index ≡ None → length xs ≤ index
some_there [] index none = omega arith
some_there (x ∷ xs) zero none = absurd (cc)
some_there (x ∷ xs) (suc index) none = omega (arith, some_there xs index none)

pub none_there : (xs : List Entry) (index : ℕ) → length xs ≤ index → None ≡ option_map key_of (slice_get xs index)
none_there [] index over = refl
none_there (x ∷ xs) zero over = absurd (omega (arith, over))
none_there (x ∷ xs) (suc index) over = none_there xs index (omega (arith, over))

pub found_there : (entries left : List Entry) (index low high : ℕ) (found : Option ℤ) → found ≡ key_before entries low → (0 < low → index < length left)
    → ((x : Entry) → slice_get left index ≡ Some x → IsRanked entries x low high) → high ≤ low → found ≡ option_map key_of (slice_get left index)
found_there entries left index low high found found_is some ranked over =
    elim (slice_get left index) as (λ o. slice_get left index ≡ o → found ≡ option_map key_of o) [
      | None ↦ λ none. found_is ∙ nothing low some none
      | Some x ↦ λ there.
          let own = ranked x there in
          let place : low ≡ suc own.rank = omega (arith, own.from, own.to, over) in
          found_is ∙ ap (key_before entries) place ∙ ap (option_map key_of) own.there
    ] refl
  where
    nothing : (low : ℕ) → (0 < low → index < length left) → slice_get left index ≡ None → key_before entries low ≡ None
    nothing zero some none = refl
    nothing (suc low) some none = absurd (omega (arith, some (omega arith), some_there left index none))
