-- What is answered of the fate of what a row put in.
use Rattle.std.proofs.Common.{◌≡◌, ℕ, zero, suc, ◌+◌, ◌-◌, ◌<◌, ◌≤◌, true, false, List, [], ◌∷◌, drop, arith, length, slice_get, refl, sym, subst, Option, Some, None}
use Rattle.fates.specs.Fates.{IsFate, IsTakenAt}
use Rattle.retro_base.specs.Holders.{holders, holds}
use Rattle.fates.specs.declared.fate.Fate.{Fate}
use Rattle.fates.specs.declared.fate.Fate.TheVariants as fates
use Rattle.retro_base.specs.declared.kind.Kind.{Kind}
use Rattle.retro_base.specs.declared.row.Row.{Row}
use Rattle.retro_base.specs.Kind.{adds, kind_of}
use Rattle.retro_base.specs.OrderLaws.{all_at}
use Rattle.retro_base.specs.Places.{place_of_row}
use Rattle.retro_base.specs.Timeline.{IsReplayable}
use Rattle.reactions.specs.declared.outcome.Outcome.TheVariants.{Taken, Stays, Refused}
use Rattle.reactions.specs.declared.outcome.Refusal.TheVariants as refusals
use Rattle.reactions.specs.Bench.{NamedTimeline}
use Rattle.reactions.specs.TimelineEffects.{answers_fate, fate_from}

-- the rows from a place on
none_later : (rows : List Row) (place : ℕ) → drop place rows ≡ [] → length rows ≤ place
none_later [] place none = omega arith
none_later (row ∷ rows) zero none = absurd (cc)
none_later (row ∷ rows) (suc place) none = omega (arith, none_later rows place none)

same_row : (row other : Row) (option : Option Row) → option ≡ Some row → option ≡ Some other → row ≡ other
same_row row other option is is_other = cc

record IsNext (rows : List Row) (place : ℕ) (row : Row) (later : List Row) : Type 0 where
  there : slice_get rows place ≡ Some row
  within : place < length rows
  rest : drop (suc place) rows ≡ later

some_later : (rows : List Row) (place : ℕ) (row : Row) (later : List Row) → drop place rows ≡ row ∷ later → IsNext rows place row later
some_later [] zero row later is = absurd (cc)
some_later [] (suc place) row later is = absurd (cc)
some_later (first ∷ rows) zero row later is = record { there = let same : first ≡ row = cc in rw same refl; within = omega arith; rest = cc }
some_later (first ∷ rows) (suc place) row later is =
    let more = some_later rows place row later is in
    record { there = more.there; within = omega (arith, more.within); rest = more.rest }

module _ (t : NamedTimeline) (number index : ℕ) where
  stays_from : (place : ℕ) (later : List Row) → drop place t.rows ≡ later → index < place
      → ((q : ℕ) → index < q → q ≤ length t.rows → holds number (holders t.kind t.rows q) ≡ true) → fate_from t number place later ≡ Stays
  stays_from place [] is after there = refl
  stays_from place (row ∷ later) is after there =
      let next = some_later t.rows place row later is in
      rw (there (suc place) (omega (arith, after)) next.within) (stays_from (suc place) later next.rest (omega (arith, after)) there)

  taken_from : (left place last : ℕ) (later : List Row) (taker : Row) → drop place t.rows ≡ later → index < place → last ≡ place + left
      → IsTakenAt t.kind t.rows index number last → slice_get t.rows last ≡ Some taker → fate_from t number place later ≡ Taken taker.number taker.time
  taken_from left place last [] taker is after up_to taken there = absurd (omega (arith, none_later t.rows place is, taken.within, up_to))
  taken_from zero place last (row ∷ later) taker is after up_to taken there =
      let next = some_later t.rows place row later is in
      let same : last ≡ place = omega (arith, up_to) in
      let gone : holds number (holders t.kind t.rows (suc place)) ≡ false = subst (λ p. holds number (holders t.kind t.rows (suc p)) ≡ false) same taken.gone in
      let row_is : row ≡ taker = same_row row taker (slice_get t.rows place) next.there (subst (λ p. slice_get t.rows p ≡ Some taker) same there) in
      rw (gone, row_is) refl
  taken_from (suc left) place last (row ∷ later) taker is after up_to taken there =
      let next = some_later t.rows place row later is in
      rw (taken.there (suc place) (omega (arith, after)) (omega (arith, up_to)))
      (taken_from left (suc place) last later taker next.rest (omega (arith, after)) (omega (arith, up_to)) taken there)

pub fate_nowhere : (t : NamedTimeline) (number : ℕ) → place_of_row number t.rows ≡ None → answers_fate t number ≡ Refused (refusals.NoRow number)
unfolding answers_fate
fate_nowhere t number nowhere = rw nowhere refl

-- the row of a number, where it stands
pub record IsRowAt (t : NamedTimeline) (number place : ℕ) (row : Row) : Type 0 where
  pub place_is : place_of_row number t.rows ≡ Some place
  pub row_is : slice_get t.rows place ≡ Some row

pub fate_no_item : (t : NamedTimeline) (number place : ℕ) (row : Row) → IsRowAt t number place row → adds row.op ≡ false
    → answers_fate t number ≡ Refused (refusals.NoItem row.number)
unfolding answers_fate
fate_no_item t number place row at takes = rw (at.place_is, at.row_is, takes) refl

pub fate_stays : (t : NamedTimeline) (number place : ℕ) (row : Row) → IsRowAt t number place row → adds row.op ≡ true
    → IsFate t.kind t.rows place row.number fates.Stays → answers_fate t number ≡ Stays
unfolding answers_fate
fate_stays t number place row at adding stays =
    rw (at.place_is, at.row_is, adding) (stays_from t row.number place (suc place) (drop (suc place) t.rows) refl (omega arith) stays)

pub fate_taken : (t : NamedTimeline) (number place last : ℕ) (row taker : Row) → IsRowAt t number place row → adds row.op ≡ true
    → IsTakenAt t.kind t.rows place row.number last → slice_get t.rows last ≡ Some taker → answers_fate t number ≡ Taken taker.number taker.time
unfolding answers_fate
fate_taken t number place last row taker at adding taken there =
    rw (at.place_is, at.row_is, adding)
    (taken_from t row.number place (last - suc place) (suc place) last (drop (suc place) t.rows) taker refl (omega arith) (omega (arith, taken.later)) taken there)

-- what `fate_of` asks for of the row at a place, and what it then says
pub own_adds : (rows : List Row) (place : ℕ) (row : Row) → slice_get rows place ≡ Some row → adds row.op ≡ true
    → (own : Row) → slice_get rows place ≡ Some own → adds own.op ≡ true
own_adds rows place row there adding own here =
    subst (λ (r : Row). adds r.op ≡ true) (same_row row own (slice_get rows place) there here) adding

own_kind : (kind : Kind) (rows : List Row) (place : ℕ) (own : Row) → IsReplayable kind rows → slice_get rows place ≡ Some own → kind_of own.op ≡ kind
own_kind kind rows place own replayable here = all_at (λ r. kind_of r.op ≡ kind) rows place own replayable.of_kind here

pub own_replayable : (kind : Kind) (rows : List Row) (place : ℕ) → IsReplayable kind rows
    → (own : Row) → slice_get rows place ≡ Some own → IsReplayable (kind_of own.op) rows
own_replayable kind rows place replayable own here = subst (λ k. IsReplayable k rows) (sym (own_kind kind rows place own replayable here)) replayable

pub own_fate : (kind : Kind) (rows : List Row) (place : ℕ) (own : Row) (fate : Fate) → IsReplayable kind rows → slice_get rows place ≡ Some own
    → IsFate (kind_of own.op) rows place own.number fate → IsFate kind rows place own.number fate
own_fate kind rows place own fate replayable here is =
    subst (λ k. IsFate k rows place own.number fate) (own_kind kind rows place own replayable here) is
