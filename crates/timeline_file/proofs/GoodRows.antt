-- What a reader of blocks keeps, with one good row more.
use Rattle.std.proofs.Common.{◌≡◌, ℕ, ◌<◌, ◌≤◌, Bool, true, false, not, cond, ◌||◌, nat_eq, nat_lt, List, [], ◌∷◌, ◌++◌, refl, sym, ap, ◌∙◌, arith, Option, Some, None}
use Rattle.std.specs.Prelude.{◌==◌, is_some}
use Rattle.std.specs.HashSet.{Updates}
use Rattle.std.specs.List.{AllByRecursion}
use Rattle.std.proofs.lemmas.Bool.{eqb-false, ltb-true, ltb-false}
use Rattle.retro_base.specs.declared.kind.Kind.{Kind}
use Rattle.retro_base.specs.declared.row.Row.{Row}
use Rattle.retro_base.specs.Kind.{kind_of, same_kind}
use Rattle.retro_base.specs.Limits.{next_limit}
use Rattle.retro_base.specs.Replay.{present}
use Rattle.retro_base.specs.State.{step}
use Rattle.retro_base.specs.Timeline.{IsFresh, IsReplayable, IsTimeline, TimesNeverFall}
use Rattle.timeline_file.specs.declared.block.RowCause.TheVariants as causes
use Rattle.timeline_file.specs.declared.block.BlockError.{BlockError}
use Rattle.timeline_file.specs.Block.{Block, has_number, last_time, cause_of_row, are_below}
use Rattle.timeline_file.specs.Read.{Numbers, IsRead}
use Rattle.retro_base.specs.Facts.{both_true, either_false}

-- of a row without a cause the tests of the number and of the time have failed
no_cause : (kind seen earlier performs : Bool)
    → cond (not kind) (Some causes.Kind) (cond seen (Some causes.Number) (cond earlier (Some causes.Time) (cond performs None (Some causes.Replay)))) ≡ None
    → (seen ≡ false) × (earlier ≡ false)
no_cause true false false performs none = (refl, refl)
no_cause true false true performs none = absurd (cc)
no_cause true true earlier performs none = absurd (cc)
no_cause false seen earlier performs none = absurd (cc)

good_row : (kind : Kind) (rows : List Row) (row : Row) → cause_of_row kind rows row ≡ None
    → (has_number row.number rows ≡ false) × (nat_lt row.time (last_time rows) ≡ false)
good_row kind rows row good =
    no_cause (same_kind (kind_of row.op) kind) (has_number row.number rows) (nat_lt row.time (last_time rows)) (is_some (step row (present kind rows))) good

unseen : (number : ℕ) (rows : List Row) → has_number number rows ≡ false → IsFresh number rows
unseen number [] none = tt
unseen number (row ∷ rows) none =
    let parts = either_false (row.number == number) (has_number number rows) none in
    (eqb-false row.number number parts.0, unseen number rows parts.1)

-- a good row has a number of its own
pub good_is_fresh : (kind : Kind) (rows : List Row) (row : Row) → cause_of_row kind rows row ≡ None → IsFresh row.number rows
good_is_fresh kind rows row good = unseen row.number rows (good_row kind rows row good).0

-- what holds of all elements and of one more
all_then : {X : Type 0} (P : X → Type 0) (xs : List X) (x : X) → AllByRecursion P xs → P x → AllByRecursion P (xs ++ x ∷ [])
all_then P [] x all last = (last, tt)
all_then P (y ∷ ys) x all last = (all.0, all_then P ys x all.1 last)

-- no row is later than the last one
first_to_last : (first : Row) (rows : List Row) → TimesNeverFall (first ∷ rows) → first.time ≤ last_time (first ∷ rows)
first_to_last first [] never = omega arith
first_to_last first (next ∷ rows) never = omega (arith, first_to_last next rows never.1, never.0.0)

rest_to_last : (first : Row) (rows : List Row) → last_time rows ≤ last_time (first ∷ rows)
rest_to_last first [] = omega arith
rest_to_last first (next ∷ rows) = omega arith

in_order_then : (rows : List Row) (row : Row) → TimesNeverFall rows → last_time rows ≤ row.time → TimesNeverFall (rows ++ row ∷ [])
in_order_then [] row never later = (tt, tt)
in_order_then (first ∷ rows) row never later = (
  all_then (λ r. first.time ≤ r.time) rows row never.0 (omega (arith, first_to_last first rows never)),
  in_order_then rows row never.1 (omega (arith, rest_to_last first rows)),
)

good_in_order : (kind : Kind) (rows : List Row) (row : Row) → cause_of_row kind rows row ≡ None → TimesNeverFall rows → TimesNeverFall (rows ++ row ∷ [])
good_in_order kind rows row good never = in_order_then rows row never (ltb-false row.time (last_time rows) (good_row kind rows row good).1)

last_time-append : (rows : List Row) (row : Row) → last_time (rows ++ row ∷ []) ≡ row.time
last_time-append [] row = refl
last_time-append (first ∷ []) row = refl
last_time-append (first ∷ next ∷ rows) row = last_time-append (next ∷ rows) row

either : (first last old new : Bool) → new ≡ cond last true old → (first || new) ≡ cond last true (first || old)
either true true old new e = refl
either true false old new e = refl
either false last old new e = e

either_alone : (last : Bool) → (last || false) ≡ cond last true false
either_alone true = refl
either_alone false = refl

-- a number that is looked for among rows and one more
has_number-append : (number : ℕ) (rows : List Row) (row : Row) → has_number number (rows ++ row ∷ []) ≡ cond (row.number == number) true (has_number number rows)
has_number-append number [] row = either_alone (row.number == number)
has_number-append number (first ∷ rows) row =
    either (first.number == number) (row.number == number) (has_number number rows) (has_number number (rows ++ row ∷ [])) (has_number-append number rows row)

-- what a reader keeps is kept with a good row more
pub read_then : (kind : Kind) (rows : List Row) (row : Row) (old new : Numbers) (time : ℕ) → IsRead rows old time → cause_of_row kind rows row ≡ None
    → (1 ≤ row.number) × (row.number < next_limit) → Updates nat_eq old new row.number true → IsRead (rows ++ row ∷ []) new row.time
read_then kind rows row old new time read good numbered updates = record {
  in_order = good_in_order kind rows row good read.in_order;
  numbered = all_then (λ r. (1 ≤ r.number) × (r.number < next_limit)) rows row read.numbered numbered;
  seen = λ number. updates.0 number ∙ ap (λ b. cond (row.number == number) true b) (read.seen number) ∙ sym (has_number-append number rows row);
  last = sym (last_time-append rows row);
}

-- all numbers are from 1 to below the next one
numbered_below : (next : ℕ) (rows : List Row) → AllByRecursion (λ row. (1 ≤ row.number) × (row.number < next_limit)) rows → are_below next rows ≡ true
    → AllByRecursion (λ row. (1 ≤ row.number) × (row.number < next)) rows
numbered_below next [] all below = tt
numbered_below next (row ∷ rows) all below =
    let parts = both_true (nat_lt row.number next) (are_below next rows) below in
    ((all.0.0, ltb-true row.number next parts.0), numbered_below next rows all.1 parts.1)

-- the rows of a good block are those of a timeline
pub timeline_read : (now : Block) (kind : Kind) (rows : List Row) (next : ℕ) (count : Option ℕ) (bad : Option BlockError) (numbers : Numbers) (time : ℕ)
    → ◌≡◌ {A = Block} (record { kind = kind; next = next; count = count; rows = rows; bad = bad }) now → IsRead rows numbers time → IsReplayable kind rows
    → are_below next rows ≡ true → 1 ≤ now.next → now.next ≤ next_limit → IsTimeline now.kind rows now.next
timeline_read now kind rows next count bad numbers time seen read replayable below least most =
    let same_kind : kind ≡ now.kind = ap (λ (b : Block). b.kind) seen in
    let same_next : next ≡ now.next = ap (λ (b : Block). b.next) seen in
    record {
      replayable = rw same_kind at replayable;
      in_order = read.in_order;
      numbered = numbered_below now.next rows read.numbered (rw same_next at below);
      next_in_range = (least, most);
    }
