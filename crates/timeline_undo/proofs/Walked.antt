-- The count along the rows after a replacement finds the first of them that cannot be performed.
use Rattle.std.proofs.Common.{◌≡◌, ℕ, ℤ, suc, ◌+◌, ◌-◌, append_assoc, ◌<◌, ◌≤◌, get_or, Bool, true, false, List, [], ◌∷◌, ◌++◌, length}
use Rattle.std.proofs.Common.{take, drop, slice_get, slice_range, refl, sym, ap, ◌∙◌, arith, Option, Some, None, Result, Ok, Err}
use Rattle.std.specs.List.{insert, remove, AllByRecursion}
use Rattle.std.specs.Option.{option_and_then, option_map}
use Rattle.std.specs.Ordering.{int_eq}
use Rattle.std.specs.Result.{result_err}
use Rattle.std.proofs.lemmas.Bool.{le-leb, lt-leb}
use Rattle.std.proofs.lemmas.List.{drop_all, take_all, take-append-drop, length-append, length-drop, length-take, drop-drop}
use Rattle.std.proofs.Math.Seq.{drop-cons, take-add}
use Rattle.retro_base.specs.declared.kind.Kind.{Kind}
use Rattle.retro_base.specs.declared.kind.Kind.TheVariants.{Queue, Stack, Deque, Dict, Pq}
use Rattle.retro_base.specs.declared.op.Op.{Op}
use Rattle.retro_base.specs.declared.op.Op.TheVariants.{Enq, Deq, Push, Pop, PushL, PushR, PopL, PopR, Put, Del, Ins, DelMin}
use Rattle.retro_base.specs.declared.row.Row.{Row}
use Rattle.retro_base.specs.Counting.{pair_after, size_after, quantity_of, quantity_after, counted}
use Rattle.retro_base.specs.Edits.{failing_row}
use Rattle.retro_base.specs.Kind.{kind_of}
use Rattle.retro_base.specs.OrderLaws.{all_with, all_without}
use Rattle.retro_base.specs.Replay.{one_later, failure, IsValid}
use Rattle.retro_base.specs.Timeline.{AreOfKind}
use Rattle.retro_base.specs.lemmas.Counted.{all_lines, around}
use Rattle.retro_base.specs.lemmas.CountedEntries.{pq_failure}
use Rattle.retro_base.specs.lemmas.CountedKeys.{all_keys, passed_in, passed_out}
use Rattle.retro_base.specs.lemmas.CountedLines.{line_failure}
use Rattle.retro_base.specs.lemmas.CountedSizes.{size_after-le}
use Rattle.retro_base.specs.lemmas.Folds.{no_row, BothOrNeither, folds_agree, same_failure, fold_rows-nil, fold_rows-some, fold_rows-none}
use Rattle.retro_base.specs.lemmas.SortedPairs.{sorted_nil}
use Rattle.timeline_undo.specs.declared.replacement.Replacement.{Replacement}
use Rattle.timeline_undo.specs.Replaced.{replaced}
use Rattle.timeline_undo.specs.declared.walk_count.Presence.{Presence}
use Rattle.timeline_undo.specs.declared.walk_count.WalkCount.{WalkCount}
use Rattle.timeline_undo.specs.declared.walk_count.WalkCount.TheVariants.{Items, Keys}
use Rattle.timeline_undo.specs.WalkCounts.{IsUpTo, absent, key_of, presence_after, walked, count_next, count_first, count_of_keys}
use Rattle.timeline_undo.proofs.TwoKeys.{counted_key, keyed, walked_to, two_keys}

-- rows in two parts
pub walked-some : (row : Row) (rows : List Row) (count next : WalkCount) → count_next count row.op ≡ Some next → walked (row ∷ rows) count ≡ walked rows next
unfolding walked
walked-some row rows count next e = rw e refl

pub walked-none : (row : Row) (rows : List Row) (count : WalkCount) → count_next count row.op ≡ None → walked (row ∷ rows) count ≡ Err row
unfolding walked
walked-none row rows count e = rw e refl

pub walked-nil : (count : WalkCount) → walked [] count ≡ Ok count
unfolding walked
walked-nil count = refl

pub walked-then : (rows more : List Row) (count next : WalkCount) → walked rows count ≡ Ok next → walked (rows ++ more) count ≡ walked more next
walked-then [] more count next e = let same : count ≡ next = (let here : ◌≡◌ {A = Result WalkCount Row} (Ok count) (Ok next) = sym (walked-nil count) ∙ e in cc) in ap (walked more) same
walked-then (row ∷ rows) more count next e =
    elim (count_next count row.op) as (λ o. count_next count row.op ≡ o → walked (row ∷ (rows ++ more)) count ≡ walked more next) [
      | None ↦ λ stops. absurd (let wrong : ◌≡◌ {A = Result WalkCount Row} (Err row) (Ok next) = sym (walked-none row rows count stops) ∙ e in cc)
      | Some to ↦ λ goes. walked-some row (rows ++ more) count to goes ∙ walked-then rows more to next (sym (walked-some row rows count to goes) ∙ e)
    ] refl

pub walked-stops : (rows more : List Row) (count : WalkCount) (failing : Row) → walked rows count ≡ Err failing → walked (rows ++ more) count ≡ Err failing
walked-stops [] more count failing e = absurd (let wrong : ◌≡◌ {A = Result WalkCount Row} (Ok count) (Err failing) = sym (walked-nil count) ∙ e in cc)
walked-stops (row ∷ rows) more count failing e =
    elim (count_next count row.op) as (λ o. count_next count row.op ≡ o → walked (row ∷ (rows ++ more)) count ≡ Err failing) [
      | None ↦ λ stops. walked-none row (rows ++ more) count stops ∙ sym (walked-none row rows count stops) ∙ e
      | Some to ↦ λ goes. walked-some row (rows ++ more) count to goes ∙ walked-stops rows more to failing (sym (walked-some row rows count to goes) ∙ e)
    ] refl

-- one more turn of a loop over rows
pub along_next : (rows : List Row) (i : ℕ) (count next : WalkCount) → i < length rows → count_next count (get_or rows i no_row).op ≡ Some next
    → walked (drop i rows) count ≡ walked (drop (i + 1) rows) next
along_next rows i count next within goes =
    ap (λ rs. walked rs count) (drop-cons rows i no_row within) ∙ walked-some _ _ count next goes ∙ (let one : suc i ≡ i + 1 = omega arith in ap (λ n. walked (drop n rows) next) one)

pub along_stops : (rows : List Row) (i : ℕ) (count : WalkCount) → i < length rows → count_next count (get_or rows i no_row).op ≡ None
    → walked (drop i rows) count ≡ Err (get_or rows i no_row)
along_stops rows i count within stops = ap (λ rs. walked rs count) (drop-cons rows i no_row within) ∙ walked-none _ _ count stops

pub along_end : (rows : List Row) (i : ℕ) (count : WalkCount) → length rows ≤ i → walked (drop i rows) count ≡ Ok count
along_end rows i count all = ap (λ rs. walked rs count) (drop_all i rows all) ∙ walked-nil count

-- rows in three parts
pub second_stops : (a b c : List Row) (t u : WalkCount) (failing : Row) → walked a t ≡ Ok u → walked b u ≡ Err failing → walked (a ++ (b ++ c)) t ≡ Err failing
second_stops a b c t u failing e f = walked-then a (b ++ c) t u e ∙ walked-stops b c u failing f

pub all_parts : (a b c : List Row) (t u v : WalkCount) → walked a t ≡ Ok u → walked b u ≡ Ok v → walked (a ++ (b ++ c)) t ≡ walked c v
all_parts a b c t u v e f = walked-then a (b ++ c) t u e ∙ walked-then b c u v f

-- the rows of a walk: those that one reading gives come first
slice_two : (rows : List Row) (place m n : ℕ) → take (m + n) (drop place rows) ≡ take m (drop place rows) ++ take n (drop (place + m) rows)
slice_two rows place m n = take-add m n (drop place rows) ∙ ap (λ rs. take m (drop place rows) ++ take n rs) (drop-drop m place rows)

pub read_first : (rows : List Row) (place read to : ℕ) → place + read ≤ to → slice_range rows place to ≡ take read (drop place rows) ++ slice_range rows (place + read) to
read_first rows place read to within =
    let n : to - place ≡ read + (to - (place + read)) = omega arith in
    ap (λ k. take k (drop place rows)) n ∙ slice_two rows place read (to - (place + read))

-- a turn of a walk
pub walk_stops : (rows : List Row) (place many to : ℕ) (count : WalkCount) (failing : Row) → place + many ≤ to
    → walked (take many (drop place rows)) count ≡ Err failing → walked (slice_range rows place to) count ≡ Err failing
walk_stops rows place many to count failing within e =
    ap (λ rs. walked rs count) (read_first rows place many to within)
    ∙ walked-stops (take many (drop place rows)) (slice_range rows (place + many) to) count failing e

pub walk_goes : (rows : List Row) (place many to : ℕ) (count next : WalkCount) → place + many ≤ to
    → walked (take many (drop place rows)) count ≡ Ok next → walked (slice_range rows place to) count ≡ walked (slice_range rows (place + many) to) next
walk_goes rows place many to count next within e =
    ap (λ rs. walked rs count) (read_first rows place many to within)
    ∙ walked-then (take many (drop place rows)) (slice_range rows (place + many) to) count next e

pub walk_ends : (rows : List Row) (place to : ℕ) (count : WalkCount) → to ≤ place → walked (slice_range rows place to) count ≡ Ok count
walk_ends rows place to count all =
    let none : to - place ≡ 0 = omega arith in ap (λ n. walked (take n (drop place rows)) count) none ∙ walked-nil count

-- the parts of the rows after a replacement
to_the_end : (rows : List Row) (from : ℕ) → from ≤ length rows → slice_range rows from (length rows) ≡ drop from rows
to_the_end rows from within = take_all (length rows - from) (drop from rows) (omega (arith, length-drop from rows))

from_the_start : (rows : List Row) (to : ℕ) → slice_range rows 0 to ≡ take to rows
from_the_start rows to = let n : to - 0 ≡ to = omega arith in ap (λ k. take k rows) n

pub new_first : (rows : List Row) (r : Replacement) → r.before ≤ r.index → r.index < length rows
    → replaced rows r ≡ (slice_range rows 0 r.before ++ r.new ∷ []) ++ (slice_range rows r.before r.index ++ slice_range rows (r.index + 1) (length rows))
new_first rows r below within =
    let one : r.index + 1 ≡ suc r.index = omega arith in
    rw (le-leb r.before r.index below, from_the_start rows r.before, to_the_end rows (r.index + 1) (omega arith), one)
    (sym (append_assoc (take r.before rows) (r.new ∷ []) (slice_range rows r.before r.index ++ drop (suc r.index) rows)))

pub new_later : (rows : List Row) (r : Replacement) → r.index < r.before → r.before ≤ length rows
    → replaced rows r ≡ slice_range rows 0 r.index ++ ((slice_range rows (r.index + 1) r.before ++ r.new ∷ []) ++ slice_range rows r.before (length rows))
new_later rows r above within =
    let one : r.index + 1 ≡ suc r.index = omega arith in
    rw (lt-leb r.before r.index above, from_the_start rows r.index, to_the_end rows r.before within, one)
    (ap (λ rs. take r.index rows ++ rs) (sym (append_assoc (slice_range rows (suc r.index) r.before) (r.new ∷ []) (drop r.before rows))))

item_by : (op : Op) (n most : ℕ) (next : WalkCount) → n ≤ most → option_map Items (size_after op n) ≡ Some next → IsUpTo next (suc most)
item_by op n most next within e =
    elim (size_after op n) as (λ o. size_after op n ≡ o → IsUpTo next (suc most)) [
      | None ↦ λ stops. absurd (let wrong : ◌≡◌ {A = Option WalkCount} None (Some next) = rw stops at e in cc)
      | Some m ↦ λ goes.
          let is : Items m ≡ next = (let here : ◌≡◌ {A = Option WalkCount} (Some (Items m)) (Some next) = rw goes at e in cc) in
          rw (← is) (omega (arith, size_after-le op n m goes))
    ] refl

abbrev is_keys : WalkCount → Bool
is_keys (Items n) = false
is_keys (Keys p q) = true

keys_up_to : (next : WalkCount) (most : ℕ) → is_keys next ≡ true → IsUpTo next most
keys_up_to (Items n) most e = absurd (cc)
keys_up_to (Keys p q) most e = tt

keys_stay : (p q : Presence) (op : Op) (next : WalkCount) → count_next (Keys p q) op ≡ Some next → is_keys next ≡ true
keys_stay p q op next e =
    elim (presence_after p op) as (λ o. presence_after p op ≡ o → is_keys next ≡ true) [
      | None ↦ λ stops. absurd (let wrong : ◌≡◌ {A = Option WalkCount} None (Some next) = rw stops at e in cc)
      | Some one ↦ λ goes.
          elim (presence_after q op) as (λ o. presence_after q op ≡ o → is_keys next ≡ true) [
            | None ↦ λ stops. absurd (let wrong : ◌≡◌ {A = Option WalkCount} None (Some next) = rw (goes, stops) at e in cc)
            | Some other ↦ λ too. let is : Keys one other ≡ next = (let here : ◌≡◌ {A = Option WalkCount} (Some (Keys one other)) (Some next) = rw (goes, too) at e in cc) in rw (← is) refl
          ] refl
    ] refl

pub one_row_up_to : (count next : WalkCount) (op : Op) (most : ℕ) → IsUpTo count most → count_next count op ≡ Some next → IsUpTo next (suc most)
one_row_up_to (Items n) next op most within e = item_by op n most next within e
one_row_up_to (Keys p q) next op most within e = keys_up_to next (suc most) (keys_stay p q op next e)

pub up_to_more : (count : WalkCount) (less more : ℕ) → less ≤ more → IsUpTo count less → IsUpTo count more
up_to_more (Items n) less more within up = omega arith
up_to_more (Keys p q) less more within up = tt

pub rows_up_to : (rows : List Row) (count next : WalkCount) (most : ℕ) → IsUpTo count most → walked rows count ≡ Ok next → IsUpTo next (most + length rows)
rows_up_to [] count next most up e =
    let same : count ≡ next = (let here : ◌≡◌ {A = Result WalkCount Row} (Ok count) (Ok next) = sym (walked-nil count) ∙ e in cc) in
    rw (← same) (up_to_more count most (most + 0) (omega arith) up)
rows_up_to (row ∷ rows) count next most up e =
    elim (count_next count row.op) as (λ o. count_next count row.op ≡ o → IsUpTo next (most + suc (length rows))) [
      | None ↦ λ stops. absurd (let wrong : ◌≡◌ {A = Result WalkCount Row} (Err row) (Ok next) = sym (walked-none row rows count stops) ∙ e in cc)
      | Some to ↦ λ goes.
          up_to_more next (suc most + length rows) (most + suc (length rows)) (omega arith)
          (rows_up_to rows to next (suc most) (one_row_up_to count to row.op most up goes) (sym (walked-some row rows count to goes) ∙ e))
    ] refl

-- after a walk, and after one more row
slice_few : (rows : List Row) (from to : ℕ) → length (slice_range rows from to) ≤ to - from
slice_few rows from to = omega (arith, length-take (to - from) (drop from rows))

pub walked_up_to : (rows : List Row) (from to : ℕ) (count next : WalkCount) (most more : ℕ) → IsUpTo count most → walked (slice_range rows from to) count ≡ Ok next
    → most + (to - from) ≤ more → IsUpTo next more
walked_up_to rows from to count next most more up e within =
    up_to_more next (most + length (slice_range rows from to)) more (omega (arith, slice_few rows from to)) (rows_up_to (slice_range rows from to) count next most up e)

pub read_up_to : (rows : List Row) (many most : ℕ) (count next : WalkCount) → IsUpTo count most → walked (take many rows) count ≡ Ok next → IsUpTo next (most + many)
read_up_to rows many most count next up e =
    up_to_more next (most + length (take many rows)) (most + many) (omega (arith, length-take many rows)) (rows_up_to (take many rows) count next most up e)

pub added_up_to : (rows : List Row) (from to : ℕ) (new : Row) (count next : WalkCount) (most more : ℕ) → IsUpTo count most
    → walked (slice_range rows from to ++ new ∷ []) count ≡ Ok next → most + (to - from) + 1 ≤ more → IsUpTo next more
added_up_to rows from to new count next most more up e within =
    up_to_more next (most + length (slice_range rows from to ++ new ∷ [])) more
    (omega (arith, slice_few rows from to, length-append (slice_range rows from to) (new ∷ []))) (rows_up_to (slice_range rows from to ++ new ∷ []) count next most up e)

-- the row that the count names is the one at the index where it stops
one_later_row : (row : Row) (rows : List Row) (r : Result WalkCount ℕ)
    → option_and_then (slice_get (row ∷ rows)) (result_err (one_later r)) ≡ option_and_then (slice_get rows) (result_err r)
one_later_row row rows (Ok t) = refl
one_later_row row rows (Err i) = refl

pub names_row : (rows : List Row) (count : WalkCount) → result_err (walked rows count) ≡ option_and_then (slice_get rows) (result_err (walked_to rows count))
names_row [] count = ap result_err (walked-nil count) ∙ sym (ap (λ r. option_and_then (slice_get []) (result_err r)) (fold_rows-nil (λ row t. count_next t row.op) count))
names_row (row ∷ rows) count =
    elim (count_next count row.op) as (λ o. count_next count row.op ≡ o
    → result_err (walked (row ∷ rows) count) ≡ option_and_then (slice_get (row ∷ rows)) (result_err (walked_to (row ∷ rows) count))) [
      | None ↦ λ stops.
          ap result_err (walked-none row rows count stops)
          ∙ sym (ap (λ r. option_and_then (slice_get (row ∷ rows)) (result_err r)) (fold_rows-none (λ r t. count_next t r.op) row rows count stops))
      | Some next ↦ λ goes.
          ap result_err (walked-some row rows count next goes) ∙ names_row rows next ∙ sym (one_later_row row rows (walked_to rows next))
          ∙ sym (ap (λ r. option_and_then (slice_get (row ∷ rows)) (result_err r)) (fold_rows-some (λ r t. count_next t r.op) row rows count next goes))
    ] refl

-- counting items, and a walk that counts them, keep pace
abbrev IsItems : WalkCount → ℕ → Type 0
IsItems count n = count ≡ Items n

both_items : (o : Option ℕ) → BothOrNeither IsItems (option_map Items o) o
both_items None = tt
both_items (Some n) = refl

items_keep_pace : (row : Row) (count : WalkCount) (n : ℕ) → Unit {0} → IsItems count n → BothOrNeither IsItems (count_next count row.op) (quantity_after (quantity_of Deq) row.op n)
items_keep_pace row count n any is = rw is (both_items (size_after row.op n))

all_rows : (rows : List Row) → AllByRecursion (λ row. Unit {0}) rows
all_rows [] = tt
all_rows (row ∷ rows) = (tt, all_rows rows)

items_fail : (rows : List Row) → result_err (walked_to rows (Items 0)) ≡ result_err (counted (quantity_of Deq) rows 0)
items_fail rows =
    same_failure IsItems _ _ (folds_agree IsItems (λ row. Unit {0}) (λ row t. count_next t row.op) (λ row n. quantity_after (quantity_of Deq) row.op n)
    items_keep_pace rows (Items 0) 0 (all_rows rows) refl)

-- the operations of the other kinds have no key
no_key : (op : Op) → (kind_of op ≡ Dict → ⊥) → key_of op ≡ None
no_key (Enq v) h = refl
no_key Deq h = refl
no_key (Push v) h = refl
no_key Pop h = refl
no_key (PushL v) h = refl
no_key (PushR v) h = refl
no_key PopL h = refl
no_key PopR h = refl
no_key (Put k v) h = absurd (h refl)
no_key (Del k) h = absurd (h refl)
no_key (Ins k) h = refl
no_key DelMin h = refl

counts_items : (old new : Op) → (kind_of old ≡ Dict → ⊥) → (kind_of new ≡ Dict → ⊥) → count_first old new ≡ Items 0
counts_items old new h i = ap (λ o. count_of_keys o (key_of new)) (no_key old h) ∙ ap (λ o. count_of_keys None o) (no_key new i)

-- an operation of a dictionary has one, and leaves the pairs of the others as they are
has_key : (op : Op) → kind_of op ≡ Dict → (key : ℤ) × (key_of op ≡ Some key) × ((q : ℤ) (n : ℕ) → int_eq q key ≡ false → pair_after q op n ≡ Some n)
has_key (Enq v) h = absurd (cc)
has_key Deq h = absurd (cc)
has_key (Push v) h = absurd (cc)
has_key Pop h = absurd (cc)
has_key (PushL v) h = absurd (cc)
has_key (PushR v) h = absurd (cc)
has_key PopL h = absurd (cc)
has_key PopR h = absurd (cc)
has_key (Put k v) h = (k, refl, λ q n apart. rw apart refl)
has_key (Del k) h = (k, refl, λ q n apart. rw apart refl)
has_key (Ins k) h = absurd (cc)
has_key DelMin h = absurd (cc)

-- the rows after both edits, made from those that replay
pub record IsReplaced (kind : Kind) (rows middle after : List Row) (put index : ℕ) (new old : Row) : Type 0 where
  pub of_kind : AreOfKind kind rows
  pub valid : IsValid kind rows
  pub here : kind_of new.op ≡ kind
  pub middle_is : middle ≡ insert rows put new
  pub there : slice_get middle index ≡ Some old
  pub after_is : after ≡ remove middle index

middle_of_kind : (kind : Kind) (rows middle after : List Row) (put index : ℕ) (new old : Row) → IsReplaced kind rows middle after put index new old → AreOfKind kind middle
middle_of_kind kind rows middle after put index new old made =
    rw made.middle_is (all_with (λ (r : Row). kind_of r.op ≡ kind) rows put new made.of_kind made.here)

after_of_kind : (kind : Kind) (rows middle after : List Row) (put index : ℕ) (new old : Row) → IsReplaced kind rows middle after put index new old → AreOfKind kind after
after_of_kind kind rows middle after put index new old made =
    rw made.after_is (all_without (λ (r : Row). kind_of r.op ≡ kind) middle index (middle_of_kind kind rows middle after put index new old made))

-- the rows of a key that neither row has find their pairs
others_count : (rows middle after : List Row) (put index : ℕ) (new old : Row) (a b : ℤ) → IsReplaced Dict rows middle after put index new old
    → ((q : ℤ) (n : ℕ) → int_eq q a ≡ false → pair_after q old.op n ≡ Some n) → ((q : ℤ) (n : ℕ) → int_eq q b ≡ false → pair_after q new.op n ≡ Some n)
    → (q : ℤ) → int_eq q a ≡ false → int_eq q b ≡ false → result_err (counted_key q after 0) ≡ None
others_count rows middle after put index new old a b made old_passes new_passes q not_a not_b =
    let whole : result_err (counted_key q (take put rows ++ drop put rows) 0) ≡ None =
    rw (take-append-drop put rows) (all_keys rows [] made.of_kind sorted_nil made.valid q) in
    let with_new : result_err (counted_key q middle 0) ≡ None =
    rw made.middle_is (passed_in (keyed q) new (λ n. new_passes q n not_b) (take put rows) (drop put rows) 0 whole) in
    rw made.after_is (passed_out (keyed q) old (λ n. old_passes q n not_a) (take index middle) (drop (suc index) middle) 0
    (rw (← around middle index old made.there) with_new))

dict_fails : (rows middle after : List Row) (put index : ℕ) (new old : Row) → IsReplaced Dict rows middle after put index new old → kind_of old.op ≡ Dict
    → result_err (walked_to after (count_first old.op new.op)) ≡ failure Dict after
dict_fails rows middle after put index new old made was =
    let a = has_key old.op was in
    let b = has_key new.op made.here in
    let start : count_first old.op new.op ≡ Keys (absent a.0) (absent b.0) =
    ap (λ o. count_of_keys o (key_of new.op)) a.1 ∙ ap (λ o. count_of_keys (Some a.0) o) b.1 in
    ap (λ t. result_err (walked_to after t)) start
    ∙ two_keys a.0 b.0 after (after_of_kind Dict rows middle after put index new old made) (others_count rows middle after put index new old a.0 b.0 made a.2 b.2)

items_start : (old new : Row) (kind : Kind) → (kind ≡ Dict → ⊥) → kind_of old.op ≡ kind → kind_of new.op ≡ kind → (rows : List Row)
    → result_err (walked_to rows (count_first old.op new.op)) ≡ result_err (counted (quantity_of Deq) rows 0)
items_start old new kind other was here rows =
    ap (λ t. result_err (walked_to rows t)) (counts_items old.op new.op (λ e. other (sym was ∙ e)) (λ e. other (sym here ∙ e))) ∙ items_fail rows

-- the count stops at the first row that cannot be performed
walk_fails : (kind : Kind) (rows middle after : List Row) (put index : ℕ) (new old : Row) → IsReplaced kind rows middle after put index new old
    → kind_of old.op ≡ kind → result_err (walked_to after (count_first old.op new.op)) ≡ failure kind after
walk_fails Queue rows middle after put index new old made was =
    items_start old new Queue (λ e. cc) was made.here after ∙ sym (line_failure after (all_lines Queue after tt (after_of_kind Queue rows middle after put index new old made)))
walk_fails Stack rows middle after put index new old made was =
    items_start old new Stack (λ e. cc) was made.here after ∙ sym (line_failure after (all_lines Stack after tt (after_of_kind Stack rows middle after put index new old made)))
walk_fails Deque rows middle after put index new old made was =
    items_start old new Deque (λ e. cc) was made.here after ∙ sym (line_failure after (all_lines Deque after tt (after_of_kind Deque rows middle after put index new old made)))
walk_fails Dict rows middle after put index new old made was = dict_fails rows middle after put index new old made was
walk_fails Pq rows middle after put index new old made was =
    items_start old new Pq (λ e. cc) was made.here after ∙ sym (pq_failure after (after_of_kind Pq rows middle after put index new old made))

-- and it names that row
pub count_names : (kind : Kind) (rows middle after : List Row) (put index : ℕ) (new old : Row) → IsReplaced kind rows middle after put index new old
    → kind_of old.op ≡ kind → result_err (walked after (count_first old.op new.op)) ≡ failing_row kind after
count_names kind rows middle after put index new old made was =
    names_row after (count_first old.op new.op) ∙ ap (option_and_then (slice_get after)) (walk_fails kind rows middle after put index new old made was)
