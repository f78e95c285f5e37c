-- Of a dictionary, whether two keys are there decides which row fails first, where the rows of all other keys find their pairs.
use Rattle.std.proofs.Common.{◌≡◌, ℕ, ℤ, suc, true, false, Bool, ◌||◌, ◌⊎◌, inl, inr, cond, List, [], ◌∷◌, ◌++◌, length, refl, sym, ap, ◌∙◌, append_assoc, Option, Some, None, Result, Ok, Err}
use Rattle.std.specs.Option.{option_map}
use Rattle.std.specs.Ordering.{int_eq}
use Rattle.std.specs.Result.{result_err}
use Rattle.retro_base.specs.declared.kind.Kind.TheVariants.{Dict}
use Rattle.retro_base.specs.declared.op.Op.{Op}
use Rattle.retro_base.specs.declared.op.Op.TheVariants.{Enq, Deq, Push, Pop, PushL, PushR, PopL, PopR, Put, Del, Ins, DelMin}
use Rattle.retro_base.specs.declared.row.Row.{Row}
use Rattle.retro_base.specs.Counting.{one_fewer, pair_after, quantity_of, quantity_after, counted}
use Rattle.retro_base.specs.Kind.{kind_of}
use Rattle.retro_base.specs.Replay.{one_later, fold_rows, run}
use Rattle.retro_base.specs.State.{pairs, step}
use Rattle.retro_base.specs.Timeline.{AreOfKind}
use Rattle.retro_base.specs.lemmas.CountedKeys.{one_key}
use Rattle.retro_base.specs.lemmas.Folds.{not_both, ok_same, err_same, fold_rows-nil, fold_rows-some, fold_rows-none, fold_rows-append_err, fold_rows-last, between_stops, front_possible, one_later-err}
use Rattle.retro_base.specs.lemmas.SortedPairs.{same_key, sorted_nil}
use Rattle.timeline_undo.specs.declared.walk_count.Presence.{Presence}
use Rattle.timeline_undo.specs.declared.walk_count.WalkCount.{WalkCount}
use Rattle.timeline_undo.specs.declared.walk_count.WalkCount.TheVariants.{Keys}
use Rattle.timeline_undo.specs.WalkCounts.{absent, count_next, there_after}
use Rattle.retro_base.specs.Outcomes.{err_of, is_ok, later_ok}

-- the count after rows, or the index of the first one that finds nothing to take
abbrev pub walked_to : List Row → WalkCount → Result WalkCount ℕ
walked_to rows count = fold_rows (λ row t. count_next t row.op) rows count

-- so many pairs of the key are there
abbrev pairs_if : Bool → ℕ
pairs_if there = cond there 1 0

pair_set : (b there : Bool) → cond b (Some 1) (Some (pairs_if there)) ≡ Some (pairs_if (b || there))
pair_set true there = refl
pair_set false there = refl

pair_taken : (b there : Bool) → cond b (one_fewer (pairs_if there)) (Some (pairs_if there)) ≡ option_map pairs_if (cond b (cond there (Some false) None) (Some there))
pair_taken true true = refl
pair_taken true false = refl
pair_taken false there = refl

-- the pairs of a key are counted by whether it is there
counts_presence : (key : ℤ) (op : Op) (there : Bool) → pair_after key op (pairs_if there) ≡ option_map pairs_if (there_after key op there)
counts_presence key (Enq v) there = refl
counts_presence key Deq there = refl
counts_presence key (Push v) there = refl
counts_presence key Pop there = refl
counts_presence key (PushL v) there = refl
counts_presence key (PushR v) there = refl
counts_presence key PopL there = refl
counts_presence key PopR there = refl
counts_presence key (Put k v) there = pair_set (int_eq key k) there
counts_presence key (Del k) there = pair_taken (int_eq key k) there
counts_presence key (Ins k) there = refl
counts_presence key DelMin there = refl

-- counting the pairs of a key, along rows too
abbrev pub keyed : ℤ → Row → ℕ → Option ℕ
keyed key row n = quantity_after (quantity_of (Del key)) row.op n

abbrev pub counted_key : ℤ → List Row → ℕ → Result ℕ ℕ
counted_key key rows n = counted (quantity_of (Del key)) rows n

-- a fold that fails does so at a row before which it has come to a state
record StopsAt {S : Type 0} (next_of : Row → S → Option S) (rows : List Row) (s : S) (index : ℕ) : Type 0 where
  before : List Row
  row : Row
  after : List Row
  reached : S
  split : rows ≡ before ++ row ∷ after
  at : length before ≡ index
  goes : fold_rows next_of before s ≡ Ok reached
  stops : next_of row reached ≡ None

stops_at : {S : Type 0} (next_of : Row → S → Option S) (rows : List Row) (s : S) (index : ℕ) → fold_rows next_of rows s ≡ Err index → StopsAt next_of rows s index
stops_at next_of [] s index e = absurd (not_both _ e (fold_rows-nil next_of s))
stops_at next_of (first ∷ rows) s index e =
    elim (next_of first s) as (λ o. next_of first s ≡ o → StopsAt next_of (first ∷ rows) s index) [
      | None ↦ λ stops. record {
        before = [];
        row = first;
        after = rows;
        reached = s;
        split = refl;
        at = err_same _ (fold_rows-none next_of first rows s stops) e;
        goes = fold_rows-nil next_of s;
        stops = stops;
      }
      | Some t ↦ λ goes.
          let fails = one_later-err _ index (sym (fold_rows-some next_of first rows s t goes) ∙ e) in
          let rest = stops_at next_of rows t fails.0 fails.1 in record {
            before = first ∷ rest.before;
            row = rest.row;
            after = rest.after;
            reached = rest.reached;
            split = ap (λ rs. first ∷ rs) rest.split;
            at = ap suc rest.at ∙ sym fails.2;
            goes = fold_rows-some next_of first rest.before s t goes ∙ ap one_later rest.goes;
            stops = rest.stops;
          }
    ] refl

-- a count of two keys that has come along all rows has counted both
record Follows (rows : List Row) (p q : Presence) (count : WalkCount) : Type 0 where
  first : Presence
  second : Presence
  is : count ≡ Keys first second
  first_key : first.key ≡ p.key
  second_key : second.key ≡ q.key
  first_counts : counted_key p.key rows (pairs_if p.there) ≡ Ok (pairs_if first.there)
  second_counts : counted_key q.key rows (pairs_if q.there) ≡ Ok (pairs_if second.there)

abbrev with_there : Presence → Bool → Presence
with_there p there = record p { there = there }

follows : (rows : List Row) (p q : Presence) (count : WalkCount) → walked_to rows (Keys p q) ≡ Ok count → Follows rows p q count
follows [] p q count e = record {
  first = p;
  second = q;
  is = ok_same _ e (fold_rows-nil (λ row t. count_next t row.op) (Keys p q));
  first_key = refl;
  second_key = refl;
  first_counts = fold_rows-nil (keyed p.key) (pairs_if p.there);
  second_counts = fold_rows-nil (keyed q.key) (pairs_if q.there);
}
follows (row ∷ rows) p q count e =
    elim (there_after p.key row.op p.there) as (λ o. there_after p.key row.op p.there ≡ o → Follows (row ∷ rows) p q count) [
      | None ↦ λ stops. absurd (not_both _ (fold_rows-none (λ row t. count_next t row.op) row rows (Keys p q) (rw stops refl)) e)
      | Some here ↦ λ goes.
          elim (there_after q.key row.op q.there) as (λ o. there_after q.key row.op q.there ≡ o → Follows (row ∷ rows) p q count) [
            | None ↦ λ stops. absurd (not_both _ (fold_rows-none (λ row t. count_next t row.op) row rows (Keys p q) (rw (goes, stops) refl)) e)
            | Some there ↦ λ too.
                let rest = follows rows (with_there p here) (with_there q there) count
                (later_ok _ count (sym (fold_rows-some (λ row t. count_next t row.op) row rows (Keys p q) (Keys (with_there p here) (with_there q there)) (rw (goes, too) refl)) ∙ e)) in record {
                  first = rest.first;
                  second = rest.second;
                  is = rest.is;
                  first_key = rest.first_key;
                  second_key = rest.second_key;
                  first_counts = fold_rows-some (keyed p.key) row rows (pairs_if p.there) (pairs_if here) (counts_presence p.key row.op p.there ∙ ap (option_map pairs_if) goes) ∙ ap one_later rest.first_counts;
                  second_counts = fold_rows-some (keyed q.key) row rows (pairs_if q.there) (pairs_if there) (counts_presence q.key row.op q.there ∙ ap (option_map pairs_if) too) ∙ ap one_later rest.second_counts;
                }
          ] refl
    ] refl

no_err : {S : Type 0} (r : Result S ℕ) (s : S) → r ≡ Ok s → result_err r ≡ None
no_err r s e = ap result_err e

apart_from : (q k key : ℤ) → int_eq q k ≡ false → int_eq k key ≡ true → int_eq q key ≡ false
apart_from q k key apart same = rw (← same_key k key same) apart

-- the row that finds no pair of its key leaves those of other keys as they are
leaves_others : (op : Op) (k : ℤ) (there : Bool) → kind_of op ≡ Dict → there_after k op there ≡ None → (q : ℤ) (n : ℕ) → int_eq q k ≡ false → pair_after q op n ≡ Some n
leaves_others (Enq v) k there h none q n apart = absurd (cc)
leaves_others Deq k there h none q n apart = absurd (cc)
leaves_others (Push v) k there h none q n apart = absurd (cc)
leaves_others Pop k there h none q n apart = absurd (cc)
leaves_others (PushL v) k there h none q n apart = absurd (cc)
leaves_others (PushR v) k there h none q n apart = absurd (cc)
leaves_others PopL k there h none q n apart = absurd (cc)
leaves_others PopR k there h none q n apart = absurd (cc)
leaves_others (Put key v) k there h none q n apart = absurd (cc)
leaves_others (Del key) k there h none q n apart =
    elim (int_eq k key) as (λ b. int_eq k key ≡ b → pair_after q (Del key) n ≡ Some n) [
      | true ↦ λ same. rw (apart_from q k key apart same) refl
      | false ↦ λ other. absurd (let wrong : Some there ≡ None = rw other at none in cc)
    ] refl
leaves_others (Ins key) k there h none q n apart = absurd (cc)
leaves_others DelMin k there h none q n apart = absurd (cc)

regroup : (before after : List Row) (row : Row) → before ++ row ∷ after ≡ (before ++ row ∷ []) ++ after
regroup before after row = sym (append_assoc before (row ∷ []) after)

front_of_kind : (before : List Row) (row : Row) (after : List Row) → AreOfKind Dict (before ++ row ∷ after) → AreOfKind Dict (before ++ row ∷ [])
front_of_kind [] row after all = (all.0, tt)
front_of_kind (first ∷ before) row after all = (all.0, front_of_kind before row after all.1)

row_of_kind : (before : List Row) (row : Row) (after : List Row) → AreOfKind Dict (before ++ row ∷ after) → kind_of row.op ≡ Dict
row_of_kind [] row after all = all.0
row_of_kind (first ∷ before) row after all = row_of_kind before row after all.1

-- the first row that finds no pair of its key, where the rows before it find theirs, is the first one that cannot be performed
fails_there : (k : ℤ) (before after : List Row) (row : Row) (there : Bool) → AreOfKind Dict (before ++ row ∷ after)
    → counted_key k before 0 ≡ Ok (pairs_if there) → there_after k row.op there ≡ None
    → ((q : ℤ) → int_eq q k ≡ false → result_err (counted_key q before 0) ≡ None)
    → result_err (run (before ++ row ∷ after) (pairs [])) ≡ Some (length before)
fails_there k before after row there all counts none others =
    let front = before ++ row ∷ [] in
    let stuck : keyed k row (pairs_if there) ≡ None = counts_presence k row.op there ∙ ap (option_map pairs_if) none in
    let here : counted_key k front 0 ≡ Err (length before) = between_stops (keyed k) before [] row 0 (pairs_if there) counts stuck in
    let first : result_err (run front (pairs [])) ≡ Some (length before) =
    one_key k front [] (front_of_kind before row after all) sorted_nil
    (λ q apart.
    let found = is_ok (counted_key q before 0) (others q apart) in
    no_err _ found.0 (fold_rows-last (keyed q) before row 0 found.0 found.0 found.1 (leaves_others row.op k there (row_of_kind before row after all) none q found.0 apart)))
    ∙ ap result_err here in
    ap (λ rs. result_err (run rs (pairs []))) (regroup before after row)
    ∙ ap result_err (fold_rows-append_err step front after (pairs []) (length before) (err_of _ _ first))

-- a key is one of these, or its rows find their pairs
either_key : (q k : ℤ) (rows : List Row) → result_err (counted_key k rows 0) ≡ None → (int_eq q k ≡ false → result_err (counted_key q rows 0) ≡ None)
    → result_err (counted_key q rows 0) ≡ None
either_key q k rows one other =
    elim (int_eq q k) as (λ b. int_eq q k ≡ b → result_err (counted_key q rows 0) ≡ None) [
      | true ↦ λ same. rw (same_key q k same) one
      | false ↦ λ apart. other apart
    ] refl

-- a row at which a count of two keys stops finds no pair of one of them
abbrev StopsOne : ℤ → ℤ → Op → Bool → Bool → Type 0
StopsOne a b op here there = (there_after a op here ≡ None) ⊎ (there_after b op there ≡ None)

stuck_of : (p q : Presence) (a b : ℤ) (row : Row) → p.key ≡ a → q.key ≡ b → count_next (Keys p q) row.op ≡ None → StopsOne a b row.op p.there q.there
stuck_of p q a b row is_a is_b stops =
    elim (there_after p.key row.op p.there) as (λ o. there_after p.key row.op p.there ≡ o → StopsOne a b row.op p.there q.there) [
      | None ↦ λ none. inl (rw (← is_a) none)
      | Some here ↦ λ goes.
          elim (there_after q.key row.op q.there) as (λ o. there_after q.key row.op q.there ≡ o → StopsOne a b row.op p.there q.there) [
            | None ↦ λ none. inr (rw (← is_b) none)
            | Some there ↦ λ too. absurd (let wrong : Some (Keys (with_there p here) (with_there q there)) ≡ None = rw (goes, too) at stops in cc)
          ] refl
    ] refl

first_of_two : (a b : ℤ) (before after : List Row) (row : Row) (here there : Bool) → AreOfKind Dict (before ++ row ∷ after)
    → counted_key a before 0 ≡ Ok (pairs_if here) → counted_key b before 0 ≡ Ok (pairs_if there) → StopsOne a b row.op here there
    → ((q : ℤ) → int_eq q a ≡ false → int_eq q b ≡ false → result_err (counted_key q before 0) ≡ None)
    → result_err (run (before ++ row ∷ after) (pairs [])) ≡ Some (length before)
first_of_two a b before after row here there all counts_a counts_b (inl none) others =
    fails_there a before after row here all counts_a none (λ q apart. either_key q b before (no_err _ _ counts_b) (others q apart))
first_of_two a b before after row here there all counts_a counts_b (inr none) others =
    fails_there b before after row there all counts_b none (λ q apart. either_key q a before (no_err _ _ counts_a) (λ not_a. others q not_a apart))

-- where the rows of all other keys find their pairs, the first failure is that of the rows of two keys
pub two_keys : (a b : ℤ) (rows : List Row) → AreOfKind Dict rows
    → ((q : ℤ) → int_eq q a ≡ false → int_eq q b ≡ false → result_err (counted_key q rows 0) ≡ None)
    → result_err (walked_to rows (Keys (absent a) (absent b))) ≡ result_err (run rows (pairs []))
two_keys a b rows all others =
    elim (walked_to rows (Keys (absent a) (absent b))) as (λ r. walked_to rows (Keys (absent a) (absent b)) ≡ r → result_err r ≡ result_err (run rows (pairs []))) [
      | Ok count ↦ λ e.
          let along = follows rows (absent a) (absent b) count e in
          sym (one_key a rows [] all sorted_nil (λ q apart. either_key q b rows (no_err _ _ along.second_counts) (others q apart))
          ∙ no_err _ _ along.first_counts)
      | Err index ↦ λ e.
          let stop = stops_at (λ row t. count_next t row.op) rows (Keys (absent a) (absent b)) index e in
          let along = follows stop.before (absent a) (absent b) stop.reached stop.goes in
          let here : AreOfKind Dict (stop.before ++ stop.row ∷ stop.after) = rw (← stop.split) all in
          let before_all : (q : ℤ) → int_eq q a ≡ false → int_eq q b ≡ false → result_err (counted_key q stop.before 0) ≡ None =
          λ q not_a not_b. front_possible (keyed q) stop.before (stop.row ∷ stop.after) 0 (rw (← stop.split) (others q not_a not_b)) in
          let fails : result_err (run (stop.before ++ stop.row ∷ stop.after) (pairs [])) ≡ Some (length stop.before) =
          first_of_two a b stop.before stop.after stop.row along.first.there along.second.there here
          (along.first_counts) (along.second_counts) (stuck_of along.first along.second a b stop.row along.first_key along.second_key (rw along.is at stop.stops)) before_all in
          ap (λ n. Some n) (sym stop.at) ∙ sym fails ∙ ap (λ rs. result_err (run rs (pairs []))) (sym stop.split)
    ] refl
