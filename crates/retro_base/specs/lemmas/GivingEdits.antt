-- Rows that replay still do once a row that adds is put in anywhere, or one that takes is taken out: counting never falls
-- short where it begins with more.
use Rattle.std.proofs.Common.{◌≡◌, ℕ, ℤ, zero, suc, ◌+◌, ◌≤◌, Bool, true, false, List, [], ◌∷◌, ◌++◌, length, take, drop, refl, sym, ap, subst, ◌∙◌, arith, Option, Some, None, Ok}
use Rattle.std.specs.Prelude.{if◌then◌else◌}
use Rattle.std.specs.List.{insert, remove, slice_get}
use Rattle.std.specs.Ordering.{int_eq}
use Rattle.std.specs.Result.{result_err}
use Rattle.std.proofs.lemmas.List.{take-append-drop}
use Rattle.retro_base.specs.declared.counting.Quantity.{Quantity}
use Rattle.retro_base.specs.declared.counting.Quantity.TheVariants.{Items, Key}
use Rattle.retro_base.specs.declared.kind.Kind.{Kind}
use Rattle.retro_base.specs.declared.op.Op.{Op}
use Rattle.retro_base.specs.declared.op.Op.TheVariants.{Put, Del}
use Rattle.retro_base.specs.declared.row.Row.{Row}
use Rattle.retro_base.specs.Kind.{adds, kind_of}
use Rattle.retro_base.specs.Replay.{IsValid}
use Rattle.retro_base.specs.Timeline.{AreOfKind}
use Rattle.retro_base.specs.Counting.{one_fewer, pair_after, quantity_of, quantity_after, counted}
use Rattle.retro_base.specs.Facts.{some_is_not_none}
use Rattle.retro_base.specs.lemmas.CountedSizes.{size_by}
use Rattle.retro_base.specs.lemmas.SortedPairs.{same_as_itself}
use Rattle.retro_base.specs.lemmas.Folds.{fold_rows-nil, fold_rows-some, fold_rows-none, fold_rows-append, front_possible, after_possible, between_goes, still_none, ok_same, not_both}
use Rattle.retro_base.specs.lemmas.Counted.{all_count, around, failure_with, failure_without, of_kind_at}
use Rattle.retro_base.specs.Outcomes.{earlier_none, later_none, is_ok, later_ok}

-- more is left where more was there
abbrev Reaches : Option ℕ → Option ℕ → Type 0
Reaches None more = Unit {0}
Reaches (Some n) None = ⊥
Reaches (Some n) (Some m) = n ≤ m

fewer : (n m : ℕ) → n ≤ m → Reaches (one_fewer n) (one_fewer m)
fewer zero m within = tt
fewer (suc n) zero within = absurd (omega arith)
fewer (suc n) (suc m) within = omega arith

set_so : (b : Bool) (n m : ℕ) → n ≤ m → Reaches (if b then Some 1 else Some n) (if b then Some 1 else Some m)
set_so true n m within = omega arith
set_so false n m within = within

taken_so : (b : Bool) (n m : ℕ) → n ≤ m → Reaches (if b then one_fewer n else Some n) (if b then one_fewer m else Some m)
taken_so true n m within = fewer n m within
taken_so false n m within = within

grows_so : (b : Bool) (n m : ℕ) → n ≤ m → Reaches (if b then Some (suc n) else one_fewer n) (if b then Some (suc m) else one_fewer m)
grows_so true n m within = omega arith
grows_so false n m within = fewer n m within

pair_reaches : (key : ℤ) (op : Op) (n m : ℕ) → n ≤ m → Reaches (pair_after key op n) (pair_after key op m)
pair_reaches key (Put k v) n m within = set_so (int_eq key k) n m within
pair_reaches key (Del k) n m within = taken_so (int_eq key k) n m within
pair_reaches key op n m within = within

quantity_reaches : (quantity : Quantity) (op : Op) (n m : ℕ) → n ≤ m → Reaches (quantity_after quantity op n) (quantity_after quantity op m)
quantity_reaches Items op n m within = rw (size_by op n, size_by op m) (grows_so (adds op) n m within)
quantity_reaches (Key key) op n m within = pair_reaches key op n m within

no_none : (n : ℕ) (o : Option ℕ) → o ≡ None → Reaches (Some n) o → ⊥
no_none n None e reaches = reaches
no_none n (Some m) e reaches = absurd (cc)

reached : (n m : ℕ) (o p : Option ℕ) → o ≡ Some n → p ≡ Some m → Reaches o p → n ≤ m
reached n m o p e f reaches = subst (λ q. Reaches (Some n) q) f (subst (λ q. Reaches q p) e reaches)

abbrev counting : Quantity → Row → ℕ → Option ℕ
counting quantity row n = quantity_after quantity row.op n

-- rows that find enough find enough where more is there
more_count : (quantity : Quantity) (rows : List Row) (n m : ℕ) → n ≤ m → result_err (counted quantity rows n) ≡ None → result_err (counted quantity rows m) ≡ None
more_count quantity [] n m within valid = ap result_err (fold_rows-nil (counting quantity) m)
more_count quantity (row ∷ rows) n m within valid =
    elim (quantity_after quantity row.op n) as (λ o. quantity_after quantity row.op n ≡ o → result_err (counted quantity (row ∷ rows) m) ≡ None) [
      | None ↦ λ stops. absurd (some_is_not_none (sym (ap result_err (fold_rows-none (counting quantity) row rows n stops)) ∙ valid))
      | Some less ↦ λ goes.
          elim (quantity_after quantity row.op m) as (λ o. quantity_after quantity row.op m ≡ o → result_err (counted quantity (row ∷ rows) m) ≡ None) [
            | None ↦ λ stops. absurd (no_none less _ stops (subst (λ q. Reaches q (quantity_after quantity row.op m)) goes (quantity_reaches quantity row.op n m within)))
            | Some more ↦ λ on.
                let rest = more_count quantity rows less more (reached less more _ _ goes on (quantity_reaches quantity row.op n m within))
                (earlier_none _ (sym (ap result_err (fold_rows-some (counting quantity) row rows n less goes)) ∙ valid)) in
                ap result_err (fold_rows-some (counting quantity) row rows m more on) ∙ later_none _ rest
          ] refl
    ] refl

at_most_one : (b : Bool) (n m : ℕ) → n ≤ 1 → (if b then Some 1 else Some n) ≡ Some m → m ≤ 1
at_most_one true n m few e = let same : 1 ≡ m = cc in omega arith
at_most_one false n m few e = let same : n ≡ m = cc in omega arith

one_taken : (b : Bool) (n m : ℕ) → n ≤ 1 → (if b then one_fewer n else Some n) ≡ Some m → m ≤ 1
one_taken true zero m few e = absurd (cc)
one_taken true (suc n) m few e = let same : n ≡ m = cc in omega arith
one_taken false n m few e = let same : n ≡ m = cc in omega arith

pair_few : (key : ℤ) (op : Op) (n m : ℕ) → n ≤ 1 → pair_after key op n ≡ Some m → m ≤ 1
pair_few key (Put k v) n m few e = at_most_one (int_eq key k) n m few e
pair_few key (Del k) n m few e = one_taken (int_eq key k) n m few e
pair_few key op n m few e = let same : n ≡ m = cc in omega arith

-- a key has one pair at the most
one_pair : (key : ℤ) (rows : List Row) (n m : ℕ) → n ≤ 1 → counted (Key key) rows n ≡ Ok m → m ≤ 1
one_pair key [] n m few e = let same : n ≡ m = ok_same _ (fold_rows-nil (counting (Key key)) n) e in omega arith
one_pair key (row ∷ rows) n m few e =
    elim (pair_after key row.op n) as (λ o. pair_after key row.op n ≡ o → m ≤ 1) [
      | None ↦ λ stops. absurd (not_both _ (fold_rows-none (counting (Key key)) row rows n stops) e)
      | Some next ↦ λ goes.
          one_pair key rows next m (pair_few key row.op n next few goes)
          (later_ok _ m (sym (fold_rows-some (counting (Key key)) row rows n next goes) ∙ e))
    ] refl

-- a row that adds leaves at least as much as was there
added_more : (op : Op) (rows : List Row) (n : ℕ) → adds op ≡ true → counted (quantity_of op) rows 0 ≡ Ok n
    → (more : ℕ) × (quantity_after (quantity_of op) op n ≡ Some more) × (n ≤ more)
added_more (Put k v) rows n adding e = (1, rw (same_as_itself k) refl, one_pair k rows 0 n (omega arith) e)
added_more (Del k) rows n adding e = absurd (cc)
added_more op rows n adding e = (suc n, size_by op n ∙ ap (λ b. if b then Some (suc n) else one_fewer n) adding, omega arith)

less_by : (n m : ℕ) → one_fewer n ≡ Some m → m ≤ n
less_by zero m e = absurd (cc)
less_by (suc n) m e = let same : n ≡ m = cc in omega arith

less_where : (b : Bool) (n m : ℕ) → (if b then one_fewer n else Some n) ≡ Some m → m ≤ n
less_where true n m e = less_by n m e
less_where false n m e = let same : n ≡ m = cc in omega arith

-- a row that takes leaves no more than was there
taken_less : (op : Op) (n m : ℕ) → adds op ≡ false → quantity_after (quantity_of op) op n ≡ Some m → m ≤ n
taken_less (Put k v) n m taking e = absurd (cc)
taken_less (Del k) n m taking e = less_where (int_eq k k) n m e
taken_less op n m taking e = less_by n m (sym (size_by op n ∙ ap (λ b. if b then Some (suc n) else one_fewer n) taking) ∙ e)

-- a row that adds may be put in anywhere
pub adding_row_replays : (kind : Kind) (rows : List Row) (place : ℕ) (row : Row) → AreOfKind kind rows → IsValid kind rows → kind_of row.op ≡ kind → adds row.op ≡ true
    → IsValid kind (insert rows place row)
adding_row_replays kind rows place row all valid here adding =
    let quantity = quantity_of row.op in
    let before = take place rows in
    let after = drop place rows in
    let whole : result_err (counted quantity (before ++ after) 0) ≡ None = rw (take-append-drop place rows) (all_count kind rows row.op all valid here) in
    let front = is_ok (counted quantity before 0) (front_possible (counting quantity) before after 0 whole) in
    let more = added_more row.op before front.0 adding front.1 in
    let rest = more_count quantity after front.0 more.0 more.2 (after_possible (counting quantity) before after 0 front.0 front.1 whole) in
    failure_with kind rows place row all valid here
    ∙ ap result_err (between_goes (counting quantity) before after row 0 front.0 more.0 front.1 more.1) ∙ still_none (length before + 1) _ rest

-- a row that takes may be taken out
pub taking_row_can_go : (kind : Kind) (rows : List Row) (place : ℕ) (row : Row) → AreOfKind kind rows → IsValid kind rows → slice_get rows place ≡ Some row → adds row.op ≡ false
    → IsValid kind (remove rows place)
taking_row_can_go kind rows place row all valid at taking =
    let quantity = quantity_of row.op in
    let here = of_kind_at kind rows place row all at in
    let before = take place rows in
    let after = drop (suc place) rows in
    let whole : result_err (counted quantity (before ++ row ∷ after) 0) ≡ None = rw (← around rows place row at) (all_count kind rows row.op all valid here) in
    let front = is_ok (counted quantity before 0) (front_possible (counting quantity) before (row ∷ after) 0 whole) in
    let with_row : result_err (counted quantity (row ∷ after) front.0) ≡ None = after_possible (counting quantity) before (row ∷ after) 0 front.0 front.1 whole in
    elim (quantity_after quantity row.op front.0) as (λ o. quantity_after quantity row.op front.0 ≡ o → IsValid kind (remove rows place)) [
      | None ↦ λ stops. absurd (some_is_not_none (sym (ap result_err (fold_rows-none (counting quantity) row after front.0 stops)) ∙ with_row))
      | Some less ↦ λ goes.
          let rest = more_count quantity after less front.0 (taken_less row.op front.0 less taking goes)
          (earlier_none _ (sym (ap result_err (fold_rows-some (counting quantity) row after front.0 less goes)) ∙ with_row)) in
          failure_without kind rows place row all valid at
          ∙ ap result_err (fold_rows-append (counting quantity) before after 0 front.0 front.1) ∙ still_none (length before) _ rest
    ] refl
