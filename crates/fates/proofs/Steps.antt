-- A row after it takes what a row put in on to its next standing, or out; a row before it is counted.
use Rattle.std.proofs.Common.{◌≡◌, ◌≢◌, ℕ, ℤ, pos, zero, suc, Bool, true, false, cond, List, [], ◌∷◌, ◌++◌, refl, sym, ap, subst, ◌∙◌, arith, Option, Some, None, inl, inr}
use Rattle.std.specs.Prelude.{◌+◌, ◌-◌, ◌<◌, ◌≤◌, slice_get}
use Rattle.std.specs.Ordering.{int_eq}
use Rattle.std.proofs.lemmas.Bool.{cases_lt}
use Rattle.fates.specs.declared.standing.Standing.{Standing}
use Rattle.fates.specs.declared.standing.Standing.TheVariants.{InLine, AtKey, AfterLesser}
use Rattle.fates.specs.Holding.{Stands}
use Rattle.retro_base.specs.Holders.{holders, holds, numbered, numbered_op}
use Rattle.fates.specs.Standings.{after_row, count_after, counts, standing_of, standing_by, line_after, entry_after, pair_after, without_left, without_right, without_least, IsUpTo}
use Rattle.fates.proofs.Held.{is_held}
use Rattle.fates.proofs.InLines.{LineGoes, line_goes}
use Rattle.fates.proofs.AfterLessers.{EntryGoes, entry_goes, entry_is_held}
use Rattle.fates.proofs.AtKeys.{PairGoes, pair_goes, pair_is_held}
use Rattle.fates.proofs.BeforeOwn.{HasItems, HasPairs, HasLesser, items_on, pairs_on, lesser_on, last_put, first_put, pair_put, entry_put}
use Rattle.fates.proofs.Numbering.{holders_first, holders_next}
use Rattle.retro_base.specs.declared.op.Op.{Op}
use Rattle.retro_base.specs.declared.op.Op.TheVariants.{Enq, Deq, Push, Pop, PushL, PushR, PopL, PopR, Put, Del, Ins, DelMin}
use Rattle.retro_base.specs.declared.row.Entry.{Entry}
use Rattle.retro_base.specs.declared.row.Row.{Row}
use Rattle.retro_base.specs.Kind.{adds, kind_of}
use Rattle.retro_base.specs.State.{State, items, perform, step, empty, comes_before}
use Rattle.retro_base.specs.OrderLaws.{all_at}
use Rattle.retro_base.specs.Timeline.{HaveOwnNumbers, IsReplayable}
use Rattle.retro_base.specs.lemmas.SortedPairs.{sorted_nil}
use Rattle.retro_base.specs.Facts.{some_is}

-- what becomes of it at a row
abbrev pub Goes : Option Standing → ℕ → State → Type 0
Goes None number state = holds number state ≡ false
Goes (Some standing) number state = Stands standing number state

line_so : (o : Option Standing) (number : ℕ) (state : State) → LineGoes number state o → Goes o number state
line_so None number state goes = goes
line_so (Some (InLine left right)) number state goes = goes
line_so (Some (AtKey key)) number state goes = absurd goes
line_so (Some (AfterLesser entry lesser)) number state goes = absurd goes

pair_so : (o : Option Standing) (number : ℕ) (state : State) → PairGoes number state o → Goes o number state
pair_so None number state goes = goes
pair_so (Some (InLine left right)) number state goes = absurd goes
pair_so (Some (AtKey key)) number state goes = goes
pair_so (Some (AfterLesser entry lesser)) number state goes = absurd goes

entry_so : (o : Option Standing) (number : ℕ) (state : State) → EntryGoes number state o → Goes o number state
entry_so None number state goes = goes
entry_so (Some (InLine left right)) number state goes = absurd goes
entry_so (Some (AtKey key)) number state goes = absurd goes
entry_so (Some (AfterLesser entry lesser)) number state goes = goes

pub goes_on : (standing : Standing) (number : ℕ) (row : Row) (before state : State) → row.number ≢ number → Stands standing number before
    → step (numbered row) before ≡ Some state → Goes (after_row standing row) number state
goes_on (InLine left right) number row before state apart stands e =
    line_so (line_after left right row.op) number state (line_goes row.op number row.number left right before state apart stands e)
goes_on (AtKey key) number row before state apart stands e =
    pair_so (pair_after key row.op) number state (pair_goes row.op number row.number key before state apart stands e)
goes_on (AfterLesser entry lesser) number row before state apart stands e =
    subst (λ n. Goes (entry_after entry lesser row.number row.op) n state) stands.0
    (entry_so (entry_after entry lesser row.number row.op) entry.number state
    (entry_goes row.op row.number entry lesser before state (λ same. apart (same ∙ stands.0)) stands.1 e))

pub is_there : (standing : Standing) (number : ℕ) (state : State) → Stands standing number state → holds number state ≡ true
is_there (InLine left right) number state stands = rw stands.is (is_held number stands.front stands.back)
is_there (AtKey key) number state stands = rw stands.is (pair_is_held number key stands.held stands.here)
is_there (AfterLesser entry lesser) number state stands =
    subst (λ n. holds n state ≡ true) stands.0 (rw stands.1.is (entry_is_held entry stands.1.front stands.1.back))

-- what is there before its own row, with so many counted
abbrev ReadyFor : Op → ℕ → ℕ → State → Type 0
ReadyFor (Put key value) number count state = HasPairs number state
ReadyFor (Ins key) number count state = HasLesser (record { key = key; number = number }) count state
ReadyFor op number count state = HasItems number count state

abbrev pub Ready : Row → ℕ → State → Type 0
Ready own count state = ReadyFor own.op own.number count state

ready_on : (op : Op) (number count : ℕ) (row : Row) (before state : State) → row.number ≢ number → ReadyFor op number count before
    → step (numbered row) before ≡ Some state → ReadyFor op number (count_after (record { number = number; time = 0; op = op }) count row) state
ready_on (Enq v) number count row before state apart ready e = items_on row.op number row.number count before state apart ready e
ready_on Deq number count row before state apart ready e = items_on row.op number row.number count before state apart ready e
ready_on (Push v) number count row before state apart ready e = items_on row.op number row.number count before state apart ready e
ready_on Pop number count row before state apart ready e = items_on row.op number row.number count before state apart ready e
ready_on (PushL v) number count row before state apart ready e = items_on row.op number row.number count before state apart ready e
ready_on (PushR v) number count row before state apart ready e = items_on row.op number row.number count before state apart ready e
ready_on PopL number count row before state apart ready e = items_on row.op number row.number count before state apart ready e
ready_on PopR number count row before state apart ready e = items_on row.op number row.number count before state apart ready e
ready_on (Put k v) number count row before state apart ready e = pairs_on row.op number row.number before state apart ready e
ready_on (Del k) number count row before state apart ready e = items_on row.op number row.number count before state apart ready e
ready_on (Ins k) number count row before state apart ready e =
    lesser_on row.op row.number (record { key = k; number = number }) count before state apart ready e
ready_on DelMin number count row before state apart ready e = items_on row.op number row.number count before state apart ready e

pub counted_on : (own : Row) (count : ℕ) (row : Row) (before state : State) → row.number ≢ own.number → Ready own count before
    → step (numbered row) before ≡ Some state → Ready own (count_after own count row) state
counted_on own count row before state apart ready e = ready_on own.op own.number count row before state apart ready e

last_so : (number : ℕ) (op : Op) (before state : State) → perform op number before ≡ Some state
    → ((line : List ℤ) → perform op number (items line) ≡ Some (items (line ++ pos number ∷ [])))
    → (line : List ℤ) → before ≡ items line → state ≡ items (line ++ pos number ∷ [])
last_so number op before state e puts line is = some_is state _ (sym (puts line) ∙ ap (perform op number) (sym is) ∙ e)

first_so : (number : ℕ) (op : Op) (before state : State) → perform op number before ≡ Some state
    → ((line : List ℤ) → perform op number (items line) ≡ Some (items (pos number ∷ line)))
    → (line : List ℤ) → before ≡ items line → state ≡ items (pos number ∷ line)
first_so number op before state e puts line is = some_is state _ (sym (puts line) ∙ ap (perform op number) (sym is) ∙ e)

own_on : (op : Op) (number time count : ℕ) (before state : State) → adds op ≡ true → ReadyFor op number count before
    → perform (numbered_op number op) number before ≡ Some state → Stands (standing_of (record { number = number; time = time; op = op }) count) number state
unfolding perform
own_on (Enq v) number time count before state adding ready e = last_put number count before state ready (last_so number (Enq (pos number)) before state e (λ line. refl))
own_on (PushR v) number time count before state adding ready e = last_put number count before state ready (last_so number (PushR (pos number)) before state e (λ line. refl))
own_on (Push v) number time count before state adding ready e = first_put number count before state ready (first_so number (Push (pos number)) before state e (λ line. refl))
own_on (PushL v) number time count before state adding ready e = first_put number count before state ready (first_so number (PushL (pos number)) before state e (λ line. refl))
own_on (Put k v) number time count before state adding ready e = pair_put k v number before state ready e
own_on (Ins k) number time count before state adding ready e = (refl, entry_put k number count before state ready e)
own_on Deq number time count before state adding ready e = absurd (cc)
own_on Pop number time count before state adding ready e = absurd (cc)
own_on PopL number time count before state adding ready e = absurd (cc)
own_on PopR number time count before state adding ready e = absurd (cc)
own_on (Del k) number time count before state adding ready e = absurd (cc)
own_on DelMin number time count before state adding ready e = absurd (cc)

-- right after its own row it stands where the count says
pub own_stands : (own : Row) (count : ℕ) (before state : State) → adds own.op ≡ true → Ready own count before → step (numbered own) before ≡ Some state
    → Stands (standing_of own count) own.number state
own_stands own count before state adding ready e = own_on own.op own.number own.time count before state adding ready e

-- Before the first row nothing is there.
ready_first : (op : Op) (number : ℕ) → adds op ≡ true → ReadyFor op number 0 (empty (kind_of op))
ready_first (Enq v) number adding = record { line = []; is = refl; count_is = refl; none = refl }
ready_first (Push v) number adding = record { line = []; is = refl; count_is = refl; none = refl }
ready_first (PushL v) number adding = record { line = []; is = refl; count_is = refl; none = refl }
ready_first (PushR v) number adding = record { line = []; is = refl; count_is = refl; none = refl }
ready_first (Put k v) number adding = record { held = []; is = refl; sorted = sorted_nil; none = refl }
ready_first (Ins k) number adding = record { front = []; back = []; is = refl; count_is = refl; before = tt; after = tt; none_front = refl; none_back = refl }
ready_first Deq number adding = absurd (cc)
ready_first Pop number adding = absurd (cc)
ready_first PopL number adding = absurd (cc)
ready_first PopR number adding = absurd (cc)
ready_first (Del k) number adding = absurd (cc)
ready_first DelMin number adding = absurd (cc)

pub counted_first : (own : Row) (rows : List Row) → adds own.op ≡ true → Ready own 0 (holders (kind_of own.op) rows 0)
counted_first own rows adding = rw (holders_first (kind_of own.op) rows) (ready_first own.op own.number adding)

-- Rows at different places have different numbers.
pub numbers_apart : (rows : List Row) (i j : ℕ) (first second : Row) → HaveOwnNumbers rows → slice_get rows i ≡ Some first → slice_get rows j ≡ Some second → i < j
    → second.number ≢ first.number
numbers_apart [] i j first second own at there before = absurd (cc)
numbers_apart (row ∷ rows) zero zero first second own at there before = absurd (omega arith)
numbers_apart (row ∷ rows) zero (suc j) first second own at there before =
    let same : row ≡ first = cc in
    subst (λ r. second.number ≢ r.number) same (all_at (λ r. r.number ≢ row.number) rows j second own.0 there)
numbers_apart (row ∷ rows) (suc i) zero first second own at there before = absurd (omega arith)
numbers_apart (row ∷ rows) (suc i) (suc j) first second own at there before = numbers_apart rows i j first second own.1 at there (omega arith)

-- One more row before its own is counted.
pub count_next : (rows : List Row) (index place count : ℕ) (own row : Row) → IsReplayable (kind_of own.op) rows → slice_get rows place ≡ Some own → slice_get rows index ≡ Some row
    → index < place → Ready own count (holders (kind_of own.op) rows index) → Ready own (count_after own count row) (holders (kind_of own.op) rows (suc index))
count_next rows index place count own row replayable here at before ready =
    counted_on own count row (holders (kind_of own.op) rows index) (holders (kind_of own.op) rows (suc index))
    (λ same. numbers_apart rows index place row own replayable.own_numbers at here before (sym same)) ready
    (holders_next (kind_of own.op) rows index row replayable.of_kind replayable.valid at)

pub count_up : (own row : Row) (count n : ℕ) → count ≤ n → count_after own count row ≤ n + 1
count_up own row count n few = elim (adds row.op) as (λ b. cond b (cond (counts own row) (count + 1) count) (count - 1) ≤ n + 1) [
  | true ↦ elim (counts own row) as (λ b. cond b (count + 1) count ≤ n + 1) [ true ↦ omega arith | false ↦ omega arith ]
  | false ↦ omega arith
]

-- right after its own row
pub stands_first : (rows : List Row) (place count : ℕ) (own : Row) → IsReplayable (kind_of own.op) rows → slice_get rows place ≡ Some own → adds own.op ≡ true
    → Ready own count (holders (kind_of own.op) rows place) → Stands (standing_of own count) own.number (holders (kind_of own.op) rows (suc place))
stands_first rows place count own replayable here adding ready =
    own_stands own count (holders (kind_of own.op) rows place) (holders (kind_of own.op) rows (suc place)) adding ready
    (holders_next (kind_of own.op) rows place own replayable.of_kind replayable.valid here)

few_by : (op : Op) (number count n : ℕ) → count ≤ n → IsUpTo (standing_by op number count) n
few_by (Enq v) number count n few = (few, omega arith)
few_by Deq number count n few = (few, omega arith)
few_by (Push v) number count n few = (omega arith, few)
few_by Pop number count n few = (few, omega arith)
few_by (PushL v) number count n few = (omega arith, few)
few_by (PushR v) number count n few = (few, omega arith)
few_by PopL number count n few = (few, omega arith)
few_by PopR number count n few = (few, omega arith)
few_by (Put k v) number count n few = tt
few_by (Del k) number count n few = (few, omega arith)
few_by (Ins k) number count n few = few
few_by DelMin number count n few = (few, omega arith)

pub few_first : (own : Row) (count n : ℕ) → count ≤ n → IsUpTo (standing_of own count) n
few_first own count n few = few_by own.op own.number count n few

-- One more row after its own takes it on, or out.
pub stands_next : (rows : List Row) (index place : ℕ) (own row : Row) (standing : Standing) → IsReplayable (kind_of own.op) rows → slice_get rows place ≡ Some own
    → slice_get rows index ≡ Some row → place < index → Stands standing own.number (holders (kind_of own.op) rows index)
    → Goes (after_row standing row) own.number (holders (kind_of own.op) rows (suc index))
stands_next rows index place own row standing replayable here at later stands =
    goes_on standing own.number row (holders (kind_of own.op) rows index) (holders (kind_of own.op) rows (suc index))
    (λ same. numbers_apart rows place index own row replayable.own_numbers here at later same) stands
    (holders_next (kind_of own.op) rows index row replayable.of_kind replayable.valid at)

abbrev IsSomeUpTo : Option Standing → ℕ → Type 0
IsSomeUpTo None n = Unit {0}
IsSomeUpTo (Some standing) n = IsUpTo standing n

left_up : (left right n : ℕ) → left ≤ n → right ≤ n → IsSomeUpTo (without_left left right) (suc n)
left_up zero right n few many = tt
left_up (suc left) right n few many = (omega arith, omega arith)

right_up : (left right n : ℕ) → left ≤ n → right ≤ n → IsSomeUpTo (without_right left right) (suc n)
right_up left zero n few many = tt
right_up left (suc right) n few many = (omega arith, omega arith)

line_up : (op : Op) (left right n : ℕ) → left ≤ n → right ≤ n → IsSomeUpTo (line_after left right op) (suc n)
line_up (Enq v) left right n few many = (omega arith, omega arith)
line_up Deq left right n few many = left_up left right n few many
line_up (Push v) left right n few many = (omega arith, omega arith)
line_up Pop left right n few many = left_up left right n few many
line_up (PushL v) left right n few many = (omega arith, omega arith)
line_up (PushR v) left right n few many = (omega arith, omega arith)
line_up PopL left right n few many = left_up left right n few many
line_up PopR left right n few many = right_up left right n few many
line_up (Put k v) left right n few many = (omega arith, omega arith)
line_up (Del k) left right n few many = (omega arith, omega arith)
line_up (Ins k) left right n few many = (omega arith, omega arith)
line_up DelMin left right n few many = (omega arith, omega arith)

pair_up : (b : Bool) (key : ℤ) (n : ℕ) → IsSomeUpTo (cond b None (Some (AtKey key))) n
pair_up true key n = tt
pair_up false key n = tt

pairs_up : (op : Op) (key : ℤ) (n : ℕ) → IsSomeUpTo (pair_after key op) n
pairs_up (Enq v) key n = tt
pairs_up Deq key n = tt
pairs_up (Push v) key n = tt
pairs_up Pop key n = tt
pairs_up (PushL v) key n = tt
pairs_up (PushR v) key n = tt
pairs_up PopL key n = tt
pairs_up PopR key n = tt
pairs_up (Put k v) key n = pair_up (int_eq key k) key n
pairs_up (Del k) key n = pair_up (int_eq key k) key n
pairs_up (Ins k) key n = tt
pairs_up DelMin key n = tt

least_up : (entry : Entry) (lesser n : ℕ) → lesser ≤ n → IsSomeUpTo (without_least entry lesser) (suc n)
least_up entry zero n few = tt
least_up entry (suc lesser) n few = omega arith

put_up : (b : Bool) (entry : Entry) (lesser n : ℕ) → lesser ≤ n → IsSomeUpTo (cond b (Some (AfterLesser entry (lesser + 1))) (Some (AfterLesser entry lesser))) (suc n)
put_up true entry lesser n few = omega arith
put_up false entry lesser n few = omega arith

entry_up : (op : Op) (entry : Entry) (lesser number n : ℕ) → lesser ≤ n → IsSomeUpTo (entry_after entry lesser number op) (suc n)
entry_up (Enq v) entry lesser number n few = omega arith
entry_up Deq entry lesser number n few = omega arith
entry_up (Push v) entry lesser number n few = omega arith
entry_up Pop entry lesser number n few = omega arith
entry_up (PushL v) entry lesser number n few = omega arith
entry_up (PushR v) entry lesser number n few = omega arith
entry_up PopL entry lesser number n few = omega arith
entry_up PopR entry lesser number n few = omega arith
entry_up (Put k v) entry lesser number n few = omega arith
entry_up (Del k) entry lesser number n few = omega arith
entry_up (Ins k) entry lesser number n few = put_up (comes_before (record { key = k; number = number }) entry) entry lesser n few
entry_up DelMin entry lesser number n few = least_up entry lesser n few

some_up : (standing : Standing) (row : Row) (n : ℕ) → IsUpTo standing n → IsSomeUpTo (after_row standing row) (suc n)
some_up (InLine left right) row n few = line_up row.op left right n few.0 few.1
some_up (AtKey key) row n few = pairs_up row.op key (suc n)
some_up (AfterLesser entry lesser) row n few = entry_up row.op entry lesser row.number n few

pub few_next : (standing next : Standing) (row : Row) (n : ℕ) → IsUpTo standing n → after_row standing row ≡ Some next → IsUpTo next (suc n)
few_next standing next row n few e = subst (λ o. IsSomeUpTo o (suc n)) e (some_up standing row n few)

pub few_more : (standing : Standing) (n m : ℕ) → n ≤ m → IsUpTo standing n → IsUpTo standing m
few_more (InLine left right) n m more few = (omega (arith, few.0), omega (arith, few.1))
few_more (AtKey key) n m more few = tt
few_more (AfterLesser entry lesser) n m more few = omega arith

-- it is there so far, and after one more row
pub there_next : (rows : List Row) (place index : ℕ) (own : Row) (standing : Standing)
    → ((q : ℕ) → place < q → q ≤ index → holds own.number (holders (kind_of own.op) rows q) ≡ true)
    → Stands standing own.number (holders (kind_of own.op) rows (suc index))
    → (q : ℕ) → place < q → q ≤ index + 1 → holds own.number (holders (kind_of own.op) rows q) ≡ true
there_next rows place index own standing so_far stands q later within = elim (cases_lt index q) [
  | inl past ↦ let last : suc index ≡ q = omega arith in
      subst (λ k. holds own.number (holders (kind_of own.op) rows k) ≡ true) last (is_there standing own.number (holders (kind_of own.op) rows (suc index)) stands)
  | inr before ↦ so_far q later (omega arith)
]

-- the first place after its own row
pub there_first : (rows : List Row) (place : ℕ) (own : Row) (standing : Standing) → Stands standing own.number (holders (kind_of own.op) rows (suc place))
    → (q : ℕ) → place < q → q ≤ place + 1 → holds own.number (holders (kind_of own.op) rows q) ≡ true
there_first rows place own standing stands q later within =
    let last : suc place ≡ q = omega arith in
    subst (λ k. holds own.number (holders (kind_of own.op) rows k) ≡ true) last (is_there standing own.number (holders (kind_of own.op) rows (suc place)) stands)

pub goes_so : (o : Option Standing) (next : Standing) (number : ℕ) (state : State) → o ≡ Some next → Goes o number state → Stands next number state
goes_so o next number state e goes = subst (λ p. Goes p number state) e goes

pub gone_so : (o : Option Standing) (number : ℕ) (state : State) → o ≡ None → Goes o number state → holds number state ≡ false
gone_so o number state e goes = subst (λ p. Goes p number state) e goes
