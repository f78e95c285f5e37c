-- What is there before a row's own: so many items in a line, or so many lesser entries, and nothing with its number.
use Rattle.std.proofs.Common.{◌≡◌, ◌≢◌, ℕ, ℤ, pos, ◌+◌, ◌-◌, Bool, true, false, cond, List, [], ◌∷◌, ◌++◌, length, take, refl, sym, ap}
use Rattle.std.proofs.Common.{subst, ◌∙◌, arith, length-append, length-take, Some, None, inl, inr, Less, Equal, Greater}
use Rattle.std.specs.Prelude.{◌==◌, if◌then◌else◌}
use Rattle.std.specs.List.{list_any, AllByRecursion}
use Rattle.std.specs.Map.{lookup, remove_entry}
use Rattle.std.specs.Option.{option_map, is_some}
use Rattle.std.specs.Ordering.{int_cmp, int_eq, match_ordering, is_eq}
use Rattle.std.proofs.lemmas.Map.Lookups.{exact_signed}
use Rattle.std.proofs.lemmas.Bool.{eq-eqb}
use Rattle.fates.specs.Holding.{Lacks, NoneHas, AllBefore, NoneIs, IsOnlyAt, StandsInLine, StandsAfterLesser, StandsAtKey}
use Rattle.retro_base.specs.Holders.{numbered_op}
use Rattle.fates.specs.Standings.{is_lesser}
use Rattle.fates.proofs.Held.{other_number, or_false, first_false, second_false, lacks_cons, lacks_tail, lacks_append, lacks_take}
use Rattle.fates.proofs.AfterLessers.{none_cons, none_with}
use Rattle.retro_base.specs.declared.op.Op.{Op}
use Rattle.retro_base.specs.declared.op.Op.TheVariants.{Enq, Deq, Push, Pop, PushL, PushR, PopL, PopR, Put, Del, Ins, DelMin}
use Rattle.retro_base.specs.declared.row.Entry.{Entry}
use Rattle.retro_base.specs.Kind.{adds}
use Rattle.retro_base.specs.State.{State, items, pairs, entries, perform, comes_before, with_entry, with_key, without_first, without_last}
use Rattle.retro_base.specs.lemmas.SortedPairs.{AreSorted, same_as_itself, sorted_with, sorted_without}
use Rattle.retro_base.specs.lemmas.bridges.EntryOrder.{before_transitive, before_or_after, before_one_way, same_or_other}
use Rattle.retro_base.specs.Facts.{some_is}

-- so many items in a line, none of which is the number
pub record HasItems (number count : ℕ) (state : State) : Type 0 where
  pub line : List ℤ
  pub is : state ≡ items line
  pub count_is : length line ≡ count
  pub none : Lacks number line

first_gone : (number : ℕ) (line : List ℤ) (state : State) → Lacks number line → option_map items (without_first line) ≡ Some state → HasItems number (length line - 1) state
first_gone number [] state none e = absurd (cc)
first_gone number (x ∷ line) state none e = record { line = line; is = some_is state (items line) e; count_is = omega arith; none = lacks_tail number x line none }

last_gone : (number : ℕ) (line : List ℤ) (state : State) → Lacks number line → option_map items (without_last line) ≡ Some state → HasItems number (length line - 1) state
last_gone number [] state none e = absurd (cc)
last_gone number (x ∷ line) state none e = record {
  line = take (length line) (x ∷ line);
  is = some_is state (items (take (length line) (x ∷ line))) e;
  count_is = omega (arith, length-take (length line) (x ∷ line));
  none = lacks_take number (x ∷ line) (length line) none;
}

module _ (number n : ℕ) (apart : n ≢ number) (line : List ℤ) (state : State) (none : Lacks number line) where
  put_first : Some (items (pos n ∷ line)) ≡ Some state → HasItems number (length line + 1) state
  put_first e = record {
    line = pos n ∷ line;
    is = some_is state (items (pos n ∷ line)) e;
    count_is = omega arith;
    none = lacks_cons number (pos n) line (other_number n number apart) none;
  }

  put_last : Some (items (line ++ pos n ∷ [])) ≡ Some state → HasItems number (length line + 1) state
  put_last e = record {
    line = line ++ pos n ∷ [];
    is = some_is state (items (line ++ pos n ∷ [])) e;
    count_is = omega (arith, length-append line (pos n ∷ []));
    none = lacks_append number line (pos n ∷ []) none (lacks_cons number (pos n) [] (other_number n number apart) refl);
  }

line_counts : (op : Op) (number n : ℕ) (line : List ℤ) (state : State) → n ≢ number → Lacks number line
    → perform (numbered_op n op) n (items line) ≡ Some state → HasItems number (if adds op then length line + 1 else length line - 1) state
unfolding perform
line_counts (Enq v) number n line state apart none e = put_last number n apart line state none e
line_counts Deq number n line state apart none e = first_gone number line state none e
line_counts (Push v) number n line state apart none e = put_first number n apart line state none e
line_counts Pop number n line state apart none e = first_gone number line state none e
line_counts (PushL v) number n line state apart none e = put_first number n apart line state none e
line_counts (PushR v) number n line state apart none e = put_last number n apart line state none e
line_counts PopL number n line state apart none e = first_gone number line state none e
line_counts PopR number n line state apart none e = last_gone number line state none e
line_counts (Put k v) number n line state apart none e = absurd (cc)
line_counts (Del k) number n line state apart none e = absurd (cc)
line_counts (Ins k) number n line state apart none e = absurd (cc)
line_counts DelMin number n line state apart none e = absurd (cc)

pub items_on : (op : Op) (number n count : ℕ) (before state : State) → n ≢ number → HasItems number count before
    → perform (numbered_op n op) n before ≡ Some state → HasItems number (if adds op then count + 1 else count - 1) state
items_on op number n count before state apart has e =
    rw (← has.count_is) (line_counts op number n has.line state apart has.none (subst (λ s. perform (numbered_op n op) n s ≡ Some state) has.is e))

-- pairs with rising keys, none of whose values is the number
pub record HasPairs (number : ℕ) (state : State) : Type 0 where
  pub held : List (ℤ × ℤ)
  pub is : state ≡ pairs held
  pub sorted : AreSorted held
  pub none : NoneIs number held

none_put : (number n : ℕ) (key : ℤ) (ps : List (ℤ × ℤ)) → n ≢ number → NoneIs number ps → NoneIs number (with_key key (pos n) ps)
none_put number n key [] apart none = or_false _ _ (other_number n number apart) refl
none_put number n key (p ∷ ps) apart none =
    elim (int_cmp key p.0) as (λ o. NoneIs number (match_ordering o ((key, pos n) ∷ p ∷ ps) ((p.0, pos n) ∷ ps) (p ∷ with_key key (pos n) ps))) [
      | Less ↦ or_false _ _ (other_number n number apart) none
      | Equal ↦ or_false _ _ (other_number n number apart) (second_false (int_eq p.1 (pos number)) (list_any (λ pair. int_eq pair.1 (pos number)) ps) none)
      | Greater ↦ or_false _ _ (first_false (int_eq p.1 (pos number)) (list_any (λ pair. int_eq pair.1 (pos number)) ps) none)
          (none_put number n key ps apart (second_false (int_eq p.1 (pos number)) (list_any (λ pair. int_eq pair.1 (pos number)) ps) none))
    ]

none_left : (number : ℕ) (key : ℤ) (ps : List (ℤ × ℤ)) → NoneIs number ps → NoneIs number (remove_entry (int_eq key) ps)
none_left number key [] none = refl
none_left number key (p ∷ ps) none =
    let rest : NoneIs number ps = second_false (int_eq p.1 (pos number)) (list_any (λ pair. int_eq pair.1 (pos number)) ps) none in
    elim (int_eq key p.0) as (λ b. NoneIs number (cond b ps (p ∷ remove_entry (int_eq key) ps))) [
      | true ↦ rest
      | false ↦ or_false _ _ (first_false (int_eq p.1 (pos number)) (list_any (λ pair. int_eq pair.1 (pos number)) ps) none) (none_left number key ps rest)
    ]

del_on : (number : ℕ) (key : ℤ) (held : List (ℤ × ℤ)) (state : State) (b : Bool) → AreSorted held → NoneIs number held
    → option_map pairs (if b then Some (remove_entry (int_eq key) held) else None) ≡ Some state → HasPairs number state
del_on number key held state false sorted none e = absurd (cc)
del_on number key held state true sorted none e = record {
  held = remove_entry (int_eq key) held;
  is = some_is state (pairs (remove_entry (int_eq key) held)) e;
  sorted = sorted_without key held sorted;
  none = none_left number key held none;
}

pairs_go : (op : Op) (number n : ℕ) (held : List (ℤ × ℤ)) (state : State) → n ≢ number → AreSorted held → NoneIs number held
    → perform (numbered_op n op) n (pairs held) ≡ Some state → HasPairs number state
unfolding perform
pairs_go (Enq v) number n held state apart sorted none e = absurd (cc)
pairs_go Deq number n held state apart sorted none e = absurd (cc)
pairs_go (Push v) number n held state apart sorted none e = absurd (cc)
pairs_go Pop number n held state apart sorted none e = absurd (cc)
pairs_go (PushL v) number n held state apart sorted none e = absurd (cc)
pairs_go (PushR v) number n held state apart sorted none e = absurd (cc)
pairs_go PopL number n held state apart sorted none e = absurd (cc)
pairs_go PopR number n held state apart sorted none e = absurd (cc)
pairs_go (Put k v) number n held state apart sorted none e = record {
  held = with_key k (pos n) held;
  is = some_is state (pairs (with_key k (pos n) held)) e;
  sorted = sorted_with k (pos n) held sorted;
  none = none_put number n k held apart none;
}
pairs_go (Del k) number n held state apart sorted none e = del_on number k held state (is_some (lookup (int_eq k) held)) sorted none e
pairs_go (Ins k) number n held state apart sorted none e = absurd (cc)
pairs_go DelMin number n held state apart sorted none e = absurd (cc)

pub pairs_on : (op : Op) (number n : ℕ) (before state : State) → n ≢ number → HasPairs number before → perform (numbered_op n op) n before ≡ Some state
    → HasPairs number state
pairs_on op number n before state apart has e =
    pairs_go op number n has.held state apart has.sorted has.none (subst (λ s. perform (numbered_op n op) n s ≡ Some state) has.is e)

abbrev NoneBefore : Entry → List Entry → Type 0
NoneBefore entry es = AllByRecursion (λ e. comes_before e entry ≡ false) es

-- so many lesser entries, then those that are no lesser, none of which has the number
pub record HasLesser (entry : Entry) (count : ℕ) (state : State) : Type 0 where
  pub front : List Entry
  pub back : List Entry
  pub is : state ≡ entries (front ++ back)
  pub count_is : length front ≡ count
  pub before : AllBefore entry front
  pub after : NoneBefore entry back
  pub none_front : NoneHas entry.number front
  pub none_back : NoneHas entry.number back

-- a lesser entry is put in among the lesser ones
record PutFront (entry new : Entry) (front back : List Entry) : Type 0 where
  grown : List Entry
  is : with_entry new (front ++ back) ≡ grown ++ back
  more : length grown ≡ length front + 1
  before : AllBefore entry grown
  none : NoneHas entry.number grown

-- what is no lesser comes after what is
lesser_first : (entry new e : Entry) → comes_before new entry ≡ true → comes_before e entry ≡ false → comes_before new e ≡ true
lesser_first entry new e less greater = elim (comes_before new e) as (λ b. comes_before new e ≡ b → b ≡ true) [
  | true ↦ λ yes. refl
  | false ↦ λ further.
      let lesser : comes_before e entry ≡ true = elim (same_or_other new e) [
        | inl same ↦ subst (λ x. comes_before x entry ≡ true) same less
        | inr other ↦ before_transitive e new entry (before_or_after new e other further) less
      ] in let wrong : false ≡ true = sym greater ∙ lesser in absurd (cc)
] refl

put_front : (entry new : Entry) (front back : List Entry) → comes_before new entry ≡ true → new.number ≢ entry.number → AllBefore entry front → NoneBefore entry back
    → NoneHas entry.number front → PutFront entry new front back
put_front entry new [] [] less apart all after none = record { grown = new ∷ []; is = refl; more = refl; before = (less, tt); none = none_cons entry.number new [] apart refl }
put_front entry new [] (b ∷ back) less apart all after none = record {
  grown = new ∷ [];
  is = rw (lesser_first entry new b less after.0) refl;
  more = refl;
  before = (less, tt);
  none = none_cons entry.number new [] apart refl;
}
put_front entry new (e ∷ front) back less apart all after none =
    elim (comes_before new e) as (λ b. comes_before new e ≡ b → PutFront entry new (e ∷ front) back) [
      | true ↦ λ here. record {
        grown = new ∷ e ∷ front;
        is = rw here refl;
        more = omega arith;
        before = (less, all);
        none = none_cons entry.number new (e ∷ front) apart none;
      }
      | false ↦ λ further.
          let rest = put_front entry new front back less apart all.1 after (second_false (e.number == entry.number) (list_any (λ x. x.number == entry.number) front) none) in
          record {
            grown = e ∷ rest.grown;
            is = rw further (ap (λ es. e ∷ es) rest.is);
            more = omega (arith, rest.more);
            before = (all.0, rest.before);
            none = or_false _ _ (first_false (e.number == entry.number) (list_any (λ x. x.number == entry.number) front) none) rest.none;
          }
    ] refl

put_back : (entry new : Entry) (front back : List Entry) → comes_before new entry ≡ false → AllBefore entry front → with_entry new (front ++ back) ≡ front ++ with_entry new back
put_back entry new [] back greater all = refl
put_back entry new (e ∷ front) back greater all =
    elim (comes_before new e) as (λ b. comes_before new e ≡ b → with_entry new ((e ∷ front) ++ back) ≡ (e ∷ front) ++ with_entry new back) [
      | true ↦ λ here. let wrong : false ≡ true = sym greater ∙ before_transitive new e entry here all.0 in absurd (cc)
      | false ↦ λ further. rw further (ap (λ es. e ∷ es) (put_back entry new front back greater all.1))
    ] refl

after_with : (entry new : Entry) (back : List Entry) → comes_before new entry ≡ false → NoneBefore entry back → NoneBefore entry (with_entry new back)
after_with entry new [] greater after = (greater, tt)
after_with entry new (b ∷ back) greater after =
    elim (comes_before new b) as (λ t. NoneBefore entry (cond t (new ∷ b ∷ back) (b ∷ with_entry new back))) [
      | true ↦ (greater, after)
      | false ↦ (after.0, after_with entry new back greater after.1)
    ]

inserted : (entry : Entry) (front back : List Entry) (state : State) (key : ℤ) (n : ℕ) → n ≢ entry.number → AllBefore entry front → NoneBefore entry back
    → NoneHas entry.number front → NoneHas entry.number back → (b : Bool) → comes_before (record { key = key; number = n }) entry ≡ b
    → Some (entries (with_entry (record { key = key; number = n }) (front ++ back))) ≡ Some state → HasLesser entry (cond b (length front + 1) (length front)) state
inserted entry front back state key n apart all after none_front none_back true less e =
    let new : Entry = record { key = key; number = n } in
    let put = put_front entry new front back less apart all after none_front in
    record {
      front = put.grown;
      back = back;
      is = some_is state (entries (with_entry new (front ++ back))) e ∙ ap entries put.is;
      count_is = put.more;
      before = put.before;
      after = after;
      none_front = put.none;
      none_back = none_back;
    }
inserted entry front back state key n apart all after none_front none_back false greater e =
    let new : Entry = record { key = key; number = n } in
    record {
      front = front;
      back = with_entry new back;
      is = some_is state (entries (with_entry new (front ++ back))) e ∙ ap entries (put_back entry new front back greater all);
      count_is = refl;
      before = all;
      after = after_with entry new back greater after;
      none_front = none_front;
      none_back = none_with entry.number new back apart none_back;
    }

least_gone : (entry : Entry) (front back : List Entry) (state : State) → AllBefore entry front → NoneBefore entry back → NoneHas entry.number front → NoneHas entry.number back
    → option_map entries (without_first (front ++ back)) ≡ Some state → HasLesser entry (length front - 1) state
least_gone entry [] [] state all after none_front none_back e = absurd (cc)
least_gone entry [] (b ∷ back) state all after none_front none_back e = record {
  front = [];
  back = back;
  is = some_is state (entries back) e;
  count_is = refl;
  before = tt;
  after = after.1;
  none_front = refl;
  none_back = second_false (b.number == entry.number) (list_any (λ x. x.number == entry.number) back) none_back;
}
least_gone entry (f ∷ front) back state all after none_front none_back e = record {
  front = front;
  back = back;
  is = some_is state (entries (front ++ back)) e;
  count_is = omega arith;
  before = all.1;
  after = after;
  none_front = second_false (f.number == entry.number) (list_any (λ x. x.number == entry.number) front) none_front;
  none_back = none_back;
}

lesser_go : (op : Op) (n : ℕ) (entry : Entry) (front back : List Entry) (state : State) → n ≢ entry.number → AllBefore entry front → NoneBefore entry back
    → NoneHas entry.number front → NoneHas entry.number back → perform (numbered_op n op) n (entries (front ++ back)) ≡ Some state
    → HasLesser entry (if adds op then (if is_lesser n op entry then length front + 1 else length front) else length front - 1) state
unfolding perform
lesser_go (Enq v) n entry front back state apart all after none_front none_back e = absurd (cc)
lesser_go Deq n entry front back state apart all after none_front none_back e = absurd (cc)
lesser_go (Push v) n entry front back state apart all after none_front none_back e = absurd (cc)
lesser_go Pop n entry front back state apart all after none_front none_back e = absurd (cc)
lesser_go (PushL v) n entry front back state apart all after none_front none_back e = absurd (cc)
lesser_go (PushR v) n entry front back state apart all after none_front none_back e = absurd (cc)
lesser_go PopL n entry front back state apart all after none_front none_back e = absurd (cc)
lesser_go PopR n entry front back state apart all after none_front none_back e = absurd (cc)
lesser_go (Put k v) n entry front back state apart all after none_front none_back e = absurd (cc)
lesser_go (Del k) n entry front back state apart all after none_front none_back e = absurd (cc)
lesser_go (Ins k) n entry front back state apart all after none_front none_back e =
    inserted entry front back state k n apart all after none_front none_back (comes_before (record { key = k; number = n }) entry) refl e
lesser_go DelMin n entry front back state apart all after none_front none_back e = least_gone entry front back state all after none_front none_back e

pub lesser_on : (op : Op) (n : ℕ) (entry : Entry) (count : ℕ) (before state : State) → n ≢ entry.number → HasLesser entry count before
    → perform (numbered_op n op) n before ≡ Some state
    → HasLesser entry (if adds op then (if is_lesser n op entry then count + 1 else count) else count - 1) state
lesser_on op n entry count before state apart has e =
    rw (← has.count_is) (lesser_go op n entry has.front has.back state apart has.before has.after has.none_front has.none_back
    (subst (λ s. perform (numbered_op n op) n s ≡ Some state) has.is e))

-- The row itself.
itself : (n number : ℕ) → n ≡ number → (n == number) ≡ false → ⊥
itself n number same apart = let wrong : true ≡ false = sym (eq-eqb n number same) ∙ apart in cc

is_itself : (x : ℤ) (number : ℕ) → x ≡ pos number → int_eq x (pos number) ≡ false → ⊥
is_itself x number same apart = let wrong : true ≡ false = sym (same_as_itself (pos number)) ∙ subst (λ y. int_eq y (pos number) ≡ false) same apart in cc

own_place : (entry : Entry) (front back : List Entry) → AllBefore entry front → NoneBefore entry back → NoneHas entry.number back
    → with_entry entry (front ++ back) ≡ front ++ entry ∷ back
own_place entry [] [] all after none = refl
own_place entry [] (b ∷ back) all after none =
    let other : b ≢ entry = λ same. itself b.number entry.number (ap (λ e. e.number) same) (first_false (b.number == entry.number) (list_any (λ x. x.number == entry.number) back) none) in
    rw (before_or_after b entry other after.0) refl
own_place entry (f ∷ front) back all after none =
    rw (before_one_way f entry all.0) (ap (λ es. f ∷ es) (own_place entry front back all.1 after none))

pub entry_put : (key : ℤ) (number count : ℕ) (before state : State) → HasLesser (record { key = key; number = number }) count before
    → perform (Ins key) number before ≡ Some state → StandsAfterLesser (record { key = key; number = number }) count state
unfolding perform
entry_put key number count before state has e =
    let entry : Entry = record { key = key; number = number } in
    let put : Some (entries (with_entry entry (has.front ++ has.back))) ≡ Some state = subst (λ s. perform (Ins key) number s ≡ Some state) has.is e in
    record {
      front = has.front;
      back = has.back;
      is = some_is state (entries (with_entry entry (has.front ++ has.back))) put ∙ ap entries (own_place entry has.front has.back has.before has.after has.none_back);
      lesser_is = has.count_is;
      before = has.before;
      none_front = has.none_front;
      none_back = has.none_back;
    }

pub last_put : (number count : ℕ) (before state : State) → HasItems number count before
    → ((line : List ℤ) → before ≡ items line → state ≡ items (line ++ pos number ∷ [])) → StandsInLine number count 0 state
last_put number count before state has put = record {
  front = has.line;
  back = [];
  is = put has.line has.is;
  left_is = has.count_is;
  right_is = refl;
  none_left = has.none;
  none_right = refl;
}

pub first_put : (number count : ℕ) (before state : State) → HasItems number count before
    → ((line : List ℤ) → before ≡ items line → state ≡ items (pos number ∷ line)) → StandsInLine number 0 count state
first_put number count before state has put = record {
  front = [];
  back = has.line;
  is = put has.line has.is;
  left_is = refl;
  right_is = has.count_is;
  none_left = refl;
  none_right = has.none;
}

none_alone : (number : ℕ) (key : ℤ) (ps : List (ℤ × ℤ)) → NoneIs number ps → AllByRecursion (IsOnlyAt number key) ps
none_alone number key [] none = tt
none_alone number key (p ∷ ps) none = (
  λ same. absurd (is_itself p.1 number same (first_false (int_eq p.1 (pos number)) (list_any (λ pair. int_eq pair.1 (pos number)) ps) none)),
  none_alone number key ps (second_false (int_eq p.1 (pos number)) (list_any (λ pair. int_eq pair.1 (pos number)) ps) none),
)

own_alone : (number : ℕ) (key : ℤ) (ps : List (ℤ × ℤ)) → AllByRecursion (IsOnlyAt number key) ps → AllByRecursion (IsOnlyAt number key) (with_key key (pos number) ps)
own_alone number key [] alone = (λ same. refl, tt)
own_alone number key (p ∷ ps) alone =
    elim (int_cmp key p.0) as (λ o. int_cmp key p.0 ≡ o
    → AllByRecursion (IsOnlyAt number key) (match_ordering o ((key, pos number) ∷ p ∷ ps) ((p.0, pos number) ∷ ps) (p ∷ with_key key (pos number) ps))) [
      | Less ↦ λ below. (λ same. refl, alone)
      | Equal ↦ λ same. (λ value. sym (exact_signed key p.0 same), alone.1)
      | Greater ↦ λ above. (alone.0, own_alone number key ps alone.1)
    ] refl

own_found : (key value : ℤ) (ps : List (ℤ × ℤ)) → lookup (int_eq key) (with_key key value ps) ≡ Some value
own_found key value [] = rw (same_as_itself key) refl
own_found key value (p ∷ ps) =
    elim (int_cmp key p.0) as (λ o. int_cmp key p.0 ≡ o
    → lookup (int_eq key) (match_ordering o ((key, value) ∷ p ∷ ps) ((p.0, value) ∷ ps) (p ∷ with_key key value ps)) ≡ Some value) [
      | Less ↦ λ below. rw (same_as_itself key) refl
      | Equal ↦ λ same. let first : int_eq key p.0 ≡ true = subst (λ k. int_eq key k ≡ true) (exact_signed key p.0 same) (same_as_itself key) in rw first refl
      | Greater ↦ λ above. let other : int_eq key p.0 ≡ false = ap is_eq above in rw other (own_found key value ps)
    ] refl

pub pair_put : (key value : ℤ) (number : ℕ) (before state : State) → HasPairs number before → perform (Put key (pos number)) number before ≡ Some state
    → StandsAtKey number key state
unfolding perform
pair_put key value number before state has e =
    let put : Some (pairs (with_key key (pos number) has.held)) ≡ Some state = subst (λ s. perform (Put key (pos number)) number s ≡ Some state) has.is e in
    record {
      held = with_key key (pos number) has.held;
      is = some_is state (pairs (with_key key (pos number) has.held)) put;
      sorted = sorted_with key (pos number) has.held has.sorted;
      here = own_found key (pos number) has.held;
      alone = own_alone number key has.held (none_alone number key has.held has.none);
    }
