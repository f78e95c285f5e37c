-- An entry of a priority queue keeps its place after the lesser ones, until it is the least and a row takes it.
use Rattle.std.proofs.Common.{◌≡◌, ◌≢◌, ℕ, ℤ, ◌+◌, true, false, cond, List, [], ◌∷◌, ◌++◌, length, refl, sym, ap, subst, ◌∙◌, arith, Option, Some, None}
use Rattle.std.specs.Prelude.{◌==◌}
use Rattle.std.specs.List.{list_any}
use Rattle.std.specs.Option.{option_map}
use Rattle.std.proofs.lemmas.Bool.{eq-eqb, ne_eqb}
use Rattle.fates.specs.declared.standing.Standing.{Standing}
use Rattle.fates.specs.declared.standing.Standing.TheVariants.{AfterLesser}
use Rattle.fates.specs.Holding.{NoneHas, AllBefore, StandsAfterLesser}
use Rattle.retro_base.specs.Holders.{holds, numbered_op}
use Rattle.fates.specs.Standings.{entry_after, without_least}
use Rattle.fates.proofs.Held.{or_false, or_true_first, first_false, second_false}
use Rattle.retro_base.specs.declared.op.Op.{Op}
use Rattle.retro_base.specs.declared.op.Op.TheVariants.{Enq, Deq, Push, Pop, PushL, PushR, PopL, PopR, Put, Del, Ins, DelMin}
use Rattle.retro_base.specs.declared.row.Entry.{Entry}
use Rattle.retro_base.specs.State.{State, entries, perform, comes_before, with_entry, without_first}
use Rattle.retro_base.specs.lemmas.bridges.EntryOrder.{before_transitive}
use Rattle.retro_base.specs.Facts.{either_true, some_is}

-- where it stands after a step, or that it is gone
abbrev pub EntryGoes : ℕ → State → Option Standing → Type 0
EntryGoes number state None = holds number state ≡ false
EntryGoes number state (Some (AfterLesser entry lesser)) = (entry.number ≡ number) × StandsAfterLesser entry lesser state
EntryGoes number state (Some standing) = ⊥

other : (n number : ℕ) → n ≢ number → (n == number) ≡ false
other n number apart = ne_eqb n number apart

pub none_cons : (number : ℕ) (new : Entry) (es : List Entry) → new.number ≢ number → NoneHas number es → NoneHas number (new ∷ es)
none_cons number new es apart none = or_false _ _ (other new.number number apart) none

none_next : (number : ℕ) (e : Entry) (es fs : List Entry) → NoneHas number (e ∷ es) → NoneHas number fs → NoneHas number (e ∷ fs)
none_next number e es fs none rest = or_false _ _ (first_false _ _ none) rest

pub none_with : (number : ℕ) (new : Entry) (es : List Entry) → new.number ≢ number → NoneHas number es → NoneHas number (with_entry new es)
none_with number new [] apart none = none_cons number new [] apart refl
none_with number new (e ∷ es) apart none =
    elim (comes_before new e) as (λ b. NoneHas number (cond b (new ∷ e ∷ es) (e ∷ with_entry new es))) [
      | true ↦ none_cons number new (e ∷ es) apart none
      | false ↦ none_next number e es (with_entry new es) none (none_with number new es apart (second_false _ _ none))
    ]

-- an entry that comes before this one is put in among those in front
record PutBefore (entry new : Entry) (front back : List Entry) : Type 0 where
  grown : List Entry
  is : with_entry new (front ++ entry ∷ back) ≡ grown ++ entry ∷ back
  more : length grown ≡ length front + 1
  before : AllBefore entry grown
  none : NoneHas entry.number grown

put_before : (entry new : Entry) (front back : List Entry) → comes_before new entry ≡ true → new.number ≢ entry.number → AllBefore entry front → NoneHas entry.number front
    → PutBefore entry new front back
put_before entry new [] back less apart all none = record {
  grown = new ∷ [];
  is = rw less refl;
  more = refl;
  before = (less, tt);
  none = none_cons entry.number new [] apart refl;
}
put_before entry new (e ∷ front) back less apart all none =
    elim (comes_before new e) as (λ b. comes_before new e ≡ b → PutBefore entry new (e ∷ front) back) [
      | true ↦ λ here. record {
        grown = new ∷ e ∷ front;
        is = rw here refl;
        more = omega arith;
        before = (less, all);
        none = none_cons entry.number new (e ∷ front) apart none;
      }
      | false ↦ λ further.
          let rest = put_before entry new front back less apart all.1 (second_false (e.number == entry.number) (list_any (λ x. x.number == entry.number) front) none) in
          record {
            grown = e ∷ rest.grown;
            is = rw further (ap (λ es. e ∷ es) rest.is);
            more = omega (arith, rest.more);
            before = (all.0, rest.before);
            none = none_next entry.number e front rest.grown none rest.none;
          }
    ] refl

-- one that does not is put in after it
put_after : (entry new : Entry) (front back : List Entry) → comes_before new entry ≡ false → AllBefore entry front
    → with_entry new (front ++ entry ∷ back) ≡ front ++ entry ∷ with_entry new back
put_after entry new [] back greater all = rw greater refl
put_after entry new (e ∷ front) back greater all =
    elim (comes_before new e) as (λ b. comes_before new e ≡ b → with_entry new ((e ∷ front) ++ entry ∷ back) ≡ (e ∷ front) ++ entry ∷ with_entry new back) [
      | true ↦ λ here. let wrong : false ≡ true = sym greater ∙ before_transitive new e entry here all.0 in absurd (cc)
      | false ↦ λ further. rw further (ap (λ es. e ∷ es) (put_after entry new front back greater all.1))
    ] refl

module _ (entry : Entry) (front back : List Entry) (state : State) (all : AllBefore entry front) (none_front : NoneHas entry.number front) (none_back : NoneHas entry.number back) where
  inserted : (key : ℤ) (n : ℕ) → n ≢ entry.number → Some (entries (with_entry (record { key = key; number = n }) (front ++ entry ∷ back))) ≡ Some state
      → EntryGoes entry.number state (entry_after entry (length front) n (Ins key))
  inserted key n apart e =
      let new : Entry = record { key = key; number = n } in
      elim (comes_before new entry) as (λ b. comes_before new entry ≡ b
      → EntryGoes entry.number state (cond b (Some (AfterLesser entry (length front + 1))) (Some (AfterLesser entry (length front))))) [
        | true ↦ λ less.
            let put = put_before entry new front back less apart all none_front in (
              refl,
              record {
                front = put.grown;
                back = back;
                is = some_is state (entries (with_entry new (front ++ entry ∷ back))) e ∙ ap entries put.is;
                lesser_is = put.more;
                before = put.before;
                none_front = put.none;
                none_back = none_back;
              },
            )
        | false ↦ λ greater. (
          refl,
          record {
            front = front;
            back = with_entry new back;
            is = some_is state (entries (with_entry new (front ++ entry ∷ back))) e ∙ ap entries (put_after entry new front back greater all);
            lesser_is = refl;
            before = all;
            none_front = none_front;
            none_back = none_with entry.number new back apart none_back;
          },
        )
      ] refl

least_taken : (entry : Entry) (front back : List Entry) (state : State) → AllBefore entry front → NoneHas entry.number front → NoneHas entry.number back
    → option_map entries (without_first (front ++ entry ∷ back)) ≡ Some state → EntryGoes entry.number state (without_least entry (length front))
least_taken entry [] back state all none_front none_back e = rw (some_is state (entries back) e) none_back
least_taken entry (f ∷ front) back state all none_front none_back e = (
  refl,
  record {
    front = front;
    back = back;
    is = some_is state (entries (front ++ entry ∷ back)) e;
    lesser_is = refl;
    before = all.1;
    none_front = second_false _ _ none_front;
    none_back = none_back;
  },
)

goes : (op : Op) (n : ℕ) (entry : Entry) (front back : List Entry) (state : State) → n ≢ entry.number → AllBefore entry front → NoneHas entry.number front → NoneHas entry.number back
    → perform (numbered_op n op) n (entries (front ++ entry ∷ back)) ≡ Some state → EntryGoes entry.number state (entry_after entry (length front) n op)
unfolding perform
goes (Enq v) n entry front back state apart all none_front none_back e = absurd (cc)
goes Deq n entry front back state apart all none_front none_back e = absurd (cc)
goes (Push v) n entry front back state apart all none_front none_back e = absurd (cc)
goes Pop n entry front back state apart all none_front none_back e = absurd (cc)
goes (PushL v) n entry front back state apart all none_front none_back e = absurd (cc)
goes (PushR v) n entry front back state apart all none_front none_back e = absurd (cc)
goes PopL n entry front back state apart all none_front none_back e = absurd (cc)
goes PopR n entry front back state apart all none_front none_back e = absurd (cc)
goes (Put k v) n entry front back state apart all none_front none_back e = absurd (cc)
goes (Del k) n entry front back state apart all none_front none_back e = absurd (cc)
goes (Ins k) n entry front back state apart all none_front none_back e = inserted entry front back state all none_front none_back k n apart e
goes DelMin n entry front back state apart all none_front none_back e = least_taken entry front back state all none_front none_back e

-- a row takes an entry on, or out
pub entry_goes : (op : Op) (n : ℕ) (entry : Entry) (lesser : ℕ) (before state : State) → n ≢ entry.number → StandsAfterLesser entry lesser before
    → perform (numbered_op n op) n before ≡ Some state → EntryGoes entry.number state (entry_after entry lesser n op)
entry_goes op n entry lesser before state apart stands e =
    rw (← stands.lesser_is) (goes op n entry stands.front stands.back state apart stands.before stands.none_front stands.none_back
    (subst (λ s. perform (numbered_op n op) n s ≡ Some state) stands.is e))

-- it is there
pub entry_is_held : (entry : Entry) (front back : List Entry) → list_any (λ e. e.number == entry.number) (front ++ entry ∷ back) ≡ true
entry_is_held entry [] back = or_true_first _ _ (eq-eqb entry.number entry.number refl)
entry_is_held entry (e ∷ front) back = either_true _ _ (entry_is_held entry front back)
