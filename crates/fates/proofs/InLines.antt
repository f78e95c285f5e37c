-- An item of a line keeps its place between those on its left and those on its right, until a row takes it.
use Rattle.std.proofs.Common.{◌≡◌, ◌≢◌, ℕ, ℤ, pos, zero, suc, ◌+◌, false, List, [], ◌∷◌, ◌++◌, length, take, refl, sym, ap, subst, ◌∙◌, arith, append_assoc, length-append, Option, Some, None}
use Rattle.std.specs.Option.{option_map}
use Rattle.fates.specs.declared.standing.Standing.{Standing}
use Rattle.fates.specs.declared.standing.Standing.TheVariants.{InLine}
use Rattle.fates.specs.Holding.{Lacks, StandsInLine}
use Rattle.retro_base.specs.Holders.{holds, numbered_op}
use Rattle.fates.specs.Standings.{line_after, without_left, without_right}
use Rattle.fates.proofs.Held.{other_number, lacks_cons, lacks_tail, lacks_append, lacks_take}
use Rattle.retro_base.specs.declared.op.Op.{Op}
use Rattle.retro_base.specs.declared.op.Op.TheVariants.{Enq, Deq, Push, Pop, PushL, PushR, PopL, PopR, Put, Del, Ins, DelMin}
use Rattle.retro_base.specs.State.{State, items, perform, without_first, without_last}
use Rattle.retro_base.specs.Facts.{some_is}

-- where it stands after a step, or that it is gone
abbrev pub LineGoes : ℕ → State → Option Standing → Type 0
LineGoes number state None = holds number state ≡ false
LineGoes number state (Some (InLine left right)) = StandsInLine number left right state
LineGoes number state (Some standing) = ⊥

module _ (number n : ℕ) (apart : n ≢ number) (state : State) where
  pushed_left : (front back : List ℤ) → Lacks number front → Lacks number back → state ≡ items (pos n ∷ (front ++ pos number ∷ back))
      → StandsInLine number (length front + 1) (length back) state
  pushed_left front back none_left none_right e = record {
    front = pos n ∷ front;
    back = back;
    is = e;
    left_is = omega arith;
    right_is = refl;
    none_left = lacks_cons number (pos n) front (other_number n number apart) none_left;
    none_right = none_right;
  }

  pushed_right : (front back : List ℤ) → Lacks number front → Lacks number back → state ≡ items ((front ++ pos number ∷ back) ++ pos n ∷ [])
      → StandsInLine number (length front) (length back + 1) state
  pushed_right front back none_left none_right e = record {
    front = front;
    back = back ++ pos n ∷ [];
    is = e ∙ ap items (append_assoc front (pos number ∷ back) (pos n ∷ []));
    left_is = refl;
    right_is = omega (arith, length-append back (pos n ∷ []));
    none_left = none_left;
    none_right = lacks_append number back (pos n ∷ []) none_right (lacks_cons number (pos n) [] (other_number n number apart) refl);
  }

  left_taken : (front back : List ℤ) → Lacks number front → Lacks number back → option_map items (without_first (front ++ pos number ∷ back)) ≡ Some state
      → LineGoes number state (without_left (length front) (length back))
  left_taken [] back none_left none_right e = rw (some_is state (items back) e) none_right
  left_taken (x ∷ front) back none_left none_right e = record {
    front = front;
    back = back;
    is = some_is state (items (front ++ pos number ∷ back)) e;
    left_is = refl;
    right_is = refl;
    none_left = lacks_tail number x front none_left;
    none_right = none_right;
  }

-- the last of a list that goes on is the last of what follows
last_of : (front : List ℤ) (x : ℤ) (back : List ℤ) (k : ℕ) → k ≡ length front + length back → without_last (front ++ x ∷ back) ≡ Some (take k (front ++ x ∷ back))
last_of [] x back k e = ap (λ j. Some (take j (x ∷ back))) (omega (arith, e))
last_of (y ∷ front) x back k e = ap (λ j. Some (take j (y ∷ (front ++ x ∷ back)))) (omega (arith, e, length-append front (x ∷ back)))

taken_front : (front : List ℤ) (x : ℤ) (k : ℕ) → k ≡ length front + 0 → take k (front ++ x ∷ []) ≡ front
taken_front [] x zero e = refl
taken_front [] x (suc k) e = absurd (omega (arith, e))
taken_front (y ∷ front) x zero e = absurd (omega (arith, e))
taken_front (y ∷ front) x (suc k) e = ap (λ ys. y ∷ ys) (taken_front front x k (omega (arith, e)))

taken_most : (front : List ℤ) (x y : ℤ) (back : List ℤ) (k : ℕ) → k ≡ length front + suc (length back) → take k (front ++ x ∷ y ∷ back) ≡ front ++ x ∷ take (length back) (y ∷ back)
taken_most [] x y back zero e = absurd (omega (arith, e))
taken_most [] x y back (suc k) e = ap (λ j. x ∷ take j (y ∷ back)) (omega (arith, e))
taken_most (z ∷ front) x y back zero e = absurd (omega (arith, e))
taken_most (z ∷ front) x y back (suc k) e = ap (λ ys. z ∷ ys) (taken_most front x y back k (omega (arith, e)))

length_taken : (y : ℤ) (back : List ℤ) → length (take (length back) (y ∷ back)) ≡ length back
length_taken y [] = refl
length_taken y (z ∷ back) = ap suc (length_taken z back)

right_taken : (number : ℕ) (state : State) (front back : List ℤ) → Lacks number front → Lacks number back
    → option_map items (without_last (front ++ pos number ∷ back)) ≡ Some state → LineGoes number state (without_right (length front) (length back))
right_taken number state front [] none_left none_right e =
    let k = length front + 0 in
    let last : without_last (front ++ pos number ∷ []) ≡ Some front = last_of front (pos number) [] k refl ∙ ap (λ ys. Some ys) (taken_front front (pos number) k refl) in
    rw (some_is state (items front) (ap (λ o. option_map items o) (sym last) ∙ e)) none_left
right_taken number state front (y ∷ back) none_left none_right e =
    let k = length front + suc (length back) in
    let last : without_last (front ++ pos number ∷ y ∷ back) ≡ Some (front ++ pos number ∷ take (length back) (y ∷ back)) =
    last_of front (pos number) (y ∷ back) k refl ∙ ap (λ ys. Some ys) (taken_most front (pos number) y back k refl) in
    record {
      front = front;
      back = take (length back) (y ∷ back);
      is = some_is state (items (front ++ pos number ∷ take (length back) (y ∷ back))) (ap (λ o. option_map items o) (sym last) ∙ e);
      left_is = refl;
      right_is = length_taken y back;
      none_left = none_left;
      none_right = lacks_take number (y ∷ back) (length back) none_right;
    }

goes : (op : Op) (number n : ℕ) (front back : List ℤ) (state : State) → n ≢ number → Lacks number front → Lacks number back
    → perform (numbered_op n op) n (items (front ++ pos number ∷ back)) ≡ Some state → LineGoes number state (line_after (length front) (length back) op)
unfolding perform
goes (Enq v) number n front back state apart none_left none_right e = pushed_right number n apart state front back none_left none_right (some_is state _ e)
goes Deq number n front back state apart none_left none_right e = left_taken number n apart state front back none_left none_right e
goes (Push v) number n front back state apart none_left none_right e = pushed_left number n apart state front back none_left none_right (some_is state _ e)
goes Pop number n front back state apart none_left none_right e = left_taken number n apart state front back none_left none_right e
goes (PushL v) number n front back state apart none_left none_right e = pushed_left number n apart state front back none_left none_right (some_is state _ e)
goes (PushR v) number n front back state apart none_left none_right e = pushed_right number n apart state front back none_left none_right (some_is state _ e)
goes PopL number n front back state apart none_left none_right e = left_taken number n apart state front back none_left none_right e
goes PopR number n front back state apart none_left none_right e = right_taken number state front back none_left none_right e
goes (Put k v) number n front back state apart none_left none_right e = absurd (cc)
goes (Del k) number n front back state apart none_left none_right e = absurd (cc)
goes (Ins k) number n front back state apart none_left none_right e = absurd (cc)
goes DelMin number n front back state apart none_left none_right e = absurd (cc)

-- a row takes an item of a line on, or out
pub line_goes : (op : Op) (number n left right : ℕ) (before state : State) → n ≢ number → StandsInLine number left right before
    → perform (numbered_op n op) n before ≡ Some state → LineGoes number state (line_after left right op)
line_goes op number n left right before state apart stands e =
    rw (← stands.left_is, ← stands.right_is) (goes op number n stands.front stands.back state apart stands.none_left stands.none_right
    (subst (λ s. perform (numbered_op n op) n s ≡ Some state) stands.is e))
