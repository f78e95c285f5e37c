-- What the rows of a priority queue do to its entries, as moves: a row adds an entry, or takes the least one.
--
--     add c, add a, take, add b    leads from nothing to  b c
use Rattle.std.proofs.Common.{◌≡◌, ℕ, zero, suc, ◌+◌, List, [], ◌∷◌, ◌++◌, length, ◌⊎◌, inl, inr, refl, sym, ◌∙◌, arith, subst, zero-add, Option, Some, None}
use Rattle.retro_base.specs.declared.row.Entry.{Entry}
use Rattle.retro_base.specs.State.{with_entry}
use Rattle.retro_base.specs.lemmas.bridges.Entries.{In, Rising, first_once, in_with, rising_with}

-- these moves lead from the first entries to the second ones
abbrev pub Leads : List (Option Entry) → List Entry → List Entry → Type 0
Leads [] held then_held = held ≡ then_held
Leads (Some e ∷ moves) held then_held = Leads moves (with_entry e held) then_held
Leads (None ∷ moves) [] then_held = ⊥
Leads (None ∷ moves) (x ∷ held) then_held = Leads moves held then_held

-- the move at this index is the first that finds nothing to take
abbrev pub FailsAt : List (Option Entry) → List Entry → ℕ → Type 0
FailsAt [] held index = ⊥
FailsAt (Some e ∷ moves) held zero = ⊥
FailsAt (Some e ∷ moves) held (suc index) = FailsAt moves (with_entry e held) index
FailsAt (None ∷ moves) [] zero = Unit {0}
FailsAt (None ∷ moves) [] (suc index) = ⊥
FailsAt (None ∷ moves) (x ∷ held) zero = ⊥
FailsAt (None ∷ moves) (x ∷ held) (suc index) = FailsAt moves held index

-- one of these moves adds the entry
abbrev pub Adds : Entry → List (Option Entry) → Type 0
Adds x [] = ⊥
Adds x (Some e ∷ moves) = (x ≡ e) ⊎ Adds x moves
Adds x (None ∷ moves) = Adds x moves

-- no entry is added twice
abbrev pub AddEachOnce : List (Option Entry) → Type 0
AddEachOnce [] = Unit {0}
AddEachOnce (Some e ∷ moves) = (¬ Adds e moves) × AddEachOnce moves
AddEachOnce (None ∷ moves) = AddEachOnce moves

-- what holds at each place of a history: the entries rise, and each of them and of those to come is added once
pub record Ready (held : List Entry) (moves : List (Option Entry)) : Type 0 where
  pub rising : Rising held
  pub once : AddEachOnce moves
  pub apart : (x : Entry) → In x held → ¬ Adds x moves

pub new_here : (e : Entry) (moves : List (Option Entry)) (held : List Entry) → Ready held (Some e ∷ moves) → ¬ In e held
new_here e moves held ready inside = ready.apart e inside (inl refl)

-- the same with one entry more that is not added
pub ready_with : (c : Entry) (moves : List (Option Entry)) (held : List Entry) → Ready held moves → ¬ In c held → ¬ Adds c moves → Ready (with_entry c held) moves
ready_with c moves held ready absent never = record {
  rising = rising_with c held ready.rising absent;
  once = ready.once;
  apart = λ x inside added. elim (in_with c x held inside) [
    | inl same ↦ never (subst (λ y. Adds y moves) same added)
    | inr there ↦ ready.apart x there added
  ];
}

-- the same after a move that adds, with that entry and without it
pub ready_on : (e : Entry) (moves : List (Option Entry)) (held : List Entry) → Ready held (Some e ∷ moves) → Ready held moves
ready_on e moves held ready = record { rising = ready.rising; once = ready.once.1; apart = λ x inside added. ready.apart x inside (inr added) }

pub ready_added : (e : Entry) (moves : List (Option Entry)) (held : List Entry) → Ready held (Some e ∷ moves) → Ready (with_entry e held) moves
ready_added e moves held ready = ready_with e moves held (ready_on e moves held ready) (new_here e moves held ready) ready.once.0

pub ready_taken : (x : Entry) (moves : List (Option Entry)) (held : List Entry) → Ready (x ∷ held) (None ∷ moves) → Ready held moves
ready_taken x moves held ready = record {
  rising = ready.rising.1;
  once = ready.once;
  apart = λ y inside. ready.apart y (inr inside);
}

-- moves in two parts
pub leads_both : (a b : List (Option Entry)) (held middle end : List Entry) → Leads a held middle → Leads b middle end → Leads (a ++ b) held end
leads_both [] b held middle end first second = rw first second
leads_both (Some e ∷ a) b held middle end first second = leads_both a b (with_entry e held) middle end first second
leads_both (None ∷ a) b [] middle end first second = absurd first
leads_both (None ∷ a) b (x ∷ held) middle end first second = leads_both a b held middle end first second

pub leads_parts : (a b : List (Option Entry)) (held end : List Entry) → Leads (a ++ b) held end → (middle : List Entry) × Leads a held middle × Leads b middle end
leads_parts [] b held end leads = (held, refl, leads)
leads_parts (Some e ∷ a) b held end leads = leads_parts a b (with_entry e held) end leads
leads_parts (None ∷ a) b [] end leads = absurd leads
leads_parts (None ∷ a) b (x ∷ held) end leads = leads_parts a b held end leads

-- moves that fail after others fail so much later
pub fails_later : (a b : List (Option Entry)) (held middle : List Entry) (n index : ℕ) → Leads a held middle → FailsAt b middle n
    → index ≡ length a + n → FailsAt (a ++ b) held index
fails_later [] b held middle n index first fails at = subst (FailsAt b held) (sym (at ∙ zero-add n)) (subst (λ l. FailsAt b l n) (sym first) fails)
fails_later (Some e ∷ a) b held middle n zero first fails at = absurd (omega arith)
fails_later (Some e ∷ a) b held middle n (suc index) first fails at = fails_later a b (with_entry e held) middle n index first fails (omega arith)
fails_later (None ∷ a) b [] middle n index first fails at = absurd first
fails_later (None ∷ a) b (x ∷ held) middle n zero first fails at = absurd (omega arith)
fails_later (None ∷ a) b (x ∷ held) middle n (suc index) first fails at = fails_later a b held middle n index first fails (omega arith)

-- moves lead to one end
pub one_end : (moves : List (Option Entry)) (held a b : List Entry) → Leads moves held a → Leads moves held b → a ≡ b
one_end [] held a b first second = sym first ∙ second
one_end (Some e ∷ moves) held a b first second = one_end moves (with_entry e held) a b first second
one_end (None ∷ moves) [] a b first second = absurd first
one_end (None ∷ moves) (x ∷ held) a b first second = one_end moves held a b first second

pub ready_later : (a b : List (Option Entry)) (held middle : List Entry) → Ready held (a ++ b) → Leads a held middle → Ready middle b
ready_later [] b held middle ready leads = rw (← leads) ready
ready_later (Some e ∷ a) b held middle ready leads = ready_later a b (with_entry e held) middle (ready_added e (a ++ b) held ready) leads
ready_later (None ∷ a) b [] middle ready leads = absurd leads
ready_later (None ∷ a) b (x ∷ held) middle ready leads = ready_later a b held middle (ready_taken x (a ++ b) held ready) leads

pub adds_both : (x : Entry) (a b : List (Option Entry)) → Adds x (a ++ b) → Adds x a ⊎ Adds x b
adds_both x [] b h = inr h
adds_both x (Some e ∷ a) b h = elim h [
  | inl same ↦ inl (inl same)
  | inr further ↦ elim (adds_both x a b further) [ inl first ↦ inl (inr first) | inr second ↦ inr second ]
]
adds_both x (None ∷ a) b h = adds_both x a b h

pub adds_first : (x : Entry) (a b : List (Option Entry)) → Adds x a → Adds x (a ++ b)
adds_first x [] b h = absurd h
adds_first x (Some e ∷ a) b h = elim h [ inl same ↦ inl same | inr further ↦ inr (adds_first x a b further) ]
adds_first x (None ∷ a) b h = adds_first x a b h

pub adds_second : (x : Entry) (a b : List (Option Entry)) → Adds x b → Adds x (a ++ b)
adds_second x [] b h = h
adds_second x (Some e ∷ a) b h = inr (adds_second x a b h)
adds_second x (None ∷ a) b h = adds_second x a b h

once_first : (a b : List (Option Entry)) → AddEachOnce (a ++ b) → AddEachOnce a
once_first [] b once = tt
once_first (Some e ∷ a) b once = ((λ added. once.0 (adds_first e a b added)), once_first a b once.1)
once_first (None ∷ a) b once = once_first a b once

pub ready_first : (a b : List (Option Entry)) (held : List Entry) → Ready held (a ++ b) → Ready held a
ready_first a b held ready = record {
  rising = ready.rising;
  once = once_first a b ready.once;
  apart = λ x inside added. ready.apart x inside (adds_first x a b added);
}

-- what is held was held or was added
pub came_from : (x : Entry) (moves : List (Option Entry)) (held end : List Entry) → Leads moves held end → In x end → In x held ⊎ Adds x moves
came_from x [] held end leads inside = inl (rw (← leads) at inside)
came_from x (Some e ∷ moves) held end leads inside = elim (came_from x moves (with_entry e held) end leads inside) [
  | inl there ↦ elim (in_with e x held there) [ inl same ↦ inr (inl same) | inr before ↦ inl before ]
  | inr added ↦ inr (inr added)
]
came_from x (None ∷ moves) [] end leads inside = absurd leads
came_from x (None ∷ moves) (y ∷ held) end leads inside = elim (came_from x moves held end leads inside) [
  | inl there ↦ inl (inr there)
  | inr added ↦ inr added
]

-- the least entry is taken for good
pub taken_for_good : (x : Entry) (moves : List (Option Entry)) (held end : List Entry) → Ready (x ∷ held) (None ∷ moves) → Leads moves held end → ¬ In x end
taken_for_good x moves held end ready leads inside = elim (came_from x moves held end leads inside) [
  | inl there ↦ first_once x held ready.rising.0 there
  | inr added ↦ ready.apart x (inl refl) added
]
