-- What is lost: an entry is missing that is taken later. Where it would be taken the next one is, and is missing from then on,
-- until a bridge is reached: there the least entry of all is missing, or nothing is left to be taken.
--
--     held and c     take c    take x    | bridge    y z
--     held           take x    take y    | bridge      z
use Rattle.std.proofs.Common.{◌≡◌, ◌≢◌, ℕ, zero, suc, ◌<◌, true, false, List, [], ◌∷◌, take, ◌⊎◌, inl, inr, refl, ap, sym, ◌∙◌, arith, subst, Option, Some, None}
use Rattle.retro_base.specs.declared.row.Entry.{Entry}
use Rattle.retro_base.specs.State.{comes_before, with_entry}
use Rattle.retro_base.specs.lemmas.bridges.Bridging.{AllIn, all_in, some_dead}
use Rattle.retro_base.specs.lemmas.bridges.EntryOrder.{before_one_way}
use Rattle.retro_base.specs.lemmas.bridges.Entries.{In, above_in, first_once, with_in, in_with, with_first, with_later, with_above, with_swapped}
use Rattle.retro_base.specs.lemmas.bridges.Moves.{Leads, FailsAt, Adds, Ready, ready_added, ready_taken}
use Rattle.retro_base.specs.lemmas.bridges.DeadFirst.{dead_first}

-- where not all are survivors the first one is dead
pub first_dead : (x : Entry) (moves : List (Option Entry)) (held alive : List Entry) → Ready (x ∷ held) moves → Leads moves (x ∷ held) alive
    → ¬ AllIn alive (x ∷ held) → ¬ In x alive
first_dead x moves held alive ready leads some lives =
    let dead = some_dead alive (x ∷ held) some in
    elim dead.1 [
      | inl same ↦ dead.2 (subst (λ z. In z alive) (sym same) lives)
      | inr later ↦
          let first = dead_first moves (x ∷ held) alive dead.0 x ready leads (inr later) (inl refl) dead.2 lives in
          let wrong : true ≡ false = sym first ∙ before_one_way x dead.0 (above_in x dead.0 held ready.rising.0 later) in
          absurd (cc)
    ]

-- no bridge at these places, before so many moves
abbrev pub NoneBefore : ℕ → List (Option Entry) → List Entry → List Entry → Type 0
NoneBefore n moves held alive = (k : ℕ) (next : List Entry) → k < n → Leads (take k moves) held next → ¬ AllIn alive next

-- after so many moves nothing is left and the last of them failed, or the first entry is missing
abbrev pub Lost : ℕ → List (Option Entry) → List Entry → List Entry → Type 0
Lost n moves held end = ((i : ℕ) × (suc i ≡ n) × (end ≡ []) × FailsAt moves held i) ⊎ ((y : Entry) × (rest : List Entry) × (end ≡ y ∷ rest) × Leads (take n moves) held rest)

lost_later : (n : ℕ) (move : Option Entry) (moves : List (Option Entry)) (held next end : List Entry)
    → ((i : ℕ) → FailsAt moves next i → FailsAt (move ∷ moves) held (suc i)) → ((rest : List Entry) → Leads (take n moves) next rest → Leads (take (suc n) (move ∷ moves)) held rest)
    → Lost n moves next end → Lost (suc n) (move ∷ moves) held end
lost_later n move moves held next end fails leads lost = elim lost [
  | inl none ↦ inl (suc none.0, ap suc none.1, none.2, fails none.0 none.3)
  | inr some ↦ inr (some.0, some.1, some.2, leads some.1 some.3)
]

-- what a proof by steps knows: the entry is dead, and the longer list leads by so many moves to a bridge, past none
pub record Missing (n : ℕ) (moves : List (Option Entry)) (c : Entry) (held end alive : List Entry) : Type 0 where
  pub ready : Ready held moves
  pub absent : ¬ In c held
  pub never : ¬ Adds c moves
  pub on : Leads moves (with_entry c held) alive
  pub died : ¬ In c alive
  pub up_to : Leads (take n moves) (with_entry c held) end
  pub bridge : AllIn alive end
  pub none : NoneBefore n moves (with_entry c held) alive

missing_added : (n : ℕ) (e : Entry) (moves : List (Option Entry)) (c : Entry) (held end alive : List Entry) → Missing (suc n) (Some e ∷ moves) c held end alive
    → Missing n moves c (with_entry e held) end alive
missing_added n e moves c held end alive m =
    let other : c ≢ e = λ same. m.never (inl same) in
    let swapped : with_entry e (with_entry c held) ≡ with_entry c (with_entry e held) = with_swapped e c held (λ same. other (sym same)) in
    record {
      ready = ready_added e moves held m.ready;
      absent = λ inside. elim (in_with e c held inside) [ inl same ↦ other same | inr there ↦ m.absent there ];
      never = λ added. m.never (inr added);
      on = subst (λ l. Leads moves l alive) swapped m.on;
      died = m.died;
      up_to = subst (λ l. Leads (take n moves) l end) swapped m.up_to;
      bridge = m.bridge;
      none = λ k next less way. m.none (suc k) next (omega arith) (subst (λ l. Leads (take k moves) l next) (sym swapped) way);
    }

-- another entry is taken
missing_taken : (n : ℕ) (x : Entry) (moves : List (Option Entry)) (c : Entry) (held end alive : List Entry) → comes_before c x ≡ false
    → Missing (suc n) (None ∷ moves) c (x ∷ held) end alive → Missing n moves c held end alive
missing_taken n x moves c held end alive after m =
    let later : with_entry c (x ∷ held) ≡ x ∷ with_entry c held = with_later c x held after in
    record {
      ready = ready_taken x moves held m.ready;
      absent = λ inside. m.absent (inr inside);
      never = m.never;
      on = subst (λ l. Leads (None ∷ moves) l alive) later m.on;
      died = m.died;
      up_to = subst (λ l. Leads (take (suc n) (None ∷ moves)) l end) later m.up_to;
      bridge = m.bridge;
      none = λ k next less way. m.none (suc k) next (omega arith) (subst (λ l. Leads (take (suc k) (None ∷ moves)) l next) (sym later) way);
    }

-- the missing entry would be taken, and the next one is missing in its place
missing_exchanged : (n : ℕ) (x : Entry) (moves : List (Option Entry)) (c : Entry) (held end alive : List Entry) → comes_before c x ≡ true
    → Missing (suc (suc n)) (None ∷ moves) c (x ∷ held) end alive → Missing (suc n) moves x held end alive
missing_exchanged n x moves c held end alive before m =
    let first : with_entry c (x ∷ held) ≡ c ∷ x ∷ held = with_first c x held before in
    let above : with_entry x held ≡ x ∷ held = with_above x held m.ready.rising.0 in
    let on : Leads moves (x ∷ held) alive = subst (λ l. Leads (None ∷ moves) l alive) first m.on in
    let none : ¬ AllIn alive (x ∷ held) = m.none (suc zero) (x ∷ held) (omega arith) (subst (λ l. Leads (take (suc zero) (None ∷ moves)) l (x ∷ held)) (sym first) refl) in
    let ready : Ready (x ∷ held) moves = record { rising = m.ready.rising; once = m.ready.once; apart = m.ready.apart } in
    record {
      ready = ready_taken x moves held m.ready;
      absent = first_once x held m.ready.rising.0;
      never = m.ready.apart x (inl refl);
      on = subst (λ l. Leads moves l alive) (sym above) on;
      died = first_dead x moves held alive ready on none;
      up_to = subst (λ l. Leads (take (suc n) moves) l end) (sym above) (subst (λ l. Leads (take (suc (suc n)) (None ∷ moves)) l end) first m.up_to);
      bridge = m.bridge;
      none = λ k next less way. m.none (suc k) next (omega arith)
          (subst (λ l. Leads (take (suc k) (None ∷ moves)) l next) (sym first) (subst (λ l. Leads (take k moves) l next) above way));
    }

-- the last of so many moves: the bridge is right after it
last_taken : (x : Entry) (moves : List (Option Entry)) (c : Entry) (held end alive : List Entry) → comes_before c x ≡ true
    → Missing (suc zero) (None ∷ moves) c (x ∷ held) end alive → Lost (suc zero) (None ∷ moves) (x ∷ held) end
last_taken x moves c held end alive before m =
    inr (x, held, sym (subst (λ l. Leads (take (suc zero) (None ∷ moves)) l end) (with_first c x held before) m.up_to), refl)

nothing_left : (n : ℕ) (moves : List (Option Entry)) (c : Entry) (end alive : List Entry) → Missing (suc n) (None ∷ moves) c [] end alive
    → Lost (suc n) (None ∷ moves) [] end
nothing_left zero moves c end alive m = inl (zero, refl, sym m.up_to, tt)
nothing_left (suc n) moves c end alive m = absurd (m.none (suc zero) [] (omega arith) refl tt)

pub lost : (n : ℕ) (moves : List (Option Entry)) (c : Entry) (held end alive : List Entry) → Missing n moves c held end alive → Lost n moves held end
lost zero moves c held end alive m = absurd (m.died (all_in alive (with_entry c held) c (subst (AllIn alive) (sym m.up_to) m.bridge) (with_in c c held (inl refl))))
lost (suc n) [] c held end alive m = absurd (m.died (subst (In c) m.on (with_in c c held (inl refl))))
lost (suc n) (Some e ∷ moves) c held end alive m =
    lost_later n (Some e) moves held (with_entry e held) end (λ i fails. fails) (λ rest leads. leads) (lost n moves c (with_entry e held) end alive (missing_added n e moves c held end alive m))
lost (suc n) (None ∷ moves) c [] end alive m = nothing_left n moves c end alive m
lost (suc zero) (None ∷ moves) c (x ∷ held) end alive m = elim (comes_before c x) as (λ b. comes_before c x ≡ b → Lost (suc zero) (None ∷ moves) (x ∷ held) end) [
  | true ↦ λ before. last_taken x moves c held end alive before m
  | false ↦ λ after. lost_later zero None moves (x ∷ held) held end (λ i fails. fails) (λ rest leads. leads) (lost zero moves c held end alive (missing_taken zero x moves c held end alive after m))
] refl
lost (suc (suc n)) (None ∷ moves) c (x ∷ held) end alive m = elim (comes_before c x) as (λ b. comes_before c x ≡ b → Lost (suc (suc n)) (None ∷ moves) (x ∷ held) end) [
  | true ↦ λ before. lost_later (suc n) None moves (x ∷ held) held end (λ i fails. fails) (λ rest leads. leads) (lost (suc n) moves x held end alive (missing_exchanged n x moves c held end alive before m))
  | false ↦ λ after. lost_later (suc n) None moves (x ∷ held) held end (λ i fails. fails) (λ rest leads. leads) (lost (suc n) moves c held end alive (missing_taken (suc n) x moves c held end alive after m))
] refl
