-- After a bridge and up to the next one each dead entry that is taken leaves a greater dead one after: it was the least of
-- all, and places that are no bridges hold a dead entry.
--
--     bridge | add 4 | add 6 | take 4 | place      4 is dead, and the dead 6 is greater and still held
use Rattle.std.proofs.Common.{ℕ, zero, suc, ◌<◌, List, [], ◌∷◌, take, ◌⊎◌, inl, inr, refl, sym, arith, subst, Option, Some, None}
use Rattle.retro_base.specs.declared.row.Entry.{Entry}
use Rattle.retro_base.specs.State.{with_entry}
use Rattle.retro_base.specs.lemmas.bridges.Bridging.{AllIn, some_dead}
use Rattle.retro_base.specs.lemmas.bridges.EntryOrder.{before_irreflexive}
use Rattle.retro_base.specs.lemmas.bridges.Entries.{In, above_in, with_in, not_before}
use Rattle.retro_base.specs.lemmas.bridges.Moves.{Leads, Adds, Ready, ready_added, ready_taken}
use Rattle.retro_base.specs.lemmas.bridges.Carried.{AtMost}

-- no bridge after the first place, up to so many moves
abbrev pub NoneAfter : ℕ → List (Option Entry) → List Entry → List Entry → Type 0
NoneAfter n moves held alive = (k : ℕ) (next : List Entry) → k < n → Leads (take (suc k) moves) held next → ¬ AllIn alive next

-- a dead entry that is held at the end, and is no less than this one
pub record Outlives (x : Entry) (end alive : List Entry) : Type 0 where
  pub later : Entry
  pub held_there : In later end
  pub dead : ¬ In later alive
  pub no_less : AtMost x later

pub outlived : (n : ℕ) (moves : List (Option Entry)) (held end alive : List Entry) (x : Entry) → Ready held moves → Leads (take n moves) held end
    → NoneAfter n moves held alive → In x held ⊎ Adds x (take n moves) → ¬ In x alive → Outlives x end alive
outlived zero moves held end alive x ready leads none origin died = elim origin [
  | inl there ↦ record { later = x; held_there = subst (In x) leads there; dead = died; no_less = before_irreflexive x }
  | inr added ↦ absurd added
]
outlived (suc n) [] held end alive x ready leads none origin died = elim origin [
  | inl there ↦ record { later = x; held_there = subst (In x) leads there; dead = died; no_less = before_irreflexive x }
  | inr added ↦ absurd added
]
outlived (suc n) (Some e ∷ moves) held end alive x ready leads none origin died =
    outlived n moves (with_entry e held) end alive x (ready_added e moves held ready) leads (λ k next less way. none (suc k) next (omega arith) way)
    (elim origin [
      | inl there ↦ inl (with_in e x held (inr there))
      | inr added ↦ elim added [ inl same ↦ inl (with_in e x held (inl same)) | inr later ↦ inr later ]
    ]) died
outlived (suc n) (None ∷ moves) [] end alive x ready leads none origin died = absurd leads
outlived (suc n) (None ∷ moves) (y ∷ held) end alive x ready leads none origin died =
    let prepared = ready_taken y moves held ready in
    let further : NoneAfter n moves held alive = λ k next less way. none (suc k) next (omega arith) way in
    let rest = some_dead alive held (none zero held (omega arith) refl) in
    let greater = outlived n moves held end alive rest.0 prepared leads further (inl rest.1) rest.2 in
    elim origin [
      | inl there ↦ elim there [
        | inl first ↦ record {
          later = greater.later;
          held_there = greater.held_there;
          dead = greater.dead;
          no_less = subst (λ z. AtMost z greater.later) (sym first) (not_before y greater.later rest.0 (above_in y rest.0 held ready.rising.0 rest.1) greater.no_less);
        }
        | inr after ↦ outlived n moves held end alive x prepared leads further (inl after) died
      ]
      | inr added ↦ outlived n moves held end alive x prepared leads further (inr added) died
    ]
