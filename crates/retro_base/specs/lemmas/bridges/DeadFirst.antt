-- Of the entries that are held together, the dead come before the survivors. A survivor is never taken, so each entry that
-- is taken while both are held comes before it.
--
--     a c e g    held at a place,  e g  at the end:  a and c come before e and g
use Rattle.std.proofs.Common.{◌≡◌, List, [], ◌∷◌, true, inl, inr, Option, Some, None}
use Rattle.retro_base.specs.declared.row.Entry.{Entry}
use Rattle.retro_base.specs.State.{comes_before, with_entry}
use Rattle.retro_base.specs.lemmas.bridges.Entries.{In, above_in, with_in}
use Rattle.retro_base.specs.lemmas.bridges.Moves.{Leads, Ready, ready_added, ready_taken, taken_for_good}

pub dead_first : (moves : List (Option Entry)) (held end : List Entry) (dead alive : Entry) → Ready held moves → Leads moves held end
    → In dead held → In alive held → ¬ In dead end → In alive end → comes_before dead alive ≡ true
dead_first [] held end dead alive ready leads there here died lives = absurd (died (rw leads at there))
dead_first (Some e ∷ moves) held end dead alive ready leads there here died lives =
    dead_first moves (with_entry e held) end dead alive (ready_added e moves held ready) leads
    (with_in e dead held (inr there)) (with_in e alive held (inr here)) died lives
dead_first (None ∷ moves) [] end dead alive ready leads there here died lives = absurd leads
dead_first (None ∷ moves) (x ∷ held) end dead alive ready leads there here died lives =
    let taken : ¬ In x end = taken_for_good x moves held end ready leads in
    elim here [
      | inl first ↦ absurd (taken (rw first at lives))
      | inr later ↦ elim there [
        | inl first ↦ rw first (above_in x alive held ready.rising.0 later)
        | inr further ↦ dead_first moves held end dead alive (ready_taken x moves held ready) leads further later died lives
      ]
    ]
