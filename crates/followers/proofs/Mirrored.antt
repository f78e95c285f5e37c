-- A change takes the entries of one present to those of the next.
use Rattle.std.proofs.Common.{◌≡◌, ◌≢◌, suc, true, false, cond, Contains, List, [], ◌∷◌, refl, sym, ap, arith}
use Rattle.retro_base.specs.declared.row.Change.{Change}
use Rattle.retro_base.specs.declared.row.Change.TheVariants.{Plain, Gain, Lose}
use Rattle.retro_base.specs.declared.row.Entry.{Entry}
use Rattle.retro_base.specs.declared.row.Row.{Row}
use Rattle.retro_base.specs.Bridges.{survivors}
use Rattle.retro_base.specs.Changes.{IsPqChange}
use Rattle.retro_base.specs.Edits.{Edit, edited}
use Rattle.retro_base.specs.State.{comes_before, with_entry}
use Rattle.retro_base.specs.lemmas.bridges.EntryOrder.{not_same, same_entry-refl}
use Rattle.followers.specs.MirrorLaws.{MirrorsHoldThePresent, TellsEdits}
use Rattle.followers.specs.Mirrors.{changed, without_entry}

-- an entry that is not there, put in and taken out again
back_out : (entry : Entry) (entries : List Entry) → (Contains entries entry → ⊥) → without_entry entry (with_entry entry entries) ≡ entries
back_out entry [] absent = rw (same_entry-refl entry) refl
back_out entry (first ∷ others) absent =
    let other : entry ≢ first = λ same. absent (0, omega arith, sym same) in
    let rest : without_entry entry (with_entry entry others) ≡ others =
    back_out entry others (λ there. absent (suc there.0, omega (arith, there.1), there.2)) in
    elim (comes_before entry first) as (λ b. without_entry entry (cond b (entry ∷ first ∷ others) (first ∷ with_entry entry others)) ≡ first ∷ others) [
      | true ↦ rw (same_entry-refl entry) refl
      | false ↦ rw (not_same entry first other) (ap (λ es. first ∷ es) rest)
    ]

change_follows : (rows : List Row) (edit : Edit) (change : Change) → IsPqChange rows edit change → changed change (survivors rows) ≡ survivors (edited rows edit)
change_follows rows edit Plain is = absurd is
change_follows rows edit (Gain bridge entry) is = sym is.1.joined
change_follows rows edit (Lose bridge entry) is = rw is.1.joined (back_out entry (survivors (edited rows edit)) is.1.absent)

pub mirrored : MirrorsHoldThePresent
mirrored name rows after events (TellsEdits.none same) = refl
mirrored name rows after events (TellsEdits.own from to edit event more is change tells) =
    rw (is, change_follows rows edit event.change change) (mirrored name (edited rows edit) after more tells)
mirrored name rows after events (TellsEdits.other from to event more is tells) = rw is (mirrored name rows after more tells)
