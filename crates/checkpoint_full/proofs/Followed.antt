-- An edit of the timeline at its checkpoints: each can follow it and be taken back from it, and holds the first rows afterwards.
use Rattle.std.proofs.Common.{◌≡◌, ℕ, zero, suc, ◌+◌, ◌-◌, ◌<◌, ◌≤◌, List, [], ◌∷◌, ◌++◌, length, take, drop, map, refl, sym, subst, ap, ◌∙◌, arith, inl, inr}
use Rattle.std.specs.List.{insert, remove, AllByRecursion}
use Rattle.std.proofs.lemmas.Bool.{lt-ltb, le-ltb, cases_lt}
use Rattle.std.proofs.lemmas.List.{take-append-drop}
use Rattle.std.proofs.lemmas.List.Edits.{length-insert, length-remove}
use Rattle.retro_base.specs.declared.row.Row.{Row}
use Rattle.retro_base.specs.Edits.{add, cut}
use Rattle.retro_base.specs.PrefixLaws.{valid_take}
use Rattle.retro_base.specs.Replay.{IsValid}
use Rattle.retro_base.specs.Timeline.{Structure}
use Rattle.retro_base.specs.EditedLists.{remove-insert}
use Rattle.retro_base.specs.lemmas.FirstRows.{replayable_first}
use Rattle.checkpoint_full.specs.Checkpoints.{after, place_of, CanTake, CanFollow, CanLose, HoldsFirstRows, with_row, without_row}
use Rattle.checkpoint_full.proofs.FirstRows.{same_structure, insert_in_first, insert_after_first, remove_in_first, remove_after_first, rows_of_first, kind_of_first, not_after_now}

-- a checkpoint that stands after the place, and one that does not
pub row_comes : (place : ℕ) (row : Row) (checkpoint : Structure) → place < place_of checkpoint → with_row place row checkpoint ≡ after checkpoint (add place row)
row_comes place row checkpoint less = rw (lt-ltb place (place_of checkpoint) less) refl

pub row_stays_out : (place : ℕ) (row : Row) (checkpoint : Structure) → place_of checkpoint ≤ place → with_row place row checkpoint ≡ checkpoint
row_stays_out place row checkpoint less = rw (le-ltb place (place_of checkpoint) less) refl

pub row_goes : (place : ℕ) (checkpoint : Structure) → place < place_of checkpoint
    → without_row place checkpoint ≡ record { kind = checkpoint.kind; rows = remove checkpoint.rows place }
row_goes place checkpoint less = rw (lt-ltb place (place_of checkpoint) less) refl

pub row_was_out : (place : ℕ) (checkpoint : Structure) → place_of checkpoint ≤ place → without_row place checkpoint ≡ checkpoint
row_was_out place checkpoint less = rw (le-ltb place (place_of checkpoint) less) refl

-- it is one row longer afterwards, or one row shorter
pub longer : (place : ℕ) (row : Row) (checkpoint : Structure) → place < place_of checkpoint → place_of (with_row place row checkpoint) ≡ suc (place_of checkpoint)
longer place row checkpoint less = rw (row_comes place row checkpoint less) (omega (arith, length-insert checkpoint.rows place row (omega arith)))

pub shorter : (place : ℕ) (checkpoint : Structure) → place < place_of checkpoint → place_of checkpoint ≡ place_of (without_row place checkpoint) + 1
shorter place checkpoint less = rw (row_goes place checkpoint less) (omega (arith, length-remove checkpoint.rows place less))

-- a checkpoint can take a row that the timeline can take
can_take_first : (now checkpoint : Structure) (place : ℕ) (row : Row) → HoldsFirstRows now checkpoint → place < place_of checkpoint → CanTake now place row → CanTake checkpoint place row
can_take_first now checkpoint place row first less can =
    let kind = kind_of_first now checkpoint first in
    let inserted : insert checkpoint.rows place row ≡ take (suc (place_of checkpoint)) (insert now.rows place row) =
    ap (λ (rs : List Row). insert rs place row) (rows_of_first now checkpoint first) ∙ insert_in_first now.rows (place_of checkpoint) place row less in
    rw (kind, inserted) (replayable_first now.kind (insert now.rows place row) (suc (place_of checkpoint)) can)

valid_first : (now checkpoint : Structure) → HoldsFirstRows now checkpoint → IsValid now.kind now.rows → IsValid checkpoint.kind checkpoint.rows
valid_first now checkpoint first valid =
    subst (λ (s : Structure). IsValid s.kind s.rows) (sym first) (valid_take now.kind now.rows (place_of checkpoint) valid)

pub each_can_follow : (now : Structure) (place : ℕ) (row : Row) (checkpoints : List Structure) → CanTake now place row → IsValid now.kind now.rows
    → AllByRecursion (HoldsFirstRows now) checkpoints → AllByRecursion (CanFollow place row) checkpoints
each_can_follow now place row [] can valid all = tt
each_can_follow now place row (checkpoint ∷ checkpoints) can valid all =
    (λ less. (can_take_first now checkpoint place row all.0 less can, valid_first now checkpoint all.0 valid), each_can_follow now place row checkpoints can valid all.1)

-- and lose one that the timeline can lose
can_lose_first : (now checkpoint : Structure) (place : ℕ) → HoldsFirstRows now checkpoint → IsValid now.kind (remove now.rows place) → CanLose place checkpoint
can_lose_first now checkpoint place first valid less =
    let count : ℕ = place_of checkpoint - 1 in
    let kind = kind_of_first now checkpoint first in
    let all : place_of checkpoint ≡ suc count = omega arith in
    let removed : remove checkpoint.rows place ≡ take count (remove now.rows place) =
    ap (λ (rs : List Row). remove rs place) (rows_of_first now checkpoint first ∙ ap (λ (n : ℕ). take n now.rows) all)
    ∙ remove_in_first now.rows count place (omega arith) in
    rw (kind, removed) (valid_take now.kind (remove now.rows place) count valid)

pub each_can_lose : (now : Structure) (place : ℕ) (checkpoints : List Structure) → IsValid now.kind (remove now.rows place)
    → AllByRecursion (HoldsFirstRows now) checkpoints → AllByRecursion (CanLose place) checkpoints
each_can_lose now place [] valid all = tt
each_can_lose now place (checkpoint ∷ checkpoints) valid all = (can_lose_first now checkpoint place all.0 valid, each_can_lose now place checkpoints valid all.1)

-- what followed an insertion can be taken back
pub back_again : (place : ℕ) (row : Row) (checkpoint : Structure) → without_row place (with_row place row checkpoint) ≡ checkpoint
back_again place row checkpoint = elim (cases_lt place (place_of checkpoint)) [
  | inl less ↦ rw (row_comes place row checkpoint less)
      (row_goes place (after checkpoint (add place row)) (omega (arith, length-insert checkpoint.rows place row (omega arith)))
      ∙ same_structure checkpoint.kind checkpoint.kind _ _ refl (remove-insert checkpoint.rows place row (omega arith)))
  | inr less ↦ rw (row_stays_out place row checkpoint less) (row_was_out place checkpoint less)
]

pub all_back_again : (place : ℕ) (row : Row) (checkpoints : List Structure) → map (without_row place) (map (with_row place row) checkpoints) ≡ checkpoints
all_back_again place row [] = refl
all_back_again place row (checkpoint ∷ checkpoints) = rw (back_again place row checkpoint) (ap (λ cs. checkpoint ∷ cs) (all_back_again place row checkpoints))

-- the first ones were taken back, and the others were not changed
pub all_as_before : (place : ℕ) (row : Row) (count : ℕ) (old front back rest : List Structure) → front ≡ map (with_row place row) (take count old)
    → rest ≡ drop count old → back ≡ map (without_row place) front → back ++ rest ≡ old
all_as_before place row count old front back rest changed others gone =
    let first : back ≡ take count old = gone ∙ ap (λ cs. map (without_row place) cs) changed ∙ all_back_again place row (take count old) in
    rw (first, others) (take-append-drop count old)

can_go_back : (place : ℕ) (row : Row) (checkpoint : Structure) → CanFollow place row checkpoint → CanLose place (with_row place row checkpoint)
can_go_back place row checkpoint can = elim (cases_lt place (place_of checkpoint)) [
  | inl less ↦ rw (row_comes place row checkpoint less) (λ _. rw (remove-insert checkpoint.rows place row (omega arith)) (can less).1)
  | inr less ↦ rw (row_stays_out place row checkpoint less) (λ more. absurd (omega arith))
]

pub each_can_go_back : (place : ℕ) (row : Row) (count : ℕ) (checkpoints : List Structure) → AllByRecursion (CanFollow place row) checkpoints
    → AllByRecursion (CanLose place) (map (with_row place row) (take count checkpoints))
each_can_go_back place row zero checkpoints all = tt
each_can_go_back place row (suc count) [] all = tt
each_can_go_back place row (suc count) (checkpoint ∷ checkpoints) all =
    (can_go_back place row checkpoint all.0, each_can_go_back place row count checkpoints all.1)

-- so can the timeline
pub now_back_again : (now later back : Structure) (place : ℕ) (row taken : Row) → place ≤ place_of now → later ≡ after now (add place row) → back ≡ after later (cut place taken)
    → back ≡ now
now_back_again now later back place row taken within put gone =
    gone ∙ ap (λ (s : Structure). after s (cut place taken)) put ∙ same_structure now.kind now.kind _ _ refl (remove-insert now.rows place row within)

pub now_can_go_back : (now later : Structure) (place : ℕ) (row : Row) → place ≤ place_of now → later ≡ after now (add place row) → IsValid now.kind now.rows
    → IsValid later.kind (remove later.rows place)
now_can_go_back now later place row within put valid =
    subst (λ (s : Structure). IsValid s.kind (remove s.rows place)) (sym put) (rw (remove-insert now.rows place row within) valid)

-- each holds the first rows of the edited timeline
first_with : (now checkpoint : Structure) (place : ℕ) (row : Row) → HoldsFirstRows now checkpoint → HoldsFirstRows (after now (add place row)) (with_row place row checkpoint)
first_with now checkpoint place row first = elim (cases_lt place (place_of checkpoint)) [
  | inl less ↦ rw (row_comes place row checkpoint less) (same_structure _ _ _ _ (kind_of_first now checkpoint first)
      (ap (λ (rs : List Row). insert rs place row) (rows_of_first now checkpoint first) ∙ insert_in_first now.rows (place_of checkpoint) place row less
      ∙ ap (λ (n : ℕ). take n (insert now.rows place row)) (let same : suc (place_of checkpoint) ≡ length (insert checkpoint.rows place row) =
      omega (arith, length-insert checkpoint.rows place row (omega arith)) in same)))
  | inr less ↦ rw (row_stays_out place row checkpoint less) (same_structure _ _ _ _ (kind_of_first now checkpoint first)
      (rows_of_first now checkpoint first ∙ sym (insert_after_first now.rows (place_of checkpoint) place row less (not_after_now now checkpoint first))))
]

pub all_first_with : (now : Structure) (place : ℕ) (row : Row) (checkpoints : List Structure) → AllByRecursion (HoldsFirstRows now) checkpoints
    → AllByRecursion (HoldsFirstRows (after now (add place row))) (map (with_row place row) checkpoints)
all_first_with now place row [] all = tt
all_first_with now place row (checkpoint ∷ checkpoints) all = (first_with now checkpoint place row all.0, all_first_with now place row checkpoints all.1)

first_without : (now checkpoint : Structure) (place : ℕ) (row : Row) → HoldsFirstRows now checkpoint → HoldsFirstRows (after now (cut place row)) (without_row place checkpoint)
first_without now checkpoint place row first = elim (cases_lt place (place_of checkpoint)) [
  | inl less ↦
      let count : ℕ = place_of checkpoint - 1 in
      let all : place_of checkpoint ≡ suc count = omega arith in
      let removed : remove checkpoint.rows place ≡ take count (remove now.rows place) =
      ap (λ (rs : List Row). remove rs place) (rows_of_first now checkpoint first ∙ ap (λ (n : ℕ). take n now.rows) all)
      ∙ remove_in_first now.rows count place (omega arith) in
      rw (row_goes place checkpoint less) (same_structure _ _ _ _ (kind_of_first now checkpoint first)
      (removed ∙ ap (λ (n : ℕ). take n (remove now.rows place)) (let same : count ≡ length (remove checkpoint.rows place) = omega (arith, length-remove checkpoint.rows place less) in same)))
  | inr less ↦ rw (row_was_out place checkpoint less) (same_structure _ _ _ _ (kind_of_first now checkpoint first)
      (rows_of_first now checkpoint first ∙ sym (remove_after_first now.rows (place_of checkpoint) place less)))
]

pub all_first_without : (now : Structure) (place : ℕ) (row : Row) (checkpoints : List Structure) → AllByRecursion (HoldsFirstRows now) checkpoints
    → AllByRecursion (HoldsFirstRows (after now (cut place row))) (map (without_row place) checkpoints)
all_first_without now place row [] all = tt
all_first_without now place row (checkpoint ∷ checkpoints) all = (first_without now checkpoint place row all.0, all_first_without now place row checkpoints all.1)
