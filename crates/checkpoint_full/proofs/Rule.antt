-- The rule of checkpoints at an edit: the places that are made, moved and left are those that it says.
use Rattle.std.proofs.Common.{◌≡◌, ℕ, zero, suc, ◌+◌, ◌-◌, ◌<◌, ◌≤◌, true, false, List, [], ◌∷◌, ◌++◌, length, map, reverse, get_or, refl, sym, subst, ap, ◌∙◌, arith, inl, inr}
use Rattle.std.specs.List.{insert}
use Rattle.std.proofs.lemmas.Bool.{leb-true, leb-false, le-leb, lt-leb, lt-ltb, le-ltb, cases_lt}
use Rattle.std.proofs.lemmas.List.{reverse-append, reverse-reverse}
use Rattle.std.proofs.lemmas.List.Edits.{length-insert, length-remove}
use Rattle.retro_base.specs.declared.row.Row.{Row}
use Rattle.retro_base.specs.Edits.{add, cut}
use Rattle.retro_base.specs.Timeline.{Structure}
use Rattle.checkpoint_full.specs.Checkpoints.{Checkpointed, after, first_of, place_of, places_of, seen, with_row, without_row, KeepsCheckpoints}
use Rattle.checkpoint_full.specs.Rule.{between, latest_first, one_earlier, one_further, places_after_insertion, places_after_removal}
use Rattle.checkpoint_full.specs.Rule.{rising, width_after_insertion, width_after_removal, with_room, with_row_less, with_row_more}
use Rattle.checkpoint_full.specs.Widths.{most_checkpoints, settled, settled_width, thinned, AreClose}
use Rattle.checkpoint_full.proofs.Between.{below_of, StandsBetween}
use Rattle.checkpoint_full.proofs.FirstRows.{place_of-first_of}
use Rattle.checkpoint_full.proofs.Places.{is_up_to}

-- a place that is after the row, neighbours with room between them, and neighbours without
passes : (width place later earlier : ℕ) (places : List ℕ) → place < earlier
    → with_room width place later (earlier ∷ places) ≡ earlier ∷ with_room width place earlier places
passes width place later earlier places less = rw (lt-ltb place earlier less) refl

has_room : (width place later earlier : ℕ) (places : List ℕ) → earlier ≤ place → later < earlier + width
    → with_room width place later (earlier ∷ places) ≡ earlier ∷ places
has_room width place later earlier places less near = rw (le-ltb place earlier less, lt-ltb later (earlier + width) near) refl

makes_room : (width place later earlier : ℕ) (places : List ℕ) → earlier ≤ place → earlier + width ≤ later
    → with_room width place later (earlier ∷ places) ≡ between earlier later place ∷ earlier ∷ places
makes_room width place later earlier places less far = rw (le-ltb place earlier less, le-ltb later (earlier + width) far) refl

-- no checkpoint is made where there is room
none_made : (width place : ℕ) (now : Structure) (checkpoints : List Structure) (index : ℕ) (d : Structure)
    → index < length checkpoints → ((k : ℕ) → k < index → is_up_to place (get_or checkpoints k d) ≡ false) → is_up_to place (get_or checkpoints index d) ≡ true
    → place_of (get_or (now ∷ checkpoints) index d) < place_of (get_or checkpoints index d) + width
    → map place_of checkpoints ≡ with_room width place (place_of now) (map place_of checkpoints)
none_made width place now [] index d below others here near = absurd (omega arith)
none_made width place now (checkpoint ∷ checkpoints) zero d below others here near =
    sym (has_room width place (place_of now) (place_of checkpoint) (map place_of checkpoints) (leb-true _ _ here) near)
none_made width place now (checkpoint ∷ checkpoints) (suc index) d below others here near =
    ap (λ places. place_of checkpoint ∷ places)
    (none_made width place checkpoint checkpoints index d (omega arith) (λ k less. others (suc k) (omega arith)) here near)
    ∙ sym (passes width place (place_of now) (place_of checkpoint) (map place_of checkpoints) (leb-false _ _ (others 0 (omega arith))))

pub room_was_there : (width : ℕ) (now : Structure) (checkpoints : List Structure) (place index : ℕ) (earlier later : Structure)
    → StandsBetween now checkpoints place index earlier later → place_of later < place_of earlier + width
    → map place_of checkpoints ≡ with_room width place (place_of now) (map place_of checkpoints)
room_was_there width now checkpoints place index earlier later stands near =
    let below = below_of now checkpoints place index earlier later stands in
    let near_there : place_of (get_or (now ∷ checkpoints) index earlier) < place_of (get_or checkpoints index earlier) + width =
    subst (λ s. place_of s < place_of (get_or checkpoints index earlier) + width) stands.later_is
    (subst (λ s. place_of later < place_of s + width) stands.earlier_is near) in
    none_made width place now checkpoints index earlier below.0 below.2 below.1 near_there

-- and where there is none, one is made
one_made : (width place : ℕ) (now : Structure) (checkpoints : List Structure) (index : ℕ) (made d : Structure)
    → index < length checkpoints → ((k : ℕ) → k < index → is_up_to place (get_or checkpoints k d) ≡ false) → is_up_to place (get_or checkpoints index d) ≡ true
    → place_of (get_or checkpoints index d) + width ≤ place_of (get_or (now ∷ checkpoints) index d)
    → place_of made ≡ between (place_of (get_or checkpoints index d)) (place_of (get_or (now ∷ checkpoints) index d)) place
    → map place_of (insert checkpoints index made) ≡ with_room width place (place_of now) (map place_of checkpoints)
one_made width place now [] index made d below others here far stands = absurd (omega arith)
one_made width place now (checkpoint ∷ checkpoints) zero made d below others here far stands =
    ap (λ (p : ℕ). p ∷ place_of checkpoint ∷ map place_of checkpoints) stands
    ∙ sym (makes_room width place (place_of now) (place_of checkpoint) (map place_of checkpoints) (leb-true _ _ here) far)
one_made width place now (checkpoint ∷ checkpoints) (suc index) made d below others here far stands =
    ap (λ places. place_of checkpoint ∷ places)
    (one_made width place checkpoint checkpoints index made d (omega arith) (λ k less. others (suc k) (omega arith)) here far stands)
    ∙ sym (passes width place (place_of now) (place_of checkpoint) (map place_of checkpoints) (leb-false _ _ (others 0 (omega arith))))

pub room_is_made : (width : ℕ) (now : Structure) (checkpoints more : List Structure) (place index count : ℕ) (earlier later made : Structure)
    → StandsBetween now checkpoints place index earlier later → place_of earlier + width ≤ place_of later → count ≤ place_of later
    → count ≡ between (place_of earlier) (place_of later) place → made ≡ first_of count later → more ≡ insert checkpoints index made
    → map place_of more ≡ with_room width place (place_of now) (map place_of checkpoints)
room_is_made width now checkpoints more place index count earlier later made stands far within counted copied put =
    let below = below_of now checkpoints place index earlier later stands in
    let far_there : place_of (get_or checkpoints index earlier) + width ≤ place_of (get_or (now ∷ checkpoints) index earlier) =
    subst (λ s. place_of (get_or checkpoints index earlier) + width ≤ place_of s) stands.later_is
    (subst (λ s. place_of s + width ≤ place_of later) stands.earlier_is far) in
    let made_at : place_of made ≡ between (place_of earlier) (place_of later) place =
    ap (λ s. place_of s) copied ∙ place_of-first_of count later within ∙ counted in
    let made_there : place_of made ≡ between (place_of (get_or checkpoints index earlier)) (place_of (get_or (now ∷ checkpoints) index earlier)) place =
    subst (λ s. place_of made ≡ between (place_of (get_or checkpoints index earlier)) (place_of s) place) stands.later_is
    (subst (λ s. place_of made ≡ between (place_of s) (place_of later) place) stands.earlier_is made_at) in
    ap (λ cs. map place_of cs) put ∙ one_made width place now checkpoints index made earlier below.0 below.2 below.1 far_there made_there

-- a checkpoint after the place moves with the rows
one_with : (place : ℕ) (row : Row) (checkpoint : Structure) → place_of (with_row place row checkpoint) ≡ one_further place (place_of checkpoint)
one_with place row checkpoint = elim (cases_lt place (place_of checkpoint)) [
  | inl less ↦ rw (lt-ltb place (place_of checkpoint) less) (omega (arith, length-insert checkpoint.rows place row (omega arith)))
  | inr less ↦ rw (le-ltb place (place_of checkpoint) less) refl
]

one_without : (place : ℕ) (checkpoint : Structure) → place_of (without_row place checkpoint) ≡ one_earlier place (place_of checkpoint)
one_without place checkpoint = elim (cases_lt place (place_of checkpoint)) [
  | inl less ↦ rw (lt-ltb place (place_of checkpoint) less) (omega (arith, length-remove checkpoint.rows place less))
  | inr less ↦ rw (le-ltb place (place_of checkpoint) less) refl
]

all_with : (place : ℕ) (row : Row) (checkpoints : List Structure)
    → map place_of (map (with_row place row) checkpoints) ≡ map (one_further place) (map place_of checkpoints)
all_with place row [] = refl
all_with place row (checkpoint ∷ checkpoints) =
    ap (λ (p : ℕ). p ∷ map place_of (map (with_row place row) checkpoints)) (one_with place row checkpoint)
    ∙ ap (λ places. one_further place (place_of checkpoint) ∷ places) (all_with place row checkpoints)

all_without : (place : ℕ) (checkpoints : List Structure)
    → map place_of (map (without_row place) checkpoints) ≡ map (one_earlier place) (map place_of checkpoints)
all_without place [] = refl
all_without place (checkpoint ∷ checkpoints) =
    ap (λ (p : ℕ). p ∷ map place_of (map (without_row place) checkpoints)) (one_without place checkpoint)
    ∙ ap (λ places. one_earlier place (place_of checkpoint) ∷ places) (all_without place checkpoints)

-- the start is the last of the places
ends_at_start : (width later place : ℕ) (places : List ℕ) → AreClose width later (place ∷ places) 0
    → (front : List ℕ) × (place ∷ places ≡ front ++ 0 ∷ [])
ends_at_start width later place [] close = ([], ap (λ (p : ℕ). p ∷ []) close.2)
ends_at_start width later place (earlier ∷ places) close =
    let ends = ends_at_start width place earlier places close.2 in (place ∷ ends.0, ap (λ ps. place ∷ ps) ends.1)

start_last : (places front : List ℕ) → places ≡ front ++ 0 ∷ [] → reverse (rising places) ++ 0 ∷ [] ≡ places
start_last places front ends = rw ends (rw (reverse-append front (0 ∷ [])) (ap (λ ps. ps ++ 0 ∷ []) (reverse-reverse front)))

-- so what is seen tells all of them
pub all_seen : (width : ℕ) (now : Structure) (checkpoints : List Structure) → KeepsCheckpoints width now checkpoints
    → latest_first (seen width now checkpoints) ≡ map place_of checkpoints
all_seen width now [] kept = refl
all_seen width now (checkpoint ∷ checkpoints) kept =
    let ends = ends_at_start width (place_of now) (place_of checkpoint) (map place_of checkpoints) (kept refl).close in
    start_last (map place_of (checkpoint ∷ checkpoints)) ends.0 ends.1

-- where they are before they are settled
pub moved_with : (width : ℕ) (now : Structure) (checkpoints roomy changed : List Structure) (place : ℕ) (row : Row) → KeepsCheckpoints width now checkpoints
    → map place_of roomy ≡ with_room width place (place_of now) (map place_of checkpoints) → changed ≡ map (with_row place row) roomy
    → map place_of changed ≡ with_row_more (seen width now checkpoints) place
moved_with width now checkpoints roomy changed place row kept room each =
    ap (λ cs. map place_of cs) each ∙ all_with place row roomy
    ∙ ap (λ places. map (one_further place) places)
    (room ∙ ap (λ places. with_room width place (place_of now) places) (sym (all_seen width now checkpoints kept)))

pub moved_without : (width : ℕ) (now : Structure) (checkpoints changed : List Structure) (place : ℕ) → KeepsCheckpoints width now checkpoints
    → changed ≡ map (without_row place) checkpoints → map place_of changed ≡ with_row_less (seen width now checkpoints) place
moved_without width now checkpoints changed place kept each =
    ap (λ cs. map place_of cs) each ∙ all_without place checkpoints ∙ ap (λ places. map (one_earlier place) places) (sym (all_seen width now checkpoints kept))

-- and what is left of them
pub settled_with : (width next : ℕ) (now later : Structure) (checkpoints changed left : List Structure) (place : ℕ) (row : Row) → place ≤ place_of now
    → later ≡ after now (add place row) → map place_of changed ≡ with_row_more (seen width now checkpoints) place
    → next ≡ settled_width width (place_of later) (map place_of changed) → map place_of left ≡ settled width (place_of later) (map place_of changed)
    → (next ≡ width_after_insertion (seen width now checkpoints) place) × (places_of left ≡ places_after_insertion (seen width now checkpoints) place)
unfolding width_after_insertion places_after_insertion
settled_with width next now later checkpoints changed left place row within put moved wide all =
    let one : place_of later ≡ place_of now + 1 = rw put (length-insert now.rows place row within) in (
      wide ∙ ap (λ (rows : ℕ). settled_width width rows (map place_of changed)) one ∙ ap (λ places. settled_width width (place_of now + 1) places) moved,
      ap rising (all ∙ ap (λ (rows : ℕ). settled width rows (map place_of changed)) one ∙ ap (λ places. settled width (place_of now + 1) places) moved),
    )

pub settled_without : (width next : ℕ) (now later : Structure) (checkpoints changed left : List Structure) (place : ℕ) (row : Row) → place < place_of now
    → later ≡ after now (cut place row) → map place_of changed ≡ with_row_less (seen width now checkpoints) place
    → next ≡ settled_width width (place_of later) (map place_of changed) → map place_of left ≡ settled width (place_of later) (map place_of changed)
    → (next ≡ width_after_removal (seen width now checkpoints) place) × (places_of left ≡ places_after_removal (seen width now checkpoints) place)
unfolding width_after_removal places_after_removal
settled_without width next now later checkpoints changed left place row below gone moved wide all =
    let one : place_of later ≡ place_of now - 1 = rw gone (omega (arith, length-remove now.rows place below)) in (
      wide ∙ ap (λ (rows : ℕ). settled_width width rows (map place_of changed)) one ∙ ap (λ places. settled_width width (place_of now - 1) places) moved,
      ap rising (all ∙ ap (λ (rows : ℕ). settled width rows (map place_of changed)) one ∙ ap (λ places. settled width (place_of now - 1) places) moved),
    )

-- no edit makes the width less
wide_settled : (width later : ℕ) (places : List ℕ) → width ≤ settled_width width later places
wide_settled width later places = elim (cases_lt (1 + most_checkpoints) (length (thinned width later places))) [
  | inl many ↦ rw (lt-leb (length (thinned width later places)) (1 + most_checkpoints) many) (omega arith)
  | inr few ↦ rw (le-leb (length (thinned width later places)) (1 + most_checkpoints) few) (omega arith)
]

pub wide_with : (inside now : Checkpointed) (place width : ℕ) → inside ≡ now → width ≡ width_after_insertion inside place → now.width ≤ width
unfolding width_after_insertion
wide_with inside now place width same is = rw (← same, is) (wide_settled inside.width (length inside.rows + 1) (with_row_more inside place))

pub wide_without : (inside now : Checkpointed) (place width : ℕ) → inside ≡ now → width ≡ width_after_removal inside place → now.width ≤ width
unfolding width_after_removal
wide_without inside now place width same is = rw (← same, is) (wide_settled inside.width (length inside.rows - 1) (with_row_less inside place))
