-- The places of checkpoints: which is nearest, and that neighbours stay close when rows or checkpoints come and go.
use Rattle.std.proofs.Common.{◌≡◌, ℕ, zero, suc, ◌+◌, ◌<◌, ◌≤◌, nat_le, Bool, true, false, List, [], ◌∷◌, ◌++◌, length, map, get_or, position, refl, sym, subst, ap, ◌∙◌, arith, Option, Some, None, inl, inr}
use Rattle.std.specs.List.{insert, position_or_len}
use Rattle.std.specs.Option.{IsSome}
use Rattle.std.proofs.lemmas.Bool.{leb-true, leb-false, le-leb, lt-ltb, cases_lt}
use Rattle.std.proofs.lemmas.List.Quantifiers.{position-Some}
use Rattle.retro_base.specs.declared.row.Row.{Row}
use Rattle.retro_base.specs.Timeline.{Structure}
use Rattle.checkpoint_full.specs.Checkpoints.{place_of, with_row, without_row, AreCheckpoints, FitsBetween, HoldsFirstRows, were_made}
use Rattle.checkpoint_full.specs.Widths.{AreClose}
use Rattle.checkpoint_full.proofs.Mapped.{all_of}
use Rattle.checkpoint_full.proofs.Followed.{longer, shorter, row_stays_out, row_was_out}
use Rattle.retro_base.specs.Facts.{some_is_not_none}

-- whether a checkpoint is not after the place
abbrev pub is_up_to : ℕ → Structure → Bool
is_up_to place checkpoint = nat_le (place_of checkpoint) place

here_first : (p : Structure → Bool) (x : Structure) (xs : List Structure) → p x ≡ true → position_or_len p (x ∷ xs) ≡ 0
here_first p x xs e = rw e refl

not_here : (p : Structure → Bool) (x : Structure) (xs : List Structure) → p x ≡ false → position_or_len p (x ∷ xs) ≡ 1 + position_or_len p xs
not_here p x xs e = rw e refl

-- the start is not after any place, so there is a nearest one
found_by : (most later place : ℕ) (checkpoint : Structure) (checkpoints : List Structure) → AreClose most later (map place_of (checkpoint ∷ checkpoints)) 0
    → position_or_len (is_up_to place) (checkpoint ∷ checkpoints) < length (checkpoint ∷ checkpoints)
found_by most later place checkpoint [] close =
    let here : is_up_to place checkpoint ≡ true = le-leb (place_of checkpoint) place (omega (arith, close.2)) in
    rw (here_first (is_up_to place) checkpoint [] here) (omega arith)
found_by most later place checkpoint (earlier ∷ checkpoints) close =
    elim (is_up_to place checkpoint) as (λ b. is_up_to place checkpoint ≡ b
    → position_or_len (is_up_to place) (checkpoint ∷ earlier ∷ checkpoints) < length (checkpoint ∷ earlier ∷ checkpoints)) [
      | true ↦ λ e. rw (here_first (is_up_to place) checkpoint (earlier ∷ checkpoints) e) (omega arith)
      | false ↦ λ e. rw (not_here (is_up_to place) checkpoint (earlier ∷ checkpoints) e) (omega (arith, found_by most (place_of checkpoint) place earlier checkpoints close.2))
    ] refl

found_at : (most later place : ℕ) (checkpoint : Structure) (checkpoints : List Structure) → AreClose most later (map place_of (checkpoint ∷ checkpoints)) 0
    → position (is_up_to place) (checkpoint ∷ checkpoints) ≡ Some (position_or_len (is_up_to place) (checkpoint ∷ checkpoints))
found_at most later place checkpoint checkpoints close = rw (lt-ltb _ _ (found_by most later place checkpoint checkpoints close)) refl

pub one_is_nearest : (most later place : ℕ) (checkpoints : List Structure) (nearest : Option ℕ) → were_made checkpoints ≡ true → AreClose most later (map place_of checkpoints) 0
    → nearest ≡ position (is_up_to place) checkpoints → IsSome nearest
one_is_nearest most later place [] nearest made close at = absurd (cc)
one_is_nearest most later place (checkpoint ∷ checkpoints) nearest made close at = rw (at, found_at most later place checkpoint checkpoints close) refl

pub none_were_made : (most later place : ℕ) (checkpoints : List Structure) → (were_made checkpoints ≡ true → AreClose most later (map place_of checkpoints) 0)
    → position (is_up_to place) checkpoints ≡ None → checkpoints ≡ []
none_were_made most later place [] close none = refl
none_were_made most later place (checkpoint ∷ checkpoints) close none =
    absurd (some_is_not_none (sym (found_at most later place checkpoint checkpoints (close refl)) ∙ none))

-- the nearest checkpoint is near
pub near_by : (most later place index : ℕ) (checkpoints : List Structure) (d : Structure) → AreClose most later (map place_of checkpoints) 0 → place ≤ later
    → index < length checkpoints → ((k : ℕ) → k < index → is_up_to place (get_or checkpoints k d) ≡ false) → place ≤ place_of (get_or checkpoints index d) + most
near_by most later place index [] d close within below others = absurd (omega arith)
near_by most later place zero (checkpoint ∷ checkpoints) d close within below others = omega (arith, close.1)
near_by most later place (suc index) (checkpoint ∷ checkpoints) d close within below others =
    let after : place < place_of checkpoint = leb-false _ _ (others 0 (omega arith)) in
    near_by most (place_of checkpoint) place index checkpoints d close.2 (omega (arith, after)) (omega arith) (λ k less. others (suc k) (omega arith))

pub nearest_is_near : (most : ℕ) (now : Structure) (checkpoints : List Structure) (place index : ℕ) (earlier : Structure) → AreCheckpoints most now checkpoints
    → place ≤ place_of now → position (is_up_to place) checkpoints ≡ Some index → earlier ≡ get_or checkpoints index earlier
    → HoldsFirstRows now earlier × (place_of earlier ≤ place) × (place ≤ place_of earlier + most)
nearest_is_near most now checkpoints place index earlier are within at there =
    let first = position-Some (is_up_to place) checkpoints index earlier at in
    let near = near_by most (place_of now) place index checkpoints earlier are.close within first.0 first.2 in
    let here = leb-true _ _ first.1 in (
      all_of (HoldsFirstRows now) checkpoints index earlier earlier are.first_rows first.0 there,
      subst (λ s. place_of s ≤ place) (sym there) here,
      subst (λ s. place ≤ place_of s + most) (sym there) near,
    )

-- one more place at the end
pub close_more : (most later last next : ℕ) (places : List ℕ) → AreClose most later places last → next ≤ last → last ≤ next + most
    → AreClose most later (places ++ next ∷ []) next
close_more most later last next [] close less near = (omega (arith, close), omega (arith, close), refl)
close_more most later last next (place ∷ places) close less near = (close.0, close.1, close_more most place last next places close.2 less near)

-- checkpoints that are not after the place stand where they stood
with_earlier : (most later place : ℕ) (row : Row) (checkpoints : List Structure) → AreClose most later (map place_of checkpoints) 0 → later ≤ place
    → map (with_row place row) checkpoints ≡ checkpoints
with_earlier most later place row [] close less = refl
with_earlier most later place row (checkpoint ∷ checkpoints) close less =
    rw (row_stays_out place row checkpoint (omega (arith, close.0)))
    (ap (λ cs. checkpoint ∷ cs) (with_earlier most (place_of checkpoint) place row checkpoints close.2 (omega (arith, close.0))))

without_earlier : (most later place : ℕ) (checkpoints : List Structure) → AreClose most later (map place_of checkpoints) 0 → later ≤ place
    → map (without_row place) checkpoints ≡ checkpoints
without_earlier most later place [] close less = refl
without_earlier most later place (checkpoint ∷ checkpoints) close less =
    rw (row_was_out place checkpoint (omega (arith, close.0)))
    (ap (λ cs. checkpoint ∷ cs) (without_earlier most (place_of checkpoint) place checkpoints close.2 (omega (arith, close.0))))

-- neighbours with room between them are close after a row comes
pub close_with : (most later more place : ℕ) (row : Row) (checkpoint : Structure) (checkpoints : List Structure) → more ≡ later + 1
    → AreClose most later (map place_of (checkpoint ∷ checkpoints)) 0 → FitsBetween most place later (map place_of (checkpoint ∷ checkpoints))
    → AreClose most more (map place_of (map (with_row place row) (checkpoint ∷ checkpoints))) 0
close_with most later more place row checkpoint [] one close room = elim (cases_lt place (place_of checkpoint)) [
  | inr less ↦ rw (row_stays_out place row checkpoint less) (omega (arith, close.0), omega (arith, room.1 less), close.2)
  | inl less ↦ absurd (omega (arith, less, close.2))
]
close_with most later more place row checkpoint (earlier ∷ checkpoints) one close room = elim (cases_lt place (place_of checkpoint)) [
  | inr less ↦
      let rest : map place_of (earlier ∷ checkpoints) ≡ map place_of (map (with_row place row) (earlier ∷ checkpoints)) =
      ap (λ cs. map place_of cs) (sym (with_earlier most (place_of checkpoint) place row (earlier ∷ checkpoints) close.2 less)) in
      rw (row_stays_out place row checkpoint less)
      (omega (arith, close.0), omega (arith, room.1 less), subst (λ places. AreClose most (place_of checkpoint) places 0) rest close.2)
  | inl less ↦
      let here : place_of (with_row place row checkpoint) ≡ place_of checkpoint + 1 = longer place row checkpoint less ∙ omega arith in (
        omega (arith, here, close.0),
        omega (arith, here, close.1),
        close_with most (place_of checkpoint) (place_of (with_row place row checkpoint)) place row earlier checkpoints here close.2 (room.0 less),
      )
]

-- neighbours are close after a row goes
pub close_without : (most later less_one place : ℕ) (checkpoints : List Structure) → later ≡ less_one + 1 → place < later
    → AreClose most later (map place_of checkpoints) 0 → AreClose most less_one (map place_of (map (without_row place) checkpoints)) 0
close_without most later less_one place [] one below close = absurd (omega (arith, close))
close_without most later less_one place (checkpoint ∷ checkpoints) one below close = elim (cases_lt place (place_of checkpoint)) [
  | inr less ↦
      let rest : map place_of checkpoints ≡ map place_of (map (without_row place) checkpoints) =
      ap (λ cs. map place_of cs) (sym (without_earlier most (place_of checkpoint) place checkpoints close.2 less)) in
      rw (row_was_out place checkpoint less) (omega arith, omega (arith, close.1), subst (λ places. AreClose most (place_of checkpoint) places 0) rest close.2)
  | inl less ↦
      let here : place_of checkpoint ≡ place_of (without_row place checkpoint) + 1 = shorter place checkpoint less in (
        omega (arith, here, close.0),
        omega (arith, here, close.1),
        close_without most (place_of checkpoint) (place_of (without_row place checkpoint)) place checkpoints here less close.2,
      )
]

-- a checkpoint that was made between two neighbours is close to both
pub close_between : (most : ℕ) (now : Structure) (checkpoints : List Structure) (index : ℕ) (between d : Structure) → AreClose most (place_of now) (map place_of checkpoints) 0
    → index < length checkpoints → place_of (get_or checkpoints index d) ≤ place_of between → place_of between ≤ place_of (get_or (now ∷ checkpoints) index d)
    → AreClose most (place_of now) (map place_of (insert checkpoints index between)) 0
close_between most now [] index between d close below earlier later = absurd (omega arith)
close_between most now (checkpoint ∷ checkpoints) zero between d close below earlier later =
    let not_after : place_of between ≤ place_of now = later in
    (later, omega (arith, close.1, earlier), (earlier, omega (arith, not_after, close.1), close.2))
close_between most now (checkpoint ∷ checkpoints) (suc index) between d close below earlier later =
    (close.0, close.1, close_between most checkpoint checkpoints index between d close.2 (omega arith) earlier later)

-- and leaves room for one more row on both sides
pub room_between : (most place : ℕ) (now : Structure) (checkpoints : List Structure) (index : ℕ) (between d : Structure) → AreClose most (place_of now) (map place_of checkpoints) 0
    → index < length checkpoints → ((k : ℕ) → k < index → is_up_to place (get_or checkpoints k d) ≡ false) → is_up_to place (get_or checkpoints index d) ≡ true
    → place_of (get_or checkpoints index d) < place_of between → place_of between ≤ place_of (get_or (now ∷ checkpoints) index d)
    → (place_of between ≡ place_of (get_or (now ∷ checkpoints) index d) → place ≡ place_of (get_or (now ∷ checkpoints) index d))
    → FitsBetween most place (place_of now) (map place_of (insert checkpoints index between))
room_between most place now [] index between d close below others here earlier later end = absurd (omega arith)
room_between most place now (checkpoint ∷ checkpoints) zero between d close below others here earlier later end =
    let not_after : place_of between ≤ place_of now = later in
    let at_end : place_of between ≡ place_of now → place ≡ place_of now = end in (
      λ before. (
        λ less. absurd (omega (arith, less, leb-true _ _ here)),
        λ _. elim (cases_lt (place_of between) (place_of now)) [
          | inl less ↦ omega (arith, less, close.1)
          | inr more ↦ absurd (omega (arith, before, more, at_end (omega (arith, more, not_after))))
        ],
      ),
      λ _. omega (arith, earlier, close.1),
    )
room_between most place now (checkpoint ∷ checkpoints) (suc index) between d close below others here earlier later end = (
  λ _. room_between most place checkpoint checkpoints index between d close.2 (omega arith) (λ k less. others (suc k) (omega arith)) here earlier later end,
  λ less. absurd (omega (arith, less, leb-false _ _ (others 0 (omega arith)))),
)

-- there is room where the neighbours of the place are nearer than they may be
pub room_there : (most place : ℕ) (now : Structure) (checkpoints : List Structure) (index : ℕ) (d : Structure)
    → index < length checkpoints → ((k : ℕ) → k < index → is_up_to place (get_or checkpoints k d) ≡ false) → is_up_to place (get_or checkpoints index d) ≡ true
    → place_of (get_or (now ∷ checkpoints) index d) < place_of (get_or checkpoints index d) + most
    → FitsBetween most place (place_of now) (map place_of checkpoints)
room_there most place now [] index d below others here near = absurd (omega arith)
room_there most place now (checkpoint ∷ checkpoints) zero d below others here near = (λ less. absurd (omega (arith, less, leb-true _ _ here)), λ _. near)
room_there most place now (checkpoint ∷ checkpoints) (suc index) d below others here near = (
  λ _. room_there most place checkpoint checkpoints index d (omega arith) (λ k less. others (suc k) (omega arith)) here near,
  λ less. absurd (omega (arith, less, leb-false _ _ (others 0 (omega arith)))),
)
