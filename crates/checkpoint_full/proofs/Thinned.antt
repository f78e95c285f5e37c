-- The places that are left when the checkpoints were thinned: neighbours are as close as they may be, and there are few of them.
use Rattle.std.proofs.Common.{◌≡◌, ◌⊎◌, ℕ, ◌+◌, ◌*◌, ◌<◌, ◌≤◌, List, [], ◌∷◌, length, refl, arith, inl, inr}
use Rattle.std.proofs.lemmas.Bool.{le-leb, lt-leb, cases_lt}
use Rattle.retro_base.specs.Limits.{most_rows}
use Rattle.checkpoint_full.specs.Widths.{most_checkpoints, thinned, widest, AreClose, IsFarFrom, IsThin, IsWidth}

-- a place whose neighbours are close is dropped, and another stays
pub dropped : (width later place earlier : ℕ) (places : List ℕ) → later ≤ earlier + width
    → thinned width later (place ∷ earlier ∷ places) ≡ thinned width later (earlier ∷ places)
dropped width later place earlier places close = rw (le-leb later (earlier + width) close) refl

pub stays : (width later place earlier : ℕ) (places : List ℕ) → earlier + width < later
    → thinned width later (place ∷ earlier ∷ places) ≡ place ∷ thinned width place (earlier ∷ places)
stays width later place earlier places far = rw (lt-leb later (earlier + width) far) refl

-- neighbours are close at each greater width
pub close_wider : (width wider later last : ℕ) (places : List ℕ) → width ≤ wider → AreClose width later places last → AreClose wider later places last
close_wider width wider later last [] less close = close
close_wider width wider later last (place ∷ places) less close =
    (close.0, omega (arith, close.1, less), close_wider width wider place last places less close.2)

-- those that are left are close
pub thinned_close : (width later last : ℕ) (places : List ℕ) → AreClose width later places last → AreClose width later (thinned width later places) last
thinned_close width later last [] close = close
thinned_close width later last (place ∷ []) close = close
thinned_close width later last (place ∷ earlier ∷ places) close = elim (cases_lt (earlier + width) later) [
  | inl far ↦ rw (stays width later place earlier places far)
      (close.0, close.1, thinned_close width place last (earlier ∷ places) close.2)
  | inr near ↦ rw (dropped width later place earlier places near)
      (thinned_close width later last (earlier ∷ places) (omega (arith, close.0, close.2.0), near, close.2.2))
]

-- the first that is left is none after the first of all
first_far : (width later now place last : ℕ) (places : List ℕ) → AreClose width now (place ∷ places) last → place + width < later
    → IsFarFrom width later (thinned width now (place ∷ places))
first_far width later now place last [] close far = far
first_far width later now place last (earlier ∷ places) close far = elim (cases_lt (earlier + width) now) [
  | inl apart ↦ rw (stays width now place earlier places apart) far
  | inr near ↦ rw (dropped width now place earlier places near)
      (first_far width later now earlier last places (omega (arith, close.0, close.2.0), near, close.2.2) (omega (arith, close.2.0, far)))
]

-- none that is left would be dropped
pub thinned_thin : (width later last : ℕ) (places : List ℕ) → AreClose width later places last → IsThin width later (thinned width later places)
thinned_thin width later last [] close = tt
thinned_thin width later last (place ∷ []) close = (tt, tt)
thinned_thin width later last (place ∷ earlier ∷ places) close = elim (cases_lt (earlier + width) later) [
  | inl far ↦ rw (stays width later place earlier places far)
      (first_far width later place earlier last places close.2 far, thinned_thin width place last (earlier ∷ places) close.2)
  | inr near ↦ rw (dropped width later place earlier places near)
      (thinned_thin width later last (earlier ∷ places) (omega (arith, close.0, close.2.0), near, close.2.2))
]

-- there are no more than before, and some where there were some
pub no_more : (width later : ℕ) (places : List ℕ) → length (thinned width later places) ≤ length places
no_more width later [] = omega arith
no_more width later (place ∷ []) = omega arith
no_more width later (place ∷ earlier ∷ places) = elim (cases_lt (earlier + width) later) [
  | inl far ↦ rw (stays width later place earlier places far) (omega (arith, no_more width place (earlier ∷ places)))
  | inr near ↦ rw (dropped width later place earlier places near) (omega (arith, no_more width later (earlier ∷ places)))
]

pub some_left : (width later place : ℕ) (places : List ℕ) → 0 < length (thinned width later (place ∷ places))
some_left width later place [] = omega arith
some_left width later place (earlier ∷ places) = elim (cases_lt (earlier + width) later) [
  | inl far ↦ rw (stays width later place earlier places far) (omega arith)
  | inr near ↦ rw (dropped width later place earlier places near) (some_left width later earlier places)
]

-- at twice the width at least one goes
pub one_goes : (width later last : ℕ) (places : List ℕ) → AreClose width later places last → 2 ≤ length places
    → length (thinned (2 * width) later places) < length places
one_goes width later last [] close two = absurd (omega arith)
one_goes width later last (place ∷ []) close two = absurd (omega arith)
one_goes width later last (place ∷ earlier ∷ places) close two =
    rw (dropped (2 * width) later place earlier places (omega (arith, close.1, close.2.1))) (omega (arith, no_more (2 * width) later (earlier ∷ places)))

-- at the greatest width there are few: of three neighbours the outer two are more than a width apart, and these distances together are
-- at most twice the rows
pairs_fit : (later place : ℕ) (places : List ℕ) → IsThin widest later (place ∷ places) → length places * 8193 ≤ later + place
pairs_fit later place [] thin = omega arith
pairs_fit later place (earlier ∷ places) thin = omega (arith, thin.0, pairs_fit place earlier places thin.1)

pub few_at_widest : (later last : ℕ) (places : List ℕ) → later ≤ most_rows → AreClose widest later places last → IsThin widest later places
    → length places ≤ 1 + most_checkpoints
few_at_widest later last [] rows close thin = omega arith
few_at_widest later last (place ∷ places) rows close thin = omega (arith, rows, close.0, pairs_fit later place places thin)

-- the widths are from 1,024 to 8,192, and twice each but the greatest is one
pub is_wide : (width : ℕ) → IsWidth width → (0 < width) × (width ≤ widest)
is_wide width is = elim is [
  | inl a ↦ (omega (arith, a), omega (arith, a))
  | inr b ↦ elim b [
    | inl a ↦ (omega (arith, a), omega (arith, a))
    | inr b ↦ elim b [
      | inl a ↦ (omega (arith, a), omega (arith, a))
      | inr a ↦ (omega (arith, a), omega (arith, a))
    ]
  ]
]

pub next_width : (width : ℕ) → IsWidth width → IsWidth (2 * width) ⊎ (width ≡ widest)
next_width width is = elim is [
  | inl a ↦ inl (inr (inl (omega (arith, a))))
  | inr b ↦ elim b [
    | inl a ↦ inl (inr (inr (inl (omega (arith, a)))))
    | inr b ↦ elim b [
      | inl a ↦ inl (inr (inr (inr (omega (arith, a)))))
      | inr a ↦ inr a
    ]
  ]
]
