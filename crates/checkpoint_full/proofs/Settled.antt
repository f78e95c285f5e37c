-- What an edit leaves of the checkpoints keeps the rule.
use Rattle.std.proofs.Common.{◌≡◌, ℕ, zero, suc, ◌+◌, ◌*◌, ◌<◌, ◌≤◌, nat_le, Bool, true, false, List, [], ◌∷◌, length, map, get_or, refl, sym, subst, ap, ◌∙◌, arith, inl, inr}
use Rattle.std.specs.List.{remove, AllByRecursion}
use Rattle.std.proofs.lemmas.Bool.{leb-true, leb-false}
use Rattle.std.proofs.lemmas.List.{length-map}
use Rattle.retro_base.specs.Limits.{most_rows}
use Rattle.retro_base.specs.Timeline.{Structure}
use Rattle.checkpoint_full.specs.Checkpoints.{place_of, were_made, HoldsFirstRows, KeepsCheckpoints, KeepsRule}
use Rattle.checkpoint_full.specs.Widths.{most_checkpoints, thinned, widest, AreClose, IsThin, IsWidth}
use Rattle.checkpoint_full.proofs.Thinned.{close_wider, dropped, few_at_widest, next_width, no_more, one_goes, some_left, stays, thinned_close, thinned_thin}

-- some checkpoints of which the first ones were looked at, and the others not yet: what will be left of them
abbrev pub thinned_from : ℕ → ℕ → ℕ → List ℕ → List ℕ
thinned_from zero width later places = thinned width later places
thinned_from (suc index) width later [] = []
thinned_from (suc index) width later (place ∷ places) = place ∷ thinned_from index width place places

-- the next one stays
pub one_stays : (index width : ℕ) (now d : Structure) (checkpoints : List Structure) → suc index < length checkpoints
    → place_of (get_or checkpoints (suc index) d) + width < place_of (get_or (now ∷ checkpoints) index d)
    → thinned_from index width (place_of now) (map place_of checkpoints) ≡ thinned_from (suc index) width (place_of now) (map place_of checkpoints)
one_stays index width now d [] there far = absurd (omega arith)
one_stays zero width now d (checkpoint ∷ []) there far = absurd (omega arith)
one_stays zero width now d (checkpoint ∷ next ∷ checkpoints) there far =
    stays width (place_of now) (place_of checkpoint) (place_of next) (map place_of checkpoints) far
one_stays (suc index) width now d (checkpoint ∷ checkpoints) there far =
    ap (λ places. place_of checkpoint ∷ places) (one_stays index width checkpoint d checkpoints (omega arith) far)

-- the next one is dropped
pub one_is_dropped : (index width : ℕ) (now d : Structure) (checkpoints : List Structure) → suc index < length checkpoints
    → place_of (get_or (now ∷ checkpoints) index d) ≤ place_of (get_or checkpoints (suc index) d) + width
    → thinned_from index width (place_of now) (map place_of checkpoints) ≡ thinned_from index width (place_of now) (map place_of (remove checkpoints index))
one_is_dropped index width now d [] there near = absurd (omega arith)
one_is_dropped zero width now d (checkpoint ∷ []) there near = absurd (omega arith)
one_is_dropped zero width now d (checkpoint ∷ next ∷ checkpoints) there near =
    dropped width (place_of now) (place_of checkpoint) (place_of next) (map place_of checkpoints) near
one_is_dropped (suc index) width now d (checkpoint ∷ checkpoints) there near =
    ap (λ places. place_of checkpoint ∷ places) (one_is_dropped index width checkpoint d checkpoints (omega arith) near)

-- a turn of the loop, of which the answer says whether the neighbours are close
drops_one-here : (index width : ℕ) (now : Structure) (items : List Structure) → suc index < length items
    → nat_le (place_of (get_or (now ∷ items) index now)) (place_of (get_or items (suc index) now) + width) ≡ true
    → thinned_from index width (place_of now) (map place_of (remove items index)) ≡ thinned_from index width (place_of now) (map place_of items)
drops_one-here index width now items there close = sym (one_is_dropped index width now now items there (leb-true _ _ close))

pub drops_one : (close : Bool) (index next width : ℕ) (now : Structure) (slice items left : List Structure) (all : List ℕ) → slice ≡ items → next ≡ suc index
    → close ≡ nat_le (place_of (get_or (now ∷ slice) index now)) (place_of (get_or slice next now) + width) → close ≡ true → next < length items
    → left ≡ remove items index → thinned_from index width (place_of now) (map place_of items) ≡ all
    → thinned_from index width (place_of now) (map place_of left) ≡ all
drops_one close index next width now slice items left all same one answer says there gone so_far =
    ap (λ cs. thinned_from index width (place_of now) (map place_of cs)) gone
    ∙ drops_one-here index width now items (omega (arith, there, one))
    (ap (λ cs. nat_le (place_of (get_or (now ∷ cs) index now)) (place_of (get_or cs (suc index) now) + width)) (sym same)
    ∙ ap (λ (k : ℕ). nat_le (place_of (get_or (now ∷ slice) index now)) (place_of (get_or slice k now) + width)) (sym one) ∙ sym answer ∙ says)
    ∙ so_far

pub keeps_one : (close : Bool) (index next width : ℕ) (now : Structure) (slice items : List Structure) (all : List ℕ) → slice ≡ items → next ≡ suc index
    → close ≡ nat_le (place_of (get_or (now ∷ slice) index now)) (place_of (get_or slice next now) + width) → close ≡ false → next < length items
    → thinned_from index width (place_of now) (map place_of items) ≡ all → thinned_from next width (place_of now) (map place_of items) ≡ all
keeps_one close index next width now slice items all same one answer no_one there so_far =
    ap (λ (k : ℕ). thinned_from k width (place_of now) (map place_of items)) one
    ∙ sym (one_stays index width now now items (omega (arith, there, one)) (leb-false _ _
    (ap (λ cs. nat_le (place_of (get_or (now ∷ cs) index now)) (place_of (get_or cs (suc index) now) + width)) (sym same)
    ∙ ap (λ (k : ℕ). nat_le (place_of (get_or (now ∷ slice) index now)) (place_of (get_or slice k now) + width)) (sym one) ∙ sym answer ∙ no_one)))
    ∙ so_far

-- all were looked at
pub none_left : (index width later : ℕ) (places : List ℕ) → length places ≤ index + 1 → thinned_from index width later places ≡ places
none_left zero width later [] all = refl
none_left zero width later (place ∷ []) all = refl
none_left zero width later (place ∷ earlier ∷ places) all = absurd (omega arith)
none_left (suc index) width later [] all = refl
none_left (suc index) width later (place ∷ places) all = ap (λ rest. place ∷ rest) (none_left index width place places (omega arith))

-- what holds of all holds of those that are left
pub all_without : {X : Type 0} (P : X → Type 0) (xs : List X) (index : ℕ) → AllByRecursion P xs → AllByRecursion P (remove xs index)
all_without P [] zero all = tt
all_without P [] (suc index) all = tt
all_without P (x ∷ xs) zero all = all.1
all_without P (x ∷ xs) (suc index) all = (all.0, all_without P xs index all.1)

-- the start is left, where there is one
pub made_when_left : (width later : ℕ) (checkpoints left : List Structure) → map place_of left ≡ thinned width later (map place_of checkpoints)
    → were_made left ≡ were_made checkpoints
made_when_left width later [] [] places = refl
made_when_left width later [] (one ∷ left) places = absurd (cc)
made_when_left width later (checkpoint ∷ checkpoints) (one ∷ left) places = refl
made_when_left width later (checkpoint ∷ checkpoints) [] places =
    absurd (omega (arith, ap (λ ps. length ps) places, some_left width later (place_of checkpoint) (map place_of checkpoints)))

pub first_of_kept : (width : ℕ) (now : Structure) (checkpoints : List Structure) → KeepsCheckpoints width now checkpoints → AllByRecursion (HoldsFirstRows now) checkpoints
first_of_kept width now [] kept = tt
first_of_kept width now (checkpoint ∷ checkpoints) kept = (kept refl).first_rows

-- those that are left are checkpoints at the width, none of which would be dropped
pub kept_thinned : (width wider : ℕ) (now : Structure) (checkpoints left : List Structure) → width ≤ wider → KeepsCheckpoints width now checkpoints
    → AllByRecursion (HoldsFirstRows now) left → map place_of left ≡ thinned wider (place_of now) (map place_of checkpoints)
    → KeepsCheckpoints wider now left × IsThin wider (place_of now) (map place_of left)
kept_thinned width wider now [] left less kept first places =
    (λ made. absurd (let none : were_made left ≡ were_made [] = made_when_left wider (place_of now) [] left places in cc), rw places tt)
kept_thinned width wider now (checkpoint ∷ checkpoints) left less kept first places =
    let close = close_wider width wider (place_of now) 0 (map place_of (checkpoint ∷ checkpoints)) less (kept refl).close in (
      λ _. record { first_rows = first; close = rw places (thinned_close wider (place_of now) 0 (map place_of (checkpoint ∷ checkpoints)) close) },
      rw places (thinned_thin wider (place_of now) 0 (map place_of (checkpoint ∷ checkpoints)) close),
    )

-- few are left at once
pub settled_once : (width : ℕ) (now : Structure) (checkpoints left : List Structure) → IsWidth width → KeepsCheckpoints width now checkpoints
    → AllByRecursion (HoldsFirstRows now) left → map place_of left ≡ thinned width (place_of now) (map place_of checkpoints)
    → length left ≤ 1 + most_checkpoints → KeepsRule width now left
settled_once width now checkpoints left is kept first places few =
    let both = kept_thinned width width now checkpoints left (omega arith) kept first places in
    record { of_widths = is; kept = both.0; settled = record { thin = both.1; few = few } }

-- and where too many are left, few are at twice the width, which is not the greatest yet
close_left : (width : ℕ) (now : Structure) (checkpoints : List Structure) → KeepsCheckpoints width now checkpoints → 0 < length checkpoints
    → AreClose width (place_of now) (map place_of checkpoints) 0
close_left width now [] kept some = absurd (omega arith)
close_left width now (checkpoint ∷ checkpoints) kept some = (kept refl).close

too_many_at : (width : ℕ) (now : Structure) (left : List Structure) → place_of now ≤ most_rows → width ≡ widest
    → KeepsCheckpoints width now left → IsThin width (place_of now) (map place_of left) → 1 + most_checkpoints < length left → ⊥
too_many_at width now left rows is kept thin many =
    omega (
      arith,
      many,
      length-map left place_of,
      few_at_widest (place_of now) 0 (map place_of left) rows
          (subst (λ (w : ℕ). AreClose w (place_of now) (map place_of left) 0) is (close_left width now left kept (omega (arith, many))))
          (subst (λ (w : ℕ). IsThin w (place_of now) (map place_of left)) is thin),
    )

pub can_widen : (width : ℕ) (now : Structure) (checkpoints left : List Structure) → place_of now ≤ most_rows → IsWidth width
    → KeepsCheckpoints width now checkpoints → AllByRecursion (HoldsFirstRows now) left
    → map place_of left ≡ thinned width (place_of now) (map place_of checkpoints) → 1 + most_checkpoints < length left → IsWidth (2 * width)
can_widen width now checkpoints left rows is kept first places many =
    let both = kept_thinned width width now checkpoints left (omega arith) kept first places in
    elim (next_width width is) [
      | inl next ↦ next
      | inr last ↦ absurd (too_many_at width now left rows last both.0 both.1 many)
    ]

pub settled_twice : (width : ℕ) (now : Structure) (checkpoints left last : List Structure) → IsWidth (2 * width) → KeepsCheckpoints width now checkpoints
    → AllByRecursion (HoldsFirstRows now) left → map place_of left ≡ thinned width (place_of now) (map place_of checkpoints)
    → AllByRecursion (HoldsFirstRows now) last → map place_of last ≡ thinned (2 * width) (place_of now) (map place_of left)
    → length checkpoints ≤ 2 + most_checkpoints → 1 + most_checkpoints < length left → KeepsRule (2 * width) now last
settled_twice width now checkpoints left last is kept first places first_again places_again few many =
    let once = kept_thinned width width now checkpoints left (omega arith) kept first places in
    let twice = kept_thinned width (2 * width) now left last (omega arith) once.0 first_again places_again in
    let close = close_left width now left once.0 (omega (arith, many)) in
    let fewer : length last < length left =
    omega (
      arith,
      length-map last place_of,
      length-map left place_of,
      ap (λ ps. length ps) places_again,
      one_goes width (place_of now) 0 (map place_of left) close
          (omega (arith, many, length-map left place_of)),
    ) in
    let no_more_left : length left ≤ length checkpoints =
    omega (arith, length-map left place_of, length-map checkpoints place_of, ap (λ ps. length ps) places, no_more width (place_of now) (map place_of checkpoints)) in
    record { of_widths = is; kept = twice.0; settled = record { thin = twice.1; few = omega (arith, fewer, no_more_left, few) } }
