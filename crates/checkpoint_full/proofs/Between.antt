-- A checkpoint that is made between two neighbours: what it stands between, and what it leaves.
use Rattle.std.proofs.Common.{◌≡◌, ℕ, zero, suc, ◌+◌, ◌<◌, ◌≤◌, false, true, List, [], ◌∷◌, ◌++◌, length, map, get_or, position, refl, sym, subst, ap, ◌∙◌, arith, Option, Some}
use Rattle.std.specs.List.{insert, AllByRecursion}
use Rattle.std.proofs.lemmas.List.Quantifiers.{position-Some}
use Rattle.std.proofs.Math.Seq.{take-length}
use Rattle.retro_base.specs.OrderLaws.{all_with}
use Rattle.retro_base.specs.Timeline.{Structure}
use Rattle.checkpoint_full.specs.Checkpoints.{first_of, place_of, were_made, AreCheckpoints, FitsBetween, HoldsFirstRows, KeepsCheckpoints}
use Rattle.checkpoint_full.specs.Widths.{AreClose}
use Rattle.checkpoint_full.proofs.FirstRows.{first_rows_of, first_of-first_of, place_of-first_of, not_after_now, same_structure}
use Rattle.checkpoint_full.proofs.Mapped.{all_of}
use Rattle.checkpoint_full.proofs.Places.{is_up_to, close_between, close_more, room_between, room_there}

-- the place stands between these two neighbours, of which the earlier one has this index
pub record StandsBetween (now : Structure) (checkpoints : List Structure) (place index : ℕ) (earlier later : Structure) : Type 0 where
  pub at : position (is_up_to place) checkpoints ≡ Some index
  pub earlier_is : earlier ≡ get_or checkpoints index earlier
  pub later_is : later ≡ get_or (now ∷ checkpoints) index earlier

pub any_default : (xs : List Structure) (index : ℕ) (d e : Structure) → index < length xs → get_or xs index d ≡ get_or xs index e
any_default [] index d e below = absurd (omega arith)
any_default (x ∷ xs) zero d e below = refl
any_default (x ∷ xs) (suc index) d e below = any_default xs index d e (omega arith)

-- as it was found
pub stands_between : (now : Structure) (checkpoints found seen : List Structure) (nearest : Option ℕ) (place index : ℕ) (earlier later : Structure)
    → nearest ≡ position (is_up_to place) found → found ≡ checkpoints → nearest ≡ Some index → earlier ≡ get_or checkpoints index earlier
    → later ≡ get_or (now ∷ seen) index now → seen ≡ checkpoints → StandsBetween now checkpoints place index earlier later
stands_between now checkpoints found seen nearest place index earlier later search of_all one earlier_there later_there of_all_too =
    let at : position (is_up_to place) checkpoints ≡ Some index = ap (λ cs. position (is_up_to place) cs) (sym of_all) ∙ sym search ∙ one in
    let below = (position-Some (is_up_to place) checkpoints index now at).0 in
    record {
      at = at;
      earlier_is = earlier_there;
      later_is = later_there ∙ ap (λ cs. get_or (now ∷ cs) index now) of_all_too ∙ any_default (now ∷ checkpoints) index now earlier (omega (arith, below));
    }

pub below_of : (now : Structure) (checkpoints : List Structure) (place index : ℕ) (earlier later : Structure) → StandsBetween now checkpoints place index earlier later
    → (index < length checkpoints) × (is_up_to place (get_or checkpoints index earlier) ≡ true) × ((k : ℕ) → k < index → is_up_to place (get_or checkpoints k earlier) ≡ false)
below_of now checkpoints place index earlier later between = position-Some (is_up_to place) checkpoints index earlier between.at

-- where they are near enough one more row fits in
pub room_left : (most : ℕ) (now : Structure) (checkpoints : List Structure) (place index : ℕ) (earlier later : Structure) → StandsBetween now checkpoints place index earlier later
    → place_of later < place_of earlier + most → FitsBetween most place (place_of now) (map place_of checkpoints)
room_left most now checkpoints place index earlier later between near =
    let below = below_of now checkpoints place index earlier later between in
    let near_there : place_of (get_or (now ∷ checkpoints) index earlier) < place_of (get_or checkpoints index earlier) + most =
    subst (λ s. place_of s < place_of (get_or checkpoints index earlier) + most) between.later_is
    (subst (λ s. place_of later < place_of s + most) between.earlier_is near) in
    room_there most place now checkpoints index earlier below.0 below.2 below.1 near_there

-- the neighbours hold the first rows
now_holds : (now : Structure) → HoldsFirstRows now now
now_holds now = same_structure now.kind now.kind _ _ refl (sym (take-length now.rows))

pub later_holds : (now : Structure) (checkpoints : List Structure) (index : ℕ) (later d : Structure) → AllByRecursion (HoldsFirstRows now) checkpoints → index < length checkpoints
    → later ≡ get_or (now ∷ checkpoints) index d → HoldsFirstRows now later
later_holds now checkpoints zero later d all below there = subst (λ s. HoldsFirstRows now s) (sym there) (now_holds now)
later_holds now checkpoints (suc index) later d all below there = all_of (HoldsFirstRows now) checkpoints index later d all (omega arith) there

-- so does a checkpoint that is made of the later one
between_holds : (now later between : Structure) (count : ℕ) → HoldsFirstRows now later → count ≤ place_of later → between ≡ first_of count later
    → HoldsFirstRows now between × (place_of between ≡ count)
between_holds now later between count first within made =
    let within_now : count ≤ place_of now = omega (arith, within, not_after_now now later first) in
    let of_now : between ≡ first_of count now = made ∙ ap (λ s. first_of count s) first ∙ first_of-first_of count (place_of later) now within in (
      subst (λ s. HoldsFirstRows now s) (sym of_now) (first_rows_of count now within_now),
      ap (λ s. place_of s) of_now ∙ place_of-first_of count now within_now,
    )

pub one_is_there : (checkpoints : List Structure) (index : ℕ) → index < length checkpoints → were_made checkpoints ≡ true
one_is_there [] index below = absurd (omega arith)
one_is_there (checkpoint ∷ checkpoints) index below = refl

-- one more checkpoint before all others
all_more : {X : Type 0} (P : X → Type 0) (xs : List X) (x : X) → AllByRecursion P xs → P x → AllByRecursion P (xs ++ x ∷ [])
all_more P [] x all here = (here, tt)
all_more P (y ∷ ys) x all here = (all.0, all_more P ys x all.1 here)

places_more : (checkpoints : List Structure) (checkpoint : Structure) → map place_of (checkpoints ++ checkpoint ∷ []) ≡ map place_of checkpoints ++ place_of checkpoint ∷ []
places_more [] checkpoint = refl
places_more (first ∷ checkpoints) checkpoint = ap (λ places. place_of first ∷ places) (places_more checkpoints checkpoint)

pub one_made : (most : ℕ) (now : Structure) (checkpoints after : List Structure) (latest earlier : Structure) (count : ℕ) → AllByRecursion (HoldsFirstRows now) checkpoints
    → HoldsFirstRows now latest → AreClose most (place_of now) (map place_of checkpoints ++ place_of latest ∷ []) (place_of latest)
    → earlier ≡ first_of count latest → count ≤ place_of latest → place_of latest ≤ count + most → after ≡ checkpoints ++ latest ∷ []
    → AllByRecursion (HoldsFirstRows now) after × HoldsFirstRows now earlier
    × AreClose most (place_of now) (map place_of after ++ place_of earlier ∷ []) (place_of earlier)
one_made most now checkpoints after latest earlier count all first close made less near pushed =
    let holds = between_holds now latest earlier count first less made in
    let more : AreClose most (place_of now) ((map place_of checkpoints ++ place_of latest ∷ []) ++ place_of earlier ∷ []) (place_of earlier) =
    close_more most (place_of now) (place_of latest) (place_of earlier) _ close (omega (arith, less, holds.1)) (omega (arith, near, holds.1)) in
    rw pushed (
      all_more (HoldsFirstRows now) checkpoints latest all first,
      holds.0,
      subst (λ places. AreClose most (place_of now) (places ++ place_of earlier ∷ []) (place_of earlier)) (sym (places_more checkpoints latest)) more,
    )

pub nearest_below : (checkpoints found : List Structure) (nearest : Option ℕ) (place index : ℕ) (d : Structure) → nearest ≡ position (is_up_to place) found → found ≡ checkpoints
    → nearest ≡ Some index → index < length checkpoints
nearest_below checkpoints found nearest place index d search of_all one =
    (position-Some (is_up_to place) checkpoints index d (ap (λ cs. position (is_up_to place) cs) (sym of_all) ∙ sym search ∙ one)).0

-- with it the checkpoints are close, and leave room
pub between_kept : (most : ℕ) (now : Structure) (checkpoints after : List Structure) (place index count : ℕ) (earlier later between : Structure)
    → StandsBetween now checkpoints place index earlier later → KeepsCheckpoints most now checkpoints → place_of earlier < count → count ≤ place_of later
    → (count ≡ place_of later → place ≡ place_of later) → between ≡ first_of count later → after ≡ insert checkpoints index between
    → AreCheckpoints most now after × FitsBetween most place (place_of now) (map place_of after)
between_kept most now checkpoints after place index count earlier later between stands keeps above within end made put =
    let below = below_of now checkpoints place index earlier later stands in
    let are = keeps (one_is_there checkpoints index below.0) in
    let holds = between_holds now later between count (later_holds now checkpoints index later earlier are.first_rows below.0 stands.later_is) within made in
    let above_earlier : place_of (get_or checkpoints index earlier) < place_of between =
    subst (λ s. place_of s < place_of between) stands.earlier_is (omega (arith, above, holds.1)) in
    let up_to_later : place_of between ≤ place_of (get_or (now ∷ checkpoints) index earlier) =
    subst (λ s. place_of between ≤ place_of s) stands.later_is (omega (arith, within, holds.1)) in
    let at_end : place_of between ≡ place_of (get_or (now ∷ checkpoints) index earlier) → place ≡ place_of (get_or (now ∷ checkpoints) index earlier) =
    subst (λ s. place_of between ≡ place_of s → place ≡ place_of s) stands.later_is (λ same. end (sym holds.1 ∙ same)) in
    let close = close_between most now checkpoints index between earlier are.close below.0 (omega (arith, above_earlier)) up_to_later in
    subst (λ cs. AreCheckpoints most now cs × FitsBetween most place (place_of now) (map place_of cs)) (sym put) (
      record { first_rows = all_with (HoldsFirstRows now) checkpoints index between are.first_rows holds.0; close = close },
      room_between most place now checkpoints index between earlier are.close below.0 below.2 below.1 above_earlier up_to_later at_end,
    )
