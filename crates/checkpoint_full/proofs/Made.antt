-- The checkpoints of a timeline as they are made, the latest first: their places are the multiples of the width.
use Rattle.std.proofs.Common.{◌≡◌, ℕ, zero, suc, ◌+◌, ◌-◌, ◌*◌, ◌<◌, ◌≤◌, List, [], ◌∷◌, ◌++◌, length, drop, map, reverse, refl, sym, subst, ap, ◌∙◌, arith}
use Rattle.std.proofs.lemmas.List.{append-nil, append_assoc, length-append, length-map, length-reverse, map_push, reverse-append}
use Rattle.retro_base.specs.Timeline.{Structure}
use Rattle.checkpoint_full.specs.Checkpoints.{first_of, place_of, places_of, AreSettled}
use Rattle.checkpoint_full.specs.Widths.{most_checkpoints, multiples, IsFarFrom, IsThin}
use Rattle.checkpoint_full.proofs.FirstRows.{place_of-first_of}

-- the places of some checkpoints, rising
abbrev pub rising : List Structure → List ℕ
rising checkpoints = reverse (map place_of checkpoints)

-- from a place back to the last, each is a width before the one after it
abbrev pub AreAWidthApart : ℕ → ℕ → List ℕ → ℕ → Type 0
AreAWidthApart width later [] last = later ≡ last + width
AreAWidthApart width later (place ∷ places) last = (later ≡ place + width) × AreAWidthApart width place places last

-- so do the first ones that are made, but the present may be nearer
abbrev pub AreEven : ℕ → ℕ → List ℕ → ℕ → Type 0
AreEven width now [] last = 0 < last → last < now
AreEven width now (place ∷ places) last = (place < now) × AreAWidthApart width place places last

apart_more : (width later last next : ℕ) (places : List ℕ) → AreAWidthApart width later places last → last ≡ next + width
    → AreAWidthApart width later (places ++ last ∷ []) next
apart_more width later last next [] apart before = (apart, before)
apart_more width later last next (place ∷ places) apart before = (apart.0, apart_more width place last next places apart.1 before)

even_more : (width now last next : ℕ) (places : List ℕ) → AreEven width now places last → 0 < last → last ≡ next + width
    → AreEven width now (places ++ last ∷ []) next
even_more width now last next [] even some before = (even some, before)
even_more width now last next (place ∷ places) even some before = (even.0, apart_more width place last next places even.1 before)

-- then none of them is dropped
apart_thin : (width now later last : ℕ) (places : List ℕ) → 0 < width → AreAWidthApart width later places last → later < now
    → IsFarFrom width now (places ++ last ∷ []) × IsThin width later (places ++ last ∷ [])
apart_thin width now later last [] wide apart before = (omega (arith, apart, before), (tt, tt))
apart_thin width now later last (place ∷ places) wide apart before =
    (omega (arith, apart.0, before), apart_thin width later place last places wide apart.1 (omega (arith, apart.0, wide)))

even_thin : (width now last : ℕ) (places : List ℕ) → 0 < width → AreEven width now places last → IsThin width now (places ++ last ∷ [])
even_thin width now last [] wide even = (tt, tt)
even_thin width now last (place ∷ places) wide even = apart_thin width now place last places wide even.1 even.0

-- after some were made, the latest of those to come stands at a multiple, and those before it are the smaller ones
pub record AreToCome (width all now : ℕ) (checkpoints : List Structure) (latest : Structure) : Type 0 where
  pub left : ℕ
  pub stands : place_of latest ≡ left * width
  pub places : multiples width all ≡ multiples width left ++ rising checkpoints
  pub even : AreEven width now (map place_of checkpoints) (place_of latest)

-- one more was made
rising-more : (checkpoints : List Structure) (latest : Structure) → rising (checkpoints ++ latest ∷ []) ≡ place_of latest ∷ rising checkpoints
rising-more checkpoints latest =
    ap (λ places. reverse places) (map_push place_of checkpoints latest) ∙ reverse-append (map place_of checkpoints) (place_of latest ∷ [])

pub to_come-first : (width all count : ℕ) (now latest : Structure) (checkpoints : List Structure) → checkpoints ≡ [] → latest ≡ first_of count now
    → count ≤ place_of now → (0 < count → count < place_of now) → count ≡ all * width → AreToCome width all (place_of now) checkpoints latest
to_come-first width all count now latest checkpoints none copied within before stands =
    let here : place_of latest ≡ count = ap (λ s. place_of s) copied ∙ place_of-first_of count now within in
    record {
      left = all;
      stands = here ∙ stands;
      places = rw none (sym (append-nil (multiples width all)));
      even = rw (none, here) before;
    }

pub to_come-next : (width all now count : ℕ) (checkpoints more : List Structure) (latest earlier : Structure) → AreToCome width all now checkpoints latest
    → 0 < place_of latest → earlier ≡ first_of count latest → count ≡ place_of latest - width → more ≡ checkpoints ++ latest ∷ []
    → AreToCome width all now more earlier
to_come-next width all now count checkpoints more latest earlier to_come some copied before pushed = next to_come.left to_come.stands to_come.places
  where
    next : (left : ℕ) → place_of latest ≡ left * width → multiples width all ≡ multiples width left ++ rising checkpoints → AreToCome width all now more earlier
    next zero stands places = absurd (omega (arith, stands, some))
    next (suc left) stands places =
        let here : place_of earlier ≡ count = ap (λ s. place_of s) copied ∙ place_of-first_of count latest (omega (arith, before)) in
        record {
          left = left;
          stands = here ∙ omega (arith, stands, before);
          places = rw (pushed, rising-more checkpoints latest, stands)
              (places ∙ append_assoc (multiples width left) (suc left * width ∷ []) (rising checkpoints));
          even = subst (λ places. AreEven width now places (place_of earlier)) (sym (ap (λ cs. map place_of cs) pushed ∙ map_push place_of checkpoints latest))
              (even_more width now (place_of latest) (place_of earlier) (map place_of checkpoints) to_come.even some (omega (arith, here, stands, before)));
        }

-- the start is the last of all
pub none_to_come : (width all left : ℕ) (checkpoints more : List Structure) (latest : Structure) → 0 < width → place_of latest ≡ left * width
    → multiples width all ≡ multiples width left ++ rising checkpoints → place_of latest ≡ 0 → more ≡ checkpoints ++ latest ∷ []
    → places_of more ≡ multiples width all
none_to_come width all zero checkpoints more latest wide stands places start pushed =
    ap (λ cs. places_of cs) pushed ∙ ap (λ places. drop 1 places) (rising-more checkpoints latest) ∙ sym places
none_to_come width all (suc left) checkpoints more latest wide stands places start pushed = absurd (omega (arith, wide, stands, start))

-- there are as many as multiples
length-multiples : (width count : ℕ) → length (multiples width count) ≡ count
length-multiples width zero = refl
length-multiples width (suc count) =
    length-append (multiples width count) (suc count * width ∷ []) ∙ omega (arith, length-multiples width count)

-- those that were made and those to come are all
counted : (width all now : ℕ) (checkpoints : List Structure) (latest : Structure) (to_come : AreToCome width all now checkpoints latest)
    → all ≡ to_come.left + length checkpoints
counted width all now checkpoints latest to_come =
    sym (length-multiples width all) ∙ ap (λ places. length places) to_come.places ∙ length-append (multiples width to_come.left) (rising checkpoints)
    ∙ ap (λ (n : ℕ). n + length (rising checkpoints)) (length-multiples width to_come.left)
    ∙ ap (λ (n : ℕ). to_come.left + n) (length-reverse (map place_of checkpoints) ∙ length-map checkpoints place_of)

pub no_more_were_made : (width all now : ℕ) (checkpoints : List Structure) (latest : Structure) → AreToCome width all now checkpoints latest → length checkpoints ≤ all
no_more_were_made width all now checkpoints latest to_come = omega (arith, counted width all now checkpoints latest to_come)

pub all_settled : (width all : ℕ) (now : Structure) (checkpoints more : List Structure) (latest : Structure) → 0 < width → all ≤ most_checkpoints
    → AreToCome width all (place_of now) checkpoints latest → more ≡ checkpoints ++ latest ∷ [] → AreSettled width now more
all_settled width all now checkpoints more latest wide few to_come pushed =
    rw pushed record {
      thin = subst (λ places. IsThin width (place_of now) places) (sym (map_push place_of checkpoints latest))
          (even_thin width (place_of now) (place_of latest) (map place_of checkpoints) wide to_come.even);
      few = omega (arith, length-append checkpoints (latest ∷ []), no_more_were_made width all (place_of now) checkpoints latest to_come, few);
    }
