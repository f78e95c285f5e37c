-- Laws of followers of which the first ones have taken an event, which the proofs of the layers above may cite.
use Rattle.std.proofs.Common.{◌≡◌, ℕ, zero, suc, ◌+◌, ◌<◌, List, [], ◌∷◌, length, get_or, set, map, take, drop, refl, sym, ap, ◌∙◌, ◌≤◌, ◌++◌, arith, append-nil, length-drop}
use Rattle.std.proofs.lemmas.Grind.{drop_more_same}
use Rattle.std.proofs.lemmas.List.{drop-set-lt, drop_all, take_all}
use Rattle.evidence.specs.declared.evidence.Evidence.{Evidence}
use Rattle.followers.specs.Followers.{FirstHaveTaken, HasTaken, HaveTaken, Reporting, StayAlike, StaysAlike, reports_after}

pub first_same : {X : Type 0} (x y : X) (xs ys : List X) → x ∷ xs ≡ y ∷ ys → x ≡ y
first_same x y xs ys same = cc

pub others_same : {X : Type 0} (x y : X) (xs ys : List X) → x ∷ xs ≡ y ∷ ys → xs ≡ ys
others_same x y xs ys same = cc

-- each follower is seen as what it reports
module _ {F : Type 0} (seen : F → Reporting) (event : Evidence) where
  -- one more has taken it
  pub one_more : (i : ℕ) (before now : List F) (next next' : F) → HaveTaken event (map seen (take i before)) (map seen (take i now)) → drop i now ≡ drop i before
      → i < length now → HasTaken event (seen (get_or now i next)) (seen next') → HaveTaken event (map seen (take (suc i) before)) (map seen (take (suc i) (set now i next')))
  one_more i before [] next next' taken others within takes = absurd (omega arith)
  one_more zero [] (x ∷ now) next next' taken others within takes = absurd (cc)
  one_more zero (y ∷ before) (x ∷ now) next next' taken others within takes =
      let same : x ≡ y = first_same x y now before others in
      λ events. ap (λ text. text ∷ []) (takes events ∙ ap (λ f. seen f (event ∷ events)) same)
  one_more (suc i) [] (x ∷ now) next next' taken others within takes = let wrong = taken [] in absurd (cc)
  one_more (suc i) (y ∷ before) (x ∷ now) next next' taken others within takes =
      let rest = one_more i before now next next' (λ events. others_same _ _ _ _ (taken events)) others (omega arith) takes in
      λ events. ap (λ texts. seen x events ∷ texts) (rest events)
      ∙ ap (λ text. text ∷ reports_after (event ∷ events) (map seen (take (suc i) before))) (first_same _ _ _ _ (taken events))

  front : (i : ℕ) (before now : List F) (next' : F) → HaveTaken event (map seen (take i before)) (map seen (take i now)) → HaveTaken event (take i (map seen before)) (take i (map seen (set now i next')))
  front zero before now next' taken = λ events. refl
  front (suc i) [] [] next' taken = λ events. refl
  front (suc i) [] (x ∷ now) next' taken = let wrong = taken [] in absurd (cc)
  front (suc i) (y ∷ before) [] next' taken = let wrong = taken [] in absurd (cc)
  front (suc i) (y ∷ before) (x ∷ now) next' taken =
      let rest = front i before now next' (λ events. others_same _ _ _ _ (taken events)) in
      λ events. ap (λ texts. seen x events ∷ texts) (rest events)
      ∙ ap (λ text. text ∷ reports_after (event ∷ events) (take i (map seen before))) (first_same _ _ _ _ (taken events))

  back : (i : ℕ) (before now : List F) (next next' : F) → drop i now ≡ drop i before → i < length now → StaysAlike (seen (get_or now i next)) (seen next')
      → StayAlike (drop i (map seen before)) (drop i (map seen (set now i next')))
  back i before [] next next' others within alike = absurd (omega arith)
  back zero [] (x ∷ now) next next' others within alike = absurd (cc)
  back zero (y ∷ before) (x ∷ now) next next' others within alike =
      let same : x ≡ y = first_same x y now before others in
      let rest : now ≡ before = others_same x y now before others in
      λ events. ap (λ text. text ∷ reports_after events (map seen now)) (alike events ∙ ap (λ f. seen f events) same)
      ∙ ap (λ fs. seen y events ∷ reports_after events (map seen fs)) rest
  back (suc i) [] (x ∷ now) next next' others within alike = let none : length (drop i now) ≡ 0 = ap length others in absurd (omega (arith, length-drop i now))
  back (suc i) (y ∷ before) (x ∷ now) next next' others within alike = back i before now next next' others (omega arith) alike

  -- the next one has not, and is as before
  pub stopped : (i : ℕ) (before now : List F) (next next' : F) → HaveTaken event (map seen (take i before)) (map seen (take i now)) → drop i now ≡ drop i before
      → i < length now → StaysAlike (seen (get_or now i next)) (seen next') → FirstHaveTaken event (map seen before) (map seen (set now i next'))
  stopped i before now next next' taken others within alike = record {
    count = i;
    taken = front i before now next' taken;
    others = back i before now next next' others within alike;
  }

  -- all have taken it
  pub all_taken : (i : ℕ) (before now : List F) → HaveTaken event (map seen (take i before)) (map seen (take i now)) → length before ≤ i → length now ≤ i → HaveTaken event (map seen before) (map seen now)
  all_taken i before now taken most most' =
      λ events. ap (λ fs. reports_after events (map seen fs)) (sym (take_all i now most')) ∙ taken events ∙ ap (λ fs. reports_after (event ∷ events) (map seen fs)) (take_all i before most)

-- those after the next one are as before
pub later : {F : Type 0} (i : ℕ) (before now : List F) (next' : F) → drop i now ≡ drop i before → drop (i + 1) (set now i next') ≡ drop (i + 1) before
later i before now next' others = drop-set-lt (i + 1) now i next' (omega arith) ∙ drop_more_same now before i others

-- a list that is written back whole
pub written_back : {F : Type 0} (old new : List F) (count : ℕ) → length new ≡ length old → count ≡ length old → take count (new ++ drop (length new) old) ≡ new
written_back old new count same all =
    let none : drop (length new) old ≡ [] = drop_all (length new) old (omega arith) in
    rw none (ap (take count) (append-nil new) ∙ take_all count new (omega arith))
