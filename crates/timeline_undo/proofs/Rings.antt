-- What the rings keep, as steps and as edits.
use Rattle.std.proofs.Common.{◌≡◌, ℕ, suc, ◌-◌, ◌≤◌, List, [], ◌∷◌, ◌++◌, length, take, drop, map, reverse, slice_get, Some, None, option_map, refl, sym, ◌∙◌, ap, arith}
use Rattle.std.proofs.lemmas.List.{take-append-drop, drop-map, take-map, length-map, length-drop, map-append, reverse-append, length-append, drop-append-le}
use Rattle.std.proofs.lemmas.List.Concat.{flat_map-cons}
use Rattle.std.proofs.lemmas.Grind.{flat_map-append}
use Rattle.std.specs.List.{flat_map}
use Rattle.std.proofs.lemmas.Option.{slice_get-map, slice_get-get_or}
use Rattle.circular_buffer.specs.Buffer.{keep_last}
use Rattle.retro_base.specs.Limits.{most_steps}
use Rattle.retro_base.specs.Edits.{Step}
use Rattle.timeline_undo.specs.declared.turn.Turns.{Turns}
use Rattle.retro_base.specs.History.{newest, older_steps, newest_step}
use Rattle.timeline_undo.specs.KeptSteps.{edits_back, steps_of, taken_back}
use Rattle.timeline_undo.specs.Session.{step_reported}

-- a list with a newest element
pub up_to_newest : {X : Type 0} (xs : List X) (x : X) → slice_get xs (length xs - 1) ≡ Some x → take (length xs - 1) xs ++ x ∷ [] ≡ xs
up_to_newest [] x last = absurd (cc)
up_to_newest (y ∷ []) x last = let same : y ≡ x = cc in ap (λ z. z ∷ []) (sym same)
up_to_newest (y ∷ z ∷ zs) x last =
    let one_more : length (y ∷ z ∷ zs) - 1 ≡ suc (length (z ∷ zs) - 1) = omega arith in
    let there : slice_get (z ∷ zs) (length (z ∷ zs) - 1) ≡ Some x = rw one_more at last in
    rw one_more (ap (λ more. y ∷ more) (up_to_newest (z ∷ zs) x there))

-- the edits of a ring that has one more
pub edits_back-more : (told : List Turns) (new : Turns) → edits_back (told ++ new ∷ []) ≡ taken_back new ++ edits_back told
edits_back-more told new = ap (flat_map taken_back) (reverse-append told (new ∷ [])) ∙ flat_map-cons taken_back new (reverse told)

-- the edits of a ring that has kept only its newest ones come first among those that it had
pub edits_back-kept : (n : ℕ) (told : List Turns) → edits_back (drop n told) ++ edits_back (take n told) ≡ edits_back told
edits_back-kept n told =
    sym (flat_map-append taken_back (reverse (drop n told)) (reverse (take n told)))
    ∙ ap (flat_map taken_back) (sym (reverse-append (take n told) (drop n told)) ∙ ap reverse (take-append-drop n told))

-- a ring of so many keeps no more
pub few_kept : {X : Type 0} (n : ℕ) (xs : List X) → length (keep_last n xs) ≤ n
few_kept n xs = omega (arith, length-drop (length xs - n) xs)

-- the steps of a ring after one more
pub steps-recorded : (told : List Turns) (new : Turns) → steps_of (keep_last most_steps (told ++ new ∷ [])) ≡ newest (steps_of told ++ step_reported new ∷ [])
steps-recorded told new =
    let all = told ++ new ∷ [] in
    let same : steps_of all ≡ steps_of told ++ step_reported new ∷ [] = map-append _ told (new ∷ []) in
    sym (drop-map _ (length all - most_steps) all) ∙ ap (λ n. drop (n - most_steps) (steps_of all)) (sym (length-map all _)) ∙ ap newest same

-- the same of either ring, by what is kept of its steps: after one more, and after one fewer
pub steps-more : (kept : Turns → Step) (told : List Turns) (new : Turns) → map kept (told ++ new ∷ []) ≡ map kept told ++ kept new ∷ []
steps-more kept told new = map-append kept told (new ∷ [])

pub steps-older : (kept : Turns → Step) (told : List Turns) → map kept (take (length told - 1) told) ≡ older_steps (map kept told)
steps-older kept told = sym (take-map kept (length told - 1) told) ∙ ap (λ n. take (n - 1) (map kept told)) (sym (length-map told kept))

-- the newest step of a ring
pub steps-newest : (kept : Turns → Step) (told : List Turns) (last : Turns) → slice_get told (length told - 1) ≡ Some last
    → newest_step (map kept told) ≡ Some (kept last)
steps-newest kept told last there =
    ap (λ n. slice_get (map kept told) (n - 1)) (length-map told kept) ∙ slice_get-map kept told (length told - 1) ∙ ap (option_map kept) there

-- a ring without a newest element has no steps
pub no_newest : (kept : Turns → Step) (told : List Turns) → slice_get told (length told - 1) ≡ None → map kept told ≡ []
no_newest kept [] none = refl
no_newest kept (x ∷ xs) none = let there = slice_get-get_or (x ∷ xs) (length (x ∷ xs) - 1) x (omega arith) in absurd (cc)

slice_get_end : {X : Type 0} (xs : List X) (x : X) → slice_get (xs ++ x ∷ []) (length xs) ≡ Some x
slice_get_end [] x = refl
slice_get_end (y ∷ ys) x = slice_get_end ys x

-- the last of some elements and one more
pub last_of_more : {X : Type 0} (xs : List X) (x : X) → slice_get (xs ++ x ∷ []) (length (xs ++ x ∷ []) - 1) ≡ Some x
last_of_more xs x =
    let end : length (xs ++ x ∷ []) - 1 ≡ length xs = omega (arith, length-append xs (x ∷ [])) in
    rw end (slice_get_end xs x)

-- a step that is recorded is the newest one
pub newest-recorded : (steps : List Step) (step : Step) → newest_step (newest (steps ++ step ∷ [])) ≡ Some step
newest-recorded steps step =
    let kept : length (steps ++ step ∷ []) - most_steps ≤ length steps = omega (arith, length-append steps (step ∷ [])) in
    rw (drop-append-le (length (steps ++ step ∷ []) - most_steps) steps (step ∷ []) kept) (last_of_more (drop (length (steps ++ step ∷ []) - most_steps) steps) step)
