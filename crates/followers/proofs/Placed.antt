-- Where an entry is put in, and where one is taken out.
use Rattle.std.proofs.Common.{◌≡◌, ℕ, suc, ◌+◌, ◌<◌, true, false, cond, not, List, [], ◌∷◌, length, refl, ap, ◌∙◌, arith, insert, remove, ltb, position, Option, Some, None}
use Rattle.std.specs.List.{position_or_len}
use Rattle.std.proofs.Math.Numerals.{one-add}
use Rattle.std.proofs.lemmas.Bool.{ltb-false, ltb-true}
use Rattle.retro_base.specs.declared.row.Entry.{Entry}
use Rattle.retro_base.specs.Bridges.{same_entry}
use Rattle.retro_base.specs.State.{comes_before, with_entry}
use Rattle.followers.specs.Mirrors.{without_entry}

insert-later : (x : Entry) (xs : List Entry) (i : ℕ) (y : Entry) → insert (x ∷ xs) (1 + i) y ≡ x ∷ insert xs i y
insert-later x xs i y = rw one-add refl

remove-later : (x : Entry) (xs : List Entry) (i : ℕ) → remove (x ∷ xs) (1 + i) ≡ x ∷ remove xs i
remove-later x xs i = rw one-add refl

-- an entry has its place in front of the first that it comes before
pub put_at : (new : Entry) (entries : List Entry) → insert entries (position_or_len (λ held. comes_before new held) entries) new ≡ with_entry new entries
put_at new [] = refl
put_at new (first ∷ others) =
    let place : ℕ = position_or_len (λ held. comes_before new held) others in
    elim (comes_before new first) as (λ b. insert (first ∷ others) (cond (not b) (1 + place) 0) new ≡ cond b (new ∷ first ∷ others) (first ∷ with_entry new others)) [
      | true ↦ refl
      | false ↦ insert-later first others place new ∙ ap (λ es. first ∷ es) (put_at new others)
    ]

taken_at : (gone : Entry) (entries : List Entry) → position_or_len (λ held. same_entry gone held) entries < length entries
    → remove entries (position_or_len (λ held. same_entry gone held) entries) ≡ without_entry gone entries
taken_at gone [] within = absurd (omega arith)
taken_at gone (first ∷ others) within =
    let place : ℕ = position_or_len (λ held. same_entry gone held) others in
    elim (same_entry gone first) as (λ b. cond (not b) (1 + place) 0 < suc (length others) → remove (first ∷ others) (cond (not b) (1 + place) 0) ≡ cond b others (first ∷ without_entry gone others)) [
      | true ↦ λ within. refl
      | false ↦ λ within. remove-later first others place ∙ ap (λ es. first ∷ es) (taken_at gone others (omega arith))
    ] within

not_there : (gone : Entry) (entries : List Entry) → length entries < position_or_len (λ held. same_entry gone held) entries + 1 → entries ≡ without_entry gone entries
not_there gone [] past = refl
not_there gone (first ∷ others) past =
    let place : ℕ = position_or_len (λ held. same_entry gone held) others in
    elim (same_entry gone first) as (λ b. suc (length others) < cond (not b) (1 + place) 0 + 1 → first ∷ others ≡ cond b others (first ∷ without_entry gone others)) [
      | true ↦ λ past. absurd (omega arith)
      | false ↦ λ past. ap (λ es. first ∷ es) (not_there gone others (omega arith))
    ] past

-- what is left where an entry is taken out at this place, or is not there
abbrev pub left_at : List Entry → Option ℕ → List Entry
left_at entries None = entries
left_at entries (Some place) = remove entries place

pub take_at : (gone : Entry) (entries : List Entry) → left_at entries (position (λ held. same_entry gone held) entries) ≡ without_entry gone entries
take_at gone entries =
    let place : ℕ = position_or_len (λ held. same_entry gone held) entries in
    elim (ltb place (length entries)) as (λ b. ltb place (length entries) ≡ b → left_at entries (cond b (Some place) None) ≡ without_entry gone entries) [
      | true ↦ λ within. taken_at gone entries (omega (arith, ltb-true _ _ within))
      | false ↦ λ past. not_there gone entries (omega (arith, ltb-false _ _ past))
    ] refl
