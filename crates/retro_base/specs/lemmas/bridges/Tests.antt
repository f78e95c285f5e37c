-- The tests say what they mean: an entry is among some entries, and a place is a bridge.
use Rattle.std.proofs.Common.{◌≡◌, ℕ, true, false, ◌||◌, List, [], ◌∷◌, inl, inr, refl}
use Rattle.std.specs.Prelude.{Contains}
use Rattle.std.specs.List.{AllByRecursion, list_all}
use Rattle.retro_base.specs.declared.row.Entry.{Entry}
use Rattle.retro_base.specs.declared.row.Row.{Row}
use Rattle.retro_base.specs.Bridges.{entries_at, survivors, IsBridge, is_bridge, is_among, same_entry}
use Rattle.retro_base.specs.lemmas.bridges.EntryOrder.{same_entry-refl, same_entry-same}
use Rattle.retro_base.specs.lemmas.bridges.Entries.{In, contains_in, in_contains}
use Rattle.retro_base.specs.Facts.{both_true, either_true}

pub in_is_among : (x : Entry) (xs : List Entry) → In x xs → is_among xs x ≡ true
in_is_among x [] inside = absurd inside
in_is_among x (y ∷ ys) inside = elim inside [
  | inl same ↦ rw (← same, same_entry-refl x) refl
  | inr further ↦ either_true (same_entry x y) (is_among ys x) (in_is_among x ys further)
]

pub is_among_in : (x : Entry) (xs : List Entry) → is_among xs x ≡ true → In x xs
is_among_in x [] among = let wrong : false ≡ true = among in absurd (cc)
is_among_in x (y ∷ ys) among = elim (same_entry x y) as (λ b. same_entry x y ≡ b → (b || is_among ys x) ≡ true → In x (y ∷ ys)) [
  | true ↦ λ same h. inl (same_entry-same x y same)
  | false ↦ λ other h. inr (is_among_in x ys h)
] refl among

pub not_among : (x : Entry) (xs : List Entry) → ¬ In x xs → is_among xs x ≡ false
not_among x xs absent = elim (is_among xs x) as (λ b. is_among xs x ≡ b → b ≡ false) [
  | true ↦ λ among. absurd (absent (is_among_in x xs among))
  | false ↦ λ outside. refl
] refl

all_pass : (alive held : List Entry) → AllByRecursion (Contains alive) held → list_all (is_among alive) held ≡ true
all_pass alive [] all = refl
all_pass alive (x ∷ held) all = rw (in_is_among x alive (contains_in alive x all.0)) (all_pass alive held all.1)

pass_all : (alive held : List Entry) → list_all (is_among alive) held ≡ true → AllByRecursion (Contains alive) held
pass_all alive [] pass = tt
pass_all alive (x ∷ held) pass =
    let parts = both_true (is_among alive x) (list_all (is_among alive) held) pass in
    (in_contains alive x (is_among_in x alive parts.0), pass_all alive held parts.1)

pub bridge_passes : (rows : List Row) (place : ℕ) → IsBridge rows place → is_bridge rows place ≡ true
bridge_passes rows place bridge = all_pass (survivors rows) (entries_at rows place) bridge

pub passes_bridge : (rows : List Row) (place : ℕ) → is_bridge rows place ≡ true → IsBridge rows place
passes_bridge rows place pass = pass_all (survivors rows) (entries_at rows place) pass
