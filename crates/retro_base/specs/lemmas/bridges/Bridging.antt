-- A place is a bridge where all that is held there is among the survivors; where it is none, one of the held is dead.
use Rattle.std.proofs.Common.{List, [], ◌∷◌, ◌⊎◌, inl, inr, refl, sym, subst}
use Rattle.std.specs.Prelude.{Contains}
use Rattle.std.specs.List.{AllByRecursion}
use Rattle.retro_base.specs.declared.row.Entry.{Entry}
use Rattle.retro_base.specs.OrderLaws.{all_weaker}
use Rattle.retro_base.specs.lemmas.bridges.Entries.{In, in_or_not, contains_in, in_contains}

-- all of these entries are among the survivors
abbrev pub AllIn : List Entry → List Entry → Type 0
AllIn alive held = AllByRecursion (λ x. In x alive) held

-- as the definition says it
pub bridge_all : (alive held : List Entry) → AllByRecursion (Contains alive) held → AllIn alive held
bridge_all alive held all = all_weaker (Contains alive) (λ x. In x alive) held (contains_in alive) all

pub all_bridge : (alive held : List Entry) → AllIn alive held → AllByRecursion (Contains alive) held
all_bridge alive held all = all_weaker (λ x. In x alive) (Contains alive) held (in_contains alive) all

pub all_in : (alive held : List Entry) (x : Entry) → AllIn alive held → In x held → In x alive
all_in alive [] x all inside = absurd inside
all_in alive (y ∷ held) x all inside = elim inside [
  | inl same ↦ subst (λ z. In z alive) (sym same) all.0
  | inr there ↦ all_in alive held x all.1 there
]

-- not all of these are among the survivors: one is dead
pub some_dead : (alive held : List Entry) → ¬ AllIn alive held → (dead : Entry) × In dead held × ¬ In dead alive
some_dead alive [] some = absurd (some tt)
some_dead alive (x ∷ held) some = elim (in_or_not x alive) [
  | inl lives ↦ let later = some_dead alive held (λ all. some (lives, all)) in (later.0, inr later.1, later.2)
  | inr died ↦ (x, inl refl, died)
]

pub all_or_some : (alive held : List Entry) → AllIn alive held ⊎ (¬ AllIn alive held)
all_or_some alive [] = inl tt
all_or_some alive (x ∷ held) = elim (in_or_not x alive) [
  | inl lives ↦ elim (all_or_some alive held) [ inl all ↦ inl (lives, all) | inr some ↦ inr (λ all. some all.1) ]
  | inr died ↦ inr (λ all. died all.0)
]
