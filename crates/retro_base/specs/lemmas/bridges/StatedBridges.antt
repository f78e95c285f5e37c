-- The stated bridge is found by looking at one place after another: place 0 is a bridge, where nothing is held, and so is the
-- place after all rows, where the survivors are held.
use Rattle.std.proofs.Common.{◌≡◌, ℕ, ℤ, zero, suc, ◌+◌, ◌-◌, ◌<◌, ◌≤◌, true, false, List, [], ◌∷◌, length, cond, ◌⊎◌, inl, inr, refl, ap, sym, ◌∙◌, arith, subst, Option, Some, None}
use Rattle.std.specs.Prelude.{Contains}
use Rattle.std.specs.List.{AllByRecursion}
use Rattle.std.proofs.lemmas.Option.{slice_get_within}
use Rattle.std.proofs.Math.Seq.{take-length}
use Rattle.retro_base.specs.declared.kind.Kind.TheVariants.{Pq}
use Rattle.retro_base.specs.declared.op.Op.{Op}
use Rattle.retro_base.specs.declared.op.Op.TheVariants.{Ins, DelMin}
use Rattle.retro_base.specs.declared.row.Entry.{Entry}
use Rattle.retro_base.specs.declared.row.Row.{Row}
use Rattle.retro_base.specs.Kind.{kind_of}
use Rattle.retro_base.specs.Replay.{fold_rows}
use Rattle.retro_base.specs.Edits.{Edit, add, cut}
use Rattle.retro_base.specs.Bridges.{survivors, survives, IsBridge, is_bridge, IsLastBridge, IsFirstBridge, last_bridge, first_bridge, first_bridge_among}
use Rattle.retro_base.specs.Bridges.{Sought, back_from, on_from, nowhere, sought, bridge_found, IsFound, stated_bridge}
use Rattle.retro_base.specs.Carried.{IsPqEdit}
use Rattle.retro_base.specs.ChangeLaws.{IsTheStatedBridge}
use Rattle.retro_base.specs.lemmas.Counted.{of_kind_at}
use Rattle.retro_base.specs.lemmas.bridges.Entries.{In, in_contains}
use Rattle.retro_base.specs.lemmas.bridges.Tests.{bridge_passes, passes_bridge}

-- an operation of a priority queue adds an entry, or takes the least one
pub adds_or_takes : (op : Op) → kind_of op ≡ Pq → ((key : ℤ) × (op ≡ Ins key)) ⊎ (op ≡ DelMin)
adds_or_takes (Ins k) of_kind = inl (k, refl)
adds_or_takes DelMin of_kind = inr refl
adds_or_takes op of_kind = absurd (cc)

pub same_or_less : (a b : ℕ) → a ≤ suc b → (a ≡ suc b) ⊎ (a ≤ b)
same_or_less a b within = grind arith

same_or_more : (a b : ℕ) → b ≤ a → (a ≡ b) ⊎ (suc b ≤ a)
same_or_more a b within = grind arith

neither_less : (a b : ℕ) → ¬ (a < b) → ¬ (b < a) → a ≡ b
neither_less a b first second = omega arith

pub start_is_bridge : (rows : List Row) → IsBridge rows zero
unfolding fold_rows
start_is_bridge [] = tt
start_is_bridge (row ∷ rows) = tt

all_themselves : (all held : List Entry) → ((x : Entry) → In x held → In x all) → AllByRecursion (Contains all) held
all_themselves all [] inside = tt
all_themselves all (x ∷ held) inside = (in_contains all x (inside x (inl refl)), all_themselves all held (λ y there. inside y (inr there)))

pub end_is_bridge : (rows : List Row) → IsBridge rows (length rows)
end_is_bridge rows = subst (λ l. AllByRecursion (Contains (survivors rows)) (survivors l)) (sym (take-length rows)) (all_themselves (survivors rows) (survivors rows) (λ x there. there))

no_bridge : (rows : List Row) (place : ℕ) → is_bridge rows place ≡ false → ¬ IsBridge rows place
no_bridge rows place fails bridge = let wrong : true ≡ false = sym (bridge_passes rows place bridge) ∙ fails in absurd (cc)

-- back from a place
last_further : (rows : List Row) (place : ℕ) (bridge : ℕ) → is_bridge rows (suc place) ≡ false → IsLastBridge rows place bridge → IsLastBridge rows (suc place) bridge
last_further rows place bridge fails last = record {
  within = let within : bridge ≤ place = last.within in omega arith;
  bridges = last.bridges;
  last = λ other after within here. elim (same_or_less other place within) [
    | inl same ↦ no_bridge rows (suc place) fails (subst (IsBridge rows) same here)
    | inr before ↦ last.last other after before here
  ];
}

pub last_found : (rows : List Row) (place : ℕ) → IsLastBridge rows place (last_bridge rows place)
last_found rows zero = record { within = omega arith; bridges = start_is_bridge rows; last = λ other after within here. absurd (omega arith) }
last_found rows (suc place) = elim (is_bridge rows (suc place)) as (λ b. is_bridge rows (suc place) ≡ b → IsLastBridge rows (suc place) (cond b (suc place) (last_bridge rows place))) [
  | true ↦ λ passes. record { within = omega arith; bridges = passes_bridge rows (suc place) passes; last = λ other after within here. absurd (omega arith) }
  | false ↦ λ fails. last_further rows place (last_bridge rows place) fails (last_found rows place)
] refl

-- on from a place
first_nearer : (rows : List Row) (place bridge : ℕ) → is_bridge rows place ≡ false → IsFirstBridge rows (suc place) bridge → IsFirstBridge rows place bridge
first_nearer rows place bridge fails first = record {
  from = let from : suc place ≤ bridge = first.from in omega arith;
  within = first.within;
  bridges = first.bridges;
  first = λ other from before here. elim (same_or_more other place from) [
    | inl same ↦ no_bridge rows place fails (subst (IsBridge rows) same here)
    | inr after ↦ first.first other after before here
  ];
}

first_among : (more : ℕ) (rows : List Row) (place : ℕ) → place + more ≡ length rows → IsFirstBridge rows place (first_bridge_among more rows place)
first_among zero rows place end = record {
  from = omega arith;
  within = omega arith;
  bridges = let here : length rows ≡ place = omega arith in subst (IsBridge rows) here (end_is_bridge rows);
  first = λ other from before here. absurd (omega arith);
}
first_among (suc more) rows place end = elim (is_bridge rows place) as (λ b. is_bridge rows place ≡ b → IsFirstBridge rows place (cond b place (first_bridge_among more rows (suc place)))) [
  | true ↦ λ passes. record { from = omega arith; within = omega arith; bridges = passes_bridge rows place passes; first = λ other from before here. absurd (omega arith) }
  | false ↦ λ fails. first_nearer rows place (first_bridge_among more rows (suc place)) fails (first_among more rows (suc place) (omega arith))
] refl

pub first_found : (rows : List Row) (place : ℕ) → place ≤ length rows → IsFirstBridge rows place (first_bridge rows place)
first_found rows place within = first_among (length rows - place) rows place (omega arith)

-- there is one
pub one_last : (rows : List Row) (place a b : ℕ) → IsLastBridge rows place a → IsLastBridge rows place b → a ≡ b
one_last rows place a b first second =
    neither_less a b (λ less. first.last b less second.within second.bridges) (λ less. second.last a less first.within first.bridges)

pub one_first : (rows : List Row) (place a b : ℕ) → IsFirstBridge rows place a → IsFirstBridge rows place b → a ≡ b
one_first rows place a b first second =
    neither_less a b (λ less. second.first a first.from less first.bridges) (λ less. first.first b second.from less second.bridges)

one_found : (rows : List Row) (at : Sought) (a b : Option ℕ) → IsFound rows at a → IsFound rows at b → a ≡ b
one_found rows (back_from place) None b first second = absurd first
one_found rows (back_from place) (Some a) None first second = absurd second
one_found rows (back_from place) (Some a) (Some b) first second = ap (λ n. Some n) (one_last rows place a b first second)
one_found rows (on_from place) None b first second = absurd first
one_found rows (on_from place) (Some a) None first second = absurd second
one_found rows (on_from place) (Some a) (Some b) first second = ap (λ n. Some n) (one_first rows place a b first second)
one_found rows nowhere None None first second = refl
one_found rows nowhere None (Some b) first second = absurd second
one_found rows nowhere (Some a) b first second = absurd first

-- what an edit looks for lies within the rows
abbrev SoughtWithin : List Row → Sought → Type 0
SoughtWithin rows (back_from place) = place ≤ length rows
SoughtWithin rows (on_from place) = place ≤ length rows
SoughtWithin rows nowhere = Unit {0}

found : (rows : List Row) (at : Sought) → SoughtWithin rows at → IsFound rows at (bridge_found rows at)
found rows (back_from place) within = last_found rows place
found rows (on_from place) within = first_found rows place within
found rows nowhere within = tt

edit_within : (rows : List Row) (edit : Edit) → IsPqEdit rows edit → SoughtWithin rows (sought rows edit)
edit_within rows (add place row) possible =
    elim (adds_or_takes row.op possible.own_row.0) [ inl ins ↦ rw ins.1 possible.within | inr takes ↦ rw takes possible.within ]
edit_within rows (cut place row) possible =
    let inside : place < length rows = slice_get_within rows place row possible.within in
    elim (adds_or_takes row.op (of_kind_at Pq rows place row possible.history.of_kind possible.within)) [
      | inl ins ↦ rw ins.1 (elim (survives rows (record { key = ins.0; number = row.number })) as (λ b. SoughtWithin rows (cond b nowhere (on_from (suc place)))) [
        | true ↦ tt
        | false ↦ omega arith
      ])
      | inr takes ↦ rw takes (omega arith)
    ]

pub one_bridge_stated : (rows : List Row) (edit : Edit) → IsPqEdit rows edit → IsTheStatedBridge rows edit (stated_bridge rows edit)
one_bridge_stated rows edit possible =
    let meets = found rows (sought rows edit) (edit_within rows edit possible) in
    record { meets = meets; alone = λ other is_one. one_found rows (sought rows edit) other (stated_bridge rows edit) is_one meets }
