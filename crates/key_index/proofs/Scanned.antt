-- The rows by key, looked at one after another for a label, have what the rows by label have.
use Rattle.std.proofs.Common.{◌≡◌, ℕ, ◌+◌, true, false, cond, Option, Some, None, List, [], ◌∷◌, drop, refl, sym, ap, ◌∙◌, arith}
use Rattle.std.specs.Prelude.{◌==◌}
use Rattle.std.specs.List.{slice_get}
use Rattle.std.proofs.lemmas.Bool.Decides.{Decides-eqb}
use Rattle.key_index.specs.KeyRows.{KeyRow, op_at, without}
use Rattle.key_index.specs.Ordered.{IsIndexed}
use Rattle.key_index.proofs.ByLabel.{none_there, first_there}
use Rattle.key_index.proofs.TakenOut.{taken_indexed, up_to_it}
use Rattle.retro_base.specs.Facts.{drop_at}

-- a row at another label is found whether or not that one is there
at_another : (taken label : ℕ) (rows : List KeyRow) → (taken == label) ≡ false → op_at label (without taken rows) ≡ op_at label rows
at_another taken label [] other = refl
at_another taken label (row ∷ rows) other =
    elim (row.0 == taken) as (λ b. (row.0 == taken) ≡ b → op_at label (cond b rows (row ∷ without taken rows)) ≡ op_at label (row ∷ rows)) [
      | true ↦ λ same. sym (ap (λ b. cond b (Some row.1) (op_at label rows)) (ap (λ l. l == label) ((Decides-eqb row.0 taken).0 same) ∙ other))
      | false ↦ λ apart. ap (λ found. cond (row.0 == label) (Some row.1) found) (at_another taken label rows other)
    ] refl

pub scanned : (label : ℕ) (rows by_key : List KeyRow) → IsIndexed rows by_key → op_at label by_key ≡ op_at label rows
scanned label rows [] indexed = ap (op_at label) (none_there rows indexed.as_many)
scanned label rows (row ∷ by_key) indexed =
    let there = first_there row rows by_key indexed in
    let rest = taken_indexed row.0 row.1 rows (row ∷ by_key) indexed there 1 (omega arith) (sym (up_to_it row [] by_key indexed.ordered)) in
    elim (row.0 == label) as (λ b. (row.0 == label) ≡ b → cond b (Some row.1) (op_at label by_key) ≡ op_at label rows) [
      | true ↦ λ same. sym there ∙ ap (λ l. op_at l rows) ((Decides-eqb row.0 label).0 same)
      | false ↦ λ apart. scanned label (without row.0 rows) by_key rest ∙ at_another row.0 label rows apart
    ] refl

some_is : {A : Type 0} (x y : A) → ◌≡◌ {A = Option A} (Some x) (Some y) → x ≡ y
some_is x y same = cc

-- the first of the rows from a place on has the label, or it is looked for among the others
pub looked_at : (label : ℕ) (rows : List KeyRow) (place : ℕ) (row : KeyRow) → slice_get rows place ≡ Some row
    → op_at label (drop place rows) ≡ cond (row.0 == label) (Some row.1) (op_at label (drop (place + 1) rows))
looked_at label rows place row there = ap (op_at label) (drop_at rows place row there)

-- where no row has a label, none is taken out
pub none_without : (label : ℕ) (rows : List KeyRow) → op_at label rows ≡ None → rows ≡ without label rows
none_without label [] none = refl
none_without label (row ∷ rows) none =
    elim (row.0 == label) as (λ b. cond b (Some row.1) (op_at label rows) ≡ None → row ∷ rows ≡ cond b rows (row ∷ without label rows)) [
      | true ↦ λ found. absurd (cc)
      | false ↦ λ rest. ap (λ later. row ∷ later) (none_without label rows rest)
    ] none
