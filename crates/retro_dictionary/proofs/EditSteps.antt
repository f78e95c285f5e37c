-- The steps of an edit, and how they are taken back.
use Rattle.std.proofs.Common.{◌≡◌, ℕ, ◌≤◌, ℤ, Bool, true, false, cond, Some, None, List, [], ◌∷◌, ◌++◌, length, take, drop, refl, sym, ap, ◌∙◌, arith, subst}
use Rattle.std.specs.List.{filter, insert, remove}
use Rattle.std.specs.Prelude.{◌==◌, nat_le}
use Rattle.std.proofs.lemmas.Bool.{eq-eqb}
use Rattle.retro_base.specs.declared.op.Op.{Op}
use Rattle.retro_base.specs.declared.row.Row.{Row}
use Rattle.key_index.specs.KeyRows.{KeyRow, behind, op_at, with_row, without}
use Rattle.lifetime_segments.specs.declared.lifetime.Lifetime.{Lifetime}
use Rattle.order_labels.specs.Labels.{label_limit}
use Rattle.retro_dictionary.specs.declared.labelled_rows.LabelledRows.{LabelledRows}
use Rattle.retro_dictionary.specs.Edited.{IsBetween}
use Rattle.retro_dictionary.specs.LabelledRows.{AreLabelled}
use Rattle.retro_dictionary.specs.Labelled.{labelled}
use Rattle.retro_dictionary.proofs.LabelledRows.{front-below, in_two, with_row-parts, without-parts}
use Rattle.retro_base.specs.EditedLists.{remove-insert}

-- what is put in is taken out again
pub undone : (rows : List Row) (labels : List ℕ) (index : List KeyRow) (lifetimes : List (Lifetime (ℤ × ℤ))) → AreLabelled rows labels index lifetimes
    → (place label : ℕ) (row : Row) → IsBetween labels place label → without label (with_row label row.op index) ≡ index
undone rows labels index lifetimes kept place label row between =
    ap (λ i. without label (with_row label row.op i)) kept.indexed
    ∙ ap (without label) (with_row-parts labels rows place kept.as_many kept.rising.rising label row.op (omega (arith, between.before)) between.after_it)
    ∙ without-parts label (labelled (take place labels) (take place rows)) (labelled (drop place labels) (drop place rows)) row.op (front-below label_limit 0 labels rows place label kept.rising.rising between.before)
    ∙ sym (kept.indexed ∙ in_two labels rows place kept.as_many)

-- a row that is put in is found by its label
pub op-put : (label : ℕ) (op : Op) (index : List KeyRow) → op_at label index ≡ None → op_at label (with_row label op index) ≡ Some op
op-put label op index fresh = after (λ row. nat_le row.0 label) index fresh where
  after : (test : KeyRow → Bool) (rows : List KeyRow) → op_at label rows ≡ None → op_at label (filter test rows ++ (label, op) ∷ behind label index) ≡ Some op
  after test [] fresh = ap (λ b. cond b (Some op) (op_at label (behind label index))) (eq-eqb label label refl)
  after test (row ∷ rows) fresh =
      elim (row.0 == label) as (λ b. (row.0 == label) ≡ b → cond b (Some row.1) (op_at label rows) ≡ None → op_at label (filter test (row ∷ rows) ++ (label, op) ∷ behind label index) ≡ Some op) [
        | true ↦ λ same none. absurd (cc)
        | false ↦ λ other none. elim (test row) as (λ b. op_at label (cond b (row ∷ filter test rows) (filter test rows) ++ (label, op) ∷ behind label index) ≡ Some op) [
          | true ↦ ap (λ b. cond b (Some row.1) (op_at label (filter test rows ++ (label, op) ∷ behind label index))) other ∙ after test rows none
          | false ↦ after test rows none
        ]
      ] refl fresh

pub labels-back : (rows : List Row) (labels : List ℕ) (index : List KeyRow) (lifetimes : List (Lifetime (ℤ × ℤ))) → AreLabelled rows labels index lifetimes
    → (place label : ℕ) → place ≤ length rows → remove (insert labels place label) place ≡ labels
labels-back rows labels index lifetimes kept place label within = remove-insert labels place label (omega (arith, within, kept.as_many))

-- the same is kept
pub kept-as : (rows more : List Row) (labels marks : List ℕ) (index listed : List KeyRow) (lifetimes lives : List (Lifetime (ℤ × ℤ)))
    → AreLabelled rows labels index lifetimes → more ≡ rows → marks ≡ labels → listed ≡ index → lives ≡ lifetimes → AreLabelled more marks listed lives
kept-as rows more labels marks index listed lifetimes lives kept p q r s =
    subst (AreLabelled more marks listed) (sym s) (subst (λ i. AreLabelled more marks i lifetimes) (sym r) (subst (λ ls. AreLabelled more ls index lifetimes) (sym q) (subst (λ rs. AreLabelled rs labels index lifetimes) (sym p) kept)))

-- a dictionary with the same in each of its parts is the same
pub all-same : (kept : LabelledRows) (rows : List Row) (labels : List ℕ) (index : List KeyRow) (lifetimes : List (Lifetime (ℤ × ℤ))) → rows ≡ kept.rows → labels ≡ kept.labels → index ≡ kept.index → lifetimes ≡ kept.segments
    → record { rows = rows; labels = labels; insertions_since_relabel = kept.insertions_since_relabel; index = index; segments = lifetimes } ≡ kept
all-same kept rows labels index lifetimes p q r s =
    ap (λ rs. record kept { rows = rs; labels = labels; index = index; segments = lifetimes }) p
    ∙ ap (λ ls. record kept { labels = ls; index = index; segments = lifetimes }) q
    ∙ ap (λ i. record kept { index = i; segments = lifetimes }) r
    ∙ ap (λ ls. record kept { segments = ls }) s
