-- Rows in the order of their keys, put in one after another by their labels, are the rows that they were indexed from.
use Rattle.std.proofs.Common.{◌≡◌, ℕ, ◌<◌, true, false, Some, List, [], ◌∷◌, ◌++◌, length, refl, sym, subst, ap, ◌∙◌, arith}
use Rattle.std.specs.Prelude.{nat_le, nat_lt}
use Rattle.std.specs.List.{filter}
use Rattle.std.proofs.lemmas.Bool.Decides.{nat_tests, Decides-int_eq}
use Rattle.std.proofs.lemmas.List.{append-nil}
use Rattle.std.proofs.lemmas.List.Elements.{filter-append}
use Rattle.retro_base.specs.OrderLaws.{all_weaker}
use Rattle.retro_base.specs.declared.op.Op.{Op}
use Rattle.key_index.specs.KeyRows.{KeyRow, LabelsRise, key_of, is_on, op_at, up_to, behind, without, with_row}
use Rattle.key_index.specs.Ordered.{IsIndexed, IsIndex, by_label}
use Rattle.key_index.proofs.Lists.{all_pass, none_pass, filter-yes}
use Rattle.key_index.proofs.TakenOut.{StandsByLabel, stands_there, without_it, among, found_by, up_to_it, taken_indexed}

below_passes : (m label : ℕ) → m < label → nat_le m label ≡ true
below_passes m label less = grind (arith, nat_tests)

below_fails : (m label : ℕ) → m < label → nat_lt label m ≡ false
below_fails m label less = grind (arith, nat_tests)

above_fails : (m label : ℕ) → label < m → nat_le m label ≡ false
above_fails m label more = grind (arith, nat_tests)

above_passes : (m label : ℕ) → label < m → nat_lt label m ≡ true
above_passes m label more = grind (arith, nat_tests)

-- a row that was taken out is put in again
put_back : (label : ℕ) (op : Op) (rows : List KeyRow) → LabelsRise rows → op_at label rows ≡ Some op → with_row label op (without label rows) ≡ rows
put_back label op rows rise there =
    ap (with_row label op) (ap (without label) stands.is ∙ without_it label op stands.front stands.back stands.below)
    ∙ ap (λ l. l ++ (label, op) ∷ behind label (stands.front ++ stands.back)) front_is
    ∙ ap (λ l. stands.front ++ (label, op) ∷ l) back_is
    ∙ sym stands.is where
      stands : StandsByLabel (label, op) rows
      stands = stands_there label op rows rise there

      front_is : up_to label (stands.front ++ stands.back) ≡ stands.front
      front_is =
          filter-append (λ (r : KeyRow). nat_le r.0 label) stands.front stands.back
          ∙ ap (λ l. l ++ up_to label stands.back)
          (all_pass (λ (r : KeyRow). nat_le r.0 label) stands.front (all_weaker (λ (r : KeyRow). r.0 < label) (λ (r : KeyRow). nat_le r.0 label ≡ true) stands.front (λ r less. below_passes r.0 label less) stands.below))
          ∙ ap (λ l. stands.front ++ l)
          (none_pass (λ (r : KeyRow). nat_le r.0 label) stands.back (all_weaker (λ (r : KeyRow). label < r.0) (λ (r : KeyRow). nat_le r.0 label ≡ false) stands.back (λ r more. above_fails r.0 label more) stands.above))
          ∙ append-nil stands.front

      back_is : behind label (stands.front ++ stands.back) ≡ stands.back
      back_is =
          filter-append (λ (r : KeyRow). nat_lt label r.0) stands.front stands.back
          ∙ ap (λ l. l ++ behind label stands.back)
          (none_pass (λ (r : KeyRow). nat_lt label r.0) stands.front (all_weaker (λ (r : KeyRow). r.0 < label) (λ (r : KeyRow). nat_lt label r.0 ≡ false) stands.front (λ r less. below_fails r.0 label less) stands.below))
          ∙ all_pass (λ (r : KeyRow). nat_lt label r.0) stands.back (all_weaker (λ (r : KeyRow). label < r.0) (λ (r : KeyRow). nat_lt label r.0 ≡ true) stands.back (λ r more. above_passes r.0 label more) stands.above)

pub none_there : (rows : List KeyRow) → 0 ≡ length rows → [] ≡ rows
none_there [] none = refl
none_there (row ∷ rows) none = absurd (omega arith)

-- the first row by key is found by its label
pub first_there : (row : KeyRow) (rows by_key : List KeyRow) → IsIndexed rows (row ∷ by_key) → op_at row.0 rows ≡ Some row.1
first_there row rows by_key indexed =
    let key = key_of row.1 in
    let stands = among (is_on key) row (filter (is_on key) by_key) rows []
    (sym (indexed.same key) ∙ filter-yes (is_on key) row by_key ((Decides-int_eq key key).1 refl)) in
    ap (op_at row.0) stands.is ∙ found_by row.0 row.1 stands.before stands.behind (subst LabelsRise stands.is indexed.listed.rising)

pub by_label_is : (rows by_key : List KeyRow) → IsIndexed rows by_key → by_label by_key ≡ rows
by_label_is rows [] indexed = none_there rows indexed.as_many
by_label_is rows (row ∷ by_key) indexed =
    let there = first_there row rows by_key indexed in
    ap (with_row row.0 row.1)
    (by_label_is (without row.0 rows) by_key
    (taken_indexed row.0 row.1 rows (row ∷ by_key) indexed there 1 (omega arith) (sym (up_to_it row [] by_key indexed.ordered))))
    ∙ put_back row.0 row.1 rows indexed.listed.rising there

-- so they are an index of these rows
pub index_of : (rows by_key : List KeyRow) → IsIndexed rows by_key → IsIndex by_key
index_of rows by_key indexed = subst (λ list. IsIndexed list by_key) (sym (by_label_is rows by_key indexed)) indexed
