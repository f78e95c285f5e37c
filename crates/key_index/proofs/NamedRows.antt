-- Where no row that fails is named, none fails.
use Rattle.std.proofs.Common.{◌≡◌, ℕ, ℤ, suc, ◌<◌, Bool, true, false, not, ◌&&◌, cond, Option, Some, None, IfNone, List, [], ◌∷◌, ◌++◌, length, map, slice_get, refl, sym, ◌∙◌, arith}
use Rattle.std.specs.Prelude.{nat_le, nat_lt, ◌==◌}
use Rattle.std.specs.List.{AllByRecursion}
use Rattle.std.specs.Option.{option_map, option_and_then}
use Rattle.std.proofs.lemmas.List.{length-append, length-map}
use Rattle.retro_base.specs.declared.kind.Kind.TheVariants.{Dict}
use Rattle.retro_base.specs.declared.op.Op.{Op}
use Rattle.retro_base.specs.Kind.{kind_of}
use Rattle.key_index.specs.declared.key_index.Bad.TheVariants.{Inserted, Present}
use Rattle.key_index.specs.KeyRows.{KeyRow, key_of, without, up_to, behind, with_row, named, bad_with, bad_label, failure_of, Replays}
use Rattle.key_index.specs.RowsBeside.{takes_out}
use Rattle.key_index.proofs.Lists.{all-append, all_filter}
use Rattle.key_index.proofs.Replayed.{there_after, fails, nothing, failure_is}
use Rattle.retro_base.specs.Facts.{there_is_one}

abbrev AreDict : List KeyRow → Type 0
AreDict rows = AllByRecursion (λ (row : KeyRow). kind_of row.1 ≡ Dict) rows

fails_within : (rows : List KeyRow) (there : ℤ → Bool) (i : ℕ) → fails there rows ≡ Some i → i < length rows
fails_within [] there i failed = absurd (cc)
fails_within (row ∷ rows) there i failed =
    elim (takes_out row.1 && not (there (key_of row.1))) as (λ b. cond b (Some 0) (option_map suc (fails (there_after row there) rows)) ≡ Some i → i < suc (length rows)) [
      | true ↦ λ e. let first : 0 ≡ i = cc in omega (arith, first)
      | false ↦ λ e. further_on (fails (there_after row there) rows) (λ j same. fails_within rows (there_after row there) j same) e
    ] failed where
      further_on : (o : Option ℕ) → ((j : ℕ) → o ≡ Some j → j < length rows) → option_map suc o ≡ Some i → i < suc (length rows)
      further_on None within e = absurd (cc)
      further_on (Some j) within e = let one : suc j ≡ i = cc in omega (arith, one, within j refl)

none_named : {X : Type 0} (names : List X) (o : Option ℕ) → ((i : ℕ) → o ≡ Some i → i < length names) → None ≡ option_and_then (slice_get names) o → o ≡ None
none_named names None within none = refl
none_named names (Some i) within none = absurd (there_is_one names i (within i refl) (sym none))

pub inserted_good : (label : ℕ) (op : Op) (rows : List KeyRow) → AreDict rows → kind_of op ≡ Dict → None ≡ bad_with label op rows → Replays (with_row label op rows)
inserted_good label op rows dict one none =
    let edited = all-append (λ (row : KeyRow). kind_of row.1 ≡ Dict) (up_to label rows) ((label, op) ∷ behind label rows)
    (all_filter (λ (row : KeyRow). nat_le row.0 label) (λ (row : KeyRow). kind_of row.1 ≡ Dict) rows dict)
    (one, all_filter (λ (row : KeyRow). nat_lt label row.0) (λ (row : KeyRow). kind_of row.1 ≡ Dict) rows dict) in
    none_named (named (up_to label rows) ++ Inserted ∷ named (behind label rows)) (failure_of (with_row label op rows))
    (λ i failed. omega (
      arith,
      fails_within (with_row label op rows) nothing i (sym (failure_is (with_row label op rows) edited) ∙ failed),
      length-append (up_to label rows) ((label, op) ∷ behind label rows),
      length-append (named (up_to label rows)) (Inserted ∷ named (behind label rows)),
      length-map (up_to label rows) (λ (row : KeyRow). Present row.0),
      length-map (behind label rows) (λ (row : KeyRow). Present row.0),
    )) none

dict_without : (label : ℕ) (rows : List KeyRow) → AreDict rows → AreDict (without label rows)
dict_without label [] dict = tt
dict_without label (row ∷ rows) dict = elim (row.0 == label) as (λ b. AreDict (cond b rows (row ∷ without label rows))) [ true ↦ dict.1 | false ↦ (dict.0, dict_without label rows dict.1) ]

pub removed_good : (label : ℕ) (rows : List KeyRow) → AreDict rows → None ≡ bad_label (without label rows) → Replays (without label rows)
removed_good label rows dict none =
    none_named (map (λ (row : KeyRow). row.0) (without label rows)) (failure_of (without label rows))
    (λ i failed. omega (arith, fails_within (without label rows) nothing i (sym (failure_is (without label rows) (dict_without label rows dict)) ∙ failed), length-map (without label rows) (λ (row : KeyRow). row.0))) none

pub nothing_replays : Replays []
nothing_replays = failure_is [] tt

pub if_none : {X : Type 0} (P : Type 0) (o : Option X) → (None ≡ o → P) → IfNone o P
if_none P None follows = follows refl
if_none P (Some x) follows = tt
