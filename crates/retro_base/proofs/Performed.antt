-- Rows that are performed one after another, with one more at the end.
use Rattle.std.proofs.Common.{◌≡◌, ◌<◌, List, [], ◌∷◌, ◌++◌, length, ap, arith, Some}
use Rattle.std.specs.List.{insert}
use Rattle.std.specs.Result.{result_err}
use Rattle.std.proofs.lemmas.List.Edits.{insert_end}
use Rattle.retro_base.specs.declared.kind.Kind.{Kind}
use Rattle.retro_base.specs.declared.row.Row.{Row}
use Rattle.retro_base.specs.Content.{RepresentsRows}
use Rattle.retro_base.specs.Kind.{kind_of}
use Rattle.retro_base.specs.Limits.{most_rows}
use Rattle.retro_base.specs.State.{State, empty, step}
use Rattle.retro_base.specs.Timeline.{Structure, IsFresh}
use Rattle.retro_base.specs.lemmas.Folds.{fold_rows-last}
use Rattle.retro_base.specs.ReplayableLaws.{replayable_with}

kept_with : (kind : Kind) (rows : List Row) (row : Row) (s t : State) → RepresentsRows kind rows s → length rows < most_rows → IsFresh row.number rows
    → kind_of row.op ≡ kind → step row s ≡ Some t → RepresentsRows kind (rows ++ row ∷ []) t
kept_with kind rows row s t keeps room fresh of_kind goes =
    let kept = fold_rows-last step rows row (empty kind) s t keeps.kept goes in
    let at_end : insert rows (length rows) row ≡ rows ++ row ∷ [] = insert_end rows row in
    record {
      replayable = rw at_end at (replayable_with kind rows (length rows) row keeps.replayable room (omega arith) fresh of_kind (rw at_end (ap result_err kept)));
      kept = kept;
    }

-- the same where the requirements are on a value that is seen as this kind and these rows
pub kept_seen_with : (now : Structure) (kind : Kind) (rows : List Row) (row : Row) (s t : State) → ◌≡◌ {A = Structure} (record { kind = kind; rows = rows }) now
    → RepresentsRows kind rows s → length now.rows < most_rows → IsFresh row.number now.rows → kind_of row.op ≡ now.kind → step row s ≡ Some t
    → RepresentsRows kind (rows ++ row ∷ []) t
kept_seen_with now kind rows row s t seen keeps room fresh of_kind goes =
    let same_rows : rows ≡ now.rows = ap (λ (h : Structure). h.rows) seen in
    let same_kind : kind ≡ now.kind = ap (λ (h : Structure). h.kind) seen in
    kept_with kind rows row s t keeps (rw same_rows room) (rw same_rows fresh) (rw same_kind of_kind) goes
