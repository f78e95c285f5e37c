-- The good rows of a block replay and are in range, and so does the timeline that they make.
use Rattle.std.proofs.Common.{◌≡◌, ℕ, ◌<◌, ◌≤◌, Bool, true, false, not, ◌&&◌, nat_lt, cond, List, [], ◌∷◌, ◌++◌, length, refl, sym, ap, subst, arith, Option, Some, None}
use Rattle.std.proofs.Common.{option_map, Result, Ok, Err}
use Rattle.std.specs.Prelude.{◌==◌, is_some, IfSome}
use Rattle.std.specs.List.{AllByRecursion}
use Rattle.std.specs.Result.{result_err}
use Rattle.std.proofs.lemmas.Bool.{and_parts, eqb-false, ltb-true, or_parts}
use Rattle.retro_base.specs.declared.kind.Kind.{Kind}
use Rattle.retro_base.specs.declared.row.Row.{Row}
use Rattle.retro_base.specs.Kind.{kind_of, same_kind}
use Rattle.retro_base.specs.Limits.{most_rows, next_limit}
use Rattle.retro_base.specs.Name.{is_name}
use Rattle.retro_base.specs.Replay.{IsValid, present, run}
use Rattle.retro_base.specs.State.{empty, step}
use Rattle.retro_base.specs.Timeline.{IsFresh, IsReplayable}
use Rattle.script_grammar.specs.BlockLines.{is_passed_over}
use Rattle.timeline_file.specs.declared.block.BlockError.{BlockError}
use Rattle.timeline_file.specs.declared.block.BlockError.TheVariants as errors
use Rattle.timeline_file.specs.declared.block.RowCause.{RowCause}
use Rattle.timeline_file.specs.declared.block.RowCause.TheVariants as causes
use Rattle.timeline_file.specs.Block.{Block, after_row_line, are_below, begun, cause_of_row, decided, fault_of, finished, grown, has_number, last_time, row_line, taken}
use Rattle.timeline_file.specs.Block.{whole}
use Rattle.reactions.specs.Bench.{OpenBlock}
use Rattle.reactions.specs.Reaction.{of_block}
use Rattle.script_laws.proofs.accepted.Effects.{IsGood}
use Rattle.script_laws.proofs.accepted.Made.{IsRanged, IsSound}
use Rattle.script_laws.proofs.accepted.Positions.{same_kind_is}
use Rattle.script_laws.proofs.accepted.Spelled.{IsRowSpelled, row_is_spelled}
use Rattle.retro_base.specs.OrderLaws.{all_with}
use Rattle.retro_base.specs.Outcomes.{is_ok}
use Rattle.retro_base.specs.ReplayableLaws.{replayable_with}
use Rattle.retro_base.specs.lemmas.Folds.{fold_rows-last}
use Rattle.retro_base.specs.lemmas.Replayable.{empty_replayable}
use Rattle.std.proofs.lemmas.List.Edits.{insert_end}

-- the rows of a block that is being read
pub record IsGoodBlock (block : Block) : Type 0 where
  pub least : 1 ≤ block.next
  pub most : block.next ≤ next_limit
  pub replayable : IsReplayable block.kind block.rows
  pub spelled : AllByRecursion IsRowSpelled block.rows

pub begun_is_good : (kind : Kind) (next : ℕ) (count : Option ℕ) → 1 ≤ next → next ≤ next_limit → IsGoodBlock (begun kind next count)
begun_is_good kind next count least most = record { least = least; most = most; replayable = empty_replayable kind; spelled = tt }

-- a row that can be performed after rows that replay replays with them
goes_on : (kind : Kind) (rows : List Row) (row : Row) → IsValid kind rows → is_some (step row (present kind rows)) ≡ true → IsValid kind (rows ++ row ∷ [])
goes_on kind rows row valid performs =
    let replayed = is_ok (run rows (empty kind)) valid in
    elim (step row replayed.0) as (λ o. step row replayed.0 ≡ o → IsValid kind (rows ++ row ∷ [])) [
      | None ↦ λ stops. let wrong : false ≡ true = rw (replayed.1, stops) at performs in absurd (cc)
      | Some next ↦ λ goes. ap result_err (fold_rows-last step rows row (empty kind) replayed.0 next replayed.1 goes)
    ] refl

-- What a good row is.
record HasNoCause (kind seen earlier performs : Bool) : Type 0 where
  of_kind : kind ≡ true
  unseen : seen ≡ false
  performed : performs ≡ true

no_cause : (kind seen earlier performs : Bool)
    → cond (not kind) (Some causes.Kind) (cond seen (Some causes.Number) (cond earlier (Some causes.Time) (cond performs None (Some causes.Replay)))) ≡ None
    → HasNoCause kind seen earlier performs
no_cause kind seen earlier performs none = record { of_kind = grind arith; unseen = grind arith; performed = grind arith }

unseen_is_fresh : (number : ℕ) (rows : List Row) → has_number number rows ≡ false → IsFresh number rows
unseen_is_fresh number [] none = tt
unseen_is_fresh number (row ∷ rows) none =
    let parts = or_parts (row.number == number) (has_number number rows) none in
    (eqb-false row.number number parts.0, unseen_is_fresh number rows parts.1)

pub all_then : {X : Type 0} (P : X → Type 0) (xs : List X) (x : X) → AllByRecursion P xs → P x → AllByRecursion P (xs ++ x ∷ [])
all_then P xs x all last = subst (AllByRecursion P) (insert_end xs x) (all_with P xs (length xs) x all last)

replayable_then : (kind : Kind) (rows : List Row) (row : Row) → IsReplayable kind rows → length rows < most_rows → cause_of_row kind rows row ≡ None → IsReplayable kind (rows ++ row ∷ [])
replayable_then kind rows row replayable room none =
    let good = no_cause (same_kind (kind_of row.op) kind) (has_number row.number rows) (nat_lt row.time (last_time rows)) (is_some (step row (present kind rows))) none in
    subst (IsReplayable kind) (insert_end rows row)
    (replayable_with kind rows (length rows) row replayable room (omega arith) (unseen_is_fresh row.number rows good.unseen) (same_kind_is (kind_of row.op) kind good.of_kind)
    (subst (IsValid kind) (sym (insert_end rows row)) (goes_on kind rows row replayable.valid good.performed)))

-- One line more.
fault_found : (place : ℕ) (cause : Option RowCause) → option_map (errors.Row place) cause ≡ None → cause ≡ None
fault_found place cause none = grind arith

no_fault : (kind : Kind) (rows : List Row) (row : Row) → fault_of kind rows (Some row) ≡ None → (length rows < most_rows) × (cause_of_row kind rows row ≡ None)
no_fault kind rows row none = (grind arith, grind arith)

grown_good : (block : Block) (line : Option Row) (fault : Option BlockError) → IsGoodBlock block → IfSome line IsRowSpelled → fault_of block.kind block.rows line ≡ fault → IsGoodBlock (grown block line fault)
grown_good block line (Some fault) good spelled is = record { least = good.least; most = good.most; replayable = good.replayable; spelled = good.spelled }
grown_good block None None good spelled is = good
grown_good block (Some row) None good spelled is =
    let fits = no_fault block.kind block.rows row is in
    record {
      least = good.least;
      most = good.most;
      replayable = replayable_then block.kind block.rows row good.replayable fits.0 fits.1;
      spelled = all_then IsRowSpelled block.rows row good.spelled spelled;
    }

after_good : (block : Block) (line : Option Row) → IsGoodBlock block → IfSome line IsRowSpelled → IsGoodBlock (after_row_line block line)
after_good block line good spelled =
    elim (is_some block.bad) as (λ b. IsGoodBlock (cond b block (grown block line (fault_of block.kind block.rows line)))) [
      | true ↦ good
      | false ↦ grown_good block line (fault_of block.kind block.rows line) good spelled refl
    ]

row_line_spelled : (bytes : List ℕ) (long : Bool) → IfSome (row_line bytes long) IsRowSpelled
row_line_spelled bytes true = tt
row_line_spelled bytes false = row_is_spelled bytes

pub taken_good : (block : Block) (bytes : List ℕ) (long : Bool) → IsGoodBlock block → IsGoodBlock (taken block bytes long)
unfolding taken
taken_good block bytes long good =
    elim (not long && is_passed_over bytes) as (λ b. IsGoodBlock (cond b block (after_row_line block (row_line bytes long)))) [
      | true ↦ good
      | false ↦ after_good block (row_line bytes long) good (row_line_spelled bytes long)
    ]

-- At its close.
record IsWhole (block : Block) (rows : List Row) : Type 0 where
  same : block.rows ≡ rows
  below : are_below block.next block.rows ≡ true

counted_is : (counted : Bool) (all rows : List Row) → ◌≡◌ {A = Result (List Row) BlockError} (cond counted (Ok all) (Err errors.Rows)) (Ok rows) → all ≡ rows
counted_is counted all rows is = grind arith

whole_is : (block : Block) (ended : Bool) (rows : List Row) → whole block ended ≡ Ok rows → IsWhole block rows
whole_is block ended rows is = record { same = grind arith; below = grind arith }

decided_is : (bad : Option BlockError) (block : Block) (ended : Bool) (rows : List Row) → decided bad block ended ≡ Ok rows → IsWhole block rows
decided_is bad block ended rows is = record { same = grind arith; below = grind arith }

all_ranged : (next : ℕ) (rows : List Row) → AllByRecursion IsRowSpelled rows → are_below next rows ≡ true → AllByRecursion (IsRanged next) rows
all_ranged next [] spelled below = tt
all_ranged next (row ∷ rows) spelled below =
    let parts = and_parts (nat_lt row.number next) (are_below next rows) below in
    ((ltb-true row.number next parts.0, spelled.0.0, spelled.0.1), all_ranged next rows spelled.1 parts.1)

pub sound_closed : (block : Block) (ended : Bool) (rows : List Row) → IsGoodBlock block → finished block ended ≡ Ok rows → IsSound block.kind block.next rows
sound_closed block ended rows good is =
    let closed = decided_is block.bad block ended rows is in
    subst (IsSound block.kind block.next) closed.same (record { replayable = good.replayable; ranged = all_ranged block.next block.rows good.spelled closed.below })

pub good_loaded : (unclosed : OpenBlock) (rows : List Row) → is_name unclosed.name ≡ true → IsGoodBlock unclosed.block → IsSound unclosed.block.kind unclosed.block.next rows → IsGood (of_block unclosed rows)
good_loaded unclosed rows named good sound = record {
  named = named;
  least = good.least;
  most = good.most;
  sound = sound;
  undo_start = rows;
  undo = refl;
  redo_start = rows;
  redo = refl;
}
