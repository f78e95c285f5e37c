-- What a line that is read of a block leaves as it is.
use Rattle.std.proofs.Common.{◌≡◌, ℕ, ◌≤◌, Bool, true, false, cond, List, refl, Option, Some, None, Result, Ok, Err, OnOk, OnErr}
use Rattle.std.specs.Prelude.{not, ◌&&◌, is_some}
use Rattle.retro_base.specs.declared.row.Row.{Row}
use Rattle.retro_base.specs.Limits.{next_limit}
use Rattle.script_grammar.specs.BlockLines.{is_passed_over}
use Rattle.timeline_file.specs.declared.block.BlockError.{BlockError}
use Rattle.timeline_file.specs.Block.{Block, taken, grown, fault_of, after_row_line, row_line}

grown_next : (block : Block) (line : Option Row) (fault : Option BlockError) → (grown block line fault).next ≡ block.next
grown_next block line (Some fault) = refl
grown_next block (Some row) None = refl
grown_next block None None = refl

chosen_next : (b : Bool) (next : ℕ) (x y : Block) → x.next ≡ next → y.next ≡ next → (cond b x y).next ≡ next
chosen_next true next x y first second = first
chosen_next false next x y first second = second

next_stays_taken : (block : Block) (bytes : List ℕ) (long : Bool) → (taken block bytes long).next ≡ block.next
unfolding taken
next_stays_taken block bytes long =
    chosen_next (not long && is_passed_over bytes) block.next block (after_row_line block (row_line bytes long)) refl
    (chosen_next (is_some block.bad) block.next block (grown block (row_line bytes long) (fault_of block.kind block.rows (row_line bytes long))) refl
    (grown_next block (row_line bytes long) (fault_of block.kind block.rows (row_line bytes long))))

-- the number that is to be drawn next stays in its range
pub next_stays : {A E : Type 0} (result : Result A E) (old new : Block) (bytes : List ℕ) (long : Bool)
    → OnOk result (new ≡ taken old bytes long) → OnErr result (new ≡ old) → (1 ≤ old.next) × (old.next ≤ next_limit) → (1 ≤ new.next) × (new.next ≤ next_limit)
next_stays (Ok a) old new bytes long took failed range = rw (took, next_stays_taken old bytes long) range
next_stays (Err e) old new bytes long took failed range = rw failed range
