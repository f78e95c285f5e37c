-- What a block comes to, line by line.
use Rattle.std.specs.Prelude.{ℕ, ◌+◌, ◌==◌, Bool, true, not, ◌&&◌, nat_le, nat_lt, List, [], ◌∷◌, ◌++◌, length, is_some, if◌then◌else◌}
use Rattle.std.specs.Prelude.{Option, Some, None, option_map, Result, Ok, Err}
use Rattle.std.specs.List.{list_all, list_any}
use Rattle.retro_base.specs.declared.kind.Kind.{Kind}
use Rattle.retro_base.specs.declared.row.Row.{Row}
use Rattle.retro_base.specs.Limits.{most_rows}
use Rattle.retro_base.specs.Kind.{kind_of, same_kind}
use Rattle.retro_base.specs.Replay.{present}
use Rattle.retro_base.specs.State.{step}
use Rattle.script_grammar.specs.BlockLines.{is_passed_over, row_read}
use Rattle.timeline_file.specs.declared.block.RowCause.{RowCause}
use Rattle.timeline_file.specs.declared.block.RowCause.TheVariants as causes
use Rattle.timeline_file.specs.declared.block.BlockError.{BlockError}
use Rattle.timeline_file.specs.declared.block.BlockError.TheVariants as errors

-- a block that is being read: its kind, the number that is to be drawn next, how many row lines its header says that it has, if it says it, the good
-- rows so far, and what is wrong with the first bad row line, if there is one
pub record Block : Type 0 where
  pub kind : Kind
  pub next : ℕ
  pub count : Option ℕ
  pub rows : List Row
  pub bad : Option BlockError

-- a block of which nothing is read but its header
abbrev pub begun : Kind → ℕ → Option ℕ → Block
begun kind next count = record { kind = kind; next = next; count = count; rows = []; bad = None }

-- one of the rows has the number
abbrev pub has_number : ℕ → List Row → Bool
has_number number rows = list_any (λ row. row.number == number) rows

-- the time of the last row; 0 before the first one
abbrev pub last_time : List Row → ℕ
last_time [] = 0
last_time (row ∷ []) = row.time
last_time (row ∷ next ∷ rows) = last_time (next ∷ rows)

-- why a row is bad after these rows, if it is: the first cause that holds
abbrev pub cause_of_row : Kind → List Row → Row → Option RowCause
cause_of_row kind rows row =
    if not (same_kind (kind_of row.op) kind) then Some causes.Kind
    else (if has_number row.number rows then Some causes.Number
    else (if nat_lt row.time (last_time rows) then Some causes.Time
    else (if is_some (step row (present kind rows)) then None
    else Some causes.Replay)))

-- the same of a row line, which may spell no row
abbrev pub cause_of : Kind → List Row → Option Row → Option RowCause
cause_of kind rows None = Some causes.Syntax
cause_of kind rows (Some row) = cause_of_row kind rows row

-- what is wrong with a row line after these rows, if anything is: there is room for no more, whatever the line is, or the line is bad
abbrev pub fault_of : Kind → List Row → Option Row → Option BlockError
fault_of kind rows line =
    if nat_le most_rows (length rows) then Some errors.Full
    else option_map (errors.Row (length rows + 1)) (cause_of kind rows line)

-- the block after a row line of which this is wrong, or nothing
abbrev pub grown : Block → Option Row → Option BlockError → Block
grown block line (Some fault) = record block { bad = Some fault }
grown block (Some row) None = record block { rows = block.rows ++ row ∷ [] }
grown block None None = block

-- the block after a row line: once one is bad it decides, and the others are not judged
abbrev pub after_row_line : Block → Option Row → Block
after_row_line block line = if is_some block.bad then block else grown block line (fault_of block.kind block.rows line)

-- the row of a row line, which a long line never spells
abbrev pub row_line : List ℕ → Bool → Option Row
row_line bytes long = if long then None else row_read bytes

-- the block after a line that is not its end: a line that is passed over does not count, but a long line is a row line whatever it holds
unfoldable pub taken : Block → List ℕ → Bool → Block
taken block bytes long =
    if (not long && is_passed_over bytes) then block
    else after_row_line block (row_line bytes long)

-- all numbers are below the one that is to be drawn next
abbrev pub are_below : ℕ → List Row → Bool
are_below next rows = list_all (λ row. nat_lt row.number next) rows

-- there are as many rows as the header says, if it says it
abbrev pub has_count : Option ℕ → List Row → Bool
has_count None rows = true
has_count (Some count) rows = length rows == count

-- what a block without a bad row line comes to, if `end` came or not
abbrev pub whole : Block → Bool → Result (List Row) BlockError
whole block ended =
    if not ended then Err errors.Unfinished
    else (if not (are_below block.next block.rows) then Err errors.Next
    else (if has_count block.count block.rows then Ok block.rows
    else Err errors.Rows))

-- what a block comes to: the first bad row line decides
abbrev pub decided : Option BlockError → Block → Bool → Result (List Row) BlockError
decided (Some fault) block ended = Err fault
decided None block ended = whole block ended

abbrev pub finished : Block → Bool → Result (List Row) BlockError
finished block ended = decided block.bad block ended
