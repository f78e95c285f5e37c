-- What is saved reads back.
use Rattle.std.specs.Prelude.{◌≡◌, ℕ, ◌<◌, ◌^◌, true, false, List, [], ◌∷◌, map, length, Some, Ok}
use Rattle.std.specs.List.{AllByRecursion}
use Rattle.retro_base.specs.declared.kind.Kind.{Kind}
use Rattle.retro_base.specs.declared.row.Row.{Row}
use Rattle.retro_base.specs.Timeline.{IsTimeline}
use Rattle.retro_base.specs.Name.{is_name}
use Rattle.script_grammar.specs.declared.command.Command.TheVariants.{Header}
use Rattle.script_grammar.specs.BlockLines.{is_end}
use Rattle.script_grammar.specs.Command.{command}
use Rattle.script_grammar.specs.SpellingLaws.{HasValues}
use Rattle.timeline_file.specs.Block.{Block, begun, taken, finished}
use Rattle.timeline_file.specs.Saved.{header_text, row_text, end_text}

-- the numbers of a row are in their ranges
abbrev pub IsInRange : Row → Type 0
IsInRange row = (row.time < 2 ^ 64) × HasValues row.op

-- a block after some lines, none of them long
abbrev pub taken_all : Block → List (List ℕ) → Block
taken_all block [] = block
taken_all block (line ∷ lines) = taken_all (taken block line false) lines

-- what is saved of a timeline reads back: its header opens the block of its name, its kind, its next number and the number of its rows, no row
-- line ends the block, its end does, and the block comes to the rows
pub record ReadsBack (name : List ℕ) (kind : Kind) (next : ℕ) (rows : List Row) : Type 0 where
  pub header : command (header_text name kind next (length rows)) ≡ Ok (Header name kind next (Some (length rows)))
  pub row_lines : AllByRecursion (λ row. is_end (row_text row) ≡ false) rows
  pub end_line : is_end end_text ≡ true
  pub block : finished (taken_all (begun kind next (Some (length rows))) (map row_text rows)) true ≡ Ok rows

-- so it is with every timeline that has a name
abbrev pub SavedReadsBack : Type 0
SavedReadsBack = (name : List ℕ) (kind : Kind) (next : ℕ) (rows : List Row) → is_name name ≡ true → IsTimeline kind rows next
    → AllByRecursion IsInRange rows → ReadsBack name kind next rows
