-- The text that is saved of a timeline, cut into lines.
use Rattle.std.specs.Prelude.{◌≡◌, ◌≤◌, ℕ, true, List, [], ◌∷◌, ◌++◌, length, map}
use Rattle.std.specs.List.{AllByRecursion}
use Rattle.retro_base.specs.declared.kind.Kind.{Kind}
use Rattle.retro_base.specs.declared.row.Row.{Row}
use Rattle.retro_base.specs.Name.{is_name}
use Rattle.retro_base.specs.Timeline.{IsTimeline}
use Rattle.retro_io.specs.Lines.{lines, longest_line}
use Rattle.timeline_file.specs.ReadsBack.{IsInRange, ReadsBack}
use Rattle.timeline_file.specs.Saved.{end_text, header_text, row_text, saved}

-- the lines of a block: the header, a line for each row, and the end
abbrev pub block_lines : List ℕ → Kind → ℕ → List Row → List (List ℕ)
block_lines name kind next rows = header_text name kind next (length rows) ∷ (map row_text rows ++ end_text ∷ [])

-- the saved text has these lines and no other, none of them is long, and they read back to what was saved
pub record TextReadsBack (name : List ℕ) (kind : Kind) (next : ℕ) (rows : List Row) : Type 0 where
  pub cut : lines (saved name kind next rows) ≡ block_lines name kind next rows
  pub short : AllByRecursion (λ line. length line ≤ longest_line) (block_lines name kind next rows)
  pub back : ReadsBack name kind next rows

-- so it is with every timeline that has a name
abbrev pub SavedTextReadsBack : Type 0
SavedTextReadsBack = (name : List ℕ) (kind : Kind) (next : ℕ) (rows : List Row) → is_name name ≡ true → IsTimeline kind rows next
    → AllByRecursion IsInRange rows → TextReadsBack name kind next rows
