-- The one saved spelling of a timeline.
use Rattle.std.specs.Prelude.{ℕ, List, [], ◌∷◌, ◌++◌, codes, decimal, length}
use Rattle.std.specs.List.{flat_map}
use Rattle.retro_base.specs.declared.kind.Kind.{Kind}
use Rattle.retro_base.specs.declared.kind.Kind.TheVariants.{Queue, Stack, Deque, Dict, Pq}
use Rattle.retro_base.specs.declared.row.Row.{Row}
use Rattle.retro_base.specs.OpText.{op_text}

-- the word of a kind
abbrev pub kind_text : Kind → List ℕ
kind_text Queue = codes "queue"
kind_text Stack = codes "stack"
kind_text Deque = codes "deque"
kind_text Dict = codes "dict"
kind_text Pq = codes "pq"

-- a text after a space
abbrev pub spaced : List ℕ → List ℕ
spaced text = codes " " ++ text

-- `next N`, after a space
abbrev pub next_text : ℕ → List ℕ
next_text next = codes " next " ++ decimal next

-- `rows M`, after a space
abbrev pub count_text : ℕ → List ℕ
count_text count = codes " rows " ++ decimal count

-- `timeline NAME KIND next N rows M`
abbrev pub header_text : List ℕ → Kind → ℕ → ℕ → List ℕ
header_text name kind next count = codes "timeline " ++ (name ++ (spaced (kind_text kind) ++ (next_text next ++ count_text count)))

-- `#N T OP`
abbrev pub row_text : Row → List ℕ
row_text row = codes "#" ++ (decimal row.number ++ (spaced (decimal row.time) ++ spaced (op_text row.op)))

-- the line that ends a block
abbrev pub end_text : List ℕ
end_text = codes "end"

-- a line with its line feed
abbrev pub with_feed : List ℕ → List ℕ
with_feed line = line ++ 10 ∷ []

-- a row line with its line feed
abbrev pub row_line_text : Row → List ℕ
row_line_text row = with_feed (row_text row)

-- the row lines, each with its line feed
abbrev pub row_lines : List Row → List ℕ
row_lines rows = flat_map row_line_text rows

-- the lines of the block of a timeline, each with its line feed
unfoldable pub saved : List ℕ → Kind → ℕ → List Row → List ℕ
saved name kind next rows = with_feed (header_text name kind next (length rows)) ++ (row_lines rows ++ with_feed end_text)
