-- The one spelling of evidence: `edit NAME add|cut P #N OP bridge B|none gain|lose #J K`.
use Rattle.std.specs.Prelude.{ℕ, Bool, true, false, List, [], ◌++◌, codes, decimal, Option, Some, None}
use Rattle.std.specs.Fmt.{signed_decimal}
use Rattle.retro_base.specs.declared.op.Op.{Op}
use Rattle.retro_base.specs.declared.row.Change.{Change}
use Rattle.retro_base.specs.declared.row.Change.TheVariants.{Plain, Gain, Lose}
use Rattle.retro_base.specs.declared.row.Entry.{Entry}
use Rattle.retro_base.specs.OpText.{op_text}
use Rattle.evidence.specs.declared.evidence.Evidence.{Evidence}

-- a text after a space
abbrev pub spaced : List ℕ → List ℕ
spaced text = codes " " ++ text

-- the number of a row
abbrev pub number_text : ℕ → List ℕ
number_text number = codes "#" ++ decimal number

-- a row is added, or one is cut
abbrev pub edit_word : Bool → List ℕ
edit_word true = codes "add"
edit_word false = codes "cut"

-- `add|cut P`
abbrev pub edit_text : Bool → ℕ → List ℕ
edit_text added place = edit_word added ++ spaced (decimal place)

-- `#N OP`
abbrev pub row_text : ℕ → Op → List ℕ
row_text number op = number_text number ++ spaced (op_text op)

-- `#J K`
abbrev pub entry_text : Entry → List ℕ
entry_text entry = number_text entry.number ++ spaced (signed_decimal entry.key)

-- `B|none`
abbrev pub bridge_text : Option ℕ → List ℕ
bridge_text None = codes "none"
bridge_text (Some bridge) = decimal bridge

-- ` WORD #J K`
abbrev pub changed_entry_text : List ℕ → Entry → List ℕ
changed_entry_text word entry = spaced word ++ spaced (entry_text entry)

-- `bridge B|none WORD #J K`
abbrev pub changed_text : Option ℕ → List ℕ → Entry → List ℕ
changed_text bridge word entry = codes "bridge " ++ (bridge_text bridge ++ changed_entry_text word entry)

-- `bridge B gain #J K`, or `bridge B|none lose #J K`
abbrev pub change_text : Change → List ℕ
change_text Plain = []
change_text (Gain bridge entry) = changed_text (Some bridge) (codes "gain") entry
change_text (Lose bridge entry) = changed_text bridge (codes "lose") entry

-- the line of some evidence
unfoldable pub spelling : Evidence → List ℕ
spelling e = codes "edit " ++ (e.name ++ (spaced (edit_text e.added e.place) ++ (spaced (row_text e.number e.op) ++ spaced (change_text e.change))))
