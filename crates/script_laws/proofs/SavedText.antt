-- The saved text of a timeline is cut into the lines of its block, and each of them is short.
use Rattle.std.proofs.Common.{◌≡◌, ℕ, ◌<◌, ◌≤◌, ◌^◌, ℤ, pos, negsuc, true, not, ◌&&◌, nat_le, List, [], ◌∷◌, ◌++◌, length, map, decimal, refl, ap, ◌∙◌, arith, append_assoc, length-append}
use Rattle.std.specs.Fmt.{signed_decimal}
use Rattle.std.specs.List.{AllByRecursion, list_all}
use Rattle.std.proofs.lemmas.Bool.{and_parts, leb-true}
use Rattle.std.proofs.lemmas.Fmt.{length-decimal-le, length_signed_le}
use Rattle.retro_base.specs.declared.kind.Kind.{Kind}
use Rattle.retro_base.specs.declared.op.Op.{Op}
use Rattle.retro_base.specs.declared.row.Row.{Row}
use Rattle.retro_base.specs.Limits.{longest_name, most_rows, next_limit}
use Rattle.retro_base.specs.Name.{is_name, is_name_byte, is_reserved, starts_with_letter}
use Rattle.retro_base.specs.OpText.{op_text}
use Rattle.retro_base.specs.Timeline.{IsTimeline}
use Rattle.retro_io.specs.Lines.{lines, longest_line}
use Rattle.script_grammar.specs.SpellingLaws.{HasValues, IsValue}
use Rattle.timeline_file.specs.ReadsBack.{IsInRange, SavedReadsBack}
use Rattle.timeline_file.specs.Saved.{end_text, header_text, kind_text, row_line_text, row_lines, row_text, saved, with_feed}
use Rattle.script_laws.specs.SavedText.{TextReadsBack, block_lines}
use Rattle.script_laws.proofs.accepted.Printable.{header_printable, row_printable}
use Rattle.script_laws.proofs.accepted.ReadLines.{line_first}

-- the lines
rows_cut : (rows : List Row) (rest : List ℕ) → lines (row_lines rows ++ rest) ≡ map row_text rows ++ lines rest
rows_cut [] rest = refl
rows_cut (row ∷ rows) rest =
    ap lines (append_assoc (row_line_text row) (row_lines rows) rest) ∙ line_first (row_text row) (row_lines rows ++ rest) (row_printable row)
    ∙ ap (λ more. row_text row ∷ more) (rows_cut rows rest)

text_cut : (name : List ℕ) (kind : Kind) (next : ℕ) (rows : List Row) → is_name name ≡ true → lines (saved name kind next rows) ≡ block_lines name kind next rows
unfolding saved
text_cut name kind next rows named =
    line_first (header_text name kind next (length rows)) (row_lines rows ++ with_feed end_text) (header_printable name kind next (length rows) named)
    ∙ ap (λ more. header_text name kind next (length rows) ∷ more) (rows_cut rows (with_feed end_text))

-- their lengths
name_short : (name : List ℕ) → is_name name ≡ true → length name ≤ 32
unfolding is_name
name_short name named =
    let first = and_parts (starts_with_letter name && nat_le (length name) longest_name && list_all is_name_byte name) (not (is_reserved name)) named in
    let second = and_parts (starts_with_letter name && nat_le (length name) longest_name) (list_all is_name_byte name) first.0 in
    leb-true (length name) longest_name (and_parts (starts_with_letter name) (nat_le (length name) longest_name) second.0).1

kind_short : (kind : Kind) → length (kind_text kind) ≤ 5
kind_short kind = grind arith

number_short : (n : ℕ) → n ≤ next_limit → length (decimal n) ≤ 8
number_short n small = length-decimal-le 8 n (omega arith) (omega arith) (omega arith)

time_short : (n : ℕ) → n < 2 ^ 64 → length (decimal n) ≤ 20
time_short n small = length-decimal-le 20 n (omega arith) (omega arith) small

value_short : (v : ℤ) → IsValue v → length (signed_decimal v) ≤ 20
value_short (pos n) small = length_signed_le 19 (pos n) (omega arith) small
value_short (negsuc n) small = length_signed_le 19 (negsuc n) (omega arith) small

op_short : (op : Op) → HasValues op → length (op_text op) ≤ 45
op_short op of = grind (arith, value_short, length-append)

header_short : (name : List ℕ) (kind : Kind) (next count : ℕ) → is_name name ≡ true → next ≤ next_limit → count ≤ most_rows
    → length (header_text name kind next count) ≤ longest_line
header_short name kind next count named small few =
    let of_name = name_short name named in
    let of_kind = kind_short kind in
    let of_next = number_short next small in
    let of_count = number_short count (omega (arith, few)) in
    simp length-append (omega arith)

row_short : (row : Row) → row.number ≤ next_limit → IsInRange row → length (row_text row) ≤ longest_line
row_short row small range =
    let of_number = number_short row.number small in
    let of_time = time_short row.time range.0 in
    let of_op = op_short row.op range.1 in
    simp length-append (omega arith)

rows_short : (rows : List Row) (next : ℕ) → next ≤ next_limit → AllByRecursion (λ row. (1 ≤ row.number) × (row.number < next)) rows → AllByRecursion IsInRange rows
    → AllByRecursion (λ line. length line ≤ longest_line) (map row_text rows ++ end_text ∷ [])
rows_short [] next small numbered range = (omega arith, tt)
rows_short (row ∷ rows) next small numbered range =
    (row_short row (omega (arith, small, numbered.0.1)) range.0, rows_short rows next small numbered.1 range.1)

pub text_reads_back : SavedReadsBack → (name : List ℕ) (kind : Kind) (next : ℕ) (rows : List Row) → is_name name ≡ true → IsTimeline kind rows next
    → AllByRecursion IsInRange rows → TextReadsBack name kind next rows
text_reads_back back name kind next rows named timeline range = record {
  cut = text_cut name kind next rows named;
  short = (header_short name kind next (length rows) named timeline.next_in_range.1 timeline.replayable.few, rows_short rows next timeline.next_in_range.1 timeline.numbered range);
  back = back name kind next rows named timeline range;
}
