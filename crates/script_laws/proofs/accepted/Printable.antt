-- Every line that answers is without bytes below the space: so it holds no line feed and ends in no carriage return.
use Rattle.std.proofs.Common.{◌≡◌, ℕ, suc, zero, ◌/◌, ◌%◌, ◌<◌, ℤ, Bool, true, false, not, ◌&&◌, nat_le, cond, List, [], ◌∷◌, ◌++◌, length, codes, decimal, refl, arith, Option}
use Rattle.std.specs.Prelude.{◌==◌}
use Rattle.std.specs.Fmt.{digit_glyph, digits, digits_onto}
use Rattle.std.specs.Fmt.{signed_decimal}
use Rattle.std.specs.List.{list_all, flat_map}
use Rattle.std.proofs.lemmas.Bool.{and_from, and_parts, lt-leb, ne_eqb}
use Rattle.retro_base.specs.declared.kind.Kind.{Kind}
use Rattle.retro_base.specs.declared.op.Op.{Op}
use Rattle.retro_base.specs.declared.question.Answer.{Answer}
use Rattle.retro_base.specs.declared.question.Item.{Item}
use Rattle.retro_base.specs.declared.row.Change.{Change}
use Rattle.retro_base.specs.declared.row.Change.TheVariants.{Plain, Gain, Lose}
use Rattle.retro_base.specs.declared.row.Entry.{Entry}
use Rattle.retro_base.specs.declared.row.Row.{Row}
use Rattle.retro_base.specs.Limits.{longest_name, most_timelines}
use Rattle.retro_base.specs.Name.{is_name, is_name_byte, is_reserved, starts_with_letter}
use Rattle.retro_base.specs.OpText.{op_text}
use Rattle.evidence.specs.declared.evidence.Evidence.{Evidence}
use Rattle.evidence_check.specs.Judgement.{is_evidence_line}
use Rattle.evidence.specs.Spelling.{spelling, edit_text, bridge_text, change_text, entry_text}
use Rattle.script_grammar.specs.AnswerText.{answer_text, item_text, listing_text}
use Rattle.timeline_file.specs.declared.block.RowCause.{RowCause}
use Rattle.timeline_file.specs.Saved.{header_text, kind_text}
use Rattle.timeline_file.specs.Saved as files
use Rattle.reactions.specs.declared.outcome.Refusal.{Refusal}
use Rattle.reactions.specs.declared.outcome.Refusal.TheVariants as refusals
use Rattle.reactions.specs.Outcome.{cause_text, refusal_text}

-- no byte is below the space
abbrev pub is_printable : List ℕ → Bool
is_printable text = list_all (λ byte. nat_le 32 byte) text

pub printable-append : (xs ys : List ℕ) → is_printable xs ≡ true → is_printable ys ≡ true → is_printable (xs ++ ys) ≡ true
printable-append [] ys first second = second
printable-append (x ∷ xs) ys first second =
    let parts = and_parts (nat_le 32 x) (is_printable xs) first in
    and_from (nat_le 32 x) (is_printable (xs ++ ys)) parts.0 (printable-append xs ys parts.1 second)

-- numbers
glyph_printable : (d : ℕ) → nat_le 32 (digit_glyph false d) ≡ true
glyph_printable d = grind arith

digits_printable : (k n : ℕ) (acc : List ℕ) → is_printable acc ≡ true → is_printable (digits_onto k 10 false n acc) ≡ true
digits_printable zero n acc is = is
digits_printable (suc k) n acc is =
    let one : is_printable (digit_glyph false (n % 10) ∷ acc) ≡ true = and_from _ _ (glyph_printable (n % 10)) is in
    elim (n / 10 == 0) as (λ b. is_printable (cond b (digit_glyph false (n % 10) ∷ acc) (digits_onto k 10 false (n / 10) (digit_glyph false (n % 10) ∷ acc))) ≡ true) [
      | true ↦ one
      | false ↦ digits_printable k (n / 10) (digit_glyph false (n % 10) ∷ acc) one
    ]

pub decimal_printable : (n : ℕ) → is_printable (decimal n) ≡ true
unfolding digits
decimal_printable n = digits_printable 64 n [] refl

value_printable : (v : ℤ) → is_printable (signed_decimal v) ≡ true
value_printable v = grind (arith, decimal_printable)

-- names
below_space : (byte : ℕ) → byte < 32 → is_name_byte byte ≡ false
below_space byte low =
    rw (lt-leb 65 byte (omega arith), lt-leb 97 byte (omega arith), lt-leb 48 byte (omega arith), ne_eqb byte 95 (λ same. omega arith), ne_eqb byte 45 (λ same. omega arith)) refl

name_byte_printable : (byte : ℕ) → is_name_byte byte ≡ true → nat_le 32 byte ≡ true
name_byte_printable byte named = grind (arith, below_space)

bytes_printable : (bytes : List ℕ) → list_all is_name_byte bytes ≡ true → is_printable bytes ≡ true
bytes_printable [] all = refl
bytes_printable (byte ∷ bytes) all =
    let parts = and_parts (is_name_byte byte) (list_all is_name_byte bytes) all in
    and_from (nat_le 32 byte) (is_printable bytes) (name_byte_printable byte parts.0) (bytes_printable bytes parts.1)

pub name_printable : (name : List ℕ) → is_name name ≡ true → is_printable name ≡ true
unfolding is_name
name_printable name named =
    let first = and_parts (starts_with_letter name && nat_le (length name) longest_name && list_all is_name_byte name) (not (is_reserved name)) named in
    let second = and_parts (starts_with_letter name && nat_le (length name) longest_name) (list_all is_name_byte name) first.0 in
    bytes_printable name second.1

-- operations
op_printable : (op : Op) → is_printable (op_text op) ≡ true
op_printable op = grind (arith, printable-append, value_printable)

-- evidence
edit_printable : (added : Bool) (place : ℕ) → is_printable (edit_text added place) ≡ true
edit_printable added place = grind (arith, decimal_printable)

bridge_printable : (bridge : Option ℕ) → is_printable (bridge_text bridge) ≡ true
bridge_printable bridge = grind (arith, decimal_printable)

entry_printable : (entry : Entry) → is_printable (entry_text entry) ≡ true
entry_printable entry = search (printable-append, decimal_printable, value_printable)

change_printable : (change : Change) → is_printable (change_text change) ≡ true
change_printable Plain = refl
change_printable (Gain bridge entry) = search (printable-append, decimal_printable, entry_printable)
change_printable (Lose bridge entry) = search (printable-append, bridge_printable, entry_printable)

pub spelling_printable : (e : Evidence) → is_name e.name ≡ true → is_printable (spelling e) ≡ true
unfolding spelling
spelling_printable e named = search (printable-append, name_printable, edit_printable, decimal_printable, op_printable, change_printable) depth 8

-- answers
pub answer_printable : (answer : Answer) → is_printable (answer_text answer) ≡ true
answer_printable answer = grind (arith, printable-append, value_printable)

item_printable : (item : Item) → is_printable (item_text item) ≡ true
item_printable item = grind (arith, printable-append, value_printable)

items_printable : (items : List Item) → is_printable (flat_map item_text items) ≡ true
items_printable [] = refl
items_printable (item ∷ items) = printable-append (item_text item) (flat_map item_text items) (item_printable item) (items_printable items)

pub listing_printable : (items : List Item) → is_printable (listing_text items) ≡ true
listing_printable [] = refl
listing_printable (item ∷ items) = items_printable (item ∷ items)

-- the lines of a saved timeline
kind_printable : (kind : Kind) → is_printable (kind_text kind) ≡ true
kind_printable kind = grind arith

pub header_printable : (name : List ℕ) (kind : Kind) (next count : ℕ) → is_name name ≡ true → is_printable (header_text name kind next count) ≡ true
header_printable name kind next count named = search (printable-append, name_printable, kind_printable, decimal_printable)

pub row_printable : (row : Row) → is_printable (files.row_text row) ≡ true
row_printable row = search (printable-append, decimal_printable, op_printable)

-- the fate of what a row put in
pub taken_printable : (number time : ℕ) → is_printable (codes "= taken #" ++ decimal number ++ codes " " ++ decimal time) ≡ true
taken_printable number time = search (printable-append, decimal_printable)

-- refusals
row_cause_printable : (cause : RowCause) → is_printable (cause_text cause) ≡ true
row_cause_printable cause = grind arith

-- a refusal names a timeline by a name
abbrev pub NamesTimeline : Refusal → Type 0
NamesTimeline (refusals.NoTimeline name) = is_name name ≡ true
NamesTimeline refusal = Unit {0}

-- its line is printable, and no evidence
pub refusal_line : (refusal : Refusal) → NamesTimeline refusal → (is_printable (refusal_text refusal) ≡ true) × (is_evidence_line (refusal_text refusal) ≡ false)
refusal_line refusals.Long named = (refl, refl)
refusal_line refusals.Syntax named = (refl, refl)
refusal_line (refusals.NoTimeline name) named = (name_printable name named, refl)
refusal_line refusals.NameTaken named = (refl, refl)
refusal_line refusals.Timelines named = (decimal_printable most_timelines, refl)
refusal_line refusals.Kind named = (refl, refl)
refusal_line (refusals.NoRow number) named = (decimal_printable number, refl)
refusal_line refusals.Full named = (refl, refl)
refusal_line refusals.Numbers named = (refl, refl)
refusal_line refusals.NothingToUndo named = (refl, refl)
refusal_line refusals.NothingToRedo named = (refl, refl)
refusal_line (refusals.RowLine place cause) named = (search (printable-append, decimal_printable, row_cause_printable), refl)
refusal_line refusals.Unfinished named = (refl, refl)
refusal_line refusals.Next named = (refl, refl)
refusal_line refusals.Rows named = (refl, refl)
refusal_line (refusals.NoItem number) named = (decimal_printable number, refl)
refusal_line (refusals.NoFollower number) named = (decimal_printable number, refl)
refusal_line (refusals.At number time) named = (search (printable-append, decimal_printable), refl)
