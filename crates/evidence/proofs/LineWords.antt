-- The words of the line that spells some evidence.
use Rattle.std.proofs.Common.{◌≡◌, ℕ, suc, ◌<◌, ◌^◌, ℤ, pos, negsuc, Bool, true, false, not, List, [], ◌∷◌, ◌++◌, codes, decimal, refl, ap, ◌∙◌, append_assoc, arith, Option, Some, None}
use Rattle.std.specs.Prelude.{◌==◌}
use Rattle.std.specs.Fmt.{signed_decimal}
use Rattle.std.specs.List.{list_all}
use Rattle.std.specs.Int.{IsInRange}
use Rattle.std.specs.Str.Parse.{AllDigits}
use Rattle.std.proofs.lemmas.Bool.{and_from, ne_eqb, not-true}
use Rattle.std.proofs.lemmas.Fmt.{decimal_is_IsNumeral}
use Rattle.std.proofs.lemmas.Str.Parse.{digit_from_value}
use Rattle.retro_base.specs.declared.op.Op.{Op}
use Rattle.retro_base.specs.declared.op.Op.TheVariants.{Enq, Deq, Push, Pop, PushL, PushR, PopL, PopR, Put, Del, Ins, DelMin}
use Rattle.retro_base.specs.declared.row.Change.{Change}
use Rattle.retro_base.specs.declared.row.Change.TheVariants.{Plain, Gain, Lose}
use Rattle.retro_base.specs.declared.row.Entry.{Entry}
use Rattle.retro_base.specs.Name.{is_name, is_name_byte}
use Rattle.retro_base.specs.OpText.{op_text}
use Rattle.evidence.specs.declared.evidence.Evidence.{Evidence}
use Rattle.evidence.specs.Evidence.{IsEvidence, IsValue, IsPqOp, IsPqEntry, IsPlaceOrNone, IsStatedChange}
use Rattle.evidence.specs.Reading.{words}
use Rattle.evidence.specs.Spelling.{spelling, number_text, edit_word, bridge_text, change_text, entry_text}
use Rattle.retro_base.specs.Facts.{both_true}

-- the words of the parts of a line
abbrev pub entry_words : Entry → List (List ℕ)
entry_words entry = number_text entry.number ∷ signed_decimal entry.key ∷ []

abbrev pub changed_words : Option ℕ → List ℕ → Entry → List (List ℕ)
changed_words bridge word entry = codes "bridge" ∷ bridge_text bridge ∷ word ∷ entry_words entry

abbrev pub change_words : Change → List (List ℕ)
change_words Plain = []
change_words (Gain bridge entry) = changed_words (Some bridge) (codes "gain") entry
change_words (Lose bridge entry) = changed_words bridge (codes "lose") entry

abbrev pub op_words : Op → List (List ℕ) → List (List ℕ)
op_words (Ins key) rest = codes "ins" ∷ signed_decimal key ∷ rest
op_words DelMin rest = codes "delmin" ∷ rest
op_words op rest = []

abbrev pub line_words : Evidence → List (List ℕ)
line_words e = codes "edit" ∷ e.name ∷ edit_word e.added ∷ decimal e.place ∷ number_text e.number ∷ op_words e.op (change_words e.change)

-- bytes without a space among them
abbrev no_spaces : List ℕ → Bool
no_spaces bytes = list_all (λ byte. not (byte == 32)) bytes

word_then : (word rest : List ℕ) → no_spaces word ≡ true → words (word ++ 32 ∷ rest) ≡ word ∷ words rest
word_then [] rest all = refl
word_then (byte ∷ bytes) rest all =
    let parts = both_true (not (byte == 32)) (no_spaces bytes) all in
    rw (not-true (byte == 32) parts.0, word_then bytes rest parts.1) refl

word_alone : (word : List ℕ) → no_spaces word ≡ true → words word ≡ word ∷ []
word_alone [] all = refl
word_alone (byte ∷ bytes) all =
    let parts = both_true (not (byte == 32)) (no_spaces bytes) all in
    rw (not-true (byte == 32) parts.0, word_alone bytes parts.1) refl

digits_no_spaces : (digits : List ℕ) → AllDigits 10 digits → no_spaces digits ≡ true
digits_no_spaces [] all = refl
digits_no_spaces (first ∷ digits) all =
    let range : IsInRange 48 57 first = digit_from_value first all.0 in
    and_from (not (first == 32)) (no_spaces digits) (ap not (ne_eqb first 32 (λ same. omega arith))) (digits_no_spaces digits all.1)

decimal_no_spaces : (n : ℕ) → n < 2 ^ 64 → no_spaces (decimal n) ≡ true
decimal_no_spaces n small = digits_no_spaces (decimal n) (decimal_is_IsNumeral n small).0.1

value_no_spaces : (v : ℤ) → IsValue v → no_spaces (signed_decimal v) ≡ true
value_no_spaces (pos n) small = decimal_no_spaces n (omega arith)
value_no_spaces (negsuc n) small = decimal_no_spaces (suc n) (omega arith)

name_byte_no_space : (byte : ℕ) → is_name_byte byte ≡ true → not (byte == 32) ≡ true
name_byte_no_space byte is =
    ap not (ne_eqb byte 32 (λ same. let wrong : is_name_byte 32 ≡ true = rw same at is in let no : is_name_byte 32 ≡ false = refl in absurd (cc)))

name_bytes_no_spaces : (bytes : List ℕ) → list_all is_name_byte bytes ≡ true → no_spaces bytes ≡ true
name_bytes_no_spaces [] all = refl
name_bytes_no_spaces (byte ∷ bytes) all =
    let parts = both_true (is_name_byte byte) (list_all is_name_byte bytes) all in
    and_from (not (byte == 32)) (no_spaces bytes) (name_byte_no_space byte parts.0) (name_bytes_no_spaces bytes parts.1)

name_no_spaces : (name : List ℕ) → is_name name ≡ true → no_spaces name ≡ true
unfolding is_name
name_no_spaces name is = name_bytes_no_spaces name (both_true _ _ (both_true _ _ is).0).1

bridge_no_spaces : (bridge : Option ℕ) → IsPlaceOrNone bridge → no_spaces (bridge_text bridge) ≡ true
bridge_no_spaces None is = refl
bridge_no_spaces (Some bridge) is = decimal_no_spaces bridge (omega arith)

-- word by word
words_of_entry : (entry : Entry) → IsPqEntry entry → words (entry_text entry) ≡ entry_words entry
words_of_entry entry is =
    word_then (number_text entry.number) (signed_decimal entry.key) (decimal_no_spaces entry.number (omega (arith, is.1.1)))
    ∙ ap (λ rest. number_text entry.number ∷ rest) (word_alone (signed_decimal entry.key) (value_no_spaces entry.key is.0))

words_of_changed : (bridge : Option ℕ) (word : List ℕ) (entry : Entry) → IsPlaceOrNone bridge → no_spaces word ≡ true → IsPqEntry entry
    → words (codes "bridge" ++ 32 ∷ (bridge_text bridge ++ 32 ∷ (word ++ 32 ∷ entry_text entry))) ≡ changed_words bridge word entry
words_of_changed bridge word entry place one is =
    ap (λ rest. codes "bridge" ∷ rest) (
    word_then (bridge_text bridge) (word ++ 32 ∷ entry_text entry) (bridge_no_spaces bridge place)
    ∙ ap (λ rest. bridge_text bridge ∷ rest) (word_then word (entry_text entry) one ∙ ap (λ rest. word ∷ rest) (words_of_entry entry is)))

words_of_change : (change : Change) → IsStatedChange change → words (change_text change) ≡ change_words change
words_of_change Plain is = absurd is
words_of_change (Gain bridge entry) is = words_of_changed (Some bridge) (codes "gain") entry is.0 refl is.1
words_of_change (Lose bridge entry) is = words_of_changed bridge (codes "lose") entry is.0 refl is.1

words_of_op : (op : Op) (rest : List ℕ) → IsPqOp op → words (op_text op ++ 32 ∷ rest) ≡ op_words op (words rest)
words_of_op (Enq v) rest is = absurd is
words_of_op Deq rest is = absurd is
words_of_op (Push v) rest is = absurd is
words_of_op Pop rest is = absurd is
words_of_op (PushL v) rest is = absurd is
words_of_op (PushR v) rest is = absurd is
words_of_op PopL rest is = absurd is
words_of_op PopR rest is = absurd is
words_of_op (Put k v) rest is = absurd is
words_of_op (Del k) rest is = absurd is
words_of_op (Ins key) rest is = ap (λ others. codes "ins" ∷ others) (word_then (signed_decimal key) rest (value_no_spaces key is))
words_of_op DelMin rest is = refl

edit_no_spaces : (added : Bool) → no_spaces (edit_word added) ≡ true
edit_no_spaces true = refl
edit_no_spaces false = refl

-- the same, from the words after the number of the row
nested_words : (e : Evidence) → IsEvidence e → (from_op : List ℕ) → words from_op ≡ op_words e.op (change_words e.change)
    → spelling e ≡ codes "edit" ++ 32 ∷ (e.name ++ 32 ∷ (edit_word e.added ++ 32 ∷ (decimal e.place ++ 32 ∷ (number_text e.number ++ 32 ∷ from_op))))
    → words (spelling e) ≡ line_words e
nested_words e is from_op after nested =
    ap words nested
    ∙ ap (λ rest. codes "edit" ∷ rest) (
    word_then e.name _ (name_no_spaces e.name is.named)
    ∙ ap (λ rest. e.name ∷ rest) (
    word_then (edit_word e.added) _ (edit_no_spaces e.added)
    ∙ ap (λ rest. edit_word e.added ∷ rest) (
    word_then (decimal e.place) _ (decimal_no_spaces e.place (omega (arith, is.place)))
    ∙ ap (λ rest. decimal e.place ∷ rest) (
    word_then (number_text e.number) from_op (decimal_no_spaces e.number (omega (arith, is.number.1)))
    ∙ ap (λ rest. number_text e.number ∷ rest) after))))

pub words_of_line : (e : Evidence) → IsEvidence e → words (spelling e) ≡ line_words e
unfolding spelling
words_of_line e is =
    let change : List ℕ = change_text e.change in
    let from_op : List ℕ = op_text e.op ++ 32 ∷ change in
    let from_number : List ℕ = number_text e.number ++ 32 ∷ from_op in
    let from_place : List ℕ = decimal e.place ++ 32 ∷ from_number in
    let from_edit : List ℕ = edit_word e.added ++ 32 ∷ from_place in
    let nested : spelling e ≡ codes "edit" ++ 32 ∷ (e.name ++ 32 ∷ from_edit) = simp append_assoc in
    let after : words from_op ≡ op_words e.op (change_words e.change) = words_of_op e.op change is.op ∙ ap (λ rest. op_words e.op rest) (words_of_change e.change is.change) in
    nested_words e is from_op after nested
