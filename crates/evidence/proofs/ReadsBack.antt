-- The words of evidence read back, and words that read to evidence are its words.
use Rattle.std.proofs.Common.{◌≡◌, ℕ, ◌<◌, ◌^◌, ℤ, Bool, true, false, ◌&&◌, cond, List, [], ◌∷◌, codes, decimal, refl, sym, arith, subst, Option, Some, None}
use Rattle.std.specs.Prelude.{◌==◌, nat_le, nat_lt, IfSome, option_map, option_and_then}
use Rattle.std.specs.Fmt.{signed_decimal}
use Rattle.std.specs.Int.{IsInRange}
use Rattle.std.specs.Str.{bytes_eq}
use Rattle.std.specs.Str.Parse.{IsNumeral}
use Rattle.std.proofs.lemmas.Bool.{ne_eqb, le-leb, lt-ltb, leb-true, ltb-true, eqb-true}
use Rattle.std.proofs.lemmas.Fmt.{decimal_is_IsNumeral}
use Rattle.std.proofs.lemmas.Str.Parse.{digit_from_value}
use Rattle.retro_base.specs.declared.op.Op.{Op}
use Rattle.retro_base.specs.declared.op.Op.TheVariants.{Enq, Deq, Push, Pop, PushL, PushR, PopL, PopR, Put, Del, Ins, DelMin}
use Rattle.retro_base.specs.declared.row.Change.{Change}
use Rattle.retro_base.specs.declared.row.Change.TheVariants.{Plain, Gain, Lose}
use Rattle.retro_base.specs.declared.row.Entry.{Entry}
use Rattle.retro_base.specs.Limits.{next_limit}
use Rattle.retro_base.specs.Name.{is_name, name_of}
use Rattle.evidence.specs.declared.evidence.Evidence.{Evidence}
use Rattle.evidence.specs.Evidence.{IsEvidence, IsValue, IsRowNumber, IsPqOp, IsPqEntry, IsPlaceOrNone, IsStatedChange}
use Rattle.evidence.specs.Reading.{number_of, key_of, row_number_of, if_row_number, added_of, bridge_of, entry_of, changed, change_of, op_then, spelled_by}
use Rattle.evidence.specs.Spelling.{number_text, edit_word, bridge_text}
use Rattle.evidence.proofs.LineWords.{entry_words, changed_words, change_words, op_words, line_words}
use Rattle.evidence.proofs.NumberTexts.{number_read, number_found, key_read, key_found}
use Rattle.retro_base.specs.Facts.{both_true, same_bytes}

-- Evidence reads back.

row_number_read : (n : ℕ) → IsRowNumber n → row_number_of (number_text n) ≡ Some n
row_number_read n is = rw (number_read n (omega (arith, is.1)), le-leb 1 n is.0, lt-ltb n next_limit is.1) refl

added_read : (added : Bool) → added_of (edit_word added) ≡ Some added
added_read true = refl
added_read false = refl

no_digits : (digits : List ℕ) → IsNumeral 10 digits → bytes_eq digits (codes "none") ≡ false
no_digits [] is = refl
no_digits (first ∷ digits) is =
    let range : IsInRange 48 57 first = digit_from_value first is.1.0 in
    rw (ne_eqb first 110 (λ same. omega arith)) refl

bridge_read : (bridge : Option ℕ) → IsPlaceOrNone bridge → bridge_of (bridge_text bridge) ≡ Some bridge
bridge_read None is = refl
bridge_read (Some bridge) is = rw (no_digits (decimal bridge) (decimal_is_IsNumeral bridge (omega arith)).0, number_read bridge is) refl

entry_read : (entry : Entry) → IsPqEntry entry → entry_of (entry_words entry) ≡ Some entry
entry_read entry is = rw (row_number_read entry.number is.1, key_read entry.key is.0) refl

change_read : (change : Change) → IsStatedChange change → change_of (change_words change) ≡ Some change
change_read Plain is = absurd is
change_read (Gain bridge entry) is = rw (bridge_read (Some bridge) is.0, entry_read entry is.1) refl
change_read (Lose bridge entry) is = rw (bridge_read bridge is.0, entry_read entry is.1) refl

op_read : (op : Op) (change : Change) → IsPqOp op → IsStatedChange change → op_then (op_words op (change_words change)) ≡ Some (op, change)
op_read (Enq v) change is stated = absurd is
op_read Deq change is stated = absurd is
op_read (Push v) change is stated = absurd is
op_read Pop change is stated = absurd is
op_read (PushL v) change is stated = absurd is
op_read (PushR v) change is stated = absurd is
op_read PopL change is stated = absurd is
op_read PopR change is stated = absurd is
op_read (Put k v) change is stated = absurd is
op_read (Del k) change is stated = absurd is
op_read (Ins key) change is stated = rw (key_read key is, change_read change stated) refl
op_read DelMin change is stated = rw (change_read change stated) refl

name_read : (name : List ℕ) → is_name name ≡ true → name_of name ≡ Some name
name_read name is = rw is refl

pub line_read : (e : Evidence) → IsEvidence e → spelled_by (line_words e) ≡ Some e
line_read e is =
    rw (name_read e.name is.named, added_read e.added, number_read e.place is.place, row_number_read e.number is.number, op_read e.op e.change is.op is.change) refl

-- Words that read to evidence are its words.

-- What holds of the result of a chain, where there is one.
module _ {X : Type 0} (P : X → Type 0) where
  chosen : (test : Bool) (o other : Option X) → (test ≡ true → IfSome o P) → IfSome other P → IfSome (cond test o other) P
  chosen true o other first second = first refl
  chosen false o other first second = second

  any_of : (o : Option X) → ((x : X) → o ≡ Some x → P x) → IfSome o P
  any_of None each = tt
  any_of (Some x) each = each x refl

  one_of : (o : Option X) (x : X) → IfSome o P → o ≡ Some x → P x
  one_of None x holds is = absurd (cc)
  one_of (Some y) x holds is = let same : y ≡ x = cc in subst P same holds

  module _ {A : Type 0} where
    chained : (f : A → Option X) (o : Option A) → ((a : A) → IfSome (f a) P) → IfSome (option_and_then f o) P
    chained f None each = tt
    chained f (Some a) each = each a

    chained_from : (Q : A → Type 0) (f : A → Option X) (o : Option A) → IfSome o Q → ((a : A) → Q a → IfSome (f a) P) → IfSome (option_and_then f o) P
    chained_from Q f None holds each = tt
    chained_from Q f (Some a) holds each = each a holds

    mapped_from : (Q : A → Type 0) (f : A → X) (o : Option A) → IfSome o Q → ((a : A) → Q a → P (f a)) → IfSome (option_map f o) P
    mapped_from Q f None holds each = tt
    mapped_from Q f (Some a) holds each = each a holds

-- a word, or some words, are those of a value that is in its range
abbrev IsNumber : List ℕ → ℕ → Type 0
IsNumber word n = (word ≡ decimal n) × (n < 2 ^ 32)

abbrev IsKey : List ℕ → ℤ → Type 0
IsKey word v = (word ≡ signed_decimal v) × IsValue v

abbrev IsNumbered : List ℕ → ℕ → Type 0
IsNumbered word n = (word ≡ number_text n) × IsRowNumber n

abbrev IsAdded : List ℕ → Bool → Type 0
IsAdded word added = word ≡ edit_word added

abbrev IsBridged : List ℕ → Option ℕ → Type 0
IsBridged word bridge = (word ≡ bridge_text bridge) × IsPlaceOrNone bridge

abbrev IsEntry : List (List ℕ) → Entry → Type 0
IsEntry all entry = (all ≡ entry_words entry) × IsPqEntry entry

abbrev IsChanged : List (List ℕ) → Change → Type 0
IsChanged all change = (all ≡ change_words change) × IsStatedChange change

abbrev IsOpThen : List (List ℕ) → (Op × Change) → Type 0
IsOpThen all after = (all ≡ op_words after.0 (change_words after.1)) × IsPqOp after.0 × IsStatedChange after.1

number_is : (word : List ℕ) → IfSome (number_of word) (IsNumber word)
number_is word = any_of (IsNumber word) (number_of word) (number_found word)

key_is : (word : List ℕ) → IfSome (key_of word) (IsKey word)
key_is word = any_of (IsKey word) (key_of word) (key_found word)

row_number_is : (word : List ℕ) → IfSome (row_number_of word) (IsNumbered word)
row_number_is [] = tt
row_number_is (byte ∷ digits) =
    chosen (IsNumbered (byte ∷ digits)) (byte == 35) _ None (λ mark.
    chained_from (IsNumbered (byte ∷ digits)) (IsNumber digits) if_row_number (number_of digits) (number_is digits) (λ n is.
    chosen (IsNumbered (byte ∷ digits)) (nat_le 1 n && nat_lt n next_limit) (Some n) None (λ tests.
    let both = both_true (nat_le 1 n) (nat_lt n next_limit) tests in
    let byte_is : byte ≡ 35 = eqb-true byte 35 mark in
    (rw (byte_is, is.0) refl, (leb-true 1 n both.0, ltb-true n next_limit both.1))) tt)) tt

added_is : (word : List ℕ) → IfSome (added_of word) (IsAdded word)
added_is word =
    chosen (IsAdded word) (bytes_eq word (codes "add")) (Some true) _ (λ same. same_bytes word (codes "add") same)
    (chosen (IsAdded word) (bytes_eq word (codes "cut")) (Some false) None (λ same. same_bytes word (codes "cut") same) tt)

bridge_is : (word : List ℕ) → IfSome (bridge_of word) (IsBridged word)
bridge_is word =
    chosen (IsBridged word) (bytes_eq word (codes "none")) (Some None) _ (λ same. (same_bytes word (codes "none") same, tt))
    (mapped_from (IsBridged word) (IsNumber word) Some (number_of word) (number_is word) (λ n is. is))

entry_is : (all : List (List ℕ)) → IfSome (entry_of all) (IsEntry all)
entry_is [] = tt
entry_is (word ∷ []) = chained (IsEntry (word ∷ [])) _ (row_number_of word) (λ n. tt)
entry_is (word ∷ key ∷ []) =
    chained_from (IsEntry (word ∷ key ∷ [])) (IsNumbered word) _ (row_number_of word) (row_number_is word) (λ n is.
    mapped_from (IsEntry (word ∷ key ∷ [])) (IsKey key) _ (key_of key) (key_is key) (λ v value.
    (rw (is.0, value.0) refl, (value.1, is.1))))
entry_is (word ∷ key ∷ other ∷ rest) = chained (IsEntry (word ∷ key ∷ other ∷ rest)) _ (row_number_of word) (λ n. tt)

changed_is : (word : List ℕ) (bridge : Option ℕ) (entry : Entry) → IsPlaceOrNone bridge → IsPqEntry entry
    → IfSome (changed word bridge entry) (IsChanged (changed_words bridge word entry))
changed_is word None entry place is =
    let P : Change → Type 0 = IsChanged (changed_words None word entry) in
    chosen P (bytes_eq word (codes "gain")) None _ (λ same. tt)
    (chosen P (bytes_eq word (codes "lose")) (Some (Lose None entry)) None (λ same. (rw (same_bytes word (codes "lose") same) refl, (tt, is))) tt)
changed_is word (Some bridge) entry place is =
    let P : Change → Type 0 = IsChanged (changed_words (Some bridge) word entry) in
    chosen P (bytes_eq word (codes "gain")) (Some (Gain bridge entry)) _ (λ same. (rw (same_bytes word (codes "gain") same) refl, (place, is)))
    (chosen P (bytes_eq word (codes "lose")) (Some (Lose (Some bridge) entry)) None (λ same. (rw (same_bytes word (codes "lose") same) refl, (place, is))) tt)

change_is : (all : List (List ℕ)) → IfSome (change_of all) (IsChanged all)
change_is [] = tt
change_is (bridge ∷ []) = chosen (IsChanged (bridge ∷ [])) (bytes_eq bridge (codes "bridge")) None None (λ same. tt) tt
change_is (bridge ∷ place ∷ []) =
    chosen (IsChanged (bridge ∷ place ∷ [])) (bytes_eq bridge (codes "bridge")) _ None (λ same. chained (IsChanged (bridge ∷ place ∷ [])) _ (bridge_of place) (λ b. tt)) tt
change_is (bridge ∷ place ∷ word ∷ rest) =
    let P : Change → Type 0 = IsChanged (bridge ∷ place ∷ word ∷ rest) in
    chosen P (bytes_eq bridge (codes "bridge")) _ None (λ same.
    chained_from P (IsBridged place) _ (bridge_of place) (bridge_is place) (λ b at.
    chained_from P (IsEntry rest) (changed word b) (entry_of rest) (entry_is rest) (λ entry is.
    let whole : bridge ∷ place ∷ word ∷ rest ≡ changed_words b word entry = rw (same_bytes bridge (codes "bridge") same, at.0, is.0) refl in
    subst (λ all. IfSome (changed word b entry) (IsChanged all)) (sym whole) (changed_is word b entry at.1 is.1)))) tt

op_is : (all : List (List ℕ)) → IfSome (op_then all) (IsOpThen all)
op_is [] = tt
op_is (word ∷ []) =
    chosen (IsOpThen (word ∷ [])) (bytes_eq word (codes "ins")) None _ (λ same. tt)
    (chosen (IsOpThen (word ∷ [])) (bytes_eq word (codes "delmin")) None None (λ same. tt) tt)
op_is (word ∷ key ∷ rest) =
    let P : (Op × Change) → Type 0 = IsOpThen (word ∷ key ∷ rest) in
    chosen P (bytes_eq word (codes "ins")) _ _ (λ same.
    chained_from P (IsKey key) _ (key_of key) (key_is key) (λ v value.
    mapped_from P (IsChanged rest) _ (change_of rest) (change_is rest) (λ change is.
    (rw (same_bytes word (codes "ins") same, value.0, is.0) refl, value.1, is.1))))
    (chosen P (bytes_eq word (codes "delmin")) _ None (λ same.
    mapped_from P (IsChanged (key ∷ rest)) _ (change_of (key ∷ rest)) (change_is (key ∷ rest)) (λ change is.
    (rw (same_bytes word (codes "delmin") same, is.0) refl, tt, is.1))) tt)

-- the words are those of evidence
abbrev pub IsLine : List (List ℕ) → Evidence → Type 0
IsLine all e = (all ≡ line_words e) × IsEvidence e

name_is : (word : List ℕ) → IfSome (name_of word) (λ name. (word ≡ name) × (is_name name ≡ true))
name_is word = chosen (λ name. (word ≡ name) × (is_name name ≡ true)) (is_name word) (Some word) None (λ is. (refl, is)) tt

pub line_is : (all : List (List ℕ)) → IfSome (spelled_by all) (IsLine all)
line_is [] = tt
line_is (edit ∷ []) = chosen (IsLine (edit ∷ [])) (bytes_eq edit (codes "edit")) None None (λ same. tt) tt
line_is (edit ∷ name ∷ []) =
    let P : Evidence → Type 0 = IsLine (edit ∷ name ∷ []) in
    chosen P (bytes_eq edit (codes "edit")) _ None (λ same. chained P _ (name_of name) (λ n. tt)) tt
line_is (edit ∷ name ∷ added ∷ []) =
    let P : Evidence → Type 0 = IsLine (edit ∷ name ∷ added ∷ []) in
    chosen P (bytes_eq edit (codes "edit")) _ None (λ same. chained P _ (name_of name) (λ n. chained P _ (added_of added) (λ a. tt))) tt
line_is (edit ∷ name ∷ added ∷ place ∷ []) =
    let P : Evidence → Type 0 = IsLine (edit ∷ name ∷ added ∷ place ∷ []) in
    chosen P (bytes_eq edit (codes "edit")) _ None (λ same.
    chained P _ (name_of name) (λ n. chained P _ (added_of added) (λ a. chained P _ (number_of place) (λ p. tt)))) tt
line_is (edit ∷ name ∷ added ∷ place ∷ number ∷ rest) =
    let P : Evidence → Type 0 = IsLine (edit ∷ name ∷ added ∷ place ∷ number ∷ rest) in
    chosen P (bytes_eq edit (codes "edit")) _ None (λ same.
    chained_from P _ _ (name_of name) (name_is name) (λ n named.
    chained_from P (IsAdded added) _ (added_of added) (added_is added) (λ a adds.
    chained_from P (IsNumber place) _ (number_of place) (number_is place) (λ p at.
    chained_from P (IsNumbered number) _ (row_number_of number) (row_number_is number) (λ m numbered.
    mapped_from P (IsOpThen rest) _ (op_then rest) (op_is rest) (λ after is. (
      rw (same_bytes edit (codes "edit") same, named.0, adds, at.0, numbered.0, is.0) refl,
      record { named = named.1; place = at.1; number = numbered.1; op = is.1; change = is.2 },
    ))))))) tt
