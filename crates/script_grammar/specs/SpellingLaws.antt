-- Laws of the grammar: what is printed reads back. The proofs of the layers above may cite them.
use Rattle.std.proofs.Common.{◌≡◌, ℕ, suc, ◌+◌, ◌-◌, ◌*◌, ◌/◌, ◌%◌, ◌^◌, ◌<◌, ◌≤◌, ℤ, pos, negsuc, Bool, true, false, not, ◌&&◌, List, [], ◌∷◌, ◌++◌, codes, decimal, refl, ap, ◌∙◌, arith, Some, None}
use Rattle.std.specs.Fmt.{signed_decimal}
use Rattle.std.specs.List.{list_all, slice_split}
use Rattle.std.proofs.lemmas.Bool.{and_from, ne_eqb, leb-true, le-leb, not-true}
use Rattle.std.proofs.lemmas.Fmt.{decimal_by_steps}
use Rattle.retro_base.specs.declared.op.Op.{Op}
use Rattle.retro_base.specs.declared.op.Op.TheVariants.{Enq, Deq, Push, Pop, PushL, PushR, PopL, PopR, Put, Del, Ins, DelMin}
use Rattle.retro_base.specs.Limits.{next_limit}
use Rattle.retro_base.specs.Name.{is_digit}
use Rattle.retro_base.specs.OpText.{op_text}
use Rattle.script_grammar.specs.Words.{is_filled, is_space, words}
use Rattle.script_grammar.specs.Numbers.{natural_after, natural_of, row_number_of, time_of, value_of}
use Rattle.script_grammar.specs.Operations.{op_of}
use Rattle.retro_base.specs.Facts.{both_true}

-- a value of 64 bits
abbrev pub IsValue : ℤ → Type 0
IsValue (pos n) = n < 2 ^ 63
IsValue (negsuc n) = n < 2 ^ 63

-- the values of an operation are of 64 bits
abbrev pub HasValues : Op → Type 0
HasValues (Enq value) = IsValue value
HasValues Deq = Unit {0}
HasValues (Push value) = IsValue value
HasValues Pop = Unit {0}
HasValues (PushL value) = IsValue value
HasValues (PushR value) = IsValue value
HasValues PopL = Unit {0}
HasValues PopR = Unit {0}
HasValues (Put key value) = IsValue key × IsValue value
HasValues (Del key) = IsValue key
HasValues (Ins key) = IsValue key
HasValues DelMin = Unit {0}

-- Words

abbrev no_spaces : List ℕ → Bool
no_spaces bytes = list_all (λ byte. not (is_space byte)) bytes

-- bytes without a space among them, one or more
abbrev pub is_word : List ℕ → Bool
is_word bytes = is_filled bytes && no_spaces bytes

split_then : (word rest : List ℕ) → no_spaces word ≡ true → slice_split is_space (word ++ 32 ∷ rest) ≡ word ∷ slice_split is_space rest
split_then [] rest all = refl
split_then (byte ∷ bytes) rest all =
    let parts = both_true (not (is_space byte)) (no_spaces bytes) all in
    rw (not-true (is_space byte) parts.0, split_then bytes rest parts.1) refl

split_alone : (word : List ℕ) → no_spaces word ≡ true → slice_split is_space word ≡ word ∷ []
split_alone [] all = refl
split_alone (byte ∷ bytes) all =
    let parts = both_true (not (is_space byte)) (no_spaces bytes) all in
    rw (not-true (is_space byte) parts.0, split_alone bytes parts.1) refl

-- a word and a space in front of other bytes
pub words-then : (word rest : List ℕ) → is_word word ≡ true → words (word ++ 32 ∷ rest) ≡ word ∷ words rest
unfolding words
words-then word rest is = let parts = both_true (is_filled word) (no_spaces word) is in rw (split_then word rest parts.1, parts.0) refl

-- a word alone
pub words-alone : (word : List ℕ) → is_word word ≡ true → words word ≡ word ∷ []
unfolding words
words-alone word is = let parts = both_true (is_filled word) (no_spaces word) is in rw (split_alone word parts.1, parts.0) refl

-- Numbers

digit_of : (n : ℕ) → n < 10 → is_digit (48 + n) ≡ true
digit_of n small = and_from _ _ (le-leb 48 (48 + n) (omega arith)) (le-leb (48 + n) 57 (omega arith))

one_digit_more : (m k digit : ℕ) (digits : List ℕ) → natural_after m digits ≡ Some k → is_digit digit ≡ true
    → natural_after m (digits ++ digit ∷ []) ≡ Some (10 * k + (digit - 48))
one_digit_more m k digit [] so_far is = let same : m ≡ k = cc in rw (is, same) refl
one_digit_more m k digit (first ∷ digits) so_far is =
    elim (is_digit first) as (λ b. is_digit first ≡ b → natural_after m ((first ∷ digits) ++ digit ∷ []) ≡ Some (10 * k + (digit - 48))) [
      | true ↦ λ e. rw e (one_digit_more (10 * m + (first - 48)) k digit digits (rw e at so_far) is)
      | false ↦ λ e. let none : None ≡ Some k = rw e at so_far in absurd (cc)
    ] refl

-- digits that spell a number
record Spells (n : ℕ) (digits : List ℕ) : Type 0 where
  reads : natural_after 0 digits ≡ Some n
  all_digits : list_all is_digit digits ≡ true
  filled : is_filled digits ≡ true

all_digits_more : (digits : List ℕ) (digit : ℕ) → list_all is_digit digits ≡ true → is_digit digit ≡ true → list_all is_digit (digits ++ digit ∷ []) ≡ true
all_digits_more [] digit all is = and_from (is_digit digit) true is refl
all_digits_more (first ∷ digits) digit all is =
    let parts = both_true (is_digit first) (list_all is_digit digits) all in
    and_from (is_digit first) (list_all is_digit (digits ++ digit ∷ [])) parts.0 (all_digits_more digits digit parts.1 is)

filled_more : (digits : List ℕ) (digit : ℕ) → is_filled (digits ++ digit ∷ []) ≡ true
filled_more [] digit = refl
filled_more (first ∷ digits) digit = refl

spells_digit : (n : ℕ) → n < 10 → Spells n ((48 + n) ∷ [])
spells_digit n small = record {
  reads = rw (digit_of n small) (ap (λ m. Some m) (omega arith));
  all_digits = and_from (is_digit (48 + n)) true (digit_of n small) refl;
  filled = refl;
}

spells_more : (n : ℕ) (digits : List ℕ) → 10 ≤ n → Spells (n / 10) digits → Spells n (digits ++ (48 + n % 10) ∷ [])
spells_more n digits large spelled =
    let digit : is_digit (48 + n % 10) ≡ true = digit_of (n % 10) (omega arith) in
    record {
      reads = one_digit_more 0 (n / 10) (48 + n % 10) digits spelled.reads digit ∙ ap (λ m. Some m) (omega arith);
      all_digits = all_digits_more digits (48 + n % 10) spelled.all_digits digit;
      filled = filled_more digits (48 + n % 10);
    }

spells : (n : ℕ) → n < 2 ^ 64 → Spells n (decimal n)
spells n small = decimal_by_steps Spells spells_digit spells_more n small

natural_read : (n : ℕ) (digits : List ℕ) → Spells n digits → natural_of digits ≡ Some n
natural_read n [] spelled = absurd (let no : false ≡ true = spelled.filled in cc)
natural_read n (first ∷ digits) spelled = spelled.reads

is_no_space : (byte : ℕ) → is_digit byte ≡ true → not (is_space byte) ≡ true
is_no_space byte is =
    let least : 48 ≤ byte = leb-true 48 byte (both_true _ _ is).0 in
    ap not (ne_eqb byte 32 (λ same. omega arith))

digits_no_spaces : (digits : List ℕ) → list_all is_digit digits ≡ true → no_spaces digits ≡ true
digits_no_spaces [] all = refl
digits_no_spaces (first ∷ digits) all =
    let parts = both_true (is_digit first) (list_all is_digit digits) all in
    and_from (not (is_space first)) (no_spaces digits) (is_no_space first parts.0) (digits_no_spaces digits parts.1)

pub decimal_is_word : (n : ℕ) → n < 2 ^ 64 → is_word (decimal n) ≡ true
decimal_is_word n small =
    let spelled = spells n small in
    and_from (is_filled (decimal n)) (no_spaces (decimal n)) spelled.filled (digits_no_spaces (decimal n) spelled.all_digits)

-- `#N` is a word, and spells the number of a row
pub number_is_word : (n : ℕ) → n < 2 ^ 64 → is_word (35 ∷ decimal n) ≡ true
number_is_word n small = digits_no_spaces (decimal n) (spells n small).all_digits

pub row_number_of-decimal : (n : ℕ) → 1 ≤ n → n < next_limit → row_number_of (35 ∷ decimal n) ≡ Some n
unfolding row_number_of
row_number_of-decimal n least most =
    rw (natural_read n (decimal n) (spells n (omega arith)), le-leb 1 n least, le-leb n 16777215 (omega arith)) refl

pub time_of-decimal : (t : ℕ) → t < 2 ^ 64 → time_of (decimal t) ≡ Some t
unfolding time_of
time_of-decimal t small = rw (natural_read t (decimal t) (spells t small), le-leb t 18446744073709551615 (omega arith)) refl

positive_read : (n : ℕ) (digits : List ℕ) → n < 2 ^ 63 → Spells n digits → value_of digits ≡ Some (pos n)
unfolding value_of
positive_read n [] small spelled = absurd (let no : false ≡ true = spelled.filled in cc)
positive_read n (first ∷ digits) small spelled =
    let parts = both_true (is_digit first) (list_all is_digit digits) spelled.all_digits in
    let least : 48 ≤ first = leb-true 48 first (both_true _ _ parts.0).0 in
    rw (ne_eqb first 45 (λ same. omega arith), spelled.reads, le-leb n 9223372036854775807 (omega arith)) refl

negative_read : (n : ℕ) → n < 2 ^ 63 → value_of (45 ∷ decimal (suc n)) ≡ Some (negsuc n)
unfolding value_of
negative_read n small =
    rw (natural_read (suc n) (decimal (suc n)) (spells (suc n) (omega arith)), le-leb (suc n) 9223372036854775808 (omega arith)) refl

pub value_of-decimal : (v : ℤ) → IsValue v → value_of (signed_decimal v) ≡ Some v
value_of-decimal (pos n) small = positive_read n (decimal n) small (spells n (omega arith))
value_of-decimal (negsuc n) small = negative_read n small

pub value_is_word : (v : ℤ) → IsValue v → is_word (signed_decimal v) ≡ true
value_is_word (pos n) small = decimal_is_word n (omega arith)
value_is_word (negsuc n) small = digits_no_spaces (decimal (suc n)) (spells (suc n) (omega arith)).all_digits

-- Operations

one_value : (word : List ℕ) (v : ℤ) → is_word word ≡ true → IsValue v → words (word ++ 32 ∷ signed_decimal v) ≡ word ∷ signed_decimal v ∷ []
one_value word v is fits = words-then word (signed_decimal v) is ∙ ap (λ rest. word ∷ rest) (words-alone (signed_decimal v) (value_is_word v fits))

two_values : (word : List ℕ) (k v : ℤ) → is_word word ≡ true → IsValue k → IsValue v
    → words (word ++ 32 ∷ (signed_decimal k ++ 32 ∷ signed_decimal v)) ≡ word ∷ signed_decimal k ∷ signed_decimal v ∷ []
two_values word k v is first second =
    words-then word (signed_decimal k ++ 32 ∷ signed_decimal v) is
    ∙ ap (λ rest. word ∷ rest) (one_value (signed_decimal k) v (value_is_word k first) second)

-- the text of an operation spells it
pub op_of-text : (op : Op) → HasValues op → op_of (words (op_text op)) ≡ Some op
op_of-text (Enq v) fits = rw (one_value (codes "enq") v refl fits, value_of-decimal v fits) refl
op_of-text Deq fits = rw (words-alone (codes "deq") refl) refl
op_of-text (Push v) fits = rw (one_value (codes "push") v refl fits, value_of-decimal v fits) refl
op_of-text Pop fits = rw (words-alone (codes "pop") refl) refl
op_of-text (PushL v) fits = rw (one_value (codes "pushl") v refl fits, value_of-decimal v fits) refl
op_of-text (PushR v) fits = rw (one_value (codes "pushr") v refl fits, value_of-decimal v fits) refl
op_of-text PopL fits = rw (words-alone (codes "popl") refl) refl
op_of-text PopR fits = rw (words-alone (codes "popr") refl) refl
op_of-text (Put k v) fits = rw (two_values (codes "put") k v refl fits.0 fits.1, value_of-decimal k fits.0, value_of-decimal v fits.1) refl
op_of-text (Del k) fits = rw (one_value (codes "del") k refl fits, value_of-decimal k fits) refl
op_of-text (Ins k) fits = rw (one_value (codes "ins") k refl fits, value_of-decimal k fits) refl
op_of-text DelMin fits = rw (words-alone (codes "delmin") refl) refl
