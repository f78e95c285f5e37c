-- A word is read as a number exactly where it is the text of one.
use Rattle.std.proofs.Common.{◌≡◌, ◌≢◌, ℕ, suc, ◌<◌, ◌^◌, ℤ, pos, negsuc, Bool, true, false, cond, List, [], ◌∷◌, decimal, refl, sym, ap, ◌∙◌, arith, Some, None, Result, Ok, Err, w64}
use Rattle.std.specs.Prelude.{FitsSigned}
use Rattle.std.specs.Fmt.{signed_decimal}
use Rattle.std.specs.Bool.{then_some}
use Rattle.std.specs.Str.{bytes_eq, IsAscii, IsUtf8}
use Rattle.std.specs.Str.Parse.{digits_value, IsNumeral, ParsesSigned}
use Rattle.std.proofs.lemmas.Bool.{lt-ltb, ltb-true, ne_eqb}
use Rattle.std.proofs.lemmas.Fmt.{decimal_is_IsNumeral, IsAscii-decimal, IsAscii-signed, parse-signed_decimal}
use Rattle.std.proofs.lemmas.Str.{IsUtf8-from_ascii}
use Rattle.std.proofs.lemmas.Slice.Eq.{bytes_eq-Decides}
use Rattle.evidence.specs.Evidence.{IsValue}
use Rattle.evidence.specs.Reading.{number_of, key_of, is_value, value_after_sign}
use Rattle.std.specs.Int.{IsInRange}
use Rattle.std.proofs.lemmas.Str.Parse.{digit_from_value}
use Rattle.retro_base.specs.Facts.{both_true}

-- a choice by a test
chosen : {X : Type 0} (test : Bool) (x y : X) → cond test (Some x) None ≡ Some y → (test ≡ true) × (x ≡ y)
chosen true x y h = (refl, cc)
chosen false x y h = absurd (cc)

pub number_read : (n : ℕ) → n < 2 ^ 32 → number_of (decimal n) ≡ Some n
unfolding number_of
number_read n small =
    let same : digits_value 10 (decimal n) ≡ n = (decimal_is_IsNumeral n (omega arith)).1 in
    rw (same, (bytes_eq-Decides (decimal n) (decimal n)).1 refl, lt-ltb n 4294967296 small) refl

pub number_found : (word : List ℕ) (n : ℕ) → number_of word ≡ Some n → (word ≡ decimal n) × (n < 2 ^ 32)
unfolding number_of
number_found word n found =
    let parts = chosen _ _ n found in
    let tests = both_true _ _ parts.0 in (
      sym ((bytes_eq-Decides (decimal (digits_value 10 word)) word).0 tests.0) ∙ ap (λ m. decimal m) parts.1,
      let small : digits_value 10 word < 4294967296 = ltb-true _ _ tests.1 in omega (arith, parts.1),
    )

pub no_number : (word : List ℕ) → ((n : ℕ) → n < 2 ^ 32 → word ≢ decimal n) → number_of word ≡ None
no_number word none =
    elim (number_of word) as (λ o. number_of word ≡ o → o ≡ None) [
      | None ↦ λ e. refl
      | Some n ↦ λ e. absurd (none n (number_found word n e).1 (number_found word n e).0)
    ] refl

fits : (v : ℤ) → IsValue v → is_value v ≡ true
fits (pos n) small = lt-ltb n 9223372036854775808 small
fits (negsuc n) small = lt-ltb n 9223372036854775808 small

fits_back : (v : ℤ) → is_value v ≡ true → IsValue v
fits_back (pos n) is = ltb-true n 9223372036854775808 is
fits_back (negsuc n) is = ltb-true n 9223372036854775808 is

without_sign : (digits : List ℕ) → IsNumeral 10 digits → value_after_sign digits ≡ pos (digits_value 10 digits)
without_sign [] is = refl
without_sign (first ∷ digits) is =
    let range : IsInRange 48 57 first = digit_from_value first is.1.0 in
    rw (ne_eqb first 45 (λ same. omega arith)) refl

value_of_text : (v : ℤ) → IsValue v → value_after_sign (signed_decimal v) ≡ v
value_of_text (pos n) small =
    let text = decimal_is_IsNumeral n (omega arith) in
    without_sign (decimal n) text.0 ∙ ap (λ m. pos m) text.1
value_of_text (negsuc n) small =
    let text = decimal_is_IsNumeral (suc n) (omega arith) in
    rw text.1 refl

pub key_read : (v : ℤ) → IsValue v → key_of (signed_decimal v) ≡ Some v
unfolding key_of
key_read v small = rw (value_of_text v small, (bytes_eq-Decides (signed_decimal v) (signed_decimal v)).1 refl, fits v small) refl

pub key_found : (word : List ℕ) (v : ℤ) → key_of word ≡ Some v → (word ≡ signed_decimal v) × IsValue v
unfolding key_of
key_found word v found =
    let parts = chosen _ _ v found in
    let tests = both_true _ _ parts.0 in (
      sym ((bytes_eq-Decides (signed_decimal (value_after_sign word)) word).0 tests.0) ∙ ap (λ m. signed_decimal m) parts.1,
      let small : IsValue (value_after_sign word) = fits_back _ tests.1 in rw parts.1 at small,
    )

pub no_key : (word : List ℕ) → ((v : ℤ) → IsValue v → word ≢ signed_decimal v) → key_of word ≡ None
no_key word none =
    elim (key_of word) as (λ o. key_of word ≡ o → o ≡ None) [
      | None ↦ λ e. refl
      | Some v ↦ λ e. absurd (none v (key_found word v e).1 (key_found word v e).0)
    ] refl

-- the number that was parsed is the one that is read where its text is the word; any text of a number is parsed
pub number_parsed : (word shown : List ℕ) (n : ℕ) (test : Bool) → n < 2 ^ 32 → shown ≡ decimal n → test ≡ bytes_eq shown word
    → ((m : ℕ) → m < 2 ^ 32 → word ≡ decimal m → n ≡ m) → then_some test n ≡ number_of word
number_parsed word shown n true small text same parsed =
    let equal : shown ≡ word = (bytes_eq-Decides shown word).0 (sym same) in
    sym (ap (λ w. number_of w) (sym equal ∙ text) ∙ number_read n small)
number_parsed word shown n false small text same parsed =
    sym (no_number word (λ m fits spelled.
    let one : n ≡ m = parsed m fits spelled in
    let equal : shown ≡ word = text ∙ ap (λ k. decimal k) one ∙ sym spelled in
    let is : bytes_eq shown word ≡ true = (bytes_eq-Decides shown word).1 equal in
    let wrong : false ≡ true = same ∙ is in absurd (cc)))

pub key_parsed : (word shown : List ℕ) (v : ℤ) (test : Bool) → IsValue v → shown ≡ signed_decimal v → test ≡ bytes_eq shown word
    → ((w : ℤ) → IsValue w → word ≡ signed_decimal w → v ≡ w) → then_some test v ≡ key_of word
key_parsed word shown v true small text same parsed =
    let equal : shown ≡ word = (bytes_eq-Decides shown word).0 (sym same) in
    sym (ap (λ w. key_of w) (sym equal ∙ text) ∙ key_read v small)
key_parsed word shown v false small text same parsed =
    sym (no_key word (λ w fits spelled.
    let one : v ≡ w = parsed w fits spelled in
    let equal : shown ≡ word = text ∙ ap (λ k. signed_decimal k) one ∙ sym spelled in
    let is : bytes_eq shown word ≡ true = (bytes_eq-Decides shown word).1 equal in
    let wrong : false ≡ true = same ∙ is in absurd (cc)))

-- the text of a number is text
pub number_is_text : (word : List ℕ) → ¬ IsUtf8 word → number_of word ≡ None
number_is_text word not_text = no_number word (λ n small spelled. not_text (rw spelled (IsUtf8-from_ascii (decimal n) (IsAscii-decimal n (omega arith)))))

value_ascii : (v : ℤ) → IsValue v → IsAscii (signed_decimal v)
value_ascii (pos n) small = IsAscii-signed (pos n) small
value_ascii (negsuc n) small = IsAscii-signed (negsuc n) small

pub key_is_text : (word : List ℕ) → ¬ IsUtf8 word → key_of word ≡ None
key_is_text word not_text = no_key word (λ v small spelled. not_text (rw spelled (IsUtf8-from_ascii (signed_decimal v) (value_ascii v small))))

fits_signed : (v : ℤ) → IsValue v → FitsSigned w64 v
fits_signed (pos n) small = record { sfits = small }
fits_signed (negsuc n) small = record { sfits = small }

pub value_fits : (v : ℤ) → FitsSigned w64 v → IsValue v
value_fits (pos n) fits = fits.sfits
value_fits (negsuc n) fits = fits.sfits

-- the text of a value is parsed, and what is parsed is a value
pub key_text_parsed : {E : Type 0} (word : List ℕ) (v : ℤ) (r : Result ℤ E) → IsValue v → word ≡ signed_decimal v → ParsesSigned w64 10 word r → r ≡ Ok v
key_text_parsed word (pos n) r small spelled parses = parse-signed_decimal w64 (pos n) word r (fits_signed (pos n) small) small spelled parses
key_text_parsed word (negsuc n) r small spelled parses = parse-signed_decimal w64 (negsuc n) word r (fits_signed (negsuc n) small) small spelled parses

pub parsed_fits : {E : Type 0} (word : List ℕ) (v : ℤ) (r : Result ℤ E) → ParsesSigned w64 10 word r → r ≡ Ok v → FitsSigned w64 v
parsed_fits word v (Ok w) parses is =
    let same : w ≡ v = cc in
    rw (← same, parses.1) parses.0.1
parsed_fits word v (Err e) parses is = absurd (cc)
