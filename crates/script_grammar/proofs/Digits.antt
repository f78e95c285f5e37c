-- Reading a number digit by digit, up to a greatest one.
use Rattle.std.proofs.Common.{◌≡◌, ℕ, ◌+◌, ◌-◌, ◌*◌, ◌<◌, ◌≤◌, true, false, List, [], ◌∷◌, length, drop, get_or, eqb, leb, refl, sym, ◌∙◌, inl, inr, arith}
use Rattle.std.specs.Prelude.{Some, None, option_and_then}
use Rattle.std.proofs.lemmas.Bool.{and_from, cases_Bool, leb-false, lt-leb, le-leb}
use Rattle.std.proofs.lemmas.List.{at_drop_more, at_drop_all}
use Rattle.retro_base.specs.Name.{is_digit}
use Rattle.script_grammar.specs.Numbers.{natural_after, natural_of, up_to}

-- more digits make no smaller number
more_too_large : (most n d : ℕ) → up_to most n ≡ None → up_to most (10 * n + d) ≡ None
more_too_large most n d none = elim (cases_Bool (leb n most)) [
  | inl small ↦ let some : up_to most n ≡ Some n = rw small refl in cc
  | inr large ↦ let larger : leb (10 * n + d) most ≡ false = lt-leb (10 * n + d) most (omega (arith, leb-false n most large)) in rw larger refl
]

too_large : (most n : ℕ) (bytes : List ℕ) → up_to most n ≡ None → option_and_then (up_to most) (natural_after n bytes) ≡ None
too_large most n [] none = none
too_large most n (byte ∷ bytes) none = elim (cases_Bool (is_digit byte)) [
  | inl digit ↦ rw digit (too_large most (10 * n + (byte - 48)) bytes (more_too_large most n (byte - 48) none))
  | inr other ↦ rw other refl
]

natural_start : (bytes : List ℕ) → eqb (length bytes) 0 ≡ false → natural_of bytes ≡ natural_after 0 bytes
natural_start [] filled = cc
natural_start (byte ∷ bytes) filled = refl

pub digit_from_range : (byte : ℕ) → 48 ≤ byte → byte ≤ 57 → is_digit byte ≡ true
digit_from_range byte low high = and_from _ _ (le-leb 48 byte low) (le-leb byte 57 high)

-- a number that grows too large is none
pub stopped : (most : ℕ) (bytes : List ℕ) (i n : ℕ) → eqb (length bytes) 0 ≡ false → natural_after n (drop i bytes) ≡ natural_after 0 bytes → i < length bytes
    → is_digit (get_or bytes i 0) ≡ true → up_to most (10 * n + (get_or bytes i 0 - 48)) ≡ None → None ≡ option_and_then (up_to most) (natural_of bytes)
stopped most bytes i n filled so_far within digit none =
    let here : natural_after n (drop i bytes) ≡ natural_after n (get_or bytes i 0 ∷ drop (i + 1) bytes) = at_drop_more (natural_after n) bytes i 0 within in
    let next : natural_after n (get_or bytes i 0 ∷ drop (i + 1) bytes) ≡ natural_after (10 * n + (get_or bytes i 0 - 48)) (drop (i + 1) bytes) = rw digit refl in
    let whole : natural_of bytes ≡ natural_after (10 * n + (get_or bytes i 0 - 48)) (drop (i + 1) bytes) = natural_start bytes filled ∙ sym so_far ∙ here ∙ next in
    rw whole (sym (too_large most _ (drop (i + 1) bytes) none))

-- at the end the number is the one that was read
pub ended : (most : ℕ) (bytes : List ℕ) (i n : ℕ) → eqb (length bytes) 0 ≡ false → natural_after n (drop i bytes) ≡ natural_after 0 bytes → length bytes ≤ i → n
    ≤ most → Some n ≡ option_and_then (up_to most) (natural_of bytes)
ended most bytes i n filled so_far past small =
    let here : natural_after n (drop i bytes) ≡ Some n = at_drop_all (natural_after n) bytes i past in
    let whole : natural_of bytes ≡ Some n = natural_start bytes filled ∙ sym so_far ∙ here in
    rw whole (rw (le-leb n most small) refl)
