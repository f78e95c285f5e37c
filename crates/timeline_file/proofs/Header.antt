-- The header of a saved timeline reads back.
use Rattle.std.proofs.Common.{◌≡◌, ℕ, ◌-◌, ◌<◌, ◌≤◌, ◌^◌, length, true, false, cond, not, ◌&&◌, nat_le, List, [], ◌∷◌, ◌++◌, decimal, refl, ap, ◌∙◌, arith, Option, Some, None, Ok}
use Rattle.std.specs.Prelude.{◌==◌, codes, option_and_then}
use Rattle.std.specs.List.{list_all}
use Rattle.std.proofs.lemmas.Bool.{eqb-true, le-leb}
use Rattle.retro_base.specs.declared.kind.Kind.{Kind}
use Rattle.retro_base.specs.declared.kind.Kind.TheVariants.{Queue, Stack, Deque, Dict, Pq}
use Rattle.retro_base.specs.Limits.{longest_name, most_rows, next_limit}
use Rattle.retro_base.specs.Name.{is_name, is_name_byte, is_reserved, starts_with_letter}
use Rattle.script_grammar.specs.declared.command.Command.TheVariants.{Header}
use Rattle.script_grammar.specs.Command.{command, kind_of_word}
use Rattle.script_grammar.specs.Numbers.{count_of, natural_of, next_of, time_of, up_to}
use Rattle.script_grammar.specs.SpellingLaws.{is_word, words-then, words-alone, decimal_is_word, time_of-decimal}
use Rattle.script_grammar.specs.Words.{is_filled, is_space, words}
use Rattle.timeline_file.specs.Saved.{count_text, header_text, kind_text, next_text}
use Rattle.retro_base.specs.Facts.{both_true}

-- a name is a word
no_space : (byte : ℕ) → is_name_byte byte ≡ true → not (is_space byte) ≡ true
no_space byte named =
    elim (byte == 32) as (λ b. (byte == 32) ≡ b → not b ≡ true) [
      | true ↦ λ is. let wrong : false ≡ true = rw (eqb-true byte 32 is) at named in absurd (cc)
      | false ↦ λ is. refl
    ] refl

no_spaces : (bytes : List ℕ) → list_all is_name_byte bytes ≡ true → list_all (λ byte. not (is_space byte)) bytes ≡ true
no_spaces [] all = refl
no_spaces (byte ∷ bytes) all =
    let parts = both_true (is_name_byte byte) (list_all is_name_byte bytes) all in
    rw (no_space byte parts.0) (no_spaces bytes parts.1)

filled : (bytes : List ℕ) → starts_with_letter bytes ≡ true → is_filled bytes ≡ true
filled [] starts = absurd (cc)
filled (byte ∷ bytes) starts = refl

name_is_word : (name : List ℕ) → is_name name ≡ true → is_word name ≡ true
unfolding is_name
name_is_word name named =
    let first = both_true (starts_with_letter name && nat_le (length name) longest_name && list_all is_name_byte name) (not (is_reserved name)) named in
    let second = both_true (starts_with_letter name && nat_le (length name) longest_name) (list_all is_name_byte name) first.0 in
    let third = both_true (starts_with_letter name) (nat_le (length name) longest_name) second.0 in
    rw (filled name third.0) (no_spaces name second.1)

-- the word of a kind
kind_is_word : (kind : Kind) → is_word (kind_text kind) ≡ true
kind_is_word Queue = refl
kind_is_word Stack = refl
kind_is_word Deque = refl
kind_is_word Dict = refl
kind_is_word Pq = refl

kind_read : (kind : Kind) → kind_of_word (kind_text kind) ≡ Some kind
kind_read Queue = refl
kind_read Stack = refl
kind_read Deque = refl
kind_read Dict = refl
kind_read Pq = refl

-- the number that is drawn next
natural_from : (most n : ℕ) (spelled : Option ℕ) → option_and_then (up_to most) spelled ≡ Some n → spelled ≡ Some n
natural_from most n None is = absurd (cc)
natural_from most n (Some m) is =
    elim (nat_le m most) as (λ b. cond b (Some m) None ≡ Some n → Some m ≡ Some n) [ true ↦ λ e. e | false ↦ λ e. absurd (cc) ] is

natural_read : (n : ℕ) → n < 2 ^ 64 → natural_of (decimal n) ≡ Some n
unfolding time_of
natural_read n small = natural_from (2 ^ 64 - 1) n (natural_of (decimal n)) (time_of-decimal n small)

next_read : (next : ℕ) → 1 ≤ next → next ≤ next_limit → next_of (decimal next) ≡ Some next
unfolding next_of
next_read next least most = rw (natural_read next (omega arith), le-leb 1 next least, le-leb next next_limit most) refl

-- the number of rows
count_read : (count : ℕ) → count ≤ most_rows → count_of (decimal count) ≡ Some count
unfolding count_of
count_read count few = rw (natural_read count (omega arith), le-leb count most_rows few) refl

header_words : (name : List ℕ) (kind : Kind) (next count : ℕ) → is_word name ≡ true → next < 2 ^ 64 → count < 2 ^ 64
    → words (header_text name kind next count) ≡ codes "timeline" ∷ name ∷ kind_text kind ∷ codes "next" ∷ decimal next ∷ codes "rows" ∷ decimal count ∷ []
header_words name kind next count named small few =
    words-then (codes "timeline") (name ++ 32 ∷ (kind_text kind ++ (next_text next ++ count_text count))) refl
    ∙ ap (λ rest. codes "timeline" ∷ rest) (words-then name (kind_text kind ++ (next_text next ++ count_text count)) named
    ∙ ap (λ rest. name ∷ rest) (words-then (kind_text kind) (codes "next " ++ (decimal next ++ count_text count)) (kind_is_word kind)
    ∙ ap (λ rest. kind_text kind ∷ rest) (words-then (codes "next") (decimal next ++ count_text count) refl
    ∙ ap (λ rest. codes "next" ∷ rest) (words-then (decimal next) (codes "rows " ++ decimal count) (decimal_is_word next small)
    ∙ ap (λ rest. decimal next ∷ rest) (words-then (codes "rows") (decimal count) refl
    ∙ ap (λ rest. codes "rows" ∷ rest) (words-alone (decimal count) (decimal_is_word count few)))))))

pub header_read : (name : List ℕ) (kind : Kind) (next count : ℕ) → is_name name ≡ true → 1 ≤ next → next ≤ next_limit → count ≤ most_rows
    → command (header_text name kind next count) ≡ Ok (Header name kind next (Some count))
unfolding command
header_read name kind next count named least most few =
    rw (
      header_words name kind next count (name_is_word name named) (omega arith) (omega arith),
      named,
      kind_read kind,
      next_read next least most,
      count_read count few,
    ) refl
