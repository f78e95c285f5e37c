-- What holds of each command that a line spells.
use Rattle.std.proofs.Common.{◌≡◌, inl, inr, ℕ, ◌≤◌, nat_le, ◌&&◌, Bool, true, false, cond, refl, List, [], ◌∷◌}
use Rattle.std.specs.Prelude.{codes, Option, Some, None, option_map, option_and_then, Result, IfSome, IfOk}
use Rattle.std.specs.Option.{ok_or}
use Rattle.std.specs.Str.{bytes_eq}
use Rattle.retro_base.specs.declared.kind.Kind.{Kind}
use Rattle.retro_base.specs.declared.kind.Kind.TheVariants.{Pq}
use Rattle.script_grammar.specs.declared.command.Command.{Command}
use Rattle.script_grammar.specs.declared.command.Command.TheVariants.{New, Undo, Redo, Header}
use Rattle.script_grammar.specs.declared.command.LineError.{LineError}
use Rattle.script_grammar.specs.declared.command.LineError.TheVariants.{Syntax}
use Rattle.script_grammar.specs.declared.command.Spot.{Spot}
use Rattle.script_grammar.specs.Command.{IsProper, about, ask_at, ask_of, ask_then, change_of, command_of, delete_of, fate_of, header_count, header_end, header_kind}
use Rattle.script_grammar.specs.Command.{header_next, header_of, header_rows, insert_of, kind_of_word, move_at, move_of, move_time, mute_of, new_kind, new_of, save_of}
use Rattle.script_grammar.specs.Numbers.{between, count_of, natural_of, next_of}
use Rattle.script_grammar.specs.Operands.{alone}
use Rattle.retro_base.specs.Limits.{next_limit}
use Rattle.std.proofs.lemmas.Bool.{cases_Bool, leb-true}
use Rattle.retro_base.specs.Facts.{both_true}

module _ {X : Type 0} (P : X → Type 0) where
  chosen : (b : Bool) (o other : Option X) → IfSome o P → IfSome other P → IfSome (cond b o other) P
  chosen true o other first second = first
  chosen false o other first second = second

  last : (x : X) (rest : List (List ℕ)) → P x → IfSome (alone x rest) P
  last x [] holds = holds
  last x (word ∷ rest) holds = tt

  module _ {A : Type 0} where
    mapped : (f : A → X) (o : Option A) → ((a : A) → P (f a)) → IfSome (option_map f o) P
    mapped f None each = tt
    mapped f (Some a) each = each a

    chained : (f : A → Option X) (o : Option A) → ((a : A) → IfSome (f a) P) → IfSome (option_and_then f o) P
    chained f None each = tt
    chained f (Some a) each = each a

    chained_from : (Q : A → Type 0) (f : A → Option X) (o : Option A) → IfSome o Q → ((a : A) → Q a → IfSome (f a) P) → IfSome (option_and_then f o) P
    chained_from Q f None holds each = tt
    chained_from Q f (Some a) holds each = each a holds

new_kind_proper : (name : List ℕ) (rest : List (List ℕ)) → IfSome (new_kind name rest) IsProper
new_kind_proper name [] = tt
new_kind_proper name (word ∷ rest) =
    chosen IsProper (bytes_eq word (codes "pqf")) _ _ (last IsProper (New name Pq true) rest (λ fused. refl))
    (chained IsProper _ (kind_of_word word) (λ kind. last IsProper (New name kind false) rest (λ fused. absurd (cc))))

new_proper : (rest : List (List ℕ)) → IfSome (new_of rest) IsProper
new_proper [] = tt
new_proper (word ∷ rest) = search (chained, new_kind_proper)

insert_proper : (name word : List ℕ) (rest : List (List ℕ)) → IfSome (insert_of name word rest) IsProper
insert_proper name word [] = tt
insert_proper name word (place ∷ rest) = search (chained, mapped)

delete_proper : (name : List ℕ) (rest : List (List ℕ)) → IfSome (delete_of name rest) IsProper
delete_proper name [] = tt
delete_proper name (word ∷ rest) = search (chained, last)

move_time_proper : (name : List ℕ) (number : ℕ) (rest : List (List ℕ)) → IfSome (move_time name number rest) IsProper
move_time_proper name number [] = tt
move_time_proper name number (word ∷ rest) = search (chained, last)

move_at_proper : (name : List ℕ) (number : ℕ) (rest : List (List ℕ)) → IfSome (move_at name number rest) IsProper
move_at_proper name number [] = tt
move_at_proper name number (word ∷ rest) =
    chosen IsProper (bytes_eq word (codes "at")) (move_time name number rest) None (move_time_proper name number rest) tt

move_proper : (name : List ℕ) (rest : List (List ℕ)) → IfSome (move_of name rest) IsProper
move_proper name [] = tt
move_proper name (word ∷ rest) = search (chained, move_at_proper)

change_proper : (name : List ℕ) (rest : List (List ℕ)) → IfSome (change_of name rest) IsProper
change_proper name [] = tt
change_proper name (word ∷ rest) = search (chained, mapped)

fate_proper : (name : List ℕ) (rest : List (List ℕ)) → IfSome (fate_of name rest) IsProper
fate_proper name [] = tt
fate_proper name (word ∷ rest) = search (chained, last)

ask_at_proper : (name : List ℕ) (spot : Spot) (rest : List (List ℕ)) → IfSome (ask_at name spot rest) IsProper
ask_at_proper name spot [] = tt
ask_at_proper name spot (word ∷ rest) = search mapped

ask_then_proper : (name word : List ℕ) (rest : List (List ℕ)) → IfSome (ask_then name word rest) IsProper
ask_then_proper name word [] = tt
ask_then_proper name word (place ∷ rest) = search (chained, ask_at_proper)

ask_proper : (name : List ℕ) (rest : List (List ℕ)) → IfSome (ask_of name rest) IsProper
ask_proper name [] = tt
ask_proper name (word ∷ rest) = search (chosen, mapped, ask_then_proper)

about_proper : (name : List ℕ) (rest : List (List ℕ)) → IfSome (about name rest) IsProper
about_proper name [] = tt
about_proper name (word ∷ rest) =
    chosen IsProper (bytes_eq word (codes "ask")) _ _ (ask_proper name rest)
    (chosen IsProper (bytes_eq word (codes "delete")) _ _ (delete_proper name rest)
    (chosen IsProper (bytes_eq word (codes "move")) _ _ (move_proper name rest)
    (chosen IsProper (bytes_eq word (codes "change")) _ _ (change_proper name rest)
    (chosen IsProper (bytes_eq word (codes "fate")) _ _ (fate_proper name rest)
    (chosen IsProper (bytes_eq word (codes "undo")) _ _ (last IsProper (Undo name) rest tt)
    (chosen IsProper (bytes_eq word (codes "redo")) _ _ (last IsProper (Redo name) rest tt) (insert_proper name word rest)))))))

mute_proper : (rest : List (List ℕ)) → IfSome (mute_of rest) IsProper
mute_proper [] = tt
mute_proper (word ∷ rest) = search (chained, last)

save_proper : (rest : List (List ℕ)) → IfSome (save_of rest) IsProper
save_proper [] = tt
save_proper (word ∷ rest) = search (chained, last)

next_ranged : (o : Option ℕ) → IfSome (option_and_then (between 1 next_limit) o) (λ next. (1 ≤ next) × (next ≤ next_limit))
next_ranged None = tt
next_ranged (Some n) =
    elim (cases_Bool (nat_le 1 n && nat_le n next_limit)) [
      | inl within ↦ rw within (let parts = both_true (nat_le 1 n) (nat_le n next_limit) within in (leb-true 1 n parts.0, leb-true n next_limit parts.1))
      | inr outside ↦ rw outside tt
    ]

next_of_ranged : (word : List ℕ) → IfSome (next_of word) (λ next. (1 ≤ next) × (next ≤ next_limit))
unfolding next_of
next_of_ranged word = next_ranged (natural_of word)

header_count_proper : (name : List ℕ) (kind : Kind) (next : ℕ) (rest : List (List ℕ)) → (1 ≤ next) × (next ≤ next_limit)
    → IfSome (header_count name kind next rest) IsProper
header_count_proper name kind next [] ranged = tt
header_count_proper name kind next (word ∷ rest) ranged =
    chained IsProper _ (count_of word) (λ rows. last IsProper (Header name kind next (Some rows)) rest ranged)

header_rows_proper : (name : List ℕ) (kind : Kind) (next : ℕ) (rest : List (List ℕ)) → (1 ≤ next) × (next ≤ next_limit)
    → IfSome (header_rows name kind next rest) IsProper
header_rows_proper name kind next [] ranged = ranged
header_rows_proper name kind next (word ∷ rest) ranged =
    chosen IsProper (bytes_eq word (codes "rows")) (header_count name kind next rest) None (header_count_proper name kind next rest ranged) tt

header_next_proper : (name : List ℕ) (kind : Kind) (rest : List (List ℕ)) → IfSome (header_next name kind rest) IsProper
header_next_proper name kind [] = tt
header_next_proper name kind (word ∷ rest) =
    chained_from IsProper (λ next. (1 ≤ next) × (next ≤ next_limit)) _ (next_of word) (next_of_ranged word)
    (λ next ranged. header_rows_proper name kind next rest ranged)

header_end_proper : (name : List ℕ) (kind : Kind) (rest : List (List ℕ)) → IfSome (header_end name kind rest) IsProper
header_end_proper name kind [] = tt
header_end_proper name kind (word ∷ rest) =
    chosen IsProper (bytes_eq word (codes "next")) (header_next name kind rest) None (header_next_proper name kind rest) tt

header_kind_proper : (name : List ℕ) (rest : List (List ℕ)) → IfSome (header_kind name rest) IsProper
header_kind_proper name [] = tt
header_kind_proper name (word ∷ rest) =
    chained IsProper _ (kind_of_word word) (λ kind. header_end_proper name kind rest)

header_proper : (rest : List (List ℕ)) → IfSome (header_of rest) IsProper
header_proper [] = tt
header_proper (word ∷ rest) = search (chained, header_kind_proper)

command_proper : (spelled : List (List ℕ)) → IfSome (command_of spelled) IsProper
command_proper [] = tt
command_proper (word ∷ rest) = search (chosen, chained, new_proper, save_proper, header_proper, mute_proper, about_proper) depth 10

or_syntax : (o : Option Command) → IfSome o IsProper → IfOk (ok_or o Syntax) IsProper
or_syntax None holds = tt
or_syntax (Some command) holds = holds

-- the command that words spell, or `Syntax`
pub spelled_proper : (o : Option Command) (spelled : List (List ℕ)) (answer : Result Command LineError) → o ≡ command_of spelled → answer ≡ ok_or o Syntax → IfOk answer IsProper
spelled_proper o spelled answer read is = rw is (or_syntax o (rw read (command_proper spelled)))
