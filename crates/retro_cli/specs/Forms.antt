-- The forms of the words of a command line.
use Rattle.std.specs.Prelude.{ℕ, Bool, false, ◌&&◌, is_some, ◌-◌, ◌^◌, List, [], ◌∷◌, codes, Option, Some, None, option_map, option_and_then, if◌then◌else◌}
use Rattle.std.specs.Str.{bytes_eq}
use Rattle.retro_base.specs.Name.{name_of}
use Rattle.script_grammar.specs.Command.{kind_of_word}
use Rattle.script_grammar.specs.Numbers.{natural_up_to}
use Rattle.retro_run.specs.Summary.{most_generated}
use Rattle.retro_cli.specs.declared.form.Form.{Form}
use Rattle.retro_cli.specs.declared.form.Form.TheVariants.{Run, Check, Gen}

-- `run`, or `check`
abbrev pub form_of_word : List ℕ → Option Form
form_of_word word =
    if bytes_eq word (codes "run") then Some Run
    else (if bytes_eq word (codes "check") then Some Check
    else None)

-- `gen KIND N START`, after its first word
abbrev pub generation : List ℕ → List ℕ → List ℕ → Option Form
generation kind lines start =
    option_and_then (λ k. option_and_then (λ n. option_map (Gen k n) (natural_up_to (2 ^ 64 - 1) start)) (natural_up_to most_generated lines)) (kind_of_word kind)

abbrev pub form_of_words : List ℕ → List ℕ → List ℕ → List ℕ → Option Form
form_of_words word kind lines start = if bytes_eq word (codes "gen") then generation kind lines start else None

-- the form of all words, if they have one
abbrev pub form_of : List (List ℕ) → Option Form
form_of [] = None
form_of (word ∷ []) = form_of_word word
form_of (word ∷ kind ∷ []) = None
form_of (word ∷ kind ∷ lines ∷ []) = None
form_of (word ∷ kind ∷ lines ∷ start ∷ []) = form_of_words word kind lines start
form_of (word ∷ kind ∷ lines ∷ start ∷ other ∷ more) = None

-- `follow` and `follow NAME`, which are forms of a followed run alone
abbrev pub is_follow : List (List ℕ) → Bool
is_follow [] = false
is_follow (word ∷ []) = bytes_eq word (codes "follow")
is_follow (word ∷ name ∷ []) = bytes_eq word (codes "follow") && is_some (name_of name)
is_follow (word ∷ name ∷ other ∷ more) = false
