-- The words of the command line, and the exit status where they cannot be had.
use Rattle.std.specs.Prelude.{ℕ, List, drop, map, string_bytes}
use Rattle.std.specs.Vec.Iter.{into_iter_items}
use Rattle.std.specs.declared.string.String.{String}
use Rattle.std.specs.declared.vec.IntoIter.{IntoIter}

-- the bytes of the words after the program's name
abbrev pub words_after_name : {A B : Type 0} → IntoIter (String A) B → List (List ℕ)
words_after_name args = drop 1 (map (λ word. string_bytes word) (into_iter_items args))

-- the exit status where the system refuses the words for another cause than memory; no run ends with it
abbrev pub words_refused : ℕ
words_refused = 7
