-- The words handed on so far, and those to come, are the words after the program's name.
use Rattle.std.proofs.Common.{◌≡◌, ◌++◌, map}
use Rattle.std.specs.Prelude.{string_bytes}
use Rattle.std.specs.Vec.Iter.{into_iter_items}
use Rattle.retro.specs.Words.{words_after_name}
use Rattle.retro.proofs.words_of.Given as goal

abbrev pub invariant-loop-word : goal.invariant-loop-word
invariant-loop-word l =
    l.words ++ map (λ word. string_bytes word) (into_iter_items l.word-iterator) ≡ words_after_name l.fn.args
