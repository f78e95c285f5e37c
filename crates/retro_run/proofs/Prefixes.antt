-- First parts of a text that are not all of it.
use Rattle.std.proofs.Common.{◌≡◌, ℕ, ◌+◌, ◌-◌, ◌<◌, List, ◌++◌, length, take, drop, arith, sym, ap, ◌∙◌, append_assoc, length-append, length-drop, Option}
use Rattle.std.specs.Ffi.{without_last}
use Rattle.std.proofs.Math.Seq.{take-append_seam}
use Rattle.std.proofs.lemmas.List.{take-append-drop, take-take}
use Rattle.retro_io.specs.Sink.{Appends, AppendsPrefixOf, AppendsProperPrefix}
use Rattle.retro_io.specs.SinkLaws.{Appends-append, AppendsPrefixOf-from, AppendsPrefixOf-parts}

-- a prefix that is not the whole is one of all but the last
before_last : (all prefix rest : List ℕ) → all ≡ prefix ++ rest → 0 < length rest
    → without_last all ≡ prefix ++ drop (length prefix) (without_last all)
before_last all prefix rest whole some =
    let size : length all ≡ length prefix + length rest = ap length whole ∙ length-append prefix rest in
    let same : take (length prefix) all ≡ prefix =
    ap (take (length prefix)) whole ∙ take-append_seam prefix rest in
    sym (take-append-drop (length prefix) (without_last all))
    ∙ ap (λ xs. xs ++ drop (length prefix) (without_last all)) (take-take (length prefix) (length all - 1) all (omega arith) ∙ same)

-- a prefix of an answer that is not all of it, after the answers so far, is one of all
pub prefix_between : (first written written' : Option (List ℕ)) (so_far answer later all : List ℕ) → all ≡ (so_far ++ answer) ++ later
    → Appends first so_far written → AppendsProperPrefix written answer written' → AppendsProperPrefix first all written'
prefix_between first written written' so_far answer later all whole before part =
    let parts = AppendsPrefixOf-parts written (without_last answer) written' part.1 in
    let last = drop (length answer - 1) answer in
    let answer_is : answer ≡ parts.0 ++ (parts.1 ++ last) =
    sym (take-append-drop (length answer - 1) answer) ∙ ap (λ xs. xs ++ last) parts.2 ∙ append_assoc parts.0 parts.1 last in
    let rest = (parts.1 ++ last) ++ later in
    let all_is : all ≡ (so_far ++ parts.0) ++ rest =
    whole ∙ ap (λ xs. (so_far ++ xs) ++ later) answer_is ∙ ap (λ xs. xs ++ later) (sym (append_assoc so_far parts.0 (parts.1 ++ last)))
    ∙ append_assoc (so_far ++ parts.0) (parts.1 ++ last) later in
    let one : 0 < length last = omega (arith, length-drop (length answer - 1) answer, part.0) in
    let some : 0 < length rest = omega (arith, one, length-append parts.1 last, length-append (parts.1 ++ last) later) in (
      omega (arith, ap length all_is, length-append (so_far ++ parts.0) rest, some),
      AppendsPrefixOf-from first (without_last all) (so_far ++ parts.0) _ written' (before_last all (so_far ++ parts.0) rest all_is some)
          (Appends-append first written written' so_far parts.0 before parts.3),
    )

-- a prefix that is not all of it is one
pub prefix_of_part : (all : List ℕ) (before after : Option (List ℕ)) → AppendsProperPrefix before all after → AppendsPrefixOf before all after
prefix_of_part all before after part =
    let parts = AppendsPrefixOf-parts before (without_last all) after part.1 in
    let last = drop (length all - 1) all in
    AppendsPrefixOf-from before all parts.0 (parts.1 ++ last) after
    (sym (take-append-drop (length all - 1) all) ∙ ap (λ xs. xs ++ last) parts.2 ∙ append_assoc parts.0 parts.1 last) parts.3
