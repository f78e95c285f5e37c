-- Less than all the bytes is a prefix of all but the last.
use Rattle.std.proofs.Common.{◌≤◌, ◌-◌, ◌++◌, length, drop, take, ap, sym, ◌∙◌, arith}
use Rattle.std.proofs.lemmas.List.{take-append-drop, take-take}
use Rattle.std.specs.Ffi.{without_last}
use Rattle.retro_io.specs.SinkLaws.{AppendsPrefixOf-from}
use Rattle.retro_io.proofs.sink.put_all.Goals as goal

pub returns-in-Err-clause-appended : goal.returns-in-Err-clause-appended
returns-in-Err-clause-appended g c =
    let bytes = c.args.bytes.now in
    let count = c.in-Err.«_count» in
    let short : count ≤ length bytes - 1 = omega (arith, c.in-Err.ensures.short) in (
      omega (arith, c.in-Err.ensures.short),
      AppendsPrefixOf-from _ _ (take count bytes) (drop count (without_last bytes)) _
          (sym (take-append-drop count (without_last bytes)) ∙ ap (λ xs. xs ++ drop count (without_last bytes)) (take-take count (length bytes - 1) bytes short))
          c.in-Err.ensures.appended,
    )
