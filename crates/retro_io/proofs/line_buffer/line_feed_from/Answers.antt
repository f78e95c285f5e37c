-- The bytes searched are those after the first ones.
use Rattle.std.proofs.Common.{◌≡◌, ◌<◌, ◌-◌, ℕ, List, length, take, drop, ap, arith, length-drop}
use Rattle.std.proofs.lemmas.List.{take_all}
use Rattle.retro_io.proofs.LineLemmas.{unbroken_all, unbroken_before, splits_at}
use Rattle.retro_io.proofs.line_buffer.line_feed_from.Goals as goal

-- what was searched
searched : (bytes : List ℕ) (from : ℕ) → take (length bytes - from) (drop from bytes) ≡ drop from bytes
searched bytes from = take_all (length bytes - from) (drop from bytes) (omega (arith, length-drop from bytes))

pub returns-in-Some : goal.returns-in-Some
returns-in-Some c =
    let bytes = c.args.bytes.now in
    let is = searched bytes c.args.from in
    let found = c.in-Some.ensures in
    let low : c.in-Some.at < length (drop c.args.from bytes) = omega (arith, ap length is, found.0) in (
      omega (arith, low, length-drop c.args.from bytes),
      unbroken_before bytes c.args.from c.requires.within c.requires.clear _ is c.in-Some.at (omega (arith, found.0)) found.2,
      splits_at bytes c.args.from c.requires.within c.requires.clear _ is c.in-Some.at found.0 found.1,
    )

pub returns-in-None : goal.returns-in-None
returns-in-None c =
    unbroken_all c.args.bytes.now c.args.from c.requires.within c.requires.clear _ (searched c.args.bytes.now c.args.from) c.in-None.ensures
