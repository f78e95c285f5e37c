use Rattle.std.proofs.Common.{◌≡◌, ◌++◌, take, flat_map}
use Rattle.followers.specs.Mirrors.{key_text}
use Rattle.followers.proofs.mirror.print_each.Given as goal

abbrev pub invariant-loop-entry : goal.invariant-loop-entry
invariant-loop-entry l = l.out ≡ l.fn.out ++ flat_map key_text (take l.entry-index l.entries)
