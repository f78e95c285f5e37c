-- A key that was broken off breaks off the whole.
use Rattle.std.proofs.Common.{rules, flat_map, pos}
use Rattle.std.proofs.lemmas.Option.{slice_get-get_or}
use Rattle.retro_base.specs.Text.{AppendsPrefix}
use Rattle.retro_base.specs.TextLaws.{stopped}
use Rattle.followers.specs.Mirrors.{key_text}
use Rattle.followers.proofs.mirror.print_each.Goals as goal

pub returns-in_err-print_key-clause-err : goal.returns-in_err-print_key-clause-err
returns-in_err-print_key-clause-err c =
    let entries = c.args.entries.now in
    let place = c.loop-entry.entry-index in
    let part : AppendsPrefix c.args.out.now c.print_key.new.out (flat_map key_text entries) =
    stopped key_text c.args.out.now c.loop-entry.out c.print_key.new.out entries place _ c.loop-entry.invariant
    (slice_get-get_or entries place (record { key = pos 0; number = 0 }) (search rules)) c.in_err-print_key.ensures.err in
    search rules
