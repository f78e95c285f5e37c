use Rattle.std.proofs.Common.{◌∙◌, arith, rules}
use Rattle.retro_dictionary.proofs.RecentRead.{recent_read}
use Rattle.retro_dictionary.proofs.recent.recent_beside.Goals as goal

pub returns : goal.returns
returns c =
    c.recent_in.ensures
    ∙ recent_read c.args.number c.args.rows.now c.args.place c.min-count.result c.read.result c.read.new.items (omega (arith, c.requires.within, c.len.ensures, c.if-place-len.false)) c.min-count.ensures
    c.read.ensures.count (c.read.ensures.items (λ row. row.number) (λ row answer call. search rules))
