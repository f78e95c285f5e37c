use Rattle.std.proofs.Common.{sym, ◌∙◌}
use Rattle.retro_base.specs.lemmas.EntrySteps.{found_at}
use Rattle.retro_base.proofs.entries.Entries.contains.Goals as goal

pub returns-in-Some : goal.returns-in-Some
returns-in-Some c =
    let found = found_at c.args.entry c.args.self.now c.place_of.result c.place_of.ensures.order c.place_of.ensures.before c.place_of.ensures.after in
    c.eq.ensures ∙ rw (sym c.get.ensures ∙ c.in-Some.is) at found

pub returns-in-None : goal.returns-in-None
returns-in-None c =
    let found = found_at c.args.entry c.args.self.now c.place_of.result c.place_of.ensures.order c.place_of.ensures.before c.place_of.ensures.after in
    rw (sym c.get.ensures ∙ c.in-None.is) at found
