use Rattle.std.proofs.Common.{◌≡◌, ap, sym, ◌∙◌, position, rules, to_z-of_z}
use Rattle.retro_base.specs.Bridges.{same_entry}
use Rattle.followers.proofs.Placed.{left_at, take_at}
use Rattle.followers.proofs.mirror.take_entry.Goals as goal

pub returns-in-Some : goal.returns-in-Some
returns-in-Some c =
    let place : c.place_of.result ≡ position (λ held. same_entry c.args.entry held) c.args.entries.now.items = search (rules, to_z-of_z) in
    c.remove.ensures.items ∙ ap (left_at c.args.entries.now.items) (sym c.in-Some.is ∙ place) ∙ take_at c.args.entry c.args.entries.now.items

pub returns-in_default : goal.returns-in_default
returns-in_default c =
    let place : c.place_of.result ≡ position (λ held. same_entry c.args.entry held) c.args.entries.now.items = search (rules, to_z-of_z) in
    ap (left_at c.args.entries.now.items) (sym c.in_default.is ∙ place) ∙ take_at c.args.entry c.args.entries.now.items
