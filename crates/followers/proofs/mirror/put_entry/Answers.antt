use Rattle.std.proofs.Common.{◌≡◌, ◌∙◌, rules, to_z-of_z}
use Rattle.std.specs.List.{position_or_len}
use Rattle.retro_base.specs.State.{comes_before}
use Rattle.followers.proofs.Placed.{put_at}
use Rattle.followers.proofs.mirror.put_entry.Goals as goal

pub returns-clause-ok : goal.returns-clause-ok
returns-clause-ok c =
    let place : c.place_for-place.result ≡ position_or_len (λ held. comes_before c.args.entry held) c.args.entries.now.items = search (rules, to_z-of_z) in
    c.in_ok-insert.ensures.items ∙ rw place (put_at c.args.entry c.args.entries.now.items)
