use Rattle.std.proofs.Common.{◌≡◌, ◌-◌, ◌^◌, ap, ◌∙◌, arith}
use Rattle.order_labels.specs.LabelLaws.{least_insertions}
use Rattle.order_labels.specs.RareLaws.{least-number}
use Rattle.retro_dictionary.proofs.RareRows.{shifted}
use Rattle.retro_dictionary.proofs.free_label.owed.Goals as goal

pub returns : goal.returns
returns c =
    let same : c.saturating_sub.result ≡ least_insertions - 1 - c.args.so_far = omega (arith, least-number, c.saturating_sub.ensures) in
    shifted c.saturating_sub.result (omega (arith, c.saturating_sub.ensures)) ∙ ap (λ k. 2 ^ k) same
