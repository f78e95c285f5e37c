-- Labels that are spread can be halved often.
use Rattle.std.proofs.Common.{◌≡◌, ℕ, ◌+◌, ◌-◌, ◌*◌, ◌/◌, ◌^◌, true, List, subst, arith}
use Rattle.std.proofs.lemmas.Bool.{le-leb}
use Rattle.std.proofs.lemmas.Nat.{pow_pos}
use Rattle.retro_base.specs.Limits.{most_rows}
use Rattle.order_labels.specs.Labels.{AreApart, label_before, label_after, label_limit, has_room, middle, middle_rule, exponent, gap_of, spread}
use Rattle.order_labels.specs.LabelLaws.{RelabellingIsRare}
use Rattle.order_labels.specs.ApartLaws.{gap_at, apart_without}
use Rattle.order_labels.specs.PowerLaws.{power-next}
use Rattle.order_labels.specs.RareLaws.{Lasting, rare_by}
use Rattle.order_labels.specs.SpreadLaws.{exponent-falls, spread-apart}
use Rattle.order_labels.proofs.Rule.{halved}

-- where labels lie 2 ^ k apart, they last for k insertions
abbrev LieApart : ℕ → List ℕ → Type 0
LieApart k labels = AreApart (2 ^ k) 0 label_limit labels

lasting : Lasting middle_rule LieApart
lasting = record {
  with_row = λ k labels place within apart.
      let wide : AreApart (2 * 2 ^ k) 0 label_limit labels = subst (λ d. AreApart d 0 label_limit labels) (power-next k) apart in
      let room : has_room labels place ≡ true = le-leb 2 (label_after label_limit labels place - label_before 0 labels place) (omega (arith, gap_at (2 * 2 ^ k) 0 label_limit labels place within wide, pow_pos k)) in
      (middle labels place, simp room, halved (2 ^ k) labels place within wide);
  without_row = λ k labels place within apart. apart_without (2 ^ k) 0 label_limit labels place within apart;
}

pub rare : RelabellingIsRare middle_rule
unfolding gap_of
rare count edits last few ends =
    let k = exponent (label_limit / (count + 1)) in
    omega (arith, exponent-falls count most_rows few, rare_by middle_rule LieApart lasting k (spread count) edits last (spread-apart count (omega arith)) ends)
