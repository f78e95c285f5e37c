use Rattle.std.proofs.Common.{inl, inr, refl, ap, ◌∙◌, arith, rules, w64, SFits}
use Rattle.std.proofs.lemmas.Int.{ints, to_z-of_z}
use Rattle.retro_base.specs.declared.question.Answer.TheVariants.{Number}
use Rattle.retro_base.specs.Answers.{answer_of, number_of, pair_of}
use Rattle.retro_base.proofs.pairs.answer_from_pairs.Goals as goal

pub returns-in-Size : goal.returns-in-Size
unfolding answer_of
returns-in-Size c = rw c.in-Size.is (ap (λ n. Number n) (omega (arith, ints)))

pub returns-in-Get : goal.returns-in-Get
unfolding answer_of
returns-in-Get c =
    let fits : SFits w64 c.in-Get.key = search rules in
    let found = simp to_z-of_z at c.get.ensures.value in
    rw c.in-Get.is (c.number_answer.ensures ∙ ap number_of found)

pub returns-in-Succ : goal.returns-in-Succ
unfolding answer_of
returns-in-Succ c =
    let fits : SFits w64 c.in-Succ.key = search rules in
    let found = simp to_z-of_z at c.least_from.ensures in
    rw c.in-Succ.is (c.pair_answer.ensures ∙ ap pair_of found)

pub returns-in-Pred : goal.returns-in-Pred
unfolding answer_of
returns-in-Pred c =
    let fits : SFits w64 c.in-Pred.key = search rules in
    let found = simp to_z-of_z at c.greatest_up_to.ensures in
    rw c.in-Pred.is (c.pair_answer-in-Pred.ensures ∙ ap pair_of found)

pub returns-in-Count : goal.returns-in-Count
unfolding answer_of
returns-in-Count c =
    let low_fits : SFits w64 c.in-Count.low = search rules in
    let high_fits : SFits w64 c.in-Count.high = search rules in
    let found = simp to_z-of_z at c.count_between.ensures in
    rw c.in-Count.is (ap (λ n. Number n) (omega (arith, ints, found)))

pub returns-in-Sum : goal.returns-in-Sum
unfolding answer_of
returns-in-Sum c =
    let low_fits : SFits w64 c.in-Sum.low = search rules in
    let high_fits : SFits w64 c.in-Sum.high = search rules in
    let found = simp to_z-of_z at c.sum_between.ensures in
    rw c.in-Sum.is (ap (λ n. Number n) (omega (arith, ints, found)))

pub returns-in-Front : goal.returns-in-Front
unfolding answer_of
returns-in-Front c = elim c.in-Front.is [
  | inl e ↦ rw e refl
  | inr h ↦ elim h [
    | inl e ↦ rw e refl
    | inr h ↦ elim h [
      | inl e ↦ rw e refl
      | inr h ↦ elim h [
        | inl e ↦ rw e refl
        | inr h ↦ elim h [
          | inl e ↦ rw e refl
          | inr h ↦ elim h [ inl e ↦ rw e refl | inr e ↦ rw e.1 refl ]
        ]
      ]
    ]
  ]
]
