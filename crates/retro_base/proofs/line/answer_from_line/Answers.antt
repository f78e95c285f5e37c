use Rattle.std.proofs.Common.{inl, inr, refl, ap, sym, ◌∙◌, arith, rules}
use Rattle.std.specs.List.{slice_get}
use Rattle.std.proofs.lemmas.Int.{ints}
use Rattle.retro_base.specs.declared.question.Answer.TheVariants.{Number}
use Rattle.retro_base.specs.Answers.{answer_of, number_of}
use Rattle.retro_base.proofs.LineSteps.{about_the_first, about_the_last}
use Rattle.retro_base.proofs.line.answer_from_line.Goals as goal

pub returns-in-Size : goal.returns-in-Size
unfolding answer_of
returns-in-Size c = rw c.in-Size.is (ap (λ n. Number n) (omega (arith, ints)))

pub returns-in-Front : goal.returns-in-Front
returns-in-Front c = c.item_at.ensures ∙ sym (about_the_first _ _ c.in-Front.is)

pub returns-in-Back : goal.returns-in-Back
returns-in-Back c = c.item_at-in-Back.ensures ∙ ap (λ n. number_of (slice_get c.args.line.now.items n)) (search rules) ∙ sym (about_the_last _ _ c.in-Back.is)

pub returns-in-Nth : goal.returns-in-Nth
unfolding answer_of
returns-in-Nth c = rw c.in-Nth.is c.item_at-in-Nth.ensures

pub returns-in-Min : goal.returns-in-Min
unfolding answer_of
returns-in-Min c = elim c.in-Min.is [
  | inl e ↦ rw e refl
  | inr h ↦ elim h [
    | inl e ↦ rw e.1 refl
    | inr h ↦ elim h [
      | inl e ↦ rw e.1 refl
      | inr h ↦ elim h [
        | inl e ↦ rw e.1 refl
        | inr h ↦ elim h [ inl e ↦ rw e.2 refl | inr e ↦ rw e.2 refl ]
      ]
    ]
  ]
]
