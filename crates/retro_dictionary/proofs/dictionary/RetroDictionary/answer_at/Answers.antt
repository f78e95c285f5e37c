use Rattle.std.proofs.Common.{◌≡◌, ◌≤◌, length, sym, ap, ◌∙◌, rules}
use Rattle.std.proofs.lemmas.Int.{to_z-of_z}
use Rattle.retro_base.specs.declared.kind.Kind.TheVariants.{Dict}
use Rattle.retro_base.specs.declared.question.Question.TheVariants.{Get}
use Rattle.retro_base.specs.Answers.{answer_of, number_of}
use Rattle.retro_base.specs.Replay.{state_at}
use Rattle.retro_dictionary.specs.Asked.{answer_from, found_at, range_of, value_at}
use Rattle.retro_dictionary.proofs.AskedPast.{answers-found, got}
use Rattle.retro_dictionary.proofs.dictionary.RetroDictionary.answer_at.Goals as goal

pub returns : goal.returns
returns c =
    let within : c.args.place ≤ length c.self.inside.kept.rows = search rules in
    let found : c.found_at-found.result ≡ found_at c.self.inside.kept.labels c.self.inside.kept.segments c.args.place (range_of c.args.question) = search rules in
    c.answer_from.ensures ∙ ap (answer_from c.args.question) found
    ∙ sym (answers-found c.self.inside.kept.rows c.self.inside.kept.labels c.self.inside.kept.index c.self.inside.kept.segments c.args.place c.args.question c.self.invariant within)
    ∙ ap (λ rows. answer_of (state_at Dict rows c.args.place) c.args.question) c.self.view_is

pub returns-in-Get : goal.returns-in-Get
returns-in-Get c =
    let within : c.args.place ≤ length c.self.inside.kept.rows = search rules in
    let value : c.value_at.result ≡ value_at c.self.inside.kept.labels c.self.inside.kept.index c.args.place c.in-Get.key = search (rules, to_z-of_z) in
    c.number_of.ensures ∙ ap number_of value
    ∙ sym (got c.self.inside.kept.rows c.self.inside.kept.labels c.self.inside.kept.index c.self.inside.kept.segments c.args.place c.self.invariant within c.in-Get.key)
    ∙ ap (λ rows. answer_of (state_at Dict rows c.args.place) (Get c.in-Get.key)) c.self.view_is
    ∙ ap (answer_of (state_at Dict c.args.self.now c.args.place)) (sym c.in-Get.is)
