use Rattle.std.proofs.Common.{Some, ◌∙◌, ap, rules, subst}
use Rattle.prefix_trees.specs.Asked.{AsksOf}
use Rattle.prefix_trees.proofs.LineAnswers.{answered-size, answered-item, answered-nothing}
use Rattle.prefix_trees.proofs.sequence.ask_sequence.Goals as goal

pub returns-in-Size-clause-answer : goal.returns-in-Size-clause-answer
returns-in-Size-clause-answer g c =
    answered-size g.S.Sequence.kind c.args.rows.now g.met.S.Sequence.is_line c.requires.replayable c.args.place c.size_at-size.result c.args.question _
    c.requires.within c.size_at-size.ensures.size (subst (AsksOf c.args.question c.size_at-size.result) c.in-Size.is c.asked_of.ensures) (search rules)

pub returns-in-Item-clause-answer : goal.returns-in-Item-clause-answer
returns-in-Item-clause-answer g c =
    answered-item g.S.Sequence.kind c.args.rows.now g.met.S.Sequence.is_line c.requires.replayable c.args.place c.size_at-size.result c.in-Item.index c.args.question _
    c.requires.within c.size_at-size.ensures.size (subst (AsksOf c.args.question c.size_at-size.result) c.in-Item.is c.asked_of.ensures)
    (λ line at. c.item_at.ensures.item line at ∙ ap Some (search rules))

pub returns-in-Nothing-clause-answer : goal.returns-in-Nothing-clause-answer
returns-in-Nothing-clause-answer g c =
    answered-nothing g.S.Sequence.kind c.args.rows.now g.met.S.Sequence.is_line c.requires.replayable c.args.place c.size_at-size.result c.args.question
    c.requires.within c.size_at-size.ensures.size (subst (AsksOf c.args.question c.size_at-size.result) c.in-Nothing.is c.asked_of.ensures)
