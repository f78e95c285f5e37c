use Rattle.std.proofs.Common.{◌≡◌, ◌≤◌, length, sym, ap, ◌∙◌, rules}
use Rattle.std.proofs.lemmas.Result.{IfOk-weaker}
use Rattle.retro_base.specs.State.{pairs}
use Rattle.retro_base.specs.declared.kind.Kind.TheVariants.{Dict}
use Rattle.retro_base.specs.Answers.{content}
use Rattle.retro_base.specs.Replay.{state_at}
use Rattle.retro_dictionary.proofs.AskedPast.{there}
use Rattle.retro_dictionary.proofs.dictionary.RetroDictionaryRetro.all.Goals as goal

pub returns-clause-content : goal.returns-clause-content
returns-clause-content c =
    let within : c.args.place ≤ length c.self.inside.kept.rows = search rules in
    let at = there c.self.inside.kept.rows c.self.inside.kept.labels c.self.inside.kept.index c.self.inside.kept.segments c.args.place c.self.invariant within in
    let state : state_at Dict c.args.self.now c.args.place ≡ pairs at.left = sym (ap (λ rows. state_at Dict rows c.args.place) c.self.view_is) ∙ at.state in
    IfOk-weaker c.list_at.result _ _ (λ listing is. is ∙ ap (λ ps. content (pairs ps)) at.are ∙ sym (ap content state)) c.list_at.ensures
