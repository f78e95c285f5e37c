use Rattle.std.proofs.Common.{◌≡◌, [], sym, ◌∙◌}
use Rattle.script_grammar.specs.Words.{words}
use Rattle.script_grammar.proofs.Cutting.{IsCutOff, cut_off_none, cut_off_some}
use Rattle.script_grammar.proofs.words.Words.next_word.Goals as goal
use Rattle.script_grammar.proofs.words.Words.next_word.Goals.{then-is_empty, else-is_empty}

pub returns : goal.returns
returns c =
    let cut : IsCutOff c.self.inside.rest.now c.split_at.result.0.now c.split_at.result.1.now c.spaces_in_front.result c.word_in_front.result = record {
      start_is = c.spaces_in_front.ensures.value;
      size_is = c.word_in_front.ensures.value;
      word_is = c.split_at.ensures.front;
      rest_is = c.split_at.ensures.back;
    } in
    elim c.if-is_empty.branch [
      | then-is_empty w ↦
          let none : (words c.self.inside.rest.now ≡ []) × (words c.split_at.result.1.now ≡ []) =
          cut_off_none _ _ _ _ _ cut (sym c.is_empty.ensures ∙ w.if-is_empty.true) in
          rw w.result-is (sym c.self.view_is ∙ none.0, none.1)
      | else-is_empty w ↦
          rw w.result-is (sym c.self.view_is ∙ cut_off_some _ _ _ _ _ cut (sym c.is_empty.ensures ∙ w.if-is_empty.false))
    ]
