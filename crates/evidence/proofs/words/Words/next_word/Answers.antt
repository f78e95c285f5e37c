use Rattle.std.proofs.Common.{◌≡◌, sym, ◌∙◌}
use Rattle.evidence.specs.Reading.{words}
use Rattle.evidence.proofs.Cutting.{IsCutOff, cut_last, cut_then}
use Rattle.evidence.proofs.words.Words.next_word.Goals as goal
use Rattle.evidence.proofs.words.Words.next_word.Goals.{in-empty, in-len1-up}

pub returns : goal.returns
returns c =
    let cut : IsCutOff c.in_ok-line.line.now c.split_at.result.0.now c.split_at.result.1.now c.word_in_front.result = record {
      size_is = c.word_in_front.ensures.value;
      word_is = c.split_at.ensures.front;
      back_is = c.split_at.ensures.back;
    } in
    let held : words c.in_ok-line.line.now ≡ c.args.self.now = rw c.in_ok-line.was at c.self.view_is in
    elim c.if-after-lt1.branch [
      | in-empty w ↦ rw w.self-is (sym held ∙ cut_last _ _ _ _ cut w.in-empty.len_below)
      | in-len1-up w ↦ rw w.self-is (sym held ∙ cut_then _ _ _ _ cut w.in-len1-up.len_at_least)
    ]
