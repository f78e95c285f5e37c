use Rattle.std.proofs.Common.{ap, ◌∙◌}
use Rattle.evidence.specs.Reading.{evidence_of, spelled_by}
use Rattle.evidence.proofs.Lines.{read, unread}
use Rattle.evidence.proofs.read.read_evidence.Goals as goal

pub returns-clause-spelled : goal.returns-clause-spelled
unfolding evidence_of
returns-clause-spelled c = read c.args.line.now c.read_words.result (c.read_words.ensures ∙ ap (λ all. spelled_by all) c.new.ensures)

pub returns-clause-none : goal.returns-clause-none
unfolding evidence_of
returns-clause-none c = unread c.args.line.now c.read_words.result (c.read_words.ensures ∙ ap (λ all. spelled_by all) c.new.ensures)
