use Rattle.std.proofs.Common.{ap, ◌∙◌}
use Rattle.script_grammar.specs.Words.{is_nil}
use Rattle.script_grammar.proofs.Cutting.{only_spaces}
use Rattle.script_grammar.proofs.words.Words.is_empty.Goals as goal

pub returns : goal.returns
returns c = c.are_spaces.ensures ∙ only_spaces c.self.inside.rest.now ∙ ap is_nil c.self.view_is
