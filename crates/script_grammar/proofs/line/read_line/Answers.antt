use Rattle.std.proofs.Common.{rules}
use Rattle.script_grammar.proofs.Proper.{spelled_proper}
use Rattle.script_grammar.proofs.line.read_line.Goals as goal

pub returns-clause-proper : goal.returns-clause-proper
returns-clause-proper c = search (rules, spelled_proper)
