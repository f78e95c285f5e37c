use Rattle.std.proofs.Common.{sym}
use Rattle.evidence.proofs.NumberTexts.{number_is_text}
use Rattle.evidence.proofs.numbers.read_number.Goals as goal

pub returns-in-Err : goal.returns-in-Err
returns-in-Err c = sym (number_is_text c.args.word.now c.in-Err.ensures.cases.0)
