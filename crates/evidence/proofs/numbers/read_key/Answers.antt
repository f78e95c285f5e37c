use Rattle.std.proofs.Common.{sym}
use Rattle.evidence.proofs.NumberTexts.{key_is_text}
use Rattle.evidence.proofs.numbers.read_key.Goals as goal

pub returns-in-Err : goal.returns-in-Err
returns-in-Err c = sym (key_is_text c.args.word.now c.in-Err.ensures.cases.0)
