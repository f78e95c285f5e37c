use Rattle.script_laws.proofs.SavedText.{text_reads_back}
use Rattle.script_laws.proofs.laws.saved_text_reads_back.Goals as goal

pub returns : goal.returns
returns c = text_reads_back c.saved_reads_back.ensures
