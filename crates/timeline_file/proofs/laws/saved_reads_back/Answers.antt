use Rattle.timeline_file.proofs.Reading.{reads_back}
use Rattle.timeline_file.proofs.laws.saved_reads_back.Goals as goal

pub returns : goal.returns
returns c = reads_back
