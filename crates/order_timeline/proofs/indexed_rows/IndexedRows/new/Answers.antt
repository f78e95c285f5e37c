use Rattle.order_timeline.proofs.Pages.{nobody}
use Rattle.order_timeline.proofs.indexed_rows.IndexedRows.new.Goals as goal

pub returns-clause-kept : goal.returns-clause-kept
returns-clause-kept c = rw (c.new.ensures, c.new-2.ensures, c.new-3.ensures, c.new-4.ensures) nobody
