use Rattle.std.proofs.Common.{◌<◌, length}
use Rattle.std.specs.List.{AllByRecursion}
use Rattle.order_timeline.proofs.Filed.{FirstHave}
use Rattle.order_timeline.proofs.names.file_all.Given as goal

abbrev pub invariant-loop-place : goal.invariant-loop-place
invariant-loop-place l = FirstHave l.place l.names l.labels l.table × AllByRecursion (λ name. name < length l.table) l.names
