-- A line feed is held exactly where the search finds one.
use Rattle.std.proofs.Common.{◌∙◌}
use Rattle.retro_io.proofs.LineLemmas.{MarksLineFeed-has}
use Rattle.retro_io.specs.LineReader.{held}
use Rattle.retro_io.proofs.line_reader.LineReader.holds_line.Goals as goal

pub returns : goal.returns
returns g c = c.is_some.ensures ∙ MarksLineFeed-has c.line_feed.result (held c.args.self.now) c.line_feed.ensures
