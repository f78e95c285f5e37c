-- The line ends at the first line feed.
use Rattle.std.proofs.Common.{◌≡◌, ◌+◌, ◌-◌, rules, arith, take, drop, length, length-drop}
use Rattle.std.proofs.lemmas.List.{take_all}
use Rattle.retro_io.specs.Lines.{without_return}
use Rattle.retro_run.proofs.AnswerLines.{first_line, last_line}
use Rattle.retro_run.proofs.follow.cut_line.Goals as goal

pub returns-then-at-text-clause-cut : goal.returns-then-at-text-clause-cut
returns-then-at-text-clause-cut c =
    let text = c.args.text.now in
    let at = c.line_size-at.result in
    let line : c.without_return.result.now ≡ without_return (take at text) = search rules in
    let rest : take (length text - (at + 1)) (drop (at + 1) text) ≡ drop (at + 1) text = take_all (length text - (at + 1)) (drop (at + 1) text) (omega (arith, length-drop (at + 1) text)) in
    rw (rest, line) (first_line text at c.line_size-at.ensures.value c.if-at-text.true)

pub returns-else-at-text-clause-cut : goal.returns-else-at-text-clause-cut
returns-else-at-text-clause-cut c =
    rw c.without_return-else-at-text.ensures (last_line c.args.text.now c.line_size-at.result c.line_size-at.ensures.value c.if-at-text.false c.requires)
