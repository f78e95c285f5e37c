use Rattle.std.proofs.Common.{◌≡◌, [], ◌∙◌, arith, rules, refl}
use Rattle.retro_base.specs.Text.{AppendsPrefix}
use Rattle.script_gen.specs.Script.{line_of, line_text}
use Rattle.script_gen.proofs.NextLine.{coming_next}
use Rattle.script_gen.proofs.ShortLines.{line_is_short}
use Rattle.script_gen.proofs.generator.ScriptGen.next_line.Goals as goal

pub returns-in_err-print_line-clause-part : goal.returns-in_err-print_line-clause-part
returns-in_err-print_line-clause-part c =
    let part : AppendsPrefix [] c.print_line.new.out (line_text c.self.inside.kind (line_of c.self.inside.kind c.self.inside.number c.self.inside.state)) =
    rw (c.clear.ensures, c.draw_line-line.ensures.line) at c.in_err-print_line.ensures.err in
    rw (← c.self.view_is)
    (rw (coming_next c.self.inside.kind c.self.inside.lines c.self.inside.number c.self.inside.state (omega arith) (omega arith)) (search rules))

pub returns-clause-ok : goal.returns-clause-ok
returns-clause-ok c =
    rw (← c.self.view_is)
    (rw (coming_next c.self.inside.kind c.self.inside.lines c.self.inside.number c.self.inside.state (omega arith) (omega arith))
    (rw c.draw_line-line.ensures.state refl, c.in_ok-print_line.ensures.ok ∙ rw (c.clear.ensures, c.draw_line-line.ensures.line) refl))

pub returns-clause-short : goal.returns-clause-short
returns-clause-short c =
    let small = line_is_short c.self.inside.kind c.self.inside.number c.self.inside.state (omega arith) (omega arith) in
    let printed : c.print_line.new.out ≡ line_text c.self.inside.kind (line_of c.self.inside.kind c.self.inside.number c.self.inside.state) =
    rw (c.clear.ensures, c.draw_line-line.ensures.line) at c.in_ok-print_line.ensures.ok in
    rw printed (omega (arith, small))
