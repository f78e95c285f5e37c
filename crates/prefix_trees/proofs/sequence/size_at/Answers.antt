use Rattle.std.proofs.Common.{◌≡◌, w64, to_z, of_z, ◌∙◌, sym, rules, arith}
use Rattle.prefix_trees.specs.Growth.{grown, sign_of}
use Rattle.prefix_trees.specs.SizeLaws.{natural-size}
use Rattle.prefix_trees.proofs.sequence.size_at.Goals as goal

pub overflow_cast-result : goal.overflow_cast-result
overflow_cast-result g c =
    let size : to_z w64 (of_z w64 c.size_at.result) ≡ grown sign_of c.args.rows.now c.args.place = search rules in
    let found = natural-size g.S.Sequence.kind c.args.rows.now g.met.S.Sequence.is_line c.requires.replayable c.args.place _ c.requires.within size in
    rw found.1 (tt, omega (arith, found.3))

pub returns-clause-size : goal.returns-clause-size
returns-clause-size g c =
    let size : to_z w64 (of_z w64 c.size_at.result) ≡ grown sign_of c.args.rows.now c.args.place = search rules in
    let found = natural-size g.S.Sequence.kind c.args.rows.now g.met.S.Sequence.is_line c.requires.replayable c.args.place _ c.requires.within size in
    rw found.1 (sym found.1 ∙ size)

pub returns-clause-few : goal.returns-clause-few
returns-clause-few g c =
    let size : to_z w64 (of_z w64 c.size_at.result) ≡ grown sign_of c.args.rows.now c.args.place = search rules in
    let found = natural-size g.S.Sequence.kind c.args.rows.now g.met.S.Sequence.is_line c.requires.replayable c.args.place _ c.requires.within size in
    rw found.1 (omega (arith, found.2, c.requires.within))
