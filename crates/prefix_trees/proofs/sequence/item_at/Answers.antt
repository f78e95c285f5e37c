use Rattle.std.proofs.Common.{Some, ◌∙◌, ap, sym, rules, w64}
use Rattle.std.proofs.lemmas.Int.{to_z-of_z}
use Rattle.prefix_trees.specs.FoundLaws.{is-found, some-written, each-written}
use Rattle.prefix_trees.proofs.sequence.item_at.Goals as goal

pub unwrap-requires : goal.unwrap-requires
unwrap-requires g c =
    is-found g.S.Sequence.kind g.met.S.Sequence.is_line c.args.rows.now c.requires.replayable c.args.place c.args.index c.requires.within c.written_by-written.result c.written_by-written.ensures.writer

pub value_at-requires : goal.value_at-requires
value_at-requires g c =
    some-written g.S.Sequence.kind g.met.S.Sequence.is_line c.args.rows.now c.requires.replayable c.args.place c.args.index c.requires.within c.written_by-written.result c.written_by-written.ensures.writer
    c.unwrap.result c.unwrap.ensures

pub returns-clause-item : goal.returns-clause-item
returns-clause-item g c = λ line at.
    let written = each-written g.S.Sequence.kind g.met.S.Sequence.is_line c.args.rows.now c.requires.replayable c.args.place c.args.index c.requires.within
    c.written_by-written.result c.written_by-written.ensures.writer c.unwrap.result c.unwrap.ensures line at in
    c.value_at.ensures.value line c.args.index written ∙ ap Some (sym (to_z-of_z w64 c.value_at.result (search rules)))
