use Rattle.std.proofs.Common.{ap, sym, ◌∙◌, inl, inr}
use Rattle.retro_base.specs.Content.{state_of}
use Rattle.retro_base.specs.Edits.{add}
use Rattle.retro_base.specs.InsertedLaws.{fresh_for, kind_for}
use Rattle.retro_base.proofs.KeptChange.{kept_adds, kept_survivors, kept_changes, kept_reads, plain_of_items, plain_of_pairs}
use Rattle.retro_base.proofs.plain_list.change_of_insert.Goals as goal

pub change_with-requires-clause-possible : goal.change_with-requires-clause-possible
change_with-requires-clause-possible c = kept_adds c.args.kind c.args.rows.now _ c.in-Entries.alive c.args.place c.args.row c.requires.kept (ap state_of c.in-Entries.is)
    c.requires.within (fresh_for c.args.kind c.args.rows.now c.args.place c.args.row c.requires.replayable) (kind_for c.args.kind c.args.rows.now c.args.place c.args.row c.requires.replayable)

pub change_with-requires-clause-alive : goal.change_with-requires-clause-alive
change_with-requires-clause-alive c = kept_survivors c.args.kind c.args.rows.now _ c.in-Entries.alive c.requires.kept (ap state_of c.in-Entries.is)

pub unreachable-requires : goal.unreachable-requires
unreachable-requires c = kept_reads c.args.kind c.args.rows.now _ c.in-Entries.alive (add c.args.place c.args.row) c.requires.kept (ap state_of c.in-Entries.is)
    (kept_adds c.args.kind c.args.rows.now _ c.in-Entries.alive c.args.place c.args.row c.requires.kept (ap state_of c.in-Entries.is)
    c.requires.within (fresh_for c.args.kind c.args.rows.now c.args.place c.args.row c.requires.replayable) (kind_for c.args.kind c.args.rows.now c.args.place c.args.row c.requires.replayable))
    c.requires.replayable.valid (sym c.change_with.ensures ∙ c.in-None.is)

pub returns-in-Some : goal.returns-in-Some
returns-in-Some c = kept_changes c.args.kind c.args.rows.now _ c.in-Entries.alive (add c.args.place c.args.row) c.in-Some.change c.requires.kept (ap state_of c.in-Entries.is)
    (kept_adds c.args.kind c.args.rows.now _ c.in-Entries.alive c.args.place c.args.row c.requires.kept (ap state_of c.in-Entries.is)
    c.requires.within (fresh_for c.args.kind c.args.rows.now c.args.place c.args.row c.requires.replayable) (kind_for c.args.kind c.args.rows.now c.args.place c.args.row c.requires.replayable))
    (sym c.change_with.ensures ∙ c.in-Some.is)

pub returns-in-Line : goal.returns-in-Line
returns-in-Line c = elim c.in-Line.is [
  | inl line ↦ plain_of_items c.args.kind c.args.rows.now _ _ (add c.args.place c.args.row) c.requires.kept (ap state_of line.1)
  | inr held ↦ plain_of_pairs c.args.kind c.args.rows.now _ _ (add c.args.place c.args.row) c.requires.kept (ap state_of held.1)
]

pub returns-in-Line-2 : goal.returns-in-Line-2
returns-in-Line-2 c = elim c.in-Line.is [
  | inl line ↦ plain_of_items c.args.kind c.args.rows.now _ _ (add c.args.place c.args.row) c.requires.kept (ap state_of line.1)
  | inr held ↦ plain_of_pairs c.args.kind c.args.rows.now _ _ (add c.args.place c.args.row) c.requires.kept (ap state_of held.1)
]
