use Rattle.std.proofs.Common.{ap, sym, ◌∙◌, inl, inr, subst, get_or}
use Rattle.std.proofs.lemmas.Option.{slice_get-get_or, get_or_from_slice_get}
use Rattle.retro_base.specs.Content.{state_of}
use Rattle.retro_base.specs.Edits.{cut}
use Rattle.retro_base.specs.Changes.{IsChange}
use Rattle.retro_base.specs.lemmas.Folds.{no_row}
use Rattle.retro_base.proofs.KeptChange.{kept_cuts, kept_survivors, kept_changes, kept_reads, plain_of_items, plain_of_pairs}
use Rattle.retro_base.proofs.plain_list.change_of_remove.Goals as goal

pub change_without-requires-clause-possible : goal.change_without-requires-clause-possible
change_without-requires-clause-possible c = kept_cuts c.args.kind c.args.rows.now _ c.in-Entries.alive c.args.place _ c.requires.kept (ap state_of c.in-Entries.is)
    (slice_get-get_or c.args.rows.now c.args.place no_row c.requires.within)

pub change_without-requires-clause-alive : goal.change_without-requires-clause-alive
change_without-requires-clause-alive c = kept_survivors c.args.kind c.args.rows.now _ c.in-Entries.alive c.requires.kept (ap state_of c.in-Entries.is)

pub unreachable-requires : goal.unreachable-requires
unreachable-requires c = kept_reads c.args.kind c.args.rows.now _ c.in-Entries.alive (cut c.args.place (get_or c.args.rows.now c.args.place no_row)) c.requires.kept (ap state_of c.in-Entries.is)
    (kept_cuts c.args.kind c.args.rows.now _ c.in-Entries.alive c.args.place _ c.requires.kept (ap state_of c.in-Entries.is) (slice_get-get_or c.args.rows.now c.args.place no_row c.requires.within))
    c.requires.replays (sym c.change_without.ensures ∙ c.in-None.is)

pub returns-in-Some : goal.returns-in-Some
returns-in-Some c = λ row there. subst (λ r. IsChange c.args.kind c.args.rows.now (cut c.args.place r) c.in-Some.change)
    (get_or_from_slice_get c.args.rows.now c.args.place row no_row there)
    (kept_changes c.args.kind c.args.rows.now _ c.in-Entries.alive (cut c.args.place (get_or c.args.rows.now c.args.place no_row)) c.in-Some.change c.requires.kept (ap state_of c.in-Entries.is)
    (kept_cuts c.args.kind c.args.rows.now _ c.in-Entries.alive c.args.place _ c.requires.kept (ap state_of c.in-Entries.is) (slice_get-get_or c.args.rows.now c.args.place no_row c.requires.within))
    (sym c.change_without.ensures ∙ c.in-Some.is))

pub returns-in-Line : goal.returns-in-Line
returns-in-Line c = λ row there. elim c.in-Line.is [
  | inl line ↦ plain_of_items c.args.kind c.args.rows.now _ _ (cut c.args.place row) c.requires.kept (ap state_of line.1)
  | inr held ↦ plain_of_pairs c.args.kind c.args.rows.now _ _ (cut c.args.place row) c.requires.kept (ap state_of held.1)
]

pub returns-in-Line-2 : goal.returns-in-Line-2
returns-in-Line-2 c = λ row there. elim c.in-Line.is [
  | inl line ↦ plain_of_items c.args.kind c.args.rows.now _ _ (cut c.args.place row) c.requires.kept (ap state_of line.1)
  | inr held ↦ plain_of_pairs c.args.kind c.args.rows.now _ _ (cut c.args.place row) c.requires.kept (ap state_of held.1)
]
