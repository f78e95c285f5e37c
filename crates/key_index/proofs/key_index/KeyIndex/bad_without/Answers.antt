use Rattle.std.proofs.Common.{◌≡◌, w64, SFits, subst, sym, ap, ◌∙◌, rules}
use Rattle.std.proofs.lemmas.Int.{to_z-of_z}
use Rattle.key_index.specs.KeyRows.{AreKeyRows, Replays, without}
use Rattle.key_index.specs.RowsBeside.{beside, is_there, taken_at}
use Rattle.key_index.specs.Ordered.{by_label}
use Rattle.key_index.proofs.NamedRows.{removed_good, if_none}
use Rattle.key_index.proofs.Neighbours.{same_beside}
use Rattle.key_index.proofs.RemovedRow.{put_again, put_gone, not_missed}
use Rattle.key_index.proofs.key_index.KeyIndex.bad_without.Goals as goal
use Rattle.key_index.proofs.key_index.KeyIndex.bad_without.Goals.{After-beside-rows}

-- the rows beside it
rows-are : (c : After-beside-rows) → c.beside-rows.result ≡ beside c.in-Put.key c.args.label c.args.self.now
rows-are c =
    let key = c.in-Put.key in
    let fits : SFits w64 key = search rules in
    (rw (to_z-of_z w64 key fits) at c.beside-rows.ensures)
    ∙ same_beside key (by_label c.self.inside.by_key) c.self.inside.by_key (c.self.invariant.same key) c.args.label
    ∙ ap (beside key c.args.label) c.self.view_is

pub returns-then-is_there-clause-bad : goal.returns-then-is_there-clause-bad
returns-then-is_there-clause-bad c =
    let keyed : AreKeyRows c.args.self.now = subst AreKeyRows c.self.view_is c.self.invariant.listed in
    let are = rows-are (goal.at.returns-then-is_there-clause-bad c).After-beside-rows in
    put_again c.args.label c.args.op c.args.self.now keyed c.requires.replays c.requires.there c.in-Put.key _ c.in-Put.is
    (ap (λ rows. is_there rows.before) (sym are) ∙ sym c.is_there.ensures ∙ c.if-is_there.true)

pub returns-else-is_there-clause-bad : goal.returns-else-is_there-clause-bad
returns-else-is_there-clause-bad c =
    let keyed : AreKeyRows c.args.self.now = subst AreKeyRows c.self.view_is c.self.invariant.listed in
    let are = rows-are (goal.at.returns-else-is_there-clause-bad c).After-beside-rows in
    c.taken_at.ensures ∙ ap (λ rows. taken_at rows.after) are
    ∙ put_gone c.args.label c.args.op c.args.self.now keyed c.requires.replays c.requires.there c.in-Put.key _ c.in-Put.is
    (ap (λ rows. is_there rows.before) (sym are) ∙ sym c.is_there.ensures ∙ c.if-is_there.false)

pub returns-in_default-clause-bad : goal.returns-in_default-clause-bad
returns-in_default-clause-bad c =
    not_missed c.args.label c.args.op c.args.self.now (subst AreKeyRows c.self.view_is c.self.invariant.listed) c.requires.replays c.requires.there c.in_default.not-Put

pub returns-then-is_there-clause-good : goal.returns-then-is_there-clause-good
returns-then-is_there-clause-good c =
    removed_good c.args.label c.args.self.now (subst AreKeyRows c.self.view_is c.self.invariant.listed).of_dict (returns-then-is_there-clause-bad c)

pub returns-else-is_there-clause-good : goal.returns-else-is_there-clause-good
returns-else-is_there-clause-good c =
    if_none (Replays (without c.args.label c.args.self.now)) c.taken_at.result
    (λ none. removed_good c.args.label c.args.self.now (subst AreKeyRows c.self.view_is c.self.invariant.listed).of_dict (none ∙ returns-else-is_there-clause-bad c))

pub returns-in_default-clause-good : goal.returns-in_default-clause-good
returns-in_default-clause-good c =
    removed_good c.args.label c.args.self.now (subst AreKeyRows c.self.view_is c.self.invariant.listed).of_dict (returns-in_default-clause-bad c)
