use Rattle.std.proofs.Common.{◌≡◌, w64, SFits, subst, sym, ap, ◌∙◌, rules}
use Rattle.std.proofs.lemmas.Int.{to_z-of_z}
use Rattle.std.specs.Option.{option_map}
use Rattle.key_index.specs.declared.key_index.Bad.TheVariants.{Present}
use Rattle.key_index.specs.KeyRows.{AreKeyRows, bad_with}
use Rattle.key_index.specs.RowsBeside.{around, is_there, taken_at}
use Rattle.key_index.specs.Ordered.{by_label}
use Rattle.key_index.proofs.Neighbours.{same_around}
use Rattle.key_index.proofs.InsertedRow.{replays_in_parts, others_are_good, stays, del_is_bad, del_takes}
use Rattle.key_index.proofs.NamedRows.{inserted_good}
use Rattle.key_index.proofs.key_index.KeyIndex.bad_after_insert.Goals as goal
use Rattle.key_index.proofs.key_index.KeyIndex.bad_after_insert.Goals.{After-around-rows}

-- the rows around the place
rows-are : (c : After-around-rows) → c.around-rows.result ≡ around c.in-Del.key c.args.behind c.args.self.now
rows-are c =
    let key = c.in-Del.key in
    let fits : SFits w64 key = search rules in
    (rw (to_z-of_z w64 key fits) at c.around-rows.ensures)
    ∙ same_around key (by_label c.self.inside.by_key) c.self.inside.by_key (c.self.invariant.same key) c.args.behind
    ∙ ap (around key c.args.behind) c.self.view_is

pub returns-then-not-is_there-clause-bad : goal.returns-then-not-is_there-clause-bad
returns-then-not-is_there-clause-bad c =
    let now = c.args.self.now in
    let keyed : AreKeyRows now = subst AreKeyRows c.self.view_is c.self.invariant.listed in
    let are = rows-are (goal.at.returns-then-not-is_there-clause-bad c).After-around-rows in
    del_is_bad c.args.behind now keyed.of_dict (replays_in_parts c.args.behind now keyed c.requires.replays) c.in-Del.key
    (ap (λ rows. is_there rows.before) (sym are) ∙ sym c.is_there.ensures ∙ c.if-not-is_there.true)
    ∙ ap (λ op. bad_with c.args.behind op now) (sym c.in-Del.is)

pub returns-in-Some-clause-bad : goal.returns-in-Some-clause-bad
returns-in-Some-clause-bad c =
    let now = c.args.self.now in
    let keyed : AreKeyRows now = subst AreKeyRows c.self.view_is c.self.invariant.listed in
    let are = rows-are (goal.at.returns-in-Some-clause-bad c).After-around-rows in
    ap (option_map (λ l. Present l)) (sym c.in-Some.is ∙ c.taken_at.ensures ∙ ap (λ rows. taken_at rows.after) are)
    ∙ del_takes c.args.behind now keyed.of_dict (replays_in_parts c.args.behind now keyed c.requires.replays) c.in-Del.key
    (ap (λ rows. is_there rows.before) (sym are) ∙ sym c.is_there.ensures ∙ c.if-not-is_there.false)
    ∙ ap (λ op. bad_with c.args.behind op now) (sym c.in-Del.is)

pub returns-in-None-clause-bad : goal.returns-in-None-clause-bad
returns-in-None-clause-bad c =
    let now = c.args.self.now in
    let keyed : AreKeyRows now = subst AreKeyRows c.self.view_is c.self.invariant.listed in
    let are = rows-are (goal.at.returns-in-None-clause-bad c).After-around-rows in
    ap (option_map (λ l. Present l)) (sym c.in-None.is ∙ c.taken_at.ensures ∙ ap (λ rows. taken_at rows.after) are)
    ∙ del_takes c.args.behind now keyed.of_dict (replays_in_parts c.args.behind now keyed c.requires.replays) c.in-Del.key
    (ap (λ rows. is_there rows.before) (sym are) ∙ sym c.is_there.ensures ∙ c.if-not-is_there.false)
    ∙ ap (λ op. bad_with c.args.behind op now) (sym c.in-Del.is)

pub returns-in_default-clause-bad : goal.returns-in_default-clause-bad
returns-in_default-clause-bad c =
    let now = c.args.self.now in
    let keyed : AreKeyRows now = subst AreKeyRows c.self.view_is c.self.invariant.listed in
    others_are_good c.args.behind now keyed.of_dict (replays_in_parts c.args.behind now keyed c.requires.replays) c.args.op c.requires.dict (stays c.args.op c.in_default.not-Del)

pub returns-in-None-clause-good : goal.returns-in-None-clause-good
returns-in-None-clause-good c = inserted_good c.args.behind c.args.op c.args.self.now (subst AreKeyRows c.self.view_is c.self.invariant.listed).of_dict c.requires.dict (returns-in-None-clause-bad c)

pub returns-in_default-clause-good : goal.returns-in_default-clause-good
returns-in_default-clause-good c = inserted_good c.args.behind c.args.op c.args.self.now (subst AreKeyRows c.self.view_is c.self.invariant.listed).of_dict c.requires.dict (returns-in_default-clause-bad c)
