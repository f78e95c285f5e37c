use Rattle.std.proofs.Common.{◌≡◌, ◌+◌, length, ◌∙◌, subst}
use Rattle.std.specs.Prelude.{List, IfOk, OnOk}
use Rattle.retro_base.specs.declared.row.Row.{Row}
use Rattle.pq_fusion.specs.Wear.{unworn}
use Rattle.pq_fusion.proofs.RowEdits.{put_last}
use Rattle.pq_fusion.proofs.subtree.Subtree.after_edit.Goals as goal

pub with_last-requires-clause-rows : goal.with_last-requires-clause-rows
with_last-requires-clause-rows g c =
    let edit = c.args.edit in
    c.in_ok-rows.ensures.rows ∙ (put_last edit.way c.args.self.now.rows edit.place edit.row c.requires.possible (c.if-edit-len.true ∙ c.len.ensures.count)).0

pub with_last-requires-clause-row : goal.with_last-requires-clause-row
with_last-requires-clause-row g c =
    let edit = c.args.edit in
    (put_last edit.way c.args.self.now.rows edit.place edit.row c.requires.possible (c.if-edit-len.true ∙ c.len.ensures.count)).1

pub returns-then-as_slice-longest-clause-new : goal.returns-then-as_slice-longest-clause-new
returns-then-as_slice-longest-clause-new g c =
    subst (λ (rows : List Row). IfOk c.with_last.result (λ new. new ≡ unworn rows)) c.in_ok-rows.ensures.rows c.with_last.ensures.subtree

pub returns-then-as_slice-longest-clause-made : goal.returns-then-as_slice-longest-clause-made
returns-then-as_slice-longest-clause-made g c =
    subst (λ (rows : List Row). OnOk c.with_last.result (c.with_last.new.anew ≡ c.args.anew.now + length rows)) c.in_ok-rows.ensures.rows c.with_last.ensures.made

pub returns-clause-new : goal.returns-clause-new
returns-clause-new g c =
    subst (λ (rows : List Row). IfOk c.of_rows.result (λ new. new ≡ unworn rows)) (c.as_slice-2.ensures.value ∙ c.in_ok-rows.ensures.rows) c.of_rows.ensures.subtree

pub returns-clause-made : goal.returns-clause-made
returns-clause-made g c =
    subst (λ (rows : List Row). OnOk c.of_rows.result (c.of_rows.new.anew ≡ c.args.anew.now + length rows)) (c.as_slice-2.ensures.value ∙ c.in_ok-rows.ensures.rows) c.of_rows.ensures.made
