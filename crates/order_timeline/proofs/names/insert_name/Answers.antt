use Rattle.std.proofs.Common.{◌≡◌, ◌<◌, ◌++◌, [], ◌∷◌, length, slice_set, refl, sym, ap, ◌∙◌, subst}
use Rattle.std.specs.List.{insert, remove, AllByRecursion}
use Rattle.order_timeline.specs.Names.{AreDistinct}
use Rattle.retro_base.specs.EditedLists.{remove-insert}
use Rattle.order_timeline.proofs.Filed.{filed_is, filed_longer, filed_with, added_name, all_known, distinct_with}
use Rattle.order_timeline.proofs.names.insert_name.Goals as goal

pub returns-in_err-insert-clause-filed : goal.returns-in_err-insert-clause-filed
returns-in_err-insert-clause-filed c =
    filed_is c.args.names.now c.args.labels.now (c.args.table.now ++ 0 ∷ []) c.insert.new.tree c.args.labels.now c.add.new.self
    (filed_longer c.args.names.now c.args.labels.now c.args.table.now (0 ∷ []) c.requires.filed) c.in_err-insert.ensures.err refl c.in_ok-name.ensures.ok

pub file_all-requires-clause-distinct : goal.file_all-requires-clause-distinct
file_all-requires-clause-distinct c =
    let name = c.in_ok-name.name in
    let more : c.insert.new.tree ≡ insert c.args.names.now c.args.place name = c.in_ok-insert.ensures.ok ∙ ap (insert c.args.names.now c.args.place) c.new.ensures in
    subst AreDistinct (sym more)
    (distinct_with c.args.names.now c.args.place name (added_name c.args.names.now c.args.labels.now c.args.table.now name c.requires.filed c.in_ok-name.ensures.name) c.requires.filed.distinct)

pub file_all-requires-clause-known : goal.file_all-requires-clause-known
file_all-requires-clause-known c =
    let name = c.in_ok-name.name in
    let more : c.insert.new.tree ≡ insert c.args.names.now c.args.place name = c.in_ok-insert.ensures.ok ∙ ap (insert c.args.names.now c.args.place) c.new.ensures in
    subst (λ table. AllByRecursion (λ other. other < length table) c.insert.new.tree) (sym c.in_ok-name.ensures.ok)
    (subst (AllByRecursion (λ other. other < length (c.args.table.now ++ 0 ∷ []))) (sym more)
    (all_known c.args.names.now c.args.labels.now c.args.table.now c.args.place name c.requires.filed c.in_ok-name.ensures.name))

pub returns-else-fresh-clause-filed : goal.returns-else-fresh-clause-filed
returns-else-fresh-clause-filed c =
    let name = c.in_ok-name.name in
    let label = c.in-Ok.fresh.label in
    filed_is (insert c.args.names.now c.args.place name) (insert c.args.labels.now c.args.place label) (slice_set (c.args.table.now ++ 0 ∷ []) name label) c.insert.new.tree c.insert-2.new.self c.set.new.self
    (filed_with c.args.names.now c.args.labels.now c.args.table.now c.args.place name label c.requires.filed c.requires.within c.in_ok-name.ensures.name)
    (c.in_ok-insert.ensures.ok ∙ ap (insert c.args.names.now c.args.place) c.new.ensures) (c.in-Ok.ensures.others c.if-fresh.false)
    (c.set.ensures ∙ ap (λ table. slice_set table name label) c.in_ok-name.ensures.ok)

pub returns-in-Err-clause-err : goal.returns-in-Err-clause-err
returns-in-Err-clause-err c =
    c.remove.ensures.items ∙ ap (λ names. remove names c.args.place) c.in_ok-insert.ensures.ok ∙ remove-insert c.args.names.now c.args.place c.new.result c.requires.within

pub returns-in-Err-clause-filed : goal.returns-in-Err-clause-filed
returns-in-Err-clause-filed c =
    filed_is c.args.names.now c.args.labels.now (c.args.table.now ++ 0 ∷ []) c.remove.new.tree c.insert-2.new.self c.add.new.self
    (filed_longer c.args.names.now c.args.labels.now c.args.table.now (0 ∷ []) c.requires.filed)
    (c.remove.ensures.items ∙ ap (λ names. remove names c.args.place) c.in_ok-insert.ensures.ok ∙ remove-insert c.args.names.now c.args.place c.new.result c.requires.within)
    c.in-Err.ensures.err c.in_ok-name.ensures.ok
