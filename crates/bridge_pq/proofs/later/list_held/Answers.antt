use Rattle.std.proofs.Common.{◌≡◌, ◌∙◌, map, ap, sym}
use Rattle.retro_base.specs.declared.question.Item.TheVariants.{Single}
use Rattle.retro_base.specs.Answers.{content}
use Rattle.retro_base.specs.Bridges.{entries_at}
use Rattle.retro_base.specs.State.{entries}
use Rattle.bridge_pq.specs.MarkedRows.{rows_of}
use Rattle.bridge_pq.proofs.Moved.{few_there, held_there, if_ok, keys_content, size_there}
use Rattle.bridge_pq.proofs.later.list_held.Goals as goal

pub size_after-size-requires-clause-few : goal.size_after-size-requires-clause-few
size_after-size-requires-clause-few g c = few_there c.args.entries.now (rows_of c.args.rows.now) c.args.from c.args.to c.requires.earlier c.as_slice.result.now (c.as_slice.ensures.value ∙ c.in_ok-moves.ensures.moves)

pub size_after-size-requires-clause-size : goal.size_after-size-requires-clause-size
size_after-size-requires-clause-size g c = size_there c.args.entries.now (rows_of c.args.rows.now) c.args.from c.args.to c.requires.earlier c.as_slice.result.now (c.as_slice.ensures.value ∙ c.in_ok-moves.ensures.moves)

pub returns : goal.returns
returns g c =
    let held = c.in_ok-held.ensures.entries ∙ held_there c.args.entries.now (rows_of c.args.rows.now) c.args.from c.args.to c.requires.earlier c.as_slice-2.result.now (c.as_slice-2.ensures.value ∙ c.in_ok-moves.ensures.moves) in
    record {
      content = if_ok _ (λ listing. listing ≡ content (entries (entries_at (rows_of c.args.rows.now) c.args.to))) c.list_all.result
          (λ listing is. is ∙ ap (map (λ entry. Single entry.key)) held ∙ sym (keys_content (entries_at (rows_of c.args.rows.now) c.args.to))) c.list_all.ensures.keys;
    }
