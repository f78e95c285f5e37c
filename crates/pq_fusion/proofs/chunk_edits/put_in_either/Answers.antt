use Rattle.std.proofs.Common.{rules, ◌≡◌, true, false, get_or}
use Rattle.retro_base.specs.State.{comes_before}
use Rattle.pq_fusion.proofs.Chunked.{put_earlier, put_later, one_more}
use Rattle.pq_fusion.proofs.Split.{order_front, order_back}
use Rattle.pq_fusion.proofs.chunk_edits.put_in_either.Goals as goal

pub put_entry-requires-clause-order : goal.put_entry-requires-clause-order
put_entry-requires-clause-order g c = order_front c.args.earlier.now.items c.args.later.now.items c.requires.order

pub put_entry-requires-else-comes_before-clause-order : goal.put_entry-requires-else-comes_before-clause-order
put_entry-requires-else-comes_before-clause-order g c = order_back c.args.earlier.now.items c.args.later.now.items c.requires.order

pub returns-then-comes_before-clause-items : goal.returns-then-comes_before-clause-items
returns-then-comes_before-clause-items g c =
    let first : comes_before c.args.entry (get_or c.args.later.now.items 0 c.index.result.now) ≡ true = search rules in
    put_earlier c.args.entry c.args.earlier.now.items c.args.later.now.items c.put_entry.new.list.items c.index.result.now first c.put_entry.ensures.items

pub returns-then-comes_before-clause-earlier : goal.returns-then-comes_before-clause-earlier
returns-then-comes_before-clause-earlier g c = one_more c.args.entry c.args.earlier.now.items c.put_entry.new.list.items c.put_entry.ensures.items

pub returns-else-comes_before-clause-items : goal.returns-else-comes_before-clause-items
returns-else-comes_before-clause-items g c =
    let first : comes_before c.args.entry (get_or c.args.later.now.items 0 c.index.result.now) ≡ false = search rules in
    put_later c.args.entry c.args.earlier.now.items c.args.later.now.items c.put_entry-else-comes_before.new.list.items c.index.result.now c.requires.order c.requires.some first
    c.put_entry-else-comes_before.ensures.items

pub returns-else-comes_before-clause-later : goal.returns-else-comes_before-clause-later
returns-else-comes_before-clause-later g c = one_more c.args.entry c.args.later.now.items c.put_entry-else-comes_before.new.list.items c.put_entry-else-comes_before.ensures.items
