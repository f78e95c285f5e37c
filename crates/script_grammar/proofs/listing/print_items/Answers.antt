use Rattle.std.proofs.Common.{rules}
use Rattle.std.specs.List.{flat_map}
use Rattle.retro_base.specs.Text.{AppendsPrefix}
use Rattle.script_grammar.specs.AnswerText.{item_text}
use Rattle.retro_base.specs.TextLaws.{one_more, stopped}
use Rattle.script_grammar.proofs.listing.print_items.Goals as goal

pub returns-in_err-print_item-clause-err : goal.returns-in_err-print_item-clause-err
returns-in_err-print_item-clause-err c =
    let prefix : AppendsPrefix c.args.out.now c.print_item.new.out (flat_map item_text c.args.listing.now) =
    stopped item_text _ c.loop-index.out _ _ c.loop-index.index c.item.result c.loop-index.invariant c.item.ensures c.in_err-print_item.ensures.err in
    search rules

pub loop-index-preserved : goal.loop-index-preserved
loop-index-preserved c =
    one_more item_text _ c.loop-index.out _ _ c.loop-index.index c.item.result c.loop-index.invariant c.item.ensures c.in_ok-print_item.ensures.ok
