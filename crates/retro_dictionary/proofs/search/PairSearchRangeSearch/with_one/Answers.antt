use Rattle.std.proofs.Common.{◌≡◌, ◌∷◌, [], arith, rules}
use Rattle.retro_dictionary.specs.PairSearch.{found_in}
use Rattle.retro_dictionary.proofs.RangeOfPairs.{nothing_more}
use Rattle.retro_dictionary.proofs.search.PairSearchRangeSearch.with_one.Goals as goal
use Rattle.retro_dictionary.proofs.search.PairSearchRangeSearch.with_one.Goals.{then-item-query-via-then-item-query, then-item-query-via-else-item-query+then-query-item}

pub returns-then-item-query : goal.returns-then-item-query
returns-then-item-query c = nothing_more c.args.part c.args.item.now c.args.query c.requires.answer (elim c.then-item-query.branch [
  | then-item-query-via-then-item-query w ↦ search rules
  | then-item-query-via-else-item-query+then-query-item w ↦ search rules
])

pub combine-requires : goal.combine-requires
combine-requires c =
    let one : c.found_of_one.result ≡ found_in (c.args.item.now ∷ []) c.args.query = search rules in
    record {
      together = record {
        query = c.args.query;
        first_items = c.requires.answer.items;
        second_items = c.args.item.now ∷ [];
        lawful = record { first_ordered = c.requires.answer.ordered; second_ordered = (tt, tt); few = omega (arith, c.requires.answer.room) };
        first_is = c.requires.answer.answers;
        second_is = one;
      };
    }
