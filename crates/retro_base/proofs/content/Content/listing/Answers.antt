use Rattle.std.proofs.lemmas.List.{length-map}
use Rattle.retro_base.specs.Answers.{content}
use Rattle.retro_base.proofs.content.Content.listing.Goals as goal

pub listing_of_line-requires : goal.listing_of_line-requires
unfolding content
listing_of_line-requires c = simp length-map at (rw c.in-Line.is at c.requires)

pub listing_of_pairs-requires : goal.listing_of_pairs-requires
unfolding content
listing_of_pairs-requires c = simp length-map at (rw c.in-Pairs.is at c.requires)

pub returns-in-Line : goal.returns-in-Line
unfolding content
returns-in-Line c = rw c.in-Line.is c.listing_of_line.ensures

pub returns-in-Pairs : goal.returns-in-Pairs
unfolding content
returns-in-Pairs c = rw c.in-Pairs.is c.listing_of_pairs.ensures

pub listing_of_entries-requires : goal.listing_of_entries-requires
unfolding content
listing_of_entries-requires c = simp length-map at (rw c.in-Entries.is at c.requires)

pub returns-in-Entries : goal.returns-in-Entries
unfolding content
returns-in-Entries c = rw c.in-Entries.is c.listing_of_entries.ensures
