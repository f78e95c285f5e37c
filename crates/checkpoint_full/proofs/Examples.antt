-- The rule of checkpoints, computed on small histories whose places were worked out by hand.
use Rattle.std.proofs.Common.{◌≡◌, ℕ, false, List, [], ◌∷◌, ◌++◌, length, map, reverse, refl}
use Rattle.retro_base.specs.declared.kind.Kind.TheVariants.{Pq}
use Rattle.checkpoint_full.specs.Checkpoints.{Checkpointed}
use Rattle.checkpoint_full.specs.Rule.{one_earlier, one_further, places_after_insertion, rising, width_after_insertion, with_room}
use Rattle.checkpoint_full.specs.Widths.{multiples, settled, settled_width}

-- 3,072 rows, with checkpoints at the multiples of 1,024: a row at 1,500 has one made in the middle of its gap, and a row at the end one right
-- before it; at 2,500 of 3,000 rows there is room
abbrev thousands : List ℕ
thousands = 2048 ∷ 1024 ∷ 0 ∷ []

in_the_middle : with_room 1024 1500 3072 thousands ≡ 2048 ∷ 1536 ∷ 1024 ∷ 0 ∷ []
in_the_middle = refl

at_the_end : with_room 1024 3072 3072 thousands ≡ 3072 ∷ 2048 ∷ 1024 ∷ 0 ∷ []
at_the_end = refl

room_enough : with_room 1024 2500 3000 thousands ≡ thousands
room_enough = refl

-- the row is put in at 1,500 and taken out again: the one in the middle stays with the row, and is dropped without it
row_comes : settled 1024 3073 (map (one_further 1500) (with_room 1024 1500 3072 thousands)) ≡ 2049 ∷ 1537 ∷ 1024 ∷ 0 ∷ []
row_comes = refl

row_goes : settled 1024 3072 (map (one_earlier 1500) (2049 ∷ 1537 ∷ 1024 ∷ 0 ∷ [])) ≡ thousands
row_goes = refl

-- at 31 checkpoints after the start the width stays, and at 32 it is doubled, and each other one is dropped, the latest first
abbrev all_of : ℕ → List ℕ
all_of count = reverse (multiples 1024 count) ++ 0 ∷ []

few_stay : settled_width 1024 32768 (all_of 31) ≡ 1024
few_stay = refl

width_is_doubled : settled_width 1024 33792 (all_of 32) ≡ 2048
width_is_doubled = refl

each_other_goes : length (settled 1024 33792 (all_of 32)) ≡ 17
each_other_goes = refl

-- of neighbours that are a width apart the one between goes
one_between_goes : rising (settled 1024 4097 (4096 ∷ 3072 ∷ 2560 ∷ 2048 ∷ 1024 ∷ 0 ∷ [])) ≡ 1024 ∷ 2048 ∷ 3072 ∷ 4096 ∷ []
one_between_goes = refl

-- where no checkpoints were made, none come, and the width stays
abbrev unasked : Checkpointed
unasked = record { kind = Pq; rows = []; made = false; width = 1024; places = [] }

none_come : places_after_insertion unasked 0 ≡ []
unfolding places_after_insertion
none_come = refl

width_stays : width_after_insertion unasked 0 ≡ 1024
unfolding width_after_insertion
width_stays = refl
