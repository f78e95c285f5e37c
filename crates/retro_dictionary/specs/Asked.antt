-- Which pairs answer a question of a dictionary, what is answered of what is found of them, and what a key has.
use Rattle.std.specs.Prelude.{ℕ, zero, suc, ℤ, pos, neg_ℤ, ◌-ℤ◌, ◌^◌, ◌≤ℤ◌, Option, None, List, []}
use Rattle.std.specs.List.{AllByRecursion}
use Rattle.std.specs.Option.{option_map, option_and_then}
use Rattle.key_index.specs.KeyRows.{KeyRow}
use Rattle.key_index.specs.RowsBeside.{last_up_to}
use Rattle.retro_base.specs.declared.op.Op.{Op}
use Rattle.retro_base.specs.declared.question.Question.{Question}
use Rattle.retro_base.specs.declared.question.Question.TheVariants.{Size, Get, Succ, Pred, Count, Sum}
use Rattle.retro_base.specs.declared.question.Answer.{Answer}
use Rattle.retro_base.specs.declared.question.Answer.TheVariants.{Number, Nothing}
use Rattle.retro_base.specs.Answers.{number_of, pair_of}
use Rattle.lifetime_segments.specs.declared.lifetime.Lifetime.{Lifetime}
use Rattle.lifetime_segments.specs.Lifetimes.{items_at}
use Rattle.lifetime_segments.specs.Ordered.{in_order}
use Rattle.order_labels.specs.Labels.{label_before}
use Rattle.retro_dictionary.specs.Lifetimes.{put_by}
use Rattle.retro_dictionary.specs.declared.pairs.Found.{Found}
use Rattle.retro_dictionary.specs.declared.pairs.KeyRange.{KeyRange}
use Rattle.retro_dictionary.specs.PairSearch.{pair_before, found_in}

-- numbers of 64 bits
abbrev pub least_number : ℤ
least_number = neg_ℤ (pos (2 ^ 63))

abbrev pub greatest_number : ℤ
greatest_number = pos (2 ^ 63) -ℤ pos 1

abbrev pub IsNumber : ℤ → Type 0
IsNumber n = (least_number ≤ℤ n) × (n ≤ℤ greatest_number)

-- keys and values are such
abbrev pub AreOfNumbers : List (ℤ × ℤ) → Type 0
AreOfNumbers ps = AllByRecursion (λ (pair : ℤ × ℤ). IsNumber pair.0 × IsNumber pair.1) ps

-- the keys from low to high
abbrev pub keys_from : ℤ → ℤ → KeyRange
keys_from low high = record { low = low; high = high }

-- the keys that a question asks of
abbrev pub range_of : Question → KeyRange
range_of (Get key) = keys_from key key
range_of (Succ key) = keys_from key greatest_number
range_of (Pred key) = keys_from least_number key
range_of (Count low high) = keys_from low high
range_of (Sum low high) = keys_from low high
range_of question = keys_from least_number greatest_number

-- the answer, by what is found of the pairs with these keys
abbrev pub answer_from : Question → Found → Answer
answer_from Size found = Number (pos found.count)
answer_from (Get key) found = number_of (option_map (λ pair. pair.1) found.least)
answer_from (Succ key) found = pair_of found.least
answer_from (Pred key) found = pair_of found.greatest
answer_from (Count low high) found = Number (pos found.count)
answer_from (Sum low high) found = Number found.sum
answer_from question found = Nothing

-- the pairs at a place, in their order: those whose lifetimes hold the label of the row before it
abbrev pub pairs_at : List ℕ → List (Lifetime (ℤ × ℤ)) → ℕ → List (ℤ × ℤ)
pairs_at labels lifetimes zero = []
pairs_at labels lifetimes (suc place) = in_order pair_before (items_at (label_before 0 labels (suc place)) lifetimes)

-- what is found of them
abbrev pub found_at : List ℕ → List (Lifetime (ℤ × ℤ)) → ℕ → KeyRange → Found
found_at labels lifetimes place range = found_in (pairs_at labels lifetimes place) range

-- the value that an operation puts, where it puts one
abbrev pub value_put : Op → Option ℤ
value_put op = option_map (λ pair. pair.1) (put_by op)

-- the value of a key at a place: that of the last row on it up to the one before the place, where that row puts one
abbrev pub value_at : List ℕ → List KeyRow → ℕ → ℤ → Option ℤ
value_at labels index zero key = None
value_at labels index (suc place) key = option_and_then (λ row. value_put row.1) (last_up_to key (label_before 0 labels (suc place)) index)
