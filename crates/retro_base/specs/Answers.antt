-- What is answered to a question about a state, and the whole content of a state.
use Rattle.std.specs.Prelude.{◌-◌, ℤ, pos, ◌+ℤ◌, ◌&&◌, List, map, reverse, length, slice_get, int_le}
use Rattle.std.specs.Prelude.{Option, Some, None}
use Rattle.std.specs.Option.{option_map}
use Rattle.std.specs.Ordering.{int_eq}
use Rattle.std.specs.List.{filter, find, fold}
use Rattle.std.specs.Map.{lookup}
use Rattle.retro_base.specs.declared.question.Question.{Question}
use Rattle.retro_base.specs.declared.question.Question.TheVariants.{Size, Front, Back, Top, Left, Right, Min, Nth, Get, Succ, Pred, Count, Sum}
use Rattle.retro_base.specs.declared.question.Answer.{Answer}
use Rattle.retro_base.specs.declared.question.Answer.TheVariants.{Number, Nothing}
use Rattle.retro_base.specs.declared.question.Answer.TheVariants as answers
use Rattle.retro_base.specs.declared.question.Item.{Item}
use Rattle.retro_base.specs.declared.question.Item.TheVariants as contents
use Rattle.retro_base.specs.declared.row.Entry.{Entry}
use Rattle.retro_base.specs.State.{State, items, pairs, entries}

-- a number, or nothing
abbrev pub number_of : Option ℤ → Answer
number_of None = Nothing
number_of (Some n) = Number n

-- a pair, or nothing
abbrev pub pair_of : Option (ℤ × ℤ) → Answer
pair_of None = Nothing
pair_of (Some pair) = answers.Pair pair.0 pair.1

-- the last element, where there is one
abbrev pub last_of : {X : Type 0} → List X → Option X
last_of xs = slice_get xs (length xs - 1)

-- the pairs whose keys lie from low to high, both included
abbrev pub pairs_between : ℤ → ℤ → List (ℤ × ℤ) → List (ℤ × ℤ)
pairs_between low high ps = filter (λ pair. int_le low pair.0 && int_le pair.0 high) ps

-- the values of these pairs, added up
abbrev pub sum_of_values : List (ℤ × ℤ) → ℤ
sum_of_values ps = fold (λ sum pair. sum +ℤ pair.1) (pos 0) ps

-- the key of an entry
abbrev pub key_of : Entry → ℤ
key_of entry = entry.key

-- the answer to a question that suits the kind of the state
unfoldable pub answer_of : State → Question → Answer
answer_of (items xs) Size = Number (pos (length xs))
answer_of (items xs) Front = number_of (slice_get xs 0)
answer_of (items xs) Back = number_of (last_of xs)
answer_of (items xs) Top = number_of (slice_get xs 0)
answer_of (items xs) Left = number_of (slice_get xs 0)
answer_of (items xs) Right = number_of (last_of xs)
answer_of (items xs) (Nth index) = number_of (slice_get xs index)
answer_of (pairs ps) Size = Number (pos (length ps))
answer_of (pairs ps) (Get key) = number_of (lookup (int_eq key) ps)
answer_of (pairs ps) (Succ key) = pair_of (find (λ pair. int_le key pair.0) ps)
answer_of (pairs ps) (Pred key) = pair_of (find (λ pair. int_le pair.0 key) (reverse ps))
answer_of (pairs ps) (Count low high) = Number (pos (length (pairs_between low high ps)))
answer_of (pairs ps) (Sum low high) = Number (sum_of_values (pairs_between low high ps))
answer_of (entries es) Size = Number (pos (length es))
answer_of (entries es) Min = number_of (option_map key_of (slice_get es 0))
answer_of (entries es) (Nth index) = number_of (option_map key_of (slice_get es index))
answer_of state question = Nothing

-- the whole content: items in their order, pairs and keys of entries rising
unfoldable pub content : State → List Item
content (items xs) = map (λ x. contents.Single x) xs
content (pairs ps) = map (λ pair. contents.Pair pair.0 pair.1) ps
content (entries es) = map (λ entry. contents.Single entry.key) es
