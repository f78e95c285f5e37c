-- Which item of a line a question asks for.
use Rattle.std.specs.Prelude.{◌≡◌, ℕ, ◌<◌, ℤ, pos, List, length, slice_get}
use Rattle.retro_base.specs.declared.question.Question.{Question}
use Rattle.retro_base.specs.declared.question.Answer.{Answer}
use Rattle.retro_base.specs.declared.question.Answer.TheVariants as answers
use Rattle.retro_base.specs.State.{items}
use Rattle.retro_base.specs.Answers.{answer_of, number_of}
use Rattle.prefix_trees.specs.declared.asked.Asked.{Asked}
use Rattle.prefix_trees.specs.declared.asked.Asked.TheVariants.{Size, Item, Nothing}

-- what is answered of a line where this is asked for
abbrev pub answer_in : List ℤ → Asked → Answer
answer_in line Size = answers.Number (pos (length line))
answer_in line (Item index) = number_of (slice_get line index)
answer_in line Nothing = answers.Nothing

-- the item is one of so many
abbrev pub IsAmong : ℕ → Asked → Type 0
IsAmong size Size = Unit {0}
IsAmong size (Item index) = index < size
IsAmong size Nothing = Unit {0}

-- what a question asks for of a line of this size
pub record AsksOf (question : Question) (size : ℕ) (asked : Asked) : Type 0 where
  pub among : IsAmong size asked
  pub answers : (line : List ℤ) → length line ≡ size → answer_of (items line) question ≡ answer_in line asked

-- the item at this index, or nothing where there are not so many
pub record IsItemAt (index size : ℕ) (asked : Asked) : Type 0 where
  pub among : IsAmong size asked
  pub item : (line : List ℤ) → length line ≡ size → number_of (slice_get line index) ≡ answer_in line asked
