-- The texts of answers.
use Rattle.std.specs.Prelude.{ℕ, ℤ, List, [], ◌∷◌, ◌++◌, codes}
use Rattle.std.specs.Fmt.{signed_decimal}
use Rattle.std.specs.List.{flat_map}
use Rattle.retro_base.specs.declared.question.Answer.{Answer}
use Rattle.retro_base.specs.declared.question.Answer.TheVariants.{Number, Pair, Nothing}
use Rattle.retro_base.specs.declared.question.Item.{Item}
use Rattle.retro_base.specs.declared.question.Item.TheVariants as contents

-- `= n`, `= k:v` or `= none`
abbrev pub answer_text : Answer → List ℕ
answer_text (Number value) = codes "= " ++ signed_decimal value
answer_text (Pair key value) = codes "= " ++ (signed_decimal key ++ (codes ":" ++ signed_decimal value))
answer_text Nothing = codes "= none"

-- `k:v`
abbrev pub pair_text : ℤ → ℤ → List ℕ
pair_text key value = signed_decimal key ++ (codes ":" ++ signed_decimal value)

-- ` n` or ` k:v`: an item of a listing, after a space
abbrev pub item_text : Item → List ℕ
item_text (contents.Single value) = codes " " ++ signed_decimal value
item_text (contents.Pair key value) = codes " " ++ pair_text key value

-- `= empty`, or `=` and each item after a space
abbrev pub listing_text : List Item → List ℕ
listing_text [] = codes "= empty"
listing_text (item ∷ items) = codes "=" ++ flat_map item_text (item ∷ items)
