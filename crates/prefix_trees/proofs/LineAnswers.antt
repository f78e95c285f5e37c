-- What is asked of a line, and what fails in it, in the words of the replay.
use Rattle.std.proofs.Common.{◌≡◌, ℕ, zero, suc, ◌+◌, ◌≤◌, ℤ, pos, List, [], ◌∷◌, ◌++◌, take, map, length, Option, Some, refl, sym, ap, ◌∙◌, arith, length-take-le}
use Rattle.std.specs.Prelude.{slice_get}
use Rattle.std.specs.List.{insert, remove}
use Rattle.std.proofs.lemmas.Int.{ints}
use Rattle.std.proofs.lemmas.List.{take_all}
use Rattle.retro_base.specs.declared.kind.Kind.{Kind}
use Rattle.retro_base.specs.declared.row.Row.{Row}
use Rattle.retro_base.specs.declared.question.Question.{Question}
use Rattle.retro_base.specs.declared.question.Answer.TheVariants as answers
use Rattle.retro_base.specs.declared.question.Item.{Item}
use Rattle.retro_base.specs.declared.question.Item.TheVariants as contents
use Rattle.retro_base.specs.Kind.{kind_of}
use Rattle.retro_base.specs.Replay.{failure, state_at}
use Rattle.retro_base.specs.Answers.{answer_of, number_of, content}
use Rattle.retro_base.specs.Timeline.{IsReplayable}
use Rattle.retro_base.specs.OrderLaws.{all_with, all_without}
use Rattle.prefix_trees.specs.declared.asked.Asked.{Asked}
use Rattle.prefix_trees.specs.declared.asked.Asked.TheVariants as asks
use Rattle.prefix_trees.specs.Asked.{AsksOf, answer_in}
use Rattle.prefix_trees.specs.Growth.{IsLine, sign_of, grown}
use Rattle.prefix_trees.specs.Falls.{NeverFalls, FallsFirst}
use Rattle.prefix_trees.specs.FailureLaws.{LineAt, line-at, never-falls, failure-falls}

module _ (kind : Kind) (rows : List Row) (line : IsLine kind) (replayable : IsReplayable kind rows) where
  pub never : NeverFalls rows
  never = never-falls kind rows line replayable.of_kind replayable.valid

  pub at : (place : ℕ) → place ≤ length rows → (zs : List ℤ) × LineAt kind rows place zs
  at place within = line-at kind rows place line replayable.of_kind replayable.valid within

  pub size-at : (place size : ℕ) (zs : List ℤ) → LineAt kind rows place zs → pos size ≡ grown sign_of rows place → length zs ≡ size
  size-at place size zs found is = omega (arith, ints, found.size, is)

  -- the answer, by what the question asks for
  answered : (place size : ℕ) (question : Question) (asked : Asked) (within : place ≤ length rows) → pos size ≡ grown sign_of rows place → AsksOf question size asked
      → answer_of (state_at kind rows place) question ≡ answer_in (at place within).0 asked
  answered place size question asked within is asks =
      let found = at place within in
      ap (λ state. answer_of state question) found.1.state ∙ asks.answers found.0 (size-at place size found.0 found.1 is)

  pub answered-size : (place size : ℕ) (question : Question) (value : ℤ) → place ≤ length rows → pos size ≡ grown sign_of rows place → AsksOf question size asks.Size → value ≡ pos size
      → answers.Number value ≡ answer_of (state_at kind rows place) question
  answered-size place size question value within is asked value_is =
      let found = at place within in
      ap (λ v. answers.Number v) (value_is ∙ ap pos (sym (size-at place size found.0 found.1 is))) ∙ sym (answered place size question asks.Size within is asked)

  pub answered-item : (place size index : ℕ) (question : Question) (value : ℤ) → place ≤ length rows → pos size ≡ grown sign_of rows place → AsksOf question size (asks.Item index)
      → ((zs : List ℤ) → LineAt kind rows place zs → slice_get zs index ≡ Some value) → answers.Number value ≡ answer_of (state_at kind rows place) question
  answered-item place size index question value within is asked item =
      let found = at place within in
      sym (answered place size question (asks.Item index) within is asked ∙ ap number_of (item found.0 found.1))

  pub answered-nothing : (place size : ℕ) (question : Question) → place ≤ length rows → pos size ≡ grown sign_of rows place → AsksOf question size asks.Nothing
      → answers.Nothing ≡ answer_of (state_at kind rows place) question
  answered-nothing place size question within is asked = sym (answered place size question asks.Nothing within is asked)

  -- the first items of the line, as a listing
  abbrev pub listed_to : ℕ → ℕ → List Item → Type 0
  listed_to place index listing = (zs : List ℤ) → LineAt kind rows place zs → listing ≡ map (λ x. contents.Single x) (take index zs)

  pub listed-none : (place : ℕ) → listed_to place 0 []
  listed-none place zs found = refl

  same_value : (z value : ℤ) → ◌≡◌ {A = Option ℤ} (Some z) (Some value) → z ≡ value
  same_value z value is = cc

  one_more : (zs : List ℤ) (index : ℕ) (value : ℤ) → slice_get zs index ≡ Some value → map (λ x. contents.Single x) (take (index + 1) zs) ≡ map (λ x. contents.Single x) (take index zs) ++ contents.Single value ∷ []
  one_more zs index value is = listed_more zs index (index + 1) (omega arith) is where
    listed_more : (zs : List ℤ) (index next : ℕ) → next ≡ suc index → slice_get zs index ≡ Some value → map (λ x. contents.Single x) (take next zs)
        ≡ map (λ x. contents.Single x) (take index zs) ++ contents.Single value ∷ []
    listed_more [] zero next more is = absurd (cc)
    listed_more [] (suc index) next more is = absurd (cc)
    listed_more (z ∷ zs) zero next more is = ap (λ n. map (λ x. contents.Single x) (take n (z ∷ zs))) more ∙ ap (λ y. contents.Single y ∷ []) (same_value z value is)
    listed_more (z ∷ zs) (suc index) next more is =
        ap (λ n. map (λ x. contents.Single x) (take n (z ∷ zs))) more ∙ ap (λ ys. contents.Single z ∷ ys) (listed_more zs index (suc index) refl is)

  pub listed-more : (place index : ℕ) (value : ℤ) (listing : List Item) → ((zs : List ℤ) → LineAt kind rows place zs → slice_get zs index ≡ Some value)
      → listed_to place index listing → listed_to place (index + 1) (listing ++ contents.Single value ∷ [])
  listed-more place index value listing item before zs found = ap (λ xs. xs ++ contents.Single value ∷ []) (before zs found) ∙ sym (one_more zs index value (item zs found))

  map_length : (zs : List ℤ) → length (map (λ x. contents.Single x) zs) ≡ length zs
  map_length [] = refl
  map_length (z ∷ zs) = ap suc (map_length zs)

  pub listed-length : (place size index : ℕ) (listing : List Item) → place ≤ length rows → pos size ≡ grown sign_of rows place → index ≤ size → listed_to place index listing → length listing ≡ index
  listed-length place size index listing within is below before =
      let found = at place within in
      ap length (before found.0 found.1) ∙ map_length (take index found.0) ∙ length-take-le index found.0 (omega (arith, size-at place size found.0 found.1 is))

  pub listed-all : (place size : ℕ) (listing : List Item) → place ≤ length rows → pos size ≡ grown sign_of rows place → listed_to place size listing → listing ≡ content (state_at kind rows place)
  unfolding content
  listed-all place size listing within is all =
      let found = at place within in
      all found.0 found.1 ∙ ap (map (λ x. contents.Single x)) (take_all size found.0 (omega (arith, size-at place size found.0 found.1 is))) ∙ sym (ap content found.1.state)

  -- what fails
  pub fails-with : (place : ℕ) (row : Row) (answer : Option ℕ) → kind_of row.op ≡ kind → FallsFirst (insert rows place row) answer → answer ≡ failure kind (insert rows place row)
  fails-with place row answer of_kind falls =
      sym (failure-falls kind (insert rows place row) answer line (all_with (λ r. kind_of r.op ≡ kind) rows place row replayable.of_kind of_kind) falls)

  pub fails-without : (place : ℕ) (answer : Option ℕ) → FallsFirst (remove rows place) answer → answer ≡ failure kind (remove rows place)
  fails-without place answer falls =
      sym (failure-falls kind (remove rows place) answer line (all_without (λ r. kind_of r.op ≡ kind) rows place replayable.of_kind) falls)
