-- What is answered to a name's own lines among others is what is answered to them alone: line by line, the bench of the own lines
-- is the share of the name in the bench of all.
use Rattle.std.proofs.Common.{◌≡◌, ◌≢◌, ℕ, Bool, true, false, cond, not, ◌&&◌, List, [], ◌∷◌, refl, sym, ap, ◌∙◌, subst, Option, Some, None}
use Rattle.std.specs.Str.{bytes_eq}
use Rattle.retro_base.specs.LineLength.{is_long}
use Rattle.script_grammar.specs.BlockLines.{is_end}
use Rattle.reactions.specs.declared.outcome.Outcome.TheVariants.{Silent, Refused}
use Rattle.reactions.specs.declared.outcome.Refusal.TheVariants as refusals
use Rattle.reactions.specs.Bench.{NamedTimeline, OpenBlock, Bench, empty_bench}
use Rattle.script_laws.specs.OwnLines.{name_of_block, names, event_of, block_after, own_from, close_answers, own_answers_from, answers_from, MeetsNoLimit, OwnLinesAlone}
use Rattle.reactions.specs.Reaction.{BenchEffect, leaves, ends, inside, happens, spelled, with_block, with_line, reaction_of, reacts, opened, obeys}
use Rattle.script_laws.proofs.Shares.{share, share_of_block, share_of_bench, share_of_all, own_obeys, own_opened, other_obeys, other_opened, own_closes, other_closes}

module _ (name : List ℕ) where
  -- the share of a block that is open for the name, and for another
  own_block : (block : OpenBlock) → bytes_eq block.name name ≡ true → share_of_block name (Some block) ≡ Some block
  own_block block is = rw is refl

  other_block : (block : OpenBlock) → bytes_eq block.name name ≡ false → share_of_block name (Some block) ≡ None
  other_block block apart = rw apart refl

  -- the end of the input
  own_ends : (timelines : List NamedTimeline) (block : OpenBlock) (ended : Bool) → bytes_eq block.name name ≡ true
      → (ends timelines (Some block) ended).outcome ≢ Refused refusals.Timelines
      → share_of_all name (ends timelines (Some block) ended) ≡ ends (share name timelines) (Some block) ended
  own_ends timelines block ended is room = ap (with_block None) (own_closes name timelines block ended is room)

  -- a line that is about the name
  own_inside : (timelines : List NamedTimeline) (block : OpenBlock) (line : List ℕ) (long : Bool) → bytes_eq block.name name ≡ true
      → (inside timelines block line long).outcome ≢ Refused refusals.Timelines
      → share_of_all name (inside timelines block line long) ≡ inside (share name timelines) block line long
  own_inside timelines block line long is room =
      elim (not long && is_end line) as (λ b. (not long && is_end line) ≡ b → share_of_all name (inside timelines block line long) ≡ inside (share name timelines) block line long) [
        | true ↦ λ closes. rw closes (own_ends timelines block true is (rw closes at room))
        | false ↦ λ goes_on. rw goes_on (ap (λ b. with_block b (leaves (share name timelines) Silent)) (own_block (with_line block line long) is))
      ] refl

  own_happens : (timelines : List NamedTimeline) (block : Option OpenBlock) (line : List ℕ) → names name (event_of (name_of_block block) line) ≡ true
      → (happens timelines block line (is_long line)).outcome ≢ Refused refusals.Timelines
      → share_of_all name (happens timelines block line (is_long line)) ≡ happens (share name timelines) (share_of_block name block) line (is_long line)
  own_happens timelines None line is room =
      let spells = spelled line (is_long line) in
      ap (λ e. with_block (share_of_block name (opened spells)) e) (own_obeys name timelines spells is room)
      ∙ ap (λ b. with_block b (obeys (share name timelines) spells)) (own_opened name spells is)
  own_happens timelines (Some block) line is room =
      own_inside timelines block line (is_long line) is room ∙ ap (λ b. happens (share name timelines) b line (is_long line)) (sym (own_block block is))

  -- a line that is about another timeline, or about none
  other_inside : (timelines : List NamedTimeline) (block : OpenBlock) (line : List ℕ) (long : Bool) → bytes_eq block.name name ≡ false
      → share_of_bench name (inside timelines block line long).bench ≡ record { timelines = share name timelines; block = None }
  other_inside timelines block line long apart =
      elim (not long && is_end line) as (λ b. (not long && is_end line) ≡ b
      → share_of_bench name (inside timelines block line long).bench ≡ record { timelines = share name timelines; block = None }) [
        | true ↦ λ closes. rw closes (ap (λ ts. record { timelines = ts; block = None }) (other_closes name timelines block true apart))
        | false ↦ λ goes_on. rw goes_on (ap (λ b. record { timelines = share name timelines; block = b }) (other_block (with_line block line long) apart))
      ] refl

  other_happens : (timelines : List NamedTimeline) (block : Option OpenBlock) (line : List ℕ) → names name (event_of (name_of_block block) line) ≡ false
      → share_of_bench name (happens timelines block line (is_long line)).bench ≡ record { timelines = share name timelines; block = share_of_block name block }
  other_happens timelines None line apart =
      let spells = spelled line (is_long line) in
      rw (other_obeys name timelines spells apart, other_opened name spells apart) refl
  other_happens timelines (Some block) line apart =
      other_inside timelines block line (is_long line) apart ∙ ap (λ b. record { timelines = share name timelines; block = b }) (sym (other_block block apart))

  -- the block that is open after a line has the name that the lines give
  block_named : (timelines : List NamedTimeline) (block : Option OpenBlock) (line : List ℕ)
      → block_after (name_of_block block) line ≡ name_of_block (happens timelines block line (is_long line)).bench.block
  block_named timelines None line = refl
  block_named timelines (Some block) line =
      elim (not (is_long line) && is_end line) as (λ b. cond b None (Some block.name)
      ≡ name_of_block (cond b (ends timelines (Some block) true) (with_block (Some (with_line block line (is_long line))) (leaves timelines Silent))).bench.block) [
        | true ↦ refl
        | false ↦ refl
      ]

  -- at the end of the input
  end_answers : (timelines : List NamedTimeline) (block : Option OpenBlock) → (ends timelines block false).outcome ≢ Refused refusals.Timelines
      → cond (names name (name_of_block block)) ((reaction_of (ends timelines block false)).answer ∷ []) []
      ≡ close_answers (share_of_block name block) (reaction_of (ends (share name timelines) (share_of_block name block) false)).answer
  end_answers timelines None room = refl
  end_answers timelines (Some block) room =
      elim (bytes_eq block.name name) as (λ b. bytes_eq block.name name ≡ b
      → cond (bytes_eq block.name name) ((reaction_of (ends timelines (Some block) false)).answer ∷ []) []
      ≡ close_answers (share_of_block name (Some block)) (reaction_of (ends (share name timelines) (share_of_block name (Some block)) false)).answer) [
        | true ↦ λ is. rw is (ap (λ e. (reaction_of e).answer ∷ []) (own_ends timelines block false is room))
        | false ↦ λ apart. rw apart refl
      ] refl

  alone_from : (bench : Bench) (block : Option (List ℕ)) (lines : List (List ℕ)) → block ≡ name_of_block bench.block → MeetsNoLimit bench lines
      → own_answers_from name block bench lines ≡ answers_from (share_of_bench name bench) (own_from name block lines)
  unfolding own_answers_from own_from answers_from
  alone_from bench block [] is room = rw is (end_answers bench.timelines bench.block room)
  alone_from bench block (line ∷ more) is room =
      let after : block_after block line ≡ name_of_block (reacts bench line).bench.block =
      ap (λ b. block_after b line) is ∙ block_named bench.timelines bench.block line in
      let rest = alone_from (reacts bench line).bench (block_after block line) more after room.1 in
      elim (names name (event_of block line)) as (λ b. names name (event_of block line) ≡ b
      → cond b ((reacts bench line).answer ∷ own_answers_from name (block_after block line) (reacts bench line).bench more) (own_answers_from name (block_after block line) (reacts bench line).bench more)
      ≡ answers_from (share_of_bench name bench) (cond b (line ∷ own_from name (block_after block line) more) (own_from name (block_after block line) more))) [
        | true ↦ λ own.
            let same : share_of_all name (happens bench.timelines bench.block line (is_long line))
            ≡ happens (share name bench.timelines) (share_of_block name bench.block) line (is_long line) =
            own_happens bench.timelines bench.block line (subst (λ b. names name (event_of b line) ≡ true) is own) room.0 in
            ap (λ xs. (reacts bench line).answer ∷ xs) rest
            ∙ ap (λ (e : BenchEffect). (reaction_of e).answer ∷ answers_from e.bench (own_from name (block_after block line) more)) same
        | false ↦ λ apart.
            rest ∙ ap (λ b. answers_from b (own_from name (block_after block line) more))
            (other_happens bench.timelines bench.block line (subst (λ b. names name (event_of b line) ≡ false) is apart))
      ] refl

pub own_lines_alone : OwnLinesAlone
own_lines_alone name lines room = alone_from name empty_bench None lines refl room
