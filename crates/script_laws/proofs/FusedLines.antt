-- A line that starts a fused priority queue has the effect of one that starts a plain one.
use Rattle.std.proofs.Common.{◌≡◌, ℕ, false, List, [], ◌∷◌, refl, ap, ◌∙◌, Option, Some, None}
use Rattle.std.specs.Prelude.{codes}
use Rattle.std.specs.Option.{ok_or}
use Rattle.retro_base.specs.Name.{name_of}
use Rattle.script_grammar.specs.BlockLines.{is_end, is_passed_over, row_read}
use Rattle.script_grammar.specs.Command.{command, command_of}
use Rattle.script_grammar.specs.Numbers.{row_number_of}
use Rattle.script_grammar.specs.Words.{words}
use Rattle.script_grammar.specs.declared.command.LineError.TheVariants.{Syntax}
use Rattle.timeline_file.specs.Block.{Block, taken}
use Rattle.reactions.specs.Bench.{NamedTimeline, OpenBlock, Bench, empty_bench}
use Rattle.script_laws.specs.FusedLines.{AreStarts, DifferInPieces, FusedAnswersAlike}
use Rattle.script_laws.specs.OwnLines.{answers_from}
use Rattle.reactions.specs.Reaction.{Reaction, happens, outside, reaction_of, reacts}

module _ (name : List ℕ) where
  abbrev plain_words : List (List ℕ)
  plain_words = codes "new" ∷ name ∷ codes "pq" ∷ []

  abbrev fused_words : List (List ℕ)
  fused_words = codes "new" ∷ name ∷ codes "pqf" ∷ []

  -- outside a block, whatever the name is
  outside_alike : (timelines : List NamedTimeline) → outside timelines (ok_or (command_of fused_words) Syntax) ≡ outside timelines (ok_or (command_of plain_words) Syntax)
  outside_alike timelines = elim (name_of name) as (λ named. name_of name ≡ named → outside timelines (ok_or (command_of fused_words) Syntax) ≡ outside timelines (ok_or (command_of plain_words) Syntax)) [
    | None ↦ λ is. rw is refl
    | Some n ↦ λ is. rw is refl
  ] refl

module _ (line other : List ℕ) (are : AreStarts line other) where
  commands_alike : (timelines : List NamedTimeline) → outside timelines (command other) ≡ outside timelines (command line)
  unfolding command
  commands_alike timelines = rw (are.plain, are.fused) (outside_alike are.name timelines)

  no_row : (bytes : List ℕ) (rest : List (List ℕ)) → words bytes ≡ codes "new" ∷ rest → row_read bytes ≡ None
  unfolding row_read row_number_of
  no_row bytes rest is = rw is refl

  counted : (bytes : List ℕ) (rest : List (List ℕ)) → words bytes ≡ codes "new" ∷ rest → is_passed_over bytes ≡ false
  unfolding is_passed_over
  counted bytes rest is = rw is refl

  no_end : (bytes word : List ℕ) (rest : List (List ℕ)) → words bytes ≡ codes "new" ∷ word ∷ rest → is_end bytes ≡ false
  unfolding is_end
  no_end bytes word rest is = rw is refl

  taken_alike : (block : Block) → taken block other false ≡ taken block line false
  unfolding taken
  taken_alike block =
      rw (counted line _ are.plain, counted other _ are.fused, no_row line _ are.plain, no_row other _ are.fused) refl

  happens_alike : (timelines : List NamedTimeline) (block : Option OpenBlock) → happens timelines block other false ≡ happens timelines block line false
  happens_alike timelines None = commands_alike timelines
  happens_alike timelines (Some unclosed) =
      rw (no_end line _ _ are.plain, no_end other _ _ are.fused, taken_alike unclosed.block) refl

  pub reacts_alike : (bench : Bench) → reacts bench other ≡ reacts bench line
  reacts_alike bench = rw (are.line_short, are.other_short) (ap reaction_of (happens_alike bench.timelines bench.block))

answers_alike : (bench : Bench) (lines others : List (List ℕ)) → DifferInPieces lines others → answers_from bench others ≡ answers_from bench lines
unfolding answers_from
answers_alike bench lines others DifferInPieces.none = refl
answers_alike bench lines others (DifferInPieces.alike line more more' rest) =
    ap (λ answers. (reacts bench line).answer ∷ answers) (answers_alike (reacts bench line).bench more more' rest)
answers_alike bench lines others (DifferInPieces.starts line other more more' are rest) =
    ap (λ (r : Reaction). r.answer ∷ answers_from r.bench more') (reacts_alike line other are bench)
    ∙ ap (λ answers. (reacts bench line).answer ∷ answers) (answers_alike (reacts bench line).bench more more' rest)

pub fused_answers_alike : FusedAnswersAlike
fused_answers_alike lines others differ = answers_alike empty_bench lines others differ
