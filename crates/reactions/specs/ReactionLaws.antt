-- Laws of the reaction to a line, which the proofs of the layer above may cite.
use Rattle.std.proofs.Common.{◌≡◌, ℕ, suc, Bool, true, false, cond, List, [], ◌∷◌, length, slice_get, take, drop, refl, sym, ap, Option, Some, None}
use Rattle.std.specs.Prelude.{option_map, option_and_then}
use Rattle.std.proofs.lemmas.Bool.{ltb-false}
use Rattle.std.proofs.lemmas.List.{take_all}
use Rattle.retro_base.specs.Holders.{holders, holds}
use Rattle.retro_base.specs.declared.kind.Kind.{Kind}
use Rattle.retro_base.specs.declared.kind.Kind.TheVariants.{Queue, Stack, Deque, Dict, Pq}
use Rattle.retro_base.specs.declared.row.Row.{Row}
use Rattle.retro_base.specs.Edits.{Step}
use Rattle.retro_base.specs.Kind.{adds}
use Rattle.retro_base.specs.Limits.{longest_line}
use Rattle.retro_base.specs.LineLength.{is_long}
use Rattle.retro_base.specs.Places.{place_of_row}
use Rattle.timeline_file.specs.Block.{taken}
use Rattle.reactions.specs.declared.outcome.Outcome.{Outcome}
use Rattle.reactions.specs.declared.outcome.Outcome.TheVariants.{Taken, Stays, Refused}
use Rattle.reactions.specs.declared.outcome.Refusal.TheVariants as refusals
use Rattle.reactions.specs.Bench.{NamedTimeline, OpenBlock, Bench}
use Rattle.reactions.specs.Outcome.{is_refusal}
use Rattle.reactions.specs.Reaction.{happens, reaction_of, reacts, reacts_to}
use Rattle.reactions.specs.Reported.{reported}
use Rattle.reactions.specs.TimelineEffects.{answers_fate, fate_at, fate_from, if_row}

-- what stands after the first bytes of a long line has no effect
happens-long : (timelines : List NamedTimeline) (block : Option OpenBlock) (line first : List ℕ) → happens timelines block line true ≡ happens timelines block first true
unfolding taken
happens-long timelines None line first = refl
happens-long timelines (Some unclosed) line first = refl

reacts-long : (bench : Bench) (line first : List ℕ) (long : Bool) → (long ≡ false → first ≡ line) → reacts_to bench line long ≡ reacts_to bench first long
reacts-long bench line first true whole = ap reaction_of (happens-long bench.timelines bench.block line first)
reacts-long bench line first false whole = ap (λ bytes. reacts_to bench bytes false) (sym (whole refl))

-- a line is known by its first bytes, as many as a line may have, and by whether it has more
pub reacts-first : (bench : Bench) (line : List ℕ) → reacts bench line ≡ reacts_to bench (take longest_line line) (is_long line)
reacts-first bench line = reacts-long bench line (take longest_line line) (is_long line) (λ short. take_all longest_line line (ltb-false longest_line (length line) short))

-- what is reported of an accepted step is no refusal
pub reported_is_no_refusal : (name : List ℕ) (kind : Kind) (rows : List Row) (step : Step) (plain : Outcome) → is_refusal plain ≡ false
    → is_refusal (reported name kind rows step plain) ≡ false
reported_is_no_refusal name Queue rows step plain accepted = accepted
reported_is_no_refusal name Stack rows step plain accepted = accepted
reported_is_no_refusal name Deque rows step plain accepted = accepted
reported_is_no_refusal name Dict rows step plain accepted = accepted
reported_is_no_refusal name Pq rows [] plain accepted = accepted
reported_is_no_refusal name Pq rows (edit ∷ more) plain accepted = refl

-- what holds of each answer that a fate may have holds of a fate
module _ (P : Outcome → Type 0) (taken : (number time : ℕ) → P (Taken number time)) (stays : P Stays)
    (missing : (number : ℕ) → P (Refused (refusals.NoRow number))) (taking : (number : ℕ) → P (Refused (refusals.NoItem number))) (timeline : NamedTimeline) where
  fate_from-each : (number place : ℕ) (later : List Row) → P (fate_from timeline number place later)
  fate_from-each number place [] = stays
  fate_from-each number place (row ∷ later) =
      elim (holds number (holders timeline.kind timeline.rows (suc place))) as (λ b. P (cond b (fate_from timeline number (suc place) later) (Taken row.number row.time))) [
        | true ↦ fate_from-each number (suc place) later
        | false ↦ taken row.number row.time
      ]

  fate_at-each : (place : ℕ) (row : Row) → P (fate_at timeline place row)
  fate_at-each place row =
      elim (adds row.op) as (λ b. P (cond b (fate_from timeline row.number (suc place) (drop (suc place) timeline.rows)) (Refused (refusals.NoItem row.number)))) [
        | true ↦ fate_from-each row.number (suc place) (drop (suc place) timeline.rows)
        | false ↦ taking row.number
      ]

  fate_there-each : (number place : ℕ) (row : Option Row) → P (if_row number (option_map (fate_at timeline place) row))
  fate_there-each number place None = missing number
  fate_there-each number place (Some row) = fate_at-each place row

  fate_found-each : (number : ℕ) (place : Option ℕ) → P (if_row number (option_and_then (λ p. option_map (fate_at timeline p) (slice_get timeline.rows p)) place))
  fate_found-each number None = missing number
  fate_found-each number (Some place) = fate_there-each number place (slice_get timeline.rows place)

  pub answers_fate-each : (number : ℕ) → P (answers_fate timeline number)
  unfolding answers_fate
  answers_fate-each number = fate_found-each number (place_of_row number timeline.rows)
