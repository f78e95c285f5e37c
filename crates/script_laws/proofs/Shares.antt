-- The share of one name in a bench: its timeline, and the block that is being read for it. A line that is about the name does to
-- the share what it does to the bench, and any other line leaves the share as it is.
--
--     bench     jobs  water  [block of jobs]        a line about jobs        jobs' water
--     share     jobs         [block of jobs]                                 jobs'
use Rattle.std.proofs.Common.{◌≡◌, ◌≢◌, ℕ, ◌≤◌, ◌<◌, Bool, true, false, cond, nat_le, List, [], ◌∷◌, ◌++◌, length, refl, sym, ap, ◌∙◌, subst, arith, append-nil, Option, Some, None, Result, Ok, Err}
use Rattle.std.specs.List.{filter}
use Rattle.std.specs.Str.{bytes_eq}
use Rattle.std.proofs.lemmas.Bool.{leb-false, lt-leb}
use Rattle.std.proofs.lemmas.List.Elements.{filter-append}
use Rattle.std.proofs.lemmas.Map.Views.{any-filter_same}
use Rattle.retro_base.specs.declared.row.Row.{Row}
use Rattle.retro_base.specs.Limits.{most_timelines}
use Rattle.script_grammar.specs.declared.command.Command.{Command}
use Rattle.script_grammar.specs.declared.command.Command.TheVariants.{Nothing, New, Insert, Delete, Move, Change, Fate, Ask, Undo, Redo, Save, Mute, Header}
use Rattle.script_grammar.specs.declared.command.LineError.{LineError}
use Rattle.script_grammar.specs.declared.command.LineError.TheVariants as errors
use Rattle.timeline_file.specs.declared.block.BlockError.{BlockError}
use Rattle.timeline_file.specs.Block.{finished}
use Rattle.reactions.specs.declared.outcome.Outcome.{Outcome}
use Rattle.reactions.specs.declared.outcome.Outcome.TheVariants.{Accepted, Refused}
use Rattle.reactions.specs.declared.outcome.Refusal.TheVariants as refusals
use Rattle.reactions.specs.Bench.{NamedTimeline, OpenBlock, Bench, fresh, is_named, has_timeline}
use Rattle.script_laws.specs.OwnLines.{name_in, names}
use Rattle.reactions.specs.Reaction.{Effect, BenchEffect, leaves, if_startable, with_timeline, on_named, obeys, of_block, loads, closes, opened}
use Rattle.reactions.specs.Reported.{loaded}
use Rattle.reactions.specs.TimelineEffects.{TimelineEffect, unchanged, inserts, deletes, moves, changes, answers, answers_fate, undoes, redoes, saves}
use Rattle.script_laws.proofs.Names.{KeepsName, inserts_keeps_name, deletes_keeps_name, moves_keeps_name, changes_keeps_name, undoes_keeps_name, redoes_keeps_name}
use Rattle.retro_base.specs.Facts.{same_bytes}

-- the share of a name in the timelines, in the block, and in what becomes of them
abbrev pub share : List ℕ → List NamedTimeline → List NamedTimeline
share name timelines = filter (is_named name) timelines

abbrev pub share_of_block : List ℕ → Option OpenBlock → Option OpenBlock
share_of_block name None = None
share_of_block name (Some block) = cond (bytes_eq block.name name) (Some block) None

abbrev pub share_of_bench : List ℕ → Bench → Bench
share_of_bench name bench = record { timelines = share name bench.timelines; block = share_of_block name bench.block }

abbrev share_of_effect : List ℕ → Effect → Effect
share_of_effect name effect = record { timelines = share name effect.timelines; outcome = effect.outcome }

abbrev pub share_of_all : List ℕ → BenchEffect → BenchEffect
share_of_all name effect = record { bench = share_of_bench name effect.bench; outcome = effect.outcome }

module _ (name : List ℕ) where
  -- one timeline more or less in front
  share-in : (first : NamedTimeline) (timelines : List NamedTimeline) → is_named name first ≡ true → share name (first ∷ timelines) ≡ first ∷ share name timelines
  share-in first timelines is = rw is refl

  share-out : (first : NamedTimeline) (timelines : List NamedTimeline) → is_named name first ≡ false → share name (first ∷ timelines) ≡ share name timelines
  share-out first timelines is = rw is refl

  shorter : (timelines : List NamedTimeline) → length (share name timelines) ≤ length timelines
  shorter [] = omega arith
  shorter (first ∷ timelines) =
      elim (is_named name first) as (λ b. is_named name first ≡ b → length (share name (first ∷ timelines)) ≤ length (first ∷ timelines)) [
        | true ↦ λ is. rw (share-in first timelines is) (omega (arith, shorter timelines))
        | false ↦ λ is. rw (share-out first timelines is) (omega (arith, shorter timelines))
      ] refl

  -- the timeline of the name is the same in the share
  own_named : (effect : NamedTimeline → TimelineEffect) → ((timeline : NamedTimeline) → KeepsName timeline (effect timeline)) → (timelines : List NamedTimeline)
      → share_of_effect name (on_named name effect timelines) ≡ on_named name effect (share name timelines)
  own_named effect keeps [] = refl
  own_named effect keeps (first ∷ timelines) =
      elim (is_named name first) as (λ b. is_named name first ≡ b
      → share_of_effect name (on_named name effect (first ∷ timelines)) ≡ on_named name effect (share name (first ∷ timelines))) [
        | true ↦ λ is.
            let still : is_named name (effect first).timeline ≡ true = ap (λ n. bytes_eq n name) (keeps first) ∙ is in
            rw (share-in first timelines is, is, share-in (effect first).timeline timelines still) refl
        | false ↦ λ is.
            rw (share-out first timelines is, is, share-out first (on_named name effect timelines).timelines is) (own_named effect keeps timelines)
      ] refl

  -- a timeline of another name is none of the share
  other_named : (other : List ℕ) (effect : NamedTimeline → TimelineEffect) → ((timeline : NamedTimeline) → KeepsName timeline (effect timeline)) → bytes_eq other name ≡ false
      → (timelines : List NamedTimeline) → share name (on_named other effect timelines).timelines ≡ share name timelines
  other_named other effect keeps apart [] = refl
  other_named other effect keeps apart (first ∷ timelines) =
      elim (is_named other first) as (λ b. is_named other first ≡ b → share name (on_named other effect (first ∷ timelines)).timelines ≡ share name (first ∷ timelines)) [
        | true ↦ λ is.
            let out : is_named name first ≡ false = ap (λ n. bytes_eq n name) (same_bytes first.name other is) ∙ apart in
            let still : is_named name (effect first).timeline ≡ false = ap (λ n. bytes_eq n name) (keeps first) ∙ out in
            rw (is, share-out (effect first).timeline timelines still, share-out first timelines out) refl
        | false ↦ λ is.
            rw is (ap (λ more. cond (is_named name first) (first ∷ more) more) (other_named other effect keeps apart timelines))
      ] refl

  -- a timeline that comes is in the share where it has the name
  own_comes : (timelines : List NamedTimeline) (timeline : NamedTimeline) (outcome : Outcome) → is_named name timeline ≡ true
      → share_of_effect name (with_timeline timelines timeline outcome) ≡ with_timeline (share name timelines) timeline outcome
  own_comes timelines timeline outcome is =
      ap (λ ts. leaves ts outcome)
      (filter-append (is_named name) timelines (timeline ∷ []) ∙ ap (λ ts. share name timelines ++ ts) (share-in timeline [] is))

  other_comes : (timelines : List NamedTimeline) (timeline : NamedTimeline) → is_named name timeline ≡ false
      → share name (timelines ++ timeline ∷ []) ≡ share name timelines
  other_comes timelines timeline is =
      filter-append (is_named name) timelines (timeline ∷ []) ∙ ap (λ ts. share name timelines ++ ts) (share-out timeline [] is) ∙ append-nil (share name timelines)

  -- whether a name is free is reported by its share
  has_share : (timelines : List NamedTimeline) → has_timeline name (share name timelines) ≡ has_timeline name timelines
  has_share timelines = any-filter_same (is_named name) (is_named name) true (λ timeline is. is) timelines

  own_startable : (timelines : List NamedTimeline) (big small : Effect) → share_of_effect name big ≡ small
      → (if_startable timelines name big).outcome ≢ Refused refusals.Timelines
      → share_of_effect name (if_startable timelines name big) ≡ if_startable (share name timelines) name small
  own_startable timelines big small same room =
      rw has_share
      (elim (has_timeline name timelines) as (λ taken. has_timeline name timelines ≡ taken
      → share_of_effect name (if_startable timelines name big)
      ≡ cond (has_timeline name timelines) (leaves (share name timelines) (Refused refusals.NameTaken))
      (cond (nat_le most_timelines (length (share name timelines))) (leaves (share name timelines) (Refused refusals.Timelines)) small)) [
        | true ↦ λ taken. rw taken refl
        | false ↦ λ free.
            elim (nat_le most_timelines (length timelines)) as (λ full. nat_le most_timelines (length timelines) ≡ full
            → share_of_effect name (if_startable timelines name big)
            ≡ cond (has_timeline name timelines) (leaves (share name timelines) (Refused refusals.NameTaken))
            (cond (nat_le most_timelines (length (share name timelines))) (leaves (share name timelines) (Refused refusals.Timelines)) small)) [
              | true ↦ λ full. absurd (room (rw (free, full) refl))
              | false ↦ λ open_room.
                  let few : length timelines < most_timelines = leb-false most_timelines (length timelines) open_room in
                  let fewer : length (share name timelines) < most_timelines = omega (arith, shorter timelines, few) in
                  rw (free, open_room, lt-leb most_timelines (length (share name timelines)) fewer) same
            ] refl
      ] refl)

  own_startable_as : (given : List ℕ) (timelines : List NamedTimeline) (big small : Effect) → given ≡ name → share_of_effect name big ≡ small
      → (if_startable timelines given big).outcome ≢ Refused refusals.Timelines
      → share_of_effect name (if_startable timelines given big) ≡ if_startable (share name timelines) given small
  own_startable_as given timelines big small same shared room =
      subst (λ g. share_of_effect name (if_startable timelines g big) ≡ if_startable (share name timelines) g small) (sym same)
      (own_startable timelines big small shared (subst (λ g. (if_startable timelines g big).outcome ≢ Refused refusals.Timelines) same room))

  other_startable : (timelines : List NamedTimeline) (other : List ℕ) (big : Effect) → share name big.timelines ≡ share name timelines
      → share name (if_startable timelines other big).timelines ≡ share name timelines
  other_startable timelines other big same =
      elim (has_timeline other timelines) as (λ b. share name (cond b (leaves timelines (Refused refusals.NameTaken))
      (cond (nat_le most_timelines (length timelines)) (leaves timelines (Refused refusals.Timelines)) big)).timelines ≡ share name timelines) [
        | true ↦ refl
        | false ↦ elim (nat_le most_timelines (length timelines)) as (λ b. share name (cond b (leaves timelines (Refused refusals.Timelines)) big).timelines ≡ share name timelines) [
          | true ↦ refl
          | false ↦ same
        ]
      ]

  -- the close of a block
  own_loads : (timelines : List NamedTimeline) (block : OpenBlock) (made : Result (List Row) BlockError) → bytes_eq block.name name ≡ true
      → share_of_effect name (loads timelines block made) ≡ loads (share name timelines) block made
  own_loads timelines block (Ok rows) is = own_comes timelines (of_block block rows) (loaded block.name block.block.kind rows) is
  own_loads timelines block (Err error) is = refl

  pub own_closes : (timelines : List NamedTimeline) (block : OpenBlock) (ended : Bool) → bytes_eq block.name name ≡ true
      → (closes timelines block ended).outcome ≢ Refused refusals.Timelines
      → share_of_effect name (closes timelines block ended) ≡ closes (share name timelines) block ended
  own_closes timelines block ended is room =
      own_startable_as block.name timelines (loads timelines block (finished block.block ended)) (loads (share name timelines) block (finished block.block ended))
      (same_bytes block.name name is) (own_loads timelines block (finished block.block ended) is) room

  other_loads : (timelines : List NamedTimeline) (block : OpenBlock) (made : Result (List Row) BlockError) → bytes_eq block.name name ≡ false
      → share name (loads timelines block made).timelines ≡ share name timelines
  other_loads timelines block (Ok rows) apart = other_comes timelines (of_block block rows) apart
  other_loads timelines block (Err error) apart = refl

  pub other_closes : (timelines : List NamedTimeline) (block : OpenBlock) (ended : Bool) → bytes_eq block.name name ≡ false
      → share name (closes timelines block ended).timelines ≡ share name timelines
  other_closes timelines block ended apart =
      other_startable timelines block.name (loads timelines block (finished block.block ended)) (other_loads timelines block (finished block.block ended) apart)

  -- a line outside a block that is about the name
  pub own_obeys : (timelines : List NamedTimeline) (line : Result Command LineError) → names name (name_in line) ≡ true
      → (obeys timelines line).outcome ≢ Refused refusals.Timelines → share_of_effect name (obeys timelines line) ≡ obeys (share name timelines) line
  own_obeys timelines (Err error) is room = absurd (cc)
  own_obeys timelines (Ok Nothing) is room = absurd (cc)
  own_obeys timelines (Ok (New other kind fused)) is room =
      own_startable_as other timelines (with_timeline timelines (fresh other kind) Accepted) (with_timeline (share name timelines) (fresh other kind) Accepted)
      (same_bytes other name is) (own_comes timelines (fresh other kind) Accepted is) room
  own_obeys timelines (Ok (Insert other spot op)) is room =
      rw (same_bytes other name is) (own_named (λ timeline. inserts timeline spot op) (inserts_keeps_name spot op) timelines)
  own_obeys timelines (Ok (Delete other number)) is room =
      rw (same_bytes other name is) (own_named (λ timeline. deletes timeline number) (deletes_keeps_name number) timelines)
  own_obeys timelines (Ok (Move other number time)) is room =
      rw (same_bytes other name is) (own_named (λ timeline. moves timeline number time) (moves_keeps_name number time) timelines)
  own_obeys timelines (Ok (Change other number op)) is room =
      rw (same_bytes other name is) (own_named (λ timeline. changes timeline number op) (changes_keeps_name number op) timelines)
  own_obeys timelines (Ok (Fate other number)) is room =
      rw (same_bytes other name is) (own_named (λ timeline. unchanged timeline (answers_fate timeline number)) (λ timeline. refl) timelines)
  own_obeys timelines (Ok (Ask other moment query)) is room =
      rw (same_bytes other name is) (own_named (λ timeline. unchanged timeline (answers timeline moment query)) (λ timeline. refl) timelines)
  own_obeys timelines (Ok (Undo other)) is room = rw (same_bytes other name is) (own_named undoes undoes_keeps_name timelines)
  own_obeys timelines (Ok (Redo other)) is room = rw (same_bytes other name is) (own_named redoes redoes_keeps_name timelines)
  own_obeys timelines (Ok (Save other)) is room =
      rw (same_bytes other name is) (own_named (λ timeline. unchanged timeline (saves timeline)) (λ timeline. refl) timelines)
  own_obeys timelines (Ok (Mute number)) is room = absurd (cc)
  own_obeys timelines (Ok (Header other kind next rows)) is room = refl

  -- and one that is about another, or about none
  pub other_obeys : (timelines : List NamedTimeline) (line : Result Command LineError) → names name (name_in line) ≡ false
      → share name (obeys timelines line).timelines ≡ share name timelines
  other_obeys timelines (Err errors.Long) apart = refl
  other_obeys timelines (Err errors.Syntax) apart = refl
  other_obeys timelines (Ok Nothing) apart = refl
  other_obeys timelines (Ok (New other kind fused)) apart =
      other_startable timelines other (with_timeline timelines (fresh other kind) Accepted) (other_comes timelines (fresh other kind) apart)
  other_obeys timelines (Ok (Insert other spot op)) apart = other_named other (λ timeline. inserts timeline spot op) (inserts_keeps_name spot op) apart timelines
  other_obeys timelines (Ok (Delete other number)) apart = other_named other (λ timeline. deletes timeline number) (deletes_keeps_name number) apart timelines
  other_obeys timelines (Ok (Move other number time)) apart = other_named other (λ timeline. moves timeline number time) (moves_keeps_name number time) apart timelines
  other_obeys timelines (Ok (Change other number op)) apart = other_named other (λ timeline. changes timeline number op) (changes_keeps_name number op) apart timelines
  other_obeys timelines (Ok (Fate other number)) apart =
      other_named other (λ timeline. unchanged timeline (answers_fate timeline number)) (λ timeline. refl) apart timelines
  other_obeys timelines (Ok (Ask other moment query)) apart =
      other_named other (λ timeline. unchanged timeline (answers timeline moment query)) (λ timeline. refl) apart timelines
  other_obeys timelines (Ok (Undo other)) apart = other_named other undoes undoes_keeps_name apart timelines
  other_obeys timelines (Ok (Redo other)) apart = other_named other redoes redoes_keeps_name apart timelines
  other_obeys timelines (Ok (Save other)) apart = other_named other (λ timeline. unchanged timeline (saves timeline)) (λ timeline. refl) apart timelines
  other_obeys timelines (Ok (Mute number)) apart = refl
  other_obeys timelines (Ok (Header other kind next rows)) apart = refl

  -- the block that a line opens is in the share where the line is about the name
  pub own_opened : (line : Result Command LineError) → names name (name_in line) ≡ true → share_of_block name (opened line) ≡ opened line
  own_opened (Err error) is = absurd (cc)
  own_opened (Ok Nothing) is = absurd (cc)
  own_opened (Ok (New other kind fused)) is = refl
  own_opened (Ok (Insert other spot op)) is = refl
  own_opened (Ok (Delete other number)) is = refl
  own_opened (Ok (Move other number time)) is = refl
  own_opened (Ok (Change other number op)) is = refl
  own_opened (Ok (Fate other number)) is = refl
  own_opened (Ok (Ask other moment query)) is = refl
  own_opened (Ok (Undo other)) is = refl
  own_opened (Ok (Redo other)) is = refl
  own_opened (Ok (Save other)) is = refl
  own_opened (Ok (Mute number)) is = absurd (cc)
  own_opened (Ok (Header other kind next rows)) is = rw is refl

  pub other_opened : (line : Result Command LineError) → names name (name_in line) ≡ false → share_of_block name (opened line) ≡ None
  other_opened (Err error) apart = refl
  other_opened (Ok Nothing) apart = refl
  other_opened (Ok (New other kind fused)) apart = refl
  other_opened (Ok (Insert other spot op)) apart = refl
  other_opened (Ok (Delete other number)) apart = refl
  other_opened (Ok (Move other number time)) apart = refl
  other_opened (Ok (Change other number op)) apart = refl
  other_opened (Ok (Fate other number)) apart = refl
  other_opened (Ok (Ask other moment query)) apart = refl
  other_opened (Ok (Undo other)) apart = refl
  other_opened (Ok (Redo other)) apart = refl
  other_opened (Ok (Save other)) apart = refl
  other_opened (Ok (Mute number)) apart = refl
  other_opened (Ok (Header other kind next rows)) apart = rw apart refl
