-- A law of lines that mute a follower.
use Rattle.std.proofs.Common.{◌≡◌, ℕ, Bool, List, ap, Option, Some, None, Result, Ok, arith}
use Rattle.script_grammar.specs.declared.command.Command.{Command}
use Rattle.script_grammar.specs.declared.command.Command.TheVariants.{Mute}
use Rattle.script_grammar.specs.declared.command.LineError.{LineError}
use Rattle.reactions.specs.Bench.{NamedTimeline, OpenBlock}
use Rattle.reactions.specs.declared.outcome.Outcome.TheVariants.{Refused}
use Rattle.reactions.specs.declared.outcome.Refusal.TheVariants as refusals
use Rattle.reactions.specs.Reaction.{happens, leaves, outside, spelled, with_block}
use Rattle.retro_run.specs.Audience.{mutes, number_muted}

-- a line that mutes a follower spells that
spells_mute : (line : Result Command LineError) (number : ℕ) → number_muted line ≡ Some number → line ≡ Ok (Mute number)
spells_mute line number is = grind arith

-- the bench refuses a line that mutes, and stays as it is
pub refuses_mute : (timelines : List NamedTimeline) (block : Option OpenBlock) (bytes : List ℕ) (long : Bool) (number : ℕ) → mutes block bytes long ≡ Some number
    → happens timelines block bytes long ≡ with_block block (leaves timelines (Refused (refusals.NoFollower number)))
refuses_mute timelines None bytes long number is = ap (outside timelines) (spells_mute (spelled bytes long) number is)
refuses_mute timelines (Some block) bytes long number is = absurd (cc)
