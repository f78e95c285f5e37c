-- Where a run of lines met out of memory, and which answers it had written by then.
use Rattle.std.specs.Prelude.{◌≡◌, ◌⊎◌, ℕ, true, List, [], ◌∷◌, ◌++◌, Option, None, Some, Result}
use Rattle.retro_io.specs.declared.source.Failed.{Failed}
use Rattle.retro_io.specs.declared.source.Source.{Ghosts}
use Rattle.retro_io.specs.DueReads.{given_by}
use Rattle.retro_io.specs.Lines.{lines}
use Rattle.retro_run.specs.Output.{Answering, up_to_last_feed}
use Rattle.retro_run.specs.Run.{AppendsAnswersTo}

-- the last read of a source gave these bytes, after those that were taken early; of the script the others are left
pub record IsLastRead {S : Type 0} (I : Ghosts S) (source' : S) (script left early last : List ℕ) : Type 0 where
  pub cut : script ≡ early ++ (last ++ left)
  pub before : S
  pub room : ℕ
  pub answer : Result (List ℕ) Failed
  pub read : I.reads before room answer source'
  pub gave : given_by answer ≡ last

-- the source at the start of a run and where it stops, the script, and what the source has left of it
module _ {S : Type 0} (I : Ghosts S) (source source' : S) (script left : List ℕ) where
  -- before the first line: nothing was read
  abbrev pub IsMetAtStart : List (List ℕ) → Type 0
  IsMetAtStart answered = (source' ≡ source) × (answered ≡ [])

  -- at a line that was taken, the next one after those answered; and each line that ended before the last read is answered
  pub record IsMetAtLine (answered unanswered : List (List ℕ)) : Type 0 where
    pub early : List ℕ
    pub last : List ℕ
    pub reads : IsLastRead I source' script left early last
    pub line : List ℕ
    pub others : List (List ℕ)
    pub taken : lines (early ++ last) ≡ answered ++ line ∷ others
    pub unread : List (List ℕ)
    pub next : unanswered ≡ line ∷ unread
    pub later : List (List ℕ)
    pub early_answered : answered ≡ lines (up_to_last_feed early) ++ later

  -- at the close: the source has answered its end, and all lines are answered
  abbrev pub IsMetAtClose : List (List ℕ) → Type 0
  IsMetAtClose unanswered = (I.ended source' ≡ true) × (left ≡ []) × (unanswered ≡ [])

  -- exactly the answers to the lines before the one that met it were appended, whole
  pub record AppendsAnswersToEarlier (answering : Answering) (before after : Option (List ℕ)) : Type 0 where
    pub answers : AppendsAnswersTo answering script before after
    pub met : IsMetAtStart answers.answered ⊎ (IsMetAtLine answers.answered answers.unanswered ⊎ IsMetAtClose answers.unanswered)

-- the same where the source tells the script and what is left of it
abbrev pub AppendsAnswersOfEarlier : {S : Type 0} → Ghosts S → Answering → S → S → Option (List ℕ) → Option (List ℕ) → Option (List ℕ) → Option (List ℕ) → Type 0
AppendsAnswersOfEarlier I answering source source' None left before after = Unit {0}
AppendsAnswersOfEarlier I answering source source' (Some script) None before after = ⊥
AppendsAnswersOfEarlier I answering source source' (Some script) (Some left) before after = AppendsAnswersToEarlier I source source' script left answering before after
