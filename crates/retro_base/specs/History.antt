-- What can be undone of a timeline, and what can be redone.
use Rattle.std.specs.Prelude.{◌-◌, List, [], ◌∷◌, ◌++◌, length, take, drop, slice_get, Option}
use Rattle.retro_base.specs.Edits.{Step}
use Rattle.retro_base.specs.Limits.{most_steps}

-- the accepted steps that can be undone, and the undone ones that can be redone, each list with its newest step last
pub record History : Type 0 where
  pub undo : List Step
  pub redo : List Step

-- nothing was done so far
abbrev pub no_history : History
no_history = record { undo = []; redo = [] }

-- as many of the newest steps as are kept
abbrev pub newest : List Step → List Step
newest steps = drop (length steps - most_steps) steps

-- the newest step, where there is one, and those before it
abbrev pub newest_step : List Step → Option Step
newest_step steps = slice_get steps (length steps - 1)

abbrev pub older_steps : List Step → List Step
older_steps steps = take (length steps - 1) steps

-- an accepted step is recorded: the oldest one goes where there would be too many, and what was undone cannot be redone
abbrev pub recorded : Step → History → History
recorded step history = record { undo = newest (history.undo ++ step ∷ []); redo = [] }

-- the newest step is undone: it can be redone
abbrev pub undone : Step → History → History
undone step history = record { undo = older_steps history.undo; redo = history.redo ++ step ∷ [] }

-- the step that was undone last is redone: it can be undone
abbrev pub redone : Step → History → History
redone step history = record { undo = history.undo ++ step ∷ []; redo = older_steps history.redo }
