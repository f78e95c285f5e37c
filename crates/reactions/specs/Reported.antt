-- The evidence that a priority queue gives of its edits, each over the rows before it, and the answer to an accepted step.
use Rattle.std.specs.Prelude.{ℕ, suc, true, false, List, [], ◌∷◌}
use Rattle.evidence.specs.declared.evidence.Evidence.{Evidence}
use Rattle.retro_base.specs.declared.kind.Kind.{Kind}
use Rattle.retro_base.specs.declared.kind.Kind.TheVariants.{Pq}
use Rattle.retro_base.specs.declared.row.Change.{Change}
use Rattle.retro_base.specs.declared.row.Row.{Row}
use Rattle.retro_base.specs.Changes.{change_of}
use Rattle.retro_base.specs.Edits.{Edit, Step, add, cut, edited}
use Rattle.reactions.specs.declared.outcome.Outcome.{Outcome}
use Rattle.reactions.specs.declared.outcome.Outcome.TheVariants.{Changed, Loaded}

-- the evidence of an edit with this change
abbrev pub evidence_with : List ℕ → Edit → Change → Evidence
evidence_with name (add place row) change = record { name = name; added = true; place = place; number = row.number; op = row.op; change = change }
evidence_with name (cut place row) change = record { name = name; added = false; place = place; number = row.number; op = row.op; change = change }

-- the evidence of an edit of these rows
abbrev pub evidence_of : List ℕ → List Row → Edit → Evidence
evidence_of name rows edit = evidence_with name edit (change_of Pq rows edit)

-- the evidence of each edit of a step, in order
unfoldable pub evidence_of_step : List ℕ → List Row → Step → List Evidence
evidence_of_step name rows [] = []
evidence_of_step name rows (edit ∷ more) = evidence_of name rows edit ∷ evidence_of_step name (edited rows edit) more

-- the answer to an accepted step of these rows: of the kinds other than the priority queue this one
abbrev pub reported_of_pq : List ℕ → List Row → Step → Outcome → Outcome
reported_of_pq name rows [] plain = plain
reported_of_pq name rows (edit ∷ more) plain = Changed (evidence_of name rows edit) (evidence_of_step name (edited rows edit) more)

abbrev pub reported : List ℕ → Kind → List Row → Step → Outcome → Outcome
reported name Pq rows step plain = reported_of_pq name rows step plain
reported name kind rows step plain = plain

-- the step that puts rows in one after another, each at the end
unfoldable pub appends_from : ℕ → List Row → Step
appends_from place [] = []
appends_from place (row ∷ rows) = add place row ∷ appends_from (suc place) rows

-- the evidence of the rows of a block, each as one that is put in after those before it
abbrev pub loaded_evidence : List ℕ → Kind → List Row → List Evidence
loaded_evidence name Pq rows = evidence_of_step name [] (appends_from 0 rows)
loaded_evidence name kind rows = []

-- the evidence of an edit, where it is one of a priority queue
abbrev pub noted : List ℕ → Kind → List Row → Edit → List Evidence
noted name Pq rows edit = evidence_of name rows edit ∷ []
noted name kind rows edit = []

-- the answer to a block that makes a timeline
abbrev pub loaded : List ℕ → Kind → List Row → Outcome
loaded name kind rows = Loaded (loaded_evidence name kind rows)
