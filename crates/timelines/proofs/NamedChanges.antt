-- The evidence of an edit that was made is the one that the definitions name.
use Rattle.std.proofs.Common.{◌≡◌, ℕ, List, [], ◌∷◌, ap, ◌∙◌}
use Rattle.retro_base.specs.declared.kind.Kind.{Kind}
use Rattle.retro_base.specs.declared.kind.Kind.TheVariants.{Pq}
use Rattle.retro_base.specs.declared.row.Change.{Change}
use Rattle.retro_base.specs.declared.row.Row.{Row}
use Rattle.retro_base.specs.ChangeLaws.{OneChangeOfPq}
use Rattle.retro_base.specs.Changes.{change_of}
use Rattle.retro_base.specs.Edits.{Edit, edited}
use Rattle.retro_base.specs.MadeEdits.{IsMade, pq_edit_of}
use Rattle.reactions.specs.declared.outcome.Outcome.{Outcome}
use Rattle.reactions.specs.declared.outcome.Outcome.TheVariants.{Changed}
use Rattle.reactions.specs.Reported.{evidence_with, evidence_of_step, noted, reported}

-- its change is the one
change_named : OneChangeOfPq → (rows : List Row) (edit : Edit) (change : Change) → IsMade Pq rows edit change → change ≡ change_of Pq rows edit
change_named law rows edit change made = (law rows edit (pq_edit_of rows edit change made) made.after.valid).alone change made.changed

pub reported_pq : OneChangeOfPq → (name : List ℕ) (kind : Kind) (rows : List Row) (edit : Edit) (change : Change) (plain : Outcome) → kind ≡ Pq
    → IsMade kind rows edit change → Changed (evidence_with name edit change) [] ≡ reported name kind rows (edit ∷ []) plain
unfolding evidence_of_step
reported_pq law name kind rows edit change plain pq made =
    rw pq (ap (λ c. Changed (evidence_with name edit c) []) (change_named law rows edit change (rw pq at made)))

pub reported_two : OneChangeOfPq → (name : List ℕ) (kind : Kind) (rows : List Row) (first second : Edit) (one other : Change) (plain : Outcome) → kind ≡ Pq
    → IsMade kind rows first one → IsMade kind (edited rows first) second other
    → Changed (evidence_with name first one) (evidence_with name second other ∷ []) ≡ reported name kind rows (first ∷ second ∷ []) plain
unfolding evidence_of_step
reported_two law name kind rows first second one other plain pq made then =
    rw pq (ap (λ c. Changed (evidence_with name first c) (evidence_with name second other ∷ [])) (change_named law rows first one (rw pq at made))
    ∙ ap (λ c. Changed (evidence_with name first (change_of Pq rows first)) (evidence_with name second c ∷ [])) (change_named law (edited rows first) second other (rw pq at then)))

pub noted_pq : OneChangeOfPq → (name : List ℕ) (kind : Kind) (rows : List Row) (edit : Edit) (change : Change) → kind ≡ Pq
    → IsMade kind rows edit change → evidence_with name edit change ∷ [] ≡ noted name kind rows edit
noted_pq law name kind rows edit change pq made =
    rw pq (ap (λ c. evidence_with name edit c ∷ []) (change_named law rows edit change (rw pq at made)))
