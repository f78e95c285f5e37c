-- Scripts that differ only in how their new priority queues are held: as `pq` says, or as a product of pieces, as `pqf` says.
use Rattle.std.specs.Prelude.{◌≡◌, ℕ, false, List, [], ◌∷◌, codes}
use Rattle.retro_base.specs.LineLength.{is_long}
use Rattle.script_grammar.specs.Words.{words}
use Rattle.script_laws.specs.OwnLines.{all_answers}

-- the first line is `new NAME pq`, the other `new NAME pqf` of the same name, and neither is long
pub record AreStarts (line other : List ℕ) : Type 0 where
  pub name : List ℕ
  pub plain : words line ≡ codes "new" ∷ name ∷ codes "pq" ∷ []
  pub fused : words other ≡ codes "new" ∷ name ∷ codes "pqf" ∷ []
  pub line_short : is_long line ≡ false
  pub other_short : is_long other ≡ false

-- some lines `new NAME pq` of the first script stand as `new NAME pqf` in the other, and all else is the same
pub data DifferInPieces : List (List ℕ) → List (List ℕ) → Type 0 where
  none : DifferInPieces [] []
  alike : (line : List ℕ) (lines others : List (List ℕ)) → DifferInPieces lines others → DifferInPieces (line ∷ lines) (line ∷ others)
  starts : (line other : List ℕ) (lines others : List (List ℕ)) → AreStarts line other → DifferInPieces lines others
      → DifferInPieces (line ∷ lines) (other ∷ others)

-- every answer is the same
abbrev pub FusedAnswersAlike : Type 0
FusedAnswersAlike = (lines others : List (List ℕ)) → DifferInPieces lines others → all_answers others ≡ all_answers lines
