-- The answers to lines, and then to more.
use Rattle.std.proofs.Common.{◌≡◌, ℕ, Bool, ◌||◌, List, [], ◌∷◌, ◌++◌, map, false, sym, ap, ◌∙◌, refl, arith, append_assoc, append-nil, Option}
use Rattle.std.specs.List.{concat, list_any}
use Rattle.std.proofs.Math.Bool.{or-false}
use Rattle.std.proofs.lemmas.List.{map-append}
use Rattle.std.proofs.lemmas.List.Folds.{concat-append, list_any-append}
use Rattle.reactions.specs.Answers.{reactions, bench_after}
use Rattle.reactions.specs.Bench.{Bench, empty_bench}
use Rattle.reactions.specs.Reaction.{Reaction, reacts}
use Rattle.retro_run.specs.Audience.{Audience, audience_after, followed, followed_from, follows, texts_of}
use Rattle.retro_run.specs.Events.{report_lines, with_reports}
use Rattle.retro_run.specs.Output.{answers_by, close_of, output_by, refuses_by, whole_by}
use Rattle.retro_io.specs.Lines.{lines}

-- what reactions append, one after the other
abbrev pub texts : List Reaction → List ℕ
texts reactions = concat (map (λ (reaction : Reaction). reaction.answer) reactions)

-- one of them is a refusal
abbrev pub refuses : List Reaction → Bool
refuses reactions = list_any (λ (reaction : Reaction). reaction.refused) reactions

pub texts-append : (first more : List Reaction) → texts (first ++ more) ≡ texts first ++ texts more
texts-append first more =
    ap concat (map-append (λ (reaction : Reaction). reaction.answer) first more)
    ∙ concat-append (map (λ (reaction : Reaction). reaction.answer) first) (map (λ (reaction : Reaction). reaction.answer) more)

-- where there are no reports, nothing is appended for them
pub with_reports-is : (text : List ℕ) (reports : List (Option (List ℕ))) → with_reports text reports ≡ text ++ report_lines 0 reports
with_reports-is text reports = grind (arith, append-nil)

-- the bench that one more line leaves
pub bench_after-line : (bench : Bench) (first : List (List ℕ)) (line : List ℕ) → bench_after bench (first ++ line ∷ []) ≡ (reacts (bench_after bench first) line).bench
unfolding bench_after
bench_after-line bench [] line = refl
bench_after-line bench (x ∷ first) line = bench_after-line (reacts bench x).bench first line

-- and who follows after it
audience_after-from : (bench : Bench) (audience : Audience) (first : List (List ℕ)) (line : List ℕ)
    → audience_after bench audience (first ++ line ∷ []) ≡ (follows (bench_after bench first) (audience_after bench audience first) line).audience
unfolding bench_after audience_after
audience_after-from bench audience [] line = refl
audience_after-from bench audience (x ∷ first) line = audience_after-from (reacts bench x).bench (follows bench audience x).audience first line

followed-append : (bench : Bench) (audience : Audience) (first more : List (List ℕ))
    → followed_from bench audience (first ++ more) ≡ followed_from bench audience first ++ followed_from (bench_after bench first) (audience_after bench audience first) more
unfolding followed_from bench_after audience_after
followed-append bench audience [] more = refl
followed-append bench audience (line ∷ first) more =
    ap (λ rs. (follows bench audience line).reaction ∷ rs) (followed-append (reacts bench line).bench (follows bench audience line).audience first more)

module _ (audience : Audience) where
  -- the bench and the audience that some lines leave
  abbrev bench_of : List (List ℕ) → Bench
  bench_of first = bench_after empty_bench first

  abbrev pub audience_at : List (List ℕ) → Audience
  audience_at first = audience_after empty_bench audience first

  -- what becomes of the next line
  abbrev pub next_reaction : List (List ℕ) → List ℕ → Reaction
  next_reaction first line = (follows (bench_of first) (audience_at first) line).reaction

  pub audience_after-line : (first : List (List ℕ)) (line : List ℕ) → audience_at (first ++ line ∷ []) ≡ (follows (bench_of first) (audience_at first) line).audience
  audience_after-line first line = audience_after-from empty_bench audience first line

  pub answers_by-line : (first : List (List ℕ)) (line : List ℕ) → answers_by (followed audience) (first ++ line ∷ []) ≡ answers_by (followed audience) first ++ (next_reaction first line).answer
  unfolding followed_from
  answers_by-line first line =
      ap texts (followed-append empty_bench audience first (line ∷ [])) ∙ texts-append (followed_from empty_bench audience first) (next_reaction first line ∷ [])
      ∙ ap (λ xs. answers_by (followed audience) first ++ xs) (append-nil (next_reaction first line).answer)

  pub answers_by-none : answers_by (followed audience) [] ≡ []
  unfolding followed_from
  answers_by-none = refl

  pub refuses_by-none : refuses_by (followed audience) [] ≡ false
  unfolding followed_from
  refuses_by-none = refl

  pub refuses_by-line : (first : List (List ℕ)) (line : List ℕ) → refuses_by (followed audience) (first ++ line ∷ []) ≡ (refuses_by (followed audience) first || (next_reaction first line).refused)
  unfolding followed_from
  refuses_by-line first line =
      ap refuses (followed-append empty_bench audience first (line ∷ []))
      ∙ list_any-append (λ (reaction : Reaction). reaction.refused) (followed_from empty_bench audience first) (followed_from (bench_of first) (audience_at first) (line ∷ []))
      ∙ ap (λ b. refuses_by (followed audience) first || b) (or-false (next_reaction first line).refused)

  -- the reports after all lines
  abbrev pub reports_of : List ℕ → List (Option (List ℕ))
  reports_of bytes = texts_of (audience_at (lines bytes))

  -- the output, where some first lines are answered
  output_after : (bytes : List ℕ) (first more : List (List ℕ)) → lines bytes ≡ first ++ more
      → output_by (followed audience) bytes
      ≡ answers_by (followed audience) first ++ (texts (followed_from (bench_of first) (audience_at first) more) ++ (close_of (lines bytes)).answer)
  output_after bytes first more cut =
      ap (λ xs. xs ++ (close_of (lines bytes)).answer)
      (ap (answers_by (followed audience)) cut ∙ ap texts (followed-append empty_bench audience first more)
      ∙ texts-append (followed_from empty_bench audience first) (followed_from (bench_of first) (audience_at first) more))
      ∙ append_assoc (answers_by (followed audience) first) _ _

  -- and the whole
  pub whole_after : (bytes : List ℕ) (first more : List (List ℕ)) → lines bytes ≡ first ++ more
      → (later : List ℕ) × (whole_by (followed audience) bytes ≡ answers_by (followed audience) first ++ later)
  whole_after bytes first more cut = (
    (texts (followed_from (bench_of first) (audience_at first) more) ++ (close_of (lines bytes)).answer) ++ report_lines 0 (reports_of bytes),
    with_reports-is (output_by (followed audience) bytes) (reports_of bytes) ∙ ap (λ xs. xs ++ report_lines 0 (reports_of bytes)) (output_after bytes first more cut)
        ∙ append_assoc (answers_by (followed audience) first) _ _,
  )

  -- and where one more is
  pub whole_from : (bytes : List ℕ) (first : List (List ℕ)) (line : List ℕ) (more : List (List ℕ)) → lines bytes ≡ first ++ line ∷ more
      → (later : List ℕ) × (whole_by (followed audience) bytes ≡ (answers_by (followed audience) first ++ (next_reaction first line).answer) ++ later)
  whole_from bytes first line more cut =
      let whole = whole_after bytes (first ++ line ∷ []) more (cut ∙ sym (append_assoc first (line ∷ []) more)) in
      (whole.0, whole.1 ∙ ap (λ xs. xs ++ whole.0) (answers_by-line first line))
