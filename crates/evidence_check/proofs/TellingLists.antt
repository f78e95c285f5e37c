-- What was reported under the names, after evidence that names one of them or a new one.
use Rattle.std.proofs.Common.{◌≡◌, ℕ, zero, suc, ◌+◌, ◌<◌, ◌≤◌, true, false, List, [], ◌∷◌, ◌++◌, length, get_or, set, position, refl, sym, ap, ◌∙◌, arith, Option, Some, None, Result, Ok, Err}
use Rattle.std.specs.Prelude.{OnOk}
use Rattle.std.specs.List.{position_from}
use Rattle.std.proofs.lemmas.Bool.{le-leb, lt-leb}
use Rattle.std.proofs.lemmas.Iterator.Adapters.{position_from-zero}
use Rattle.std.proofs.lemmas.List.Quantifiers.{position-Some}
use Rattle.retro_base.specs.declared.row.Row.{Row}
use Rattle.retro_base.specs.Limits.{most_timelines}
use Rattle.evidence.specs.declared.evidence.Evidence.{Evidence}
use Rattle.evidence_check.specs.declared.error.CheckError.{CheckError}
use Rattle.evidence_check.specs.declared.error.CheckError.TheVariants as causes
use Rattle.evidence_check.specs.Judgement.{Judge, Reported, first_cause, is_named, rows_of, reported_after, with_rows}
use Rattle.evidence_check.specs.Truth.{cause_of, rows_after}

-- the rows of a name that was reported
rows_at : (name : List ℕ) (reported : List Reported) (index : ℕ) (d : Reported) → index < length reported → is_named name (get_or reported index d) ≡ true
    → ((k : ℕ) → k < index → is_named name (get_or reported k d) ≡ false) → rows_of name reported ≡ Some (get_or reported index d).rows
rows_at name [] index d within is others = absurd (omega arith)
rows_at name (first ∷ reported) zero d within is others = rw is refl
rows_at name (first ∷ reported) (suc index) d within is others =
    rw (others 0 (omega arith)) (rows_at name reported index d (omega arith) is (λ k less. others (suc k) (omega arith)))

with_rows_at : (name : List ℕ) (rows : List Row) (reported : List Reported) (index : ℕ) (d : Reported) → index < length reported → is_named name (get_or reported index d) ≡ true
    → ((k : ℕ) → k < index → is_named name (get_or reported k d) ≡ false) → with_rows name rows reported ≡ set reported index (record (get_or reported index d) { rows = rows })
with_rows_at name rows [] index d within is others = absurd (omega arith)
with_rows_at name rows (first ∷ reported) zero d within is others = rw is refl
with_rows_at name rows (first ∷ reported) (suc index) d within is others =
    rw (others 0 (omega arith)) (ap (λ more. first ∷ more) (with_rows_at name rows reported index d (omega arith) is (λ k less. others (suc k) (omega arith))))

module _ (reported : List Reported) (e : Evidence) (index : ℕ) (named : Reported) (at : Some index ≡ position (is_named e.name) reported) (there : named ≡ get_or reported index named) where
  rows_found : rows_of e.name reported ≡ Some named.rows
  rows_found =
      let first = position-Some (is_named e.name) reported index named (sym at) in
      rows_at e.name reported index named first.0 first.1 first.2 ∙ ap (λ t. Some t.rows) (sym there)

  -- the cause is that of the rows of the name
  pub cause_found : first_cause reported e ≡ cause_of named.rows e
  cause_found = rw rows_found refl

  reported_found : reported_after reported e ≡ set reported index (record named { rows = rows_after named.rows e })
  reported_found =
      let first = position-Some (is_named e.name) reported index named (sym at) in
      rw rows_found (with_rows_at e.name (rows_after named.rows e) reported index named first.0 first.1 first.2 ∙ rw (← there) refl)

  pub judge_found : {X : Type 0} (r : Result X CheckError) (after : Reported) (count : ℕ) → OnOk r (after ≡ record named { rows = rows_after named.rows e })
      → OnOk r (◌≡◌ {A = Judge} (record { reported = set reported index after; accepted = count }) (record { reported = reported_after reported e; accepted = count }))
  judge_found (Ok x) after count ok = rw (ok, reported_found) refl
  judge_found (Err error) after count ok = tt

-- nothing was reported of the name
rows_nowhere : (name : List ℕ) (reported : List Reported) (from : ℕ) → position_from (is_named name) from reported ≡ None → rows_of name reported ≡ None
rows_nowhere name [] from nowhere = refl
rows_nowhere name (first ∷ reported) from nowhere =
    elim (is_named name first) as (λ b. is_named name first ≡ b → rows_of name (first ∷ reported) ≡ None) [
      | true ↦ λ is. let wrong : ◌≡◌ {A = Option ℕ} (Some from) None = rw is at nowhere in absurd (cc)
      | false ↦ λ other. rw other (rows_nowhere name reported (from + 1) (rw other at nowhere))
    ] refl

with_rows_nowhere : (name : List ℕ) (rows : List Row) (reported : List Reported) → rows_of name reported ≡ None → with_rows name rows reported ≡ reported ++ record { name = name; rows = rows } ∷ []
with_rows_nowhere name rows [] none = refl
with_rows_nowhere name rows (first ∷ reported) none =
    elim (is_named name first) as (λ b. is_named name first ≡ b → with_rows name rows (first ∷ reported) ≡ (first ∷ reported) ++ record { name = name; rows = rows } ∷ []) [
      | true ↦ λ is. let wrong : ◌≡◌ {A = Option (List Row)} (Some first.rows) None = rw is at none in absurd (cc)
      | false ↦ λ other. rw other (ap (λ more. first ∷ more) (with_rows_nowhere name rows reported (rw other at none)))
    ] refl

module _ (reported : List Reported) (e : Evidence) (nowhere : position (is_named e.name) reported ≡ None) where
  none_reported : rows_of e.name reported ≡ None
  none_reported = rows_nowhere e.name reported 0 (sym (position_from-zero (is_named e.name) reported) ∙ nowhere)

  pub one_too_many : most_timelines ≤ length reported → first_cause reported e ≡ Some causes.Timelines
  one_too_many full = rw (none_reported, le-leb most_timelines (length reported) full) refl

  pub cause_anew : length reported < most_timelines → first_cause reported e ≡ cause_of [] e
  cause_anew room = rw (none_reported, lt-leb most_timelines (length reported) room) refl

  pub reported_anew : (first : Reported) → first ≡ record { name = e.name; rows = rows_after [] e } → reported ++ first ∷ [] ≡ reported_after reported e
  reported_anew first is = rw (none_reported, is) (sym (with_rows_nowhere e.name (rows_after [] e) reported none_reported))

  pub judge_anew : (first : Reported) (after : List Reported) (count : ℕ) → after ≡ reported ++ first ∷ [] → first ≡ record { name = e.name; rows = rows_after [] e }
      → ◌≡◌ {A = Judge} (record { reported = after; accepted = count }) (record { reported = reported_after reported e; accepted = count })
  judge_anew first after count pushed is = rw (pushed, reported_anew first is) refl
