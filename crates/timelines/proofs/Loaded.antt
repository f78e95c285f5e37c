-- The rows of a block, one after another, and their evidence.
use Rattle.std.proofs.Common.{◌≡◌, ℕ, suc, ◌+◌, ◌<◌, ◌≤◌, List, [], ◌∷◌, ◌++◌, length, take, slice_get, Some, refl, sym, ap, ◌∙◌, subst, arith, append_assoc, append-nil, length-append}
use Rattle.std.proofs.lemmas.List.Edits.{insert_end}
use Rattle.std.specs.Result.{result_err}
use Rattle.evidence.specs.declared.evidence.Evidence.{Evidence}
use Rattle.retro_base.specs.declared.kind.Kind.{Kind}
use Rattle.retro_base.specs.declared.kind.Kind.TheVariants.{Queue, Stack, Deque, Dict, Pq}
use Rattle.retro_base.specs.declared.row.Change.{Change}
use Rattle.retro_base.specs.declared.row.Row.{Row}
use Rattle.retro_base.specs.Edits.{Edit, Step, add, edited, edited_by}
use Rattle.retro_base.specs.MadeEdits.{IsMade}
use Rattle.retro_base.specs.OrderLaws.{all_with, times_with}
use Rattle.retro_base.specs.PrefixLaws.{comes_next, take_more, taken_below}
use Rattle.retro_base.specs.ReplayableLaws.{replayable_with}
use Rattle.retro_base.specs.State.{empty, step}
use Rattle.retro_base.specs.Timeline.{IsTimeline}
use Rattle.retro_base.specs.lemmas.Folds.{fold_rows-nil}
use Rattle.reactions.specs.Reported.{evidence_of, evidence_of_step, appends_from, loaded_evidence, noted}

-- the first rows of a timeline are one, with no row and with one more
pub timeline_begins : (kind : Kind) (rows : List Row) (next : ℕ) → IsTimeline kind rows next → IsTimeline kind [] next
timeline_begins kind rows next timeline = record {
  replayable = record { few = omega arith; of_kind = tt; own_numbers = tt; valid = ap result_err (fold_rows-nil step (empty kind)) };
  in_order = tt;
  numbered = tt;
  next_in_range = timeline.next_in_range;
}

pub timeline_grows : (kind : Kind) (rows : List Row) (next index : ℕ) (row : Row) → IsTimeline kind rows next → slice_get rows index ≡ Some row
    → IsTimeline kind (take index rows) next → IsTimeline kind (take index rows ++ row ∷ []) next
timeline_grows kind rows next index row timeline there before =
    let begun = take index rows in
    let more = comes_next kind rows next index row timeline there in
    subst (λ rs. IsTimeline kind rs next) (insert_end begun row) (record {
      replayable = replayable_with kind begun (length begun) row before.replayable more.room (omega arith) more.fresh more.of_kind more.accepted;
      in_order = times_with begun (length begun) row before.in_order more.fits;
      numbered = all_with (λ r. (1 ≤ r.number) × (r.number < next)) begun (length begun) row before.numbered more.numbered;
      next_in_range = before.next_in_range;
    })

-- the evidence of one more edit
evidence_more : (name : List ℕ) (rows : List Row) (step : Step) (edit : Edit)
    → evidence_of_step name rows (step ++ edit ∷ []) ≡ evidence_of_step name rows step ++ evidence_of name (edited_by rows step) edit ∷ []
unfolding evidence_of_step
evidence_more name rows [] edit = refl
evidence_more name rows (first ∷ step) edit = ap (λ more. evidence_of name rows first ∷ more) (evidence_more name (edited rows first) step edit)

appends_more : (place : ℕ) (rows : List Row) (row : Row) → appends_from place (rows ++ row ∷ []) ≡ appends_from place rows ++ add (place + length rows) row ∷ []
unfolding appends_from
appends_more place [] row = ap (λ n. add n row ∷ []) (omega arith)
appends_more place (first ∷ rows) row =
    ap (λ more. add place first ∷ more) (appends_more (suc place) rows row ∙ ap (λ n. appends_from (suc place) rows ++ add n row ∷ []) (omega arith))

-- rows that are put in one after another stand there
appends_lead : (rows more : List Row) → edited_by rows (appends_from (length rows) more) ≡ rows ++ more
unfolding appends_from
appends_lead rows [] = sym (append-nil rows)
appends_lead rows (row ∷ more) =
    let longer : suc (length rows) ≡ length (rows ++ row ∷ []) = omega (arith, length-append rows (row ∷ [])) in
    ap (λ rs. edited_by rs (appends_from (suc (length rows)) more)) (insert_end rows row)
    ∙ ap (λ n. edited_by (rows ++ row ∷ []) (appends_from n more)) longer
    ∙ appends_lead (rows ++ row ∷ []) more ∙ append_assoc rows (row ∷ []) more

-- the evidence of one more row
pub loaded_more : (name : List ℕ) (kind : Kind) (rows : List Row) (row : Row)
    → loaded_evidence name kind (rows ++ row ∷ []) ≡ loaded_evidence name kind rows ++ noted name kind rows (add (length rows) row)
loaded_more name Queue rows row = refl
loaded_more name Stack rows row = refl
loaded_more name Deque rows row = refl
loaded_more name Dict rows row = refl
loaded_more name Pq rows row =
    ap (evidence_of_step name []) (appends_more 0 rows row) ∙ evidence_more name [] (appends_from 0 rows) (add (0 + length rows) row)
    ∙ ap (λ rs. evidence_of_step name [] (appends_from 0 rows) ++ evidence_of name rs (add (0 + length rows) row) ∷ []) (appends_lead [] rows)
    ∙ ap (λ n. evidence_of_step name [] (appends_from 0 rows) ++ evidence_of name rows (add n row) ∷ []) (omega arith)

pub loaded_none : (name : List ℕ) (kind : Kind) → [] ≡ loaded_evidence name kind []
unfolding appends_from evidence_of_step
loaded_none name Queue = refl
loaded_none name Stack = refl
loaded_none name Deque = refl
loaded_none name Dict = refl
loaded_none name Pq = refl

pub evidence_grows : (name : List ℕ) (kind : Kind) (rows : List Row) (index : ℕ) (row : Row) (old new : List Evidence) → slice_get rows index ≡ Some row
    → old ≡ loaded_evidence name kind (take index rows) → new ≡ old ++ noted name kind (take index rows) (add index row)
    → new ≡ loaded_evidence name kind (take (index + 1) rows)
evidence_grows name kind rows index row old new there old_is new_is =
    let before = take index rows in
    new_is ∙ ap (λ es. es ++ noted name kind before (add index row)) old_is
    ∙ ap (λ n. loaded_evidence name kind before ++ noted name kind before (add n row)) (sym (taken_below rows index row there).0)
    ∙ sym (loaded_more name kind before row) ∙ ap (loaded_evidence name kind) (sym (take_more rows index row there))

-- a row of a block was put in after those before it
pub put_in_after : (kind session_kind : Kind) (rows session_rows : List Row) (index : ℕ) (row : Row) (change : Change) → slice_get rows index ≡ Some row
    → session_kind ≡ kind → session_rows ≡ take index rows
    → IsMade session_kind session_rows (add (length session_rows) row) change → IsMade kind (take index rows) (add index row) change
put_in_after kind session_kind rows session_rows index row change there same_kind same_rows made =
    rw (← same_kind)
    (subst (λ n. IsMade session_kind (take index rows) (add n row) change) (taken_below rows index row there).0
    (subst (λ rs. IsMade session_kind rs (add (length rs) row) change) same_rows made))
