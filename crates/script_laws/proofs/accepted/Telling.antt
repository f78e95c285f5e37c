-- What the judge is reported of edits that are made, and what it then knows of each name.
use Rattle.std.proofs.Common.{◌≡◌, ℕ, ◌+◌, ◌≤◌, Bool, true, false, ◌&&◌, nat_le, cond, List, [], ◌∷◌, length, refl, sym, ap, ◌∙◌, subst, arith, Option, Some, None}
use Rattle.std.specs.Prelude.{is_none, is_some, unwrap_or}
use Rattle.std.specs.List.{list_any}
use Rattle.std.specs.Str.{bytes_eq}
use Rattle.std.proofs.lemmas.Bool.{lt-leb}
use Rattle.std.proofs.lemmas.Slice.Eq.{bytes_eq-Decides}
use Rattle.retro_base.specs.declared.kind.Kind.TheVariants.{Pq}
use Rattle.retro_base.specs.declared.row.Row.{Row}
use Rattle.retro_base.specs.Changes.{change_of}
use Rattle.retro_base.specs.Edits.{Edit, Step, edited}
use Rattle.retro_base.specs.Limits.{most_timelines}
use Rattle.retro_base.specs.Name.{is_name}
use Rattle.evidence.specs.declared.evidence.Evidence.{Evidence}
use Rattle.evidence.specs.Evidence.{IsEvidence}
use Rattle.evidence.specs.Spelling.{spelling}
use Rattle.evidence_check.specs.declared.error.CheckError.TheVariants as causes
use Rattle.evidence_check.specs.Judgement.{Judge, Reported, first_cause, is_named, is_one_too_many, rows_of, reported_after, with_rows}
use Rattle.evidence_check.specs.Laws.{EditsAreSpelled, EditsAreReported, evidence_for, timeless}
use Rattle.evidence_check.specs.Truth.{cause_of, rows_after}
use Rattle.reactions.specs.Outcome.{evidence_line, evidence_lines}
use Rattle.reactions.specs.Reported.{evidence_of, evidence_of_step}
use Rattle.script_laws.proofs.accepted.Made.{Makes, MakesStep, can_be_reported}
use Rattle.script_laws.proofs.accepted.Printable.{spelling_printable}
use Rattle.script_laws.proofs.accepted.ReadLines.{Reads, Takes, reads-append, reads_line, reads_nothing, with_event}
use Rattle.retro_base.specs.Facts.{same_bytes}

pub itself : (name : List ℕ) → bytes_eq name name ≡ true
itself name = (bytes_eq-Decides name name).1 refl

-- what is one name is not another one
pub other_name : (first second name : List ℕ) → bytes_eq first name ≡ true → bytes_eq first second ≡ false → bytes_eq second name ≡ false
other_name first second name own apart = grind (arith, same_bytes)

-- one of the names is this one
abbrev pub is_listed : List ℕ → List (List ℕ) → Bool
is_listed name names = list_any (λ n. bytes_eq n name) names

-- how many names pass a test
abbrev pub counted : (List ℕ → Bool) → List (List ℕ) → ℕ
counted test [] = 0
counted test (name ∷ names) = cond (test name) 1 0 + counted test names

one_or_none : (a b : Bool) → (a ≡ true → b ≡ true) → cond a 1 0 ≤ cond b 1 0
one_or_none a b so = grind arith

no_fewer : (test other : List ℕ → Bool) → ((name : List ℕ) → test name ≡ true → other name ≡ true) → (names : List (List ℕ)) → counted test names ≤ counted other names
no_fewer test other so [] = omega arith
no_fewer test other so (name ∷ names) = omega (arith, one_or_none (test name) (other name) (so name), no_fewer test other so names)

one_more : (test other : List ℕ → Bool) → ((name : List ℕ) → test name ≡ true → other name ≡ true) → (name : List ℕ) → test name ≡ false → other name ≡ true
    → (names : List (List ℕ)) → is_listed name names ≡ true → counted test names + 1 ≤ counted other names
one_more test other so name out in_other [] listed = absurd (cc)
one_more test other so name out in_other (first ∷ names) listed = grind (arith, same_bytes, no_fewer test other so names, one_more test other so name out in_other names, one_or_none)

all_counted : (names : List (List ℕ)) → counted (λ name. true) names ≡ length names
all_counted [] = refl
all_counted (name ∷ names) = omega (arith, all_counted names)

-- the rows of each name with these in place of those of one
abbrev pub put : List ℕ → List Row → (List ℕ → List Row) → List ℕ → List Row
put name rows by other = cond (bytes_eq name other) rows (by other)

-- the judge was reported these rows of each name, and of no name that is not listed
pub record Agrees (names : List (List ℕ)) (by : List ℕ → List Row) (reported : List Reported) : Type 0 where
  pub same : (name : List ℕ) → unwrap_or (rows_of name reported) [] ≡ timeless (by name)
  pub few : length reported ≤ counted (λ name. is_some (rows_of name reported)) names

pub agrees_as : (names : List (List ℕ)) (by other : List ℕ → List Row) (reported : List Reported) → ((name : List ℕ) → by name ≡ other name) → Agrees names by reported → Agrees names other reported
agrees_as names by other reported as_other agrees = record { same = λ name. agrees.same name ∙ ap timeless (as_other name); few = agrees.few }

-- Rows under a name.
found_once : (name other : List ℕ) (rows first : List Row) (others : Option (List Row)) → cond (bytes_eq name other) (Some rows) others
    ≡ cond (bytes_eq name other) (Some rows) (cond (bytes_eq name other) (Some first) others)
found_once name other rows first others = grind arith

pub rows_of-with : (name : List ℕ) (rows : List Row) (reported : List Reported) (other : List ℕ) → rows_of other (with_rows name rows reported) ≡ cond (bytes_eq name other) (Some rows) (rows_of other reported)
rows_of-with name rows [] other = refl
rows_of-with name rows (first ∷ reported) other =
    elim (is_named name first) as (λ b. is_named name first ≡ b → rows_of other (with_rows name rows (first ∷ reported)) ≡ cond (bytes_eq name other) (Some rows) (rows_of other (first ∷ reported))) [
      | true ↦ λ is.
          rw (is, same_bytes first.name name is) (found_once name other rows first.rows (rows_of other reported))
      | false ↦ λ apart.
          rw apart
          (elim (is_named other first) as (λ b. is_named other first ≡ b
          → cond b (Some first.rows) (rows_of other (with_rows name rows reported)) ≡ cond (bytes_eq name other) (Some rows) (cond b (Some first.rows) (rows_of other reported))) [
            | true ↦ λ own. rw (other_name first.name name other own apart) refl
            | false ↦ λ e. rows_of-with name rows reported other
          ] refl)
    ] refl

length-with : (name : List ℕ) (rows : List Row) (reported : List Reported) → length (with_rows name rows reported) ≡ length reported + cond (is_none (rows_of name reported)) 1 0
length-with name rows [] = refl
length-with name rows (first ∷ reported) = grind (arith, length-with name rows reported)

-- the names that were reported are so still
still_reported : (name : List ℕ) (rows : List Row) (reported : List Reported) (other : List ℕ) → is_some (rows_of other reported) ≡ true → is_some (rows_of other (with_rows name rows reported)) ≡ true
still_reported name rows reported other is = rw (rows_of-with name rows reported other) (grind arith)

now_reported : (name : List ℕ) (rows : List Row) (reported : List Reported) → is_some (rows_of name (with_rows name rows reported)) ≡ true
now_reported name rows reported = rw (rows_of-with name rows reported name, itself name) refl

few_with : (names : List (List ℕ)) (name : List ℕ) (rows : List Row) (reported : List Reported) → is_listed name names ≡ true → length reported ≤ counted (λ n. is_some (rows_of n reported)) names
    → length (with_rows name rows reported) ≤ counted (λ n. is_some (rows_of n (with_rows name rows reported))) names
few_with names name rows reported listed few =
    elim (rows_of name reported) as (λ o. rows_of name reported ≡ o → length (with_rows name rows reported) ≤ counted (λ n. is_some (rows_of n (with_rows name rows reported))) names) [
      | None ↦ λ none.
          let longer : length (with_rows name rows reported) ≡ length reported + 1 = length-with name rows reported ∙ rw none refl in
          let out : is_some (rows_of name reported) ≡ false = rw none refl in
          omega (
            arith,
            longer,
            few,
            one_more (λ n. is_some (rows_of n reported)) (λ n. is_some (rows_of n (with_rows name rows reported)))
                (still_reported name rows reported) name out (now_reported name rows reported) names listed,
          )
      | Some old ↦ λ some.
          let as_long : length (with_rows name rows reported) ≡ length reported + 0 = length-with name rows reported ∙ rw some refl in
          omega (arith, as_long, few, no_fewer (λ n. is_some (rows_of n reported)) (λ n. is_some (rows_of n (with_rows name rows reported))) (still_reported name rows reported) names)
    ] refl

agrees_with : (names : List (List ℕ)) (by : List ℕ → List Row) (reported : List Reported) (name : List ℕ) (rows : List Row) → is_listed name names ≡ true → Agrees names by reported
    → Agrees names (put name rows by) (with_rows name (timeless rows) reported)
agrees_with names by reported name rows listed agrees = record {
  same = λ other.
      rw (rows_of-with name (timeless rows) reported other)
      (elim (bytes_eq name other) as (λ b. unwrap_or (cond b (Some (timeless rows)) (rows_of other reported)) [] ≡ timeless (cond b rows (by other))) [
        | true ↦ refl
        | false ↦ agrees.same other
      ]);
  few = few_with names name (timeless rows) reported listed agrees.few;
}

-- there is room for a name that is listed
has_room : (names : List (List ℕ)) (by : List ℕ → List Row) (reported : List Reported) (name : List ℕ) → length names ≤ most_timelines → is_listed name names ≡ true → Agrees names by reported
    → is_one_too_many (rows_of name reported) reported ≡ false
has_room names by reported name few listed agrees =
    elim (rows_of name reported) as (λ o. rows_of name reported ≡ o → (is_none o && nat_le most_timelines (length reported)) ≡ false) [
      | None ↦ λ none.
          let out : is_some (rows_of name reported) ≡ false = rw none refl in
          let fewer = one_more (λ n. is_some (rows_of n reported)) (λ n. true) (λ n is. refl) name out refl names listed in
          lt-leb most_timelines (length reported) (omega (arith, fewer, all_counted names, few, agrees.few))
      | Some rows ↦ λ some. refl
    ] refl

-- One edit.
named_so : (name : List ℕ) (rows : List Row) (edit : Edit) → (evidence_of name rows edit).name ≡ name
named_so name rows edit = grind arith

same_evidence : (name : List ℕ) (rows : List Row) (edit : Edit) → evidence_for name edit (change_of Pq rows edit) ≡ evidence_of name rows edit
same_evidence name rows edit = grind arith

none_first : (reported : List Reported) (name : List ℕ) (e : Evidence) (rows : List Row) → e.name ≡ name → is_one_too_many (rows_of name reported) reported ≡ false
    → unwrap_or (rows_of name reported) [] ≡ rows → cause_of rows e ≡ None → first_cause reported e ≡ None
none_first reported name e rows named room same none =
    ap (λ n. cond (is_one_too_many (rows_of n reported) reported) (Some causes.Timelines) (cause_of (unwrap_or (rows_of n reported) []) e)) named
    ∙ ap (λ b. cond b (Some causes.Timelines) (cause_of (unwrap_or (rows_of name reported) []) e)) room ∙ ap (λ rs. cause_of rs e) same ∙ none

event_is : (judge : Judge) (name : List ℕ) (e : Evidence) (rows after : List Row) → e.name ≡ name → unwrap_or (rows_of name judge.reported) [] ≡ rows
    → rows_after rows e ≡ after → with_event judge e ≡ record { reported = with_rows name after judge.reported; accepted = judge.accepted + 1 }
event_is judge name e rows after named same later =
    let reported : reported_after judge.reported e ≡ with_rows name after judge.reported =
    ap (λ n. with_rows n (rows_after (unwrap_or (rows_of n judge.reported) []) e) judge.reported) named
    ∙ ap (λ rs. with_rows name rs judge.reported) (ap (λ rs. rows_after rs e) same ∙ later) in
    rw reported refl

pub put_same : (name : List ℕ) (by : List ℕ → List Row) (rows : List Row) → by name ≡ rows → (other : List ℕ) → by other ≡ put name rows by other
put_same name by rows own other =
    elim (bytes_eq name other) as (λ b. bytes_eq name other ≡ b → by other ≡ cond b rows (by other)) [
      | true ↦ λ is. ap by (sym (same_bytes name other is)) ∙ own
      | false ↦ λ apart. refl
    ] refl

-- what the judge is after a text that tells of a name, and knows then
pub record HasReported (names : List (List ℕ)) (by : List ℕ → List Row) (name : List ℕ) (after : List Row) (judge : Judge) (text : List ℕ) : Type 0 where
  pub later : Judge
  pub reads : Reads judge text later
  pub agrees : Agrees names (put name after by) later.reported

-- a text that is passed over, where the rows of the name are these already
pub tells_same : (names : List (List ℕ)) (by : List ℕ → List Row) (name : List ℕ) (rows : List Row) (judge : Judge) (text : List ℕ) → Reads judge text judge
    → Agrees names by judge.reported → by name ≡ rows → HasReported names by name rows judge text
tells_same names by name rows judge text reads agrees own =
    record { later = judge; reads = reads; agrees = agrees_as names by (put name rows by) judge.reported (put_same name by rows own) agrees }

module _ (tells : EditsAreReported) (spells : EditsAreSpelled) where
  module _ (names : List (List ℕ)) (few : length names ≤ most_timelines) (name : List ℕ) (named : is_name name ≡ true) (listed : is_listed name names ≡ true) where
    takes_edit : (next : ℕ) (judge : Judge) (by : List ℕ → List Row) (rows after : List Row) (edit : Edit) → Agrees names by judge.reported → by name ≡ rows → Makes Pq next rows edit after
        → Takes judge (spelling (evidence_of name rows edit)) (record { reported = with_rows name (timeless after) judge.reported; accepted = judge.accepted + 1 })
    takes_edit next judge by rows after edit agrees own made =
        let can = can_be_reported next rows after edit made in
        let is : IsEvidence (evidence_of name rows edit) =
        subst IsEvidence (same_evidence name rows edit) (spells rows edit name can.possible can.accepted can.few named can.rows_range can.row_range) in
        let truth = tells rows edit name can.possible can.accepted can.room in
        let none : cause_of (timeless rows) (evidence_of name rows edit) ≡ None =
        subst (λ e. cause_of (timeless rows) e ≡ None) (same_evidence name rows edit) truth.accepted in
        let later : rows_after (timeless rows) (evidence_of name rows edit) ≡ timeless after =
        subst (λ e. rows_after (timeless rows) e ≡ timeless (edited rows edit)) (same_evidence name rows edit) truth.after ∙ ap timeless made.leads in
        let known : unwrap_or (rows_of name judge.reported) [] ≡ timeless rows = agrees.same name ∙ ap timeless own in
        let called = named_so name rows edit in
        subst (Takes judge (spelling (evidence_of name rows edit))) (event_is judge name (evidence_of name rows edit) (timeless rows) (timeless after) called known later)
        (Takes.tells (evidence_of name rows edit) is (none_first judge.reported name (evidence_of name rows edit) (timeless rows) called
        (has_room names by judge.reported name few listed agrees) known none))

    -- and a step
    pub tells_step : (next : ℕ) (step : Step) (judge : Judge) (by : List ℕ → List Row) (rows after : List Row) → Agrees names by judge.reported → by name ≡ rows → MakesStep Pq next rows step after
        → HasReported names by name after judge (evidence_lines (evidence_of_step name rows step))
    unfolding evidence_of_step
    tells_step next [] judge by rows after agrees own made = tells_same names by name after judge [] (reads_nothing judge) agrees (own ∙ made)
    tells_step next (edit ∷ step) judge by rows after agrees own made =
        let middle : List Row = made.0 in
        let first : Judge = record { reported = with_rows name (timeless middle) judge.reported; accepted = judge.accepted + 1 } in
        let printable = spelling_printable (evidence_of name rows edit) (ap is_name (named_so name rows edit) ∙ named) in
        let one : Reads judge (evidence_line (evidence_of name rows edit)) first =
        reads_line judge first (spelling (evidence_of name rows edit)) printable (takes_edit next judge by rows middle edit agrees own made.1) in
        let rest : HasReported names (put name middle by) name after first (evidence_lines (evidence_of_step name middle step)) =
        tells_step next step first (put name middle by) middle after (agrees_with names by judge.reported name middle listed agrees) (rw (itself name) refl) made.2 in
        let others : Reads first (evidence_lines (evidence_of_step name (edited rows edit) step)) rest.later =
        subst (λ rs. Reads first (evidence_lines (evidence_of_step name rs step)) rest.later) (sym made.1.leads) rest.reads in
        record {
          later = rest.later;
          reads = reads-append judge first rest.later (evidence_line (evidence_of name rows edit)) (evidence_lines (evidence_of_step name (edited rows edit) step)) one others;
          agrees = agrees_as names (put name after (put name middle by)) (put name after by) rest.later.reported
              (λ other. elim (bytes_eq name other) as (λ b. cond b after (cond b middle (by other)) ≡ cond b after (by other)) [ true ↦ refl | false ↦ refl ]) rest.agrees;
        }
