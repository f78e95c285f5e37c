-- What holds between two lines that are judged, how one more line keeps it, and that out of memory hides no refusal.
use Rattle.std.proofs.Common.{◌≡◌, ℕ, suc, ◌+◌, ◌≤◌, Bool, true, false, List, [], ◌∷◌, refl, sym, ap, ◌∙◌, arith, Option, Some, None, Result, Ok, Err}
use Rattle.std.specs.Prelude.{IfSome, IsTrue, if◌then◌else◌, is_some, not, ◌⊎◌, unwrap_or}
use Rattle.retro_io.specs.declared.mark.Mark.{Mark}
use Rattle.retro_io.specs.declared.mark.Mark.TheVariants.{Whole, Long, End}
use Rattle.retro_io.specs.Lines.{lines}
use Rattle.retro_io.specs.Marks.{GivesNext, GivesNextOf, gives_line}
use Rattle.evidence.specs.declared.evidence.Evidence.{Evidence}
use Rattle.evidence.specs.Reading.{evidence_of}
use Rattle.evidence_check.specs.declared.error.CheckError.{CheckError}
use Rattle.evidence_check.specs.declared.error.CheckError.TheVariants.{Syntax}
use Rattle.evidence_check.specs.Judgement.{Judge, by_verdict, decided, first_cause, is_evidence_line, judged, judged_evidence, judged_line, judgement_from}
use Rattle.evidence_check.specs.Judgement.{Reported, is_one_too_many, rows_of}
use Rattle.retro_run.specs.declared.judging.Refusal.{Refusal}
use Rattle.retro_run.specs.Judging.{RefusalIsRead, Verdict, so_far, against, judgement_after, judgement_of, lines_read, verdict_on, with_line, is_refusal, verdict}
use Rattle.retro_base.specs.Facts.{some_is, some_is_not_none}
use Rattle.retro_run.proofs.Shown.{GivenAs, IsShown, judged_shown, shown_of}
use Rattle.retro_base.specs.declared.row.Change.{Change}
use Rattle.retro_base.specs.declared.row.Row.{Row}
use Rattle.retro_base.specs.declared.kind.Kind.TheVariants.{Pq}
use Rattle.retro_base.specs.Bridges.{stated_bridge}
use Rattle.retro_base.specs.Changes.{change_of}
use Rattle.retro_base.specs.Edits.{Edit, edited}
use Rattle.retro_base.specs.Replay.{failure}
use Rattle.evidence_check.specs.declared.error.CheckError.TheVariants as causes
use Rattle.evidence_check.specs.Refused.{cause_in}
use Rattle.evidence_check.specs.Truth.{bridge_of, cause_of, change_cause, has_wrong_number, has_wrong_op, is_full, is_outside, same_bridge, same_change, reported_edit}

-- the judgement of the lines read and of those of what is left is that of all
pub record JudgesOn (bytes : List ℕ) (verdict : Verdict) (rest : Option (List ℕ)) : Type 0 where
  pub left : List ℕ
  pub rest_is : rest ≡ Some left
  pub same : judgement_after verdict (lines left) ≡ judgement_of bytes

-- one more line is judged by what is shown of it
after_verdict : (count : ℕ) (outcome : Result Judge CheckError) (more : List (List ℕ))
    → judgement_after (verdict_on (count + 1) outcome) more ≡ by_verdict (count + 1) (λ next. judgement_from (count + 1) next more) outcome
after_verdict count outcome more = grind arith

later_line : (verdict : Verdict) (line shown : List ℕ) (long : Bool) (more : List (List ℕ)) → ((judge : Judge) → judged judge line ≡ judged_line judge shown long)
    → judgement_after (with_line verdict shown long) more ≡ judgement_after verdict (line ∷ more)
later_line (so_far count judge) line shown long more shows =
    after_verdict count (judged_line judge shown long) more
    ∙ ap (by_verdict (count + 1) (λ next. judgement_from (count + 1) next more)) (sym (shows judge))
later_line (against at cause) line shown long more shows = refl

-- the line that was given, of which this is shown
record Shown (long : Bool) (shown now after : List ℕ) : Type 0 where
  line : List ℕ
  is_shown : IsShown long shown line
  cut : lines now ≡ line ∷ lines after

shown_line : (mark : Mark) (long : Bool) (shown : List ℕ) (ended : Bool) (now after : List ℕ) → GivenAs mark long → GivesNext mark shown ended now after
    → Shown long shown now after
shown_line Whole long shown ended now after as_given next = record { line = shown; is_shown = shown_of Whole long shown shown as_given (refl, next.0); cut = next.1 }
shown_line Long long shown ended now after as_given next = record { line = next.0; is_shown = shown_of Long long shown next.0 as_given (next.1, next.2); cut = next.3 }
shown_line End long shown ended now after as_given next = absurd as_given

pub judges_next : (mark : Mark) (long : Bool) (shown : List ℕ) (ended : Bool) (bytes : List ℕ) (verdict : Verdict) (rest rest' : Option (List ℕ))
    → GivenAs mark long → GivesNextOf mark shown ended rest rest' → JudgesOn bytes verdict rest → JudgesOn bytes (with_line verdict shown long) rest'
judges_next mark long shown ended bytes verdict None rest' as_given next on = absurd (some_is_not_none (sym on.rest_is))
judges_next mark long shown ended bytes verdict (Some now) None as_given next on = absurd next
judges_next mark long shown ended bytes verdict (Some now) (Some after) as_given next on =
    let given = shown_line mark long shown ended now after as_given next in
    let same : now ≡ on.left = some_is now on.left (sym on.rest_is) in
    record {
      left = after;
      rest_is = refl;
      same = later_line verdict given.line shown long (lines after) (judged_shown long shown given.line given.is_shown)
          ∙ ap (judgement_after verdict) (sym given.cut ∙ ap lines same) ∙ on.same;
    }

-- at the end all lines are judged
pub judges_all : (bytes shown : List ℕ) (ended : Bool) (verdict : Verdict) (rest rest' : Option (List ℕ))
    → GivesNextOf End shown ended rest rest' → JudgesOn bytes verdict rest → judgement_after verdict [] ≡ judgement_of bytes
judges_all bytes shown ended verdict None rest' next on = absurd (some_is_not_none (sym on.rest_is))
judges_all bytes shown ended verdict (Some now) None next on = absurd next
judges_all bytes shown ended verdict (Some now) (Some after) next on =
    let none : on.left ≡ [] = some_is on.left now on.rest_is ∙ next.0 in
    sym (ap (λ xs. judgement_after verdict (lines xs)) none) ∙ on.same

-- where the source tells its bytes
pub judgement_is : (script rest rest' : Option (List ℕ)) (shown : List ℕ) (ended : Bool) (verdict : Verdict) → GivesNextOf End shown ended rest rest'
    → ((bytes : List ℕ) → script ≡ Some bytes → JudgesOn bytes verdict rest) → IfSome script (λ bytes. judgement_after verdict [] ≡ judgement_of bytes)
judgement_is None rest rest' shown ended verdict next on = tt
judgement_is (Some bytes) rest rest' shown ended verdict next on = judges_all bytes shown ended verdict rest rest' next (on bytes refl)

-- a line counts as one at the most
counts_one : (line : ℕ) (outcome : Result Judge CheckError) → lines_read (verdict_on line outcome) ≡ line
counts_one line outcome = grind arith

pub reads_one : (verdict : Verdict) (shown : List ℕ) (long : Bool) → lines_read (with_line verdict shown long) ≤ suc (lines_read verdict)
reads_one (so_far count judge) shown long = omega (arith, counts_one (count + 1) (judged_line judge shown long))
reads_one (against line cause) shown long = omega arith

-- a line was given where it is given as one
pub is_given : (mark : Mark) (long : Bool) → GivenAs mark long → IsTrue (gives_line mark)
is_given mark long as_given = grind arith

-- a line that is accepted counts as one at the most
decided_one : (cause : Option CheckError) (judge next : Judge) (e : Evidence) → decided cause judge e ≡ Ok next → next.accepted ≤ judge.accepted + 1
decided_one cause judge next e is = grind arith

evidence_one : (judge next : Judge) (e : Option Evidence) → judged_evidence judge e ≡ Ok next → next.accepted ≤ judge.accepted + 1
evidence_one judge next e is = grind (arith, decided_one)

by_test : (is_evidence long : Bool) (judge next : Judge) (e : Option Evidence)
    → (if not is_evidence then Ok judge else (if long then Err Syntax else judged_evidence judge e)) ≡ Ok next → next.accepted ≤ judge.accepted + 1
by_test is_evidence long judge next e is = grind (arith, evidence_one)

pub accepts_one : (judge next : Judge) (bytes : List ℕ) (long : Bool) → judged_line judge bytes long ≡ Ok next → next.accepted ≤ judge.accepted + 1
unfolding judged_line
accepts_one judge next bytes long is = by_test (is_evidence_line bytes) long judge next (evidence_of bytes) is

-- no line was refused
pub unrefused : (lines : ℕ) (refusal : Option Refusal) → is_some refusal ≡ false → RefusalIsRead lines refusal
unrefused lines refusal none = grind arith

-- a cause that a judgement names, or none
abbrev is_named : Option CheckError → Bool
is_named (Some causes.NoMemory) = false
is_named cause = true

named_if : (test : Bool) (cause rest : Option CheckError) → is_named cause ≡ true → is_named rest ≡ true → is_named (if test then cause else rest) ≡ true
named_if test cause rest of_cause of_rest = grind arith

-- the first of three causes, or none
named_of_three : (replay bridge entry : Bool)
    → is_named (if replay then Some causes.Replay else (if bridge then Some causes.Bridge else (if entry then Some causes.Entry else None))) ≡ true
named_of_three replay bridge entry = grind arith

change_named : (rows : List Row) (edit : Edit) (change : Change) → is_named (change_cause rows edit change) ≡ true
change_named rows edit change =
    named_of_three (is_some (failure Pq (edited rows edit))) (not (same_bridge (bridge_of change) (stated_bridge rows edit)))
    (not (same_change change (change_of Pq rows edit)))

-- the first of four causes, or another one
named_first : (full place number row : Bool) (rest : Option CheckError) → is_named rest ≡ true
    → is_named (if full then Some causes.Full else (if place then Some causes.Place else (if number then Some causes.Number else (if row then Some causes.Row else rest)))) ≡ true
named_first full place number row rest named = grind arith

cause_named : (rows : List Row) (e : Evidence) → is_named (cause_of rows e) ≡ true
unfolding cause_of
cause_named rows e =
    named_first (is_full e.added rows) (is_outside e.added e.place rows) (has_wrong_number e.added e.number e.place rows)
    (has_wrong_op e.added e.op e.place rows) (change_cause rows (reported_edit e) e.change) (change_named rows (reported_edit e) e.change)

first_named : (reported : List Reported) (e : Evidence) → is_named (first_cause reported e) ≡ true
first_named reported e =
    named_if (is_one_too_many (rows_of e.name reported) reported) (Some causes.Timelines) (cause_of (unwrap_or (rows_of e.name reported) []) e) refl
    (cause_named (unwrap_or (rows_of e.name reported) []) e)

decided_named : (cause : Option CheckError) (judge : Judge) (e : Evidence) → is_named cause ≡ true → is_named (cause_in (decided cause judge e)) ≡ true
decided_named cause judge e named = grind arith

evidence_named : (judge : Judge) (e : Option Evidence) → is_named (cause_in (judged_evidence judge e)) ≡ true
evidence_named judge None = refl
evidence_named judge (Some e) = decided_named (first_cause judge.reported e) judge e (first_named judge.reported e)

by_tests : (is_evidence long : Bool) (judge : Judge) (e : Option Evidence)
    → is_named (cause_in (if not is_evidence then Ok judge else (if long then Err causes.Syntax else judged_evidence judge e))) ≡ true
by_tests is_evidence long judge e = grind (arith, evidence_named)

line_named : (judge : Judge) (bytes : List ℕ) (long : Bool) → is_named (cause_in (judged_line judge bytes long)) ≡ true
unfolding judged_line
line_named judge bytes long = by_tests (is_evidence_line bytes) long judge (evidence_of bytes)

-- so an outcome with out of memory, or with the cause that it has, is no refusal where it is out of memory
not_refused : (line : ℕ) (outcome : Result Judge CheckError) (error : CheckError) → is_named (cause_in outcome) ≡ true → error ≡ causes.NoMemory
    → ((error ≡ causes.NoMemory) × (cause_in outcome ≡ None)) ⊎ (cause_in outcome ≡ Some error) → is_refusal (judgement_after (verdict_on line outcome) []) ≡ false
not_refused line outcome error named wanted reported = grind arith

pub unhidden : (judge : Judge) (lines : ℕ) (refusal : Option Refusal) (bytes : List ℕ) (long : Bool) (error : CheckError) → is_some refusal ≡ false
    → error ≡ causes.NoMemory
    → ((error ≡ causes.NoMemory) × (cause_in (judged_line judge bytes long) ≡ None)) ⊎ (cause_in (judged_line judge bytes long) ≡ Some error)
    → is_refusal (judgement_after (with_line (verdict judge lines refusal) bytes long) []) ≡ false
unhidden judge lines None bytes long error unrefused wanted reported =
    not_refused (lines + 1) (judged_line judge bytes long) error (line_named judge bytes long) wanted reported
unhidden judge lines (Some refusal) bytes long error unrefused wanted reported = absurd (cc)
