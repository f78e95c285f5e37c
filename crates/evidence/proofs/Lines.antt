-- A line and the evidence that it spells.
use Rattle.std.proofs.Common.{◌≡◌, ℕ, List, sym, ap, ◌∙◌, Option, Some, None}
use Rattle.std.specs.Prelude.{IfSome, IfNone}
use Rattle.std.specs.List.{join_with_byte}
use Rattle.std.proofs.lemmas.List.Splits.{join_with_byte-slice_split}
use Rattle.evidence.specs.declared.evidence.Evidence.{Evidence}
use Rattle.evidence.specs.Evidence.{IsEvidence, Spells}
use Rattle.evidence.specs.Reading.{evidence_of, spelled_by, words}
use Rattle.evidence.specs.Spelling.{spelling}
use Rattle.evidence.proofs.LineWords.{words_of_line}
use Rattle.evidence.proofs.ReadsBack.{IsLine, line_is, line_read}

pub reads_back : (e : Evidence) → IsEvidence e → evidence_of (spelling e) ≡ Some e
unfolding evidence_of
reads_back e is = ap (λ all. spelled_by all) (words_of_line e is) ∙ line_read e is

joined : (line : List ℕ) → join_with_byte 32 (words line) ≡ line
joined line = join_with_byte-slice_split 32 line

-- a line with the words of evidence is its spelling
spelled : (line : List ℕ) (e : Evidence) → IsLine (words line) e → Spells line e
spelled line e is = record {
  evidence = is.1;
  spelled = sym (joined line) ∙ ap (λ all. join_with_byte 32 all) (is.0 ∙ sym (words_of_line e is.1)) ∙ joined (spelling e);
}

read_from : (line : List ℕ) (o : Option Evidence) → IfSome o (IsLine (words line)) → IfSome o (λ e. Spells line e)
read_from line None is = tt
read_from line (Some e) is = spelled line e is

read_is_spelled : (line : List ℕ) → IfSome (evidence_of line) (λ e. Spells line e)
unfolding evidence_of
read_is_spelled line = read_from line (spelled_by (words line)) (line_is (words line))

pub spelled_is_read : (line : List ℕ) (e : Evidence) → Spells line e → evidence_of line ≡ Some e
spelled_is_read line e spells = ap (λ l. evidence_of l) spells.spelled ∙ reads_back e spells.evidence

pub read : (line : List ℕ) (o : Option Evidence) → o ≡ evidence_of line → IfSome o (λ e. Spells line e)
read line o is = rw is (read_is_spelled line)

pub unread : (line : List ℕ) (o : Option Evidence) → o ≡ evidence_of line → IfNone o ((e : Evidence) → ¬ Spells line e)
unread line None is = λ e spells. let read : None ≡ Some e = is ∙ spelled_is_read line e spells in absurd (cc)
unread line (Some e) is = tt

found : (line : List ℕ) (e : Evidence) → evidence_of line ≡ Some e → line ≡ spelling e
found line e is =
    let spells : Spells line e = rw is at (read_is_spelled line) in
    spells.spelled

pub one_line : (line other : List ℕ) (e : Evidence) → evidence_of line ≡ Some e → evidence_of other ≡ Some e → line ≡ other
one_line line other e first second = found line e first ∙ sym (found other e second)
