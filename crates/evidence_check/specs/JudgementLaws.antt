-- Laws of the judgement of a line, which the proofs of the layer above may cite.
use Rattle.std.proofs.Common.{◌≡◌, ◌≤◌, ℕ, zero, suc, Bool, true, false, List, [], ◌∷◌, codes, length, take, refl, sym, ap, arith, Ok}
use Rattle.std.specs.Prelude.{nat_eq}
use Rattle.std.specs.Cmp.Lexicographic.{pointwise}
use Rattle.std.proofs.lemmas.Bool.{le-ltb, ltb-false}
use Rattle.std.proofs.lemmas.List.{take_all}
use Rattle.retro_base.specs.Limits.{longest_line}
use Rattle.retro_base.specs.LineLength.{is_long}
use Rattle.evidence.specs.declared.evidence.Evidence.{Evidence}
use Rattle.evidence.specs.Evidence.{IsEvidence}
use Rattle.evidence.specs.Laws.{LinesAreShort, PrintedReadsBack}
use Rattle.evidence.specs.Spelling.{spelling}
use Rattle.evidence_check.specs.Judgement.{Judge, decided, first_cause, is_evidence_line, judged, judged_line}

-- what stands after the first bytes of a long line has no effect
judged-long : (judge : Judge) (line first : List ℕ) (long : Bool) → is_evidence_line first ≡ is_evidence_line line → (long ≡ false → first ≡ line)
    → judged_line judge line long ≡ judged_line judge first long
unfolding judged_line
judged-long judge line first true begins whole = rw begins refl
judged-long judge line first false begins whole = ap (λ bytes. judged_line judge bytes false) (sym (whole refl))

take_of_take : (n m : ℕ) (xs : List ℕ) → n ≤ m → take n (take m xs) ≡ take n xs
take_of_take zero m xs fewer = refl
take_of_take (suc n) zero xs fewer = absurd (omega arith)
take_of_take (suc n) (suc m) [] fewer = refl
take_of_take (suc n) (suc m) (x ∷ xs) fewer = ap (λ ys. x ∷ ys) (take_of_take n m xs (omega arith))

begins_first : (line : List ℕ) → is_evidence_line (take longest_line line) ≡ is_evidence_line line
begins_first line = ap (λ front. pointwise nat_eq (codes "edit ") front) (take_of_take 5 longest_line line (omega arith))

-- a line is known by its first bytes, as many as a line may have, and by whether it has more
pub judged-first : (judge : Judge) (line : List ℕ) → judged judge line ≡ judged_line judge (take longest_line line) (is_long line)
judged-first judge line =
    judged-long judge line (take longest_line line) (is_long line) (begins_first line) (λ short. take_all longest_line line (ltb-false longest_line (length line) short))

-- a line that is no evidence is passed over
pub judged-other : (judge : Judge) (line : List ℕ) → is_evidence_line line ≡ false → judged judge line ≡ Ok judge
unfolding judged_line
judged-other judge line other = rw other refl

spelling_begins : (e : Evidence) → is_evidence_line (spelling e) ≡ true
unfolding spelling
spelling_begins e = refl

-- evidence that is spelled is judged as what it says; the premises are laws of `evidence`
pub judged-spelling : PrintedReadsBack → LinesAreShort → (judge : Judge) (e : Evidence) → IsEvidence e → judged judge (spelling e) ≡ decided (first_cause judge.reported e) judge e
unfolding judged_line
judged-spelling back short judge e is =
    let fits : length (spelling e) ≤ 160 = short e is in
    let whole : is_long (spelling e) ≡ false = le-ltb longest_line (length (spelling e)) (omega arith) in
    rw (spelling_begins e, whole, back e is) refl
