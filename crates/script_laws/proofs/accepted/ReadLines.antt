-- A judge that reads what was written: it is cut into the lines that were written, and each of them is accepted or passed over.
use Rattle.std.proofs.Common.{◌≡◌, ℕ, ◌+◌, ◌<◌, Bool, true, false, nat_le, cond, List, [], ◌∷◌, ◌++◌, codes, refl, sym, ap, ◌∙◌, subst, arith, append_assoc, append-nil, None, Ok}
use Rattle.std.specs.List.{count_by, join_with_byte}
use Rattle.std.specs.Str.{bytes_eq}
use Rattle.std.proofs.lemmas.Bool.{and_parts, leb-true, ne_eqb}
use Rattle.std.proofs.lemmas.List.Elements.{filter_map-append}
use Rattle.std.proofs.lemmas.List.Splits.{join_with_byte-slice_split}
use Rattle.std.proofs.lemmas.List.Sums.{sum_by-cons}
use Rattle.retro_base.specs.Facts.{same_bytes}
use Rattle.retro_io.specs.Lines.{has_line_feed, lines, without_return}
use Rattle.retro_io.specs.LineLaws.{lines-cut}
use Rattle.evidence.specs.declared.evidence.Evidence.{Evidence}
use Rattle.evidence.specs.Evidence.{IsEvidence}
use Rattle.evidence.specs.Laws.{LinesAreShort, PrintedReadsBack}
use Rattle.evidence.specs.Reading.{evidence_of, named, spelled_by, words}
use Rattle.evidence.specs.Spelling.{spelling}
use Rattle.evidence_check.specs.Judgement.{Judge, accepted, decided, first_cause, is_evidence_line, judged, judgement, judgement_from, nothing_reported, reported_after}
use Rattle.evidence_check.specs.JudgementLaws.{judged-other, judged-spelling}
use Rattle.reactions.specs.Outcome.{as_line}
use Rattle.retro_run.specs.Events.{events_among, events_spelled}
use Rattle.script_laws.proofs.accepted.Leads.{Leads, leads-append, leads_one}
use Rattle.script_laws.proofs.accepted.Printable.{is_printable}

-- the judge after evidence that it accepts
abbrev pub with_event : Judge → Evidence → Judge
with_event judge e = record { reported = reported_after judge.reported e; accepted = judge.accepted + 1 }

-- what a judge makes of a line: one that is no evidence is passed over, and true evidence is taken
pub data Takes (judge : Judge) : List ℕ → Judge → Type 0 where
  passes : (line : List ℕ) → is_evidence_line line ≡ false → Takes judge line judge
  tells : (e : Evidence) → IsEvidence e → first_cause judge.reported e ≡ None → Takes judge (spelling e) (with_event judge e)

-- the text is some lines, which the judge takes
pub record Reads (judge : Judge) (text : List ℕ) (after : Judge) : Type 0 where
  pub read : List (List ℕ)
  pub cut : (rest : List ℕ) → lines (text ++ rest) ≡ read ++ lines rest
  pub taken : Leads Takes judge read after

pub reads_nothing : (judge : Judge) → Reads judge [] judge
reads_nothing judge = record { read = []; cut = λ rest. refl; taken = refl }

pub reads-append : (judge middle after : Judge) (front back : List ℕ) → Reads judge front middle → Reads middle back after → Reads judge (front ++ back) after
reads-append judge middle after front back first second = record {
  read = first.read ++ second.read;
  cut = λ rest. ap lines (append_assoc front back rest) ∙ first.cut (back ++ rest) ∙ ap (λ more. first.read ++ more) (second.cut rest)
      ∙ sym (append_assoc first.read second.read (lines rest));
  taken = leads-append Takes first.read second.read judge middle after first.taken second.taken;
}

-- a text without bytes below the space is a line
no_feed : (text : List ℕ) → is_printable text ≡ true → has_line_feed text ≡ false
no_feed [] is = refl
no_feed (byte ∷ text) is =
    let parts = and_parts (nat_le 32 byte) (is_printable text) is in
    let least : 32 < byte + 1 = omega (arith, leb-true 32 byte parts.0) in
    rw (ne_eqb byte 10 (λ same. omega arith)) (no_feed text parts.1)

no_return : (text : List ℕ) → is_printable text ≡ true → without_return text ≡ text
no_return [] is = refl
no_return (byte ∷ []) is =
    let parts = and_parts (nat_le 32 byte) true is in
    let least : 32 < byte + 1 = omega (arith, leb-true 32 byte parts.0) in
    rw (ne_eqb byte 13 (λ same. omega arith)) refl
no_return (byte ∷ next ∷ text) is =
    let parts = and_parts (nat_le 32 byte) (is_printable (next ∷ text)) is in
    ap (λ more. byte ∷ more) (no_return (next ∷ text) parts.1)

pub line_first : (text rest : List ℕ) → is_printable text ≡ true → lines (as_line text ++ rest) ≡ text ∷ lines rest
line_first text rest is = ap lines (append_assoc text (10 ∷ []) rest) ∙ lines-cut text rest (no_feed text is) ∙ ap (λ line. line ∷ lines rest) (no_return text is)

-- a line alone
pub line_alone : (text : List ℕ) → is_printable text ≡ true → lines (as_line text) ≡ text ∷ []
line_alone text is = ap lines (sym (append-nil (as_line text))) ∙ line_first text [] is

pub reads_line : (judge after : Judge) (text : List ℕ) → is_printable text ≡ true → Takes judge text after → Reads judge (as_line text) after
reads_line judge after text is takes = record {
  read = text ∷ [];
  cut = λ rest. line_first text rest is;
  taken = leads_one Takes text judge after takes;
}

-- a line that is no evidence is passed over
pub reads_other : (judge : Judge) (text : List ℕ) → is_printable text ≡ true → is_evidence_line text ≡ false → Reads judge (as_line text) judge
reads_other judge text is other = reads_line judge judge text is (Takes.passes text other)

-- A line that is no evidence spells no event.
no_words : (all : List (List ℕ)) → is_evidence_line (join_with_byte 32 all) ≡ false → spelled_by all ≡ None
no_words [] other = refl
no_words (word ∷ []) other =
    elim (bytes_eq word (codes "edit")) as (λ b. cond b (named []) None ≡ None) [ true ↦ refl | false ↦ refl ]
no_words (word ∷ next ∷ rest) other =
    elim (bytes_eq word (codes "edit"))
    as (λ b. bytes_eq word (codes "edit") ≡ b → cond b (named (next ∷ rest)) None ≡ None) [
      | true ↦ λ begins.
          let wrong : true ≡ false =
          subst (λ first. is_evidence_line (join_with_byte 32 (first ∷ next ∷ rest)) ≡ false)
          (same_bytes word (codes "edit") begins) other in
          absurd (cc)
      | false ↦ λ apart. refl
    ] refl

pub no_event : (line : List ℕ) → is_evidence_line line ≡ false → evidence_of line ≡ None
unfolding evidence_of
no_event line other =
    no_words (words line) (subst (λ l. is_evidence_line l ≡ false) (sym (join_with_byte-slice_split 32 line)) other)

-- the lines of a text that was read
pub lines_read : (judge after : Judge) (text : List ℕ) (reads : Reads judge text after) → lines text ≡ reads.read
lines_read judge after text reads = ap lines (sym (append-nil text)) ∙ reads.cut [] ∙ append-nil reads.read

-- and so the events among a text that was read and another one after it are those of the one, and then those of the other
pub events-append : (judge middle : Judge) (front back : List ℕ) → Reads judge front middle → events_among (front ++ back) ≡ events_among front ++ events_among back
events-append judge middle front back reads =
    ap events_spelled (reads.cut back) ∙ filter_map-append evidence_of reads.read (lines back)
    ∙ ap (λ es. events_spelled es ++ events_among back) (sym (lines_read judge middle front reads))

-- One evidence line more is accepted where one is taken.
abbrev one_if : Bool → ℕ
one_if test = cond test 1 0

spelling_begins : (e : Evidence) → is_evidence_line (spelling e) ≡ true
unfolding spelling
spelling_begins e = refl

line_counts : (judge after : Judge) (line : List ℕ) → Takes judge line after → after.accepted ≡ judge.accepted + one_if (is_evidence_line line)
line_counts judge after line takes = grind (arith, spelling_begins)

module _ (back : PrintedReadsBack) (short : LinesAreShort) where
  goes_on : (judge after : Judge) (line : List ℕ) → Takes judge line after → judged judge line ≡ Ok after
  goes_on judge after line (Takes.passes passed other) = judged-other judge passed other
  goes_on judge after line (Takes.tells e is none) = judged-spelling back short judge e is ∙ ap (λ cause. decided cause judge e) none

  -- so the lines that a judge takes are accepted, in as many lines as are evidence
  all_accepted : (written : List (List ℕ)) (before : ℕ) (judge after : Judge) → Leads Takes judge written after
      → judgement_from before judge written ≡ accepted (judge.accepted + count_by is_evidence_line written)
  all_accepted [] before judge after leads = ap accepted (omega arith)
  all_accepted (line ∷ written) before judge after leads =
      let next = leads.0 in
      let count : next.accepted + count_by is_evidence_line written ≡ judge.accepted + count_by is_evidence_line (line ∷ written) =
      omega (arith, line_counts judge next line leads.1, sum_by-cons (λ l. one_if (is_evidence_line l)) line written) in
      rw (goes_on judge next line leads.1) (all_accepted written (before + 1) next after leads.2 ∙ ap accepted count)

  -- a text that the judge takes whole is accepted
  pub reads_whole : (text : List ℕ) (after : Judge) → Reads nothing_reported text after → judgement (lines text) ≡ accepted (count_by is_evidence_line (lines text))
  reads_whole text after reads =
      subst (λ written. judgement written ≡ accepted (count_by is_evidence_line written)) (sym (lines_read nothing_reported after text reads))
      (all_accepted reads.read 0 nothing_reported after reads.taken ∙ ap accepted (omega arith))
