-- What a plain list keeps of a priority queue are its survivors, and an edit of it is one that the laws on bridges speak of. Of
-- the other kinds a change is `Plain`.
use Rattle.std.proofs.Common.{◌≡◌, ℕ, ℤ, ◌≤◌, List, length, ap, sym, ◌∙◌, subst, Some, None, Ok}
use Rattle.std.specs.List.{slice_get}
use Rattle.std.specs.Result.{result_unwrap_or}
use Rattle.retro_base.specs.declared.kind.Kind.{Kind}
use Rattle.retro_base.specs.declared.kind.Kind.TheVariants.{Pq}
use Rattle.retro_base.specs.declared.row.Change.{Change}
use Rattle.retro_base.specs.declared.row.Change.TheVariants.{Plain}
use Rattle.retro_base.specs.declared.row.Entry.{Entry}
use Rattle.retro_base.specs.declared.row.Row.{Row}
use Rattle.retro_base.specs.Content.{RepresentsRows}
use Rattle.retro_base.specs.Kind.{kind_of}
use Rattle.retro_base.specs.State.{State, items, pairs, entries, empty}
use Rattle.retro_base.specs.Replay.{run, failure, IsValid}
use Rattle.retro_base.specs.Timeline.{IsFresh}
use Rattle.retro_base.specs.Edits.{Edit, add, cut, edited, IsAccepted}
use Rattle.retro_base.specs.Facts.{some_is_not_none}
use Rattle.retro_base.specs.MarkedChange.{marked_change, marked_failure}
use Rattle.retro_base.specs.MarkedChangeLaws.{IsRightOf}
use Rattle.retro_base.specs.Bridges.{survivors, entries_of}
use Rattle.retro_base.specs.Carried.{IsPqHistory, IsPqEdit}
use Rattle.retro_base.specs.Changes.{IsChange}
use Rattle.retro_base.specs.lemmas.Counted.{pq_holds_entries, entries_are_of_pq, no_line, no_pairs}
use Rattle.retro_base.specs.lemmas.Replayable.{plain_change}
use Rattle.retro_base.specs.lemmas.bridges.MarkedChange.{marks_tell}

-- entries are kept of a priority queue alone
pub kind_is : (kind : Kind) (rows : List Row) (state : State) (es : List Entry) → RepresentsRows kind rows state → state ≡ entries es → kind ≡ Pq
kind_is kind rows state es keeps same = entries_are_of_pq kind rows state es same keeps.replayable.of_kind keeps.kept

pub kept_survivors : (kind : Kind) (rows : List Row) (state : State) (es : List Entry) → RepresentsRows kind rows state → state ≡ entries es → es ≡ survivors rows
kept_survivors kind rows state es keeps same =
    let whole : run rows (empty Pq) ≡ Ok (entries es) = subst (λ k. run rows (empty k) ≡ Ok (entries es)) (kind_is kind rows state es keeps same) (keeps.kept ∙ ap (λ s. Ok s) same) in
    sym (ap (λ r. entries_of (result_unwrap_or r (empty Pq))) whole)

pub kept_history : (kind : Kind) (rows : List Row) (state : State) (es : List Entry) → RepresentsRows kind rows state → state ≡ entries es → IsPqHistory rows
kept_history kind rows state es keeps same =
    let is = kind_is kind rows state es keeps same in
    record {
      of_kind = rw is at keeps.replayable.of_kind;
      own_numbers = keeps.replayable.own_numbers;
      valid = rw is at keeps.replayable.valid;
    }

pub kept_adds : (kind : Kind) (rows : List Row) (state : State) (es : List Entry) (place : ℕ) (row : Row) → RepresentsRows kind rows state → state ≡ entries es
    → place ≤ length rows → IsFresh row.number rows → kind_of row.op ≡ kind → IsPqEdit rows (add place row)
kept_adds kind rows state es place row keeps same within fresh of_kind =
    record { history = kept_history kind rows state es keeps same; within = within; own_row = (of_kind ∙ kind_is kind rows state es keeps same, fresh) }

pub kept_cuts : (kind : Kind) (rows : List Row) (state : State) (es : List Entry) (place : ℕ) (row : Row) → RepresentsRows kind rows state → state ≡ entries es
    → slice_get rows place ≡ Some row → IsPqEdit rows (cut place row)
kept_cuts kind rows state es place row keeps same there = record { history = kept_history kind rows state es keeps same; within = there; own_row = tt }

-- the change that is read off the marks is the one, and one is read of an edit after which the rows replay
pub kept_changes : (kind : Kind) (rows : List Row) (state : State) (es : List Entry) (edit : Edit) (change : Change) → RepresentsRows kind rows state → state ≡ entries es
    → IsPqEdit rows edit → marked_change rows edit ≡ Some change → IsChange kind rows edit change
kept_changes kind rows state es edit change keeps same possible read =
    subst (λ k. IsChange k rows edit change) (sym (kind_is kind rows state es keeps same)) (subst (IsRightOf rows edit) read (marks_tell rows edit possible)).1

pub kept_reads : (kind : Kind) (rows : List Row) (state : State) (es : List Entry) (edit : Edit) → RepresentsRows kind rows state → state ≡ entries es
    → IsPqEdit rows edit → IsValid kind (edited rows edit) → marked_change rows edit ≡ None → ⊥
kept_reads kind rows state es edit keeps same possible valid none =
    let accepted : IsAccepted Pq rows edit = rw (kind_is kind rows state es keeps same) at valid in
    let fails : failure Pq (edited rows edit) ≡ Some (marked_failure rows edit) = subst (IsRightOf rows edit) none (marks_tell rows edit possible) in
    some_is_not_none (sym fails ∙ accepted)

pub plain_of_items : (kind : Kind) (rows : List Row) (state : State) (xs : List ℤ) (edit : Edit) → RepresentsRows kind rows state → state ≡ items xs → IsChange kind rows edit Plain
plain_of_items kind rows state xs edit keeps same = plain_change kind rows edit (λ is.
    let held = pq_holds_entries kind rows state is keeps.replayable.of_kind keeps.kept in no_line state same held.1)

pub plain_of_pairs : (kind : Kind) (rows : List Row) (state : State) (ps : List (ℤ × ℤ)) (edit : Edit) → RepresentsRows kind rows state → state ≡ pairs ps → IsChange kind rows edit Plain
plain_of_pairs kind rows state ps edit keeps same = plain_change kind rows edit (λ is.
    let held = pq_holds_entries kind rows state is keeps.replayable.of_kind keeps.kept in no_pairs state same held.1)
