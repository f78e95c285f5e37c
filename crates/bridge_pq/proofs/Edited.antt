-- An edit of what a queue by bridges keeps: the row comes in or goes, and then the marks of the changed entry are flipped.
use Rattle.std.proofs.Common.{◌≡◌, ℕ, ◌<◌, ◌≤◌, Bool, false, List, length, sym, ap, ◌∙◌, arith, subst, refl, Some, None}
use Rattle.std.specs.Prelude.{Contains, slice_set, Result, Ok, Err, OnOk, OnErr}
use Rattle.std.specs.List.{insert, remove, slice_get}
use Rattle.std.proofs.lemmas.List.{length-map}
use Rattle.std.proofs.lemmas.Option.{slice_get_within}
use Rattle.retro_base.specs.declared.kind.Kind.TheVariants.{Pq}
use Rattle.retro_base.specs.declared.row.Change.TheVariants.{Lose}
use Rattle.retro_base.specs.declared.row.Entry.{Entry}
use Rattle.retro_base.specs.declared.row.Row.{Row}
use Rattle.retro_base.specs.Bridges.{survivors}
use Rattle.retro_base.specs.BridgeTable.{added}
use Rattle.retro_base.specs.Carried.{IsPqHistory, IsPqEdit}
use Rattle.retro_base.specs.Changes.{IsPqChange}
use Rattle.retro_base.specs.Edits.{Edit, add, cut, edited}
use Rattle.retro_base.specs.InsertedLaws.{fresh_for, kind_for}
use Rattle.retro_base.specs.Limits.{most_rows}
use Rattle.retro_base.specs.Replay.{IsValid}
use Rattle.retro_base.specs.ReplayableLaws.{replayable_without}
use Rattle.retro_base.specs.Timeline.{IsFresh, IsReplayable}
use Rattle.retro_base.specs.Weights.{added_by}
use Rattle.retro_base.specs.lemmas.bridges.Entries.{In, contains_in, in_contains}
use Rattle.retro_base.specs.lemmas.bridges.Histories.{added_number}
use Rattle.bridge_pq.specs.declared.flip.Flip.{Flip}
use Rattle.bridge_pq.specs.declared.marked_row.MarkedRow.{MarkedRow}
use Rattle.bridge_pq.specs.declared.marked_entry.MarkedEntry.{MarkedEntry}
use Rattle.bridge_pq.specs.Bridged.{AddsAt, IsFlipped, Holds, IsBridged}
use Rattle.bridge_pq.specs.Flips.{Flips, Lacks, Unflipped}
use Rattle.bridge_pq.specs.MarkedEntries.{entries_in, put_marked, without_entry, marked_so}
use Rattle.bridge_pq.specs.MarkedRows.{rows_of, AreMarked}
use Rattle.bridge_pq.proofs.Places.{insert-at, map-insert, map-remove, map-get, set-inserted}
use Rattle.bridge_pq.proofs.RowExtremes.{adds-in, adds-within}
use Rattle.bridge_pq.proofs.EntryEdits.{put-then-marked}
use Rattle.bridge_pq.proofs.FoundFlips.{own-read, read-changes}
use Rattle.bridge_pq.proofs.FlippedRows.{flip-loss, others-marked, set-marked, rows-set, insert-marked, remove-marked, fresh-removed}
use Rattle.bridge_pq.proofs.HeldEntries.{added-le, fresh-not-added, holds-put, holds-with-take, holds-taken, holds-without-take, holds-marked, holds-others, survivor-added}
use Rattle.retro_base.specs.Facts.{one_value}

pub rows-length : (items : List MarkedRow) → length (rows_of items) ≡ length items
rows-length items = simp length-map

pub history-of : (items : List MarkedRow) (entries : List MarkedEntry) → IsBridged items entries → IsPqHistory (rows_of items)
history-of items entries bridged = record { of_kind = bridged.replayable.of_kind; own_numbers = bridged.replayable.own_numbers; valid = bridged.replayable.valid }

pub possible-add : (items : List MarkedRow) (entries : List MarkedEntry) → IsBridged items entries → (place : ℕ) (row : Row) → place ≤ length items → IsReplayable Pq (insert (rows_of items) place row)
    → IsPqEdit (rows_of items) (add place row)
possible-add items entries bridged place row within replayable = record {
  history = history-of items entries bridged;
  within = omega (arith, rows-length items);
  own_row = (kind_for Pq (rows_of items) place row replayable, fresh_for Pq (rows_of items) place row replayable);
}

pub possible-cut : (items : List MarkedRow) (entries : List MarkedEntry) (place : ℕ) (row : Row) → IsBridged items entries → slice_get (rows_of items) place ≡ Some row → IsPqEdit (rows_of items) (cut place row)
possible-cut items entries place row bridged there = record { history = history-of items entries bridged; within = there; own_row = tt }

pub few-entries : (items : List MarkedRow) (entries : List MarkedEntry) → IsBridged items entries → length entries ≤ length items
few-entries items entries bridged = omega (arith, bridged.holds.as_many, added-le (rows_of items), rows-length items)

pub few-rows : (items : List MarkedRow) (entries : List MarkedEntry) → IsBridged items entries → length items ≤ most_rows
few-rows items entries bridged = omega (arith, bridged.replayable.few, rows-length items)

-- rows and entries whose marks are still those of before, where an entry that a row of these adds is flipped
module _ (rows : List Row) (before : List Entry) (items : List MarkedRow) (entries : List MarkedEntry) (unflipped : Unflipped rows before items entries) (p : ℕ) (e : Entry) (at : AddsAt rows p e) where
  flip_done : (b : Bool) → IsFlipped before (survivors rows) e b → (new_items : List MarkedRow) (new_entries : List MarkedEntry)
      → ((item : MarkedRow) → slice_get items p ≡ Some item → new_items ≡ slice_set items p (record { row = item.row; survives = b })) → new_entries ≡ marked_so e b entries
      → IsBridged new_items new_entries × (rows_of new_items ≡ rows)
  flip_done b flip new_items new_entries set marked =
      let found = map-get (λ (item : MarkedRow). item.row) items p at.0 (ap (λ l. slice_get l p) unflipped.rows_are ∙ at.1) in
      let item = found.0 in
      let adds : added_by item.row ≡ Some e = ap added_by found.2 ∙ at.2 in
      let is : new_items ≡ slice_set items p (record { row = item.row; survives = b }) = set item found.1 in
      let rows_same : rows_of new_items ≡ rows = ap rows_of is ∙ rows-set items p item b found.1 ∙ unflipped.rows_are in
      let own = subst (λ l. IsReplayable Pq l) (sym unflipped.rows_are) unflipped.replayable in
      let right : AreMarked (survivors rows) new_items = subst (AreMarked (survivors rows)) (sym is) (set-marked items p item before (survivors rows) e b flip own.own_numbers found.1 adds unflipped.marked) in (
        record {
          replayable = subst (λ l. IsReplayable Pq l) (sym rows_same) unflipped.replayable;
          marked = subst (λ l. AreMarked (survivors l) new_items) (sym rows_same) right;
          holds = subst (λ l. Holds l (survivors l) new_entries) (sym rows_same)
              (subst (Holds rows (survivors rows)) (sym marked) (holds-marked rows before (survivors rows) entries e b flip unflipped.holds));
        },
        rows_same,
      )

module _ (items : List MarkedRow) (entries : List MarkedEntry) (flip : Flip) (lacks : Lacks items entries flip) where
  same_length : length items ≡ length lacks.rows
  same_length = sym (rows-length items) ∙ ap length lacks.unflipped.rows_are

  pub lacks-within : flip.place < length items
  lacks-within = omega (arith, same_length, adds-within lacks.rows flip.place flip.entry lacks.there)

  pub lacks-few : length entries ≤ length items
  lacks-few = omega (arith, lacks.unflipped.holds.as_many, added-le lacks.rows, same_length)

  pub lacks-among : Contains (entries_in entries) flip.entry
  lacks-among = (lacks.unflipped.holds.same flip.entry).1 (in_contains _ flip.entry (adds-in lacks.rows flip.place lacks.there.0 flip.entry lacks.there.1 lacks.there.2))

  pub lacks-done : (new_items : List MarkedRow) (new_entries : List MarkedEntry)
      → ((item : MarkedRow) → slice_get items flip.place ≡ Some item → new_items ≡ slice_set items flip.place (record { row = item.row; survives = flip.survives }))
      → new_entries ≡ marked_so flip.entry flip.survives entries → IsBridged new_items new_entries × (rows_of new_items ≡ rows_of items)
  lacks-done new_items new_entries set marked =
      let done = flip_done lacks.rows lacks.before items entries lacks.unflipped flip.place flip.entry lacks.there flip.survives lacks.marks new_items new_entries set marked in
      (done.0, done.1 ∙ sym lacks.unflipped.rows_are)

-- what an edit leaves lacks the flip that was found for it
pub lacks-flip : (rows : List Row) (edit : Edit) (flip : Flip) (items : List MarkedRow) (entries : List MarkedEntry) → Flips rows edit flip
    → Unflipped (edited rows edit) (survivors rows) items entries → Lacks items entries flip
lacks-flip rows edit flip items entries flips unflipped = record { rows = edited rows edit; before = survivors rows; unflipped = unflipped; there = flips.there; marks = flips.marks }

own_entry : (rows : List Row) (place : ℕ) (row : Row) (new e : Entry) → place ≤ length rows → added_by row ≡ Some new → AddsAt (insert rows place row) place e → new ≡ e
own_entry rows place row new e within adds at =
    let same : row ≡ at.0 = one_value (slice_get (insert rows place row) place) row at.0 (insert-at rows place row within) at.1 in
    one_value (added_by row) new e adds (ap added_by same ∙ at.2)

put_then_set : (items : List MarkedRow) (place : ℕ) (row : Row) (a b : Bool) (item : MarkedRow) → place ≤ length items
    → slice_get (insert items place (record { row = row; survives = a })) place ≡ Some item
    → slice_set (insert items place (record { row = row; survives = a })) place (record { row = item.row; survives = b }) ≡ insert items place (record { row = row; survives = b })
put_then_set items place row a b item within there =
    let same : record { row = row; survives = a } ≡ item = one_value (slice_get (insert items place (record { row = row; survives = a })) place) _ item (insert-at items place _ within) there in
    subst (λ (i : MarkedRow). slice_set (insert items place (record { row = row; survives = a })) place (record { row = i.row; survives = b }) ≡ insert items place (record { row = row; survives = b })) same
    (set-inserted items place _ _ within)

-- a row comes in
module _ (items : List MarkedRow) (entries : List MarkedEntry) (bridged : IsBridged items entries) (place : ℕ) (row : Row) (within : place ≤ length items)
    (inserted : IsReplayable Pq (insert (rows_of items) place row)) where
  abbrev rows : List Row
  rows = rows_of items

  absent_from : (x : Entry) → added_by row ≡ Some x → ¬ In x (added rows)
  absent_from x adds = fresh-not-added rows row.number x (fresh_for Pq rows place row inserted) (added_number row.op row.number x adds)

  absent_alive : (x : Entry) → added_by row ≡ Some x → ¬ In x (survivors rows)
  absent_alive x adds inside = absent_from x adds (survivor-added rows x (history-of items entries bridged) inside)

  pub new-absent : (new : Entry) → added_by row ≡ Some new → ¬ Contains (entries_in entries) new
  new-absent new adds has = absent_from new adds (contains_in _ new ((bridged.holds.same new).0 has))

  pub put-adding : (new : Entry) → added_by row ≡ Some new → (new_items : List MarkedRow) (new_entries : List MarkedEntry)
      → new_items ≡ insert items place (record { row = row; survives = false }) → new_entries ≡ put_marked (record { entry = new; present = false }) entries
      → Unflipped (insert rows place row) (survivors rows) new_items new_entries
  put-adding new adds new_items new_entries put_row put_entry = record {
    rows_are = ap rows_of put_row ∙ map-insert (λ (item : MarkedRow). item.row) items place (record { row = row; survives = false });
    replayable = inserted;
    marked = subst (AreMarked (survivors rows)) (sym put_row) (insert-marked items place row (survivors rows) absent_alive bridged.marked);
    holds = subst (Holds (insert rows place row) (survivors rows)) (sym put_entry)
        (holds-put rows (survivors rows) entries place row new adds (absent_from new adds) (absent_alive new adds) bridged.holds);
  }

  -- where its own entry is gained, the row comes in with the mark that it will have
  pub put-gained : (new e : Entry) (b : Bool) → added_by row ≡ Some new → AddsAt (insert rows place row) place e → IsFlipped (survivors rows) (survivors (insert rows place row)) e b
      → (new_items : List MarkedRow) (new_entries : List MarkedEntry) → new_items ≡ insert items place (record { row = row; survives = b })
      → new_entries ≡ put_marked (record { entry = new; present = b }) entries → IsBridged new_items new_entries × (rows_of new_items ≡ insert rows place row)
  put-gained new e b adds at flip new_items new_entries put_row put_entry =
      let same : new ≡ e = own_entry rows place row new e (omega (arith, rows-length items)) adds at in
      let marked : new_entries ≡ marked_so e b (put_marked (record { entry = new; present = false }) entries) =
      put_entry ∙ sym (subst (λ x. marked_so x b (put_marked (record { entry = new; present = false }) entries) ≡ put_marked (record { entry = new; present = b }) entries) same
      (put-then-marked new b entries (λ inside. absent_from new adds (contains_in _ new ((bridged.holds.same new).0 (in_contains _ new inside)))))) in
      flip_done (insert rows place row) (survivors rows) (insert items place (record { row = row; survives = false })) (put_marked (record { entry = new; present = false }) entries)
      (put-adding new adds _ _ refl refl) place e at b flip new_items new_entries
      (λ item there. put_row ∙ sym (put_then_set items place row false b item within there)) marked

  pub put-taking : added_by row ≡ None → (new_items : List MarkedRow) → new_items ≡ insert items place (record { row = row; survives = false })
      → Unflipped (insert rows place row) (survivors rows) new_items entries
  put-taking takes new_items put_row = record {
    rows_are = ap rows_of put_row ∙ map-insert (λ (item : MarkedRow). item.row) items place (record { row = row; survives = false });
    replayable = inserted;
    marked = subst (AreMarked (survivors rows)) (sym put_row) (insert-marked items place row (survivors rows) absent_alive bridged.marked);
    holds = holds-with-take rows (survivors rows) entries place row takes bridged.holds;
  }

-- a row goes
module _ (items : List MarkedRow) (entries : List MarkedEntry) (bridged : IsBridged items entries) (place : ℕ) (row : Row) (there : slice_get (rows_of items) place ≡ Some row)
    (valid : IsValid Pq (remove (rows_of items) place)) where
  abbrev rows_before : List Row
  rows_before = rows_of items

  removed : IsReplayable Pq (remove rows_before place)
  removed = replayable_without Pq rows_before place bridged.replayable valid

  pub cut-within : place < length items
  cut-within = omega (arith, rows-length items, slice_get_within rows_before place row there)

  own_added : (own : Entry) → added_by row ≡ Some own → In own (added rows_before)
  own_added own adds = adds-in rows_before place row own there adds

  pub own-among : (own : Entry) → added_by row ≡ Some own → Contains (entries_in entries) own
  own-among own adds = (bridged.holds.same own).1 (in_contains _ own (own_added own adds))

  pub cut-adding : (own : Entry) → added_by row ≡ Some own → (new_items : List MarkedRow) (new_entries : List MarkedEntry) → new_items ≡ remove items place → new_entries ≡ without_entry own entries
      → Unflipped (remove rows_before place) (survivors rows_before) new_items new_entries
  cut-adding own adds new_items new_entries cut_row cut_entry = record {
    rows_are = ap rows_of cut_row ∙ map-remove (λ (item : MarkedRow). item.row) items place;
    replayable = removed;
    marked = subst (AreMarked (survivors rows_before)) (sym cut_row) (remove-marked items place (survivors rows_before) bridged.marked);
    holds = subst (Holds (remove rows_before place) (survivors rows_before)) (sym cut_entry)
        (holds-taken rows_before (survivors rows_before) entries place row own bridged.replayable.own_numbers there adds (own_added own adds) bridged.holds);
  }

  pub cut-taking : added_by row ≡ None → (new_items : List MarkedRow) → new_items ≡ remove items place → Unflipped (remove rows_before place) (survivors rows_before) new_items entries
  cut-taking takes new_items cut_row = record {
    rows_are = ap rows_of cut_row ∙ map-remove (λ (item : MarkedRow). item.row) items place;
    replayable = removed;
    marked = subst (AreMarked (survivors rows_before)) (sym cut_row) (remove-marked items place (survivors rows_before) bridged.marked);
    holds = holds-without-take rows_before (survivors rows_before) entries place row there takes bridged.holds;
  }

  pub survivor-changes : (own : Entry) → added_by row ≡ Some own → Contains (survivors rows_before) own → IsPqChange rows_before (cut place row) (Lose None own)
  survivor-changes own adds lives =
      read-changes rows_before (cut place row) (possible-cut items entries place row bridged there) (Lose None own) (own-read rows_before place row own adds lives)

  pub cut-survivor : (own : Entry) → added_by row ≡ Some own → Contains (survivors rows_before) own → (new_items : List MarkedRow) (new_entries : List MarkedEntry)
      → new_items ≡ remove items place → new_entries ≡ without_entry own entries → IsBridged new_items new_entries × (rows_of new_items ≡ remove rows_before place)
  cut-survivor own adds lives new_items new_entries cut_row cut_entry =
      let unflipped = cut-adding own adds new_items new_entries cut_row cut_entry in
      let flip = flip-loss own (survivors rows_before) (survivors (remove rows_before place)) (survivor-changes own adds lives).1 in
      let fresh : IsFresh row.number (remove rows_before place) = fresh-removed rows_before place row bridged.replayable.own_numbers there in
      let has : own.number ≡ row.number = added_number row.op row.number own adds in
      let right : AreMarked (survivors (remove rows_before place)) new_items =
      others-marked new_items (survivors rows_before) (survivors (remove rows_before place)) own false row.number flip (subst (IsFresh row.number) (sym unflipped.rows_are) fresh) has unflipped.marked in (
        record {
          replayable = subst (λ l. IsReplayable Pq l) (sym unflipped.rows_are) removed;
          marked = subst (λ l. AreMarked (survivors l) new_items) (sym unflipped.rows_are) right;
          holds = subst (λ l. Holds l (survivors l) new_entries) (sym unflipped.rows_are)
              (holds-others (remove rows_before place) (survivors rows_before) (survivors (remove rows_before place)) new_entries own false flip
              (fresh-not-added (remove rows_before place) row.number own fresh has) unflipped.holds);
        },
        unflipped.rows_are,
      )

-- a call that may be without memory leaves what it keeps bridged
pub bridged-after : {T E : Type 0} (result : Result T E) (items new_items : List MarkedRow) (entries new_entries : List MarkedEntry) → IsBridged items entries
    → OnOk result (IsBridged new_items new_entries) → OnErr result ((new_items ≡ items) × (new_entries ≡ entries)) → IsBridged new_items new_entries
bridged-after (Ok change) items new_items entries new_entries bridged ok err = ok
bridged-after (Err error) items new_items entries new_entries bridged ok err = subst (λ i. IsBridged i new_entries) (sym err.0) (subst (IsBridged items) (sym err.1) bridged)
