-- What a queue by bridges answers of the present, and its empty start.
use Rattle.std.proofs.Common.{◌≡◌, ℕ, zero, suc, ◌+◌, ◌<◌, ◌≤◌, pos, true, false, Bool, cond, List, [], ◌∷◌, ◌++◌, length, map, drop, refl, sym, ap, ◌∙◌, arith, Some, length-append}
use Rattle.std.specs.Prelude.{Contains, not}
use Rattle.std.specs.List.{remove, slice_get}
use Rattle.std.specs.Option.{option_map}
use Rattle.std.proofs.lemmas.List.{append_assoc, append-nil, drop_all, length-map}
use Rattle.std.proofs.lemmas.List.Edits.{length-remove}
use Rattle.retro_base.specs.declared.kind.Kind.TheVariants.{Pq}
use Rattle.retro_base.specs.declared.question.Answer.TheVariants.{Number}
use Rattle.retro_base.specs.declared.question.Item.{Item}
use Rattle.retro_base.specs.declared.question.Item.TheVariants.{Single}
use Rattle.retro_base.specs.declared.question.Question.TheVariants.{Size, Min, Nth}
use Rattle.retro_base.specs.declared.row.Entry.{Entry}
use Rattle.retro_base.specs.declared.row.Row.{Row}
use Rattle.retro_base.specs.Answers.{answer_of, number_of, key_of, content}
use Rattle.retro_base.specs.Bridges.{survivors, is_among}
use Rattle.retro_base.specs.Limits.{most_rows}
use Rattle.retro_base.specs.Replay.{run, failure, present}
use Rattle.retro_base.specs.State.{step, empty, entries}
use Rattle.retro_base.specs.Weights.{added_by}
use Rattle.retro_base.specs.lemmas.Folds.{err_within}
use Rattle.retro_base.specs.lemmas.Replayable.{empty_replayable}
use Rattle.retro_base.specs.lemmas.bridges.Entries.{contains_in, in_contains}
use Rattle.retro_base.specs.lemmas.bridges.Tests.{in_is_among, is_among_in}
use Rattle.retro_base.specs.OrderLaws.{all_at}
use Rattle.bridge_pq.specs.declared.marked_row.MarkedRow.{MarkedRow}
use Rattle.bridge_pq.specs.declared.marked_entry.MarkedEntry.{MarkedEntry}
use Rattle.bridge_pq.specs.Bridged.{AreAdded, IsBridged}
use Rattle.bridge_pq.specs.MarkedEntries.{entries_in, present_in}
use Rattle.retro_base.specs.MarkedChange.{is_one_of}
use Rattle.bridge_pq.specs.MarkedRows.{rows_of}
use Rattle.bridge_pq.proofs.Edited.{history-of, few-entries, rows-length}
use Rattle.bridge_pq.proofs.HeldEntries.{present-is, present-state}
use Rattle.retro_base.specs.Outcomes.{err_of}

-- nothing is kept of no rows
pub empty-bridged : IsBridged [] []
empty-bridged = record {
  replayable = empty_replayable Pq;
  marked = tt;
  holds = record { rise = tt; as_many = refl; same = λ entry. ((λ has. has), (λ has. has)); tell = tt };
}

pub fails-without : (rows : List Row) (place i : ℕ) → place < length rows → failure Pq (remove rows place) ≡ Some i → i + 1 < length rows
fails-without rows place i within fails =
    omega (arith, length-remove rows place within, err_within step (remove rows place) (empty Pq) i (err_of (run (remove rows place) (empty Pq)) i fails))

module _ (items : List MarkedRow) (kept : List MarkedEntry) (bridged : IsBridged items kept) where
  -- the present is reported by the marks
  pub present-reported : present Pq (rows_of items) ≡ entries (present_in kept)
  present-reported = present-state (rows_of items) (history-of items kept bridged) ∙ ap (λ es. entries es) (sym (present-is (rows_of items) kept (history-of items kept bridged) bridged.holds))

  pub size-answer : answer_of (present Pq (rows_of items)) Size ≡ Number (pos (length (present_in kept)))
  unfolding answer_of
  size-answer = ap (λ state. answer_of state Size) present-reported

  pub min-answer : answer_of (present Pq (rows_of items)) Min ≡ number_of (option_map key_of (slice_get (present_in kept) 0))
  unfolding answer_of
  min-answer = ap (λ state. answer_of state Min) present-reported

  pub nth-answer : (index : ℕ) → answer_of (present Pq (rows_of items)) (Nth index) ≡ number_of (option_map key_of (slice_get (present_in kept) index))
  unfolding answer_of
  nth-answer index = ap (λ state. answer_of state (Nth index)) present-reported

  pub keys-reported : content (present Pq (rows_of items)) ≡ map (λ entry. Single entry.key) (present_in kept)
  unfolding content
  keys-reported = ap content present-reported

  -- a mark tells whether the entry of the row at a place survives
  module _ (place : ℕ) (item : MarkedRow) (own : Entry) (there : slice_get items place ≡ Some item) (adds : added_by item.row ≡ Some own) where
    reported : item.survives ≡ is_among (survivors (rows_of items)) own
    reported = all_at (λ (one : MarkedRow). one.survives ≡ is_one_of (survivors (rows_of items)) (added_by one.row)) items place item bridged.marked there ∙ ap (is_one_of (survivors (rows_of items))) adds

    pub mark-lives : item.survives ≡ true → Contains (survivors (rows_of items)) own
    mark-lives set = in_contains _ own (is_among_in own (survivors (rows_of items)) (sym reported ∙ set))

    pub mark-dead : item.survives ≡ false → ¬ Contains (survivors (rows_of items)) own
    mark-dead set lives =
        let wrong : true ≡ false = sym (in_is_among own (survivors (rows_of items)) (contains_in _ own lives)) ∙ sym reported ∙ set in
        absurd (cc)

  pub entries-few : length kept ≤ length (rows_of items)
  entries-few = omega (arith, few-entries items kept bridged, rows-length items)

pub unmarked : (mark : Bool) → not mark ≡ true → mark ≡ false
unmarked true clear = sym clear
unmarked false clear = refl

-- the keys of the present, entry by entry
abbrev pub keys_in : List MarkedEntry → List Item
keys_in items = map (λ entry. Single entry.key) (present_in items)

keys-few : (items : List MarkedEntry) → length (keys_in items) ≤ length items
keys-few [] = omega arith
keys-few (item ∷ items) = elim item.present as (λ b. length (map (λ entry. Single entry.key) (cond b (item.entry ∷ present_in items) (present_in items))) ≤ suc (length items)) [
  | true ↦ omega (arith, keys-few items)
  | false ↦ omega (arith, keys-few items)
]

dropped : (items : List MarkedEntry) (place : ℕ) (item : MarkedEntry) → slice_get items place ≡ Some item → drop place items ≡ item ∷ drop (suc place) items
dropped [] place item there = absurd (cc)
dropped (first ∷ items) zero item there = let same : first ≡ item = cc in ap (λ i. i ∷ items) same
dropped (first ∷ items) (suc place) item there = dropped items place item there

keys_step : (item : MarkedEntry) (b : Bool) (rest : List MarkedEntry) → item.present ≡ b → keys_in (item ∷ rest) ≡ map (λ entry. Single entry.key) (cond b (item.entry ∷ present_in rest) (present_in rest))
keys_step item b rest mark = ap (λ m. map (λ entry. Single entry.key) (cond m (item.entry ∷ present_in rest) (present_in rest))) mark

pub keys-room : (items : List MarkedEntry) (listing : List Item) (place : ℕ) → listing ++ keys_in (drop place items) ≡ keys_in items → length items ≤ most_rows → length listing ≤ most_rows
keys-room items listing place so_far few = omega (arith, ap length so_far, length-append listing (keys_in (drop place items)), keys-few items, few)

pub keys-pushed : (items : List MarkedEntry) (listing after : List Item) (place next : ℕ) (item : MarkedEntry) → next ≡ place + 1 → listing ++ keys_in (drop place items) ≡ keys_in items
    → slice_get items place ≡ Some item → item.present ≡ true → after ≡ listing ++ Single item.entry.key ∷ [] → after ++ keys_in (drop next items) ≡ keys_in items
keys-pushed items listing after place next item on so_far there mark pushed =
    let later : next ≡ suc place = omega (arith, on) in
    ap (λ l. l ++ keys_in (drop next items)) pushed
    ∙ append_assoc listing (Single item.entry.key ∷ []) (keys_in (drop next items))
    ∙ ap (λ n. listing ++ Single item.entry.key ∷ keys_in (drop n items)) later
    ∙ ap (λ l. listing ++ l) (sym (keys_step item true (drop (suc place) items) mark) ∙ ap keys_in (sym (dropped items place item there)))
    ∙ so_far

pub keys-passed : (items : List MarkedEntry) (listing : List Item) (place next : ℕ) (item : MarkedEntry) → next ≡ place + 1 → listing ++ keys_in (drop place items) ≡ keys_in items
    → slice_get items place ≡ Some item → item.present ≡ false → listing ++ keys_in (drop next items) ≡ keys_in items
keys-passed items listing place next item on so_far there mark =
    let later : next ≡ suc place = omega (arith, on) in
    ap (λ n. listing ++ keys_in (drop n items)) later
    ∙ ap (λ l. listing ++ l) (sym (keys_step item false (drop (suc place) items) mark) ∙ ap keys_in (sym (dropped items place item there)))
    ∙ so_far

pub keys-whole : (items : List MarkedEntry) (listing : List Item) (place : ℕ) → listing ++ keys_in (drop place items) ≡ keys_in items → length items ≤ place → listing ≡ keys_in items
keys-whole items listing place so_far all = sym (append-nil listing) ∙ ap (λ l. listing ++ keys_in l) (sym (drop_all place items all)) ∙ so_far

-- the entries that are kept are all that the rows add
pub all-added : (items : List MarkedRow) (kept : List MarkedEntry) → IsBridged items kept → AreAdded (rows_of items) (entries_in kept)
all-added items kept bridged =
    record { rise = bridged.holds.rise; as_many = length-map kept (λ item. item.entry) ∙ bridged.holds.as_many; same = bridged.holds.same }
