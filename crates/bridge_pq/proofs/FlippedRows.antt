-- An edit flips the mark of one row, and the others' marks stay right.
use Rattle.std.proofs.Common.{◌≡◌, ◌≢◌, ℕ, zero, suc, Bool, true, false, List, [], ◌∷◌, inl, inr, refl, sym, ap, ◌∙◌, subst, Option, Some, None}
use Rattle.std.specs.Prelude.{slice_set}
use Rattle.std.specs.List.{insert, remove, slice_get}
use Rattle.retro_base.specs.declared.row.Entry.{Entry}
use Rattle.retro_base.specs.declared.row.Row.{Row}
use Rattle.retro_base.specs.OrderLaws.{all_with, all_without}
use Rattle.retro_base.specs.State.{with_entry}
use Rattle.retro_base.specs.Bridges.{is_among}
use Rattle.retro_base.specs.Changes.{Joins}
use Rattle.retro_base.specs.Timeline.{IsFresh, HaveOwnNumbers}
use Rattle.retro_base.specs.Weights.{added_by}
use Rattle.retro_base.specs.lemmas.bridges.Entries.{In, in_or_not, in_contains, with_in, in_with}
use Rattle.retro_base.specs.lemmas.bridges.Tests.{in_is_among, not_among}
use Rattle.retro_base.specs.lemmas.bridges.Histories.{added_number}
use Rattle.bridge_pq.specs.declared.marked_row.MarkedRow.{MarkedRow}
use Rattle.bridge_pq.specs.Bridged.{IsFlipped}
use Rattle.retro_base.specs.MarkedChange.{is_one_of}
use Rattle.bridge_pq.specs.MarkedRows.{rows_of, AreMarked}

-- one more among the survivors, or one fewer
among_with : (e x : Entry) (alive : List Entry) → x ≢ e → is_among (with_entry e alive) x ≡ is_among alive x
among_with e x alive other = elim (in_or_not x alive) [
  | inl inside ↦ in_is_among x (with_entry e alive) (with_in e x alive (inr inside)) ∙ sym (in_is_among x alive inside)
  | inr outside ↦ not_among x (with_entry e alive) (λ inside. elim (in_with e x alive inside) [ inl same ↦ other same | inr there ↦ outside there ]) ∙ sym (not_among x alive outside)
]

pub flip-gain : (e : Entry) (before after : List Entry) → Joins e before after → IsFlipped before after e true
flip-gain e before after join = record {
  flip = subst (λ l. is_among l e ≡ true) (sym join.joined) (in_is_among e (with_entry e before) (with_in e e before (inl refl)));
  others = λ x other. subst (λ l. is_among l x ≡ is_among before x) (sym join.joined) (among_with e x before other);
}

pub flip-loss : (e : Entry) (before after : List Entry) → Joins e after before → IsFlipped before after e false
flip-loss e before after join = record {
  flip = not_among e after (λ inside. join.absent (in_contains after e inside));
  others = λ x other. sym (subst (λ l. is_among l x ≡ is_among after x) (sym join.joined) (among_with e x after other));
}

-- a row of another number adds another entry
other_entry : (m : Option Entry) (row : Row) (e : Entry) (number : ℕ) → added_by row ≡ m → e.number ≡ number → row.number ≢ number → (x : Entry) → m ≡ Some x → x ≢ e
other_entry m row e number adds has other x is same =
    other (sym (added_number row.op row.number x (adds ∙ is)) ∙ ap (λ (y : Entry). y.number) same ∙ has)

same_mark_by : (m : Option Entry) (before after : List Entry) (e : Entry) (b : Bool) → IsFlipped before after e b → ((x : Entry) → m ≡ Some x → x ≢ e) → is_one_of before m ≡ is_one_of after m
same_mark_by None before after e b flip other = refl
same_mark_by (Some x) before after e b flip other = sym (flip.others x (other x refl))

same_mark : (row : Row) (before after : List Entry) (e : Entry) (b : Bool) → IsFlipped before after e b → ((x : Entry) → added_by row ≡ Some x → x ≢ e)
    → is_one_of before (added_by row) ≡ is_one_of after (added_by row)
same_mark row before after e b flip other = same_mark_by (added_by row) before after e b flip other

pub others-marked : (items : List MarkedRow) (before after : List Entry) (e : Entry) (b : Bool) (number : ℕ) → IsFlipped before after e b → IsFresh number (rows_of items) → e.number ≡ number
    → AreMarked before items → AreMarked after items
others-marked [] before after e b number flip fresh has marked = tt
others-marked (item ∷ items) before after e b number flip fresh has marked = (
  marked.0 ∙ same_mark item.row before after e b flip (other_entry (added_by item.row) item.row e number refl has fresh.0),
  others-marked items before after e b number flip fresh.1 has marked.1,
)

fresh_at : (rows : List Row) (place : ℕ) (row : Row) (number : ℕ) → IsFresh number rows → slice_get rows place ≡ Some row → row.number ≢ number
fresh_at [] place row number fresh at = absurd (cc)
fresh_at (r ∷ rows) zero row number fresh at = let same : r ≡ row = cc in subst (λ (q : Row). q.number ≢ number) same fresh.0
fresh_at (r ∷ rows) (suc place) row number fresh at = fresh_at rows place row number fresh.1 at

get_row : (items : List MarkedRow) (place : ℕ) (item : MarkedRow) → slice_get items place ≡ Some item → slice_get (rows_of items) place ≡ Some item.row
get_row [] place item at = absurd (cc)
get_row (x ∷ items) zero item at = let same : x ≡ item = cc in ap (λ (y : MarkedRow). Some y.row) same
get_row (x ∷ items) (suc place) item at = get_row items place item at

-- the flipped row
pub set-marked : (items : List MarkedRow) (place : ℕ) (item : MarkedRow) (before after : List Entry) (e : Entry) (b : Bool) → IsFlipped before after e b → HaveOwnNumbers (rows_of items)
    → slice_get items place ≡ Some item → added_by item.row ≡ Some e → AreMarked before items → AreMarked after (slice_set items place (record { row = item.row; survives = b }))
set-marked [] place item before after e b flip own at adds marked = absurd (cc)
set-marked (x ∷ items) zero item before after e b flip own at adds marked =
    let same : x ≡ item = cc in
    let has : e.number ≡ x.row.number = added_number item.row.op item.row.number e adds ∙ ap (λ (y : MarkedRow). y.row.number) (sym same) in
    (sym flip.flip ∙ ap (is_one_of after) (sym adds), others-marked items before after e b x.row.number flip own.0 has marked.1)
set-marked (x ∷ items) (suc place) item before after e b flip own at adds marked =
    let has : e.number ≡ item.row.number = added_number item.row.op item.row.number e adds in
    let other : x.row.number ≢ item.row.number = λ same. fresh_at (rows_of items) place item.row x.row.number own.0 (get_row items place item at) (sym same) in (
      marked.0 ∙ same_mark x.row before after e b flip (other_entry (added_by x.row) x.row e item.row.number refl has other),
      set-marked items place item before after e b flip own.1 at adds marked.1,
    )

pub rows-set : (items : List MarkedRow) (place : ℕ) (item : MarkedRow) (b : Bool) → slice_get items place ≡ Some item → rows_of (slice_set items place (record { row = item.row; survives = b })) ≡ rows_of items
rows-set [] place item b at = absurd (cc)
rows-set (x ∷ items) zero item b at = let same : x ≡ item = cc in ap (λ (y : MarkedRow). y.row ∷ rows_of items) (sym same)
rows-set (x ∷ items) (suc place) item b at = ap (λ l. x.row ∷ l) (rows-set items place item b at)

-- a row that comes in unmarked
unmarked_by : (alive : List Entry) (m : Option Entry) → ((x : Entry) → m ≡ Some x → ¬ In x alive) → false ≡ is_one_of alive m
unmarked_by alive None absent = refl
unmarked_by alive (Some x) absent = sym (not_among x alive (absent x refl))

pub insert-marked : (items : List MarkedRow) (place : ℕ) (row : Row) (alive : List Entry) → ((x : Entry) → added_by row ≡ Some x → ¬ In x alive) → AreMarked alive items
    → AreMarked alive (insert items place (record { row = row; survives = false }))
insert-marked items place row alive absent marked =
    all_with (λ (item : MarkedRow). item.survives ≡ is_one_of alive (added_by item.row)) items place (record { row = row; survives = false }) marked (unmarked_by alive (added_by row) absent)

pub remove-marked : (items : List MarkedRow) (place : ℕ) (alive : List Entry) → AreMarked alive items → AreMarked alive (remove items place)
remove-marked items place alive marked = all_without (λ (item : MarkedRow). item.survives ≡ is_one_of alive (added_by item.row)) items place marked

-- what is left where a row goes has other numbers
pub fresh-removed : (rows : List Row) (place : ℕ) (row : Row) → HaveOwnNumbers rows → slice_get rows place ≡ Some row → IsFresh row.number (remove rows place)
fresh-removed [] place row own at = absurd (cc)
fresh-removed (r ∷ rows) zero row own at = let same : r ≡ row = cc in subst (λ (q : Row). IsFresh q.number rows) same own.0
fresh-removed (r ∷ rows) (suc place) row own at = ((λ same. fresh_at rows place row r.number own.0 at (sym same)), fresh-removed rows place row own.1 at)
