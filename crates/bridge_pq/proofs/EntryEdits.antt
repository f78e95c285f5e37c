-- At the place that an entry has among others in their order it is put in, taken out, or marked.
use Rattle.std.proofs.Common.{◌≡◌, ◌≢◌, ℕ, zero, suc, ◌+◌, ◌<◌, ◌≤◌, Bool, true, false, List, [], ◌∷◌, length, ◌⊎◌, inl, inr, refl, sym, ap, ◌∙◌, arith, subst, Result, Ok, Err}
use Rattle.std.specs.Prelude.{slice_set, OnOk, OnErr}
use Rattle.std.specs.List.{AllByRecursion, AllWithin, insert, remove}
use Rattle.std.proofs.lemmas.List.{length-map}
use Rattle.std.proofs.lemmas.List.Edits.{length-insert}
use Rattle.retro_base.specs.declared.row.Row.{Row}
use Rattle.retro_base.specs.declared.row.Entry.{Entry}
use Rattle.retro_base.specs.Bridges.{same_entry}
use Rattle.retro_base.specs.State.{comes_before}
use Rattle.retro_base.specs.lemmas.bridges.EntryOrder.{before_irreflexive, before_one_way, before_or_after, same_entry-refl, not_same}
use Rattle.retro_base.specs.lemmas.bridges.Entries.{In, above_in}
use Rattle.bridge_pq.specs.declared.marked_entry.MarkedEntry.{MarkedEntry}
use Rattle.bridge_pq.specs.declared.marked_row.MarkedRow.{MarkedRow}
use Rattle.bridge_pq.specs.MarkedRows.{rows_of}
use Rattle.bridge_pq.specs.MarkedEntries.{entries_in, Rise, put_marked, without_entry, marked_so}

before_other : (a b : Entry) → comes_before a b ≡ true → a ≢ b
before_other a b before same = let wrong : true ≡ false = sym before ∙ ap (λ x. comes_before x b) same ∙ before_irreflexive b in absurd (cc)

pub put-at : (new : MarkedEntry) (items : List MarkedEntry) (place : ℕ) → ¬ In new.entry (entries_in items) → place ≤ length items
    → AllWithin (λ other. comes_before other new.entry ≡ true) (entries_in items) 0 place
    → AllWithin (λ other. comes_before other new.entry ≡ false) (entries_in items) place (length items) → insert items place new ≡ put_marked new items
put-at new [] zero absent within before after = refl
put-at new [] (suc place) absent within before after = absurd (omega arith)
put-at new (x ∷ items) zero absent within before after =
    let first : comes_before new.entry x.entry ≡ true = before_or_after x.entry new.entry (λ same. absent (inl (sym same))) (after 0 new.entry (omega arith) (omega arith)) in
    rw first refl
put-at new (x ∷ items) (suc place) absent within before after =
    let later : comes_before new.entry x.entry ≡ false = before_one_way x.entry new.entry (before 0 new.entry (omega arith) (omega arith)) in
    let rest : insert items place new ≡ put_marked new items = put-at new items place (λ inside. absent (inr inside)) (omega arith)
    (λ k d low high. before (suc k) d (omega arith) (omega arith)) (λ k d low high. after (suc k) d (omega arith) (omega arith)) in
    rw later (ap (λ l. x ∷ l) rest)

-- none of those after is the entry
none_taken : (e : Entry) (items : List MarkedEntry) → AllByRecursion (λ y. comes_before e y ≡ true) (entries_in items) → without_entry e items ≡ items
none_taken e [] above = refl
none_taken e (y ∷ items) above =
    let other : same_entry y.entry e ≡ false = not_same y.entry e (λ same. before_other e y.entry above.0 (sym same)) in
    rw other (ap (λ l. y ∷ l) (none_taken e items above.1))

none_marked : (e : Entry) (b : Bool) (items : List MarkedEntry) → AllByRecursion (λ y. comes_before e y ≡ true) (entries_in items) → marked_so e b items ≡ items
none_marked e b [] above = refl
none_marked e b (y ∷ items) above =
    let other : same_entry y.entry e ≡ false = not_same y.entry e (λ same. before_other e y.entry above.0 (sym same)) in
    rw other (ap (λ l. y ∷ l) (none_marked e b items above.1))

-- the entry stands at the place
here_is : (e x : Entry) (xs : List Entry) → AllByRecursion (λ y. comes_before x y ≡ true) xs → (e ≡ x) ⊎ In e xs → comes_before x e ≡ false → x ≡ e
here_is e x xs above (inl same) after = sym same
here_is e x xs above (inr later) after = let wrong : true ≡ false = sym (above_in x e xs above later) ∙ after in absurd (cc)

further_in : (e x : Entry) (xs : List Entry) → (e ≡ x) ⊎ In e xs → comes_before x e ≡ true → In e xs
further_in e x xs (inl same) before = absurd (before_other x e before (sym same))
further_in e x xs (inr later) before = later

pub without-at : (e : Entry) (items : List MarkedEntry) (place : ℕ) → Rise (entries_in items) → In e (entries_in items)
    → AllWithin (λ other. comes_before other e ≡ true) (entries_in items) 0 place
    → AllWithin (λ other. comes_before other e ≡ false) (entries_in items) place (length items) → (place < length items) × (remove items place ≡ without_entry e items)
without-at e [] place rise inside before after = absurd inside
without-at e (x ∷ items) zero rise inside before after =
    let here : x.entry ≡ e = here_is e x.entry (entries_in items) rise.0 inside (after 0 e (omega arith) (omega arith)) in
    let same : same_entry x.entry e ≡ true = ap (λ y. same_entry y e) here ∙ same_entry-refl e in
    let above : AllByRecursion (λ y. comes_before e y ≡ true) (entries_in items) = subst (λ z. AllByRecursion (λ y. comes_before z y ≡ true) (entries_in items)) here rise.0 in
    (omega arith, rw same (sym (none_taken e items above)))
without-at e (x ∷ items) (suc place) rise inside before after =
    let first : comes_before x.entry e ≡ true = before 0 e (omega arith) (omega arith) in
    let other : same_entry x.entry e ≡ false = not_same x.entry e (before_other x.entry e first) in
    let rest = without-at e items place rise.1 (further_in e x.entry (entries_in items) inside first)
    (λ k d low high. before (suc k) d (omega arith) (omega arith)) (λ k d low high. after (suc k) d (omega arith) (omega arith)) in
    (omega (arith, rest.0), rw other (ap (λ l. x ∷ l) rest.1))

entry_is : (x : MarkedEntry) (e : Entry) (b : Bool) → x.entry ≡ e → ◌≡◌ {A = MarkedEntry} (record { entry = e; present = b }) (record { entry = x.entry; present = b })
entry_is x e b same = rw same refl

pub marked-at : (e : Entry) (b : Bool) (items : List MarkedEntry) (place : ℕ) → Rise (entries_in items) → In e (entries_in items)
    → AllWithin (λ other. comes_before other e ≡ true) (entries_in items) 0 place
    → AllWithin (λ other. comes_before other e ≡ false) (entries_in items) place (length items)
    → (place < length items) × (slice_set items place (record { entry = e; present = b }) ≡ marked_so e b items)
marked-at e b [] place rise inside before after = absurd inside
marked-at e b (x ∷ items) zero rise inside before after =
    let here : x.entry ≡ e = here_is e x.entry (entries_in items) rise.0 inside (after 0 e (omega arith) (omega arith)) in
    let same : same_entry x.entry e ≡ true = ap (λ y. same_entry y e) here ∙ same_entry-refl e in
    let above : AllByRecursion (λ y. comes_before e y ≡ true) (entries_in items) = subst (λ z. AllByRecursion (λ y. comes_before z y ≡ true) (entries_in items)) here rise.0 in
    (omega arith, rw same (ap (λ y. y ∷ items) (entry_is x e b here) ∙ ap (λ l. record { entry = x.entry; present = b } ∷ l) (sym (none_marked e b items above))))
marked-at e b (x ∷ items) (suc place) rise inside before after =
    let first : comes_before x.entry e ≡ true = before 0 e (omega arith) (omega arith) in
    let other : same_entry x.entry e ≡ false = not_same x.entry e (before_other x.entry e first) in
    let rest = marked-at e b items place rise.1 (further_in e x.entry (entries_in items) inside first)
    (λ k d low high. before (suc k) d (omega arith) (omega arith)) (λ k d low high. after (suc k) d (omega arith) (omega arith)) in
    (omega (arith, rest.0), rw other (ap (λ l. x ∷ l) rest.1))

-- what is put in and then marked is what is put in with that mark
not_marked : (e : Entry) (b : Bool) (items : List MarkedEntry) → ¬ In e (entries_in items) → marked_so e b items ≡ items
not_marked e b [] absent = refl
not_marked e b (x ∷ items) absent =
    let other : same_entry x.entry e ≡ false = not_same x.entry e (λ same. absent (inl (sym same))) in
    rw other (ap (λ l. x ∷ l) (not_marked e b items (λ inside. absent (inr inside))))

put-then-marked-by : (first : Bool) (e : Entry) (b : Bool) (x : MarkedEntry) (items : List MarkedEntry) → comes_before e x.entry ≡ first → ¬ In e (entries_in (x ∷ items))
    → marked_so e b (put_marked (record { entry = e; present = false }) items) ≡ put_marked (record { entry = e; present = b }) items
    → marked_so e b (put_marked (record { entry = e; present = false }) (x ∷ items)) ≡ put_marked (record { entry = e; present = b }) (x ∷ items)
put-then-marked-by true e b x items before absent rest =
    rw before (rw (same_entry-refl e) (ap (λ l. record { entry = e; present = b } ∷ l) (not_marked e b (x ∷ items) absent)))
put-then-marked-by false e b x items before absent rest =
    let other : same_entry x.entry e ≡ false = not_same x.entry e (λ same. absent (inl (sym same))) in
    rw before (rw other (ap (λ l. x ∷ l) rest))

pub put-then-marked : (e : Entry) (b : Bool) (items : List MarkedEntry) → ¬ In e (entries_in items)
    → marked_so e b (put_marked (record { entry = e; present = false }) items) ≡ put_marked (record { entry = e; present = b }) items
put-then-marked e b [] absent = rw (same_entry-refl e) refl
put-then-marked e b (x ∷ items) absent =
    put-then-marked-by (comes_before e x.entry) e b x items refl absent (put-then-marked e b items (λ inside. absent (inr inside)))

-- no insertion leaves fewer items
pub no_shorter : {X T E : Type 0} (r : Result T E) (old new : List X) (place : ℕ) (x : X) → place ≤ length old → OnOk r (new ≡ insert old place x) → OnErr r (new ≡ old) → length old ≤ length new
no_shorter (Ok t) old new place x within ok err = omega (arith, ap length ok, length-insert old place x within)
no_shorter (Err e) old new place x within ok err = omega (arith, ap length err)

-- rows with one put in are one more
pub one_longer : (old new : List MarkedRow) (place : ℕ) (row : Row) → place ≤ length old → rows_of new ≡ insert (rows_of old) place row → length new ≡ length old + 1
one_longer old new place row within put =
    omega (
      arith,
      ap length put,
      length-insert (rows_of old) place row (omega (arith, length-map old (λ (item : MarkedRow). item.row))),
      length-map new (λ (item : MarkedRow). item.row),
      length-map old (λ (item : MarkedRow). item.row),
    )
