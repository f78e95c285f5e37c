-- The entries that rows add, as rows come in and go and marks are flipped.
use Rattle.std.proofs.Common.{◌≡◌, ◌≢◌, ℕ, zero, suc, ◌+◌, ◌≤◌, Bool, true, false, List, [], ◌∷◌, length, cond, ◌⊎◌, inl, inr, refl, sym, ap, ◌∙◌, arith, subst, Option, Some, None}
use Rattle.std.specs.Prelude.{not, Contains, ◌↔◌}
use Rattle.std.specs.List.{insert, remove, slice_get, cons_option, AllByRecursion}
use Rattle.std.specs.Result.{result_unwrap_or}
use Rattle.std.proofs.Math.Seq.{take-length}
use Rattle.retro_base.specs.declared.kind.Kind.TheVariants.{Pq}
use Rattle.retro_base.specs.declared.row.Entry.{Entry}
use Rattle.retro_base.specs.declared.row.Row.{Row}
use Rattle.retro_base.specs.State.{entries, empty, comes_before, with_entry}
use Rattle.retro_base.specs.Replay.{present}
use Rattle.retro_base.specs.Bridges.{survivors, is_among, same_entry}
use Rattle.retro_base.specs.BridgeTable.{added}
use Rattle.retro_base.specs.Carried.{IsPqHistory}
use Rattle.retro_base.specs.Timeline.{IsFresh, HaveOwnNumbers}
use Rattle.retro_base.specs.Weights.{added_by}
use Rattle.retro_base.specs.lemmas.bridges.Added.{added_adds, adds_added}
use Rattle.retro_base.specs.lemmas.bridges.EntryOrder.{before_irreflexive, before_one_way, same_entry-refl, same_entry-same, not_same}
use Rattle.retro_base.specs.lemmas.bridges.Entries.{In, Rising, above_in, contains_in, in_contains, rising_with, with_in, in_with}
use Rattle.retro_base.specs.lemmas.bridges.Tests.{in_is_among, is_among_in, not_among}
use Rattle.retro_base.specs.lemmas.bridges.Moves.{came_from}
use Rattle.retro_base.specs.lemmas.bridges.Histories.{moves_of, history_at, fresh_adds, valid_leads, leads_run, some_same, none_some, added_number}
use Rattle.bridge_pq.specs.declared.marked_entry.MarkedEntry.{MarkedEntry}
use Rattle.bridge_pq.specs.MarkedEntries.{entries_in, present_in, Rise, TellPresent, put_marked, without_entry, marked_so}
use Rattle.bridge_pq.specs.Bridged.{Holds, IsFlipped}
use Rattle.bridge_pq.proofs.FlippedRows.{fresh-removed}

rise_rising : (xs : List Entry) → Rise xs → Rising xs
rise_rising [] rise = tt
rise_rising (x ∷ xs) rise = (rise.0, rise_rising xs rise.1)

rising_rise : (xs : List Entry) → Rising xs → Rise xs
rising_rise [] rising = tt
rising_rise (x ∷ xs) rising = (rising.0, rising_rise xs rising.1)

-- what rows add, with one row more
in_cons : (m : Option Entry) (x : Entry) (rest : List Entry) → In x (cons_option m rest) → (m ≡ Some x) ⊎ In x rest
in_cons None x rest inside = inr inside
in_cons (Some y) x rest inside = elim inside [ inl same ↦ inl (ap (λ z. Some z) (sym same)) | inr later ↦ inr later ]

cons_in : (m : Option Entry) (x : Entry) (rest : List Entry) → (m ≡ Some x) ⊎ In x rest → In x (cons_option m rest)
cons_in None x rest which = elim which [ inl is ↦ absurd (none_some None refl is) | inr later ↦ later ]
cons_in (Some y) x rest which = elim which [ inl is ↦ inl (sym (some_same (Some y) refl is)) | inr later ↦ inr later ]

added-insert : (rows : List Row) (place : ℕ) (row : Row) (x : Entry) → In x (added (insert rows place row)) → (added_by row ≡ Some x) ⊎ In x (added rows)
added-insert rows zero row x inside = in_cons (added_by row) x (added rows) inside
added-insert [] (suc place) row x inside = in_cons (added_by row) x [] inside
added-insert (r ∷ rows) (suc place) row x inside = elim (in_cons (added_by r) x (added (insert rows place row)) inside) [
  | inl first ↦ inr (cons_in (added_by r) x (added rows) (inl first))
  | inr later ↦ elim (added-insert rows place row x later) [ inl here ↦ inl here | inr there ↦ inr (cons_in (added_by r) x (added rows) (inr there)) ]
]

insert-added : (rows : List Row) (place : ℕ) (row : Row) (x : Entry) → (added_by row ≡ Some x) ⊎ In x (added rows) → In x (added (insert rows place row))
insert-added rows zero row x which = cons_in (added_by row) x (added rows) which
insert-added [] (suc place) row x which = cons_in (added_by row) x [] which
insert-added (r ∷ rows) (suc place) row x which = cons_in (added_by r) x (added (insert rows place row)) (elim which [
  | inl here ↦ inr (insert-added rows place row x (inl here))
  | inr inside ↦ elim (in_cons (added_by r) x (added rows) inside) [ inl first ↦ inl first | inr later ↦ inr (insert-added rows place row x (inr later)) ]
])

abbrev one_if : Option Entry → ℕ
one_if None = 0
one_if (Some x) = 1

cons_length : (m : Option Entry) (rest : List Entry) → length (cons_option m rest) ≡ one_if m + length rest
cons_length None rest = omega arith
cons_length (Some x) rest = omega arith

length-insert-added : (rows : List Row) (place : ℕ) (row : Row) → length (added (insert rows place row)) ≡ one_if (added_by row) + length (added rows)
length-insert-added rows zero row = cons_length (added_by row) (added rows)
length-insert-added [] (suc place) row = cons_length (added_by row) []
length-insert-added (r ∷ rows) (suc place) row =
    omega (arith, cons_length (added_by r) (added (insert rows place row)), cons_length (added_by r) (added rows), length-insert-added rows place row)

-- with one row fewer
remove-added : (rows : List Row) (place : ℕ) (x : Entry) → In x (added (remove rows place)) → In x (added rows)
remove-added [] zero x inside = inside
remove-added [] (suc place) x inside = inside
remove-added (r ∷ rows) zero x inside = cons_in (added_by r) x (added rows) (inr inside)
remove-added (r ∷ rows) (suc place) x inside = elim (in_cons (added_by r) x (added (remove rows place)) inside) [
  | inl first ↦ cons_in (added_by r) x (added rows) (inl first)
  | inr later ↦ cons_in (added_by r) x (added rows) (inr (remove-added rows place x later))
]

added-remove : (rows : List Row) (place : ℕ) (row : Row) (x : Entry) → slice_get rows place ≡ Some row → In x (added rows) → (added_by row ≡ Some x) ⊎ In x (added (remove rows place))
added-remove [] place row x at inside = absurd inside
added-remove (r ∷ rows) zero row x at inside = elim (in_cons (added_by r) x (added rows) inside) [
  | inl first ↦ let same : r ≡ row = cc in inl (ap added_by (sym same) ∙ first)
  | inr later ↦ inr later
]
added-remove (r ∷ rows) (suc place) row x at inside = elim (in_cons (added_by r) x (added rows) inside) [
  | inl first ↦ inr (cons_in (added_by r) x (added (remove rows place)) (inl first))
  | inr later ↦ elim (added-remove rows place row x at later) [ inl here ↦ inl here | inr there ↦ inr (cons_in (added_by r) x (added (remove rows place)) (inr there)) ]
]

length-remove-added : (rows : List Row) (place : ℕ) (row : Row) → slice_get rows place ≡ Some row → length (added rows) ≡ one_if (added_by row) + length (added (remove rows place))
length-remove-added [] place row at = absurd (cc)
length-remove-added (r ∷ rows) zero row at = let same : r ≡ row = cc in cons_length (added_by r) (added rows) ∙ ap (λ (q : Row). one_if (added_by q) + length (added rows)) same
length-remove-added (r ∷ rows) (suc place) row at =
    omega (arith, cons_length (added_by r) (added (remove rows place)), cons_length (added_by r) (added rows), length-remove-added rows place row at)

pub added-le : (rows : List Row) → length (added rows) ≤ length rows
added-le [] = omega arith
added-le (r ∷ rows) = elim (added_by r) as (λ m. length (cons_option m (added rows)) ≤ suc (length rows)) [ Some x ↦ omega (arith, added-le rows) | None ↦ omega (arith, added-le rows) ]

pub fresh-not-added : (rows : List Row) (number : ℕ) (x : Entry) → IsFresh number rows → x.number ≡ number → ¬ In x (added rows)
fresh-not-added rows number x fresh same inside = fresh_adds rows number x fresh same (added_adds rows x inside)

-- one more entry among the marked ones
put-entries : (m : MarkedEntry) (items : List MarkedEntry) → entries_in (put_marked m items) ≡ with_entry m.entry (entries_in items)
put-entries m [] = refl
put-entries m (x ∷ items) = elim (comes_before m.entry x.entry) as
    (λ b. entries_in (cond b (m ∷ x ∷ items) (x ∷ put_marked m items))
    ≡ cond b (m.entry ∷ entries_in (x ∷ items)) (x.entry ∷ with_entry m.entry (entries_in items))) [
      | true ↦ refl
      | false ↦ ap (λ l. x.entry ∷ l) (put-entries m items)
    ]

pub put-length : (m : MarkedEntry) (items : List MarkedEntry) → length (put_marked m items) ≡ suc (length items)
put-length m [] = refl
put-length m (x ∷ items) = elim (comes_before m.entry x.entry) as (λ b. length (cond b (m ∷ x ∷ items) (x ∷ put_marked m items)) ≡ suc (suc (length items))) [
  | true ↦ refl
  | false ↦ ap suc (put-length m items)
]

put-tell : (m : MarkedEntry) (items : List MarkedEntry) (alive : List Entry) → m.present ≡ is_among alive m.entry → TellPresent alive items → TellPresent alive (put_marked m items)
put-tell m [] alive here tell = (here, tt)
put-tell m (x ∷ items) alive here tell = elim (comes_before m.entry x.entry) as (λ b. TellPresent alive (cond b (m ∷ x ∷ items) (x ∷ put_marked m items))) [
  | true ↦ (here, tell)
  | false ↦ (tell.0, put-tell m items alive here tell.1)
]

pub holds-put : (rows : List Row) (alive : List Entry) (items : List MarkedEntry) (place : ℕ) (row : Row) (new : Entry) → added_by row ≡ Some new → ¬ In new (added rows) → ¬ In new alive
    → Holds rows alive items → Holds (insert rows place row) alive (put_marked (record { entry = new; present = false }) items)
holds-put rows alive items place row new adds absent died holds =
    let m : MarkedEntry = record { entry = new; present = false } in
    let outside : ¬ In new (entries_in items) = λ inside. absent (contains_in _ new ((holds.same new).0 (in_contains _ new inside))) in
    record {
      rise = subst Rise (sym (put-entries m items)) (rising_rise _ (rising_with new (entries_in items) (rise_rising _ holds.rise) outside));
      as_many = omega (arith, put-length m items, holds.as_many, length-insert-added rows place row, ap one_if adds);
      same = λ x. (
        λ has. in_contains _ x (insert-added rows place row x
            (elim (in_with new x (entries_in items) (subst (In x) (put-entries m items) (contains_in _ x has))) [
              | inl same ↦ inl (adds ∙ ap (λ y. Some y) (sym same))
              | inr there ↦ inr (contains_in _ x ((holds.same x).0 (in_contains _ x there)))
            ])),
        λ has. in_contains _ x (subst (In x) (sym (put-entries m items)) (with_in new x (entries_in items)
            (elim (added-insert rows place row x (contains_in _ x has)) [
              | inl is ↦ inl (some_same (added_by row) is adds)
              | inr there ↦ inr (contains_in _ x ((holds.same x).1 (in_contains _ x there)))
            ]))),
      );
      tell = put-tell m items alive (sym (not_among new alive died)) holds.tell;
    }

pub holds-with-take : (rows : List Row) (alive : List Entry) (items : List MarkedEntry) (place : ℕ) (row : Row) → added_by row ≡ None → Holds rows alive items → Holds (insert rows place row) alive items
holds-with-take rows alive items place row takes holds = record {
  rise = holds.rise;
  as_many = omega (arith, holds.as_many, length-insert-added rows place row, ap one_if takes);
  same = λ x. (
    λ has. in_contains _ x (insert-added rows place row x (inr (contains_in _ x ((holds.same x).0 has)))),
    λ has. elim (added-insert rows place row x (contains_in _ x has)) [ inl is ↦ absurd (none_some (added_by row) takes is) | inr there ↦ (holds.same x).1 (in_contains _ x there) ],
  );
  tell = holds.tell;
}

-- one fewer
without-in : (e x : Entry) (items : List MarkedEntry) → In x (entries_in (without_entry e items)) → In x (entries_in items) × (x ≢ e)
without-in e x [] inside = absurd inside
without-in e x (y ∷ items) inside = elim (same_entry y.entry e) as
    (λ b. same_entry y.entry e ≡ b → In x (entries_in (cond (not b) (y ∷ without_entry e items) (without_entry e items))) → In x (entries_in (y ∷ items))
    × (x ≢ e)) [
      | true ↦ λ same later. let rest = without-in e x items later in (inr rest.0, rest.1)
      | false ↦ λ differ here. elim here [
        | inl first ↦ (inl first, λ is. let wrong : true ≡ false = sym (same_entry-refl e) ∙ ap (λ z. same_entry z e) (sym is ∙ first) ∙ differ in absurd (cc))
        | inr later ↦ let rest = without-in e x items later in (inr rest.0, rest.1)
      ]
    ] refl inside

in-without : (e x : Entry) (items : List MarkedEntry) → In x (entries_in items) → x ≢ e → In x (entries_in (without_entry e items))
in-without e x [] inside other = absurd inside
in-without e x (y ∷ items) inside other = elim (same_entry y.entry e) as (λ b. same_entry y.entry e ≡ b → In x (entries_in (cond (not b) (y ∷ without_entry e items) (without_entry e items)))) [
  | true ↦ λ same. elim inside [ inl first ↦ absurd (other (first ∙ same_entry-same y.entry e same)) | inr later ↦ in-without e x items later other ]
  | false ↦ λ differ. elim inside [ inl first ↦ inl first | inr later ↦ inr (in-without e x items later other) ]
] refl

without-above : (e x : Entry) (items : List MarkedEntry) → AllByRecursion (λ y. comes_before x y ≡ true) (entries_in items) → AllByRecursion (λ y. comes_before x y ≡ true) (entries_in (without_entry e items))
without-above e x [] above = tt
without-above e x (y ∷ items) above = elim (same_entry y.entry e) as (λ b. AllByRecursion (λ z. comes_before x z ≡ true) (entries_in (cond (not b) (y ∷ without_entry e items) (without_entry e items)))) [
  | true ↦ without-above e x items above.1
  | false ↦ (above.0, without-above e x items above.1)
]

without-rise : (e : Entry) (items : List MarkedEntry) → Rise (entries_in items) → Rise (entries_in (without_entry e items))
without-rise e [] rise = tt
without-rise e (y ∷ items) rise = elim (same_entry y.entry e) as (λ b. Rise (entries_in (cond (not b) (y ∷ without_entry e items) (without_entry e items)))) [
  | true ↦ without-rise e items rise.1
  | false ↦ (without-above e y.entry items rise.0, without-rise e items rise.1)
]

without-tell : (e : Entry) (items : List MarkedEntry) (alive : List Entry) → TellPresent alive items → TellPresent alive (without_entry e items)
without-tell e [] alive tell = tt
without-tell e (y ∷ items) alive tell = elim (same_entry y.entry e) as (λ b. TellPresent alive (cond (not b) (y ∷ without_entry e items) (without_entry e items))) [
  | true ↦ without-tell e items alive tell.1
  | false ↦ (tell.0, without-tell e items alive tell.1)
]

without-none : (e : Entry) (items : List MarkedEntry) → ¬ In e (entries_in items) → length (without_entry e items) ≡ length items
without-none e [] absent = refl
without-none e (y ∷ items) absent = rw (not_same y.entry e (λ same. absent (inl (sym same)))) (ap suc (without-none e items (λ later. absent (inr later))))

without-length : (e : Entry) (items : List MarkedEntry) → Rise (entries_in items) → In e (entries_in items) → length items ≡ suc (length (without_entry e items))
without-length e [] rise inside = absurd inside
without-length e (y ∷ items) rise inside = elim (same_entry y.entry e) as (λ b. same_entry y.entry e ≡ b → suc (length items) ≡ suc (length (cond (not b) (y ∷ without_entry e items) (without_entry e items)))) [
  | true ↦ λ same.
      let is = same_entry-same y.entry e same in
      ap suc (sym (without-none e items (λ later. let wrong : true ≡ false = sym (above_in y.entry e (entries_in items) rise.0 later) ∙ ap (comes_before y.entry) (sym is) ∙ before_irreflexive y.entry in absurd (cc))))
  | false ↦ λ differ. elim inside [
    | inl first ↦ let wrong : true ≡ false = sym (same_entry-refl e) ∙ ap (λ z. same_entry z e) first ∙ differ in absurd (cc)
    | inr later ↦ ap suc (without-length e items rise.1 later)
  ]
] refl

pub holds-taken : (rows : List Row) (alive : List Entry) (items : List MarkedEntry) (place : ℕ) (row : Row) (e : Entry) → HaveOwnNumbers rows → slice_get rows place ≡ Some row → added_by row ≡ Some e
    → In e (added rows) → Holds rows alive items → Holds (remove rows place) alive (without_entry e items)
holds-taken rows alive items place row e own at adds inside holds =
    let held : In e (entries_in items) = contains_in _ e ((holds.same e).1 (in_contains _ e inside)) in
    let gone : ¬ In e (added (remove rows place)) = fresh-not-added (remove rows place) row.number e (fresh-removed rows place row own at) (added_number row.op row.number e adds) in
    record {
      rise = without-rise e items holds.rise;
      as_many = omega (arith, holds.as_many, without-length e items holds.rise held, length-remove-added rows place row at, ap one_if adds);
      same = λ x. (
        λ has.
            let parts = without-in e x items (contains_in _ x has) in
            in_contains _ x (elim (added-remove rows place row x at (contains_in _ x ((holds.same x).0 (in_contains _ x parts.0)))) [
              | inl is ↦ absurd (parts.1 (some_same (added_by row) is adds))
              | inr there ↦ there
            ]),
        λ has.
            let there = contains_in _ x has in
            in_contains _ x (in-without e x items (contains_in _ x ((holds.same x).1 (in_contains _ x (remove-added rows place x there))))
            (λ is. gone (subst (λ y. In y (added (remove rows place))) is there))),
      );
      tell = without-tell e items alive holds.tell;
    }

pub holds-without-take : (rows : List Row) (alive : List Entry) (items : List MarkedEntry) (place : ℕ) (row : Row) → slice_get rows place ≡ Some row → added_by row ≡ None
    → Holds rows alive items → Holds (remove rows place) alive items
holds-without-take rows alive items place row at takes holds = record {
  rise = holds.rise;
  as_many = omega (arith, holds.as_many, length-remove-added rows place row at, ap one_if takes);
  same = λ x. (
    λ has. elim (added-remove rows place row x at (contains_in _ x ((holds.same x).0 has))) [ inl is ↦ absurd (none_some (added_by row) takes is) | inr there ↦ in_contains _ x there ],
    λ has. (holds.same x).1 (in_contains _ x (remove-added rows place x (contains_in _ x has))),
  );
  tell = holds.tell;
}

-- a mark is flipped
marked-entries : (e : Entry) (b : Bool) (items : List MarkedEntry) → entries_in (marked_so e b items) ≡ entries_in items
marked-entries e b [] = refl
marked-entries e b (x ∷ items) = elim (same_entry x.entry e) as (λ t. (cond t (record { entry = x.entry; present = b }) x).entry ∷ entries_in (marked_so e b items) ≡ x.entry ∷ entries_in items) [
  | true ↦ ap (λ l. x.entry ∷ l) (marked-entries e b items)
  | false ↦ ap (λ l. x.entry ∷ l) (marked-entries e b items)
]

marked-length : (e : Entry) (b : Bool) (items : List MarkedEntry) → length (marked_so e b items) ≡ length items
marked-length e b [] = refl
marked-length e b (x ∷ items) = ap suc (marked-length e b items)

one-tells : (e : Entry) (b : Bool) (x : MarkedEntry) (before after : List Entry) → IsFlipped before after e b → x.present ≡ is_among before x.entry
    → (cond (same_entry x.entry e) (record { entry = x.entry; present = b }) x).present ≡ is_among after (cond (same_entry x.entry e) (record { entry = x.entry; present = b }) x).entry
one-tells e b x before after flip tells = elim (same_entry x.entry e) as (λ t. same_entry x.entry e ≡ t
    → (cond t (record { entry = x.entry; present = b }) x).present ≡ is_among after (cond t (record { entry = x.entry; present = b }) x).entry) [
      | true ↦ λ same. sym (ap (is_among after) (same_entry-same x.entry e same) ∙ flip.flip)
      | false ↦ λ differ. tells ∙ sym (flip.others x.entry (λ is. let wrong : true ≡ false = sym (same_entry-refl e) ∙ ap (λ z. same_entry z e) (sym is) ∙ differ in absurd (cc)))
    ] refl

marked-tell : (e : Entry) (b : Bool) (items : List MarkedEntry) (before after : List Entry) → IsFlipped before after e b → TellPresent before items → TellPresent after (marked_so e b items)
marked-tell e b [] before after flip tell = tt
marked-tell e b (x ∷ items) before after flip tell = (one-tells e b x before after flip tell.0, marked-tell e b items before after flip tell.1)

pub holds-marked : (rows : List Row) (before after : List Entry) (items : List MarkedEntry) (e : Entry) (b : Bool) → IsFlipped before after e b → Holds rows before items → Holds rows after (marked_so e b items)
holds-marked rows before after items e b flip holds = record {
  rise = subst Rise (sym (marked-entries e b items)) holds.rise;
  as_many = marked-length e b items ∙ holds.as_many;
  same = λ x. subst (λ l. Contains l x ↔ Contains (added rows) x) (sym (marked-entries e b items)) (holds.same x);
  tell = marked-tell e b items before after flip holds.tell;
}

-- or stands for an entry that is not held
others-tell : (e : Entry) (b : Bool) (items : List MarkedEntry) (before after : List Entry) → IsFlipped before after e b → ¬ In e (entries_in items) → TellPresent before items → TellPresent after items
others-tell e b [] before after flip absent tell = tt
others-tell e b (x ∷ items) before after flip absent tell =
    (tell.0 ∙ sym (flip.others x.entry (λ is. absent (inl (sym is)))), others-tell e b items before after flip (λ later. absent (inr later)) tell.1)

pub holds-others : (rows : List Row) (before after : List Entry) (items : List MarkedEntry) (e : Entry) (b : Bool) → IsFlipped before after e b → ¬ In e (added rows) → Holds rows before items → Holds rows after items
holds-others rows before after items e b flip absent holds = record {
  rise = holds.rise;
  as_many = holds.as_many;
  same = holds.same;
  tell = others-tell e b items before after flip (λ inside. absent (contains_in _ e ((holds.same e).0 (in_contains _ e inside)))) holds.tell;
}

-- the marked entries are the survivors
present-in : (x : Entry) (alive : List Entry) (items : List MarkedEntry) → TellPresent alive items → In x (present_in items) → In x (entries_in items) × (is_among alive x ≡ true)
present-in x alive [] tell inside = absurd inside
present-in x alive (y ∷ items) tell inside = elim (y.present) as (λ b. y.present ≡ b → In x (cond b (y.entry ∷ present_in items) (present_in items)) → In x (entries_in (y ∷ items)) × (is_among alive x ≡ true)) [
  | true ↦ λ is here. elim here [
    | inl first ↦ (inl first, ap (is_among alive) first ∙ sym tell.0 ∙ is)
    | inr later ↦ let rest = present-in x alive items tell.1 later in (inr rest.0, rest.1)
  ]
  | false ↦ λ is later. let rest = present-in x alive items tell.1 later in (inr rest.0, rest.1)
] refl inside

in-present : (x : Entry) (alive : List Entry) (items : List MarkedEntry) → TellPresent alive items → In x (entries_in items) → is_among alive x ≡ true → In x (present_in items)
in-present x alive [] tell inside among = absurd inside
in-present x alive (y ∷ items) tell inside among = elim (y.present) as (λ b. y.present ≡ b → In x (cond b (y.entry ∷ present_in items) (present_in items))) [
  | true ↦ λ is. elim inside [ inl first ↦ inl first | inr later ↦ inr (in-present x alive items tell.1 later among) ]
  | false ↦ λ is. elim inside [
    | inl first ↦ let wrong : true ≡ false = sym among ∙ ap (is_among alive) first ∙ sym tell.0 ∙ is in absurd (cc)
    | inr later ↦ in-present x alive items tell.1 later among
  ]
] refl

present-above : (x : Entry) (items : List MarkedEntry) → AllByRecursion (λ y. comes_before x y ≡ true) (entries_in items) → AllByRecursion (λ y. comes_before x y ≡ true) (present_in items)
present-above x [] above = tt
present-above x (y ∷ items) above = elim (y.present) as (λ b. AllByRecursion (λ z. comes_before x z ≡ true) (cond b (y.entry ∷ present_in items) (present_in items))) [
  | true ↦ (above.0, present-above x items above.1)
  | false ↦ present-above x items above.1
]

present-rising : (items : List MarkedEntry) → Rise (entries_in items) → Rising (present_in items)
present-rising [] rise = tt
present-rising (y ∷ items) rise = elim (y.present) as (λ b. Rising (cond b (y.entry ∷ present_in items) (present_in items))) [
  | true ↦ (present-above y.entry items rise.0, present-rising items rise.1)
  | false ↦ present-rising items rise.1
]

first-same : (x y : Entry) (xs ys : List Entry) → Rising (x ∷ xs) → Rising (y ∷ ys) → (x ≡ y) ⊎ In x ys → (y ≡ x) ⊎ In y xs → x ≡ y
first-same x y xs ys first second (inl same) back = same
first-same x y xs ys first second (inr later) (inl same) = sym same
first-same x y xs ys first second (inr later) (inr further) =
    let wrong : true ≡ false = sym (above_in x y xs first.0 further) ∙ before_one_way y x (above_in y x ys second.0 later) in absurd (cc)

not_first : (x z : Entry) (xs : List Entry) → Rising (x ∷ xs) → In z xs → z ≢ x
not_first x z xs rising inside same = let wrong : true ≡ false = sym (above_in x z xs rising.0 inside) ∙ ap (comes_before x) same ∙ before_irreflexive x in absurd (cc)

rising-same : (xs ys : List Entry) → Rising xs → Rising ys → ((x : Entry) → In x xs → In x ys) → ((x : Entry) → In x ys → In x xs) → xs ≡ ys
rising-same [] [] first second to back = refl
rising-same [] (y ∷ ys) first second to back = absurd (back y (inl refl))
rising-same (x ∷ xs) [] first second to back = absurd (to x (inl refl))
rising-same (x ∷ xs) (y ∷ ys) first second to back =
    let same = first-same x y xs ys first second (to x (inl refl)) (back y (inl refl)) in
    let rest : xs ≡ ys = rising-same xs ys first.1 second.1
    (λ z inside. elim (to z (inr inside)) [ inl is ↦ absurd (not_first x z xs first inside (is ∙ sym same)) | inr later ↦ later ])
    (λ z inside. elim (back z (inr inside)) [ inl is ↦ absurd (not_first y z ys second inside (is ∙ same)) | inr later ↦ later ]) in
    ap (λ z. z ∷ xs) same ∙ ap (λ l. y ∷ l) rest

survivors-rising : (rows : List Row) → IsPqHistory rows → Rising (survivors rows)
survivors-rising rows history = subst (λ l. Rising (survivors l)) (take-length rows) (history_at rows (length rows) history).ready.rising

pub survivor-added : (rows : List Row) (x : Entry) → IsPqHistory rows → In x (survivors rows) → In x (added rows)
survivor-added rows x history inside =
    adds_added rows x (elim (came_from x (moves_of rows) [] (survivors rows) (valid_leads rows history.of_kind history.valid) inside) [ inl none ↦ absurd none | inr adds ↦ adds ])

pub present-is : (rows : List Row) (items : List MarkedEntry) → IsPqHistory rows → Holds rows (survivors rows) items → present_in items ≡ survivors rows
present-is rows items history holds = rising-same (present_in items) (survivors rows) (present-rising items holds.rise) (survivors-rising rows history)
    (λ x inside. is_among_in x (survivors rows) (present-in x (survivors rows) items holds.tell inside).1)
    (λ x inside. in-present x (survivors rows) items holds.tell (contains_in _ x ((holds.same x).1 (in_contains _ x (survivor-added rows x history inside)))) (in_is_among x (survivors rows) inside))

-- and the present holds them
pub present-state : (rows : List Row) → IsPqHistory rows → present Pq rows ≡ entries (survivors rows)
present-state rows history = ap (λ r. result_unwrap_or r (empty Pq)) (leads_run rows [] (survivors rows) history.of_kind (valid_leads rows history.of_kind history.valid))

-- an entry that comes in unmarked can be taken out again
pub put-rise : (new : Entry) (items : List MarkedEntry) → ¬ In new (entries_in items) → Rise (entries_in items) → Rise (entries_in (put_marked (record { entry = new; present = false }) items))
put-rise new items absent rise = subst Rise (sym (put-entries (record { entry = new; present = false }) items)) (rising_rise _ (rising_with new (entries_in items) (rise_rising _ rise) absent))

pub put-among : (new : Entry) (items : List MarkedEntry) → Contains (entries_in (put_marked (record { entry = new; present = false }) items)) new
put-among new items = in_contains _ new (subst (In new) (sym (put-entries (record { entry = new; present = false }) items)) (with_in new new (entries_in items) (inl refl)))

none-out : (e : Entry) (items : List MarkedEntry) → ¬ In e (entries_in items) → without_entry e items ≡ items
none-out e [] absent = refl
none-out e (y ∷ items) absent = rw (not_same y.entry e (λ same. absent (inl (sym same)))) (ap (λ l. y ∷ l) (none-out e items (λ later. absent (inr later))))

pub put-taken : (new : Entry) (items : List MarkedEntry) → ¬ In new (entries_in items) → without_entry new (put_marked (record { entry = new; present = false }) items) ≡ items
put-taken new [] absent = rw (same_entry-refl new) refl
put-taken new (x ∷ items) absent = elim (comes_before new x.entry) as
    (λ b. without_entry new (cond b (record { entry = new; present = false } ∷ x ∷ items) (x ∷ put_marked (record { entry = new; present = false }) items)) ≡ x
    ∷ items) [
      | true ↦ rw (same_entry-refl new) (none-out new (x ∷ items) absent)
      | false ↦ rw (not_same x.entry new (λ same. absent (inl (sym same)))) (ap (λ l. x ∷ l) (put-taken new items (λ later. absent (inr later))))
    ]
