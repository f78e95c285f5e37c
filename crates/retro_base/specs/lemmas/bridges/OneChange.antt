-- The change is the stated bridge and the one entry by which the presents differ, which is the first that the one holds and the
-- other does not.
use Rattle.std.proofs.Common.{◌≡◌, ◌≢◌, ℕ, Bool, true, false, not, is_some, List, [], ◌∷◌, cond, inl, inr, refl, ap, sym, ◌∙◌, subst, Option, Some, None}
use Rattle.std.specs.List.{find}
use Rattle.std.proofs.lemmas.Option.{same_Some}
use Rattle.retro_base.specs.declared.kind.Kind.{Kind}
use Rattle.retro_base.specs.declared.kind.Kind.TheVariants.{Pq}
use Rattle.retro_base.specs.declared.row.Change.{Change}
use Rattle.retro_base.specs.declared.row.Change.TheVariants.{Plain, Gain, Lose}
use Rattle.retro_base.specs.declared.row.Entry.{Entry}
use Rattle.retro_base.specs.declared.row.Row.{Row}
use Rattle.retro_base.specs.Weights.{added_as}
use Rattle.retro_base.specs.State.{comes_before, with_entry}
use Rattle.retro_base.specs.Edits.{Edit, add, cut, edited, IsAccepted}
use Rattle.retro_base.specs.Bridges.{survivors, is_among, sought_for_added, sought_for_cut, bridge_found, stated_bridge, IsStatedBridge}
use Rattle.retro_base.specs.Changes.{Joins, IsPqChange, first_beyond, change_at, change_of, pq_change_of}
use Rattle.retro_base.specs.Carried.{IsPqEdit, gives, Differ}
use Rattle.retro_base.specs.ChangeLaws.{IsTheChange}
use Rattle.retro_base.specs.lemmas.Counted.{of_kind_at}
use Rattle.retro_base.specs.lemmas.bridges.Entries.{In, with_in, in_contains}
use Rattle.retro_base.specs.lemmas.bridges.Tests.{in_is_among, not_among}
use Rattle.retro_base.specs.lemmas.bridges.Later.{one_joins}
use Rattle.retro_base.specs.lemmas.bridges.EditsCarry.{presents_differ}
use Rattle.retro_base.specs.lemmas.bridges.StatedBridges.{adds_or_takes, one_bridge_stated}

-- a test that one more entry passes alone finds it
found_alone : (test : Entry → Bool) (e : Entry) (held : List Entry) → test e ≡ true → ((x : Entry) → In x held → test x ≡ false) → find test (with_entry e held) ≡ Some e
found_alone test e [] passes others = rw passes refl
found_alone test e (x ∷ held) passes others = elim (comes_before e x) as (λ b. find test (cond b (e ∷ x ∷ held) (x ∷ with_entry e held)) ≡ Some e) [
  | true ↦ rw passes refl
  | false ↦ rw (others x (inl refl)) (found_alone test e held passes (λ y there. others y (inr there)))
]

found_none : (test : Entry → Bool) (held : List Entry) → ((x : Entry) → In x held → test x ≡ false) → find test held ≡ None
found_none test [] others = refl
found_none test (x ∷ held) others = rw (others x (inl refl)) (found_none test held (λ y there. others y (inr there)))

beyond_joined : (e : Entry) (less more : List Entry) → Joins e less more → first_beyond more less ≡ Some e
beyond_joined e less more join =
    subst (λ l. first_beyond l less ≡ Some e) (sym join.joined)
    (found_alone (λ x. not (is_among less x)) e less (ap not (not_among e less (λ inside. join.absent (in_contains less e inside)))) (λ x there. ap not (in_is_among x less there)))

none_beyond : (e : Entry) (less more : List Entry) → Joins e less more → first_beyond less more ≡ None
none_beyond e less more join =
    found_none (λ x. not (is_among more x)) less (λ x there. ap not (in_is_among x more (subst (In x) (sym join.joined) (with_in e x less (inr there)))))

lose_at : (bridge : Option ℕ) (e : Entry) → change_at bridge None (Some e) ≡ Lose bridge e
lose_at None e = refl
lose_at (Some n) e = refl

-- an edit that gives looks for its bridge back from its place, and finds one
giving_states : (rows : List Row) (edit : Edit) → IsPqEdit rows edit → gives edit ≡ true → (bridge : ℕ) × (stated_bridge rows edit ≡ Some bridge)
giving_states rows (add place row) possible gain = elim (adds_or_takes row.op possible.own_row.0) [
  | inl ins ↦ (_, ap (λ op. bridge_found rows (sought_for_added op place)) ins.1)
  | inr takes ↦ let wrong : false ≡ true = sym (ap (λ op. is_some (added_as op row.number)) takes) ∙ gain in absurd (cc)
]
giving_states rows (cut place row) possible gain = elim (adds_or_takes row.op (of_kind_at Pq rows place row possible.history.of_kind possible.within)) [
  | inl ins ↦ let wrong : false ≡ true = sym (ap (λ op. not (is_some (added_as op row.number))) ins.1) ∙ gain in absurd (cc)
  | inr takes ↦ (_, ap (λ op. bridge_found rows (sought_for_cut rows op row.number place)) takes)
]

-- two changes that meet the relation are one: one entry comes to the other entries, and none goes from them
not_both_ways : (a b : Entry) (before after : List Entry) → Joins a before after → Joins b after before → ⊥
not_both_ways a b before after comes goes =
    let inside : In a after = subst (In a) (sym comes.joined) (with_in a a before (inl refl)) in
    comes.absent (in_contains before a (subst (In a) (sym goes.joined) (with_in b a after (inr inside))))

one_of_two : (rows : List Row) (edit : Edit) → IsPqEdit rows edit → (a b : Change) → IsPqChange rows edit a → IsPqChange rows edit b → a ≡ b
one_of_two rows edit possible Plain b first second = absurd first
one_of_two rows edit possible (Gain n a) Plain first second = absurd second
one_of_two rows edit possible (Gain n a) (Gain m b) first second =
    let stated = one_bridge_stated rows edit possible in
    let same : n ≡ m = same_Some n m (stated.alone (Some n) first.0 ∙ sym (stated.alone (Some m) second.0)) in
    let entry : a ≡ b = one_joins a b (survivors rows) (survivors (edited rows edit)) first.1 second.1.joined in
    ap (λ k. Gain k a) same ∙ ap (λ e. Gain m e) entry
one_of_two rows edit possible (Gain n a) (Lose m b) first second = absurd (not_both_ways a b (survivors rows) (survivors (edited rows edit)) first.1 second.1)
one_of_two rows edit possible (Lose n a) Plain first second = absurd second
one_of_two rows edit possible (Lose n a) (Gain m b) first second = absurd (not_both_ways b a (survivors rows) (survivors (edited rows edit)) second.1 first.1)
one_of_two rows edit possible (Lose n a) (Lose m b) first second =
    let stated = one_bridge_stated rows edit possible in
    let same : n ≡ m = stated.alone n first.0 ∙ sym (stated.alone m second.0) in
    let entry : a ≡ b = one_joins a b (survivors (edited rows edit)) (survivors rows) first.1 second.1.joined in
    ap (λ k. Lose k a) same ∙ ap (λ e. Lose m e) entry

-- the named change meets the relation
meets_by : (rows : List Row) (edit : Edit) → IsPqEdit rows edit → (b : Bool) → gives edit ≡ b
    → (entry : Entry) × Differ b entry (survivors rows) (survivors (edited rows edit)) → IsPqChange rows edit (pq_change_of rows edit)
meets_by rows edit possible true gain one =
    let stated = giving_states rows edit possible gain in
    let before = survivors rows in
    let after = survivors (edited rows edit) in
    let named : pq_change_of rows edit ≡ Gain stated.0 one.0 =
    ap (λ s. change_at s (first_beyond after before) (first_beyond before after)) stated.1
    ∙ ap (λ g. change_at (Some stated.0) g (first_beyond before after)) (beyond_joined one.0 before after one.1) in
    subst (IsPqChange rows edit) (sym named) (subst (IsStatedBridge rows edit) stated.1 (one_bridge_stated rows edit possible).meets, one.1)
meets_by rows edit possible false loss one =
    let before = survivors rows in
    let after = survivors (edited rows edit) in
    let named : pq_change_of rows edit ≡ Lose (stated_bridge rows edit) one.0 =
    ap (λ g. change_at (stated_bridge rows edit) g (first_beyond before after)) (none_beyond one.0 after before one.1)
    ∙ ap (λ l. change_at (stated_bridge rows edit) None l) (beyond_joined one.0 after before one.1)
    ∙ lose_at (stated_bridge rows edit) one.0 in
    subst (IsPqChange rows edit) (sym named) ((one_bridge_stated rows edit possible).meets, one.1)

pub one_change_of_pq : (rows : List Row) (edit : Edit) → IsPqEdit rows edit → IsAccepted Pq rows edit → IsTheChange Pq rows edit (change_of Pq rows edit)
one_change_of_pq rows edit possible accepted =
    let meets = meets_by rows edit possible (gives edit) refl (presents_differ rows edit possible accepted) in
    record { meets = meets; alone = λ other is_one. one_of_two rows edit possible other (change_of Pq rows edit) is_one meets }

pub one_change_of_others : (kind : Kind) (rows : List Row) (edit : Edit) → kind ≢ Pq → IsTheChange kind rows edit (change_of kind rows edit)
one_change_of_others Pq rows edit other_kind = absurd (other_kind refl)
one_change_of_others kind rows edit other_kind = record { meets = refl; alone = λ other same. same }
