-- The best of an entry and those that rows show: what the fold over the rows comes to, as the greatest dead entry and the least
-- survivor of the table.
use Rattle.std.proofs.Common.{◌≡◌, ℕ, Bool, true, false, List, [], ◌∷◌, take, drop, cond, ◌⊎◌, inl, inr, refl, sym, ap, subst, ◌∙◌, Option, Some, None}
use Rattle.std.specs.Prelude.{map}
use Rattle.std.specs.List.{AllByRecursion, cons_option}
use Rattle.std.specs.Option.{MatchOption}
use Rattle.retro_base.specs.declared.row.Entry.{Entry}
use Rattle.retro_base.specs.declared.row.Row.{Row}
use Rattle.retro_base.specs.Better.{comes_after, better_of, best_among, IsBest}
use Rattle.retro_base.specs.Bridges.{survivors, is_among}
use Rattle.retro_base.specs.BridgeTable.{added, IsDeadFrom, IsSurvivorBefore}
use Rattle.retro_base.specs.MarkedChange.{is_one_of, dead_in, alive_in, greatest_dead, least_survivor}
use Rattle.retro_base.specs.State.{comes_before}
use Rattle.retro_base.specs.Weights.{added_by}
use Rattle.retro_base.specs.lemmas.bridges.EntryOrder.{before_irreflexive, before_one_way, not_before_later, neither_before}
use Rattle.retro_base.specs.lemmas.bridges.Entries.{In, contains_in, in_contains}
use Rattle.retro_base.specs.lemmas.bridges.Tests.{in_is_among, is_among_in, not_among}

-- a strict order, in which of two entries one beats the other
pub record IsOrder (beaten : Entry → Entry → Bool) : Type 0 where
  pub irreflexive : (a : Entry) → beaten a a ≡ false
  pub one_way : (a b : Entry) → beaten a b ≡ true → beaten b a ≡ false
  pub further : (a b c : Entry) → beaten a b ≡ false → beaten b c ≡ false → beaten a c ≡ false
  pub both : (a b : Entry) → beaten a b ≡ false → beaten b a ≡ false → a ≡ b

pub before_is_order : IsOrder comes_before
before_is_order = record { irreflexive = before_irreflexive; one_way = before_one_way; further = not_before_later; both = neither_before }

pub after_is_order : IsOrder comes_after
after_is_order = record {
  irreflexive = before_irreflexive;
  one_way = λ a b first. before_one_way b a first;
  further = λ a b c first second. not_before_later c b a second first;
  both = λ a b first second. neither_before a b second first;
}

-- none has the property, or this one is the best of those that have it
abbrev pub FindsBest : (Entry → Entry → Bool) → (Entry → Type 0) → Option Entry → Type 0
FindsBest beaten P found = MatchOption found ((e : Entry) → ¬ P e) (IsBest beaten P)

-- a row shows the entry
abbrev pub Shown : {R : Type 0} → (R → Option Entry) → List R → Entry → Type 0
Shown shown [] entry = ⊥
Shown shown (row ∷ rows) entry = (shown row ≡ Some entry) ⊎ Shown shown rows entry

module _ (beaten : Entry → Entry → Bool) (order : IsOrder beaten) where
  best_same : (P Q : Entry → Type 0) (found : Option Entry) → ((e : Entry) → P e → Q e) → ((e : Entry) → Q e → P e) → FindsBest beaten P found → FindsBest beaten Q found
  best_same P Q None to back best = λ e has. best e (back e has)
  best_same P Q (Some b) to back best = record { one = to b best.one; unbeaten = λ other has. best.unbeaten other (back other has) }

  -- there is one alone
  pub best_alone : (P : Entry → Type 0) (a b : Entry) → IsBest beaten P a → IsBest beaten P b → a ≡ b
  best_alone P a b first second = order.both a b (first.unbeaten b second.one) (second.unbeaten a first.one)

  pub one_best : (P : Entry → Type 0) (a b : Option Entry) → FindsBest beaten P a → FindsBest beaten P b → a ≡ b
  one_best P None None first second = refl
  one_best P None (Some b) first second = absurd (first b second.one)
  one_best P (Some a) None first second = absurd (second a first.one)
  one_best P (Some a) (Some b) first second = ap (λ e. Some e) (best_alone P a b first second)

  -- the better one of two
  better_one : (P Q : Entry → Type 0) (a b : Entry) → IsBest beaten P a → IsBest beaten Q b → (t : Bool) → beaten a b ≡ t → IsBest beaten (λ e. P e ⊎ Q e) (cond t b a)
  better_one P Q a b first second true beats = record {
    one = inr second.one;
    unbeaten = λ other which. elim which [ inl is ↦ order.further b a other (order.one_way a b beats) (first.unbeaten other is) | inr is ↦ second.unbeaten other is ];
  }
  better_one P Q a b first second false stays = record {
    one = inl first.one;
    unbeaten = λ other which. elim which [ inl is ↦ first.unbeaten other is | inr is ↦ order.further a b other stays (second.unbeaten other is) ];
  }

  -- of two that may be there
  better : (P Q : Entry → Type 0) (a b : Option Entry) → FindsBest beaten P a → FindsBest beaten Q b → FindsBest beaten (λ e. P e ⊎ Q e) (better_of beaten a b)
  better P Q None None first second = λ e has. elim has [ inl is ↦ first e is | inr is ↦ second e is ]
  better P Q (Some a) None first second = record {
    one = inl first.one;
    unbeaten = λ other which. elim which [ inl is ↦ first.unbeaten other is | inr is ↦ absurd (second other is) ];
  }
  better P Q None (Some b) first second = record {
    one = inr second.one;
    unbeaten = λ other which. elim which [ inl is ↦ absurd (first other is) | inr is ↦ second.unbeaten other is ];
  }
  better P Q (Some a) (Some b) first second = better_one P Q a b first second (beaten a b) refl

  -- of what is one alone
  best_itself : (found : Option Entry) → FindsBest beaten (λ e. found ≡ Some e) found
  best_itself None = λ e is. cc
  best_itself (Some x) = record { one = refl; unbeaten = λ other is. let same : x ≡ other = cc in subst (λ y. beaten x y ≡ false) same (order.irreflexive x) }

  -- so the fold over the rows finds the best
  best_of : {R : Type 0} (shown : R → Option Entry) (rows : List R) (P : Entry → Type 0) (before : Option Entry) → FindsBest beaten P before
      → FindsBest beaten (λ e. P e ⊎ Shown shown rows e) (best_among beaten shown before rows)
  best_of shown [] P before best = best_same P (λ e. P e ⊎ ⊥) before (λ e has. inl has) (λ e has. elim has [ inl early ↦ early | inr none ↦ absurd none ]) best
  best_of shown (row ∷ rows) P before best =
      best_same (λ e. (P e ⊎ (shown row ≡ Some e)) ⊎ Shown shown rows e) (λ e. P e ⊎ ((shown row ≡ Some e) ⊎ Shown shown rows e)) _
      (λ e has. elim has [ inl early ↦ elim early [ inl old ↦ inl old | inr here ↦ inr (inl here) ] | inr later ↦ inr (inr later) ])
      (λ e has. elim has [ inl old ↦ inl (inl old) | inr shows ↦ elim shows [ inl here ↦ inl (inr here) | inr later ↦ inr later ] ])
      (best_of shown rows (λ e. P e ⊎ (shown row ≡ Some e)) (better_of beaten before (shown row)) (better P (λ e. shown row ≡ Some e) before (shown row) best (best_itself (shown row))))

  -- in the words of another property
  pub best_found : {R : Type 0} (shown : R → Option Entry) (rows : List R) (Q : Entry → Type 0)
      → ((e : Entry) → Shown shown rows e → Q e) → ((e : Entry) → Q e → Shown shown rows e) → FindsBest beaten Q (best_among beaten shown None rows)
  best_found shown rows Q to back =
      best_same (λ e. ⊥ ⊎ Shown shown rows e) Q _ (λ e has. elim has [ inl none ↦ absurd none | inr shows ↦ to e shows ]) (λ e is. inr (back e is))
      (best_of shown rows (λ e. ⊥) None (λ e none. none))

  -- so whoever finds the best of what rows show has what the fold comes to
  pub best_is : {R : Type 0} (shown : R → Option Entry) (rows : List R) (found : Option Entry) → FindsBest beaten (Shown shown rows) found → best_among beaten shown None rows ≡ found
  best_is shown rows found best = one_best (Shown shown rows) _ found (best_found shown rows (Shown shown rows) (λ e shows. shows) (λ e shows. shows)) best

  -- and the better one of it and an entry is the best of both
  pub best_with : (Q : Entry → Type 0) (new : Entry) (found : Option Entry) → FindsBest beaten Q found → FindsBest beaten (λ e. (e ≡ new) ⊎ Q e) (better_of beaten (Some new) found)
  best_with Q new found best = better (λ e. e ≡ new) Q (Some new) found (record { one = refl; unbeaten = λ other same. rw same (order.irreflexive new) }) best

-- no entry is no better than another
pub better_none : (beaten : Entry → Entry → Bool) (found : Option Entry) → better_of beaten None found ≡ found
better_none beaten None = refl
better_none beaten (Some e) = refl

-- rows with marks show what the rows show, where each mark is right
pub best_marked : {M : Type 0} (IsRight : M → Type 0) (beaten : Entry → Entry → Bool) (row_of : M → Row) (shown : M → Option Entry) (read : Row → Option Entry)
    → ((item : M) → IsRight item → shown item ≡ read (row_of item)) → (best : Option Entry) (items : List M) → AllByRecursion IsRight items
    → best_among beaten shown best items ≡ best_among beaten read best (map row_of items)
best_marked IsRight beaten row_of shown read each best [] marks = refl
best_marked IsRight beaten row_of shown read each best (item ∷ items) marks =
    ap (λ o. best_among beaten shown (better_of beaten best o) items) (each item marks.0)
    ∙ best_marked IsRight beaten row_of shown read each (better_of beaten best (read (row_of item))) items marks.1

-- a row shows the entry that it adds, where its mark is this one
abbrev shown_in : Bool → Bool → Option Entry → Option Entry
shown_in true = alive_in
shown_in false = dead_in

abbrev shown_by : Bool → List Entry → Row → Option Entry
shown_by mark alive row = shown_in mark (is_one_of alive (added_by row)) (added_by row)

shown_is : (mark : Bool) (alive : List Entry) (m : Option Entry) (e : Entry) → shown_in mark (is_one_of alive m) m ≡ Some e → (m ≡ Some e) × (is_among alive e ≡ mark)
shown_is true alive None e is = absurd (cc)
shown_is false alive None e is = absurd (cc)
shown_is true alive (Some x) e is = elim (is_among alive x) as (λ b. is_among alive x ≡ b → cond b (Some x) None ≡ Some e → (Some x ≡ Some e) × (is_among alive e ≡ true)) [
  | true ↦ λ among same. (same, let one : x ≡ e = cc in rw (← one) among)
  | false ↦ λ outside none. absurd (cc)
] refl is
shown_is false alive (Some x) e is = elim (is_among alive x) as (λ b. is_among alive x ≡ b → cond b None (Some x) ≡ Some e → (Some x ≡ Some e) × (is_among alive e ≡ false)) [
  | true ↦ λ among none. absurd (cc)
  | false ↦ λ outside same. (same, let one : x ≡ e = cc in rw (← one) outside)
] refl is

is_shown : (mark : Bool) (alive : List Entry) (m : Option Entry) (e : Entry) → m ≡ Some e → is_among alive e ≡ mark → shown_in mark (is_one_of alive m) m ≡ Some e
is_shown true alive m e adds marked = rw (adds, marked) refl
is_shown false alive m e adds marked = rw (adds, marked) refl

in_more : (m : Option Entry) (xs : List Entry) (e : Entry) → (m ≡ Some e) ⊎ In e xs → In e (cons_option m xs)
in_more None xs e inside = elim inside [ inl here ↦ absurd (cc) | inr further ↦ further ]
in_more (Some x) xs e inside = elim inside [ inl here ↦ inl (let same : e ≡ x = cc in same) | inr further ↦ inr further ]

more_in : (m : Option Entry) (xs : List Entry) (e : Entry) → In e (cons_option m xs) → (m ≡ Some e) ⊎ In e xs
more_in None xs e inside = inr inside
more_in (Some x) xs e inside = elim inside [ inl same ↦ inl (ap (λ y. Some y) (sym same)) | inr further ↦ inr further ]

module _ (mark : Bool) (alive : List Entry) (e : Entry) where
  shown_added : (rows : List Row) → Shown (shown_by mark alive) rows e → In e (added rows) × (is_among alive e ≡ mark)
  shown_added [] shows = absurd shows
  shown_added (row ∷ rows) shows = elim shows [
    | inl here ↦ let is = shown_is mark alive (added_by row) e here in (in_more (added_by row) (added rows) e (inl is.0), is.1)
    | inr later ↦ let rest = shown_added rows later in (in_more (added_by row) (added rows) e (inr rest.0), rest.1)
  ]

  added_shown : (rows : List Row) → In e (added rows) → is_among alive e ≡ mark → Shown (shown_by mark alive) rows e
  added_shown [] inside marked = absurd inside
  added_shown (row ∷ rows) inside marked = elim (more_in (added_by row) (added rows) e inside) [
    | inl here ↦ inl (is_shown mark alive (added_by row) e here marked)
    | inr later ↦ inr (added_shown rows later marked)
  ]

-- in the words of the table
module _ (rows : List Row) (place : ℕ) where
  shown_dead : (e : Entry) → Shown (shown_by false (survivors rows)) (drop place rows) e → IsDeadFrom rows place e
  shown_dead e shows =
      let is = shown_added false (survivors rows) e (drop place rows) shows in
      (in_contains _ e is.0, λ inside. (let wrong : true ≡ false = sym (in_is_among e (survivors rows) (contains_in _ e inside)) ∙ is.1 in cc))

  dead_shown : (e : Entry) → IsDeadFrom rows place e → Shown (shown_by false (survivors rows)) (drop place rows) e
  dead_shown e dead =
      added_shown false (survivors rows) e (drop place rows) (contains_in _ e dead.0) (not_among e (survivors rows) (λ inside. dead.1 (in_contains _ e inside)))

  pub greatest_found : FindsBest comes_before (IsDeadFrom rows place) (greatest_dead rows place)
  greatest_found = best_found comes_before before_is_order (shown_by false (survivors rows)) (drop place rows) (IsDeadFrom rows place) shown_dead dead_shown

  pub least_found : FindsBest comes_after (IsSurvivorBefore rows place) (least_survivor rows place)
  least_found = best_found comes_after after_is_order (shown_by true (survivors rows)) (take place rows) (IsSurvivorBefore rows place)
      (λ e shows. let is = shown_added true (survivors rows) e (take place rows) shows in (in_contains _ e is.0, in_contains _ e (is_among_in e (survivors rows) is.1)))
      (λ e early. added_shown true (survivors rows) e (take place rows) (contains_in _ e early.0) (in_is_among e (survivors rows) (contains_in _ e early.1)))
