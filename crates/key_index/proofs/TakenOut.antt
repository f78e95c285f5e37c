-- Rows stay indexed once one is taken out.
use Rattle.std.proofs.Common.{◌≡◌, ℕ, ℤ, ◌+◌, ◌-◌, ◌<◌, ◌≤◌, Bool, true, false, cond, Some, List, [], ◌∷◌, ◌++◌, length, take, refl, sym, subst, ap, ◌∙◌, arith}
use Rattle.std.specs.Prelude.{◌==◌}
use Rattle.std.specs.List.{AllByRecursion, filter, remove}
use Rattle.std.proofs.lemmas.Int.{ints}
use Rattle.std.proofs.lemmas.Bool.Decides.{nat_tests, Decides-int_eq, Decides-eqb}
use Rattle.std.proofs.lemmas.List.{length-append, length-take-le}
use Rattle.std.proofs.lemmas.List.Elements.{filter-append}
use Rattle.retro_base.specs.declared.kind.Kind.TheVariants.{Dict}
use Rattle.retro_base.specs.declared.op.Op.{Op}
use Rattle.retro_base.specs.Kind.{kind_of}
use Rattle.retro_base.specs.OrderLaws.{all_weaker}
use Rattle.key_index.specs.KeyRows.{KeyRow, LabelsRise, key_of, is_on, op_at, without}
use Rattle.key_index.specs.Ordered.{AreByKey, IsIndexed, pair_before, pair_up_to, stands_before, reaches}
use Rattle.key_index.proofs.Lists.{all-append, all_front, all_after, filter-yes, filter-no, none_pass, all_pass}
use Rattle.key_index.proofs.InOrder.{rise_without, by_key_without, by_key_front, by_key_back, pair_less}

-- a row stands among others: all before it have lesser labels, all after it greater ones
pub record StandsByLabel (row : KeyRow) (rows : List KeyRow) : Type 0 where
  pub front : List KeyRow
  pub back : List KeyRow
  pub is : rows ≡ front ++ row ∷ back
  pub below : AllByRecursion (λ (r : KeyRow). r.0 < row.0) front
  pub above : AllByRecursion (λ (r : KeyRow). row.0 < r.0) back

pair_of : (row : KeyRow) (label : ℕ) (op : Op) → row.0 ≡ label → row.1 ≡ op → ◌≡◌ {A = KeyRow} row (label, op)
pair_of row label op e f = rw (← e, ← f) refl

pub stands_there : (label : ℕ) (op : Op) (rows : List KeyRow) → LabelsRise rows → op_at label rows ≡ Some op → StandsByLabel (label, op) rows
stands_there label op [] rise there = absurd (cc)
stands_there label op (row ∷ rows) rise there =
    elim (row.0 == label) as (λ b. (row.0 == label) ≡ b → cond b (Some row.1) (op_at label rows) ≡ Some op → StandsByLabel (label, op) (row ∷ rows)) [
      | true ↦ λ same e.
          let label_is : row.0 ≡ label = (Decides-eqb row.0 label).0 same in
          let op_is : row.1 ≡ op = cc in
          record {
            front = [];
            back = rows;
            is = ap (λ r. r ∷ rows) (pair_of row label op label_is op_is);
            below = tt;
            above = subst (λ n. AllByRecursion (λ (r : KeyRow). n < r.0) rows) label_is rise.0;
          }
      | false ↦ λ other e.
          let rest = stands_there label op rows rise.1 e in
          record {
            front = row ∷ rest.front;
            back = rest.back;
            is = ap (λ found. row ∷ found) rest.is;
            below = ((all_after (λ (r : KeyRow). row.0 < r.0) rest.front ((label, op) ∷ rest.back) (subst (AllByRecursion (λ (r : KeyRow). row.0 < r.0)) rest.is rise.0)).0, rest.below);
            above = rest.above;
          }
    ] refl there

-- where a row stands among those that pass a test, it stands among all
pub record StandsAmong (test : KeyRow → Bool) (row : KeyRow) (rows front back : List KeyRow) : Type 0 where
  pub before : List KeyRow
  pub behind : List KeyRow
  pub is : rows ≡ before ++ row ∷ behind
  pub same_front : filter test before ≡ front
  pub same_back : filter test behind ≡ back

no_row_in : (front back : List KeyRow) (row : KeyRow) → [] ≡ front ++ row ∷ back → ⊥
no_row_in [] back row same = cc
no_row_in (first ∷ front) back row same = cc

module _ (test : KeyRow → Bool) (row : KeyRow) (back : List KeyRow) where
  first_passes : (first : KeyRow) (rows front : List KeyRow) → test first ≡ true → ((front : List KeyRow) → filter test rows ≡ front ++ row ∷ back → StandsAmong test row rows front back)
      → first ∷ filter test rows ≡ front ++ row ∷ back → StandsAmong test row (first ∷ rows) front back
  first_passes first rows [] passing later same =
      let one : first ≡ row = cc in
      let others : filter test rows ≡ back = cc in
      record { before = []; behind = rows; is = ap (λ r. r ∷ rows) one; same_front = refl; same_back = others }
  first_passes first rows (other ∷ front) passing later same =
      let one : first ≡ other = cc in
      let others : filter test rows ≡ front ++ row ∷ back = cc in
      let rest = later front others in
      record {
        before = first ∷ rest.before;
        behind = rest.behind;
        is = ap (λ found. first ∷ found) rest.is;
        same_front = filter-yes test first rest.before passing ∙ ap (λ found. first ∷ found) rest.same_front ∙ ap (λ r. r ∷ front) one;
        same_back = rest.same_back;
      }

  pub among : (rows front : List KeyRow) → filter test rows ≡ front ++ row ∷ back → StandsAmong test row rows front back
  among [] front same = absurd (no_row_in front back row same)
  among (first ∷ rows) front same =
      elim (test first) as (λ b. test first ≡ b → cond b (first ∷ filter test rows) (filter test rows) ≡ front ++ row ∷ back → StandsAmong test row (first ∷ rows) front back) [
        | true ↦ λ passing e. first_passes first rows front passing (λ others f. among rows others f) e
        | false ↦ λ failing e.
            let rest = among rows front e in
            record {
              before = first ∷ rest.before;
              behind = rest.behind;
              is = ap (λ found. first ∷ found) rest.is;
              same_front = filter-no test first rest.before failing ∙ rest.same_front;
              same_back = rest.same_back;
            }
      ] refl same

-- up to a row that passes, where all before it pass and none after it
ends_with : (test : KeyRow → Bool) (front back : List KeyRow) (row : KeyRow) → AllByRecursion (λ (r : KeyRow). test r ≡ true) front → test row ≡ true
    → AllByRecursion (λ (r : KeyRow). test r ≡ false) back → filter test (front ++ row ∷ back) ≡ front ++ row ∷ []
ends_with test front back row before here behind =
    filter-append test front (row ∷ back)
    ∙ ap (λ found. found ++ filter test (row ∷ back)) (all_pass test front before)
    ∙ ap (λ found. front ++ found) (filter-yes test row back here ∙ ap (λ found. row ∷ found) (none_pass test back behind))

counted_with : (rows front : List KeyRow) (row : KeyRow) (count : ℕ) → count ≤ length rows → take count rows ≡ front ++ row ∷ [] → count ≡ length front + 1
counted_with rows front row count within same = omega (arith, length-take-le count rows within, ap length same, length-append front (row ∷ []))

removed : (front back : List KeyRow) (row : KeyRow) → remove (front ++ row ∷ back) (length front) ≡ front ++ back
removed [] back row = refl
removed (first ∷ front) back row = ap (λ found. first ∷ found) (removed front back row)

lesser_is_other : (m label : ℕ) → m < label → (m == label) ≡ false
lesser_is_other m label less = grind (arith, nat_tests)

label_itself : (label : ℕ) → (label == label) ≡ true
label_itself label = grind (arith, nat_tests)

pub without_it : (label : ℕ) (op : Op) (front back : List KeyRow) → AllByRecursion (λ (r : KeyRow). r.0 < label) front → without label (front ++ (label, op) ∷ back) ≡ front ++ back
without_it label op [] back below = ap (λ b. cond b back ((label, op) ∷ without label back)) (label_itself label)
without_it label op (first ∷ front) back below =
    ap (λ b. cond b (front ++ (label, op) ∷ back) (first ∷ without label (front ++ (label, op) ∷ back))) (lesser_is_other first.0 label below.0)
    ∙ ap (λ found. first ∷ found) (without_it label op front back below.1)

-- the operation of a row is found by its label
pub found_by : (label : ℕ) (op : Op) (front back : List KeyRow) → LabelsRise (front ++ (label, op) ∷ back) → op_at label (front ++ (label, op) ∷ back) ≡ Some op
found_by label op [] back rise = ap (λ b. cond b (Some op) (op_at label back)) (label_itself label)
found_by label op (first ∷ front) back rise =
    ap (λ b. cond b (Some first.1) (op_at label (front ++ (label, op) ∷ back))) (lesser_is_other first.0 label (all_after (λ (r : KeyRow). first.0 < r.0) front ((label, op) ∷ back) rise.0).0)
    ∙ found_by label op front back rise.1

pair_more : (k : ℤ) (l : ℕ) (key : ℤ) (label : ℕ) → pair_before key label k l ≡ true → pair_up_to k l key label ≡ false
pair_more k l key label more = grind (arith, ints, nat_tests)

pair_itself : (key : ℤ) (label : ℕ) → pair_up_to key label key label ≡ true
pair_itself key label = grind (arith, ints, nat_tests)

-- the rows up to one
pub up_to_it : (row : KeyRow) (before behind : List KeyRow) → AreByKey (before ++ row ∷ behind) → filter (reaches (key_of row.1) row.0) (before ++ row ∷ behind) ≡ before ++ row ∷ []
up_to_it row before behind order =
    ends_with (reaches (key_of row.1) row.0) before behind row
    (all_weaker (λ (r : KeyRow). stands_before r row ≡ true) (λ (r : KeyRow). reaches (key_of row.1) row.0 r ≡ true) before (λ r less. pair_less (key_of r.1) r.0 (key_of row.1) row.0 less)
    (by_key_front before behind row order))
    (pair_itself (key_of row.1) row.0)
    (all_weaker (λ (r : KeyRow). stands_before row r ≡ true) (λ (r : KeyRow). reaches (key_of row.1) row.0 r ≡ false) behind (λ r more. pair_more (key_of r.1) r.0 (key_of row.1) row.0 more)
    (by_key_back before behind row order))

module _ (label : ℕ) (op : Op) (rows by_key : List KeyRow) (indexed : IsIndexed rows by_key) (there : op_at label rows ≡ Some op) where
  abbrev key : ℤ
  key = key_of op

  abbrev row : KeyRow
  row = (label, op)

  pub here : is_on key row ≡ true
  here = (Decides-int_eq key key).1 refl

  abbrev stands : StandsByLabel row rows
  stands = stands_there label op rows indexed.listed.rising there

  abbrev stands_by_key : StandsAmong (is_on key) row by_key (filter (is_on key) stands.front) (filter (is_on key) stands.back)
  stands_by_key = among (is_on key) row (filter (is_on key) stands.back) by_key (filter (is_on key) stands.front)
      (indexed.same key ∙ ap (filter (is_on key)) stands.is ∙ filter-append (is_on key) stands.front (row ∷ stands.back)
      ∙ ap (λ found. filter (is_on key) stands.front ++ found) (filter-yes (is_on key) row stands.back here))

  order : AreByKey (stands_by_key.before ++ row ∷ stands_by_key.behind)
  order = subst AreByKey stands_by_key.is indexed.ordered

  left : without label rows ≡ stands.front ++ stands.back
  left = ap (without label) stands.is ∙ without_it label op stands.front stands.back stands.below

  same_left : (other : ℤ) (on : Bool) → is_on other row ≡ on → filter (is_on other) (stands_by_key.before ++ stands_by_key.behind) ≡ filter (is_on other) (stands.front ++ stands.back)
  same_left other true on_it =
      let one : key ≡ other = (Decides-int_eq key other).0 on_it in
      rw (← one)
      (filter-append (is_on key) stands_by_key.before stands_by_key.behind
      ∙ ap (λ found. found ++ filter (is_on key) stands_by_key.behind) stands_by_key.same_front
      ∙ ap (λ found. filter (is_on key) stands.front ++ found) stands_by_key.same_back
      ∙ sym (filter-append (is_on key) stands.front stands.back))
  same_left other false off =
      passed stands_by_key.before stands_by_key.behind ∙ ap (filter (is_on other)) (sym stands_by_key.is) ∙ indexed.same other
      ∙ ap (filter (is_on other)) stands.is ∙ sym (passed stands.front stands.back) where
        passed : (front back : List KeyRow) → filter (is_on other) (front ++ back) ≡ filter (is_on other) (front ++ row ∷ back)
        passed front back =
            filter-append (is_on other) front back
            ∙ ap (λ found. filter (is_on other) front ++ found) (sym (filter-no (is_on other) row back off))
            ∙ sym (filter-append (is_on other) front (row ∷ back))

  indexed_left : IsIndexed (stands.front ++ stands.back) (stands_by_key.before ++ stands_by_key.behind)
  indexed_left =
      let dict = subst (AllByRecursion (λ (r : KeyRow). kind_of r.1 ≡ Dict)) stands.is indexed.listed.of_dict in
      record {
        listed = record {
          rising = rise_without stands.front stands.back row (subst LabelsRise stands.is indexed.listed.rising);
          of_dict = all-append (λ (r : KeyRow). kind_of r.1 ≡ Dict) stands.front stands.back (all_front (λ (r : KeyRow). kind_of r.1 ≡ Dict) stands.front (row ∷ stands.back) dict)
              (all_after (λ (r : KeyRow). kind_of r.1 ≡ Dict) stands.front (row ∷ stands.back) dict).1;
        };
        ordered = by_key_without stands_by_key.before stands_by_key.behind row order;
        as_many = omega (
          arith,
          indexed.as_many,
          ap length stands.is,
          ap length stands_by_key.is,
          length-append stands.front (row ∷ stands.back),
          length-append stands_by_key.before (row ∷ stands_by_key.behind),
          length-append stands.front stands.back,
          length-append stands_by_key.before stands_by_key.behind,
        );
        same = λ other. same_left other (is_on other row) refl;
      }

  module _ (count : ℕ) (within : count ≤ length by_key) (front : take count by_key ≡ filter (reaches key label) by_key) where
    pub count_is : count ≡ length stands_by_key.before + 1
    count_is =
        counted_with by_key stands_by_key.before row count within
        (front ∙ ap (filter (reaches key label)) stands_by_key.is ∙ up_to_it row stands_by_key.before stands_by_key.behind order)

    left_by_key : remove by_key (count - 1) ≡ stands_by_key.before ++ stands_by_key.behind
    left_by_key =
        ap (λ n. remove by_key n) (let one : count - 1 ≡ length stands_by_key.before = omega (arith, count_is) in one)
        ∙ ap (λ l. remove l (length stands_by_key.before)) stands_by_key.is ∙ removed stands_by_key.before stands_by_key.behind row

    pub taken_indexed : IsIndexed (without label rows) (remove by_key (count - 1))
    taken_indexed = rw (left, left_by_key) indexed_left
