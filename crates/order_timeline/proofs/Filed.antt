-- The table has the label of each name, where a name comes, goes, or gets another label.
use Rattle.std.proofs.Common.{◌≡◌, ◌≢◌, ℕ, zero, suc, ◌+◌, ◌<◌, ◌≤◌, false, Some, None, List, [], ◌∷◌, ◌++◌, length, slice_get, slice_set}
use Rattle.std.proofs.Common.{get_or, ◌==◌, refl, sym, ap, ◌∙◌, subst, arith, add-one, inl, inr, eq-eqb, eqb-true, position}
use Rattle.std.proofs.lemmas.Bool.{cases_Bool, ne_eqb}
use Rattle.std.proofs.lemmas.List.Quantifiers.{position-Some}
use Rattle.std.proofs.lemmas.Option.{slice_get-get_or, slice_get_within}
use Rattle.std.proofs.lemmas.List.{length-append, length-set}
use Rattle.std.proofs.lemmas.List.Edits.{length-insert, length-remove}
use Rattle.std.specs.List.{insert, remove, AllByRecursion, position_or_len}
use Rattle.retro_base.specs.OrderLaws.{all_with, all_without, all_weaker}
use Rattle.order_labels.specs.Labels.{AreApart, AreLabels, label_limit}
use Rattle.order_timeline.specs.Names.{AreDistinct, HaveLabels, AreFiled}
use Rattle.order_timeline.proofs.Lookups.{is_name, some_same, none_not, first_here, first_later, position_here, position_nowhere, position_is, position_none}

-- what was read stays where something comes after it
read_longer : (table more : List ℕ) (name label : ℕ) → slice_get table name ≡ Some label → slice_get (table ++ more) name ≡ Some label
read_longer [] more name label read = absurd (none_not read)
read_longer (x ∷ table) more zero label read = read
read_longer (x ∷ table) more (suc name) label read = read_longer table more name label read

pub read_set : (table : List ℕ) (name label : ℕ) → name < length table → slice_get (slice_set table name label) name ≡ Some label
read_set [] name label within = absurd (omega arith)
read_set (x ∷ table) zero label within = refl
read_set (x ∷ table) (suc name) label within = read_set table name label (omega arith)

read_other : (table : List ℕ) (name other label : ℕ) → name ≢ other → slice_get (slice_set table name label) other ≡ slice_get table other
read_other [] name other label differ = refl
read_other (x ∷ table) zero zero label differ = absurd (differ refl)
read_other (x ∷ table) zero (suc other) label differ = refl
read_other (x ∷ table) (suc name) zero label differ = refl
read_other (x ∷ table) (suc name) (suc other) label differ = read_other table name other label (λ same. differ (ap suc same))

pub labels_longer : (names labels table more : List ℕ) → HaveLabels names labels table → HaveLabels names labels (table ++ more)
labels_longer [] labels table more have = tt
labels_longer (name ∷ names) [] table more have = tt
labels_longer (name ∷ names) (label ∷ labels) table more have = (read_longer table more name label have.0, labels_longer names labels table more have.1)

pub names_known : (names labels table : List ℕ) → length labels ≡ length names → HaveLabels names labels table → AllByRecursion (λ name. name < length table) names
names_known [] labels table each have = tt
names_known (name ∷ names) [] table each have = absurd (omega arith)
names_known (name ∷ names) (label ∷ labels) table each have = (slice_get_within table name label have.0, names_known names labels table (omega arith) have.1)

pub labels_set : (names labels table : List ℕ) (name label : ℕ) → AllByRecursion (λ other. name ≢ other) names → HaveLabels names labels table → HaveLabels names labels (slice_set table name label)
labels_set [] labels table name label fresh have = tt
labels_set (other ∷ names) [] table name label fresh have = tt
labels_set (other ∷ names) (next ∷ labels) table name label fresh have = (read_other table name other label fresh.0 ∙ have.0, labels_set names labels table name label fresh.1 have.1)

pub labels_with : (names labels table : List ℕ) (place name label : ℕ) → length labels ≡ length names → HaveLabels names labels table → slice_get table name
    ≡ Some label → HaveLabels (insert names place name) (insert labels place label) table
labels_with names labels table zero name label each have read = (read, have)
labels_with [] [] table (suc place) name label each have read = (read, tt)
labels_with [] (next ∷ labels) table (suc place) name label each have read = absurd (omega arith)
labels_with (other ∷ names) [] table (suc place) name label each have read = absurd (omega arith)
labels_with (other ∷ names) (next ∷ labels) table (suc place) name label each have read = (have.0, labels_with names labels table place name label (omega arith) have.1 read)

pub labels_without : (names labels table : List ℕ) (place : ℕ) → length labels ≡ length names → HaveLabels names labels table → HaveLabels (remove names place) (remove labels place) table
labels_without [] labels table zero each have = tt
labels_without [] labels table (suc place) each have = tt
labels_without (other ∷ names) [] table place each have = absurd (omega arith)
labels_without (other ∷ names) (next ∷ labels) table zero each have = have.1
labels_without (other ∷ names) (next ∷ labels) table (suc place) each have = (have.0, labels_without names labels table place (omega arith) have.1)

-- names stay distinct
pub distinct_with : (names : List ℕ) (place name : ℕ) → AllByRecursion (λ other. name ≢ other) names → AreDistinct names → AreDistinct (insert names place name)
distinct_with names zero name fresh distinct = (fresh, distinct)
distinct_with [] (suc place) name fresh distinct = (tt, tt)
distinct_with (other ∷ names) (suc place) name fresh distinct =
    (all_with (λ next. other ≢ next) names place name distinct.0 (λ same. fresh.0 (sym same)), distinct_with names place name fresh.1 distinct.1)

pub distinct_without : (names : List ℕ) (place : ℕ) → AreDistinct names → AreDistinct (remove names place)
distinct_without [] zero distinct = tt
distinct_without [] (suc place) distinct = tt
distinct_without (other ∷ names) zero distinct = distinct.1
distinct_without (other ∷ names) (suc place) distinct = (all_without (λ next. other ≢ next) names place distinct.0, distinct_without names place distinct.1)

-- a name that is counted after all others is none of them
pub new_name : (names : List ℕ) (table : List ℕ) (name : ℕ) → name ≡ length table → AllByRecursion (λ other. other < length table) names → AllByRecursion (λ other. name ≢ other) names
new_name [] table name new known = tt
new_name (other ∷ names) table name new known = ((λ same. omega (arith, same, new, known.0)), new_name names table name new known.1)

-- the first names of a list have their labels
abbrev pub FirstHave : ℕ → List ℕ → List ℕ → List ℕ → Type 0
FirstHave zero names labels table = Unit {0}
FirstHave (suc count) [] labels table = Unit {0}
FirstHave (suc count) (name ∷ names) [] table = Unit {0}
FirstHave (suc count) (name ∷ names) (label ∷ labels) table = (slice_get table name ≡ Some label) × FirstHave count names labels table

read_of_all : (P : ℕ → Type 0) (xs : List ℕ) (place x : ℕ) → AllByRecursion P xs → slice_get xs place ≡ Some x → P x
read_of_all P [] place x all read = absurd (none_not read)
read_of_all P (y ∷ xs) zero x all read = subst P (some_same read) all.0
read_of_all P (y ∷ xs) (suc place) x all read = read_of_all P xs place x all.1 read

pub one_known : (names table : List ℕ) (place name : ℕ) → AllByRecursion (λ other. other < length table) names → slice_get names place ≡ Some name → name < length table
one_known names table place name known read = read_of_all (λ other. other < length table) names place name known read

pub first_more : (count : ℕ) (names labels table : List ℕ) (name label : ℕ) → AreDistinct names → slice_get names count ≡ Some name → slice_get labels count ≡ Some label → name < length table
    → FirstHave count names labels table → FirstHave (suc count) names labels (slice_set table name label)
first_more count [] labels table name label distinct named labelled within have = absurd (none_not named)
first_more count (other ∷ names) [] table name label distinct named labelled within have = absurd (none_not labelled)
first_more zero (other ∷ names) (next ∷ labels) table name label distinct named labelled within have =
    (subst (λ n. slice_get (slice_set table name label) n ≡ Some next) (sym (some_same named)) (read_set table name label within ∙ ap Some (sym (some_same labelled))), tt)
first_more (suc count) (other ∷ names) (next ∷ labels) table name label distinct named labelled within have =
    let differ : other ≢ name = read_of_all (λ later. other ≢ later) names count name distinct.0 named in
    (read_other table name other label (λ same. differ (sym same)) ∙ have.0, first_more count names labels table name label distinct.1 named labelled within have.1)

pub first_all : (count : ℕ) (names labels table : List ℕ) → length names ≤ count → FirstHave count names labels table → HaveLabels names labels table
first_all count [] labels table end have = tt
first_all count (name ∷ names) [] table end have = tt
first_all zero (name ∷ names) (label ∷ labels) table end have = absurd (omega arith)
first_all (suc count) (name ∷ names) (label ∷ labels) table end have = (have.0, first_all count names labels table (omega arith) have.1)

-- a name stands no earlier than its label
pub no_earlier_name : (names labels table : List ℕ) (name label : ℕ) → length labels ≡ length names → HaveLabels names labels table → slice_get table name
    ≡ Some label → position_or_len (is_name label) labels ≤ position_or_len (is_name name) names
no_earlier_name [] [] table name label each have read = omega arith
no_earlier_name [] (next ∷ labels) table name label each have read = absurd (omega arith)
no_earlier_name (other ∷ names) [] table name label each have read = absurd (omega arith)
no_earlier_name (other ∷ names) (next ∷ labels) table name label each have read = elim (cases_Bool (other == name)) [
  | inl equal ↦
      let same : next ≡ label = some_same (sym have.0 ∙ ap (slice_get table) (eqb-true other name equal) ∙ read) in
      omega (arith, first_here (is_name label) next labels (eq-eqb next label same))
  | inr unequal ↦
      let rest = no_earlier_name names labels table name label (omega arith) have.1 read in
      elim (cases_Bool (next == label)) [
        | inl here_first ↦ omega (arith, first_here (is_name label) next labels here_first)
        | inr later ↦ omega (arith, first_later (is_name label) next labels later, first_later (is_name name) other names unequal, rest)
      ]
]

-- a name that the table does not have is none of them
pub unlabelled : (names labels table : List ℕ) (name : ℕ) → length labels ≡ length names → HaveLabels names labels table → slice_get table name ≡ None → length names ≤ position_or_len (is_name name) names
unlabelled [] labels table name each have none = omega arith
unlabelled (other ∷ names) [] table name each have none = absurd (omega arith)
unlabelled (other ∷ names) (next ∷ labels) table name each have none = elim (cases_Bool (other == name)) [
  | inl equal ↦ absurd (none_not (sym none ∙ sym (ap (slice_get table) (eqb-true other name equal)) ∙ have.0))
  | inr unequal ↦ omega (arith, first_later (is_name name) other names unequal, unlabelled names labels table name (omega arith) have.1 none)
]

-- where labels rise, a name whose label is not above the first of them is none of theirs
beyond : (first last : ℕ) (names labels table : List ℕ) (name label : ℕ) → AreApart 1 first last labels → label ≤ first → length labels ≡ length names → HaveLabels names labels table → slice_get table name ≡ Some label
    → length names ≤ position_or_len (is_name name) names
beyond first last [] labels table name label rising before each have read = omega arith
beyond first last (other ∷ names) [] table name label rising before each have read = absurd (omega arith)
beyond first last (other ∷ names) (next ∷ labels) table name label rising before each have read = elim (cases_Bool (other == name)) [
  | inl equal ↦
      let same : next ≡ label = some_same (sym have.0 ∙ ap (slice_get table) (eqb-true other name equal) ∙ read) in
      absurd (omega (arith, same, rising.0, before))
  | inr unequal ↦ omega (arith, first_later (is_name name) other names unequal, beyond next last names labels table name label rising.1 (omega (arith, rising.0, before)) (omega arith) have.1 read)
]

above : (first last : ℕ) (labels : List ℕ) (place label : ℕ) → AreApart 1 first last labels → slice_get labels place ≡ Some label → first < label
above first last [] place label rising read = absurd (none_not read)
above first last (next ∷ labels) zero label rising read = omega (arith, rising.0, some_same read)
above first last (next ∷ labels) (suc place) label rising read = omega (arith, rising.0, above next last labels place label rising.1 read)

-- and one whose label stands beside another name is none of them
pub only_there : (first last : ℕ) (names labels table : List ℕ) (place name other label : ℕ) → AreApart 1 first last labels → length labels ≡ length names
    → HaveLabels names labels table → slice_get table name ≡ Some label
    → slice_get labels place ≡ Some label → slice_get names place ≡ Some other → (other == name) ≡ false → length names ≤ position_or_len (is_name name) names
only_there first last [] labels table place name other label rising each have read labelled named unequal = omega arith
only_there first last (head ∷ names) [] table place name other label rising each have read labelled named unequal = absurd (none_not labelled)
only_there first last (head ∷ names) (next ∷ labels) table zero name other label rising each have read labelled named unequal =
    omega (
      arith,
      first_later (is_name name) head names (ap (λ n. n == name) (some_same named) ∙ unequal),
      beyond next last names labels table name label rising.1 (omega (arith, some_same labelled)) (omega arith) have.1 read,
    )
only_there first last (head ∷ names) (next ∷ labels) table (suc place) name other label rising each have read labelled named unequal = elim (cases_Bool (head == name)) [
  | inl equal ↦
      let same : next ≡ label = some_same (sym have.0 ∙ ap (slice_get table) (eqb-true head name equal) ∙ read) in
      absurd (omega (arith, same, above next last labels place label rising.1 labelled))
  | inr differs ↦ omega (arith, first_later (is_name name) head names differs, only_there next last names labels table place name other label rising.1 (omega arith) have.1 read labelled named unequal)
]

-- the place of a label has it
pub position_reads : (xs : List ℕ) (place x : ℕ) → position (is_name x) xs ≡ Some place → slice_get xs place ≡ Some x
position_reads xs place x found =
    let seen = position-Some (is_name x) xs place 0 found in
    slice_get-get_or xs place 0 seen.0 ∙ ap Some (eqb-true (get_or xs place 0) x seen.1)

-- the same of other lists that are equal
pub filed_is : (names labels table more others wider : List ℕ) → AreFiled names labels table → more ≡ names → others ≡ labels → wider ≡ table → AreFiled more others wider
filed_is names labels table more others wider filed names_are labels_are table_is =
    subst (λ n. AreFiled n others wider) (sym names_are) (subst (λ l. AreFiled names l wider) (sym labels_are) (subst (λ t. AreFiled names labels t) (sym table_is) filed))

pub filed_longer : (names labels table more : List ℕ) → AreFiled names labels table → AreFiled names labels (table ++ more)
filed_longer names labels table more filed = record { each = filed.each; distinct = filed.distinct; filed = labels_longer names labels table more filed.filed }

pub filed_without : (names labels table : List ℕ) (place : ℕ) → AreFiled names labels table → place < length names → AreFiled (remove names place) (remove labels place) table
filed_without names labels table place filed within = record {
  each = omega (arith, filed.each, length-remove names place within, length-remove labels place (omega (arith, filed.each)));
  distinct = distinct_without names place filed.distinct;
  filed = labels_without names labels table place filed.each filed.filed;
}

-- a name that was just added to the table is none of the others
pub added_name : (names labels table : List ℕ) (name : ℕ) → AreFiled names labels table → name ≡ length table → AllByRecursion (λ other. name ≢ other) names
added_name names labels table name filed new = new_name names table name new (names_known names labels table filed.each filed.filed)

-- it comes with the label that the table gets
pub filed_with : (names labels table : List ℕ) (place name label : ℕ) → AreFiled names labels table → place ≤ length names → name ≡ length table
    → AreFiled (insert names place name) (insert labels place label) (slice_set (table ++ 0 ∷ []) name label)
filed_with names labels table place name label filed within new =
    let fresh = added_name names labels table name filed new in
    let long : name < length (table ++ 0 ∷ []) = omega (arith, new, length-append table (0 ∷ [])) in
    record {
      each = omega (arith, filed.each, length-insert names place name within, length-insert labels place label (omega (arith, filed.each)));
      distinct = distinct_with names place name fresh filed.distinct;
      filed = labels_with names labels (slice_set (table ++ 0 ∷ []) name label) place name label filed.each
          (labels_set names labels (table ++ 0 ∷ []) name label fresh (labels_longer names labels table (0 ∷ []) filed.filed)) (read_set (table ++ 0 ∷ []) name label long);
    }

-- and all names are in the table then
pub all_known : (names labels table : List ℕ) (place name : ℕ) → AreFiled names labels table → name ≡ length table → AllByRecursion (λ other. other < length (table ++ 0 ∷ [])) (insert names place name)
all_known names labels table place name filed new =
    let longer : length (table ++ 0 ∷ []) ≡ length table + 1 = length-append table (0 ∷ []) in
    all_with (λ other. other < length (table ++ 0 ∷ [])) names place name
    (all_weaker (λ other. other < length table) (λ other. other < length (table ++ 0 ∷ [])) names (λ other within. omega (arith, longer, within)) (names_known names labels table filed.each filed.filed))
    (omega (arith, longer, new))

-- what a search for a name comes to
module _ (names labels table : List ℕ) (name : ℕ) (filed : AreFiled names labels table) where
  pub nowhere_in_table : slice_get table name ≡ None → position (is_name name) names ≡ None
  nowhere_in_table none = position_nowhere (is_name name) names (length names) (omega arith) (unlabelled names labels table name filed.each filed.filed none)

  pub nowhere_by_label : (label : ℕ) → slice_get table name ≡ Some label → position (is_name label) labels ≡ None → position (is_name name) names ≡ None
  nowhere_by_label label read none =
      position_nowhere (is_name name) names (length names) (omega arith)
      (omega (arith, filed.each, position_none (is_name label) labels none, no_earlier_name names labels table name label filed.each filed.filed read))

  pub found_there : (label place other : ℕ) → slice_get table name ≡ Some label → position (is_name label) labels ≡ Some place → slice_get names place
      ≡ Some other → other ≡ name → position (is_name name) names ≡ Some place
  found_there label place other read found named same =
      position_here (is_name name) names place other
      (omega (arith, position_is (is_name label) labels place found, no_earlier_name names labels table name label filed.each filed.filed read)) named (eq-eqb other name same)

  pub nowhere_else : (label place other : ℕ) → AreLabels labels → slice_get table name ≡ Some label → position (is_name label) labels ≡ Some place
      → slice_get names place ≡ Some other → other ≢ name → position (is_name name) names ≡ None
  nowhere_else label place other labels_rise read found named differ =
      position_nowhere (is_name name) names (length names) (omega arith)
      (only_there 0 label_limit names labels table place name other label labels_rise.rising filed.each filed.filed read (position_reads labels place label found) named (ne_eqb other name differ))

-- one name more has its label
pub file_more : (place : ℕ) (names labels table wider : List ℕ) (name label : ℕ) → AreDistinct names → slice_get names place ≡ Some name → slice_get labels place ≡ Some label
    → FirstHave place names labels table × AllByRecursion (λ other. other < length table) names → wider ≡ slice_set table name label
    → FirstHave (place + 1) names labels wider × AllByRecursion (λ other. other < length wider) names
file_more place names labels table wider name label distinct named labelled so_far is =
    let within : name < length table = one_known names table place name so_far.1 named in
    let first : FirstHave (suc place) names labels (slice_set table name label) = first_more place names labels table name label distinct named labelled within so_far.0 in
    subst (λ t. FirstHave (place + 1) names labels t × AllByRecursion (λ other. other < length t) names) (sym is) (
      subst (λ n. FirstHave n names labels (slice_set table name label)) (sym (add-one place)) first,
      all_weaker (λ other. other < length table) (λ other. other < length (slice_set table name label)) names (λ other below. omega (arith, below, length-set table name label)) so_far.1,
    )
