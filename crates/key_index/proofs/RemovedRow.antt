-- Which row fails first once one is taken out: the rows beside it on its key say so.
use Rattle.std.proofs.Common.{◌≡◌, ℕ, ℤ, ◌+◌, ◌<◌, Bool, true, false, ◌&&◌, cond, Option, Some, None, List, ◌∷◌, ◌++◌, length, map, slice_get, refl, sym, subst, ap, ◌∙◌, arith}
use Rattle.std.specs.Prelude.{nat_lt}
use Rattle.std.specs.List.{AllByRecursion, filter}
use Rattle.std.specs.Option.{option_map, option_and_then}
use Rattle.std.specs.Ordering.{int_eq}
use Rattle.std.proofs.lemmas.Bool.Decides.{nat_tests, Decides-int_eq}
use Rattle.std.proofs.lemmas.List.{length-map, map-append, append-nil}
use Rattle.std.proofs.lemmas.List.Elements.{filter-append}
use Rattle.retro_base.specs.declared.kind.Kind.TheVariants.{Dict}
use Rattle.retro_base.specs.declared.op.Op.{Op}
use Rattle.retro_base.specs.declared.op.Op.TheVariants.{Enq, Deq, Push, Pop, PushL, PushR, PopL, PopR, Put, Del, Ins, DelMin}
use Rattle.retro_base.specs.Kind.{kind_of}
use Rattle.retro_base.specs.OrderLaws.{all_weaker}
use Rattle.key_index.specs.KeyRows.{KeyRow, AreKeyRows, is_on, last_of, last_before, first_after, op_at, without, bad_label, failure_of, Replays}
use Rattle.key_index.specs.RowsBeside.{is_there, taken_at}
use Rattle.key_index.proofs.Lists.{filter_either, all-append, all_front, all_after, filter-no, none_pass, all_pass, first_of, find_is}
use Rattle.key_index.proofs.Replayed.{there_after, fails, nothing, failure_is}
use Rattle.key_index.proofs.Failing.{with_more, without_key, there_later, there_is, in_parts, front_goes, back_goes, row_goes, taken_name, name_after}
use Rattle.key_index.proofs.TakenOut.{StandsByLabel, stands_there, without_it}

abbrev AreDict : List KeyRow → Type 0
AreDict rows = AllByRecursion (λ (row : KeyRow). kind_of row.1 ≡ Dict) rows

-- where the key is there all the same, and where it is not
put_same : (label : ℕ) (k v : ℤ) (there : ℤ → Bool) → there k ≡ true → (key : ℤ) → there_after (label, Put k v) there key ≡ true → there key ≡ true
put_same label k v there here key h =
    elim (int_eq k key) as (λ b. int_eq k key ≡ b → cond b true (there key) ≡ true → there key ≡ true) [
      | true ↦ λ same h. ap there (sym ((Decides-int_eq k key).0 same)) ∙ here
      | false ↦ λ other h. h
    ] refl h

del_more : (label : ℕ) (k : ℤ) (there : ℤ → Bool) (key : ℤ) → there_after (label, Del k) there key ≡ true → there key ≡ true
del_more label k there key h = elim (int_eq k key) as (λ b. cond b false (there key) ≡ true → there key ≡ true) [ true ↦ λ h. absurd (cc) | false ↦ λ h. h ] h

put_apart : (label : ℕ) (k v : ℤ) (there : ℤ → Bool) (key : ℤ) → int_eq k key ≡ false → there_after (label, Put k v) there key ≡ there key
put_apart label k v there key other = ap (λ b. cond b true (there key)) other

below_label : (m label : ℕ) → m < label → nat_lt m label ≡ true
below_label m label less = grind (arith, nat_tests)

not_below : (m label : ℕ) → label < m → nat_lt m label ≡ false
not_below m label more = grind (arith, nat_tests)

not_itself : (label : ℕ) → nat_lt label label ≡ false
not_itself label = grind (arith, nat_tests)

unchanged : (o : Option ℕ) → option_map (λ l. l) o ≡ o
unchanged None = refl
unchanged (Some l) = refl

-- the same of an operation that is known to be one of these
put_same_of : (label : ℕ) (op : Op) (k v : ℤ) (there : ℤ → Bool) → op ≡ Put k v → there k ≡ true → (key : ℤ) → there_after (label, op) there key ≡ true → there key ≡ true
put_same_of label op k v there same = rw same (put_same label k v there)

put_apart_of : (label : ℕ) (op : Op) (k v : ℤ) (there : ℤ → Bool) → op ≡ Put k v → (key : ℤ) → int_eq k key ≡ false → there_after (label, op) there key ≡ there key
put_apart_of label op k v there same = rw same (put_apart label k v there)

del_more_of : (label : ℕ) (op : Op) (k : ℤ) (there : ℤ → Bool) → op ≡ Del k → (key : ℤ) → there_after (label, op) there key ≡ true → there key ≡ true
del_more_of label op k there same = rw same (del_more label k there)

-- what is no `put` is a `del`
only_del : (op : Op) → kind_of op ≡ Dict → ((k v : ℤ) → op ≡ Put k v → ⊥) → (k : ℤ) × (op ≡ Del k)
only_del (Put k v) dict other = absurd (other k v refl)
only_del (Del k) dict other = (k, refl)
only_del (Enq v) dict other = absurd (cc)
only_del Deq dict other = absurd (cc)
only_del (Push v) dict other = absurd (cc)
only_del Pop dict other = absurd (cc)
only_del (PushL v) dict other = absurd (cc)
only_del (PushR v) dict other = absurd (cc)
only_del PopL dict other = absurd (cc)
only_del PopR dict other = absurd (cc)
only_del (Ins k) dict other = absurd (cc)
only_del DelMin dict other = absurd (cc)

module _ (label : ℕ) (op : Op) (rows : List KeyRow) (keyed : AreKeyRows rows) (valid : Replays rows) (found : op_at label rows ≡ Some op) where
  abbrev stands : StandsByLabel (label, op) rows
  stands = stands_there label op rows keyed.rising found

  abbrev before : List KeyRow
  before = stands.front

  abbrev beyond : List KeyRow
  beyond = stands.back

  whole : fails nothing (before ++ (label, op) ∷ beyond) ≡ None
  whole = ap (fails nothing) (sym stands.is) ∙ sym (failure_is rows keyed.of_dict) ∙ valid

  left_dict : AreDict (before ++ beyond)
  left_dict =
      let dict = subst AreDict stands.is keyed.of_dict in
      all-append (λ (row : KeyRow). kind_of row.1 ≡ Dict) before beyond (all_front (λ (row : KeyRow). kind_of row.1 ≡ Dict) before ((label, op) ∷ beyond) dict)
      (all_after (λ (row : KeyRow). kind_of row.1 ≡ Dict) before ((label, op) ∷ beyond) dict).1

  fails_left : failure_of (without label rows) ≡ option_map (λ i. length before + i) (fails (there_later before nothing) beyond)
  fails_left =
      ap failure_of (ap (without label) stands.is ∙ without_it label op before beyond stands.below)
      ∙ failure_is (before ++ beyond) left_dict
      ∙ in_parts before beyond nothing (front_goes before ((label, op) ∷ beyond) nothing whole)

  abbrev labels : List KeyRow → List ℕ
  labels rows = map (λ (row : KeyRow). row.0) rows

  bad_left : bad_label (without label rows) ≡ option_and_then (slice_get (labels beyond)) (fails (there_later before nothing) beyond)
  bad_left =
      ap (option_and_then (slice_get (labels (without label rows)))) fails_left
      ∙ ap (λ l. option_and_then (slice_get (labels l)) (option_map (λ i. length before + i) (fails (there_later before nothing) beyond))) (ap (without label) stands.is ∙ without_it label op before beyond stands.below)
      ∙ ap (λ l. option_and_then (slice_get l) (option_map (λ i. length before + i) (fails (there_later before nothing) beyond))) (map-append (λ (row : KeyRow). row.0) before beyond)
      ∙ name_after (labels before) (labels beyond) (length before) (fails (there_later before nothing) beyond) (sym (length-map before (λ (row : KeyRow). row.0)))

  after_it : fails (there_after (label, op) (there_later before nothing)) beyond ≡ None
  after_it = (row_goes (label, op) beyond (there_later before nothing) (back_goes before ((label, op) ∷ beyond) nothing whole)).1

  lesser : filter (λ row. nat_lt row.0 label) rows ≡ before
  lesser =
      ap (filter (λ row. nat_lt row.0 label)) stands.is
      ∙ filter-append (λ (row : KeyRow). nat_lt row.0 label) before ((label, op) ∷ beyond)
      ∙ ap (λ l. l ++ filter (λ row. nat_lt row.0 label) ((label, op) ∷ beyond))
      (all_pass (λ (row : KeyRow). nat_lt row.0 label) before (all_weaker (λ (row : KeyRow). row.0 < label) (λ (row : KeyRow). nat_lt row.0 label ≡ true) before (λ row less. below_label row.0 label less) stands.below))
      ∙ ap (λ l. before ++ l)
      (filter-no (λ (row : KeyRow). nat_lt row.0 label) (label, op) beyond (not_itself label)
      ∙ none_pass (λ (row : KeyRow). nat_lt row.0 label) beyond (all_weaker (λ (row : KeyRow). label < row.0) (λ (row : KeyRow). nat_lt row.0 label ≡ false) beyond (λ row more. not_below row.0 label more) stands.above))
      ∙ append-nil before

  greater : filter (λ row. nat_lt label row.0) rows ≡ beyond
  greater =
      ap (filter (λ row. nat_lt label row.0)) stands.is
      ∙ filter-append (λ (row : KeyRow). nat_lt label row.0) before ((label, op) ∷ beyond)
      ∙ ap (λ l. l ++ filter (λ row. nat_lt label row.0) ((label, op) ∷ beyond))
      (none_pass (λ (row : KeyRow). nat_lt label row.0) before (all_weaker (λ (row : KeyRow). row.0 < label) (λ (row : KeyRow). nat_lt label row.0 ≡ false) before (λ row less. not_below label row.0 less) stands.below))
      ∙ filter-no (λ (row : KeyRow). nat_lt label row.0) (label, op) beyond (not_itself label)
      ∙ all_pass (λ (row : KeyRow). nat_lt label row.0) beyond (all_weaker (λ (row : KeyRow). label < row.0) (λ (row : KeyRow). nat_lt label row.0 ≡ true) beyond (λ row more. below_label label row.0 more) stands.above)

  there_below : (k : ℤ) → there_later before nothing k ≡ is_there (last_before k label rows)
  there_below k =
      there_is before k ∙ ap (λ l. is_there (last_of (filter (is_on k) l))) (sym lesser)
      ∙ ap (λ l. is_there (last_of l)) (sym (filter_either (is_on k) (λ row. nat_lt row.0 label) rows))

  next_is : (k : ℤ) → first_of (filter (is_on k) beyond) ≡ first_after k label rows
  next_is k =
      ap (λ l. first_of (filter (is_on k) l)) (sym greater) ∙ ap first_of (sym (filter_either (is_on k) (λ row. nat_lt label row.0) rows))
      ∙ sym (find_is (λ row. is_on k row && nat_lt label row.0) rows)

  -- another row before it had put the key
  pub put_again : (k v : ℤ) → op ≡ Put k v → is_there (last_before k label rows) ≡ true → None ≡ bad_label (without label rows)
  put_again k v same here =
      sym (bad_left ∙ ap (option_and_then (slice_get (labels beyond)))
      (with_more beyond (there_after (label, op) (there_later before nothing)) (there_later before nothing)
      (put_same_of label op k v (there_later before nothing) same (there_below k ∙ here)) after_it))

  -- the key is not there without it
  pub put_gone : (k v : ℤ) → op ≡ Put k v → is_there (last_before k label rows) ≡ false → taken_at (first_after k label rows) ≡ bad_label (without label rows)
  put_gone k v same gone =
      sym (bad_left ∙ ap (option_and_then (slice_get (labels beyond)))
      (without_key k beyond (there_after (label, op) (there_later before nothing)) (there_later before nothing)
      (put_apart_of label op k v (there_later before nothing) same) (there_below k ∙ gone) after_it)
      ∙ taken_name (λ l. l) k beyond ∙ unchanged (taken_at (first_of (filter (is_on k) beyond))) ∙ ap taken_at (next_is k))

  -- a row that takes a key out is never missed
  pub not_missed : ((k v : ℤ) → op ≡ Put k v → ⊥) → None ≡ bad_label (without label rows)
  not_missed other =
      let del = only_del op (all_after (λ (row : KeyRow). kind_of row.1 ≡ Dict) before ((label, op) ∷ beyond) (subst AreDict stands.is keyed.of_dict)).0 other in
      sym (bad_left ∙ ap (option_and_then (slice_get (labels beyond)))
      (with_more beyond (there_after (label, op) (there_later before nothing)) (there_later before nothing)
      (del_more_of label op del.0 (there_later before nothing) del.1) after_it))
