-- Which row fails first once one is put in: the rows beside it on its key say so.
use Rattle.std.proofs.Common.{◌≡◌, ℕ, ℤ, suc, ◌+◌, Bool, true, false, not, ◌&&◌, cond, Option, Some, None, List, ◌∷◌, ◌++◌, length, slice_get, refl, sym, ap, ◌∙◌}
use Rattle.std.specs.Prelude.{nat_le, nat_lt}
use Rattle.std.specs.List.{AllByRecursion}
use Rattle.std.specs.Option.{option_map, option_and_then}
use Rattle.std.specs.Ordering.{int_eq}
use Rattle.std.proofs.lemmas.Bool.Decides.{Decides-int_eq}
use Rattle.std.proofs.lemmas.List.{length-map}
use Rattle.retro_base.specs.declared.kind.Kind.TheVariants.{Dict}
use Rattle.retro_base.specs.declared.op.Op.{Op}
use Rattle.retro_base.specs.declared.op.Op.TheVariants.{Enq, Deq, Push, Pop, PushL, PushR, PopL, PopR, Put, Del, Ins, DelMin}
use Rattle.retro_base.specs.Kind.{kind_of}
use Rattle.key_index.specs.declared.key_index.Bad.{Bad}
use Rattle.key_index.specs.declared.key_index.Bad.TheVariants.{Inserted, Present}
use Rattle.key_index.specs.KeyRows.{KeyRow, AreKeyRows, is_on, last_of, first_after, up_to, behind, with_row, named, bad_with, Replays}
use Rattle.key_index.specs.RowsBeside.{takes_out, is_there, taken_at, last_up_to}
use Rattle.key_index.proofs.InOrder.{parted}
use Rattle.key_index.proofs.Lists.{filter_either, all-append, all_filter, first_of, find_is}
use Rattle.key_index.proofs.Replayed.{there_after, fails, nothing, failure_is}
use Rattle.key_index.proofs.Failing.{with_more, first_taken, without_key, there_later, there_is, in_parts, front_goes, back_goes, taken_name, name_after}

abbrev AreDict : List KeyRow → Type 0
AreDict rows = AllByRecursion (λ (row : KeyRow). kind_of row.1 ≡ Dict) rows

-- with a key there, and with it gone
put_more : (label : ℕ) (k v : ℤ) (there : ℤ → Bool) (key : ℤ) → there key ≡ true → there_after (label, Put k v) there key ≡ true
put_more label k v there key h = elim (int_eq k key) as (λ b. cond b true (there key) ≡ true) [ true ↦ refl | false ↦ h ]

del_apart : (label : ℕ) (k : ℤ) (there : ℤ → Bool) (key : ℤ) → int_eq k key ≡ false → there key ≡ there_after (label, Del k) there key
del_apart label k there key other = sym (ap (λ b. cond b false (there key)) other)

del_gone : (label : ℕ) (k : ℤ) (there : ℤ → Bool) → there_after (label, Del k) there k ≡ false
del_gone label k there = ap (λ b. cond b false (there k)) ((Decides-int_eq k k).1 refl)

-- a row between others that can be performed
module _ (front back : List KeyRow) (label : ℕ) (whole : fails nothing (front ++ back) ≡ None) where
  abbrev there : ℤ → Bool
  there = there_later front nothing

  abbrev rest : fails there back ≡ None
  rest = back_goes front back nothing whole

  put_between : (k v : ℤ) → fails nothing (front ++ (label, Put k v) ∷ back) ≡ None
  put_between k v =
      in_parts front ((label, Put k v) ∷ back) nothing (front_goes front back nothing whole)
      ∙ ap (λ o. option_map (λ i. length front + i) (option_map suc o)) (with_more back there (there_after (label, Put k v) there) (put_more label k v there) rest)

  stopped : (k : ℤ) → there k ≡ false → fails nothing (front ++ (label, Del k) ∷ back) ≡ option_map (λ i. length front + i) (Some 0)
  stopped k gone =
      in_parts front ((label, Del k) ∷ back) nothing (front_goes front back nothing whole)
      ∙ ap (λ b. option_map (λ i. length front + i) (cond (not b) (Some 0) (option_map suc (fails (there_after (label, Del k) there) back)))) gone

  del_between : (k : ℤ) → there k ≡ true → fails nothing (front ++ (label, Del k) ∷ back) ≡ option_map (λ i. length front + i) (option_map suc (first_taken k back))
  del_between k here =
      in_parts front ((label, Del k) ∷ back) nothing (front_goes front back nothing whole)
      ∙ ap (λ b. option_map (λ i. length front + i) (cond (not b) (Some 0) (option_map suc (fails (there_after (label, Del k) there) back)))) here
      ∙ ap (λ o. option_map (λ i. length front + i) (option_map suc o))
      (without_key k back there (there_after (label, Del k) there) (del_apart label k there) (del_gone label k there) rest)

-- names of rows
first_name : (front back : List Bad) → slice_get (front ++ Inserted ∷ back) (length front + 0) ≡ Some Inserted
first_name front back = name_after front (Inserted ∷ back) (length front) (Some 0) refl

further : (front back : List Bad) (o : Option ℕ) → option_and_then (slice_get (front ++ Inserted ∷ back)) (option_map (λ i. length front + i) (option_map suc o)) ≡ option_and_then (slice_get back) o
further front back o = name_after front (Inserted ∷ back) (length front) (option_map suc o) refl ∙ past o where
  past : (o : Option ℕ) → option_and_then (slice_get (Inserted ∷ back)) (option_map suc o) ≡ option_and_then (slice_get back) o
  past None = refl
  past (Some i) = refl

module _ (label : ℕ) (rows : List KeyRow) (dict : AreDict rows) (whole : fails nothing (up_to label rows ++ behind label rows) ≡ None) where
  abbrev front : List KeyRow
  front = up_to label rows

  abbrev back : List KeyRow
  back = behind label rows

  edited_dict : (op : Op) → kind_of op ≡ Dict → AreDict (with_row label op rows)
  edited_dict op one = all-append (λ (row : KeyRow). kind_of row.1 ≡ Dict) front ((label, op) ∷ back) (all_filter (λ (row : KeyRow). nat_le row.0 label) (λ (row : KeyRow). kind_of row.1 ≡ Dict) rows dict)
      (one, all_filter (λ (row : KeyRow). nat_lt label row.0) (λ (row : KeyRow). kind_of row.1 ≡ Dict) rows dict)

  pub put_is_good : (k v : ℤ) → None ≡ bad_with label (Put k v) rows
  put_is_good k v = sym (ap (option_and_then (slice_get (named front ++ Inserted ∷ named back))) (failure_is (with_row label (Put k v) rows) (edited_dict (Put k v) refl) ∙ put_between front back label whole k v))

  there_up_to : (k : ℤ) → there_later front nothing k ≡ is_there (last_up_to k label rows)
  there_up_to k = there_is front k ∙ ap (λ found. is_there (last_of found)) (sym (filter_either (is_on k) (λ row. nat_le row.0 label) rows))

  pub del_is_bad : (k : ℤ) → is_there (last_up_to k label rows) ≡ false → Some Inserted ≡ bad_with label (Del k) rows
  del_is_bad k gone =
      sym (ap (option_and_then (slice_get (named front ++ Inserted ∷ named back))) (failure_is (with_row label (Del k) rows) (edited_dict (Del k) refl) ∙ stopped front back label whole k (there_up_to k ∙ gone))
      ∙ ap (λ n. slice_get (named front ++ Inserted ∷ named back) (n + 0)) (sym (length-map front (λ (row : KeyRow). Present row.0)))
      ∙ first_name (named front) (named back))

  pub del_takes : (k : ℤ) → is_there (last_up_to k label rows) ≡ true → option_map (λ l. Present l) (taken_at (first_after k label rows)) ≡ bad_with label (Del k) rows
  del_takes k here =
      sym (ap (option_and_then (slice_get (named front ++ Inserted ∷ named back))) (failure_is (with_row label (Del k) rows) (edited_dict (Del k) refl) ∙ del_between front back label whole k (there_up_to k ∙ here))
      ∙ ap (λ n. option_and_then (slice_get (named front ++ Inserted ∷ named back)) (option_map (λ i. n + i) (option_map suc (first_taken k back)))) (sym (length-map front (λ (row : KeyRow). Present row.0)))
      ∙ further (named front) (named back) (first_taken k back)
      ∙ taken_name (λ l. Present l) k back
      ∙ ap (λ found. option_map (λ l. Present l) (taken_at (first_of found))) (sym (filter_either (is_on k) (λ row. nat_lt label row.0) rows))
      ∙ ap (λ found. option_map (λ l. Present l) (taken_at found)) (sym (find_is (λ row. is_on k row && nat_lt label row.0) rows)))

  pub others_are_good : (op : Op) → kind_of op ≡ Dict → takes_out op ≡ false → None ≡ bad_with label op rows
  others_are_good (Put k v) dict_op stays = put_is_good k v
  others_are_good (Del k) dict_op stays = absurd (cc)
  others_are_good (Enq v) dict_op stays = absurd (cc)
  others_are_good Deq dict_op stays = absurd (cc)
  others_are_good (Push v) dict_op stays = absurd (cc)
  others_are_good Pop dict_op stays = absurd (cc)
  others_are_good (PushL v) dict_op stays = absurd (cc)
  others_are_good (PushR v) dict_op stays = absurd (cc)
  others_are_good PopL dict_op stays = absurd (cc)
  others_are_good PopR dict_op stays = absurd (cc)
  others_are_good (Ins k) dict_op stays = absurd (cc)
  others_are_good DelMin dict_op stays = absurd (cc)

-- all rows, in two parts
pub replays_in_parts : (label : ℕ) (rows : List KeyRow) → AreKeyRows rows → Replays rows → fails nothing (up_to label rows ++ behind label rows) ≡ None
replays_in_parts label rows keyed valid = ap (fails nothing) (parted label rows keyed.rising) ∙ sym (failure_is rows keyed.of_dict) ∙ valid

-- what is no `del` takes no key out
pub stays : (op : Op) → ((k : ℤ) → op ≡ Del k → ⊥) → takes_out op ≡ false
stays (Put k v) other = refl
stays (Del k) other = absurd (other k refl)
stays (Enq v) other = refl
stays Deq other = refl
stays (Push v) other = refl
stays Pop other = refl
stays (PushL v) other = refl
stays (PushR v) other = refl
stays PopL other = refl
stays PopR other = refl
stays (Ins k) other = refl
stays DelMin other = refl
