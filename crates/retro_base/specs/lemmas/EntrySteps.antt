-- Entries in their order: where one more has its place, and what the operations and questions come to.
use Rattle.std.proofs.Common.{◌≡◌, ◌≢◌, ℕ, ℤ, zero, suc, ◌<◌, ◌≤◌, Bool, true, false, cond, List, [], ◌∷◌, length, IsSome, inl, inr, refl, sym, ◌∙◌, ap, arith, Option, Some, None}
use Rattle.std.specs.Prelude.{slice_index_or, ◌||◌, ◌==◌, not, is_some}
use Rattle.std.proofs.lemmas.Bool.{ne_eqb}
use Rattle.std.specs.List.{AllByRecursion, AllWithin, insert, slice_get}
use Rattle.std.specs.List.Sorted.{IsPartitionedBy}
use Rattle.retro_base.specs.declared.op.Op.{Op}
use Rattle.retro_base.specs.declared.op.Op.TheVariants.{Ins, DelMin}
use Rattle.retro_base.specs.declared.question.Question.{Question}
use Rattle.retro_base.specs.declared.question.Question.TheVariants.{Size, Min, Nth}
use Rattle.retro_base.specs.declared.question.Answer.TheVariants.{Nothing}
use Rattle.retro_base.specs.declared.row.Entry.{Entry}
use Rattle.retro_base.specs.Answers.{answer_of}
use Rattle.retro_base.specs.Bridges.{is_among, same_entry}
use Rattle.retro_base.specs.EntriesInOrder.{AreInOrder}
use Rattle.retro_base.specs.State.{entries, perform, comes_before, with_entry}
use Rattle.retro_base.specs.OrderLaws.{all_weaker}
use Rattle.retro_base.specs.lemmas.bridges.EntryOrder.{before_irreflexive, before_one_way, front_before, before_or_after, same_or_other, same_entry-refl, not_same}
use Rattle.retro_base.specs.lemmas.bridges.Entries.{with_first, with_later, not_before}

-- what does not come before an entry does not come before a lesser one
pub after_lesser : (y x e : Entry) → comes_before y x ≡ false → comes_before e x ≡ true → comes_before y e ≡ false
after_lesser y x e after lesser = not_before e y x lesser after

all_get : (P : Entry → Type 0) (xs : List Entry) (i : ℕ) (d : Entry) → AllByRecursion P xs → i < length xs → P (slice_index_or xs i d)
all_get P [] i d all within = absurd (omega arith)
all_get P (x ∷ xs) zero d all within = all.0
all_get P (x ∷ xs) (suc i) d all within = all_get P xs i d all.1 (omega arith)

-- those that come before an entry stand in front
pub partitioned : (e : Entry) (xs : List Entry) → AreInOrder xs → IsPartitionedBy (λ y. comes_before y e) xs
partitioned e [] order i j d up within before = absurd (omega arith)
partitioned e (x ∷ xs) order zero zero d up within before = before
partitioned e (x ∷ xs) order zero (suc j) d up within before =
    front_before (slice_index_or xs j d) x e (all_get (λ y. comes_before y x ≡ false) xs j d order.0 (omega arith)) before
partitioned e (x ∷ xs) order (suc i) zero d up within before = absurd (omega arith)
partitioned e (x ∷ xs) order (suc i) (suc j) d up within before = partitioned e xs order.1 i j d (omega arith) (omega arith) before

-- it is among them where the first that does not come before it is this entry
abbrev pub is_it : Entry → Option Entry → Bool
is_it e None = false
is_it e (Some x) = same_entry e x

none_of : (e x : Entry) (xs : List Entry) → AllByRecursion (λ y. comes_before y x ≡ false) xs → comes_before e x ≡ true → is_among xs e ≡ false
none_of e x [] order lesser = refl
none_of e x (y ∷ ys) order lesser =
    let other : e ≢ y = λ same. let wrong : true ≡ false = sym lesser ∙ rw (← same) at order.0 in absurd (cc) in
    rw (not_same e y other) (none_of e x ys order.1 lesser)

not_later : (e x : Entry) (xs : List Entry) → AllByRecursion (λ y. comes_before y x ≡ false) xs → comes_before x e ≡ false → is_among (x ∷ xs) e ≡ same_entry e x
not_later e x xs order after = elim (same_entry e x) as (λ b. same_entry e x ≡ b → (b || is_among xs e) ≡ b) [
  | true ↦ λ same. refl
  | false ↦ λ differ.
      none_of e x xs order (before_or_after x e (λ same. let wrong : true ≡ false = sym (same_entry-refl e) ∙ (rw same at differ) in absurd (cc)) after)
] refl

pub found_at : (e : Entry) (xs : List Entry) (i : ℕ) → AreInOrder xs → AllWithin (λ y. comes_before y e ≡ true) xs 0 i
    → AllWithin (λ y. comes_before y e ≡ false) xs i (length xs) → is_it e (slice_get xs i) ≡ is_among xs e
found_at e [] i order before after = refl
found_at e (x ∷ xs) zero order before after = sym (not_later e x xs order.0 (after 0 e (omega arith) (omega arith)))
found_at e (x ∷ xs) (suc i) order before after =
    let lesser : comes_before x e ≡ true = before 0 e (omega arith) (omega arith) in
    let other : e ≢ x = λ same. let wrong : true ≡ false = sym lesser ∙ (rw same (before_irreflexive x)) in absurd (cc) in
    rw (not_same e x other)
    (found_at e xs i order.1 (λ k d low high. before (suc k) d (omega arith) (omega arith)) (λ k d low high. after (suc k) d (omega arith) (omega arith)))

-- an entry before which none comes is the first
none_before : (e : Entry) (xs : List Entry) → AllWithin (λ y. comes_before y e ≡ false) xs 0 (length xs) → with_entry e xs ≡ e ∷ xs
none_before e [] after = refl
none_before e (x ∷ xs) after = elim (same_or_other x e) [
  | inl same ↦
      let rest : with_entry e xs ≡ e ∷ xs = none_before e xs (λ k d low high. after (suc k) d (omega arith) (omega arith)) in
      let later : with_entry e (x ∷ xs) ≡ x ∷ with_entry e xs = with_later e x xs (rw same (before_irreflexive e)) in
      later ∙ ap (λ l. x ∷ l) rest ∙ rw same refl
  | inr other ↦ with_first e x xs (before_or_after x e other (after 0 e (omega arith) (omega arith)))
]

-- so it is put in there
pub put_at : (e : Entry) (xs : List Entry) (i : ℕ) → i ≤ length xs → AllWithin (λ y. comes_before y e ≡ true) xs 0 i
    → AllWithin (λ y. comes_before y e ≡ false) xs i (length xs) → insert xs i e ≡ with_entry e xs
put_at e xs zero within before after = sym (none_before e xs after)
put_at e [] (suc i) within before after = absurd (omega arith)
put_at e (x ∷ xs) (suc i) within before after =
    let first : comes_before x e ≡ true = before 0 e (omega arith) (omega arith) in
    let rest : insert xs i e ≡ with_entry e xs = put_at e xs i (omega arith) (λ k d low high. before (suc k) d (omega arith) (omega arith)) (λ k d low high. after (suc k) d (omega arith) (omega arith)) in
    ap (λ l. x ∷ l) rest ∙ sym (with_later e x xs (before_one_way x e first))

all_with_entry : (P : Entry → Type 0) (e : Entry) (xs : List Entry) → P e → AllByRecursion P xs → AllByRecursion P (with_entry e xs)
all_with_entry P e [] here all = (here, tt)
all_with_entry P e (x ∷ xs) here all = elim (comes_before e x) as (λ b. AllByRecursion P (cond b (e ∷ x ∷ xs) (x ∷ with_entry e xs))) [
  | true ↦ (here, all)
  | false ↦ (all.0, all_with_entry P e xs here all.1)
]

-- and they stay in their order
pub in_order_with : (e : Entry) (xs : List Entry) → AreInOrder xs → AreInOrder (with_entry e xs)
in_order_with e [] order = (tt, tt)
in_order_with e (x ∷ xs) order = elim (comes_before e x) as (λ b. comes_before e x ≡ b → AreInOrder (cond b (e ∷ x ∷ xs) (x ∷ with_entry e xs))) [
  | true ↦ λ first. ((before_one_way e x first, all_weaker (λ y. comes_before y x ≡ false) (λ y. comes_before y e ≡ false) xs (λ y after. after_lesser y x e after first) order.0), order)
  | false ↦ λ later. (all_with_entry (λ y. comes_before y x ≡ false) e xs later order.0, in_order_with e xs order.1)
] refl

-- nothing else can be performed
pub no_operation_of_entries : (op : Op) (number : ℕ) (es : List Entry) → IsSome (perform op number (entries es)) → ((k : ℤ) → op ≡ Ins k → ⊥) → (op ≡ DelMin → ⊥) → ⊥
unfolding perform
no_operation_of_entries (Ins k) n es some ins del = ins k refl
no_operation_of_entries DelMin n es some ins del = del refl
no_operation_of_entries op n es some ins del = absurd (cc)

-- no other question is answered
pub no_other_question : (question : Question) (es : List Entry) → (question ≡ Size → ⊥) → (question ≡ Min → ⊥) → ((n : ℕ) → question ≡ Nth n → ⊥)
    → answer_of (entries es) question ≡ Nothing
unfolding answer_of
no_other_question Size es size min nth = absurd (size refl)
no_other_question Min es size min nth = absurd (min refl)
no_other_question (Nth n) es size min nth = absurd (nth n refl)
no_other_question question es size min nth = refl

-- whether a row can be performed on entries
pub delmin_possible : (op : Op) (number : ℕ) (es : List Entry) → op ≡ DelMin → is_some (perform op number (entries es)) ≡ not (length es == 0)
unfolding perform
delmin_possible op number [] same = rw same refl
delmin_possible op number (x ∷ es) same = rw (same, ne_eqb (length (x ∷ es)) 0 (omega arith)) refl

pub others_impossible_on_entries : (op : Op) (number : ℕ) (es : List Entry) → ((k : ℤ) → op ≡ Ins k → ⊥) → (op ≡ DelMin → ⊥)
    → false ≡ is_some (perform op number (entries es))
others_impossible_on_entries op number es ins del =
    elim (is_some (perform op number (entries es))) as (λ b. is_some (perform op number (entries es)) ≡ b → false ≡ b) [
      | true ↦ λ some. absurd (no_operation_of_entries op number es some ins del)
      | false ↦ λ none. refl
    ] refl
