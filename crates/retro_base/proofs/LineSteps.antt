-- What the operations and questions of a line of items come to, several of them at once.
use Rattle.std.proofs.Common.{◌≡◌, ◌⊎◌, inl, inr, ℕ, ℤ, List, drop, IsSome, refl, Some}
use Rattle.std.specs.List.{slice_get}
use Rattle.retro_base.specs.declared.op.Op.{Op}
use Rattle.retro_base.specs.declared.op.Op.TheVariants.{Deq, Pop, PopL, Put, Del, Ins, DelMin}
use Rattle.retro_base.specs.declared.question.Question.{Question}
use Rattle.retro_base.specs.declared.question.Question.TheVariants.{Front, Back, Top, Left, Right}
use Rattle.retro_base.specs.State.{items, perform}
use Rattle.retro_base.specs.Answers.{answer_of, number_of, last_of}
use Rattle.retro_base.specs.lemmas.CountedSizes.{first_out}

module _ (op : Op) (number : ℕ) (xs : List ℤ) where
  -- the operations that take the first item
  pub first_taken_by : (ys : List ℤ) → (op ≡ Deq) ⊎ ((op ≡ Pop) ⊎ (op ≡ PopL)) → IsSome (perform op number (items xs)) → ys ≡ drop 1 xs
      → perform op number (items xs) ≡ Some (items ys)
  unfolding perform
  first_taken_by ys (inl e) some rest = rw e (first_out items xs ys (rw e at some) rest)
  first_taken_by ys (inr (inl e)) some rest = rw e (first_out items xs ys (rw e at some) rest)
  first_taken_by ys (inr (inr e)) some rest = rw e (first_out items xs ys (rw e at some) rest)

  -- the operations of other kinds cannot be performed
  pub no_operation_of_a_line : ((k : ℤ) × (v : ℤ) × (op ≡ Put k v)) ⊎ (((k : ℤ) × (op ≡ Del k)) ⊎ (((k : ℤ) × (op ≡ Ins k)) ⊎ (op ≡ DelMin)))
      → IsSome (perform op number (items xs)) → ⊥
  unfolding perform
  no_operation_of_a_line (inl h) some = let no = rw h.2 at some in absurd (cc)
  no_operation_of_a_line (inr (inl h)) some = let no = rw h.1 at some in absurd (cc)
  no_operation_of_a_line (inr (inr (inl h))) some = let no = rw h.1 at some in absurd (cc)
  no_operation_of_a_line (inr (inr (inr h))) some = let no = rw h at some in absurd (cc)

module _ (question : Question) (xs : List ℤ) where
  -- the questions about the first item, and about the last one
  pub about_the_first : (question ≡ Front) ⊎ ((question ≡ Top) ⊎ (question ≡ Left)) → answer_of (items xs) question ≡ number_of (slice_get xs 0)
  unfolding answer_of
  about_the_first (inl e) = rw e refl
  about_the_first (inr (inl e)) = rw e refl
  about_the_first (inr (inr e)) = rw e refl

  pub about_the_last : (question ≡ Back) ⊎ (question ≡ Right) → answer_of (items xs) question ≡ number_of (last_of xs)
  unfolding answer_of
  about_the_last (inl e) = rw e refl
  about_the_last (inr e) = rw e refl
