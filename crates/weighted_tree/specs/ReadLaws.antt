-- A read into a list that is as long as what is to be read, where as many items are there.
use Rattle.std.proofs.Common.{◌≡◌, ℕ, ◌-◌, min, List, length, map, take, drop, ap, ◌∙◌, arith, length-drop}
use Rattle.std.proofs.lemmas.List.{take_min}
use Rattle.weighted_tree.specs.Reads.{overwritten}

-- what a read of as many items as fit or are there leaves of a list
abbrev pub after_read : {A B : Type 0} → (A → B) → List A → List B → List B
after_read shows items former = overwritten former 0 (map shows (take (length former) items))

pub read_from : {A B : Type 0} (shows : A → B) (items : List A) (from count : ℕ) (former new : List B) → count ≡ min (length items - from) (length former)
    → new ≡ overwritten former 0 (map shows (take count (drop from items))) → new ≡ after_read shows (drop from items) former
read_from shows items from count former new is written =
    let all : count ≡ min (length former) (length (drop from items)) = omega (arith, length-drop from items) in
    written ∙ ap (λ read. overwritten former 0 (map shows read)) (ap (λ n. take n (drop from items)) all ∙ take_min (length former) (drop from items))
