-- A row more ends one lifetime of those that begin before it, and leaves all others as they are.
use Rattle.std.proofs.Common.{◌≡◌, ℕ, ℤ, false, cond, Option, Some, None, List, [], ◌∷◌, ◌++◌, refl, sym, ap, ◌∙◌, arith, subst, inl, inr, append_assoc}
use Rattle.std.specs.List.{filter}
use Rattle.std.specs.Option.{option_or, option_and_then}
use Rattle.std.specs.Ordering.{int_eq}
use Rattle.std.proofs.lemmas.Bool.{cases_Bool}
use Rattle.std.proofs.lemmas.Bool.Decides.{Decides-int_eq}
use Rattle.std.proofs.lemmas.Cmp.{int_eq_equiv}
use Rattle.retro_base.specs.declared.op.Op.{Op}
use Rattle.retro_base.specs.declared.op.Op.TheVariants.{Enq, Deq, Push, Pop, PushL, PushR, PopL, PopR, Put, Del, Ins, DelMin}
use Rattle.key_index.specs.KeyRows.{KeyRow, key_of, is_on, last_of}
use Rattle.lifetime_segments.specs.declared.lifetime.Lifetime.{Lifetime}
use Rattle.lifetime_segments.specs.Lifetimes.{lifetime}
use Rattle.retro_dictionary.specs.Lifetimes.{end_of, put_by, begun, lifetimes_of}
use Rattle.retro_dictionary.specs.Changes.{placed_by, up_to_label}
use Rattle.retro_dictionary.proofs.AsMany.{HaveSameItems, count-append, same-refl, same-append}

-- the last row on a key
abbrev pub last_on : ℤ → List KeyRow → Option KeyRow
last_on key rows = last_of (filter (is_on key) rows)

-- a pair is put under the key of the row
pub put_key : (op : Op) (pair : ℤ × ℤ) → put_by op ≡ Some pair → key_of op ≡ pair.0
put_key (Put key value) pair puts = ap key_first puts where
  key_first : Option (ℤ × ℤ) → ℤ
  key_first None = key
  key_first (Some p) = p.0
put_key (Del key) pair puts = absurd (cc)
put_key (Enq v) pair puts = absurd (cc)
put_key Deq pair puts = absurd (cc)
put_key (Push v) pair puts = absurd (cc)
put_key Pop pair puts = absurd (cc)
put_key (PushL v) pair puts = absurd (cc)
put_key (PushR v) pair puts = absurd (cc)
put_key PopL pair puts = absurd (cc)
put_key PopR pair puts = absurd (cc)
put_key (Ins k) pair puts = absurd (cc)
put_key DelMin pair puts = absurd (cc)

-- the lifetimes that rows begin before others
abbrev pub fronts : List KeyRow → List KeyRow → List (Lifetime (ℤ × ℤ))
fronts [] after = []
fronts (row ∷ front) after = begun row.0 (put_by row.1) (front ++ after) ++ fronts front after

pub lifetimes-append : (front after : List KeyRow) → lifetimes_of (front ++ after) ≡ fronts front after ++ lifetimes_of after
lifetimes-append [] after = refl
lifetimes-append (row ∷ front) after =
    ap (λ ls. begun row.0 (put_by row.1) (front ++ after) ++ ls) (lifetimes-append front after) ∙ sym (append_assoc (begun row.0 (put_by row.1) (front ++ after)) (fronts front after) (lifetimes_of after))

-- a lifetime ends alike where a row on its key stands in front
none_later : {A : Type 0} (o : Option A) (x : A) → option_or o (Some x) ≡ None → ⊥
none_later None x is = cc
none_later (Some y) x is = cc

end-found : (key : ℤ) (front xs ys : List KeyRow) (row : KeyRow) → last_on key front ≡ Some row → end_of key (front ++ xs) ≡ end_of key (front ++ ys)
end-found key [] xs ys row found = absurd (cc)
end-found key (first ∷ front) xs ys row found = elim (cases_Bool (is_on key first)) [
  | inl on ↦ rw on refl
  | inr off ↦
      let rest : last_on key front ≡ Some row = sym (ap (λ b. last_of (cond b (first ∷ filter (is_on key) front) (filter (is_on key) front))) off) ∙ found in
      rw off (end-found key front xs ys row rest)
]

-- and where none does, at the next one after
pub end-after : (key : ℤ) (front xs : List KeyRow) → last_on key front ≡ None → end_of key (front ++ xs) ≡ end_of key xs
end-after key [] xs none = refl
end-after key (first ∷ front) xs none = elim (cases_Bool (is_on key first)) [
  | inl on ↦ absurd (none_later (last_on key front) first (sym (ap (λ b. last_of (cond b (first ∷ filter (is_on key) front) (filter (is_on key) front))) on) ∙ none))
  | inr off ↦
      let rest : last_on key front ≡ None = sym (ap (λ b. last_of (cond b (first ∷ filter (is_on key) front) (filter (is_on key) front))) off) ∙ none in
      rw off (end-after key front xs rest)
]

-- a row on another key ends nothing
end-other : (key : ℤ) (front : List KeyRow) (row : KeyRow) (after : List KeyRow) → is_on key row ≡ false → end_of key (front ++ row ∷ after) ≡ end_of key (front ++ after)
end-other key [] row after off = rw off refl
end-other key (first ∷ front) row after off = ap (λ n. cond (is_on key first) first.0 n) (end-other key front row after off)

module _ (new : KeyRow) (after : List KeyRow) where
  abbrev k : ℤ
  k = key_of new.1

  -- the pair whose lifetime the row ends, and all else
  pub record IsEnded (front : List KeyRow) (left : Option KeyRow) : Type 0 where
    pub others : List (Lifetime (ℤ × ℤ))
    pub without_row : HaveSameItems (fronts front after) (up_to_label (option_and_then placed_by left) (end_of k after) ++ others)
    pub with_row : HaveSameItems (fronts front (new ∷ after)) (up_to_label (option_and_then placed_by left) new.0 ++ others)

  begun-same : (from : ℕ) (put : Option (ℤ × ℤ)) (front : List KeyRow) → ((pair : ℤ × ℤ) → put ≡ Some pair → end_of pair.0 (front ++ new ∷ after) ≡ end_of pair.0 (front ++ after))
      → begun from put (front ++ new ∷ after) ≡ begun from put (front ++ after)
  begun-same from None front same = refl
  begun-same from (Some pair) front same = ap (λ n. lifetime from n pair ∷ []) (same pair refl)

  -- a row whose lifetime stays as it was
  kept : (row : KeyRow) (front : List KeyRow) (left : Option KeyRow) → begun row.0 (put_by row.1) (front ++ new ∷ after) ≡ begun row.0 (put_by row.1) (front ++ after) → IsEnded front left → IsEnded (row ∷ front) left
  kept row front left same ended =
      let own = begun row.0 (put_by row.1) (front ++ after) in
      record {
        others = own ++ ended.others;
        without_row = among own (fronts front after) (up_to_label (option_and_then placed_by left) (end_of k after)) ended.others ended.without_row;
        with_row = rw same (among own (fronts front (new ∷ after)) (up_to_label (option_and_then placed_by left) new.0) ended.others ended.with_row);
      } where
        among : (own all one others : List (Lifetime (ℤ × ℤ))) → HaveSameItems all (one ++ others) → HaveSameItems (own ++ all) (one ++ (own ++ others))
        among own all one others is = record {
          as_many = λ test.
              omega (
                arith,
                is.as_many test,
                count-append test own all,
                count-append test one others,
                count-append test own others,
                count-append test one (own ++ others),
              );
        }

  -- the last row on the key of the new one
  ends_by : (row : KeyRow) (front : List KeyRow) (put : Option (ℤ × ℤ)) → put_by row.1 ≡ put → key_of row.1 ≡ k → last_on k front ≡ None → IsEnded front None → IsEnded (row ∷ front) (Some row)
  ends_by row front None puts on none ended = record {
    others = ended.others;
    without_row = rw puts ended.without_row;
    with_row = rw puts ended.with_row;
  }
  ends_by row front (Some pair) puts on none ended =
      let same_key : pair.0 ≡ k = sym (put_key row.1 pair puts) ∙ on in
      let ends : end_of pair.0 (front ++ after) ≡ end_of k after = ap (λ key. end_of key (front ++ after)) same_key ∙ end-after k front after none in
      let ends_here : end_of pair.0 (front ++ new ∷ after) ≡ new.0 = ap (λ key. end_of key (front ++ new ∷ after)) same_key ∙ end-after k front (new ∷ after) none
      ∙ ap (λ b. cond b new.0 (end_of k after)) (int_eq_equiv.refl k) in
      record {
        others = ended.others;
        without_row = rw puts (rw ends (same-append (lifetime row.0 (end_of k after) pair ∷ []) (lifetime row.0 (end_of k after) pair ∷ [])
            (fronts front after) ended.others (same-refl (lifetime row.0 (end_of k after) pair ∷ [])) ended.without_row));
        with_row = rw puts (rw ends_here (same-append (lifetime row.0 new.0 pair ∷ []) (lifetime row.0 new.0 pair ∷ []) (fronts front (new ∷ after)) ended.others (same-refl (lifetime row.0 new.0 pair ∷ [])) ended.with_row));
      }

  -- a row on the key, with another one on it after
  ends_on : (row : KeyRow) (front : List KeyRow) (last : Option KeyRow) → last_on k front ≡ last → key_of row.1 ≡ k → IsEnded front last → IsEnded (row ∷ front) (option_or last (Some row))
  ends_on row front None is on ended = ends_by row front (put_by row.1) refl on is ended
  ends_on row front (Some later) is on ended =
      kept row front (Some later) (begun-same row.0 (put_by row.1) front (λ pair puts.
      let same_key : pair.0 ≡ k = sym (put_key row.1 pair puts) ∙ on in
      rw same_key (end-found k front (new ∷ after) after later is))) ended

  pub ends_one : (front : List KeyRow) → IsEnded front (last_on k front)
  ends_one [] = record { others = []; without_row = same-refl []; with_row = same-refl [] }
  ends_one (row ∷ front) = elim (cases_Bool (is_on k row)) [
    | inl on ↦
        subst (IsEnded (row ∷ front)) (sym (ap (λ b. last_of (cond b (row ∷ filter (is_on k) front) (filter (is_on k) front))) on))
        (ends_on row front (last_on k front) refl ((Decides-int_eq (key_of row.1) k).0 on) (ends_one front))
    | inr off ↦
        subst (IsEnded (row ∷ front)) (sym (ap (λ b. last_of (cond b (row ∷ filter (is_on k) front) (filter (is_on k) front))) off))
        (kept row front (last_on k front) (begun-same row.0 (put_by row.1) front (λ pair puts.
        end-other pair.0 front new after (ap (int_eq k) (sym (put_key row.1 pair puts)) ∙ (int_eq_equiv.symm k (key_of row.1) ∙ off)))) (ends_one front))
  ]

  -- the lifetimes with the row and without it
  pub record IsEdited (front : List KeyRow) : Type 0 where
    pub others : List (Lifetime (ℤ × ℤ))
    pub without_row : HaveSameItems (lifetimes_of (front ++ after)) (up_to_label (option_and_then placed_by (last_on k front)) (end_of k after) ++ others)
    pub with_row : HaveSameItems (lifetimes_of (front ++ new ∷ after)) (up_to_label (option_and_then placed_by (last_on k front)) new.0 ++ (begun new.0 (put_by new.1) after ++ others))

  pub edited : (front : List KeyRow) → IsEdited front
  edited front =
      let part = ends_one front in
      let left = option_and_then placed_by (last_on k front) in
      record {
        others = part.others ++ lifetimes_of after;
        without_row = rw (lifetimes-append front after) (record {
          as_many = λ test.
              omega (
                arith,
                part.without_row.as_many test,
                count-append test (fronts front after) (lifetimes_of after),
                count-append test (up_to_label left (end_of k after)) part.others,
                count-append test part.others (lifetimes_of after),
                count-append test (up_to_label left (end_of k after)) (part.others ++ lifetimes_of after),
              );
        });
        with_row = rw (lifetimes-append front (new ∷ after)) (record {
          as_many = λ test.
              omega (
                arith,
                part.with_row.as_many test,
                count-append test (fronts front (new ∷ after)) (begun new.0 (put_by new.1) after ++ lifetimes_of after),
                count-append test (begun new.0 (put_by new.1) after) (lifetimes_of after),
                count-append test (up_to_label left new.0) part.others,
                count-append test part.others (lifetimes_of after),
                count-append test (begun new.0 (put_by new.1) after) (part.others ++ lifetimes_of after),
                count-append test (up_to_label left new.0) (begun new.0 (put_by new.1) after ++ (part.others ++ lifetimes_of after)),
              );
        });
      }
