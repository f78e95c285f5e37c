-- Bounds are in a total order, and a list of entries takes them in either order.
use Rattle.std.proofs.Common.{◌≡◌, ℕ, ◌+◌, ◌⊎◌, inl, inr, true, false, cond, List, [], ◌∷◌, length, refl, ap, sym, ◌∙◌, arith, subst}
use Rattle.retro_base.specs.declared.row.Entry.{Entry}
use Rattle.retro_base.specs.EntriesInOrder.{AreInOrder}
use Rattle.retro_base.specs.State.{comes_before, with_entry}
use Rattle.retro_base.specs.lemmas.bridges.EntryOrder.{before_one_way, before_irreflexive, same_or_other, neither_before}
use Rattle.retro_base.specs.lemmas.bridges.Entries.{In, with_in, in_with, with_first, with_later}
use Rattle.retro_base.specs.lemmas.CountedEntries.{with_length}
use Rattle.pq_fusion.specs.declared.bound.Bound.{Bound}
use Rattle.pq_fusion.specs.declared.bound.Bound.TheVariants.{Low, At, Top}
use Rattle.pq_fusion.specs.Bounds.{is_below, higher, lower, with_bound}
use Rattle.pq_fusion.specs.Pieces.{together}
use Rattle.pq_fusion.proofs.Order.{IsLeast, not_earlier, least_first, order_with, with_either, with_in_first, with_in_second}

pub one_way : (a b : Bound) → is_below a b ≡ true → is_below b a ≡ false
one_way Low Low below = absurd (cc)
one_way Low (At b) below = refl
one_way Low Top below = refl
one_way (At a) Low below = absurd (cc)
one_way (At a) (At b) below = before_one_way a b below
one_way (At a) Top below = refl
one_way Top b below = absurd (cc)

pub not_itself : (a : Bound) → is_below a a ≡ false
not_itself Low = refl
not_itself (At a) = before_irreflexive a
not_itself Top = refl

pub same_bound : (a b : Bound) → is_below a b ≡ false → is_below b a ≡ false → a ≡ b
same_bound Low Low first second = refl
same_bound Low (At b) first second = absurd (cc)
same_bound Low Top first second = absurd (cc)
same_bound (At a) Low first second = absurd (cc)
same_bound (At a) (At b) first second = ap At (neither_before a b first second)
same_bound (At a) Top first second = absurd (cc)
same_bound Top Low first second = absurd (cc)
same_bound Top (At b) first second = absurd (cc)
same_bound Top Top first second = refl

pub further : (a b c : Bound) → is_below b a ≡ false → is_below c b ≡ false → is_below c a ≡ false
further Low b Low first second = refl
further Low b (At c) first second = refl
further Low b Top first second = refl
further (At a) Low c first second = absurd (cc)
further (At a) (At b) Low first second = absurd (cc)
further (At a) (At b) (At c) first second = not_earlier a b c first second
further (At a) (At b) Top first second = refl
further (At a) Top Low first second = absurd (cc)
further (At a) Top (At c) first second = absurd (cc)
further (At a) Top Top first second = refl
further Top Low c first second = absurd (cc)
further Top (At b) c first second = absurd (cc)
further Top Top Low first second = absurd (cc)
further Top Top (At c) first second = absurd (cc)
further Top Top Top first second = refl

-- the greater and the lesser of two
pub higher_first : (a b : Bound) → is_below a b ≡ false → higher a b ≡ a
higher_first a b after = rw after refl

pub higher_second : (a b : Bound) → is_below b a ≡ false → higher a b ≡ b
higher_second a b after = elim (is_below a b) as (λ t. is_below a b ≡ t → cond t b a ≡ b) [
  | true ↦ λ before. refl
  | false ↦ λ none. same_bound a b none after
] refl

pub lower_first : (a b : Bound) → is_below b a ≡ false → lower a b ≡ a
lower_first a b after = rw after refl

pub lower_second : (a b : Bound) → is_below a b ≡ false → lower a b ≡ b
lower_second a b after = elim (is_below b a) as (λ t. is_below b a ≡ t → cond t b a ≡ b) [
  | true ↦ λ before. refl
  | false ↦ λ none. same_bound a b after none
] refl

pub higher_above : (a b : Bound) → is_below (higher a b) a ≡ false
higher_above a b = elim (is_below a b) as (λ t. is_below a b ≡ t → is_below (cond t b a) a ≡ false) [
  | true ↦ λ before. one_way a b before
  | false ↦ λ after. not_itself a
] refl

-- the greatest of three, in whatever order
pub higher_low : (b : Bound) → higher Low b ≡ b
higher_low Low = refl
higher_low (At e) = refl
higher_low Top = refl

higher_is : (a b c : Bound) → is_below c a ≡ false → is_below c b ≡ false → (c ≡ a) ⊎ (c ≡ b) → c ≡ higher a b
higher_is a b c above_first above_second (inl same) = same ∙ sym (higher_first a b (subst (λ d. is_below d b ≡ false) same above_second))
higher_is a b c above_first above_second (inr same) = same ∙ sym (higher_second a b (subst (λ d. is_below d a ≡ false) same above_first))

higher_over : (a b : Bound) → is_below (higher a b) b ≡ false
higher_over a b = elim (is_below a b) as (λ t. is_below a b ≡ t → is_below (cond t b a) b ≡ false) [
  | true ↦ λ before. not_itself b
  | false ↦ λ after. after
] refl

one_of_both : (a b : Bound) → (higher a b ≡ a) ⊎ (higher a b ≡ b)
one_of_both a b = elim (is_below a b) as (λ t. (cond t b a ≡ a) ⊎ (cond t b a ≡ b)) [ true ↦ inr refl | false ↦ inl refl ]

pub higher_turned : (a b : Bound) → higher a b ≡ higher b a
higher_turned a b = higher_is b a (higher a b) (higher_over a b) (higher_above a b) (elim (one_of_both a b) [ inl same ↦ inr same | inr same ↦ inl same ])

pub higher_joined : (a b c : Bound) → higher a (higher b c) ≡ higher (higher a b) c
higher_joined a b c =
    let all = higher a (higher b c) in
    let over_first : is_below all a ≡ false = higher_above a (higher b c) in
    let over_rest : is_below all (higher b c) ≡ false = higher_over a (higher b c) in
    let over_second : is_below all b ≡ false = further b (higher b c) all (higher_above b c) over_rest in
    let over_third : is_below all c ≡ false = further c (higher b c) all (higher_over b c) over_rest in
    let over_both : is_below all (higher a b) ≡ false = elim (one_of_both a b) [
      | inl same ↦ subst (λ d. is_below all d ≡ false) (sym same) over_first
      | inr same ↦ subst (λ d. is_below all d ≡ false) (sym same) over_second
    ] in
    higher_is (higher a b) c all over_both over_third (elim (one_of_both a (higher b c)) [
      | inl first ↦ inl (first ∙ higher_is a b a (not_itself a) (subst (λ d. is_below d b ≡ false) first over_second) (inl refl))
      | inr rest ↦ elim (one_of_both b c) [
        | inl second ↦
            let is : all ≡ b = rest ∙ second in
            inl (is ∙ higher_is a b b (subst (λ d. is_below d a ≡ false) is over_first) (not_itself b) (inr refl))
        | inr third ↦ inr (rest ∙ third)
      ]
    ])

pub above_low : (a b : Bound) → is_below Low a ≡ true → is_below b a ≡ false → is_below Low b ≡ true
above_low Low b some above = absurd (cc)
above_low (At a) Low some above = absurd (cc)
above_low (At a) (At b) some above = refl
above_low (At a) Top some above = refl
above_low Top Low some above = absurd (cc)
above_low Top (At b) some above = refl
above_low Top Top some above = refl

-- of three, where the first is no greater than the second: clamped to what lies between them
module _ (own x t : Bound) (order : is_below x own ≡ false) where
  pub between : ((higher own (lower x t) ≡ x) × (higher own t ≡ higher x t)) ⊎ ((higher own (lower x t) ≡ higher own t) × (higher x t ≡ x))
  between = elim (is_below t x) as (λ b. is_below t x ≡ b → ((higher own (lower x t) ≡ x) × (higher own t ≡ higher x t)) ⊎ ((higher own (lower x t) ≡ higher own t) × (higher x t ≡ x))) [
    | true ↦ λ before. let least = lower_second x t (one_way t x before) in inr (ap (higher own) least, higher_first x t (one_way t x before))
    | false ↦ λ after.
        inl (ap (higher own) (lower_first x t after) ∙ higher_second own x order, higher_second own t (further own x t order after) ∙ sym (higher_second x t after))
  ] refl

  pub either_clamped : higher own (lower x t) ≡ lower x (higher own t)
  either_clamped = elim (is_below t x) as (λ b. is_below t x ≡ b → higher own (lower x t) ≡ lower x (higher own t)) [
    | true ↦ λ before. ap (higher own) (lower_second x t (one_way t x before)) ∙ sym (lower_second x (higher own t) (clamped_above (one_way t x before)))
    | false ↦ λ after.
        ap (higher own) (lower_first x t after) ∙ higher_second own x order
        ∙ sym (ap (lower x) (higher_second own t (further own x t order after)) ∙ lower_first x t after)
  ] refl
    where
      clamped_above : is_below x t ≡ false → is_below x (higher own t) ≡ false
      clamped_above below = elim (is_below own t) as (λ b. is_below x (cond b t own) ≡ false) [ true ↦ below | false ↦ order ]

-- a list takes two in either order
pub bound_either : (a b : Bound) (xs : List Entry) → with_bound a (with_bound b xs) ≡ with_bound b (with_bound a xs)
bound_either Low b xs = refl
bound_either (At a) Low xs = refl
bound_either (At a) (At b) xs = with_either a b xs
bound_either (At a) Top xs = refl
bound_either Top b xs = refl

pub bound_in_first : (b : Bound) (xs ys : List Entry) → together (with_bound b xs) ys ≡ with_bound b (together xs ys)
bound_in_first Low xs ys = refl
bound_in_first (At e) xs ys = with_in_first e xs ys
bound_in_first Top xs ys = refl

pub bound_in_second : (b : Bound) (xs ys : List Entry) → together xs (with_bound b ys) ≡ with_bound b (together xs ys)
bound_in_second Low xs ys = refl
bound_in_second (At e) xs ys = with_in_second e xs ys
bound_in_second Top xs ys = refl

pub order_bound : (b : Bound) (xs : List Entry) → AreInOrder xs → AreInOrder (with_bound b xs)
order_bound Low xs order = order
order_bound (At e) xs order = order_with e xs order
order_bound Top xs order = order

-- how many entries a bound is
abbrev pub entries_in : Bound → ℕ
entries_in Low = 0
entries_in (At e) = 1
entries_in Top = 0

abbrev pub lows : Bound → ℕ
lows Low = 1
lows (At e) = 0
lows Top = 0

pub length_bound : (b : Bound) (xs : List Entry) → length (with_bound b xs) ≡ entries_in b + length xs
length_bound Low xs = omega arith
length_bound (At e) xs = omega (arith, with_length e xs)
length_bound Top xs = omega arith

-- what one entry was put into is known again
with_long : (e y : Entry) (ys : List Entry) → e ∷ [] ≡ with_entry e (y ∷ ys) → ⊥
with_long e y ys same = absurd (omega (arith, ap length same, with_length e (y ∷ ys)))

taken_first : (e x y : Entry) (xs ys : List Entry) → AreInOrder (y ∷ ys) → comes_before e y ≡ false → e ∷ x ∷ xs ≡ y ∷ with_entry e ys → x ∷ xs ≡ y ∷ ys
taken_first e x y xs ys order after same =
    let one : e ≡ y = cc in
    let rest : x ∷ xs ≡ with_entry e ys = cc in
    rest ∙ ap (λ d. with_entry d ys) one ∙ least_first y ys order.0

with_cancel : (e : Entry) (xs ys : List Entry) → AreInOrder xs → AreInOrder ys → with_entry e xs ≡ with_entry e ys → xs ≡ ys
with_cancel e [] [] first second same = refl
with_cancel e [] (y ∷ ys) first second same = absurd (with_long e y ys same)
with_cancel e (x ∷ xs) [] first second same = absurd (with_long e x xs (sym same))
with_cancel e (x ∷ xs) (y ∷ ys) first second same =
    elim (comes_before e x) as (λ s. comes_before e x ≡ s → x ∷ xs ≡ y ∷ ys) [
      | true ↦ λ x_later. elim (comes_before e y) as (λ t. comes_before e y ≡ t → x ∷ xs ≡ y ∷ ys) [
        | true ↦ λ y_later.
            let both : e ∷ x ∷ xs ≡ e ∷ y ∷ ys = sym (with_first e x xs x_later) ∙ same ∙ with_first e y ys y_later in cc
        | false ↦ λ y_first. taken_first e x y xs ys second y_first (sym (with_first e x xs x_later) ∙ same ∙ with_later e y ys y_first)
      ] refl
      | false ↦ λ x_first. elim (comes_before e y) as (λ t. comes_before e y ≡ t → x ∷ xs ≡ y ∷ ys) [
        | true ↦ λ y_later. sym (taken_first e y x ys xs first x_first (sym (with_first e y ys y_later) ∙ sym same ∙ with_later e x xs x_first))
        | false ↦ λ y_first.
            let both : x ∷ with_entry e xs ≡ y ∷ with_entry e ys = sym (with_later e x xs x_first) ∙ same ∙ with_later e y ys y_first in
            let head : x ≡ y = cc in
            let rest : with_entry e xs ≡ with_entry e ys = cc in
            ap (λ d. d ∷ xs) head ∙ ap (λ l. y ∷ l) (with_cancel e xs ys first.1 second.1 rest)
      ] refl
    ] refl

pub cancel : (b : Bound) (xs ys : List Entry) → AreInOrder xs → AreInOrder ys → with_bound b xs ≡ with_bound b ys → xs ≡ ys
cancel Low xs ys first second same = same
cancel (At e) xs ys first second same = with_cancel e xs ys first second same
cancel Top xs ys first second same = same

-- a rising list is that of the others with any one of its entries
pub record Without (e : Entry) (xs : List Entry) : Type 0 where
  pub others : List Entry
  pub order : AreInOrder others
  pub is : xs ≡ with_entry e others

least_without : (x e : Entry) (xs : List Entry) → IsLeast x (with_entry e xs) → IsLeast x xs × (comes_before e x ≡ false)
least_without x e [] least = (tt, least.0)
least_without x e (y ∷ ys) least = elim (comes_before e y) as (λ t. IsLeast x (cond t (e ∷ y ∷ ys) (y ∷ with_entry e ys)) → IsLeast x (y ∷ ys) × (comes_before e x ≡ false)) [
  | true ↦ λ all. (all.1, all.0)
  | false ↦ λ all. let rest = least_without x e ys all.1 in ((all.0, rest.0), rest.1)
] least

pub pulled : (e : Entry) (xs : List Entry) → AreInOrder xs → In e xs → Without e xs
pulled e [] order inside = absurd inside
pulled e (x ∷ xs) order inside = elim inside [
  | inl same ↦ record { others = xs; order = order.1; is = sym (ap (λ d. with_entry d xs) same ∙ least_first x xs order.0) }
  | inr further ↦
      let rest = pulled e xs order.1 further in
      let least = least_without x e rest.others (subst (IsLeast x) rest.is order.0) in
      record {
        others = x ∷ rest.others;
        order = (least.0, rest.order);
        is = ap (λ l. x ∷ l) rest.is ∙ sym (with_later e x rest.others least.1);
      }
]

-- two lists that are one with one entry more each: they are the same, or either has the other's entry
pub record IsExchanged (own x : Bound) (xs ys : List Entry) : Type 0 where
  pub others : List Entry
  pub order : AreInOrder others
  pub first : xs ≡ with_bound x others
  pub second : ys ≡ with_bound own others

pub exchanged : (own x : Bound) (xs ys : List Entry) → AreInOrder xs → AreInOrder ys → is_below own Top ≡ true → is_below Low x ≡ true
    → with_bound own xs ≡ with_bound x ys → ((own ≡ x) × (xs ≡ ys)) ⊎ IsExchanged own x xs ys
exchanged own Low xs ys first second no_top some same = absurd (cc)
exchanged Top (At e) xs ys first second no_top some same = absurd (cc)
exchanged Top Top xs ys first second no_top some same = absurd (cc)
exchanged Low (At e) xs ys first second no_top some same = inr (record { others = ys; order = second; first = same; second = refl })
exchanged Low Top xs ys first second no_top some same = inr (record { others = ys; order = second; first = same; second = refl })
exchanged (At o) Top xs ys first second no_top some same = inr (record { others = xs; order = first; first = refl; second = sym same })
exchanged (At o) (At e) xs ys first second no_top some same = elim (same_or_other o e) [
  | inl one ↦ inl (ap At one, with_cancel o xs ys first second (same ∙ ap (λ d. with_entry d ys) (sym one)))
  | inr other ↦
      let inside : In e (with_entry o xs) = subst (In e) (sym same) (with_in e e ys (inl refl)) in
      let there : In e xs = elim (in_with o e xs inside) [ inl one ↦ absurd (other (sym one)) | inr further ↦ further ] in
      let rest = pulled e xs first there in
      inr (record {
        others = rest.others;
        order = rest.order;
        first = rest.is;
        second = sym (with_cancel e (with_entry o rest.others) ys (order_with o rest.others rest.order) second
            (with_either e o rest.others ∙ ap (with_entry o) (sym rest.is) ∙ same));
      })
]
