-- What leads from one state to another, one after another.
use Rattle.std.proofs.Common.{◌≡◌, ℕ, zero, suc, ◌-◌, List, [], ◌∷◌, ◌++◌, length, take, drop, map, reverse, slice_get, Some, refl, sym, subst, arith}
use Rattle.std.proofs.lemmas.List.{reverse-append}

module _ {S X : Type 0} (Goes : S → X → S → Type 0) where
  -- the first of them leads to a state from which the others lead on
  abbrev pub Leads : S → List X → S → Type 0
  Leads from [] to = from ≡ to
  Leads from (x ∷ xs) to = (middle : S) × Goes from x middle × Leads middle xs to

  pub leads-append : (xs ys : List X) (from middle to : S) → Leads from xs middle → Leads middle ys to → Leads from (xs ++ ys) to
  leads-append [] ys from middle to first second = subst (λ s. Leads s ys to) (sym first) second
  leads-append (x ∷ xs) ys from middle to first second = (first.0, first.1, leads-append xs ys first.0 middle to first.2 second)

  pub leads_one : (x : X) (from to : S) → Goes from x to → Leads from (x ∷ []) to
  leads_one x from to goes = (to, goes, refl)

  pub leads_more : (xs : List X) (x : X) (from middle to : S) → Leads from xs middle → Goes middle x to → Leads from (xs ++ x ∷ []) to
  leads_more xs x from middle to first goes = leads-append xs (x ∷ []) from middle to first (leads_one x middle to goes)

  -- without some of the first ones
  pub leads_later : (n : ℕ) (xs : List X) (from to : S) → Leads from xs to → (start : S) × Leads start (drop n xs) to
  leads_later zero xs from to leads = (from, leads)
  leads_later (suc n) [] from to leads = (from, leads)
  leads_later (suc n) (x ∷ xs) from to leads = leads_later n xs leads.0 to leads.2

  -- the last one of some, with the state that the others lead to
  pub record HasLast (from : S) (others : List X) (x : X) (to : S) : Type 0 where
    pub middle : S
    pub leads : Leads from others middle
    pub goes : Goes middle x to

  pub leads_last : (xs : List X) (x : X) (from to : S) → slice_get xs (length xs - 1) ≡ Some x → Leads from xs to → HasLast from (take (length xs - 1) xs) x to
  leads_last [] x from to last leads = absurd (cc)
  leads_last (y ∷ []) x from to last leads =
      let same : y ≡ x = cc in
      record { middle = from; leads = refl; goes = subst (λ z. Goes from z to) same (subst (λ s. Goes from y s) leads.2 leads.1) }
  leads_last (y ∷ z ∷ zs) x from to last leads =
      let one_more : length (y ∷ z ∷ zs) - 1 ≡ suc (length (z ∷ zs) - 1) = omega arith in
      let there : slice_get (z ∷ zs) (length (z ∷ zs) - 1) ≡ Some x = subst (λ n. slice_get (y ∷ z ∷ zs) n ≡ Some x) one_more last in
      let rest = leads_last (z ∷ zs) x leads.0 to there leads.2 in
      subst (λ n. HasLast from (take n (y ∷ z ∷ zs)) x to) (sym one_more) (record { middle = rest.middle; leads = (leads.0, leads.1, rest.leads); goes = rest.goes })

  -- back again
  pub leads_back : (back : X → X) → ((from to : S) (x : X) → Goes from x to → Goes to (back x) from)
      → (xs : List X) (from to : S) → Leads from xs to → Leads to (reverse (map back xs)) from
  leads_back back each [] from to leads = sym leads
  leads_back back each (x ∷ xs) from to leads =
      subst (λ ys. Leads to ys from) (sym (reverse-append (back x ∷ []) (map back xs)))
      (leads_more (reverse (map back xs)) (back x) to leads.0 from (leads_back back each xs leads.0 to leads.2) (each from leads.0 x leads.1))

-- where each of them leads so in another way
pub leads_so : {S X : Type 0} (Goes Other : S → X → S → Type 0) → ((from to : S) (x : X) → Goes from x to → Other from x to)
    → (xs : List X) (from to : S) → Leads Goes from xs to → Leads Other from xs to
leads_so Goes Other each [] from to leads = leads
leads_so Goes Other each (x ∷ xs) from to leads = (leads.0, each from leads.0 x leads.1, leads_so Goes Other each xs leads.0 to leads.2)
