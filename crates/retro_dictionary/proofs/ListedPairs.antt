-- Pairs that are listed one after another.
use Rattle.std.proofs.Common.{◌≡◌, ℕ, ◌+◌, ◌<◌, ◌≤◌, ℤ, List, [], ◌∷◌, ◌++◌, length, map, drop, get_or, refl, ap, sym, ◌∙◌, arith, append_assoc, append-nil, length-append, drop-cons, add-one}
use Rattle.std.proofs.lemmas.List.{drop_all}
use Rattle.retro_base.specs.declared.question.Item.{Item}
use Rattle.retro_base.specs.declared.question.Item.TheVariants.{Pair}

abbrev pub listing_of : List (ℤ × ℤ) → List Item
listing_of ps = map (λ pair. Pair pair.0 pair.1) ps

-- so many were listed
pub record IsListed (ps : List (ℤ × ℤ)) (listing : List Item) (index : ℕ) : Type 0 where
  pub joined : listing ++ listing_of (drop index ps) ≡ listing_of ps
  pub counted : length listing ≡ index

pub listing_starts : (ps : List (ℤ × ℤ)) → IsListed ps [] 0
listing_starts ps = record { joined = refl; counted = refl }

pub listing_more : (ps : List (ℤ × ℤ)) (listing : List Item) (index : ℕ) (p d : ℤ × ℤ) → IsListed ps listing index → index < length ps → p ≡ get_or ps index d
    → IsListed ps (listing ++ Pair p.0 p.1 ∷ []) (index + 1)
listing_more ps listing index p d listed within is = record {
  joined = append_assoc listing (Pair p.0 p.1 ∷ []) (listing_of (drop (index + 1) ps))
      ∙ ap (λ (q : ℤ × ℤ). listing ++ Pair q.0 q.1 ∷ listing_of (drop (index + 1) ps)) is
      ∙ ap (λ n. listing ++ Pair (get_or ps index d).0 (get_or ps index d).1 ∷ listing_of (drop n ps)) (add-one index)
      ∙ ap (λ qs. listing ++ listing_of qs) (sym (drop-cons ps index d within)) ∙ listed.joined;
  counted = omega (arith, length-append listing (Pair p.0 p.1 ∷ []), listed.counted);
}

pub listing_ends : (ps : List (ℤ × ℤ)) (listing : List Item) (index : ℕ) → IsListed ps listing index → length ps ≤ index → listing ≡ listing_of ps
listing_ends ps listing index listed over =
    sym (append-nil listing) ∙ ap (λ qs. listing ++ listing_of qs) (sym (drop_all index ps over)) ∙ listed.joined
