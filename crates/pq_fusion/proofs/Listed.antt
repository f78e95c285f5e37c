-- The keys of entries, listed one after another.
use Rattle.std.proofs.Common.{◌≡◌, ℕ, ◌+◌, ◌<◌, ◌≤◌, List, [], ◌∷◌, ◌++◌, length, map, drop, get_or, refl, ap, sym, ◌∙◌, arith, append_assoc, length-append}
use Rattle.std.proofs.lemmas.List.{drop_all}
use Rattle.retro_base.specs.declared.question.Item.{Item}
use Rattle.retro_base.specs.declared.question.Item.TheVariants.{Single}
use Rattle.retro_base.specs.declared.row.Entry.{Entry}
use Rattle.pq_fusion.proofs.Merged.{at_place}

abbrev pub keys : List Entry → List Item
keys entries = map (λ entry. Single entry.key) entries

-- so many were listed
pub record IsListed (entries : List Entry) (listing : List Item) (index : ℕ) : Type 0 where
  pub joined : listing ++ keys (drop index entries) ≡ keys entries
  pub counted : length listing ≡ index

pub listing_starts : (entries : List Entry) → IsListed entries [] 0
listing_starts entries = record { joined = refl; counted = refl }

pub listing_more : (entries : List Entry) (listing : List Item) (index : ℕ) (d : Entry) → IsListed entries listing index → index < length entries
    → IsListed entries (listing ++ Single (get_or entries index d).key ∷ []) (index + 1)
listing_more entries listing index d listed within = record {
  joined = append_assoc listing (Single (get_or entries index d).key ∷ []) (keys (drop (index + 1) entries))
      ∙ ap (λ xs. listing ++ keys xs) (sym (at_place entries index d within)) ∙ listed.joined;
  counted = omega (arith, length-append listing (Single (get_or entries index d).key ∷ []), listed.counted);
}

pub listing_ends : (entries : List Entry) (listing : List Item) (index : ℕ) → IsListed entries listing index → length entries ≤ index → listing ≡ keys entries
listing_ends entries listing index listed over =
    all_listed listing ∙ ap (λ xs. listing ++ keys xs) (sym (drop_all index entries over)) ∙ listed.joined
  where
    all_listed : (items : List Item) → items ≡ items ++ []
    all_listed [] = refl
    all_listed (x ∷ xs) = ap (λ l. x ∷ l) (all_listed xs)
