-- The best entry that some rows and others show is the better one of their best.
use Rattle.std.proofs.Common.{◌≡◌, true, false, cond, List, [], ◌∷◌, ◌++◌, Bool, refl, sym, ap, ◌∙◌, Option, Some, None}
use Rattle.std.proofs.lemmas.List.Sums.{fold-append}
use Rattle.retro_base.specs.declared.row.Entry.{Entry}
use Rattle.retro_base.specs.Better.{best_among, better_of}
use Rattle.retro_base.specs.lemmas.bridges.Best.{IsOrder, better_none}
use Rattle.evidence_check.specs.declared.weighed_row.WeighedRow.{WeighedRow}

module _ (beaten : Entry → Entry → Bool) (order : IsOrder beaten) (shown : WeighedRow → Option Entry) where
  -- the better one of three, taken two by two from either side
  pub better-assoc : (a b c : Option Entry) → better_of beaten (better_of beaten a b) c ≡ better_of beaten a (better_of beaten b c)
  better-assoc a b None = refl
  better-assoc a None (Some c) = refl
  better-assoc None (Some b) (Some c) = refl
  better-assoc (Some a) (Some b) (Some c) =
      elim (beaten a b) as (λ t. beaten a b ≡ t → better_of beaten (Some (cond t b a)) (Some c) ≡ better_of beaten (Some a) (Some (cond (beaten b c) c b))) [
        | true ↦ λ ab. elim (beaten b c) as (λ t. beaten b c ≡ t → Some (cond t c b) ≡ better_of beaten (Some a) (Some (cond t c b))) [
          | true ↦ λ bc. rw (beats a b c ab bc) refl
          | false ↦ λ bc. rw ab refl
        ] refl
        | false ↦ λ ab. elim (beaten b c) as (λ t. beaten b c ≡ t → Some (cond (beaten a c) c a) ≡ better_of beaten (Some a) (Some (cond t c b))) [
          | true ↦ λ bc. refl
          | false ↦ λ bc. rw (order.further a b c ab bc, ab) refl
        ] refl
      ] refl
    where
      beats : (a b c : Entry) → beaten a b ≡ true → beaten b c ≡ true → beaten a c ≡ true
      beats a b c ab bc = elim (beaten a c) as (λ t. beaten a c ≡ t → t ≡ true) [
        | true ↦ λ ac. refl
        | false ↦ λ ac. sym (order.further a c b ac (order.one_way b c bc)) ∙ ab
      ] refl

  -- the best one of some rows and others is the better one of their best
  best-from : (best : Option Entry) (rows : List WeighedRow) → best_among beaten shown best rows ≡ better_of beaten best (best_among beaten shown None rows)
  best-from best [] = refl
  best-from best (row ∷ rows) =
      best-from (better_of beaten best (shown row)) rows
      ∙ better-assoc best (shown row) (best_among beaten shown None rows)
      ∙ ap (better_of beaten best) (sym (ap (λ o. best_among beaten shown o rows) (better_none beaten (shown row)) ∙ best-from (shown row) rows))

  pub best-join : (rows others : List WeighedRow)
      → best_among beaten shown None (rows ++ others) ≡ better_of beaten (best_among beaten shown None rows) (best_among beaten shown None others)
  best-join rows others = fold-append (λ best row. better_of beaten best (shown row)) None rows others ∙ best-from (best_among beaten shown None rows) others
