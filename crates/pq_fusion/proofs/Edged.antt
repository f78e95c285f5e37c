-- What passes in a pair by an edit of one of its sides.
use Rattle.std.proofs.Common.{◌≡◌, ℕ, suc, ◌-◌, ◌<◌, ◌⊎◌, inl, inr, List, ◌++◌, Bool, true, false, length, take, drop, refl, ap, sym, ◌∙◌, subst, arith, length-append, Option, Some, None}
use Rattle.std.specs.Prelude.{is_some}
use Rattle.std.specs.List.{insert, remove}
use Rattle.std.proofs.lemmas.List.{take-append-drop}
use Rattle.retro_base.specs.declared.kind.Kind.TheVariants.{Pq}
use Rattle.retro_base.specs.declared.row.Entry.{Entry}
use Rattle.retro_base.specs.declared.row.Row.{Row}
use Rattle.retro_base.specs.Kind.{kind_of}
use Rattle.retro_base.specs.State.{with_entry}
use Rattle.retro_base.specs.Timeline.{AreOfKind}
use Rattle.retro_base.specs.Weights.{added_by}
use Rattle.retro_base.specs.lemmas.bridges.EditJunctions.{rows_around}
use Rattle.pq_fusion.specs.declared.bound.Bound.{Bound}
use Rattle.pq_fusion.specs.declared.bound.Bound.TheVariants.{At}
use Rattle.pq_fusion.specs.declared.row_edit.Way.{Way}
use Rattle.pq_fusion.specs.declared.row_edit.Way.TheVariants.{Put, Cut}
use Rattle.pq_fusion.specs.Bounds.{higher, lower}
use Rattle.pq_fusion.specs.Edits.{Apart, DiffersBy, Passes, own_of, boundary_of}
use Rattle.pq_fusion.specs.Pieces.{PieceParts, IsRising, tolerant, fuse}
use Rattle.pq_fusion.specs.RowEdits.{IsPossible, PassesAs, gains_by, is_first, rows_after}
use Rattle.pq_fusion.proofs.Bounded.{not_itself}
use Rattle.pq_fusion.proofs.Compared.{besides_is}
use Rattle.pq_fusion.proofs.FromRows.{tolerant_rise, rows_fuse}
use Rattle.pq_fusion.proofs.Parts.{kind_at, there_within}
use Rattle.pq_fusion.proofs.Passed.{alone_clamped, earlier_after, earlier_passes, later_passes, passes_one}
use Rattle.pq_fusion.proofs.RowByRow.{adding_last}
use Rattle.pq_fusion.proofs.RowEdits.{after_first, after_second, within_first}

-- in one of two pieces, before an edit and after it
earlier_edited : (gains : Bool) (own x : Bound) (p q b : PieceParts) → IsRising p → IsRising q → IsRising b → Passes gains own x p q
    → Passes gains own (higher x (boundary_of gains p b)) (fuse p b) (fuse q b)
earlier_edited true own x p q b first second third passes = earlier_passes own x p q passes b third
earlier_edited false own x p q b first second third passes =
    subst (λ y. Apart own y (fuse q b) (fuse p b)) (earlier_after own x q p passes b third) (earlier_passes own x q p passes b third)

later_edited : (gains : Bool) (own x : Bound) (a p q : PieceParts) → IsRising a → IsRising p → IsRising q → Passes gains own x p q
    → Passes gains own (higher own (lower x (boundary_of gains a p))) (fuse a p) (fuse a q)
later_edited true own x a p q first second third passes =
    let both = later_passes own x a p q first second third passes in
    subst (λ y. Apart own y (fuse a p) (fuse a q)) (sym both.before) both.apart
later_edited false own x a p q first second third passes =
    let both = later_passes own x a q p first third second passes in
    subst (λ y. Apart own y (fuse a q) (fuse a p)) (sym both.after) both.apart

-- the edit by which a row comes or goes
as_put : (added : Option Entry) (x : Bound) (p q : PieceParts) → DiffersBy added x p q → Passes (gains_by Put added) (own_of added) x p q
as_put (Some e) x p q differs = differs
as_put None x p q differs = differs

as_cut : (added : Option Entry) (x : Bound) (p q : PieceParts) → DiffersBy added x q p → Passes (gains_by Cut added) (own_of added) x p q
as_cut (Some e) x p q differs = differs
as_cut None x p q differs = differs

passes_some : (way : Way) (rows : List Row) (place : ℕ) (row : Row) → IsPossible way rows place row → AreOfKind Pq rows → (x : Bound) × PassesAs way row x rows (rows_after way rows place row)
passes_some Put rows place row possible kind =
    let one = passes_one (take place rows) (drop place rows) row possible.2 in
    (one.0, as_put (added_by row) one.0 (tolerant rows) _ (subst (λ l. DiffersBy (added_by row) one.0 (tolerant l) (tolerant (insert rows place row))) (take-append-drop place rows) one.1))
passes_some Cut rows place row possible kind =
    let one = passes_one (take place rows) (drop (suc place) rows) row (kind_at rows place row possible kind) in
    (one.0, as_cut (added_by row) one.0 (tolerant rows) _ (subst (λ l. DiffersBy (added_by row) one.0 (tolerant (remove rows place)) (tolerant l)) (rows_around rows place row possible) one.1))

module _ (way : Way) (place : ℕ) (row : Row) where
  abbrev gains : Bool
  gains = gains_by way (added_by row)

  abbrev own : Bound
  own = own_of (added_by row)

  -- what is found by comparing what is left before the edit and after it
  pub passes_found : (rows : List Row) (x : Bound) (before after : PieceParts) → ((own y : Bound) → Passes gains own y before after → x ≡ y) → before ≡ tolerant rows
      → after ≡ tolerant (rows_after way rows place row) → IsPossible way rows place row → AreOfKind Pq rows → PassesAs way row x rows (rows_after way rows place row)
  passes_found rows x before after found before_is after_is possible kind =
      let one = passes_some way rows place row possible kind in
      let same : x ≡ one.0 = found own one.0 (rw (before_is, after_is) one.1) in
      rw same one.1

  -- in the rows of a pair, whose boundary is c
  module _ (earlier later : List Row) (x c : Bound) (possible : IsPossible way (earlier ++ later) place row)
      (boundary : ((gains ≡ true) × (place ≡ length (earlier ++ later))) ⊎ (c ≡ boundary_of gains (tolerant earlier) (tolerant later))) where
    pub passes_first : is_first way place (length earlier) ≡ true → 0 < length later → PassesAs way row x earlier (rows_after way earlier place row)
        → PassesAs way row (higher x c) (earlier ++ later) (rows_after way (earlier ++ later) place row)
    passes_first first some passes = elim boundary [
      | inl last ↦ absurd (omega (arith, last.1, some, within_first way place (length earlier) first, length-append earlier later))
      | inr is ↦ rw (after_first way earlier later place row first, rows_fuse, rows_fuse, is)
          (earlier_edited gains own x (tolerant earlier) (tolerant (rows_after way earlier place row)) (tolerant later) (tolerant_rise earlier)
          (tolerant_rise (rows_after way earlier place row)) (tolerant_rise later) passes)
    ]

    pub passes_second : is_first way place (length earlier) ≡ false → PassesAs way row x later (rows_after way later (place - length earlier) row)
        → PassesAs way row (higher own (lower x c)) (earlier ++ later) (rows_after way (earlier ++ later) place row)
    passes_second second passes = elim boundary [
      | inl last ↦ behind way last.0 last.1 possible passes
      | inr is ↦ rw (after_second way earlier later place row second, rows_fuse, rows_fuse, is)
          (later_edited gains own x (tolerant earlier) (tolerant later) (tolerant (rows_after way later (place - length earlier) row)) (tolerant_rise earlier) (tolerant_rise later)
          (tolerant_rise (rows_after way later (place - length earlier) row)) passes)
    ]
      where
        -- behind all others an entry that is added passes itself
        by : (added : Option Entry) → added_by row ≡ added → is_some added ≡ true → place ≡ length (earlier ++ later) → kind_of row.op ≡ Pq
            → Passes (is_some added) (own_of added) x (tolerant later) (tolerant (insert later (place - length earlier) row))
            → Passes (is_some added) (own_of added) (higher (own_of added) (lower x c)) (tolerant (earlier ++ later)) (tolerant (insert (earlier ++ later) place row))
        by None is adds place_is kind passes = absurd (cc)
        by (Some e) is adds place_is kind passes =
            let there = adding_last later (place - length earlier) row e (omega (arith, place_is, length-append earlier later)) kind is in
            let left : (tolerant (insert later (place - length earlier) row)).left ≡ with_entry e (tolerant later).left = ap (λ (p : PieceParts). p.left) there in
            let x_is : x ≡ At e = sym (besides_is x (tolerant later).left _ passes.some passes.left) ∙ besides_is (At e) (tolerant later).left _ refl left in
            let passed_is : higher (At e) (lower x c) ≡ At e = ap (λ b. higher (At e) (lower b c)) x_is ∙ alone_clamped (At e) c in
            subst (λ y. Apart (At e) y (tolerant (earlier ++ later)) (tolerant (insert (earlier ++ later) place row))) (sym passed_is)
            (subst (Apart (At e) (At e) (tolerant (earlier ++ later))) (sym (adding_last (earlier ++ later) place row e place_is kind is))
            (record { left = refl; removed = refl; unmet = omega arith; order = not_itself (At e); some = refl; no_top = refl }))

        behind : (way : Way) → gains_by way (added_by row) ≡ true → place ≡ length (earlier ++ later) → IsPossible way (earlier ++ later) place row
            → PassesAs way row x later (rows_after way later (place - length earlier) row) → PassesAs way row (higher own (lower x c)) (earlier ++ later) (rows_after way (earlier ++ later) place row)
        behind Put adds place_is possible passes = by (added_by row) refl adds place_is possible.2 passes
        behind Cut adds place_is possible passes = absurd (omega (arith, place_is, there_within (earlier ++ later) place row possible))
