-- A pair of which one side was edited, with the piece that what passes makes of its own, is a pair of the edited rows.
use Rattle.std.proofs.Common.{◌≡◌, ℕ, ◌-◌, ◌≤◌, Bool, true, false, List, length, ap, sym, ◌∙◌, arith, subst, inl, inr}
use Rattle.std.specs.Prelude.{if◌then◌else◌}
use Rattle.std.proofs.lemmas.Bool.Decides.{nat_tests}
use Rattle.retro_base.specs.declared.kind.Kind.TheVariants.{Pq}
use Rattle.retro_base.specs.declared.row.Row.{Row}
use Rattle.retro_base.specs.Limits.{most_rows}
use Rattle.retro_base.specs.Timeline.{AreOfKind}
use Rattle.retro_base.specs.Weights.{added_by}
use Rattle.pq_fusion.specs.declared.bound.Bound.{Bound}
use Rattle.pq_fusion.specs.declared.row_edit.RowEdit.{RowEdit}
use Rattle.pq_fusion.specs.declared.subtree.Pair.{Pair}
use Rattle.pq_fusion.specs.Edits.{Passes, own_of}
use Rattle.pq_fusion.specs.Nodes.{pair_rows, IsBalanced, IsPair}
use Rattle.pq_fusion.specs.Passages.{Edits, IsEdited, bears, make_pair, with_piece}
use Rattle.pq_fusion.specs.Pieces.{PieceParts, IsPiece, IsRising, tolerant}
use Rattle.pq_fusion.specs.RowEdits.{CanBeMade, PassesBy, count_after, edited, gains_by, is_first}
use Rattle.pq_fusion.proofs.Bounded.{cancel}
use Rattle.pq_fusion.proofs.FromRows.{tolerant_rise}
use Rattle.pq_fusion.proofs.Fused.{same_parts}
use Rattle.pq_fusion.proofs.RowEdits.{after_first, after_second, few_after, kind_after, length_after, possible_first, possible_second}
use Rattle.pq_fusion.proofs.Sizes.{rows_size}

-- what passes makes one piece of another
one_after : (gains : Bool) (own x : Bound) (p q r : PieceParts) → IsRising q → IsRising r → Passes gains own x p q → Passes gains own x p r → q ≡ r
one_after true own x p q r first second one two =
    same_parts q.left r.left q.removed r.removed q.unmet r.unmet (one.left ∙ sym two.left)
    (cancel x q.removed r.removed first.removed second.removed (sym one.removed ∙ two.removed)) (omega (arith, one.unmet, two.unmet))
one_after false own x p q r first second one two =
    same_parts q.left r.left q.removed r.removed q.unmet r.unmet (cancel x q.left r.left first.left second.left (sym one.left ∙ two.left))
    (cancel own q.removed r.removed first.removed second.removed (one.removed ∙ sym two.removed)) (omega (arith, one.unmet, two.unmet))

-- the sides after an edit are in balance
make_balanced : (earlier later : ℕ) → make_pair earlier later ≡ true → IsBalanced earlier later
make_balanced earlier later pair = record { earlier_light = grind (arith, nat_tests); later_light = grind (arith, nat_tests) }

balanced_first : (first : Bool) (earlier later edited_earlier edited_later : ℕ) → (if first then make_pair edited_earlier later else make_pair earlier edited_later) ≡ true → first ≡ true
    → IsBalanced edited_earlier later
balanced_first true earlier later edited_earlier edited_later bears is = make_balanced edited_earlier later bears
balanced_first false earlier later edited_earlier edited_later bears is = absurd (cc)

balanced_second : (first : Bool) (earlier later edited_earlier edited_later : ℕ) → (if first then make_pair edited_earlier later else make_pair earlier edited_later) ≡ true → first ≡ false
    → IsBalanced earlier edited_later
balanced_second true earlier later edited_earlier edited_later bears is = absurd (cc)
balanced_second false earlier later edited_earlier edited_later bears is = make_balanced earlier edited_later bears

-- a pair whose piece is apart, and what passes in it by an edit
module _ (pair o : Pair) (whole : PieceParts) (sound : IsPair pair) (is : with_piece o whole ≡ pair) (edit : RowEdit) (possible : CanBeMade edit (pair_rows pair)) where
  open_pair : IsPair (with_piece o whole)
  open_pair = subst IsPair (sym is) sound

  can : CanBeMade edit (pair_rows o)
  can = subst (λ (p : Pair). CanBeMade edit (pair_rows p)) (sym is) possible

  pub few_edited : (below : Pair) → Edits edit o below → below.size ≤ most_rows
  few_edited below (inl first) = omega (arith, ap (λ (p : Pair). p.size) first.2, open_pair.size_is, open_pair.few)
  few_edited below (inr second) = omega (arith, ap (λ (p : Pair). p.size) second.2, open_pair.size_is, open_pair.few)

  module _ (gains : Bool) (own x : Bound) (gains_is : gains ≡ gains_by edit.way (added_by edit.row)) (own_is : own ≡ own_of (added_by edit.row)) (by : PassesBy edit x (pair_rows o)) where
    abbrev rows : List Row
    rows = edited edit (pair_rows o)

    few : length rows ≤ most_rows
    few = few_after edit.way (pair_rows o) edit.place edit.row can open_pair.few

    passes : Passes gains own x whole (tolerant rows)
    passes = rw (gains_is, own_is, open_pair.piece_is) by

    -- the pair's piece has one that it may become, and becomes it
    pub piece_after : (after : PieceParts) × (IsPiece after × Passes gains own x whole after)
    piece_after = (tolerant rows, (record { rising = tolerant_rise rows; few = omega (arith, rows_size rows, few) }, passes))

    module _ (bearing : bears pair edit ≡ true) (below new : Pair) (piece : PieceParts) (sound_piece : IsPiece piece) (after : Passes gains own x whole piece)
        (new_is : new ≡ record { earlier = below.earlier; later = below.later; size = count_after edit.way below.size; piece = piece }) where
      abbrev e : List Row
      e = o.earlier.rows

      abbrev l : List Row
      l = o.later.rows

      o_bears : bears o edit ≡ true
      o_bears = ap (λ (p : Pair). bears p edit) is ∙ bearing

      made : below.size ≡ o.size → pair_rows below ≡ rows → IsBalanced (length below.earlier.rows) (length below.later.rows) → IsEdited edit pair new x
      made same rows_are balanced =
          subst (λ (p : Pair). IsEdited edit p new x) is (subst (λ (n : Pair). IsEdited edit (with_piece o whole) n x) (sym new_is) (record {
            sound = record {
              size_is = ap (count_after edit.way) (same ∙ open_pair.size_is) ∙ sym (length_after edit.way (pair_rows o) edit.place edit.row can) ∙ ap length (sym rows_are);
              piece_is = one_after gains own x whole piece (tolerant rows) sound_piece.rising (tolerant_rise rows) after passes ∙ ap tolerant (sym rows_are);
              balanced = balanced;
              of_kind = subst (AreOfKind Pq) (sym rows_are) (kind_after edit.way (pair_rows o) edit.place edit.row can open_pair.of_kind);
              few = omega (arith, ap length rows_are, few);
            };
            rows_are = rows_are;
            passes = by;
          }))

      pub edited_pair : Edits edit o below → IsEdited edit pair new x
      edited_pair (inl first) =
          let size : length below.earlier.rows ≡ count_after edit.way (length e) =
          ap length first.1 ∙ length_after edit.way e edit.place edit.row (possible_first edit.way e l edit.place edit.row can first.0) in
          let later : below.later ≡ o.later = ap (λ (p : Pair). p.later) first.2 in
          made (ap (λ (p : Pair). p.size) first.2)
          (rw (first.1, later) (sym (after_first edit.way e l edit.place edit.row first.0)))
          (rw (size, later) (balanced_first (is_first edit.way edit.place (length e)) (length e) (length l) _ _ o_bears first.0))
      edited_pair (inr second) =
          let size : length below.later.rows ≡ count_after edit.way (length l) =
          ap length second.1 ∙ length_after edit.way l (edit.place - length e) edit.row (possible_second edit.way e l edit.place edit.row can second.0) in
          let earlier : below.earlier ≡ o.earlier = ap (λ (p : Pair). p.earlier) second.2 in
          made (ap (λ (p : Pair). p.size) second.2)
          (rw (second.1, earlier) (sym (after_second edit.way e l edit.place edit.row second.0)))
          (rw (size, earlier) (balanced_second (is_first edit.way edit.place (length e)) (length e) (length l) _ _ o_bears second.0))
