use Rattle.std.proofs.Common.{◌≡◌, ◌+◌, arith, ap, [], ◌∷◌, sym, ◌∙◌}
use Rattle.pq_fusion.specs.declared.entry_counts.EntryCounts.{EntryCounts}
use Rattle.pq_fusion.specs.EntryCounts.{counts_of}
use Rattle.pq_fusion.proofs.Carried.{carries_piece}
use Rattle.pq_fusion.proofs.Fused.{parts}
use Rattle.pq_fusion.proofs.Replays.{of_adding, of_taking}
use Rattle.pq_fusion.proofs.Counted.{fused_length, fused_reaching, same_counts}
use Rattle.pq_fusion.proofs.entry_counts.EntryCounts.after_row.Goals as goal

pub returns-in_default-clause-counts : goal.returns-in_default-clause-counts
returns-in_default-clause-counts c =
    let own = parts [] [] 1 in
    carries_piece (λ entries. c.args.self ≡ counts_of c.args.bound entries)
    (λ entries. record { left = c.saturating_sub-left.result; reaching = c.min.result } ≡ counts_of c.args.bound entries) (c.args.row ∷ []) own
    (sym (of_taking c.args.row c.requires.of_kind (sym c.added_entry.ensures ∙ c.in_default.is)))
    (λ first same.
    let left = ap (λ (t : EntryCounts). t.left) same in
    let reached = ap (λ (t : EntryCounts). t.reaching) same in
    same_counts _ _ _ _
    (omega (arith, left, c.saturating_sub-left.ensures, fused_length first own))
    (omega (arith, left, reached, c.saturating_sub-left.ensures, c.min.ensures, fused_reaching c.args.bound first own tt)))

pub returns-clause-counts : goal.returns-clause-counts
returns-clause-counts c =
    let own = parts (c.in-Some.entry ∷ []) [] 0 in
    carries_piece (λ entries. c.args.self ≡ counts_of c.args.bound entries)
    (λ entries. record { left = c.args.self.left + 1; reaching = c.min-2.result + c.reaches.result } ≡ counts_of c.args.bound entries) (c.args.row ∷ []) own
    (sym (of_adding c.args.row c.in-Some.entry (sym c.added_entry.ensures ∙ c.in-Some.is)))
    (λ first same.
    let left = ap (λ (t : EntryCounts). t.left) same in
    let reached = ap (λ (t : EntryCounts). t.reaching) same in
    same_counts _ _ _ _
    (omega (arith, left, fused_length first own))
    (omega (arith, left, reached, c.min-2.ensures, c.reaches.ensures.count, fused_reaching c.args.bound first own tt)))
