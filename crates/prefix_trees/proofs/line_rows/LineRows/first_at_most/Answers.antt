use Rattle.std.proofs.Common.{◌≡◌, ◌+ℤ◌, ◌∙◌, length, ap, sym, rules}
use Rattle.std.specs.List.{slice_range}
use Rattle.std.specs.Int.Signed.{le_z}
use Rattle.monoid_laws.specs.PrefixSumLaws.{reaches}
use Rattle.monoid_laws.specs.Walk.{walk_of, lowest_of}
use Rattle.prefix_trees.specs.Growth.{grown, growths, sign_of}
use Rattle.prefix_trees.proofs.MeasuredRows.{range-whole}
use Rattle.prefix_trees.proofs.FoundPlaces.{finds-none}
use Rattle.prefix_trees.proofs.line_rows.LineRows.first_at_most.Goals as goal

pub returns-else-falls_to-clause-first : goal.returns-else-falls_to-clause-first
returns-else-falls_to-clause-first g c =
    let rows = c.self.inside.rows in
    let from = c.args.from in
    let value = c.args.value in
    let sums = growths sign_of rows in
    let start : c.size_at-start.result ≡ grown sign_of rows from = c.size_at-start.ensures.size ∙ ap (λ xs. grown sign_of xs from) (sym c.self.view_is) in
    let rest : c.measure-rest.result.0 ≡ walk_of (slice_range sums from c.len.result) = ap (λ w. w.0) c.measure-rest.ensures.value ∙ range-whole rows from c.len.result in
    let end : c.len.result ≡ length rows = c.len.ensures ∙ ap length (sym c.self.view_is) in
    let told : c.falls_to.result ≡ le_z (c.size_at-start.result +ℤ lowest_of c.measure-rest.result.0) value = search rules in
    let tested = told
    ∙ ap (λ s. le_z (s +ℤ lowest_of c.measure-rest.result.0) value) start
    ∙ ap (λ w. le_z (grown sign_of rows from +ℤ lowest_of w) value) rest
    ∙ ap (reaches sums from value) end in
    rw (← c.self.view_is) (finds-none sign_of rows value from (sym tested ∙ c.if-falls_to.false))
