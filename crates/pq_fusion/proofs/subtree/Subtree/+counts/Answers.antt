use Rattle.std.proofs.Common.{◌≡◌, length, take, arith, ap, ◌∙◌, sym, subst}
use Rattle.std.proofs.lemmas.List.{length-take}
use Rattle.pq_fusion.specs.EntryCounts.{counts_of, LeadsCounts}
use Rattle.pq_fusion.proofs.Carried.{carries_none, carries_whole, carries_sides}
use Rattle.pq_fusion.proofs.Pairs.{run_few}
use Rattle.pq_fusion.proofs.Paths.{walks_earlier, walks_later, walks_none, walks_run, walks_whole}
use Rattle.pq_fusion.proofs.Searched.{after_one, opened, piece_few}
use Rattle.pq_fusion.proofs.Sizes.{left_size}
use Rattle.pq_fusion.proofs.subtree.Subtree.+counts.Goals as goal

pub returns-in-None-clause-counts : goal.returns-in-None-clause-counts
returns-in-None-clause-counts g t c = carries_none (λ entries. c.args.before ≡ counts_of c.args.bound entries) c.args.self.now.rows c.args.to c.in-None.ensures

pub after_piece-requires : goal.after_piece-requires
after_piece-requires g t c = record { few = omega (arith, left_size c.args.self.now.rows c.in-Some.piece.now c.in-Some.ensures, c.requires.few) }

pub returns-in-Some-clause-counts : goal.returns-in-Some-clause-counts
returns-in-Some-clause-counts g t c =
    carries_whole (λ entries. c.args.before ≡ counts_of c.args.bound entries) (λ entries. c.after_piece.result ≡ counts_of c.args.bound entries)
    c.args.self.now.rows c.args.to c.in-Some.piece.now (c.if-to-len.true ∙ c.len.ensures.count) c.in-Some.ensures c.after_piece.ensures.counts

pub returns-in-Some-clause-few : goal.returns-in-Some-clause-few
returns-in-Some-clause-few g t c = omega (arith, left_size c.args.self.now.rows c.in-Some.piece.now c.in-Some.ensures, c.if-to-len.true, c.len.ensures.count, c.after_piece.ensures.few)

pub returns-in-Some-clause-whole : goal.returns-in-Some-clause-whole
returns-in-Some-clause-whole g t c = λ all k small.
    opened _ _ _ _ c.tick.ensures c.after_piece.ensures.visits k (piece_few c.args.self.now.rows c.in-Some.piece.now c.in-Some.ensures k small)

pub returns-in-Some-clause-visits : goal.returns-in-Some-clause-visits
returns-in-Some-clause-visits g t c =
    walks_whole c.args.self.now.rows _ _ (λ k small.
    opened _ _ _ _ c.tick.ensures c.after_piece.ensures.visits k (piece_few c.args.self.now.rows c.in-Some.piece.now c.in-Some.ensures k small))

pub returns-in-None-clause-visits : goal.returns-in-None-clause-visits
returns-in-None-clause-visits g t c = walks_none c.args.self.now.rows _ _ c.tick.ensures

pub returns-in-Nothing-clause-visits : goal.returns-in-Nothing-clause-visits
returns-in-Nothing-clause-visits g t c = walks_none c.args.self.now.rows _ _ c.tick.ensures

pub returns-in-Nothing-clause-counts : goal.returns-in-Nothing-clause-counts
returns-in-Nothing-clause-counts g t c = carries_none (λ entries. c.args.before ≡ counts_of c.args.bound entries) c.args.self.now.rows c.args.to c.in-Nothing.ensures

pub returns-in-Run-clause-counts : goal.returns-in-Run-clause-counts
returns-in-Run-clause-counts g t c =
    subst (λ rows. LeadsCounts c.args.bound c.args.before rows c.after_rows.result)
    (c.split_at.ensures.front ∙ ap (take c.args.to) (c.as_slice.ensures.value ∙ sym c.in-Run.ensures.rows_are)) c.after_rows.ensures.counts

pub returns-in-Run-clause-visits : goal.returns-in-Run-clause-visits
returns-in-Run-clause-visits g t c =
    let rows = c.args.self.now.rows in
    walks_run rows (length c.split_at.result.0.now) _ _
    (omega (arith, ap length c.split_at.ensures.front, ap length c.as_slice.ensures.value, ap length c.in-Run.ensures.rows_are, length-take c.args.to c.as_slice.result.now))
    (run_few rows c.in-Run.run'.now c.in-Run.ensures) (after_one _ _ _ _ c.tick.ensures c.after_rows.ensures.visits)

pub returns-then-to-own-clause-visits : goal.returns-then-to-own-clause-visits
returns-then-to-own-clause-visits g t c = walks_earlier c.args.self.now.rows c.in-Pair.pair.now c.in-Pair.ensures _ _ _ c.tick.ensures c.counts.ensures.visits

pub returns-else-to-own-clause-counts : goal.returns-else-to-own-clause-counts
returns-else-to-own-clause-counts g t c =
    let pair = c.in-Pair.pair.now in
    carries_sides (λ entries. c.args.before ≡ counts_of c.args.bound entries) (λ entries. c.counts-first.result ≡ counts_of c.args.bound entries)
    (λ entries. c.counts-in-Pair.result ≡ counts_of c.args.bound entries) c.args.self.now.rows pair.earlier.rows pair.later.rows c.args.to c.len-own.result
    c.in-Pair.ensures.rows_are c.len-own.ensures.count (omega (arith, c.if-to-own.false)) c.counts-first.ensures.counts c.counts-in-Pair.ensures.counts

pub returns-else-to-own-clause-visits : goal.returns-else-to-own-clause-visits
returns-else-to-own-clause-visits g t c =
    walks_later c.args.self.now.rows c.in-Pair.pair.now c.in-Pair.ensures _ _ _ _ c.tick.ensures (c.counts-first.ensures.whole c.len-own.ensures.count) c.counts-in-Pair.ensures.visits
