use Rattle.std.proofs.Common.{length, arith}
use Rattle.retro_base.specs.BridgeTable.{added}
use Rattle.pq_fusion.proofs.Pairs.{sizes, piece_is, some_earlier, some_later, run_piece_is, run_few, run_some}
use Rattle.pq_fusion.proofs.Stored.{one_level, one_level_more, run_least, one_level_least, squares, one_square, added_few, added_parts, piece_count, piece_less}
use Rattle.pq_fusion.proofs.subtree.Subtree.+stored.Goals as goal

pub returns-in-Run-clause-least : goal.returns-in-Run-clause-least
returns-in-Run-clause-least t c =
    let rows = c.args.self.now.rows in
    omega (arith, c.stored.ensures.count, piece_count rows c.in-Run.run'.now.piece (run_piece_is rows c.in-Run.run'.now c.in-Run.ensures))

pub returns-in-Run-clause-levels : goal.returns-in-Run-clause-levels
returns-in-Run-clause-levels t c = λ levels.
    let rows = c.args.self.now.rows in
    let run = c.in-Run.run'.now in
    let least = run_least (length (added rows)) levels (omega (arith, added_few rows, run_few rows run c.in-Run.ensures)) in
    omega (arith, least, c.stored.ensures.count, piece_count rows run.piece (run_piece_is rows run c.in-Run.ensures))

pub returns-in-Run-clause-most : goal.returns-in-Run-clause-most
returns-in-Run-clause-most t c = λ levels within.
    let rows = c.args.self.now.rows in
    let run = c.in-Run.run'.now in
    let most = one_level (length (added rows)) (length rows) levels (run_some rows run c.in-Run.ensures) within in
    omega (arith, most, c.stored.ensures.count, piece_count rows run.piece (run_piece_is rows run c.in-Run.ensures))

pub returns-in-Run-clause-fits : goal.returns-in-Run-clause-fits
returns-in-Run-clause-fits t c =
    let rows = c.args.self.now.rows in
    let run = c.in-Run.run'.now in
    one_square c.stored.result (length rows) (omega (arith, c.stored.ensures.count, piece_less rows run.piece (run_piece_is rows run c.in-Run.ensures)))

pub returns-in-Pair-clause-least : goal.returns-in-Pair-clause-least
returns-in-Pair-clause-least t c =
    let rows = c.args.self.now.rows in
    let pair = c.in-Pair.pair.now in
    omega (arith, piece_count rows pair.piece (piece_is rows pair c.in-Pair.ensures), c.stored-in-Pair-2.ensures.count)

pub returns-in-Pair-clause-levels : goal.returns-in-Pair-clause-levels
returns-in-Pair-clause-levels t c = λ levels.
    let rows = c.args.self.now.rows in
    let pair = c.in-Pair.pair.now in
    let least = one_level_least (length (added rows)) (length (added pair.earlier.rows)) (length (added pair.later.rows)) c.stored-in-Pair.result c.stored-in-Pair-3.result
    (added_parts rows pair c.in-Pair.ensures) c.stored-in-Pair.ensures.levels c.stored-in-Pair-3.ensures.levels levels in
    omega (arith, least, piece_count rows pair.piece (piece_is rows pair c.in-Pair.ensures), c.stored-in-Pair-2.ensures.count)

pub returns-in-Pair-clause-most : goal.returns-in-Pair-clause-most
returns-in-Pair-clause-most t c = λ levels within.
    let rows = c.args.self.now.rows in
    let pair = c.in-Pair.pair.now in
    let root = c.in-Pair.ensures in
    let most = one_level_more (length rows) (length pair.earlier.rows) (length pair.later.rows) (length (added rows)) (length (added pair.earlier.rows)) (length (added pair.later.rows))
    c.stored-in-Pair.result c.stored-in-Pair-3.result (sizes rows pair root) (added_parts rows pair root) root.sound.balanced.earlier_light root.sound.balanced.later_light
    c.stored-in-Pair.ensures.most c.stored-in-Pair-3.ensures.most levels within in
    omega (arith, most, piece_count rows pair.piece (piece_is rows pair root), c.stored-in-Pair-2.ensures.count)

pub returns-in-Pair-clause-fits : goal.returns-in-Pair-clause-fits
returns-in-Pair-clause-fits t c =
    let rows = c.args.self.now.rows in
    let pair = c.in-Pair.pair.now in
    let root = c.in-Pair.ensures in
    squares (length rows) (length pair.earlier.rows) (length pair.later.rows) _ _ _ (sizes rows pair root) (some_earlier rows pair root) (some_later rows pair root)
    (omega (arith, piece_less rows pair.piece (piece_is rows pair root), c.stored-in-Pair-2.ensures.count)) c.stored-in-Pair.ensures.fits c.stored-in-Pair-3.ensures.fits
