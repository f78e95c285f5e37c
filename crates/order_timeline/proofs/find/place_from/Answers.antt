use Rattle.std.proofs.Common.{◌≡◌, ◌≤◌, Some, None, drop, length, position, sym, ap, ◌∙◌, arith, rules}
use Rattle.std.proofs.lemmas.List.{length-drop}
use Rattle.order_timeline.proofs.Lookups.{is_name, numbers_from, found_among, none_among}
use Rattle.order_timeline.proofs.Rows.{numbers_read, window_stays}
use Rattle.order_timeline.proofs.find.place_from.Goals as goal

pub returns-in-Some : goal.returns-in-Some
returns-in-Some c =
    let rows = c.args.rows.now in
    let place = c.loop-place.place in
    let few : c.read-read.result ≤ length (drop place rows) = omega (arith, length-drop place rows, c.read-read.ensures.count) in
    let read = numbers_read rows place c.read-read.result c.loop-place.window c.read-read.new.items few (c.read-read.ensures.items (λ row. row.number) (λ row answer call. search rules)) in
    let found : position (is_name c.args.number) (numbers_from rows place c.read-read.result) ≡ Some c.in-Some.index =
    ap (position (is_name c.args.number)) (sym read) ∙ sym c.index_of.ensures ∙ c.in-Some.is in
    sym (found_among c.args.number rows place c.read-read.result c.in-Some.index c.loop-place.invariant.before few found)

pub loop-place-preserved : goal.loop-place-preserved
loop-place-preserved c =
    let rows = c.args.rows.now in
    let place = c.loop-place.place in
    let few : c.read-read.result ≤ length (drop place rows) = omega (arith, length-drop place rows, c.read-read.ensures.count) in
    let written = c.read-read.ensures.items (λ row. row.number) (λ row answer call. search rules) in
    let read = numbers_read rows place c.read-read.result c.loop-place.window c.read-read.new.items few written in
    let none : position (is_name c.args.number) (numbers_from rows place c.read-read.result) ≡ None =
    ap (position (is_name c.args.number)) (sym read) ∙ sym c.index_of.ensures ∙ c.in-None.is in
    record {
      window = window_stays rows place c.read-read.result c.loop-place.window c.read-read.new.items few (omega (arith, c.read-read.ensures.count, c.loop-place.invariant.window)) written ∙ c.loop-place.invariant.window;
      before = none_among c.args.number rows place c.read-read.result c.loop-place.invariant.before few none;
    }
