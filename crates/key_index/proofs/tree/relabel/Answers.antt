use Rattle.std.proofs.Common.{◌≡◌, ◌<◌, refl, length, slice_get, set, Some, sym, ap, ◌∙◌, arith}
use Rattle.key_index.specs.Relabelled.{counterpart}
use Rattle.key_index.proofs.Moved.{partly, partly-get, partly-more}
use Rattle.key_index.proofs.tree.relabel.Goals as goal

pub loop-place-preserved : goal.loop-place-preserved
loop-place-preserved c =
    let former = c.args.former.now in
    let fresh = c.args.fresh.now in
    let rows = c.args.by_key.now in
    let place = c.loop-place.place in
    let row = c.get-row.result in
    let within : place < length rows = omega (arith, c.loop-place-test.true, c.len-place-end.ensures) in
    let there : slice_get rows place ≡ Some row = sym (partly-get former fresh place rows within) ∙ ap (λ l. slice_get l place) (sym c.loop-place.invariant) ∙ c.get-row.ensures.item in
    let moved : c.new.result ≡ (counterpart former fresh row.0, row.1) = rw (c.new.ensures, c.counterpart-label.ensures, c.label.ensures, c.op.ensures) refl in
    c.replace.ensures.items
    ∙ ap (λ l. set l place c.new.result) c.loop-place.invariant
    ∙ ap (λ r. set (partly former fresh place rows) place r) moved
    ∙ partly-more former fresh place rows row there
