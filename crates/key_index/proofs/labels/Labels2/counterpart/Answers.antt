use Rattle.std.proofs.Common.{◌≡◌, ◌<◌, length, get_or, Ok, Err, subst, sym, ap, ◌∙◌, arith}
use Rattle.std.proofs.lemmas.List.{get_or_default}
use Rattle.std.proofs.lemmas.List.Sorted.{searched}
use Rattle.key_index.specs.Relabelled.{Rise}
use Rattle.key_index.proofs.Moved.{never_falls, counterpart_at, not_in}
use Rattle.key_index.proofs.labels.Labels2.counterpart.Goals as goal

pub unreachable-requires : goal.unreachable-requires
unreachable-requires c =
    let same : c.deref.result.now ≡ c.args.self.now = c.deref.ensures.value ∙ c.self.view_is in
    let missing = searched c.deref.result.now c.args.label (Err c.in-Err.field-0) c.in-Err.ensures.position (never_falls c.deref.result.now (subst Rise (sym same) c.requires.rise)) in
    not_in c.deref.result.now c.args.label c.in-Err.field-0 missing.1 missing.2 (rw same c.requires.there)

pub returns : goal.returns
returns c =
    let same : c.deref.result.now ≡ c.args.self.now = c.deref.ensures.value ∙ c.self.view_is in
    let found = searched c.deref.result.now c.args.label (Ok c.in-Ok.place) c.in-Ok.ensures.position (never_falls c.deref.result.now (subst Rise (sym same) c.requires.rise)) in
    let within : c.in-Ok.place < length c.args.self.now = omega (arith, found.0, ap length same) in
    c.index.ensures
    ∙ ap (λ xs. get_or xs c.in-Ok.place c.index.result.now) c.fresh.view_is
    ∙ get_or_default c.args.fresh.now c.in-Ok.place c.index.result.now 0 (omega (arith, within, c.requires.as_many))
    ∙ counterpart_at c.args.self.now c.args.fresh.now c.args.label c.in-Ok.place c.requires.rise c.requires.as_many within (ap (λ xs. get_or xs c.in-Ok.place 0) (sym same) ∙ found.1)
