use Rattle.std.proofs.Common.{◌≡◌, refl, ◌+◌, ◌-◌, w32, to_z, of_z, length, take, ap, arith}
use Rattle.std.specs.List.{flat_map}
use Rattle.std.proofs.lemmas.Int.{ints}
use Rattle.std.proofs.lemmas.List.{take_all}
use Rattle.evidence_check.specs.Zeros.{IsFirstZero}
use Rattle.evidence_check.proofs.Stored.{first_stored, room_stored}
use Rattle.evidence_check.proofs.Walks.{first_found, fits, on_fits, room_there, walk_on}
use Rattle.evidence_check.proofs.Zeros.{few_of, none_first}
use Rattle.evidence_check.proofs.search.first_zero_among.Goals as goal

pub first_zero-found-requires : goal.first_zero-found-requires
first_zero-found-requires g c = room_there g.P.Part.rows c.args.parts.now c.loop-part.part-index c.part-item.result c.loop-part-test.true c.part-item.is (to_z w32 (of_z w32 c.args.before)) (room_stored c.args.before (length (flat_map g.P.Part.rows c.args.parts.now)) c.ranges.before c.requires) (to_z w32 c.loop-part.sum-bits) c.loop-part.invariant.weights

pub overflow_add-result : goal.overflow_add-result
overflow_add-result g c =
    let less = fits g.P.Part.rows c.args.parts.now c.loop-part.part-index c.part-item.result c.loop-part-test.true c.part-item.is in
    let few = few_of c.args.before (length (flat_map g.P.Part.rows c.args.parts.now)) c.requires in
    omega (arith, less, few, c.first_zero-found.ensures.inside, c.loop-part.invariant.rows)

pub returns-then-found-gt0 : goal.returns-then-found-gt0
returns-then-found-gt0 g c =
    let found : IsFirstZero (to_z w32 c.loop-part.sum-bits) (g.P.Part.rows c.part-item.result) (c.args.from - c.loop-part.passed) c.first_zero-found.result =
    rw c.beyond.ensures at c.first_zero-found.ensures in
    first_stored c.args.before (flat_map g.P.Part.rows c.args.parts.now) c.args.from (c.loop-part.passed + c.first_zero-found.result) c.ranges.before
    (first_found g.P.Part.rows c.args.parts.now c.loop-part.part-index c.part-item.result c.loop-part-test.true c.part-item.is (to_z w32 (of_z w32 c.args.before)) (room_stored c.args.before (length (flat_map g.P.Part.rows c.args.parts.now)) c.ranges.before c.requires) (to_z w32 c.loop-part.sum-bits) c.loop-part.invariant.weights c.args.from c.loop-part.passed c.first_zero-found.result c.loop-part.invariant
    (omega arith) found)

pub overflow_add-passed : goal.overflow_add-passed
overflow_add-passed g c =
    let less = fits g.P.Part.rows c.args.parts.now c.loop-part.part-index c.part-item.result c.loop-part-test.true c.part-item.is in
    let few = few_of c.args.before (length (flat_map g.P.Part.rows c.args.parts.now)) c.requires in
    omega (arith, less, few, c.loop-part.invariant.rows, ap (λ s. s.rows) c.sums-next.ensures)

pub overflow_add-sum : goal.overflow_add-sum
overflow_add-sum g c = on_fits g.P.Part.rows c.args.parts.now c.loop-part.part-index c.part-item.result c.loop-part-test.true c.part-item.is (to_z w32 (of_z w32 c.args.before)) (room_stored c.args.before (length (flat_map g.P.Part.rows c.args.parts.now)) c.ranges.before c.requires) (to_z w32 c.loop-part.sum-bits) c.sums-next.result c.sums-next.ensures c.loop-part.invariant.weights

pub loop-part-preserved : goal.loop-part-preserved
loop-part-preserved g c =
    walk_on g.P.Part.rows c.args.parts.now c.loop-part.part-index c.part-item.result c.loop-part-test.true c.part-item.is (to_z w32 (of_z w32 c.args.before)) (room_stored c.args.before (length (flat_map g.P.Part.rows c.args.parts.now)) c.ranges.before c.requires) (to_z w32 c.loop-part.sum-bits) c.sums-next.result c.sums-next.ensures
    c.args.from c.loop-part.passed c.first_zero-found.result c.loop-part.invariant (omega arith) (rw c.beyond.ensures at c.first_zero-found.ensures)

pub loop-part-init : goal.loop-part-init
loop-part-init g c = record { rows = refl; weights = omega (arith, ints); none = λ place one up down within. absurd (let none : ⊥ = omega arith in none) }

pub returns : goal.returns
returns g c =
    let end : take c.loop-part.part-index c.args.parts.now ≡ c.args.parts.now = take_all c.loop-part.part-index c.args.parts.now (omega arith) in
    let none = rw end at c.loop-part.invariant.none in
    first_stored c.args.before (flat_map g.P.Part.rows c.args.parts.now) c.args.from 0 c.ranges.before (none_first (to_z w32 (of_z w32 c.args.before)) (flat_map g.P.Part.rows c.args.parts.now) c.args.from none)
