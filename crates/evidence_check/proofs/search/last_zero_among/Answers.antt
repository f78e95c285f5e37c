use Rattle.std.proofs.Common.{◌≡◌, ◌-◌, w32, SFits, to_z, of_z, length, take, ap, sym, ◌∙◌, arith}
use Rattle.std.specs.Prelude.{◌+ℤ◌}
use Rattle.std.specs.List.{flat_map}
use Rattle.std.proofs.lemmas.Int.{to_z-of_z}
use Rattle.std.proofs.lemmas.List.{take_all}
use Rattle.evidence_check.specs.Sums.{sum_of}
use Rattle.evidence_check.specs.Zeros.{HasNoZero}
use Rattle.evidence_check.proofs.Stored.{last_stored, room_stored, stored_both, sum_fits, whole_fits}
use Rattle.evidence_check.proofs.Walks.{fits, last_found, none_back, room_there, stored_back, walk_back}
use Rattle.evidence_check.proofs.Zeros.{few_of, none_beyond, none_last}
use Rattle.evidence_check.proofs.search.last_zero_among.Goals as goal

pub overflow_add-sum : goal.overflow_add-sum
overflow_add-sum g c =
    let is : c.args.sums.sum ≡ sum_of (flat_map g.P.Part.rows c.args.parts.now) = ap (λ s. s.sum) c.requires.sums in
    let part_fits : SFits w32 c.args.sums.sum = rw is (sum_fits (flat_map g.P.Part.rows c.args.parts.now) (few_of c.args.before (length (flat_map g.P.Part.rows c.args.parts.now)) c.requires.room)) in
    rw (to_z-of_z w32 c.args.before c.ranges.before, to_z-of_z w32 c.args.sums.sum part_fits, is) (whole_fits c.args.before (flat_map g.P.Part.rows c.args.parts.now) c.requires.room)

pub loop-index-init : goal.loop-index-init
loop-index-init g c =
    let end : take (length c.args.parts.now) c.args.parts.now ≡ c.args.parts.now = take_all (length c.args.parts.now) c.args.parts.now (omega arith) in
    let is : c.args.sums.sum ≡ sum_of (flat_map g.P.Part.rows c.args.parts.now) = ap (λ s. s.sum) c.requires.sums in
    let part_fits : SFits w32 c.args.sums.sum = rw is (sum_fits (flat_map g.P.Part.rows c.args.parts.now) (few_of c.args.before (length (flat_map g.P.Part.rows c.args.parts.now)) c.requires.room)) in
    let all_fits : SFits w32 (c.args.before +ℤ c.args.sums.sum) = rw is (whole_fits c.args.before (flat_map g.P.Part.rows c.args.parts.now) c.requires.room) in
    let long : c.args.sums.rows ≡ length (flat_map g.P.Part.rows c.args.parts.now) = ap (λ s. s.rows) c.requires.sums in
    rw end record {
      rows = long;
      weights =
          stored_both c.args.before c.args.sums.sum c.ranges.before part_fits all_fits
          ∙ ap (λ b. b +ℤ c.args.sums.sum) (sym (to_z-of_z w32 c.args.before c.ranges.before)) ∙ ap (λ s. to_z w32 (of_z w32 c.args.before) +ℤ s) is;
      none = none_beyond (to_z w32 (of_z w32 c.args.before)) (flat_map g.P.Part.rows c.args.parts.now) c.args.to c.args.sums.rows long;
    }

pub overflow_sub-sum : goal.overflow_sub-sum
overflow_sub-sum g c = (walk_back g.P.Part.rows c.args.parts.now (c.loop-index.index - 1) c.index-parts-index.result (omega (arith, c.loop-index.auto.index)) c.index-parts-index.is (to_z w32 (of_z w32 c.args.before)) (room_stored c.args.before (length (flat_map g.P.Part.rows c.args.parts.now)) c.ranges.before c.requires.room) (to_z w32 c.loop-index.sum-bits) c.sums-last.result c.sums-last.ensures c.args.to c.loop-index.index c.loop-index.passed (omega arith) c.loop-index.invariant).fits

pub last_zero-found-requires : goal.last_zero-found-requires
last_zero-found-requires g c =
    let back = walk_back g.P.Part.rows c.args.parts.now (c.loop-index.index - 1) c.index-parts-index.result (omega (arith, c.loop-index.auto.index)) c.index-parts-index.is (to_z w32 (of_z w32 c.args.before)) (room_stored c.args.before (length (flat_map g.P.Part.rows c.args.parts.now)) c.ranges.before c.requires.room) (to_z w32 c.loop-index.sum-bits) c.sums-last.result c.sums-last.ensures c.args.to c.loop-index.index c.loop-index.passed (omega arith) c.loop-index.invariant in
    room_there g.P.Part.rows c.args.parts.now (c.loop-index.index - 1) c.index-parts-index.result (omega (arith, c.loop-index.auto.index)) c.index-parts-index.is (to_z w32 (of_z w32 c.args.before)) (room_stored c.args.before (length (flat_map g.P.Part.rows c.args.parts.now)) c.ranges.before c.requires.room) (to_z w32 (of_z w32 (stored_back (to_z w32 c.loop-index.sum-bits) c.sums-last.result.sum))) back.weights

pub overflow_add-result : goal.overflow_add-result
overflow_add-result g c =
    let back = walk_back g.P.Part.rows c.args.parts.now (c.loop-index.index - 1) c.index-parts-index.result (omega (arith, c.loop-index.auto.index)) c.index-parts-index.is (to_z w32 (of_z w32 c.args.before)) (room_stored c.args.before (length (flat_map g.P.Part.rows c.args.parts.now)) c.ranges.before c.requires.room) (to_z w32 c.loop-index.sum-bits) c.sums-last.result c.sums-last.ensures c.args.to c.loop-index.index c.loop-index.passed (omega arith) c.loop-index.invariant in
    let less = fits g.P.Part.rows c.args.parts.now (c.loop-index.index - 1) c.index-parts-index.result (omega (arith, c.loop-index.auto.index)) c.index-parts-index.is in
    let few = few_of c.args.before (length (flat_map g.P.Part.rows c.args.parts.now)) c.requires.room in
    omega (arith, less, few, c.last_zero-found.ensures.inside, back.count)

pub returns-then-found-gt0 : goal.returns-then-found-gt0
returns-then-found-gt0 g c =
    let back = walk_back g.P.Part.rows c.args.parts.now (c.loop-index.index - 1) c.index-parts-index.result (omega (arith, c.loop-index.auto.index)) c.index-parts-index.is (to_z w32 (of_z w32 c.args.before)) (room_stored c.args.before (length (flat_map g.P.Part.rows c.args.parts.now)) c.ranges.before c.requires.room) (to_z w32 c.loop-index.sum-bits) c.sums-last.result c.sums-last.ensures c.args.to c.loop-index.index c.loop-index.passed (omega arith) c.loop-index.invariant in
    last_stored c.args.before (flat_map g.P.Part.rows c.args.parts.now) c.args.to _ c.ranges.before
    (last_found g.P.Part.rows c.args.parts.now (c.loop-index.index - 1) c.index-parts-index.result (omega (arith, c.loop-index.auto.index)) c.index-parts-index.is (to_z w32 (of_z w32 c.args.before)) (room_stored c.args.before (length (flat_map g.P.Part.rows c.args.parts.now)) c.ranges.before c.requires.room) (to_z w32 (of_z w32 (stored_back (to_z w32 c.loop-index.sum-bits) c.sums-last.result.sum))) back.weights c.args.to (c.loop-index.passed - c.sums-last.result.rows) c.last_zero-found.result c.loop-index.passed
    back.count back.after c.loop-index.invariant.none (omega arith) (rw c.beyond.ensures at c.last_zero-found.ensures))

pub loop-index-preserved : goal.loop-index-preserved
loop-index-preserved g c =
    let back = walk_back g.P.Part.rows c.args.parts.now (c.loop-index.index - 1) c.index-parts-index.result (omega (arith, c.loop-index.auto.index)) c.index-parts-index.is (to_z w32 (of_z w32 c.args.before)) (room_stored c.args.before (length (flat_map g.P.Part.rows c.args.parts.now)) c.ranges.before c.requires.room) (to_z w32 c.loop-index.sum-bits) c.sums-last.result c.sums-last.ensures c.args.to c.loop-index.index c.loop-index.passed (omega arith) c.loop-index.invariant in
    none_back g.P.Part.rows c.args.parts.now (c.loop-index.index - 1) c.index-parts-index.result (omega (arith, c.loop-index.auto.index)) c.index-parts-index.is (to_z w32 (of_z w32 c.args.before)) (room_stored c.args.before (length (flat_map g.P.Part.rows c.args.parts.now)) c.ranges.before c.requires.room) (to_z w32 (of_z w32 (stored_back (to_z w32 c.loop-index.sum-bits) c.sums-last.result.sum))) back.weights c.args.to (c.loop-index.passed - c.sums-last.result.rows) c.last_zero-found.result c.loop-index.passed
    back.count back.after c.loop-index.invariant.none (omega arith) (rw c.beyond.ensures at c.last_zero-found.ensures)

pub returns : goal.returns
returns g c =
    let start : c.loop-index.index ≡ 0 = omega arith in
    let none_passed : c.loop-index.passed ≡ 0 = c.loop-index.invariant.rows ∙ ap (λ n. length (flat_map g.P.Part.rows (take n c.args.parts.now))) start in
    let none : HasNoZero (to_z w32 (of_z w32 c.args.before)) (flat_map g.P.Part.rows c.args.parts.now) 1 c.args.to = λ place one up down within. c.loop-index.invariant.none place one (omega (arith, none_passed, one)) down within in
    last_stored c.args.before (flat_map g.P.Part.rows c.args.parts.now) c.args.to 0 c.ranges.before (none_last (to_z w32 (of_z w32 c.args.before)) (flat_map g.P.Part.rows c.args.parts.now) c.args.to none)
