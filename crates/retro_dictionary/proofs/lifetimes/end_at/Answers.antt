use Rattle.std.proofs.Common.{◌≡◌, ap, ◌∙◌, arith, rules}
use Rattle.retro_dictionary.specs.Changes.{up_to_label}
use Rattle.retro_dictionary.specs.Edited.{placed_at, all_put, all_taken}
use Rattle.retro_dictionary.proofs.KeptLifetimes.{length-all_put, taken-put}
use Rattle.retro_dictionary.proofs.lifetimes.end_at.Goals as goal

pub move_end-requires : goal.move_end-requires
move_end-requires c =
    let put : c.add.new.segments ≡ all_put (up_to_label (placed_at c.args.label c.args.put.now) c.args.next) c.args.segments.now = search rules in
    record {
      can = record {
        rises = c.requires.can.before;
        within = omega (arith, c.requires.can.after_it, c.requires.can.within);
        room = rw put (omega (arith, length-all_put (placed_at c.args.label c.args.put.now) c.args.next c.args.segments.now, c.requires.can.room));
      };
    }

pub returns-then-is_err-clause-err : goal.returns-then-is_err-clause-err
returns-then-is_err-clause-err c =
    let put : c.add.new.segments ≡ all_put (up_to_label (placed_at c.args.label c.args.put.now) c.args.next) c.args.segments.now = search rules in
    let kept : c.move_end.new.segments ≡ c.add.new.segments = search rules in
    let taken : c.take.new.segments ≡ all_taken (up_to_label (placed_at c.args.label c.args.put.now) c.args.next) c.move_end.new.segments = search rules in
    taken ∙ ap (all_taken (up_to_label (placed_at c.args.label c.args.put.now) c.args.next)) (kept ∙ put) ∙ taken-put (placed_at c.args.label c.args.put.now) c.args.next c.args.segments.now
