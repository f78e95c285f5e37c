use Rattle.std.proofs.Common.{◌≤◌, length, sym, subst, rules}
use Rattle.std.specs.List.{insert}
use Rattle.retro_base.specs.declared.kind.Kind.TheVariants.{Dict}
use Rattle.retro_base.specs.InsertedLaws.{kind_for, room_for}
use Rattle.retro_base.specs.Timeline.{IsReplayable}
use Rattle.retro_dictionary.specs.Numbers.{IsOfNumbers}
use Rattle.retro_dictionary.proofs.dictionary.RetroDictionaryRetro.insert.Goals as goal

pub put-requires-clause-ready : goal.put-requires-clause-ready
put-requires-clause-ready c =
    let within : c.args.place ≤ length c.self.inside.kept.rows = search rules in
    let after : IsReplayable Dict (insert c.self.inside.kept.rows c.args.place c.args.row) =
    subst (λ rows. IsReplayable Dict (insert rows c.args.place c.args.row)) (sym c.self.view_is) c.requires.replayable in
    let numbers : IsOfNumbers c.args.row.op = search rules in
    record {
      all = c.self.invariant;
      can = record { within = within; after = after; of_numbers = numbers };
      of_kind = kind_for Dict c.self.inside.kept.rows c.args.place c.args.row after;
      few = room_for Dict c.self.inside.kept.rows c.args.place c.args.row within after;
    }
