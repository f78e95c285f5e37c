use Rattle.std.proofs.Common.{append_assoc}
use Rattle.reactions.proofs.outcome.Refusal.print.Goals as goal

pub returns-in_ok-push_all-in-Timelines : goal.returns-in_ok-push_all-in-Timelines
returns-in_ok-push_all-in-Timelines c =
    rw c.in-Timelines.is (rw (c.in_ok-push_all-in-Timelines.ensures.ok, append_assoc c.args.out.now _ _) at c.push_number.ensures.ok)

pub returns-in_ok-push_all-in-NoTimeline : goal.returns-in_ok-push_all-in-NoTimeline
returns-in_ok-push_all-in-NoTimeline c =
    rw c.in-NoTimeline.is (rw (c.in_ok-push_all-in-NoTimeline.ensures.ok, c.bytes.ensures.same, append_assoc c.args.out.now _ _) at c.push_all-in-NoTimeline-2.ensures.ok)

pub returns-in_ok-push_all-in-RowLine-2 : goal.returns-in_ok-push_all-in-RowLine-2
returns-in_ok-push_all-in-RowLine-2 c =
    let out = c.args.out.now in
    rw (c.in-RowLine.is, ← c.cause_word.ensures)
    (rw (
      c.in_ok-push_all-in-RowLine-2.ensures.ok,
      c.in_ok-push_number-in-RowLine.ensures.ok,
      c.in_ok-push_all-in-RowLine.ensures.ok,
      append_assoc out _ _,
      append_assoc out _ _,
      append_assoc out _ _,
    ) at c.push_all-in-RowLine-3.ensures.ok)
