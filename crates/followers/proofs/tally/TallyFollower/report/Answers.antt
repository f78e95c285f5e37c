-- What stands in the text where memory runs out is the front of the report.
use Rattle.std.proofs.Common.{rules, ◌++◌, append_assoc, codes, decimal}
use Rattle.std.specs.Fmt.{signed_decimal}
use Rattle.retro_base.specs.Text.{AppendsPrefix}
use Rattle.followers.specs.Totals.{totals_text}
use Rattle.followers.proofs.tally.TallyFollower.report.Goals as goal

pub returns-in_err-push_number-2-clause-err : goal.returns-in_err-push_number-2-clause-err
returns-in_err-push_number-2-clause-err c =
    let now = c.args.self.now in
    let part : AppendsPrefix c.args.out.now c.push_number-2.new.self (totals_text now) = record {
      part = codes "gains " ++ (decimal now.gains ++ codes " losses ");
      rest = decimal now.losses ++ (codes " sum " ++ signed_decimal now.sum);
      whole = simp append_assoc;
      appended = rw (c.in_err-push_number-2.ensures.err, c.in_ok-push_all-2.ensures.ok, c.in_ok-push_number.ensures.ok, c.in_ok-push_all.ensures.ok, ← c.self.view_is) (simp append_assoc);
    } in
    search rules

pub returns-in_err-push_all-3-clause-err : goal.returns-in_err-push_all-3-clause-err
returns-in_err-push_all-3-clause-err c =
    let now = c.args.self.now in
    let part : AppendsPrefix c.args.out.now c.push_all-3.new.self (totals_text now) = record {
      part = codes "gains " ++ (decimal now.gains ++ (codes " losses " ++ decimal now.losses));
      rest = codes " sum " ++ signed_decimal now.sum;
      whole = simp append_assoc;
      appended = rw (c.in_err-push_all-3.ensures.err, c.in_ok-push_number-2.ensures.ok, c.in_ok-push_all-2.ensures.ok, c.in_ok-push_number.ensures.ok, c.in_ok-push_all.ensures.ok, ← c.self.view_is)
          (simp append_assoc);
    } in
    search rules
