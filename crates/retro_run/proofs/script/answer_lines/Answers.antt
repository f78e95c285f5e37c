use Rattle.std.proofs.Common.{◌≡◌, ℕ, List, subst, ◌||◌, ◌+◌, ◌-◌, false, refl, ◌∙◌, ap, arith, Err}
use Rattle.std.proofs.lemmas.Result.{err_from_is_err_and}
use Rattle.retro_base.specs.Limits.{most_bytes}
use Rattle.retro_io.specs.FlushLaws.{StaysUnflushed-more, StaysUnflushed-none}
use Rattle.retro_io.specs.LineReader.{held, line_of, has_ended, limit_of, source_of, taken}
use Rattle.retro_io.specs.ReaderLaws.{MovesOn-none, MovesOn-then}
use Rattle.reactions.specs.Reaction.{closing}
use Rattle.retro_run.specs.Audience.{Audience, audience_by, followed, follows_to}
use Rattle.retro_run.specs.Delivery.{Writes}
use Rattle.retro_run.specs.Run.{AppendsOutput, MatchesRefusal}
use Rattle.retro_run.proofs.Ends.{sent_on, stop_at, stands_at_answer, stands_at_error, stands_at_send, told}
use Rattle.retro_run.proofs.GoesOn.{goes_on_answered, goes_on_first, heard_at_end, output_at_end, part_at_end, part_at_line, refusal_at_end, short_at_end, short_at_line, takes_end}
use Rattle.retro_run.proofs.GoesOn.{takes_line}
use Rattle.retro_run.proofs.Reported.{HaveFollowed}
use Rattle.retro_run.proofs.Shown.{GivenAs, open_before_error, open_before_line}
use Rattle.retro_run.proofs.script.answer_lines.Goals as goal
use Rattle.retro_run.proofs.script.answer_lines.Goals.{in-Whole, in-Long}

pub returns-in_err-next_line-clause-moves : goal.returns-in_err-next_line-clause-moves
returns-in_err-next_line-clause-moves g c = MovesOn-then c.args.reader.now.reader c.loop-reader.reader.reader c.next_line.new.self.reader c.loop-reader.invariant.moves c.next_line.ensures.moves

pub returns-in-End-clause-moves : goal.returns-in-End-clause-moves
returns-in-End-clause-moves g c = MovesOn-then c.args.reader.now.reader c.loop-reader.reader.reader c.next_line.new.self.reader c.loop-reader.invariant.moves c.in_ok-next_line.ensures.moves

pub returns-in_err-refused-clause-moves : goal.returns-in_err-refused-clause-moves
returns-in_err-refused-clause-moves g c = MovesOn-then c.args.reader.now.reader c.loop-reader.reader.reader c.next_line.new.self.reader c.loop-reader.invariant.moves c.in_ok-next_line.ensures.moves

pub returns-in_err-send_before_read-clause-stands : goal.returns-in_err-send_before_read-clause-stands
returns-in_err-send_before_read-clause-stands g c =
    let p = err_from_is_err_and c.from_residual.result c.from_residual.ensures.1 in
    let failed = c.in_err-send_before_read.ensures in
    rw (p.1, p.2, failed.failed)
    (stands_at_send g.S.Source g.K.Sink g.K.SendingSink.sends _ _ (source_of c.loop-reader.reader.reader) (source_of c.loop-reader.reader.reader) _ _ _ _ _ _ _ _ c.loop-reader.invariant.went_on c.loop-reader.invariant.unflushed _ failed.written failed.last)

pub returns-in_err-next_line-clause-stands : goal.returns-in_err-next_line-clause-stands
returns-in_err-next_line-clause-stands g c =
    let p = err_from_is_err_and c.from_residual-in_err-next_line.result c.from_residual-in_err-next_line.ensures.1 in
    let before = c.loop-reader.reader.reader in
    let now = c.next_line.new.self.reader in
    let unended : has_ended before ≡ false = open_before_error _ _ c.in_err-next_line.ensures.kept.end in
    let limit : limit_of now ≡ most_bytes = c.in_err-next_line.ensures.moves.limit ∙ c.loop-reader.invariant.moves.limit ∙ c.requires.limit in
    rw p.1
    (stands_at_error g.S.Source g.K.Sink g.K.SendingSink.sends _ _ (source_of before) (source_of now) _ _ (held before) (has_ended before) (taken before) _ _ _
    (sent_on g.S.Source g.K.Sink _ _ _ _ _ _ _ _ _ _ _ _ c.send_before_read.ensures.written c.loop-reader.invariant.went_on)
    (StaysUnflushed-more g.K.Sink g.K.SendingSink.sends _ _ _ c.loop-reader.invariant.unflushed c.in_ok-send_before_read.ensures.unflushed)
    c.in_err-next_line.field-0.0 p.0 (held now) (line_of now) (has_ended now) (has_ended before) (limit_of before - taken before) (taken now) p.2 unended
    c.in_err-next_line.ensures.stops.unbroken c.in_err-next_line.ensures.moves.more
    (λ too_long. c.in_err-next_line.ensures.shows.1.0 (ap Err too_long) ∙ ap (λ n. n + 1) limit) c.in_err-next_line.ensures.took)

pub returns-in_err-refused-clause-stands : goal.returns-in_err-refused-clause-stands
returns-in_err-refused-clause-stands g c =
    let p = err_from_is_err_and c.from_residual-in_err-refused.result c.from_residual-in_err-refused.ensures.1 in
    let who : Audience = audience_by (λ b. (goal.Follower-dyn g (b.vtable, b.value)).report_after b.value) c.loop-reader.followers in
    let before = c.loop-reader.reader.reader in
    let now = c.next_line.new.self.reader in
    let as_given : GivenAs c.in_ok-next_line.field-0 c.match-branch-3.long =
    elim c.match-branch-3.branch [ in-Whole w ↦ rw w.in-Whole.is w.long-is | in-Long w ↦ rw w.in-Long.is w.long-is ] in
    let unended : has_ended before ≡ false = open_before_line _ _ _ as_given c.in_ok-next_line.ensures.kept.end in
    let on = sent_on g.S.Source g.K.Sink _ _ _ _ _ _ _ _ _ _ _ _ c.send_before_read.ensures.written c.loop-reader.invariant.went_on in
    rw (p.1, p.2)
    (stands_at_answer g.S.Source g.K.Sink g.K.SendingSink.sends _ _ (source_of before) (source_of now) _ _ _ _ c.in_err-refused.field-0.0
    (StaysUnflushed-more g.K.Sink g.K.SendingSink.sends _ _ _ c.loop-reader.invariant.unflushed c.in_ok-send_before_read.ensures.unflushed)
    (subst (λ (shown : List ℕ). Writes g.K.Sink g.K.SendingSink.sends (follows_to (g.B.AnyBench.state c.loop-reader.bench).bench who shown c.match-branch-3.long).reaction.answer
    (c.answer_line.new.sink ≡ c.send_before_read.new.sink) c.send_before_read.new.sink c.answer_line.new.sink (stop_at c.in_err-refused.field-0.0))
    c.line.ensures c.in_err-refused.ensures.writes)
    (λ script from part. part_at_line g.S.Source _ script _ _ (source_of before) (source_of now) (held before) (held now) _ _ _ _ _ _ _ (on script from) _ _ _
    (takes_line g.S.Source _ script _ _ (source_of before) (source_of now) (held before) (held now) (line_of now) (has_ended before) (taken before) _ _ _ _ (on script from)
    c.in_ok-next_line.field-0 c.match-branch-3.long (has_ended now) (has_ended before) (limit_of before - taken before) (taken now) as_given unended
    c.in_ok-next_line.ensures.moves.more c.in_ok-next_line.ensures.took now.none_left) _ part)
    (λ script from.
    let line =
    takes_line g.S.Source _ script _ _ (source_of before) (source_of now) (held before) (held now) (line_of now) (has_ended before) (taken before) _ _ _ _ (on script from)
    c.in_ok-next_line.field-0 c.match-branch-3.long (has_ended now) (has_ended before) (limit_of before - taken before) (taken now) as_given unended
    c.in_ok-next_line.ensures.moves.more c.in_ok-next_line.ensures.took now.none_left in (
      line.left,
      line.left_is,
      short_at_line g.S.Source _ script _ _ (source_of before) (source_of now) (held before) (held now) _ _ _ _ _ _ _ (on script from) _ _ _ line,
    )))

pub returns-in_err-refused-in-End-clause-stands : goal.returns-in_err-refused-in-End-clause-stands
returns-in_err-refused-in-End-clause-stands g c =
    let p = err_from_is_err_and c.from_residual-in_err-refused-in-End.result c.from_residual-in_err-refused-in-End.ensures.1 in
    let before = c.loop-reader.reader.reader in
    let now = c.next_line.new.self.reader in
    let on = sent_on g.S.Source g.K.Sink _ _ _ _ _ _ _ _ _ _ _ _ c.send_before_read.ensures.written c.loop-reader.invariant.went_on in
    rw (p.1, p.2)
    (stands_at_answer g.S.Source g.K.Sink g.K.SendingSink.sends _ _ (source_of before) (source_of now) _ _ _ _ c.in_err-refused-in-End.field-0.0
    (StaysUnflushed-more g.K.Sink g.K.SendingSink.sends _ _ _ c.loop-reader.invariant.unflushed c.in_ok-send_before_read.ensures.unflushed)
    c.in_err-refused-in-End.ensures.writes
    (λ script from part. part_at_end g.S.Source _ script _ _ (source_of before) (source_of now) (held before) (held now) (line_of now) _ _ _ _ _ _ (on script from)
    (takes_end g.S.Source _ script _ _ (source_of before) (source_of now) (held before) (held now) (line_of now) _ _ _ _ _ _ (on script from)
    (has_ended now) (has_ended before) (limit_of before - taken before) _ (rw c.in-End.is at c.in_ok-next_line.ensures.took) now.none_left) _ part)
    (λ script from.
    let all =
    takes_end g.S.Source _ script _ _ (source_of before) (source_of now) (held before) (held now) (line_of now) _ _ _ _ _ _ (on script from)
    (has_ended now) (has_ended before) (limit_of before - taken before) _ (rw c.in-End.is at c.in_ok-next_line.ensures.took) now.none_left in (
      all.left,
      all.left_is,
      short_at_end g.S.Source _ script _ _ (source_of before) (source_of now) (held before) (held now) (line_of now) _ _ _ _ _ _ (on script from) all
          (c.in_ok-next_line.ensures.gives.at_end c.in-End.is).2,
    )))

pub returns-in-End-clause-answered : goal.returns-in-End-clause-answered
returns-in-End-clause-answered g c =
    let before = c.loop-reader.reader.reader in
    let now = c.next_line.new.self.reader in
    let on = sent_on g.S.Source g.K.Sink _ _ _ _ _ _ _ _ _ _ _ _ c.send_before_read.ensures.written c.loop-reader.invariant.went_on in
    let closed = c.in_ok-refused-in-End.ensures in
    let who : Audience = audience_by (λ b. (goal.Follower-dyn g (b.vtable, b.value)).report_after b.value) c.args.followers.now in
    record {
      ended = (c.in_ok-next_line.ensures.gives.at_end c.in-End.is).2;
      output = told (λ script. AppendsOutput (followed who) script (g.K.Sink.written c.args.sink.now) (g.K.Sink.written c.answer_end.new.sink)) _ tt
          (λ script from. output_at_end g.S.Source _ script _ _ (source_of before) (source_of now) (held before) (held now) (line_of now) _ _ _ _ _ _ (on script from)
          (takes_end g.S.Source _ script _ _ (source_of before) (source_of now) (held before) (held now) (line_of now) _ _ _ _ _ _ (on script from)
          (has_ended now) (has_ended before) (limit_of before - taken before) _ (rw c.in-End.is at c.in_ok-next_line.ensures.took) now.none_left) _ closed.writes.0);
      unflushed = StaysUnflushed-more g.K.Sink g.K.SendingSink.sends _ _ _
          (StaysUnflushed-more g.K.Sink g.K.SendingSink.sends _ _ _ c.loop-reader.invariant.unflushed c.in_ok-send_before_read.ensures.unflushed) closed.writes.1;
      refusal = rw closed.refused (told (λ script. MatchesRefusal (followed who) script (c.loop-reader.refused || (closing (g.B.AnyBench.state c.loop-reader.bench).bench).refused)) _ tt
          (λ script from. refusal_at_end g.S.Source _ script _ _ (source_of before) (source_of now) (held before) (held now) (line_of now) _ _ _ _ _ _ (on script from)
          (takes_end g.S.Source _ script _ _ (source_of before) (source_of now) (held before) (held now) (line_of now) _ _ _ _ _ _ (on script from)
          (has_ended now) (has_ended before) (limit_of before - taken before) _ (rw c.in-End.is at c.in_ok-next_line.ensures.took) now.none_left)));
    }

pub returns-in-End-clause-handed : goal.returns-in-End-clause-handed
returns-in-End-clause-handed g c =
    let before = c.loop-reader.reader.reader in
    let now = c.next_line.new.self.reader in
    let first : Audience = audience_by (λ b. (goal.Follower-dyn g (b.vtable, b.value)).report_after b.value) c.args.followers.now in
    let last : Audience = audience_by (λ b. (goal.Follower-dyn g (b.vtable, b.value)).report_after b.value) c.loop-reader.followers in
    told (λ script. HaveFollowed script first last) _ tt
    (λ script from.
    heard_at_end g.S.Source _ script _ _ (source_of before) (source_of now) (held before) (held now) (line_of now) _ _ _ _ _ _ (c.loop-reader.invariant.went_on script from)
    (takes_end g.S.Source _ script _ _ (source_of before) (source_of now) (held before) (held now) (line_of now) _ _ _ _ _ _ (c.loop-reader.invariant.went_on script from)
    (has_ended now) (has_ended before) (limit_of before - taken before) _ (rw c.in-End.is at c.in_ok-next_line.ensures.took) now.none_left))

pub next_line-requires-clause-sent : goal.next_line-requires-clause-sent
next_line-requires-clause-sent g c = c.in_ok-send_before_read.ensures.sent

pub loop-reader-init : goal.loop-reader-init
loop-reader-init g c = record {
  moves = MovesOn-none c.args.reader.now.reader c.args.reader.now.reader.within;
  unspent = rw c.requires.new refl;
  failed = c.requires.unread.unfailed;
  source_faults = omega arith;
  sink_faults = omega arith;
  unflushed = StaysUnflushed-none g.K.Sink g.K.SendingSink.sends _;
  went_on = λ script from.
      rw c.requires.new (goes_on_first g.S.Source _ script _ _ (held c.args.reader.now.reader) (has_ended c.args.reader.now.reader) (taken c.args.reader.now.reader) from
      c.requires.unread.held c.requires.unread.taken);
}

pub loop-reader-preserved : goal.loop-reader-preserved
loop-reader-preserved g c =
    let before = c.loop-reader.reader.reader in
    let now = c.next_line.new.self.reader in
    let as_given : GivenAs c.in_ok-next_line.field-0 c.match-branch-3.long =
    elim c.match-branch-3.branch [ in-Whole w ↦ rw w.in-Whole.is w.long-is | in-Long w ↦ rw w.in-Long.is w.long-is ] in
    let unended : has_ended before ≡ false = open_before_line _ _ _ as_given c.in_ok-next_line.ensures.kept.end in
    let on = sent_on g.S.Source g.K.Sink _ _ _ _ _ _ _ _ _ _ _ _ c.send_before_read.ensures.written c.loop-reader.invariant.went_on in
    let answered = rw c.line.ensures at c.in_ok-refused.ensures.answered in
    let writes = rw c.line.ensures at c.in_ok-refused.ensures.writes in
    record {
      moves = MovesOn-then c.args.reader.now.reader before now c.loop-reader.invariant.moves c.in_ok-next_line.ensures.moves;
      unspent = rw answered.0 refl;
      failed = c.in_ok-next_line.ensures.shows.0;
      source_faults = omega (arith, c.in_ok-next_line.ensures.source_faults, c.loop-reader.invariant.source_faults);
      sink_faults = omega (arith, c.in_ok-refused.ensures.sink_faults, c.in_ok-send_before_read.ensures.sink_faults, c.loop-reader.invariant.sink_faults);
      unflushed = StaysUnflushed-more g.K.Sink g.K.SendingSink.sends _ _ _
          (StaysUnflushed-more g.K.Sink g.K.SendingSink.sends _ _ _ c.loop-reader.invariant.unflushed c.in_ok-send_before_read.ensures.unflushed) writes.1;
      went_on = λ script from.
          goes_on_answered g.S.Source _ script _ _ (source_of before) (source_of now) (held before) (held now) (line_of now) _ _ _ _ _ _ (on script from) c.match-branch-3.long (has_ended now) (taken now)
          (takes_line g.S.Source _ script _ _ (source_of before) (source_of now) (held before) (held now) (line_of now) (has_ended before) (taken before) _ _ _ _ (on script from)
          c.in_ok-next_line.field-0 c.match-branch-3.long (has_ended now) (has_ended before) (limit_of before - taken before) (taken now) as_given unended
          c.in_ok-next_line.ensures.moves.more c.in_ok-next_line.ensures.took now.none_left)
          (g.B.AnyBench.state c.answer_line.new.bench) _ _ _ answered writes.0;
    }
