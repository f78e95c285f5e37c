-- A write is handed the bytes after those that were appended, and appends some of them.
use Rattle.std.proofs.Common.{◌≡◌, ◌<◌, ◌-◌, Ok, Err, length, drop, take, ap, subst, refl, arith}
use Rattle.std.proofs.lemmas.List.{take_rest, length-drop}
use Rattle.retro_io.specs.Sink.{Appends, HandsAll}
use Rattle.retro_io.specs.SinkLaws.{Appends-none}
use Rattle.retro_io.proofs.SinkLemmas.{Appends-more}
use Rattle.retro_io.proofs.sink.put_until_fault.Goals as goal

pub loop-appended-init : goal.loop-appended-init
loop-appended-init g c = record {
  within = omega arith;
  appends = Appends-none (g.K.Sink.written c.args.sink.now);
  handed = HandsAll.start;
  untouched = λ _. refl;
  flushed = λ some. absurd (omega (arith, some));
  faults = omega arith;
}

pub loop-appended-preserved : goal.loop-appended-preserved
loop-appended-preserved g c =
    let bytes = c.args.bytes.now in
    let place = c.loop-appended.appended in
    let count = c.in-Ok.count in
    let piece = take_rest bytes place in
    let size : length (take (length bytes - place) (drop place bytes)) ≡ length bytes - place =
    omega (arith, ap length piece, length-drop place bytes) in
    let some : 0 < count = c.in-Ok.ensures.some (omega (arith, size)) in
    record {
      within = omega (arith, size, c.in-Ok.ensures.within);
      appends = Appends-more _ _ _ bytes place count (omega arith) c.loop-appended.invariant.appends
          (subst (λ xs. Appends (g.K.Sink.written c.loop-appended.sink) (take count xs) (g.K.Sink.written c.write.new.self)) piece
          c.in-Ok.ensures.appended);
      handed = HandsAll.write place count c.loop-appended.sink c.write.new.self c.loop-appended.invariant.handed (omega arith)
          (subst (λ xs. g.K.Sink.writes c.loop-appended.sink xs (Ok count) c.write.new.self) piece c.in-Ok.ensures.does);
      untouched = λ none. absurd (omega arith);
      flushed = λ _. c.in-Ok.ensures.flushed;
      faults = omega (arith, c.in-Ok.ensures.counts, c.loop-appended.invariant.faults);
    }

pub returns-in-Err-clause-appended : goal.returns-in-Err-clause-appended
returns-in-Err-clause-appended g c = rw c.in-Err.ensures.appended c.loop-appended.invariant.appends

pub returns-in-Err-clause-handed : goal.returns-in-Err-clause-handed
returns-in-Err-clause-handed g c = record {
  count = c.loop-appended.appended;
  middle = c.loop-appended.sink;
  fault = c.in-Err.field-0;
  handed = c.loop-appended.invariant.handed;
  left = omega arith;
  failed = subst (λ xs. g.K.Sink.writes c.loop-appended.sink xs (Err c.in-Err.field-0) c.write.new.self)
      (take_rest c.args.bytes.now c.loop-appended.appended) c.in-Err.ensures.does;
}

pub returns-clause-handed : goal.returns-clause-handed
returns-clause-handed g c =
    subst (λ n. HandsAll g.K.Sink.writes c.args.bytes.now c.args.sink.now n c.loop-appended.sink)
    (omega (arith, c.loop-appended.invariant.within)) c.loop-appended.invariant.handed
