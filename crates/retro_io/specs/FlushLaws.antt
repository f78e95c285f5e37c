-- Laws of sinks that stay unflushed, which the proofs of the layer above may cite.
use Rattle.std.proofs.Common.{◌≡◌, ℕ, ◌<◌, ◌⊎◌, false, List, [], ◌∷◌, ◌++◌, length, drop, length-drop, Ok, Err, sym, ◌∙◌, refl, subst, inl, inr, arith}
use Rattle.std.proofs.lemmas.List.{length-append}
use Rattle.retro_io.specs.declared.sink.Sink.{Ghosts}
use Rattle.retro_io.specs.declared.source.Failed.{Failed}
use Rattle.retro_io.specs.Flushes.{Sends, IsSent, IsWritten, AppendsUnflushed, StaysUnflushed, EndsWithFailedSend, EndsWithFailedWrite}
use Rattle.retro_io.specs.Sink.{Appends, HandsAll, HandsAllUntilFault}
use Rattle.retro_io.specs.SinkLaws.{Appends-append}

module _ {S : Type 0} (G : Ghosts S) (sends : Sends S) where
  -- first some sends, and then more
  IsSent-more : (a b c : S) → IsSent G sends a b → IsSent G sends b c → IsSent G sends a c
  IsSent-more a b c p IsSent.start = p
  IsSent-more a b c p (IsSent.send answer middle after q done) = IsSent.send answer middle after (IsSent-more a b middle p q) done

  -- where a send does nothing, some sends do nothing
  pub IsSent-plain : ((a b : S) (answer : Unit {0}) → sends a (Ok answer) b → b ≡ a) → (a b : S) → IsSent G sends a b → b ≡ a
  IsSent-plain plain a b IsSent.start = refl
  IsSent-plain plain a b (IsSent.send answer middle after p done) = plain middle after answer done ∙ IsSent-plain plain a middle p

  -- sends are writes and sends
  IsWritten-sent : (a b : S) → IsSent G sends a b → IsWritten G sends a b
  IsWritten-sent a b IsSent.start = IsWritten.start
  IsWritten-sent a b (IsSent.send answer middle after p done) = IsWritten.send answer middle after (IsWritten-sent a middle p) done

  -- writes that were handed all that was left
  pub IsWritten-handed : (bytes : List ℕ) (a : S) (count : ℕ) (b : S) → HandsAll G.writes bytes a count b → IsWritten G sends a b
  IsWritten-handed bytes a count b HandsAll.start = IsWritten.start
  IsWritten-handed bytes a count b (HandsAll.write before more middle after handed left done) =
      IsWritten.write (drop before bytes) more middle after (IsWritten-handed bytes a before middle handed) (omega (arith, length-drop before bytes, left)) done

  -- first some writes and sends, and then more
  pub IsWritten-more : (a b c : S) → IsWritten G sends a b → IsWritten G sends b c → IsWritten G sends a c
  IsWritten-more a b c p IsWritten.start = p
  IsWritten-more a b c p (IsWritten.write piece count middle after q some done) =
      IsWritten.write piece count middle after (IsWritten-more a b middle p q) some done
  IsWritten-more a b c p (IsWritten.send answer middle after q done) = IsWritten.send answer middle after (IsWritten-more a b middle p q) done

  -- nothing was called
  pub StaysUnflushed-none : (a : S) → StaysUnflushed G sends a a
  StaysUnflushed-none a = inl record { calls = IsSent.start; written = refl; flushed = refl }

  -- one send that succeeded
  pub StaysUnflushed-send : (a b : S) (answer : Unit {0}) → sends a (Ok answer) b → G.written b ≡ G.written a → G.flushed b ≡ G.flushed a → StaysUnflushed G sends a b
  StaysUnflushed-send a b answer done written flushed =
      inl record { calls = IsSent.send answer a b IsSent.start done; written = written; flushed = flushed }

  -- some bytes, or none, in which case nothing was done
  pub StaysUnflushed-put : (a b : S) (bytes : List ℕ) → (length bytes ≡ 0 → b ≡ a) → (0 < length bytes → G.flushed b ≡ false)
      → HandsAll G.writes bytes a (length bytes) b → Appends (G.written a) bytes (G.written b) → StaysUnflushed G sends a b
  StaysUnflushed-put a b [] nothing unflushed handed p = subst (λ s. StaysUnflushed G sends a s) (sym (nothing refl)) (StaysUnflushed-none a)
  StaysUnflushed-put a b (x ∷ xs) nothing unflushed handed p =
      let some : 0 < length (x ∷ xs) = omega arith in
      inr record { text = x ∷ xs; some = some; appended = p; writes = IsWritten-handed (x ∷ xs) a (length (x ∷ xs)) b handed; unflushed = unflushed some }

  -- a sink that stays unflushed was only written to and sent
  pub IsWritten-unflushed : (a b : S) → StaysUnflushed G sends a b → IsWritten G sends a b
  IsWritten-unflushed a b (inl p) = IsWritten-sent a b p.calls
  IsWritten-unflushed a b (inr p) = p.writes

  -- first some bytes, and then more
  pub StaysUnflushed-more : (a b c : S) → StaysUnflushed G sends a b → StaysUnflushed G sends b c → StaysUnflushed G sends a c
  StaysUnflushed-more a b c (inl p) (inl q) =
      inl record { calls = IsSent-more a b c p.calls q.calls; written = q.written ∙ p.written; flushed = q.flushed ∙ p.flushed }
  StaysUnflushed-more a b c (inl p) (inr q) = inr record {
    text = q.text;
    some = q.some;
    appended = subst (λ w. Appends w q.text (G.written c)) p.written q.appended;
    writes = IsWritten-more a b c (IsWritten-sent a b p.calls) q.writes;
    unflushed = q.unflushed;
  }
  StaysUnflushed-more a b c (inr p) (inl q) = inr record {
    text = p.text;
    some = p.some;
    appended = subst (λ w. Appends (G.written a) p.text w) (sym q.written) p.appended;
    writes = IsWritten-more a b c p.writes (IsWritten-sent b c q.calls);
    unflushed = q.flushed ∙ p.unflushed;
  }
  StaysUnflushed-more a b c (inr p) (inr q) = inr record {
    text = p.text ++ q.text;
    some = omega (arith, length-append p.text q.text, p.some);
    appended = Appends-append (G.written a) (G.written b) (G.written c) p.text q.text p.appended q.appended;
    writes = IsWritten-more a b c p.writes q.writes;
    unflushed = q.unflushed;
  }

  -- where a send does nothing, a sink is as it was, or some bytes were appended
  pub StaysUnflushed-plain : ((a b : S) (answer : Unit {0}) → sends a (Ok answer) b → b ≡ a) → (a b : S) → StaysUnflushed G sends a b
      → (b ≡ a) ⊎ AppendsUnflushed G sends a b
  StaysUnflushed-plain plain a b (inl p) = inl (IsSent-plain plain a b p.calls)
  StaysUnflushed-plain plain a b (inr p) = inr p

  -- writes that were handed all that was left, until one failed
  pub EndsWithFailedWrite-handed : (bytes : List ℕ) (a b : S) → HandsAllUntilFault G.writes bytes a b → EndsWithFailedWrite G sends a b
  EndsWithFailedWrite-handed bytes a b handed = record {
    middle = handed.middle;
    piece = drop handed.count bytes;
    fault = handed.fault;
    wrote = IsWritten-handed bytes a handed.count handed.middle handed.handed;
    some = omega (arith, length-drop handed.count bytes, handed.left);
    failed = handed.failed;
  }

  -- first some bytes, and then a write that failed
  pub EndsWithFailedWrite-more : (a b c : S) → StaysUnflushed G sends a b → EndsWithFailedWrite G sends b c → EndsWithFailedWrite G sends a c
  EndsWithFailedWrite-more a b c p q = record {
    middle = q.middle;
    piece = q.piece;
    fault = q.fault;
    wrote = IsWritten-more a b q.middle (IsWritten-unflushed a b p) q.wrote;
    some = q.some;
    failed = q.failed;
  }

  -- a send that failed
  pub EndsWithFailedSend-at : (a b : S) (fault : Failed) → sends a (Err fault) b → EndsWithFailedSend G sends a b
  EndsWithFailedSend-at a b fault failed = record { middle = a; fault = fault; wrote = StaysUnflushed-none a; failed = failed }

  -- first some bytes, and then a send that failed
  pub EndsWithFailedSend-more : (a b c : S) → StaysUnflushed G sends a b → EndsWithFailedSend G sends b c → EndsWithFailedSend G sends a c
  EndsWithFailedSend-more a b c p q = record {
    middle = q.middle;
    fault = q.fault;
    wrote = StaysUnflushed-more a b q.middle p q.wrote;
    failed = q.failed;
  }
