use Rattle.std.proofs.Common.{◌≤◌, ◌∙◌, length, ap, arith, subst, sym}
use Rattle.retro_base.specs.Limits.{most_rows}
use Rattle.pq_fusion.specs.Chunks.{entries_of, starts_of}
use Rattle.pq_fusion.specs.Exchanges.{IsExchange}
use Rattle.pq_fusion.proofs.Chunked.{starts_length}
use Rattle.pq_fusion.proofs.Exchanged.{exchanged_few}
use Rattle.pq_fusion.proofs.chunks.RoomyChunks.exchange.Goals as goal

pub count_anew-count-requires-clause-few : goal.count_anew-count-requires-clause-few
count_anew-count-requires-clause-few g c =
    let wanted = c.requires.there.0 in
    let old = entries_of c.self.inside.chunks.items in
    let inside : IsExchange c.args.put c.args.take old wanted = subst (λ xs. IsExchange c.args.put c.args.take xs wanted) (sym c.self.view_is) c.requires.there.1.0 in
    subst (λ xs. length (entries_of xs) ≤ most_rows) (sym c.deref.ensures.value)
    (exchanged_few c.args.put c.args.take old wanted (entries_of c.exchange_among.new.chunks.items) c.exchange_among.ensures.items inside c.requires.there.1.1)

pub count_anew-count-requires-clause-room : goal.count_anew-count-requires-clause-room
count_anew-count-requires-clause-room g c =
    omega (
      arith,
      c.exchange_among.ensures.few,
      c.deref.ensures.len,
      c.self.invariant.2,
      ap length c.self.invariant.0.counted,
      starts_length c.self.inside.chunks.items 0,
      c.self.inside.starts.ok,
      c.self.inside.chunks.ok,
    )

pub invariant_of-result : goal.invariant_of-result
invariant_of-result g c =
    let wanted = c.requires.there.0 in
    let old = entries_of c.self.inside.chunks.items in
    let inside : IsExchange c.args.put c.args.take old wanted = subst (λ xs. IsExchange c.args.put c.args.take xs wanted) (sym c.self.view_is) c.requires.there.1.0 in
    record {
      order = c.exchange_among.ensures.items.order;
      few = exchanged_few c.args.put c.args.take old wanted (entries_of c.exchange_among.new.chunks.items) c.exchange_among.ensures.items inside c.requires.there.1.1;
      filled = c.exchange_among.ensures.chunks;
      counted = c.count_anew-count.ensures.starts ∙ ap (starts_of 0) c.deref.ensures.value;
      total = c.count_anew-count.ensures.count ∙ ap (λ xs. length (entries_of xs)) c.deref.ensures.value;
    }
