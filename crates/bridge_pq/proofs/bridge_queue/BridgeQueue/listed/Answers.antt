use Rattle.std.proofs.Common.{◌≡◌, ◌≤◌, ◌+◌, ◌++◌, length, [], ◌∷◌, rules, drop, refl, sym, ap, ◌∙◌, arith, subst}
use Rattle.std.proofs.lemmas.Int.{to_z-of_z}
use Rattle.retro_base.specs.declared.question.Item.TheVariants.{Single}
use Rattle.retro_base.specs.Answers.{content}
use Rattle.retro_base.specs.Replay.{present}
use Rattle.retro_base.specs.declared.kind.Kind.TheVariants.{Pq}
use Rattle.retro_base.specs.Limits.{most_rows}
use Rattle.bridge_pq.proofs.Edited.{few-entries, few-rows}
use Rattle.bridge_pq.proofs.Present.{keys_in, keys-reported, keys-room, keys-pushed, keys-passed, keys-whole}
use Rattle.bridge_pq.proofs.bridge_queue.BridgeQueue.listed.Goals.{then-item+in_ok-push, else-item}
use Rattle.bridge_pq.proofs.bridge_queue.BridgeQueue.listed.Goals as goal

pub loop-place-init : goal.loop-place-init
loop-place-init g c = ap (λ l. l ++ keys_in c.self.inside.entries) c.new-listing.ensures

pub push-requires : goal.push-requires
push-requires g c =
    let few : length c.self.inside.entries ≤ most_rows = omega (arith, few-entries c.self.inside.rows c.self.inside.entries c.self.invariant, few-rows c.self.inside.rows c.self.inside.entries c.self.invariant) in
    omega (arith, keys-room c.self.inside.entries c.loop-place.listing c.loop-place.place c.loop-place.invariant few)

pub loop-place-preserved : goal.loop-place-preserved
loop-place-preserved g c = elim c.if-item.branch [
  | then-item+in_ok-push w ↦
      keys-pushed c.self.inside.entries c.loop-place.listing c.if-item.listing c.loop-place.place (c.loop-place.place + 1) c.get-item.result refl c.loop-place.invariant c.get-item.ensures.item w.if-item.true
      (w.listing-is ∙ w.in_ok-push.ensures.ok ∙ ap (λ k. c.loop-place.listing ++ Single k ∷ []) (search (rules, to_z-of_z)))
  | else-item w ↦
      subst (λ l. l ++ keys_in (drop (c.loop-place.place + 1) c.self.inside.entries) ≡ keys_in c.self.inside.entries) (sym w.listing-is)
      (keys-passed c.self.inside.entries c.loop-place.listing c.loop-place.place (c.loop-place.place + 1) c.get-item.result refl c.loop-place.invariant c.get-item.ensures.item w.if-item.false)
]

pub returns : goal.returns
returns g c =
    keys-whole c.self.inside.entries c.loop-place.listing c.loop-place.place c.loop-place.invariant (omega (arith, c.loop-place-test.false, c.len-place-end.ensures))
    ∙ sym (keys-reported c.self.inside.rows c.self.inside.entries c.self.invariant)
    ∙ ap (λ l. content (present Pq l)) c.self.view_is
