-- What the rows without an entry come to: from the first bridge on the least entry that is held there is missing to the end,
-- or, where none is held there, they fail at the row that ended at the bridge.
use Rattle.std.proofs.Common.{◌≡◌, ℕ, suc, ◌+◌, ◌-◌, ◌≤◌, List, [], ◌∷◌, ◌++◌, length, take, drop, length-append, ◌⊎◌, inl, inr, ap, sym, ◌∙◌, arith, subst, Some}
use Rattle.std.specs.Result.{result_err}
use Rattle.std.proofs.lemmas.List.{take-map}
use Rattle.retro_base.specs.declared.kind.Kind.TheVariants.{Pq}
use Rattle.retro_base.specs.declared.row.Entry.{Entry}
use Rattle.retro_base.specs.declared.row.Row.{Row}
use Rattle.retro_base.specs.State.{with_entry}
use Rattle.retro_base.specs.Replay.{failure, IsValid}
use Rattle.retro_base.specs.Timeline.{AreOfKind}
use Rattle.retro_base.specs.Bridges.{entries_at, survivors, IsFirstBridge}
use Rattle.retro_base.specs.Changes.{Joins}
use Rattle.retro_base.specs.Weights.{added_by}
use Rattle.retro_base.specs.lemmas.bridges.Bridging.{AllIn, bridge_all, all_bridge}
use Rattle.retro_base.specs.lemmas.bridges.Entries.{In, first_once, with_above}
use Rattle.retro_base.specs.lemmas.bridges.Moves.{Leads, FailsAt, Ready, fails_later}
use Rattle.retro_base.specs.lemmas.bridges.Histories.{moves_of, moves_append, moves_length, fails_run}
use Rattle.retro_base.specs.lemmas.bridges.Junctions.{Junction, rich_ready}
use Rattle.retro_base.specs.lemmas.bridges.After.{after_place, all_after, entries_after}
use Rattle.retro_base.specs.lemmas.bridges.Surviving.{poor_valid, kept_to_end}
use Rattle.retro_base.specs.lemmas.bridges.Later.{junction_between, ready_after}
use Rattle.retro_base.specs.lemmas.bridges.Lost.{Missing, lost}

-- the rows without it: they replay whole and miss the least entry of the bridge, or the bridge holds none and they fail
abbrev pub Losing : List Row → List Row → ℕ → ℕ → Type 0
Losing poor rich bridge index = ((y : Entry) × (rest : List Entry) × (entries_at rich bridge ≡ y ∷ rest) × IsValid Pq poor × Joins y (survivors poor) (survivors rich))
    ⊎ ((entries_at rich bridge ≡ []) × (failure Pq poor ≡ Some index))

-- rows whose moves fail
pub fails_failure : (rows : List Row) (index : ℕ) (front after : List Row) (held : List Entry) (i : ℕ) → rows ≡ front ++ after → index ≡ length front + i
    → Leads (moves_of front) [] held → FailsAt (moves_of after) held i → AreOfKind Pq rows → failure Pq rows ≡ Some index
fails_failure rows index front after held i is at first fails kind =
    let whole : FailsAt (moves_of rows) [] index = subst (λ l. FailsAt l [] index) (sym (ap moves_of is ∙ moves_append front after))
    (fails_later (moves_of front) (moves_of after) [] held i index first fails (omega (arith, moves_length front))) in
    ap result_err (fails_run rows [] index kind whole)

module _ {entry : Entry} {held : List Entry} {after poor rich : List Row} {poor_place rich_place : ℕ}
    (j : Junction entry held after poor rich poor_place rich_place) (valid : IsValid Pq rich) (bridge : ℕ) (first : IsFirstBridge rich rich_place bridge) where
  there : rich_place + (bridge - rich_place) ≡ bridge
  there = let before : rich_place ≤ bridge = first.from in omega arith

  at_bridge : Leads (moves_of (take (bridge - rich_place) after)) (with_entry entry held) (entries_at rich bridge)
  at_bridge =
      subst (λ n. Leads (moves_of (take (bridge - rich_place) after)) (with_entry entry held) (entries_at rich n)) there
      (after_place j.richer valid (bridge - rich_place)).up_to

  within : bridge - rich_place ≤ length after
  within =
      let inside : bridge ≤ length rich = first.within in
      omega (arith, ap length j.richer.is, length-append j.richer.front after, j.richer.size)

  missing : ¬ In entry (survivors rich) → Missing (bridge - rich_place) (moves_of after) entry held (entries_at rich bridge) (survivors rich)
  missing died = record {
    ready = j.ready;
    absent = j.absent;
    never = j.never;
    on = all_after j.richer valid;
    died = died;
    up_to = subst (λ l. Leads l (with_entry entry held) (entries_at rich bridge)) (sym (take-map added_by (bridge - rich_place) after)) at_bridge;
    bridge = bridge_all (survivors rich) (entries_at rich bridge) first.bridges;
    none = λ k next less way all.
        let before : rich_place ≤ bridge = first.from in
        let here : entries_at rich (rich_place + k) ≡ next =
        entries_after j.richer k next (subst (λ l. Leads l (with_entry entry held) next) (take-map added_by k after) way) in
        first.first (rich_place + k) (omega arith) (omega arith)
        (all_bridge (survivors rich) (entries_at rich (rich_place + k)) (subst (AllIn (survivors rich)) (sym here) all));
  }

  -- from the bridge on
  least_missing : (y : Entry) (rest : List Entry) → entries_at rich bridge ≡ y ∷ rest → Leads (moves_of (take (bridge - rich_place) after)) held rest
      → IsValid Pq poor × Joins y (survivors poor) (survivors rich)
  least_missing y rest holds poor_on =
      let rich_on : Leads (moves_of (take (bridge - rich_place) after)) (with_entry entry held) (y ∷ rest) =
      subst (Leads (moves_of (take (bridge - rich_place) after)) (with_entry entry held)) holds at_bridge in
      let ready : Ready (y ∷ rest) (moves_of (drop (bridge - rich_place) after)) = ready_after after (bridge - rich_place) (with_entry entry held) (y ∷ rest) (rich_ready j) rich_on in
      let further = junction_between j (bridge - rich_place) within y rest poor_on
      (subst (Leads (moves_of (take (bridge - rich_place) after)) (with_entry entry held)) (sym (with_above y rest ready.rising.0)) rich_on)
      (first_once y rest ready.rising.0) in
      let lives : In y (survivors rich) = (subst (AllIn (survivors rich)) holds (bridge_all (survivors rich) (entries_at rich bridge) first.bridges)).0 in
      (poor_valid further valid lives, kept_to_end further valid lives)

  pub losing_dead : (index : ℕ) → ¬ In entry (survivors rich) → ((i : ℕ) → suc i ≡ bridge - rich_place → index ≡ poor_place + i) → Losing poor rich bridge index
  losing_dead index died at =
      elim (lost (bridge - rich_place) (moves_of after) entry held (entries_at rich bridge) (survivors rich) (missing died)) [
        | inl none ↦ inr (
          none.2,
          fails_failure poor index j.poorer.front after held none.0 j.poorer.is (at none.0 none.1 ∙ ap (λ n. n + none.0) (sym j.poorer.size)) j.poorer.leads none.3 j.poorer.of_kind,
        )
        | inr some ↦
            let rest = least_missing some.0 some.1 some.2 (subst (λ l. Leads l held some.1) (take-map added_by (bridge - rich_place) after) some.3) in
            inl (some.0, some.1, some.2, rest.0, rest.1)
      ]
