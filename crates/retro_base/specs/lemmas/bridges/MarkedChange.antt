-- What is read off the marks is the change: each line of the table of changes, at the bridge that the edit states.
use Rattle.std.proofs.Common.{◌≡◌, ℕ, ℤ, suc, ◌<◌, not, is_some, true, false, List, length, cond, ◌⊎◌, inl, inr, refl, ap, ◌∙◌, arith, sym, subst, Option, Some, None}
use Rattle.std.specs.Prelude.{option_map}
use Rattle.std.proofs.lemmas.Option.{slice_get_within}
use Rattle.retro_base.specs.declared.kind.Kind.TheVariants.{Pq}
use Rattle.retro_base.specs.declared.op.Op.TheVariants.{Ins, DelMin}
use Rattle.retro_base.specs.declared.row.Change.TheVariants.{Gain, Lose}
use Rattle.retro_base.specs.declared.row.Entry.{Entry}
use Rattle.retro_base.specs.declared.row.Row.{Row}
use Rattle.retro_base.specs.Better.{comes_after, better_of}
use Rattle.retro_base.specs.Edits.{Edit, add, cut, edited, IsAccepted}
use Rattle.retro_base.specs.Bridges.{survivors, survives, last_bridge, first_bridge, IsStatedBridge, on_from, nowhere, sought_for_added, sought_for_cut, bridge_found, stated_bridge}
use Rattle.retro_base.specs.BridgeTable.{IsDeadFrom, IsSurvivorBefore, IsGreatest}
use Rattle.retro_base.specs.BridgeTableLaws.{LosesAt}
use Rattle.retro_base.specs.Carried.{IsPqEdit, Differ, gives}
use Rattle.retro_base.specs.Changes.{Gains}
use Rattle.retro_base.specs.MarkedChange.{greatest_dead, least_survivor, lost, added_change, cut_change, marked_change, marked_failure}
use Rattle.retro_base.specs.MarkedChangeLaws.{IsRightOf}
use Rattle.retro_base.specs.State.{comes_before}
use Rattle.retro_base.specs.Weights.{added_as, added_by}
use Rattle.retro_base.specs.lemmas.Counted.{of_kind_at}
use Rattle.retro_base.specs.lemmas.bridges.Best.{FindsBest, before_is_order, best_with, better_none, greatest_found, least_found}
use Rattle.retro_base.specs.lemmas.bridges.Tests.{is_among_in, in_is_among}
use Rattle.retro_base.specs.lemmas.bridges.Entries.{contains_in, in_contains}
use Rattle.retro_base.specs.lemmas.bridges.EditsCarry.{giving_accepted, presents_differ}
use Rattle.retro_base.specs.lemmas.bridges.StatedBridges.{adds_or_takes, one_bridge_stated, last_found, first_found}
use Rattle.retro_base.specs.lemmas.bridges.Gained.{added_entry_gains, cut_take_gains}
use Rattle.retro_base.specs.lemmas.bridges.LossTable.{added_take_loses, cut_dead_loses, cut_survivor_loses}

-- what is found at the stated bridge
module _ (rows : List Row) (edit : Edit) (possible : IsPqEdit rows edit) where
  stated_there : (bridge : Option ℕ) → stated_bridge rows edit ≡ bridge → IsStatedBridge rows edit bridge
  stated_there bridge same = subst (IsStatedBridge rows edit) same (one_bridge_stated rows edit possible).meets

  gains : (bridge : ℕ) (P : Entry → Type 0) (found : Option Entry) → stated_bridge rows edit ≡ Some bridge → IsAccepted Pq rows edit
      → ((e : Entry) → IsGreatest P e → Gains rows edit e) → (e : Entry) × P e → FindsBest comes_before P found
      → IsRightOf rows edit (option_map (λ entry. Gain bridge entry) found)
  gains bridge P None stated accepted table some none = absurd (none some.0 some.1)
  gains bridge P (Some e) stated accepted table some great = (accepted, (stated_there (Some bridge) stated, table e great))

  loses : (bridge : ℕ) (found : Option Entry) → stated_bridge rows edit ≡ Some bridge → LosesAt rows edit bridge (marked_failure rows edit)
      → FindsBest comes_after (IsSurvivorBefore rows bridge) found → IsRightOf rows edit (option_map (λ entry. Lose (Some bridge) entry) found)
  loses bridge None stated table none = table.fails (λ some. none some.0 some.1)
  loses bridge (Some e) stated table least =
      let accepted = table.accepted.1 (e, least.one) in (accepted, (stated_there (Some bridge) stated, (table.lost e accepted).1 least))

-- a row is put in
module _ (rows : List Row) (place : ℕ) (row : Row) (possible : IsPqEdit rows (add place row)) where
  added_entry : (key : ℤ) → row.op ≡ Ins key → IsRightOf rows (add place row) (added_change rows place (added_by row))
  added_entry key is =
      let new : Entry = record { key = key; number = row.number } in
      let bridge : ℕ = last_bridge rows place in
      let adds : added_by row ≡ Some new = ap (λ op. added_as op row.number) is in
      subst (λ o. IsRightOf rows (add place row) (added_change rows place o)) (sym adds)
      (gains rows (add place row) possible bridge (λ e. (e ≡ new) ⊎ IsDeadFrom rows bridge e) (better_of comes_before (Some new) (greatest_dead rows bridge))
      (ap (λ op. bridge_found rows (sought_for_added op place)) is) (giving_accepted rows (add place row) possible (ap is_some adds))
      (λ e great. (added_entry_gains rows place row new bridge e possible adds (last_found rows place)).1 great) (new, inl refl)
      (best_with comes_before before_is_order (IsDeadFrom rows bridge) new (greatest_dead rows bridge) (greatest_found rows bridge)))

  added_take : row.op ≡ DelMin → IsRightOf rows (add place row) (added_change rows place (added_by row))
  added_take is =
      let bridge : ℕ = first_bridge rows place in
      let takes : added_by row ≡ None = ap (λ op. added_as op row.number) is in
      subst (λ o. IsRightOf rows (add place row) (added_change rows place o)) (sym takes)
      (loses rows (add place row) possible bridge (least_survivor rows bridge) (ap (λ op. bridge_found rows (sought_for_added op place)) is)
      (added_take_loses rows place row bridge possible takes (first_found rows place possible.within)) (least_found rows bridge))

-- a row is cut
module _ (rows : List Row) (place : ℕ) (row : Row) (possible : IsPqEdit rows (cut place row)) where
  cut_entry : (key : ℤ) → row.op ≡ Ins key → IsRightOf rows (cut place row) (cut_change rows place (added_by row))
  cut_entry key is =
      let own : Entry = record { key = key; number = row.number } in
      let bridge : ℕ = first_bridge rows (suc place) in
      let adds : added_by row ≡ Some own = ap (λ op. added_as op row.number) is in
      let looks = ap (λ op. sought_for_cut rows op row.number place) is in
      let inside : place < length rows = slice_get_within rows place row possible.within in
      subst (λ o. IsRightOf rows (cut place row) (cut_change rows place o)) (sym adds)
      (elim (survives rows own) as (λ b. survives rows own ≡ b → IsRightOf rows (cut place row) (cond b (Some (Lose None own)) (lost rows bridge))) [
        | true ↦ λ lives.
            let line = cut_survivor_loses rows place row own possible adds (in_contains (survivors rows) own (is_among_in own (survivors rows) lives)) in
            (line.0, (stated_there rows (cut place row) possible None (ap (bridge_found rows) (looks ∙ ap (λ b. cond b nowhere (on_from (suc place))) lives)), line.1))
        | false ↦ λ died. loses rows (cut place row) possible bridge (least_survivor rows bridge)
            (ap (bridge_found rows) (looks ∙ ap (λ b. cond b nowhere (on_from (suc place))) died))
            (cut_dead_loses rows place row own bridge possible adds
            (λ lives. let wrong : true ≡ false = sym (in_is_among own (survivors rows) (contains_in _ own lives)) ∙ died in cc) (first_found rows (suc place) (omega arith)))
            (least_found rows bridge)
      ] refl)

  cut_take : row.op ≡ DelMin → IsRightOf rows (cut place row) (cut_change rows place (added_by row))
  cut_take is =
      let bridge : ℕ = last_bridge rows place in
      let takes : added_by row ≡ None = ap (λ op. added_as op row.number) is in
      let gain : gives (cut place row) ≡ true = ap (λ m. not (is_some m)) takes in
      let accepted : IsAccepted Pq rows (cut place row) = giving_accepted rows (cut place row) possible gain in
      let one = presents_differ rows (cut place row) possible accepted in
      let joined = subst (λ b. Differ b one.0 (survivors rows) (survivors (edited rows (cut place row)))) gain one.1 in
      let table = λ (e : Entry). cut_take_gains rows place row bridge e possible takes (last_found rows place) in
      subst (λ o. IsRightOf rows (cut place row) (cut_change rows place o)) (sym takes)
      (gains rows (cut place row) possible bridge (IsDeadFrom rows bridge) (better_of comes_before None (greatest_dead rows bridge))
      (ap (λ op. bridge_found rows (sought_for_cut rows op row.number place)) is) accepted (λ e great. (table e).1 great)
      (one.0, ((table one.0).0 joined).one)
      (subst (FindsBest comes_before (IsDeadFrom rows bridge)) (sym (better_none comes_before (greatest_dead rows bridge))) (greatest_found rows bridge)))

pub marks_tell : (rows : List Row) (edit : Edit) → IsPqEdit rows edit → IsRightOf rows edit (marked_change rows edit)
marks_tell rows (add place row) possible =
    elim (adds_or_takes row.op possible.own_row.0) [ inl ins ↦ added_entry rows place row possible ins.0 ins.1 | inr takes ↦ added_take rows place row possible takes ]
marks_tell rows (cut place row) possible =
    elim (adds_or_takes row.op (of_kind_at Pq rows place row possible.history.of_kind possible.within)) [
      | inl ins ↦ cut_entry rows place row possible ins.0 ins.1
      | inr takes ↦ cut_take rows place row possible takes
    ]
