-- The lines of the table on what is lost. A bridge holds the survivors that were added before it, in their order: so the first
-- that it holds is the least of them, and where it holds none there is none.
--
--     bridge b holds  4 6      an entry is missing before it: 4 is lost
--     bridge b holds  .        an entry is missing before it: the rows fail
use Rattle.std.proofs.Common.{◌≡◌, ℕ, suc, ◌-◌, ◌<◌, ◌≤◌, false, List, [], ◌∷◌, ◌++◌, take, drop, inl, inr, refl, ap, sym, ◌∙◌, arith, subst, Option, Some, None}
use Rattle.std.specs.Prelude.{Contains}
use Rattle.std.specs.Result.{result_err}
use Rattle.retro_base.specs.declared.kind.Kind.TheVariants.{Pq}
use Rattle.retro_base.specs.declared.row.Entry.{Entry}
use Rattle.retro_base.specs.declared.row.Row.{Row}
use Rattle.retro_base.specs.Better.{comes_after}
use Rattle.retro_base.specs.State.{comes_before}
use Rattle.retro_base.specs.Edits.{Edit, add, cut, edited, IsAccepted}
use Rattle.retro_base.specs.Bridges.{entries_at, survivors, IsBridge, IsFirstBridge}
use Rattle.retro_base.specs.Changes.{Loses}
use Rattle.retro_base.specs.Weights.{added_by}
use Rattle.retro_base.specs.Carried.{IsPqHistory, IsPqEdit}
use Rattle.retro_base.specs.BridgeTable.{added, IsSurvivorBefore, IsLeast}
use Rattle.retro_base.specs.BridgeTableLaws.{LosesAt}
use Rattle.retro_base.specs.lemmas.bridges.Bridging.{AllIn, all_in, bridge_all, all_bridge, all_or_some}
use Rattle.retro_base.specs.lemmas.bridges.Added.{added_adds, adds_added}
use Rattle.retro_base.specs.lemmas.bridges.EntryOrder.{before_irreflexive, before_one_way}
use Rattle.retro_base.specs.lemmas.bridges.Entries.{In, in_or_not, above_in, contains_in, in_contains}
use Rattle.retro_base.specs.lemmas.bridges.Moves.{Leads, Adds, AddEachOnce, Ready, came_from, adds_second}
use Rattle.retro_base.specs.lemmas.bridges.Histories.{moves_of, history_at, whole_ready, fails_run, none_some}
use Rattle.retro_base.specs.lemmas.bridges.Best.{best_alone, after_is_order}
use Rattle.retro_base.specs.lemmas.bridges.Junctions.{seam_of_add, seam_of_cut, junction_added, junction_taken}
use Rattle.retro_base.specs.lemmas.bridges.Surviving.{poor_valid, kept_to_end}
use Rattle.retro_base.specs.lemmas.bridges.Later.{one_joins}
use Rattle.retro_base.specs.lemmas.bridges.Lost.{first_dead}
use Rattle.retro_base.specs.lemmas.bridges.Losing.{Losing, losing_dead}
use Rattle.retro_base.specs.lemmas.bridges.EditJunctions.{added_take_fails}

-- the survivors that were added before a bridge are the entries that it holds
pub held_before : (rows : List Row) (bridge : ℕ) (x : Entry) → IsPqHistory rows → IsBridge rows bridge → In x (entries_at rows bridge) → IsSurvivorBefore rows bridge x
held_before rows bridge x history is_bridge inside =
    let parts = history_at rows bridge history in (
      in_contains _ x (adds_added (take bridge rows) x (elim (came_from x (moves_of (take bridge rows)) [] (entries_at rows bridge) parts.first inside) [
        | inl none ↦ absurd none
        | inr added ↦ added
      ])),
      in_contains _ x (all_in (survivors rows) (entries_at rows bridge) x (bridge_all (survivors rows) (entries_at rows bridge) is_bridge) inside),
    )

once_apart : (x : Entry) (a b : List (Option Entry)) → AddEachOnce (a ++ b) → Adds x a → ¬ Adds x b
once_apart x [] b once first second = absurd first
once_apart x (Some e ∷ a) b once first second = elim first [
  | inl same ↦ once.0 (subst (λ y. Adds y (a ++ b)) same (adds_second x a b second))
  | inr later ↦ once_apart x a b once.1 later second
]
once_apart x (None ∷ a) b once first second = once_apart x a b once first second

pub before_held : (rows : List Row) (bridge : ℕ) (x : Entry) → IsPqHistory rows → IsSurvivorBefore rows bridge x → In x (entries_at rows bridge)
before_held rows bridge x history early =
    let parts = history_at rows bridge history in
    elim (came_from x (moves_of (drop bridge rows)) (entries_at rows bridge) (survivors rows) parts.second (contains_in _ x early.1)) [
      | inl there ↦ there
      | inr later ↦ absurd (once_apart x (moves_of (take bridge rows)) (moves_of (drop bridge rows)) (whole_ready rows bridge history).once
          (added_adds (take bridge rows) x (contains_in _ x early.0)) later)
    ]

-- the first of what a bridge holds is the least survivor before it
pub first_is_least : (rows : List Row) (bridge : ℕ) (y : Entry) (rest : List Entry) → IsPqHistory rows → IsBridge rows bridge → entries_at rows bridge ≡ y ∷ rest
    → IsLeast (IsSurvivorBefore rows bridge) y
first_is_least rows bridge y rest history is_bridge holds =
    let ready : Ready (y ∷ rest) (moves_of (drop bridge rows)) = subst (λ l. Ready l (moves_of (drop bridge rows))) holds (history_at rows bridge history).ready in
    record {
      one = held_before rows bridge y history is_bridge (subst (In y) (sym holds) (inl refl));
      unbeaten = λ other early. elim (subst (In other) holds (before_held rows bridge other history early)) [
        | inl same ↦ subst (λ z. comes_before z y ≡ false) (sym same) (before_irreflexive y)
        | inr later ↦ before_one_way y other (above_in y other rest ready.rising.0 later)
      ];
    }

-- so a line of the table follows
table_line : (rows : List Row) (edit : Edit) (bridge index : ℕ) → IsPqHistory rows → IsBridge rows bridge → Losing (edited rows edit) rows bridge index → LosesAt rows edit bridge index
table_line rows edit bridge index history is_bridge losing = elim losing [
  | inl some ↦
      let least = first_is_least rows bridge some.0 some.1 history is_bridge some.2 in
      record {
        accepted = (λ accepted. (some.0, least.one), λ early. some.3);
        lost = λ entry accepted. (
          λ loses. subst (IsLeast (IsSurvivorBefore rows bridge)) (sym (one_joins entry some.0 (survivors (edited rows edit)) (survivors rows) loses some.4.joined)) least,
          λ is_least. subst (λ x. Loses rows edit x) (best_alone comes_after after_is_order (IsSurvivorBefore rows bridge) some.0 entry least is_least) some.4,
        );
        fails = λ nobody. absurd (nobody (some.0, least.one));
      }
  | inr none ↦
      let nobody : (entry : Entry) → IsSurvivorBefore rows bridge entry → ⊥ = λ entry early. subst (In entry) none.0 (before_held rows bridge entry history early) in
      record {
        accepted = (λ accepted. absurd (none_some _ accepted none.1), λ early. absurd (nobody early.0 early.1));
        lost = λ entry accepted. absurd (none_some _ accepted none.1);
        fails = λ empty. none.1;
      }
]

-- a place that is a bridge is the first one from it on
bridge_here : (rows : List Row) (place bridge : ℕ) → IsFirstBridge rows place bridge → IsBridge rows place → bridge ≡ place
bridge_here rows place bridge first here =
    let from : place ≤ bridge = first.from in
    let not_after : ¬ (place < bridge) = λ after. first.first place (omega arith) after here in
    omega arith

pub cut_dead_loses : (rows : List Row) (place : ℕ) (row : Row) (entry : Entry) (bridge : ℕ) → IsPqEdit rows (cut place row) → added_by row ≡ Some entry
    → ¬ Contains (survivors rows) entry → IsFirstBridge rows (suc place) bridge → LosesAt rows (cut place row) bridge (bridge - 2)
cut_dead_loses rows place row entry bridge possible adds died first =
    let history = possible.history in
    let from : suc place ≤ bridge = first.from in
    table_line rows (cut place row) bridge (bridge - 2) history first.bridges
    (losing_dead (junction_added (seam_of_cut rows place row possible) entry adds) history.valid bridge first (bridge - 2) (λ inside. died (in_contains _ entry inside))
    (λ i at. omega arith))

pub cut_survivor_loses : (rows : List Row) (place : ℕ) (row : Row) (entry : Entry) → IsPqEdit rows (cut place row) → added_by row ≡ Some entry
    → Contains (survivors rows) entry → IsAccepted Pq rows (cut place row) × Loses rows (cut place row) entry
cut_survivor_loses rows place row entry possible adds lives =
    let j = junction_added (seam_of_cut rows place row possible) entry adds in
    let inside : In entry (survivors rows) = contains_in _ entry lives in
    (poor_valid j possible.history.valid inside, kept_to_end j possible.history.valid inside)

-- an added row that takes: nothing is held there, or what it takes is a survivor or dead
all_alive_from_first : (x : Entry) (moves : List (Option Entry)) (held alive : List Entry) → Ready (x ∷ held) moves → Leads moves (x ∷ held) alive → In x alive → AllIn alive (x ∷ held)
all_alive_from_first x moves held alive ready leads lives = elim (all_or_some alive (x ∷ held)) [
  | inl all ↦ all
  | inr some ↦ absurd (first_dead x moves held alive ready leads some lives)
]

losing_added : (rows : List Row) (place : ℕ) (row : Row) (bridge : ℕ) (x : Entry) (held : List Entry) → IsPqEdit rows (add place row) → added_by row ≡ None
    → IsFirstBridge rows place bridge → entries_at rows place ≡ x ∷ held → Losing (edited rows (add place row)) rows bridge bridge
losing_added rows place row bridge x held possible takes first holds =
    let history = possible.history in
    let j = junction_taken (seam_of_add rows place row possible) x held takes holds in
    let parts = history_at rows place history in
    let from : place ≤ bridge = first.from in
    elim (in_or_not x (survivors rows)) [
      | inl lives ↦
          let all = all_alive_from_first x (moves_of (drop place rows)) held (survivors rows) (subst (λ l. Ready l (moves_of (drop place rows))) holds parts.ready)
          (subst (λ l. Leads (moves_of (drop place rows)) l (survivors rows)) holds parts.second) lives in
          let here : bridge ≡ place = bridge_here rows place bridge first (all_bridge (survivors rows) (entries_at rows place) (subst (AllIn (survivors rows)) (sym holds) all)) in
          inl (
            x,
            held,
            ap (entries_at rows) here ∙ holds,
            poor_valid j history.valid lives,
            kept_to_end j history.valid lives,
          )
      | inr died ↦ losing_dead j history.valid bridge first bridge died (λ i at. omega arith)
    ]

pub added_take_loses : (rows : List Row) (place : ℕ) (row : Row) (bridge : ℕ) → IsPqEdit rows (add place row) → added_by row ≡ None
    → IsFirstBridge rows place bridge → LosesAt rows (add place row) bridge bridge
added_take_loses rows place row bridge possible takes first =
    table_line rows (add place row) bridge bridge possible.history first.bridges
    (elim (entries_at rows place) as (λ l. entries_at rows place ≡ l → Losing (edited rows (add place row)) rows bridge bridge) [
      | [] ↦ λ none.
          let here : bridge ≡ place = bridge_here rows place bridge first (all_bridge (survivors rows) (entries_at rows place) (subst (AllIn (survivors rows)) (sym none) tt)) in
          let fails = added_take_fails rows place row possible takes none in
          inr (ap (entries_at rows) here ∙ none, ap result_err (fails_run (edited rows (add place row)) [] place fails.of_kind fails.fails) ∙ ap (λ n. Some n) (sym here))
      | x ∷ held ↦ λ holds. losing_added rows place row bridge x held possible takes first holds
    ] refl)
