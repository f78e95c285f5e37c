-- No rows replay, and a history stays one when a row is taken out that leaves it valid.
use Rattle.std.proofs.Common.{◌≡◌, ◌≢◌, ℕ, List, [], take, drop, refl, sym, ap, subst, lit≤}
use Rattle.std.specs.List.{remove, AllByRecursion}
use Rattle.std.proofs.lemmas.List.{take-append-drop}
use Rattle.retro_base.specs.declared.kind.Kind.{Kind}
use Rattle.retro_base.specs.declared.kind.Kind.TheVariants.{Pq}
use Rattle.retro_base.specs.declared.row.Change.TheVariants.{Plain}
use Rattle.retro_base.specs.declared.row.Row.{Row}
use Rattle.retro_base.specs.Replay.{fold_rows, IsValid}
use Rattle.retro_base.specs.Edits.{Edit}
use Rattle.retro_base.specs.Changes.{IsChange}
use Rattle.retro_base.specs.Timeline.{Structure, IsReplayable}
use Rattle.retro_base.specs.OrderLaws.{all_parts}
use Rattle.retro_base.specs.ReplayableLaws.{replayable_without}

pub empty_replayable : (kind : Kind) → IsReplayable kind []
unfolding fold_rows
empty_replayable kind = record { few = lit≤ tt; of_kind = tt; own_numbers = tt; valid = refl }

-- what holds of all elements holds of those before a place
pub all_before : {X : Type 0} (P : X → Type 0) (xs : List X) (place : ℕ) → AllByRecursion P xs → AllByRecursion P (take place xs)
all_before P xs place all = (all_parts P (take place xs) (drop place xs) (subst (AllByRecursion P) (sym (take-append-drop place xs)) all)).0

-- taking a row out, where what is asked is said of a value that is seen as this kind and these rows
pub replayable_seen_without : (now : Structure) (kind : Kind) (rows : List Row) (place : ℕ)
    → ◌≡◌ {A = Structure} (record { kind = kind; rows = rows }) now → IsReplayable kind rows
    → IsValid now.kind (remove now.rows place) → IsReplayable kind (remove rows place)
replayable_seen_without now kind rows place seen replayable valid =
    let same_rows : now.rows ≡ rows = ap (λ (h : Structure). h.rows) (sym seen) in
    let same_kind : now.kind ≡ kind = ap (λ (h : Structure). h.kind) (sym seen) in
    replayable_without kind rows place replayable (rw (same_kind, same_rows) at valid)

-- of the kinds other than the priority queue a change is `Plain`
pub plain_change : (kind : Kind) (rows : List Row) (edit : Edit) → kind ≢ Pq → IsChange kind rows edit Plain
plain_change Pq rows edit served = absurd (served refl)
plain_change kind rows edit served = refl
