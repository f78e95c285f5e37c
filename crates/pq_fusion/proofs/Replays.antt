-- Rows that are let pass tell of a replay: it fails at the first taking that is unmet, and up to there what is left is the state.
use Rattle.std.proofs.Common.{◌≡◌, ◌↔◌, ℕ, ℤ, suc, ◌+◌, ◌≤◌, List, [], ◌∷◌, inl, inr, refl, ap, sym, ◌∙◌, arith, subst, Some, None, Result, Ok, Err, zero, take}
use Rattle.std.specs.List.{AllByRecursion}
use Rattle.std.specs.Option.{option_map_or}
use Rattle.std.specs.Prelude.{IfOk}
use Rattle.std.specs.Result.{result_err, result_unwrap_or}
use Rattle.retro_base.specs.declared.kind.Kind.TheVariants.{Pq}
use Rattle.retro_base.specs.declared.op.Op.{Op}
use Rattle.retro_base.specs.declared.op.Op.TheVariants.{Enq, Deq, Push, Pop, PushL, PushR, PopL, PopR, Put, Del, Ins, DelMin}
use Rattle.retro_base.specs.declared.row.Entry.{Entry}
use Rattle.retro_base.specs.declared.row.Row.{Row}
use Rattle.retro_base.specs.Kind.{kind_of}
use Rattle.retro_base.specs.Replay.{fold_rows, one_later, run, IsValid, present, state_at}
use Rattle.retro_base.specs.State.{State, entries, perform}
use Rattle.retro_base.specs.PrefixLaws.{valid_take}
use Rattle.retro_base.specs.Timeline.{AreOfKind, IsReplayable}
use Rattle.retro_base.specs.Weights.{added_as, added_by}
use Rattle.retro_base.specs.lemmas.bridges.StatedBridges.{adds_or_takes}
use Rattle.pq_fusion.specs.Pieces.{PieceParts, no_parts, after_take, after_row, after_rows, tolerant}
use Rattle.pq_fusion.proofs.Fused.{parts}

-- the unmet takings never grow fewer
more_unmet : (left removed : List Entry) (unmet : ℕ) → unmet ≤ (after_take left removed unmet).unmet
more_unmet [] removed unmet = omega arith
more_unmet (x ∷ xs) removed unmet = omega arith

row_unmet : (op : Op) (number : ℕ) (piece : PieceParts) → piece.unmet ≤ (after_row op number piece).unmet
unfolding after_row
row_unmet (Enq v) number piece = omega arith
row_unmet Deq number piece = omega arith
row_unmet (Push v) number piece = omega arith
row_unmet Pop number piece = omega arith
row_unmet (PushL v) number piece = omega arith
row_unmet (PushR v) number piece = omega arith
row_unmet PopL number piece = omega arith
row_unmet PopR number piece = omega arith
row_unmet (Put k v) number piece = omega arith
row_unmet (Del k) number piece = omega arith
row_unmet (Ins k) number piece = omega arith
row_unmet DelMin number piece = more_unmet piece.left piece.removed piece.unmet

pub never_fewer : (rows : List Row) (piece : PieceParts) → piece.unmet ≤ (after_rows rows piece).unmet
unfolding after_rows
never_fewer [] piece = omega arith
never_fewer (row ∷ rows) piece = omega (arith, row_unmet row.op row.number piece, never_fewer rows (after_row row.op row.number piece))

-- the outcome of a replay is what is left, where no further taking is unmet, and else a failure
Tells : Result State ℕ → ℕ → PieceParts → Type 0
Tells (Ok state) unmet piece = (state ≡ entries piece.left) × (piece.unmet ≡ unmet)
Tells (Err index) unmet piece = suc unmet ≤ piece.unmet

tells_later : (outcome : Result State ℕ) (unmet : ℕ) (piece : PieceParts) → Tells outcome unmet piece → Tells (one_later outcome) unmet piece
unfolding Tells
tells_later (Ok state) unmet piece tells = tells
tells_later (Err index) unmet piece tells = tells

module _ (rows : List Row) (rest : (left removed : List Entry) (unmet : ℕ) → Tells (run rows (entries left)) unmet (after_rows rows (parts left removed unmet))) where
  after_op : Op → ℕ → List Entry → List Entry → ℕ → Type 0
  after_op op number left removed unmet =
      Tells (option_map_or (λ next. one_later (run rows next)) (perform op number (entries left)) (Err 0)) unmet (after_rows rows (after_row op number (parts left removed unmet)))

  adding_tells : (k : ℤ) (number : ℕ) (left removed : List Entry) (unmet : ℕ) → after_op (Ins k) number left removed unmet
  unfolding after_op perform after_row
  adding_tells k number left removed unmet = tells_later _ unmet _ (rest _ removed unmet)

  taking_tells : (number : ℕ) (left removed : List Entry) (unmet : ℕ) → after_op DelMin number left removed unmet
  unfolding after_op perform after_row Tells
  taking_tells number [] removed unmet = omega (arith, never_fewer rows (parts [] removed (unmet + 1)))
  taking_tells number (x ∷ xs) removed unmet = tells_later _ unmet _ (rest xs _ unmet)

  op_tells : (op : Op) (number : ℕ) (left removed : List Entry) (unmet : ℕ) → kind_of op ≡ Pq → after_op op number left removed unmet
  op_tells op number left removed unmet same = elim (adds_or_takes op same) [
    | inl adds ↦ subst (λ o. after_op o number left removed unmet) (sym adds.1) (adding_tells adds.0 number left removed unmet)
    | inr takes ↦ subst (λ o. after_op o number left removed unmet) (sym takes) (taking_tells number left removed unmet)
  ]

replay_tells : (rows : List Row) → AreOfKind Pq rows → (left removed : List Entry) (unmet : ℕ)
    → Tells (run rows (entries left)) unmet (after_rows rows (parts left removed unmet))
unfolding fold_rows after_rows after_op Tells
replay_tells [] of_kind left removed unmet = (refl, refl)
replay_tells (row ∷ rows) of_kind left removed unmet =
    op_tells rows (replay_tells rows of_kind.1) row.op row.number left removed unmet of_kind.0

met_where_valid : (outcome : Result State ℕ) (unmet : ℕ) (piece : PieceParts) → Tells outcome unmet piece → result_err outcome ≡ None → piece.unmet ≡ unmet
unfolding Tells
met_where_valid (Ok state) unmet piece tells valid = tells.1
met_where_valid (Err index) unmet piece tells valid = absurd (cc)

valid_where_met : (outcome : Result State ℕ) (unmet : ℕ) (piece : PieceParts) → Tells outcome unmet piece → piece.unmet ≡ unmet → result_err outcome ≡ None
unfolding Tells
valid_where_met (Ok state) unmet piece tells met = refl
valid_where_met (Err index) unmet piece tells met = absurd (omega arith)

left_is_state : (outcome : Result State ℕ) (unmet : ℕ) (piece : PieceParts) → Tells outcome unmet piece → result_err outcome ≡ None
    → result_unwrap_or outcome (entries []) ≡ entries piece.left
unfolding Tells
left_is_state (Ok state) unmet piece tells valid = tells.0
left_is_state (Err index) unmet piece tells valid = absurd (cc)

pub met_is_valid : (rows : List Row) → AreOfKind Pq rows → IsValid Pq rows ↔ ((tolerant rows).unmet ≡ 0)
met_is_valid rows of_kind =
    let tells = replay_tells rows of_kind [] [] 0 in
    (met_where_valid _ 0 (tolerant rows) tells, valid_where_met _ 0 (tolerant rows) tells)

pub left_is_present : (rows : List Row) → AreOfKind Pq rows → IsValid Pq rows → present Pq rows ≡ entries (tolerant rows).left
left_is_present rows of_kind valid = left_is_state _ 0 (tolerant rows) (replay_tells rows of_kind [] [] 0) valid

-- what one row comes to
never_none : (entry : Entry) → Some entry ≡ None → ⊥
never_none entry same = cc

takes_where_none : (row : Row) → kind_of row.op ≡ Pq → added_by row ≡ None → row.op ≡ DelMin
takes_where_none row same none = elim (adds_or_takes row.op same) [
  | inl adds ↦ absurd (never_none (record { key = adds.0; number = row.number }) (sym (ap (λ op. added_as op row.number) adds.1) ∙ none))
  | inr takes ↦ takes
]

pub of_taking : (row : Row) → kind_of row.op ≡ Pq → added_by row ≡ None → tolerant (row ∷ []) ≡ parts [] [] 1
unfolding after_rows after_row
of_taking row same none = rw (takes_where_none row same none) refl

adds_where_some : (op : Op) (number : ℕ) (entry : Entry) → added_as op number ≡ Some entry → after_row op number no_parts ≡ parts (entry ∷ []) [] 0
unfolding after_row
adds_where_some (Enq v) number entry some = absurd (cc)
adds_where_some Deq number entry some = absurd (cc)
adds_where_some (Push v) number entry some = absurd (cc)
adds_where_some Pop number entry some = absurd (cc)
adds_where_some (PushL v) number entry some = absurd (cc)
adds_where_some (PushR v) number entry some = absurd (cc)
adds_where_some PopL number entry some = absurd (cc)
adds_where_some PopR number entry some = absurd (cc)
adds_where_some (Put k v) number entry some = absurd (cc)
adds_where_some (Del k) number entry some = absurd (cc)
adds_where_some (Ins k) number entry some = let same : record { key = k; number = number } ≡ entry = cc in ap (λ e. parts (e ∷ []) [] 0) same
adds_where_some DelMin number entry some = absurd (cc)

pub of_adding : (row : Row) (entry : Entry) → added_by row ≡ Some entry → tolerant (row ∷ []) ≡ parts (entry ∷ []) [] 0
unfolding after_rows
of_adding row entry some = adds_where_some row.op row.number entry some

all_take : (P : Row → Type 0) (n : ℕ) (rows : List Row) → AllByRecursion P rows → AllByRecursion P (take n rows)
all_take P zero rows all = tt
all_take P (suc n) [] all = tt
all_take P (suc n) (row ∷ rows) all = (all.0, all_take P n rows all.1)

-- the state at a place is what the rows before it leave
pub state_is_left : (rows : List Row) (place : ℕ) → IsReplayable Pq rows → state_at Pq rows place ≡ entries (tolerant (take place rows)).left
state_is_left rows place replayable =
    left_is_present (take place rows) (all_take (λ row. kind_of row.op ≡ Pq) place rows replayable.of_kind) (valid_take Pq rows place replayable.valid)

pub if_ok_more : {X E : Type 0} {P Q : X → Type 0} (outcome : Result X E) → ((x : X) → P x → Q x) → IfOk outcome P → IfOk outcome Q
if_ok_more (Ok x) more there = more x there
if_ok_more (Err e) more there = tt
