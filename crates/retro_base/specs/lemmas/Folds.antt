-- The fold over rows: in parts, from a place on, and beside another fold that keeps step with it.
use Rattle.std.proofs.Common.{◌≡◌, ℕ, suc, ◌+◌, ◌<◌, ◌≤◌, IsSome, pos, List, [], ◌∷◌, ◌++◌, length, drop, get_or, refl, add-one, ap, sym, ◌∙◌, arith, Option, Some, None, Result, Ok, Err}
use Rattle.std.specs.Option.{option_map_or}
use Rattle.std.specs.Result.{result_err}
use Rattle.std.specs.List.{AllByRecursion}
use Rattle.std.proofs.Math.Seq.{drop-cons}
use Rattle.std.proofs.lemmas.List.{drop_all, get_or_default}
use Rattle.retro_base.specs.declared.op.Op.TheVariants.{Enq}
use Rattle.retro_base.specs.declared.row.Row.{Row}
use Rattle.retro_base.specs.Replay.{one_later, fold_rows}
use Rattle.retro_base.specs.Outcomes.{later_ok}

-- the outcome of rows that stand after n more rows
abbrev pub later : {S : Type 0} → ℕ → Result S ℕ → Result S ℕ
later n (Ok state) = Ok state
later n (Err index) = Err (n + index)

-- an outcome is of one kind, and has one value
pub not_both : {S : Type 0} {i : ℕ} {s : S} (r : Result S ℕ) → r ≡ Err i → r ≡ Ok s → ⊥
not_both r e f = cc

pub ok_same : {S : Type 0} {s t : S} (r : Result S ℕ) → r ≡ Ok s → r ≡ Ok t → s ≡ t
ok_same r e f = cc

pub err_same : {S : Type 0} {i j : ℕ} (r : Result S ℕ) → r ≡ Err i → r ≡ Err j → i ≡ j
err_same r e f = cc

pub later-zero : {S : Type 0} (r : Result S ℕ) → later 0 r ≡ r
later-zero (Ok state) = refl
later-zero (Err index) = ap (λ i. Err i) (omega arith)

pub later-suc : {S : Type 0} (n : ℕ) (r : Result S ℕ) → later n (one_later r) ≡ later (n + 1) r
later-suc n (Ok state) = refl
later-suc n (Err index) = ap (λ i. Err i) (omega arith)

pub one_later-later : {S : Type 0} (n : ℕ) (r : Result S ℕ) → one_later (later n r) ≡ later (suc n) r
one_later-later n (Ok state) = refl
one_later-later n (Err index) = ap (λ i. Err i) (omega arith)

pub one_later-err : {S : Type 0} (r : Result S ℕ) (i : ℕ) → one_later r ≡ Err i → (j : ℕ) × (r ≡ Err j) × (i ≡ suc j)
one_later-err (Ok s) i e = absurd (not_both _ e refl)
one_later-err (Err j) i e = (j, refl, err_same _ e refl)

module _ {S : Type 0} (next_of : Row → S → Option S) where
  -- the first row comes first
  pub fold_rows-cons : (row : Row) (rows : List Row) (s : S)
      → fold_rows next_of (row ∷ rows) s ≡ option_map_or (λ next. one_later (fold_rows next_of rows next)) (next_of row s) (Err 0)
  unfolding fold_rows
  fold_rows-cons row rows s = refl

  pub fold_rows-nil : (s : S) → fold_rows next_of [] s ≡ Ok s
  unfolding fold_rows
  fold_rows-nil s = refl

  pub fold_rows-some : (row : Row) (rows : List Row) (s next : S) → next_of row s ≡ Some next
      → fold_rows next_of (row ∷ rows) s ≡ one_later (fold_rows next_of rows next)
  unfolding fold_rows
  fold_rows-some row rows s next e = rw e refl

  pub fold_rows-none : (row : Row) (rows : List Row) (s : S) → next_of row s ≡ None → fold_rows next_of (row ∷ rows) s ≡ Err 0
  unfolding fold_rows
  fold_rows-none row rows s e = rw e refl

  -- one more turn of a loop that has come to place i
  pub fold_rows-drop : (rows : List Row) (i : ℕ) (row : Row) (s : S) → i < length rows → row ≡ get_or rows i row
      → fold_rows next_of (drop i rows) s ≡ option_map_or (λ next. one_later (fold_rows next_of (drop (i + 1) rows) next)) (next_of row s) (Err 0)
  fold_rows-drop rows i row s within at = rw (drop-cons rows i row, ← at, fold_rows-cons, add-one) refl

  pub fold_rows-drop_some : (rows : List Row) (i : ℕ) (row : Row) (s t : S) → i < length rows → row ≡ get_or rows i row
      → next_of row s ≡ Some t → fold_rows next_of (drop i rows) s ≡ one_later (fold_rows next_of (drop (i + 1) rows) t)
  fold_rows-drop_some rows i row s t within at goes = fold_rows-drop rows i row s within at ∙ rw goes refl

  pub fold_rows-drop_none : (rows : List Row) (i : ℕ) (row : Row) (s : S) → i < length rows → row ≡ get_or rows i row
      → next_of row s ≡ None → fold_rows next_of (drop i rows) s ≡ Err 0
  fold_rows-drop_none rows i row s within at stops = fold_rows-drop rows i row s within at ∙ rw stops refl

  -- rows in two parts: the second goes on where the first ends
  pub fold_rows-append : (a b : List Row) (s t : S) → fold_rows next_of a s ≡ Ok t
      → fold_rows next_of (a ++ b) s ≡ later (length a) (fold_rows next_of b t)
  fold_rows-append [] b s t e = rw (later-zero, ok_same _ (fold_rows-nil s) e) refl
  fold_rows-append (row ∷ rows) b s t e =
      elim (next_of row s) as (λ o. next_of row s ≡ o → fold_rows next_of (row ∷ (rows ++ b)) s ≡ later (suc (length rows)) (fold_rows next_of b t)) [
        | None ↦ λ stops. absurd (not_both _ (fold_rows-none row rows s stops) e)
        | Some u ↦ λ goes.
            fold_rows-some row (rows ++ b) s u goes ∙ ap one_later (fold_rows-append rows b u t (later_ok _ t (sym (fold_rows-some row rows s u goes) ∙ e)))
            ∙ one_later-later (length rows) (fold_rows next_of b t)
      ] refl

  -- where the first part fails, so do both together
  pub fold_rows-append_err : (a b : List Row) (s : S) (i : ℕ) → fold_rows next_of a s ≡ Err i
      → fold_rows next_of (a ++ b) s ≡ Err i
  fold_rows-append_err [] b s i e = absurd (not_both _ e (fold_rows-nil s))
  fold_rows-append_err (row ∷ rows) b s i e =
      elim (next_of row s) as (λ o. next_of row s ≡ o → fold_rows next_of (row ∷ (rows ++ b)) s ≡ Err i) [
        | None ↦ λ stops. fold_rows-none row (rows ++ b) s stops ∙ sym (fold_rows-none row rows s stops) ∙ e
        | Some u ↦ λ goes.
            let fails = one_later-err _ i (sym (fold_rows-some row rows s u goes) ∙ e) in
            fold_rows-some row (rows ++ b) s u goes ∙ ap one_later (fold_rows-append_err rows b u fails.0 fails.1) ∙ ap (λ j. Err j) (sym fails.2)
      ] refl

-- two steps keep pace: both are impossible, or both go on to related states
abbrev pub BothOrNeither : {S T : Type 0} → (S → T → Type 0) → Option S → Option T → Type 0
BothOrNeither R None None = Unit {0}
BothOrNeither R (Some s) (Some t) = R s t
BothOrNeither R o p = ⊥

-- two outcomes agree: related states, or a failure at the same index
abbrev pub Agree : {S T : Type 0} → (S → T → Type 0) → Result S ℕ → Result T ℕ → Type 0
Agree R (Ok s) (Ok t) = R s t
Agree R (Err i) (Err j) = i ≡ j
Agree R r q = ⊥

agree_later : {S T : Type 0} (R : S → T → Type 0) (r : Result S ℕ) (q : Result T ℕ) → Agree R r q → Agree R (one_later r) (one_later q)
agree_later R (Ok s) (Ok t) h = h
agree_later R (Err i) (Err j) h = ap suc h
agree_later R r q h = absurd h

pub same_failure : {S T : Type 0} (R : S → T → Type 0) (r : Result S ℕ) (q : Result T ℕ) → Agree R r q → result_err r ≡ result_err q
same_failure R (Ok s) (Ok t) h = refl
same_failure R (Err i) (Err j) h = ap (λ k. Some k) h
same_failure R r q h = absurd h

module _ {S T : Type 0} (R : S → T → Type 0) (P : Row → Type 0) (f : Row → S → Option S) (g : Row → T → Option T)
    (pace : (row : Row) (s : S) (t : T) → P row → R s t → BothOrNeither R (f row s) (g row t)) where
  agree_by : (row : Row) (rows : List Row) (s : S) (t : T) (o : Option S) (p : Option T) → f row s ≡ o → g row t ≡ p
      → BothOrNeither R o p → ((u : S) (v : T) → R u v → Agree R (fold_rows f rows u) (fold_rows g rows v))
      → Agree R (fold_rows f (row ∷ rows) s) (fold_rows g (row ∷ rows) t)
  agree_by row rows s t None None e h both rest = rw (fold_rows-none f row rows s e, fold_rows-none g row rows t h) refl
  agree_by row rows s t (Some u) (Some v) e h both rest =
      rw (fold_rows-some f row rows s u e, fold_rows-some g row rows t v h) (agree_later R _ _ (rest u v both))
  agree_by row rows s t o p e h both rest = absurd both

  -- folds whose steps keep pace have outcomes that agree
  pub folds_agree : (rows : List Row) (s : S) (t : T) → AllByRecursion P rows → R s t → Agree R (fold_rows f rows s) (fold_rows g rows t)
  folds_agree [] s t all related = rw (fold_rows-nil f s, fold_rows-nil g t) related
  folds_agree (row ∷ rows) s t all related =
      agree_by row rows s t (f row s) (g row t) refl refl (pace row s t all.0 related) (λ u v h. folds_agree rows u v all.1 h)

-- what a loop reads where there is no row, which is never
abbrev pub no_row : Row
no_row = record { number = 0; time = 0; op = Enq (pos 0) }

-- A loop over rows has come to place i with state s: the rows that are left have the outcome of all, so many places later.
pub record ComesTo {S : Type 0} (next_of : Row → S → Option S) (rows : List Row) (outcome : Result S ℕ) (i : ℕ) (s : S) : Type 0 where
  pub is : outcome ≡ later i (fold_rows next_of (drop i rows) s)

module _ {S : Type 0} {next_of : Row → S → Option S} {rows : List Row} where
  pub comes_to_start : (s : S) → ComesTo next_of rows (fold_rows next_of rows s) 0 s
  comes_to_start s = record { is = rw later-zero refl }

  pub comes_to_next : {r : Result S ℕ} {i : ℕ} {s t : S} (d : Row) → ComesTo next_of rows r i s → i < length rows
      → next_of (get_or rows i d) s ≡ Some t → ComesTo next_of rows r (i + 1) t
  comes_to_next {r} {i} {s} {t} d here within goes =
      record { is = here.is ∙ ap (later i) (fold_rows-drop_some next_of rows i _ s t within (get_or_default rows i d _ within) goes) ∙ later-suc i _ }

  pub comes_to_failure : {r : Result S ℕ} {i : ℕ} {s : S} (d : Row) → ComesTo next_of rows r i s → i < length rows
      → next_of (get_or rows i d) s ≡ None → r ≡ Err i
  comes_to_failure {r} {i} {s} d here within stops =
      here.is ∙ ap (later i) (fold_rows-drop_none next_of rows i _ s within (get_or_default rows i d _ within) stops) ∙ ap (λ j. Err j) (omega arith)

  pub comes_to_end : {r : Result S ℕ} {i : ℕ} {s : S} → ComesTo next_of rows r i s → length rows ≤ i → r ≡ Ok s
  comes_to_end {r} {i} {s} here all = here.is ∙ rw (drop_all i rows all, fold_rows-nil) refl

  -- where all rows can be performed, so can the next one
  pub comes_to_possible : {r : Result S ℕ} {i : ℕ} {s : S} (d : Row) → ComesTo next_of rows r i s → i < length rows
      → result_err r ≡ None → IsSome (next_of (get_or rows i d) s)
  comes_to_possible {r} {i} {s} d here within valid =
      elim (next_of (get_or rows i d) s) as (λ o. next_of (get_or rows i d) s ≡ o → IsSome o) [
        | None ↦ λ stops. let fails = comes_to_failure d here within stops in
            let wrong : Some i ≡ None = ap result_err (sym fails) ∙ valid in absurd (cc)
        | Some t ↦ λ goes. refl
      ] refl

-- A row put in between: the outcome is that of the rows before it, of the row, or of the rows after it.
module _ {S : Type 0} (next_of : Row → S → Option S) (before after : List Row) (row : Row) (s : S) where
  pub between_err : (i : ℕ) → fold_rows next_of before s ≡ Err i → fold_rows next_of (before ++ row ∷ after) s ≡ Err i
  between_err i e = fold_rows-append_err next_of before (row ∷ after) s i e

  pub between_stops : (t : S) → fold_rows next_of before s ≡ Ok t → next_of row t ≡ None
      → fold_rows next_of (before ++ row ∷ after) s ≡ Err (length before)
  between_stops t e stops =
      fold_rows-append next_of before (row ∷ after) s t e
      ∙ ap (later (length before)) (fold_rows-none next_of row after t stops) ∙ ap (λ j. Err j) (omega arith)

  pub between_goes : (t u : S) → fold_rows next_of before s ≡ Ok t → next_of row t ≡ Some u
      → fold_rows next_of (before ++ row ∷ after) s ≡ later (length before + 1) (fold_rows next_of after u)
  between_goes t u e goes =
      fold_rows-append next_of before (row ∷ after) s t e
      ∙ ap (later (length before)) (fold_rows-some next_of row after t u goes) ∙ later-suc (length before) _

-- a failure is at one of the rows
err_within_by : {S : Type 0} (r : Result S ℕ) (n i : ℕ) → ((j : ℕ) → r ≡ Err j → j < n) → one_later r ≡ Err i → i < suc n
err_within_by r n i within e = let fails = one_later-err r i e in omega (arith, within fails.0 fails.1, fails.2)

pub err_within : {S : Type 0} (next_of : Row → S → Option S) (rows : List Row) (s : S) (i : ℕ) → fold_rows next_of rows s ≡ Err i → i < length rows
err_within next_of [] s i e = absurd (not_both _ e (fold_rows-nil next_of s))
err_within next_of (row ∷ rows) s i e =
    elim (next_of row s) as (λ o. next_of row s ≡ o → i < suc (length rows)) [
      | None ↦ λ stops. let at_once = err_same _ e (fold_rows-none next_of row rows s stops) in omega (arith, at_once)
      | Some u ↦ λ goes. err_within_by (fold_rows next_of rows u) (length rows) i (λ j h. err_within next_of rows u j h)
          (sym (fold_rows-some next_of row rows s u goes) ∙ e)
    ] refl

-- One more row at the end.
module _ {S : Type 0} (next_of : Row → S → Option S) (rows : List Row) (row : Row) (s t : S) where
  pub fold_rows-last : (u : S) → fold_rows next_of rows s ≡ Ok t → next_of row t ≡ Some u → fold_rows next_of (rows ++ row ∷ []) s ≡ Ok u
  fold_rows-last u e goes = between_goes next_of rows [] row s t u e goes ∙ ap (later (length rows + 1)) (fold_rows-nil next_of u)

  pub last_possible : fold_rows next_of rows s ≡ Ok t → result_err (fold_rows next_of (rows ++ row ∷ []) s) ≡ None → IsSome (next_of row t)
  last_possible e valid =
      elim (next_of row t) as (λ o. next_of row t ≡ o → IsSome o) [
        | None ↦ λ stops. let wrong : Some (length rows) ≡ None = sym (ap result_err (between_stops next_of rows [] row s t e stops)) ∙ valid in absurd (cc)
        | Some u ↦ λ goes. refl
      ] refl

-- so many places later there is a failure where there is one
pub still_none : {S : Type 0} (n : ℕ) (r : Result S ℕ) → result_err r ≡ None → result_err (later n r) ≡ None
still_none n (Ok s) e = refl
still_none n (Err i) e = absurd (cc)

later_possible : {S : Type 0} (n : ℕ) (r : Result S ℕ) → result_err (later n r) ≡ None → result_err r ≡ None
later_possible n (Ok s) e = refl
later_possible n (Err i) e = absurd (cc)

-- Rows in two parts, where all can be performed.
module _ {S : Type 0} (next_of : Row → S → Option S) (a b : List Row) (s : S) where
  pub front_possible : result_err (fold_rows next_of (a ++ b) s) ≡ None → result_err (fold_rows next_of a s) ≡ None
  front_possible valid =
      elim (fold_rows next_of a s) as (λ r. fold_rows next_of a s ≡ r → result_err r ≡ None) [
        | Ok t ↦ λ e. refl
        | Err i ↦ λ e. let wrong : Some i ≡ None = sym (ap result_err (fold_rows-append_err next_of a b s i e)) ∙ valid in absurd (cc)
      ] refl

  pub after_possible : (t : S) → fold_rows next_of a s ≡ Ok t → result_err (fold_rows next_of (a ++ b) s) ≡ None → result_err (fold_rows next_of b t) ≡ None
  after_possible t e valid = later_possible (length a) _ (sym (ap result_err (fold_rows-append next_of a b s t e)) ∙ valid)

  pub both_parts : (t u : S) → fold_rows next_of a s ≡ Ok t → fold_rows next_of b t ≡ Ok u → fold_rows next_of (a ++ b) s ≡ Ok u
  both_parts t u e f = fold_rows-append next_of a b s t e ∙ ap (later (length a)) f
