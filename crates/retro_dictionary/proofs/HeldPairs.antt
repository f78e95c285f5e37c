-- The pairs whose lifetimes hold a label are those that the rows up to it leave.
use Rattle.std.proofs.Common.{◌≡◌, ℕ, ℤ, ◌<◌, ◌≤◌, Bool, true, false, not, ◌&&◌, cond, Option, Some, None, Result, Ok, Err, List, [], ◌∷◌, ◌++◌, map, refl, sym, ap, ◌∙◌, arith, subst, inl, inr, ltb}
use Rattle.std.specs.List.{AllByRecursion, filter}
use Rattle.std.specs.Map.{remove_entry, lookup}
use Rattle.std.specs.Option.{is_some, option_map, option_map_or}
use Rattle.std.specs.Ordering.{int_eq}
use Rattle.std.specs.Prelude.{if◌then◌else◌}
use Rattle.std.proofs.lemmas.List.{map-append}
use Rattle.std.proofs.lemmas.List.Elements.{filter-append}
use Rattle.std.proofs.lemmas.Bool.{le-leb, lt-leb, lt-ltb, le-ltb, cases_lt}
use Rattle.retro_base.specs.declared.op.Op.{Op}
use Rattle.retro_base.specs.declared.op.Op.TheVariants.{Enq, Deq, Push, Pop, PushL, PushR, PopL, PopR, Put, Del, Ins, DelMin}
use Rattle.retro_base.specs.declared.row.Row.{Row}
use Rattle.retro_base.specs.State.{State, pairs, perform, step, with_key, without_key}
use Rattle.retro_base.specs.Replay.{one_later, fold_rows, run}
use Rattle.key_index.specs.KeyRows.{KeyRow, LabelsRise, key_of, is_on, as_row, up_to}
use Rattle.lifetime_segments.specs.declared.lifetime.Lifetime.{Lifetime}
use Rattle.lifetime_segments.specs.Lifetimes.{label_end, lifetime, holds, items_at}
use Rattle.retro_dictionary.specs.Lifetimes.{end_of, put_by, begun, lifetimes_of}
use Rattle.retro_dictionary.proofs.AsMany.{HaveSameItems, same-refl, same-sym, same-trans, same-filter, same-append, same-regroup}
use Rattle.retro_dictionary.proofs.PairsInOrder.{AreSorted, is_off, sorted_with, sorted_without, with_key-same, without_key-is}
use Rattle.retro_base.specs.Outcomes.{later_ok}

-- a pair whose key no row up to a label has
pub all_weaker : {X : Type 0} (P Q : X → Type 0) (xs : List X) → ((x : X) → P x → Q x) → AllByRecursion P xs → AllByRecursion Q xs
all_weaker P Q [] weaker all = tt
all_weaker P Q (x ∷ xs) weaker all = (weaker x all.0, all_weaker P Q xs weaker all.1)

abbrev pub stays : ℕ → List KeyRow → ℤ × ℤ → Bool
stays label rows pair = ltb label (end_of pair.0 rows)

-- one row, and then the others
goes : (row : Row) (rows : List Row) (s t : State) → step row s ≡ Some t → run (row ∷ rows) s ≡ one_later (run rows t)
unfolding fold_rows
goes row rows s t one = ap (λ o. option_map_or (λ next. one_later (fold_rows step rows next)) o (Err 0)) one

ended : (row : Row) (rows : List Row) (s : State) → step row s ≡ None → run (row ∷ rows) s ≡ Err 0
unfolding fold_rows
ended row rows s none = ap (λ o. option_map_or (λ next. one_later (fold_rows step rows next)) o (Err 0)) none

none_left : (s : State) → run [] s ≡ Ok s
unfolding fold_rows
none_left s = refl

put_steps : (label : ℕ) (key value : ℤ) (ps : List (ℤ × ℤ)) → step (as_row (label, Put key value)) (pairs ps) ≡ Some (pairs (with_key key value ps))
unfolding perform
put_steps label key value ps = refl

del_steps : (label : ℕ) (key : ℤ) (ps : List (ℤ × ℤ)) → step (as_row (label, Del key)) (pairs ps) ≡ option_map pairs (without_key key ps)
unfolding perform
del_steps label key ps = refl

-- other operations than those of a dictionary cannot be performed
abbrev IsOther : Op → Type 0
IsOther (Put key value) = ⊥
IsOther (Del key) = ⊥
IsOther op = Unit {0}

other_stops : (op : Op) (label : ℕ) (ps : List (ℤ × ℤ)) → IsOther op → step (as_row (label, op)) (pairs ps) ≡ None
unfolding perform
other_stops (Put key value) label ps other = absurd other
other_stops (Del key) label ps other = absurd other
other_stops (Enq v) label ps other = refl
other_stops Deq label ps other = refl
other_stops (Push v) label ps other = refl
other_stops Pop label ps other = refl
other_stops (PushL v) label ps other = refl
other_stops (PushR v) label ps other = refl
other_stops PopL label ps other = refl
other_stops PopR label ps other = refl
other_stops (Ins k) label ps other = refl
other_stops DelMin label ps other = refl

module _ (label : ℕ) (below : label < label_end) where
  -- what holds of the pairs that the rows up to the label leave, from some pairs on
  pub record IsHeld (rows : List KeyRow) (before after : List (ℤ × ℤ)) : Type 0 where
    pub sorted : AreSorted after
    pub same : HaveSameItems (items_at label (lifetimes_of rows) ++ filter (stays label rows) before) after

  -- rows after the label
  abbrev AreLater : List KeyRow → Type 0
  AreLater rows = AllByRecursion (λ (row : KeyRow). label < row.0) rows

  none_up_to : (rows : List KeyRow) → AreLater rows → up_to label rows ≡ []
  none_up_to [] later = refl
  none_up_to (row ∷ rows) later = ap (λ b. cond b (row ∷ up_to label rows) (up_to label rows)) (lt-leb row.0 label later.0) ∙ none_up_to rows later.1

  end_later : (key : ℤ) (rows : List KeyRow) → AreLater rows → label < end_of key rows
  end_later key [] later = below
  end_later key (row ∷ rows) later = elim (is_on key row) as (λ b. label < cond b row.0 (end_of key rows)) [ true ↦ later.0 | false ↦ end_later key rows later.1 ]

  stay_before : (rows : List KeyRow) (ps : List (ℤ × ℤ)) → AreLater rows → filter (stays label rows) ps ≡ ps
  stay_before rows [] later = refl
  stay_before rows (e ∷ es) later =
      ap (λ b. cond b (e ∷ filter (stays label rows) es) (filter (stays label rows) es)) (lt-ltb label (end_of e.0 rows) (end_later e.0 rows later)) ∙ ap (λ ps. e ∷ ps) (stay_before rows es later)

  pairs-append : (xs ys : List (Lifetime (ℤ × ℤ))) → items_at label (xs ++ ys) ≡ items_at label xs ++ items_at label ys
  pairs-append xs ys = ap (map (λ (l : Lifetime (ℤ × ℤ)). l.item)) (filter-append (holds label) xs ys) ∙ map-append (λ (l : Lifetime (ℤ × ℤ)). l.item) (filter (holds label) xs) (filter (holds label) ys)

  -- what is begun after the label does not hold it
  begun_later : (from : ℕ) (put : Option (ℤ × ℤ)) (rows : List KeyRow) → label < from → items_at label (begun from put rows) ≡ []
  begun_later from None rows later = refl
  begun_later from (Some pair) rows later = ap (λ b. map (λ (l : Lifetime (ℤ × ℤ)). l.item) (cond (b && ltb label (end_of pair.0 rows)) (begun from (Some pair) rows) [])) (lt-leb from label later)

  none_held : (rows : List KeyRow) → AreLater rows → items_at label (lifetimes_of rows) ≡ []
  none_held [] later = refl
  none_held (row ∷ rows) later =
      pairs-append (begun row.0 (put_by row.1) rows) (lifetimes_of rows) ∙ ap (λ ps. ps ++ items_at label (lifetimes_of rows)) (begun_later row.0 (put_by row.1) rows later.0) ∙ none_held rows later.1

  after_rises : (row : KeyRow) (rows : List KeyRow) → label < row.0 → LabelsRise (row ∷ rows) → AreLater (row ∷ rows)
  after_rises row rows later rise = (later, all_weaker (λ (r : KeyRow). row.0 < r.0) (λ (r : KeyRow). label < r.0) rows (λ r above. omega arith) rise.0)

  held_before : (rows : List KeyRow) (ps after : List (ℤ × ℤ)) → AreLater rows → AreSorted ps → run (map as_row (up_to label rows)) (pairs ps) ≡ Ok (pairs after) → IsHeld rows ps after
  held_before rows ps after later s ran =
      let ran_none : run [] (pairs ps) ≡ Ok (pairs after) = rw (none_up_to rows later) at ran in
      let is : ps ≡ after = let ends = none_left (pairs ps) in cc in
      record {
        sorted = subst AreSorted is s;
        same = rw (none_held rows later) (rw (stay_before rows ps later) (rw is (same-refl after)));
      }

  -- the pairs of other keys stay as long as they did, and that on the key of the row is gone
  off_stay : (row : KeyRow) (rows : List KeyRow) (ps : List (ℤ × ℤ)) → row.0 ≤ label → filter (stays label rows) (filter (is_off (key_of row.1)) ps) ≡ filter (stays label (row ∷ rows)) ps
  off_stay row rows [] up = refl
  off_stay row rows (e ∷ es) up =
      elim (is_on e.0 row) as (λ b. filter (stays label rows) (cond (not b) (e ∷ filter (is_off (key_of row.1)) es) (filter (is_off (key_of row.1)) es))
      ≡ cond (ltb label (cond b row.0 (end_of e.0 rows))) (e ∷ filter (stays label (row ∷ rows)) es) (filter (stays label (row ∷ rows)) es)) [
        | true ↦ off_stay row rows es up ∙ sym (ap (λ b. cond b (e ∷ filter (stays label (row ∷ rows)) es) (filter (stays label (row ∷ rows)) es)) (le-ltb label row.0 up))
        | false ↦ ap (λ ps. cond (ltb label (end_of e.0 rows)) (e ∷ ps) ps) (off_stay row rows es up)
      ]

  -- a pair that is put is held, where no row on its key comes up to the label
  pair_held : (from : ℕ) (pair : ℤ × ℤ) (rows : List KeyRow) (ps : List (ℤ × ℤ)) → from ≤ label
      → filter (stays label rows) (pair ∷ ps) ≡ items_at label (begun from (Some pair) rows) ++ filter (stays label rows) ps
  pair_held from pair rows ps up =
      rw (le-leb from label up)
      (elim (ltb label (end_of pair.0 rows)) as (λ b. cond b (pair ∷ filter (stays label rows) ps) (filter (stays label rows) ps)
      ≡ map (λ (l : Lifetime (ℤ × ℤ)). l.item) (cond b (lifetime from (end_of pair.0 rows) pair ∷ []) []) ++ filter (stays label rows) ps)
      [ true ↦ refl | false ↦ refl ])

  held_put : (row : KeyRow) (pair : ℤ × ℤ) (rows : List KeyRow) (ps after : List (ℤ × ℤ)) → row.0 ≤ label → key_of row.1 ≡ pair.0 → put_by row.1 ≡ Some pair → AreSorted ps
      → IsHeld rows (with_key pair.0 pair.1 ps) after → IsHeld (row ∷ rows) ps after
  held_put row pair rows ps after up on puts s rest = record {
    sorted = rest.sorted;
    same =
        let new = items_at label (begun row.0 (Some pair) rows) in
        let old = items_at label (lifetimes_of rows) in
        let kept = filter (stays label (row ∷ rows)) ps in
        let off : filter (stays label rows) (filter (is_off pair.0) ps) ≡ kept = ap (λ k. filter (stays label rows) (filter (is_off k) ps)) (sym on) ∙ off_stay row rows ps up in
        let grown : HaveSameItems (filter (stays label rows) (with_key pair.0 pair.1 ps)) (new ++ kept) =
        subst (HaveSameItems (filter (stays label rows) (with_key pair.0 pair.1 ps))) (pair_held row.0 pair rows (filter (is_off pair.0) ps) up ∙ ap (λ xs. new ++ xs) off)
        (same-filter (stays label rows) (with_key pair.0 pair.1 ps) (pair ∷ filter (is_off pair.0) ps) (with_key-same pair.0 pair.1 ps s)) in
        let is : items_at label (begun row.0 (put_by row.1) rows ++ lifetimes_of rows) ≡ new ++ old =
        ap (λ put. items_at label (begun row.0 put rows ++ lifetimes_of rows)) puts ∙ pairs-append (begun row.0 (Some pair) rows) (lifetimes_of rows) in
        rw is
        (same-trans ((new ++ old) ++ kept) (old ++ filter (stays label rows) (with_key pair.0 pair.1 ps)) after
        (same-trans ((new ++ old) ++ kept) (old ++ (new ++ kept)) (old ++ filter (stays label rows) (with_key pair.0 pair.1 ps))
        (same-regroup new old kept) (same-append old old (new ++ kept) (filter (stays label rows) (with_key pair.0 pair.1 ps)) (same-refl old)
        (same-sym (filter (stays label rows) (with_key pair.0 pair.1 ps)) (new ++ kept) grown)))
        rest.same);
  }

  held_del : (from : ℕ) (key : ℤ) (rows : List KeyRow) (ps after : List (ℤ × ℤ)) → from ≤ label → AreSorted ps → IsHeld rows (remove_entry (int_eq key) ps) after → IsHeld ((from, Del key) ∷ rows) ps after
  held_del from key rows ps after up s rest = record {
    sorted = rest.sorted;
    same = subst (λ xs. HaveSameItems (items_at label (lifetimes_of rows) ++ xs) after) (ap (filter (stays label rows)) (without_key-is key ps s) ∙ off_stay (from, Del key) rows ps up) rest.same;
  }

  -- a row up to the label, and then the others
  abbrev Held : List KeyRow → List (ℤ × ℤ) → Type 0
  Held rows after = (ps : List (ℤ × ℤ)) → AreSorted ps → run (map as_row (up_to label rows)) (pairs ps) ≡ Ok (pairs after) → IsHeld rows ps after

  ran_first : (row : KeyRow) (rows : List KeyRow) (ps : List (ℤ × ℤ)) (r : Result State ℕ) → row.0 ≤ label
      → run (map as_row (up_to label (row ∷ rows))) (pairs ps) ≡ r → run (as_row row ∷ map as_row (up_to label rows)) (pairs ps) ≡ r
  ran_first row rows ps r up ran = sym (ap (λ b. run (map as_row (cond b (row ∷ up_to label rows) (up_to label rows))) (pairs ps)) (le-leb row.0 label up)) ∙ ran

  held_other : (from : ℕ) (op : Op) (rows : List KeyRow) (ps after : List (ℤ × ℤ)) → from ≤ label → IsOther op → run (map as_row (up_to label ((from, op) ∷ rows))) (pairs ps) ≡ Ok (pairs after) → ⊥
  held_other from op rows ps after up other ran =
      let first = ran_first (from, op) rows ps (Ok (pairs after)) up ran in
      let stops = ended (as_row (from, op)) (map as_row (up_to label rows)) (pairs ps) (other_stops op from ps other) in
      cc

  held_up : (from : ℕ) (op : Op) (rows : List KeyRow) (after : List (ℤ × ℤ)) → from ≤ label → Held rows after → Held ((from, op) ∷ rows) after
  held_up from (Put key value) rows after up rest ps s ran =
      held_put (from, Put key value) (key, value) rows ps after up refl refl s
      (rest (with_key key value ps) (sorted_with key value ps s)
      (later_ok (run (map as_row (up_to label rows)) (pairs (with_key key value ps))) (pairs after)
      (sym (goes (as_row (from, Put key value)) (map as_row (up_to label rows)) (pairs ps) (pairs (with_key key value ps)) (put_steps from key value ps))
      ∙ ran_first (from, Put key value) rows ps (Ok (pairs after)) up ran)))
  held_up from (Del key) rows after up rest ps s ran =
      elim (is_some (lookup (int_eq key) ps)) as (λ b. is_some (lookup (int_eq key) ps) ≡ b → IsHeld ((from, Del key) ∷ rows) ps after) [
        | true ↦ λ there.
            let steps : step (as_row (from, Del key)) (pairs ps) ≡ Some (pairs (remove_entry (int_eq key) ps)) = del_steps from key ps
            ∙ ap (λ b. option_map pairs (if b then Some (remove_entry (int_eq key) ps) else None)) there in
            held_del from key rows ps after up s
            (rest (remove_entry (int_eq key) ps) (sorted_without key ps s)
            (later_ok (run (map as_row (up_to label rows)) (pairs (remove_entry (int_eq key) ps))) (pairs after)
            (sym (goes (as_row (from, Del key)) (map as_row (up_to label rows)) (pairs ps) (pairs (remove_entry (int_eq key) ps)) steps) ∙ ran_first (from, Del key) rows ps (Ok (pairs after)) up ran)))
        | false ↦ λ gone.
            let steps : step (as_row (from, Del key)) (pairs ps) ≡ None = del_steps from key ps ∙ ap (λ b. option_map pairs (if b then Some (remove_entry (int_eq key) ps) else None)) gone in
            let first = ran_first (from, Del key) rows ps (Ok (pairs after)) up ran in
            let stops = ended (as_row (from, Del key)) (map as_row (up_to label rows)) (pairs ps) steps in
            absurd (cc)
      ] refl
  held_up from (Enq v) rows after up rest ps s ran = absurd (held_other from (Enq v) rows ps after up tt ran)
  held_up from Deq rows after up rest ps s ran = absurd (held_other from Deq rows ps after up tt ran)
  held_up from (Push v) rows after up rest ps s ran = absurd (held_other from (Push v) rows ps after up tt ran)
  held_up from Pop rows after up rest ps s ran = absurd (held_other from Pop rows ps after up tt ran)
  held_up from (PushL v) rows after up rest ps s ran = absurd (held_other from (PushL v) rows ps after up tt ran)
  held_up from (PushR v) rows after up rest ps s ran = absurd (held_other from (PushR v) rows ps after up tt ran)
  held_up from PopL rows after up rest ps s ran = absurd (held_other from PopL rows ps after up tt ran)
  held_up from PopR rows after up rest ps s ran = absurd (held_other from PopR rows ps after up tt ran)
  held_up from (Ins k) rows after up rest ps s ran = absurd (held_other from (Ins k) rows ps after up tt ran)
  held_up from DelMin rows after up rest ps s ran = absurd (held_other from DelMin rows ps after up tt ran)

  pub held : (rows : List KeyRow) (ps after : List (ℤ × ℤ)) → LabelsRise rows → AreSorted ps → run (map as_row (up_to label rows)) (pairs ps) ≡ Ok (pairs after) → IsHeld rows ps after
  held [] ps after rise s ran = held_before [] ps after tt s ran
  held (row ∷ rows) ps after rise s ran = elim (cases_lt label row.0) [
    | inl later ↦ held_before (row ∷ rows) ps after (after_rises row rows later rise) s ran
    | inr up ↦ held_up row.0 row.1 rows after up (λ ps s ran. held rows ps after rise.1 s ran) ps s ran
  ]
