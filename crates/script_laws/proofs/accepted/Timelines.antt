-- The timelines of a bench and the judge of what it has written: the judge was reported the rows of each priority queue.
use Rattle.std.proofs.Common.{◌≡◌, ◌⊎◌, inl, inr, ℕ, ◌<◌, ◌≤◌, Bool, true, false, nat_le, cond, List, [], ◌∷◌, ◌++◌, length, map, refl, sym, ap, ◌∙◌, subst, arith, length-append}
use Rattle.std.specs.Prelude.{is_some}
use Rattle.std.specs.List.{AllByRecursion}
use Rattle.std.specs.Str.{bytes_eq}
use Rattle.std.proofs.lemmas.Bool.{leb-false, or_parts}
use Rattle.std.proofs.lemmas.List.{length-map, map-append}
use Rattle.retro_base.specs.declared.kind.Kind.{Kind}
use Rattle.retro_base.specs.declared.row.Row.{Row}
use Rattle.retro_base.specs.Limits.{most_timelines}
use Rattle.retro_base.specs.Name.{is_name}
use Rattle.retro_base.specs.lemmas.Replayable.{empty_replayable}
use Rattle.evidence_check.specs.Judgement.{Judge, Reported, rows_of}
use Rattle.reactions.specs.declared.outcome.Outcome.{Outcome}
use Rattle.reactions.specs.declared.outcome.Outcome.TheVariants.{Accepted, Refused}
use Rattle.reactions.specs.declared.outcome.Refusal.TheVariants as refusals
use Rattle.reactions.specs.Bench.{NamedTimeline, fresh, has_timeline, is_named}
use Rattle.reactions.specs.Outcome.{reply_text}
use Rattle.reactions.specs.Reaction.{Effect, if_startable, leaves, on_named, with_first, with_timeline}
use Rattle.reactions.specs.TimelineEffects.{TimelineEffect}
use Rattle.script_laws.proofs.accepted.Blocks.{all_then}
use Rattle.script_laws.proofs.accepted.Effects.{IsGood, StaysGood, reported_rows}
use Rattle.script_laws.proofs.accepted.Passing.{IsPassedOver, accepted_passes, refusal_passes}
use Rattle.script_laws.proofs.accepted.ReadLines.{Reads}
use Rattle.script_laws.proofs.accepted.Telling.{Agrees, HasReported, agrees_as, counted, is_listed, itself, other_name, put, tells_same}
use Rattle.retro_base.specs.Facts.{same_bytes}

-- the names of the timelines, and the rows of each name of which evidence tells
abbrev pub names_of : List NamedTimeline → List (List ℕ)
names_of timelines = map (λ (timeline : NamedTimeline). timeline.name) timelines

abbrev pub rows_by_name : List NamedTimeline → List ℕ → List Row
rows_by_name [] name = []
rows_by_name (first ∷ timelines) name = cond (is_named name first) (reported_rows first.kind first.rows) (rows_by_name timelines name)

-- all timelines are good ones, and the judge was reported of them
pub record AreToldOf (timelines : List NamedTimeline) (reported : List Reported) : Type 0 where
  pub few : length timelines ≤ most_timelines
  pub good : AllByRecursion IsGood timelines
  pub agrees : Agrees (names_of timelines) (rows_by_name timelines) reported

-- the answer is read, and after it the judge was reported of the timelines as they are then
pub record StayKept (effect : Effect) (judge : Judge) : Type 0 where
  pub later : Judge
  pub reads : Reads judge (reply_text effect.outcome) later
  pub kept : AreToldOf effect.timelines later.reported

pub left_kept : (timelines : List NamedTimeline) (judge : Judge) (outcome : Outcome) → AreToldOf timelines judge.reported → IsPassedOver outcome → StayKept (leaves timelines outcome) judge
left_kept timelines judge outcome kept passes = record { later = judge; reads = passes judge; kept = kept }

pub few_names : (timelines : List NamedTimeline) → length timelines ≤ most_timelines → length (names_of timelines) ≤ most_timelines
few_names timelines few = omega (arith, length-map timelines (λ (timeline : NamedTimeline). timeline.name), few)

-- The timeline of a name, and the others.
record IsFound (name : List ℕ) (effect : NamedTimeline → TimelineEffect) (timelines : List NamedTimeline) (made : Effect) : Type 0 where
  timeline : NamedTimeline
  stays : StaysGood timeline (effect timeline)
  name_is : timeline.name ≡ name
  listed : is_listed timeline.name (names_of timelines) ≡ true
  own : rows_by_name timelines timeline.name ≡ reported_rows timeline.kind timeline.rows
  outcome : made.outcome ≡ (effect timeline).outcome
  as_many : length made.timelines ≡ length timelines
  good : AllByRecursion IsGood made.timelines
  names : names_of made.timelines ≡ names_of timelines
  rows : (other : List ℕ) → rows_by_name made.timelines other ≡ put timeline.name (reported_rows (effect timeline).timeline.kind (effect timeline).timeline.rows) (rows_by_name timelines) other

abbrev Finds : List ℕ → (NamedTimeline → TimelineEffect) → List NamedTimeline → Effect → Type 0
Finds name effect timelines made = (made ≡ leaves timelines (Refused (refusals.NoTimeline name))) ⊎ IsFound name effect timelines made

chosen_once : (b : Bool) (new old rest : List Row) → cond b new rest ≡ cond b new (cond b old rest)
chosen_once b new old rest = grind arith

module _ (name : List ℕ) (effect : NamedTimeline → TimelineEffect) where
  found_first : (first : NamedTimeline) (timelines : List NamedTimeline) → AllByRecursion IsGood (first ∷ timelines) → StaysGood first (effect first) → first.name ≡ name
      → IsFound name effect (first ∷ timelines) (record { timelines = (effect first).timeline ∷ timelines; outcome = (effect first).outcome })
  found_first first timelines good stays is = record {
    timeline = first;
    stays = stays;
    name_is = is;
    listed = rw (itself first.name) refl;
    own = rw (itself first.name) refl;
    outcome = refl;
    as_many = omega arith;
    good = (stays.good, good.1);
    names = ap (λ n. n ∷ names_of timelines) stays.same_name;
    rows = λ other.
        ap (λ n. cond (bytes_eq n other) (reported_rows (effect first).timeline.kind (effect first).timeline.rows) (rows_by_name timelines other)) stays.same_name
        ∙ chosen_once (bytes_eq first.name other) (reported_rows (effect first).timeline.kind (effect first).timeline.rows) (reported_rows first.kind first.rows) (rows_by_name timelines other);
  }

  found_after : (first : NamedTimeline) (timelines : List NamedTimeline) (made : Effect) → IsGood first → bytes_eq first.name name ≡ false → IsFound name effect timelines made
      → IsFound name effect (first ∷ timelines) (with_first first made)
  found_after first timelines made good apart found =
      let out : bytes_eq first.name found.timeline.name ≡ false = ap (λ n. bytes_eq first.name n) found.name_is ∙ apart in
      record {
        timeline = found.timeline;
        stays = found.stays;
        name_is = found.name_is;
        listed = rw out found.listed;
        own = rw out found.own;
        outcome = found.outcome;
        as_many = omega (arith, found.as_many);
        good = (good, found.good);
        names = ap (λ ns. first.name ∷ ns) found.names;
        rows = λ other.
            elim (bytes_eq first.name other) as (λ b. bytes_eq first.name other ≡ b
            → cond b (reported_rows first.kind first.rows) (rows_by_name made.timelines other)
            ≡ cond (bytes_eq found.timeline.name other) (reported_rows (effect found.timeline).timeline.kind (effect found.timeline).timeline.rows)
            (cond b (reported_rows first.kind first.rows) (rows_by_name timelines other))) [
              | true ↦ λ own. rw (other_name first.name found.timeline.name other own out) refl
              | false ↦ λ e. found.rows other
            ] refl;
      }

  finds : ((timeline : NamedTimeline) → IsGood timeline → StaysGood timeline (effect timeline)) → (timelines : List NamedTimeline) → AllByRecursion IsGood timelines
      → Finds name effect timelines (on_named name effect timelines)
  finds each [] good = inl refl
  finds each (first ∷ timelines) good =
      elim (is_named name first) as (λ b. is_named name first ≡ b
      → Finds name effect (first ∷ timelines)
      (cond b (record { timelines = (effect first).timeline ∷ timelines; outcome = (effect first).outcome }) (with_first first (on_named name effect timelines)))) [
        | true ↦ λ is. inr (found_first first timelines good (each first good.0) (same_bytes first.name name is))
        | false ↦ λ apart. elim (finds each timelines good.1) [
          | inl none ↦ inl (ap (with_first first) none)
          | inr found ↦ inr (found_after first timelines (on_named name effect timelines) good.0 apart found)
        ]
      ] refl

  found_kept : (timelines : List NamedTimeline) (made : Effect) (judge : Judge) → AreToldOf timelines judge.reported → IsFound name effect timelines made → StayKept made judge
  found_kept timelines made judge kept found =
      let reported = found.stays.tells (names_of timelines) (few_names timelines kept.few) found.listed judge (rows_by_name timelines) kept.agrees found.own in
      record {
        later = reported.later;
        reads = subst (λ outcome. Reads judge (reply_text outcome) reported.later) (sym found.outcome) reported.reads;
        kept = record {
          few = omega (arith, found.as_many, kept.few);
          good = found.good;
          agrees = subst (λ names. Agrees names (rows_by_name made.timelines) reported.later.reported) (sym found.names)
              (agrees_as (names_of timelines) _ (rows_by_name made.timelines) reported.later.reported (λ other. sym (found.rows other)) reported.agrees);
        };
      }

  pub named_kept : is_name name ≡ true → ((timeline : NamedTimeline) → IsGood timeline → StaysGood timeline (effect timeline)) → (timelines : List NamedTimeline) (judge : Judge) → AreToldOf timelines judge.reported
      → StayKept (on_named name effect timelines) judge
  named_kept named each timelines judge kept =
      elim (finds each timelines kept.good) [
        | inl none ↦ subst (λ made. StayKept made judge) (sym none) (left_kept timelines judge (Refused (refusals.NoTimeline name)) kept (refusal_passes (refusals.NoTimeline name) named))
        | inr found ↦ found_kept timelines (on_named name effect timelines) judge kept found
      ]

-- One more timeline, after all others.
none_there : (name : List ℕ) (timelines : List NamedTimeline) → has_timeline name timelines ≡ false → rows_by_name timelines name ≡ []
none_there name [] free = refl
none_there name (first ∷ timelines) free =
    let parts = or_parts (is_named name first) (has_timeline name timelines) free in
    rw (parts.0) (none_there name timelines parts.1)

later_rows : (timelines : List NamedTimeline) (last : NamedTimeline) → has_timeline last.name timelines ≡ false → (other : List ℕ)
    → rows_by_name (timelines ++ last ∷ []) other ≡ put last.name (reported_rows last.kind last.rows) (rows_by_name timelines) other
later_rows [] last free other = refl
later_rows (first ∷ timelines) last free other =
    let parts = or_parts (is_named last.name first) (has_timeline last.name timelines) free in
    elim (bytes_eq first.name other) as (λ b. bytes_eq first.name other ≡ b
    → cond b (reported_rows first.kind first.rows) (rows_by_name (timelines ++ last ∷ []) other)
    ≡ cond (bytes_eq last.name other) (reported_rows last.kind last.rows) (cond b (reported_rows first.kind first.rows) (rows_by_name timelines other))) [
      | true ↦ λ own. rw (other_name first.name last.name other own parts.0) refl
      | false ↦ λ e. later_rows timelines last parts.1 other
    ] refl

more_counted : (test : List ℕ → Bool) (names more : List (List ℕ)) → counted test names ≤ counted test (names ++ more)
more_counted test [] more = omega arith
more_counted test (name ∷ names) more = omega (arith, more_counted test names more)

last_listed : (names : List (List ℕ)) (name : List ℕ) → is_listed name (names ++ name ∷ []) ≡ true
last_listed [] name = rw (itself name) refl
last_listed (first ∷ names) name = grind (arith, last_listed names name)

-- the answer tells of the new timeline, whose name nobody has reported of
abbrev pub TellsOfNew : NamedTimeline → Outcome → Judge → Type 0
TellsOfNew timeline outcome judge =
    (names : List (List ℕ)) → length names ≤ most_timelines → is_listed timeline.name names ≡ true → (by : List ℕ → List Row) → Agrees names by judge.reported → by timeline.name ≡ []
    → HasReported names by timeline.name (reported_rows timeline.kind timeline.rows) judge (reply_text outcome)

pub comes_kept : (timelines : List NamedTimeline) (last : NamedTimeline) (outcome : Outcome) (judge : Judge) → AreToldOf timelines judge.reported → IsGood last → has_timeline last.name timelines ≡ false
    → length timelines < most_timelines → TellsOfNew last outcome judge → StayKept (with_timeline timelines last outcome) judge
comes_kept timelines last outcome judge kept good free room tells =
    let all = timelines ++ last ∷ [] in
    let names : names_of all ≡ names_of timelines ++ last.name ∷ [] = map-append (λ (timeline : NamedTimeline). timeline.name) timelines (last ∷ []) in
    let many : length all ≤ most_timelines = omega (arith, length-append timelines (last ∷ []), room) in
    let listed : is_listed last.name (names_of all) ≡ true = subst (λ ns. is_listed last.name ns ≡ true) (sym names) (last_listed (names_of timelines) last.name) in
    let agrees : Agrees (names_of all) (rows_by_name timelines) judge.reported =
    subst (λ ns. Agrees ns (rows_by_name timelines) judge.reported) (sym names) (record {
      same = kept.agrees.same;
      few = omega (arith, kept.agrees.few, more_counted (λ name. is_some (rows_of name judge.reported)) (names_of timelines) (last.name ∷ []));
    }) in
    let reported = tells (names_of all) (few_names all many) listed (rows_by_name timelines) agrees (none_there last.name timelines free) in
    record {
      later = reported.later;
      reads = reported.reads;
      kept = record {
        few = many;
        good = all_then IsGood timelines last kept.good good;
        agrees = agrees_as (names_of all) _ (rows_by_name all) reported.later.reported (λ other. sym (later_rows timelines last free other)) reported.agrees;
      };
    }

pub startable_kept : (timelines : List NamedTimeline) (name : List ℕ) (effect : Effect) (judge : Judge) → AreToldOf timelines judge.reported
    → (has_timeline name timelines ≡ false → length timelines < most_timelines → StayKept effect judge) → StayKept (if_startable timelines name effect) judge
startable_kept timelines name effect judge kept starts =
    elim (has_timeline name timelines) as (λ b. has_timeline name timelines ≡ b
    → StayKept (cond b (leaves timelines (Refused refusals.NameTaken)) (cond (nat_le most_timelines (length timelines)) (leaves timelines (Refused refusals.Timelines)) effect)) judge) [
      | true ↦ λ taken. left_kept timelines judge (Refused refusals.NameTaken) kept (refusal_passes refusals.NameTaken tt)
      | false ↦ λ free.
          elim (nat_le most_timelines (length timelines)) as (λ b. nat_le most_timelines (length timelines) ≡ b → StayKept (cond b (leaves timelines (Refused refusals.Timelines)) effect) judge) [
            | true ↦ λ full. left_kept timelines judge (Refused refusals.Timelines) kept (refusal_passes refusals.Timelines tt)
            | false ↦ λ room. starts free (leb-false most_timelines (length timelines) room)
          ] refl
    ] refl

-- a timeline without rows
nothing_to_tell : (kind : Kind) → reported_rows kind [] ≡ []
nothing_to_tell kind = grind arith

fresh_is_good : (name : List ℕ) (kind : Kind) → is_name name ≡ true → IsGood (fresh name kind)
fresh_is_good name kind named = record {
  named = named;
  least = omega arith;
  most = omega arith;
  sound = record { replayable = empty_replayable kind; ranged = tt };
  undo_start = [];
  undo = refl;
  redo_start = [];
  redo = refl;
}

pub starts_kept : (timelines : List NamedTimeline) (name : List ℕ) (kind : Kind) (judge : Judge) → AreToldOf timelines judge.reported → is_name name ≡ true
    → StayKept (if_startable timelines name (with_timeline timelines (fresh name kind) Accepted)) judge
starts_kept timelines name kind judge kept named =
    startable_kept timelines name (with_timeline timelines (fresh name kind) Accepted) judge kept
    (λ free room. comes_kept timelines (fresh name kind) Accepted judge kept (fresh_is_good name kind named) free room
    (λ names few listed by agrees own.
    tells_same names by name (reported_rows kind []) judge (reply_text Accepted) (accepted_passes judge) agrees (own ∙ sym (nothing_to_tell kind))))
