-- The timelines as the bench keeps them: what is seen of one that was changed, and that none is of a spent session.
use Rattle.std.proofs.Common.{◌≡◌, ℕ, zero, suc, ◌+◌, ◌<◌, Bool, true, false, List, [], ◌∷◌, ◌++◌, length, get_or, set, position, refl, sym, ◌∙◌, ap, subst, arith, Some, Result, Ok, Err, IfOk, OnOk}
use Rattle.std.specs.List.{list_any, position_from, remove, AllByRecursion}
use Rattle.std.specs.Prelude.{slice_get, IfSome, ◌||◌}
use Rattle.std.proofs.lemmas.List.{get_or-map, map-set, length-map}
use Rattle.std.proofs.lemmas.List.Quantifiers.{position-Some}
use Rattle.std.proofs.lemmas.Iterator.Adapters.{position_from-zero}
use Rattle.retro_base.specs.Facts.{some_is_not_none}
use Rattle.timeline_undo.specs.Session.{SessionState}
use Rattle.reactions.specs.Bench.{NamedTimeline, has_timeline, is_named, timeline_of}
use Rattle.timelines.specs.Kept.{KeptTimeline, IsUnspent, is_kept_as, kept_over, named, shown}
use Rattle.reactions.specs.Reaction.{on_named}
use Rattle.reactions.specs.TimelineEffects.{TimelineEffect}
use Rattle.timelines.specs.AnsweredLine.{IsTold, told}
use Rattle.timelines.proofs.Named.{on_named_found, session_found}
use Rattle.timelines.proofs.AnsweredLine.{told_of_all}

abbrev seen_of : KeptTimeline → NamedTimeline
seen_of kept = kept.timeline

-- a name is found among the timelines
found_below : (name : List ℕ) (kept : List KeptTimeline) (index : ℕ) (there : KeptTimeline) → Some index ≡ position (is_named name) (shown kept) → index < length kept
found_below name kept index there at =
    omega (arith, (position-Some (is_named name) (shown kept) index there.timeline (sym at)).0, length-map kept seen_of)

pub found_within : (name : List ℕ) (kept : List KeptTimeline) (index : ℕ) → Some index ≡ position (is_named name) (shown kept) → index < length kept
found_within name [] index at = absurd (some_is_not_none at)
found_within name (k ∷ kept) index at = found_below name (k ∷ kept) index k at

-- the one that stands there, as it is seen
seen_there : (kept : List KeptTimeline) (index : ℕ) (there : KeptTimeline) → index < length kept → there ≡ get_or kept index there
    → there.timeline ≡ get_or (shown kept) index there.timeline
seen_there kept index there below is =
    ap (λ (k : KeptTimeline). k.timeline) is ∙ sym (get_or-map (λ (k : KeptTimeline). k.timeline) kept index there there.timeline below)

-- the session of the timeline that was found
pub kept_session : (name : List ℕ) (kept : List KeptTimeline) (index : ℕ) (there : KeptTimeline) (session : SessionState) → Some index ≡ position (is_named name) (shown kept)
    → there ≡ get_or kept index there → there ≡ kept_over there.timeline.name session → timeline_of name (shown kept) ≡ Some (named name session)
kept_session name kept index there session at is over =
    session_found name (shown kept) index there.timeline session at (seen_there kept index there (found_below name kept index there at) is)
    (ap (λ (k : KeptTimeline). k.timeline) over)

-- each of the kept timelines is unspent
unspent_at : (kept : List KeptTimeline) (index : ℕ) (d : KeptTimeline) → AllByRecursion IsUnspent kept → index < length kept → IsUnspent (get_or kept index d)
unspent_at [] index d all below = absurd (omega (arith, below))
unspent_at (k ∷ kept) zero d all below = all.0
unspent_at (k ∷ kept) (suc index) d all below = unspent_at kept index d all.1 (omega (arith, below))

pub unspent_found : (name : List ℕ) (kept : List KeptTimeline) (index : ℕ) (there : KeptTimeline) → AllByRecursion IsUnspent kept → Some index ≡ position (is_named name) (shown kept)
    → there ≡ get_or kept index there → IsUnspent there
unspent_found name kept index there all at is = subst IsUnspent (sym is) (unspent_at kept index there all (found_below name kept index there at))

-- all but one, whatever is put in its place
pub unspent_others : (kept : List KeptTimeline) (index : ℕ) (after : KeptTimeline) → AllByRecursion IsUnspent kept → AllByRecursion IsUnspent (remove (set kept index after) index)
unspent_others [] zero after all = tt
unspent_others [] (suc index) after all = tt
unspent_others (k ∷ kept) zero after all = all.1
unspent_others (k ∷ kept) (suc index) after all = (all.0, unspent_others kept index after all.1)

-- all but one, and that one too
pub unspent_but_one : (kept : List KeptTimeline) (index : ℕ) (there : KeptTimeline) → index < length kept → there ≡ get_or kept index there → IsUnspent there
    → AllByRecursion IsUnspent (remove kept index) → AllByRecursion IsUnspent kept
unspent_but_one [] index there below is unspent others = tt
unspent_but_one (k ∷ kept) zero there below is unspent others = (subst IsUnspent is unspent, others)
unspent_but_one (k ∷ kept) (suc index) there below is unspent others = (others.0, unspent_but_one kept index there (omega (arith, below)) is unspent others.1)

-- the timeline that was put there
pub put_there : (kept : List KeptTimeline) (index : ℕ) (after : KeptTimeline) → index < length kept → slice_get (set kept index after) index ≡ Some after
put_there [] index after below = absurd (omega (arith, below))
put_there (k ∷ kept) zero after below = refl
put_there (k ∷ kept) (suc index) after below = put_there kept index after (omega (arith, below))

-- a name among the kept ones, and among those that are seen
pub any_shown : (name : List ℕ) (kept : List KeptTimeline) → list_any (is_kept_as name) kept ≡ has_timeline name (shown kept)
any_shown name [] = refl
any_shown name (k ∷ kept) = ap (λ b. is_named name k.timeline || b) (any_shown name kept)

index_from : (name : List ℕ) (kept : List KeptTimeline) (from : ℕ) → position_from (is_kept_as name) from kept ≡ position_from (is_named name) from (shown kept)
index_from name [] from = refl
index_from name (k ∷ kept) from =
    elim (is_named name k.timeline) as (λ b. is_named name k.timeline ≡ b → position_from (is_kept_as name) from (k ∷ kept) ≡ position_from (is_named name) from (shown (k ∷ kept))) [
      | true ↦ λ e. rw e refl
      | false ↦ λ e. rw e (index_from name kept (from + 1))
    ] refl

pub index_shown : (name : List ℕ) (kept : List KeptTimeline) → position (is_kept_as name) kept ≡ position (is_named name) (shown kept)
index_shown name kept =
    position_from-zero (is_kept_as name) kept ∙ index_from name kept 0 ∙ sym (position_from-zero (is_named name) (shown kept))

-- what is told of a command that the timeline that was found has performed, which goes where a step was cut short
pub kept_told : {E : Type 0} (result : Result Bool E) (name : List ℕ) (effect : NamedTimeline → TimelineEffect) (kept settled : List KeptTimeline) (index : ℕ) (there after : KeptTimeline)
    (before text : List ℕ) → before ≡ [] → Some index ≡ position (is_named name) (shown kept) → there ≡ get_or kept index there
    → IfOk result (IsTold (effect there.timeline) after.timeline before text) → OnOk result (IsUnspent after)
    → (IfSome (slice_get (set kept index after) index) IsUnspent → settled ≡ set kept index after)
    → IfOk result (λ refused. told (on_named name effect (shown kept)) ≡ record { timelines = shown settled; answer = text; refused = refused })
kept_told (Ok refused) name effect kept settled index there after before text empty at is took unspent same =
    let below : index < length kept = found_below name kept index there at in
    rw (
      same (subst (λ o. IfSome o IsUnspent) (sym (put_there kept index after below)) unspent),
      map-set (λ (k : KeptTimeline). k.timeline) kept index after,
      on_named_found name effect (shown kept) index there.timeline (sym at),
      ← seen_there kept index there below is,
    )
    (told_of_all (effect there.timeline) (shown kept) index after.timeline before text refused empty took)
kept_told (Err e) name effect kept settled index there after before text empty at is took unspent same = tt

-- one more timeline
pub shown_more : (kept : List KeptTimeline) (last : KeptTimeline) → shown (kept ++ last ∷ []) ≡ shown kept ++ last.timeline ∷ []
shown_more [] last = refl
shown_more (k ∷ kept) last = ap (λ timelines. k.timeline ∷ timelines) (shown_more kept last)

pub unspent_more : (kept : List KeptTimeline) (last : KeptTimeline) → AllByRecursion IsUnspent kept → IsUnspent last → AllByRecursion IsUnspent (kept ++ last ∷ [])
unspent_more [] last all unspent = (unspent, tt)
unspent_more (k ∷ kept) last all unspent = (all.0, unspent_more kept last all.1 unspent)
