-- What rows carry from the entries that are left before them to those that are left after them: by parts, and by what they come to.
use Rattle.std.proofs.Common.{◌≡◌, ℕ, ◌+◌, ◌-◌, ◌<◌, ◌≤◌, List, [], ◌∷◌, ◌++◌, length, get_or, take, ap, sym, ◌∙◌, subst, add-one}
use Rattle.std.proofs.Math.Seq.{take-suc}
use Rattle.retro_base.specs.declared.row.Entry.{Entry}
use Rattle.retro_base.specs.declared.row.Row.{Row}
use Rattle.pq_fusion.specs.Pieces.{PieceParts, after_rows, tolerant, fuse}
use Rattle.pq_fusion.specs.EntryCounts.{Carries}
use Rattle.pq_fusion.proofs.FromRows.{in_parts, rising_rows, fuse_tolerant, no_more}
use Rattle.pq_fusion.proofs.Ranges.{take-later, take_all, take_none}

-- no rows carry what there is
pub carries_none : (Before : List Entry → Type 0) (rows : List Row) (to : ℕ) → rows ≡ [] → Carries Before (take to rows) Before
carries_none Before rows to none piece rising before = rw (none, take_none to, no_more piece) before

-- rows one after the other
pub carries_both : (Before Between After : List Entry → Type 0) (xs ys : List Row) → Carries Before xs Between → Carries Between ys After → Carries Before (xs ++ ys) After
carries_both Before Between After xs ys first second piece rising before =
    let end : After (after_rows ys (after_rows xs piece)).left = second (after_rows xs piece) (rising_rows xs piece rising) (first piece rising before) in
    rw (in_parts xs ys piece) end

-- rows by what they come to
pub carries_piece : (Before After : List Entry → Type 0) (rows : List Row) (piece : PieceParts) → piece ≡ tolerant rows
    → ((first : PieceParts) → Before first.left → After (fuse first piece).left) → Carries Before rows After
carries_piece Before After rows piece is leads first rising before =
    subst (λ p. After p.left) (ap (fuse first) is ∙ fuse_tolerant rows first rising) (leads first before)

pub carries_whole : (Before After : List Entry → Type 0) (rows : List Row) (to : ℕ) (piece : PieceParts) → to ≡ length rows → piece ≡ tolerant rows
    → ((first : PieceParts) → Before first.left → After (fuse first piece).left) → Carries Before (take to rows) After
carries_whole Before After rows to piece all is leads =
    carries_piece Before After (take to rows) piece (is ∙ ap tolerant (sym (take_all rows to all))) leads

-- rows of two parts: all of the first, and some of the second
pub carries_sides : (Before First After : List Entry → Type 0) (rows earlier later : List Row) (to own : ℕ) → rows ≡ earlier ++ later → own ≡ length earlier → own ≤ to
    → Carries Before (take own earlier) First → Carries First (take (to - own) later) After → Carries Before (take to rows) After
carries_sides Before First After rows earlier later to own rows_are own_is beyond first second =
    subst (λ xs. Carries Before xs After) (sym (ap (take to) rows_are ∙ take-later earlier later own own_is to beyond))
    (carries_both Before First After earlier (take (to - own) later) (subst (λ xs. Carries Before xs First) (take_all earlier own own_is) first) second)

-- rows gone through one by one
pub carries_more : (Before Between After : List Entry → Type 0) (rows : List Row) (n : ℕ) (d : Row) → n < length rows → Carries Before (take n rows) Between
    → Carries Between (get_or rows n d ∷ []) After → Carries Before (take (n + 1) rows) After
carries_more Before Between After rows n d within first second =
    subst (λ xs. Carries Before xs After) (sym (ap (λ k. take k rows) (add-one n) ∙ take-suc rows n d within))
    (carries_both Before Between After (take n rows) (get_or rows n d ∷ []) first second)

pub carries_all : (Before After : List Entry → Type 0) (rows : List Row) (n : ℕ) → n ≡ length rows → Carries Before (take n rows) After → Carries Before rows After
carries_all Before After rows n all carries = subst (λ xs. Carries Before xs After) (take_all rows n all) carries
