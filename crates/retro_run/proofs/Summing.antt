-- Refusals are counted line by line.
use Rattle.std.proofs.Common.{◌≡◌, ℕ, zero, suc, ◌+◌, ◌≤◌, Bool, true, false, List, [], ◌∷◌, length, refl, sym, ap, ◌∙◌, arith, Some}
use Rattle.std.specs.List.{filter}
use Rattle.std.proofs.lemmas.Bool.{le-ltb}
use Rattle.retro_base.specs.declared.kind.Kind.{Kind}
use Rattle.retro_base.specs.Limits.{longest_line}
use Rattle.retro_base.specs.Name.{is_name, name_of}
use Rattle.script_gen.specs.Coming.{GivesNext}
use Rattle.script_gen.specs.Script.{generated, lines_from, state_later}
use Rattle.reactions.specs.Answers.{bench_after, reactions}
use Rattle.reactions.specs.Bench.{Bench, BenchState}
use Rattle.reactions.specs.Reaction.{Reaction, reacts, reacts_to}
use Rattle.retro_run.specs.Summary.{generated_name, one_if, refusals}

abbrev count : List Reaction → ℕ
count made = length (filter (λ (reaction : Reaction). reaction.refused) made)

first_counts : (reaction : Reaction) (others : List Reaction) (refused : Bool) → reaction.refused ≡ refused → count (reaction ∷ others) ≡ one_if refused + count others
first_counts reaction others refused is = grind arith

refusals-line : (bench : Bench) (line : List ℕ) (more : List (List ℕ))
    → refusals bench (line ∷ more) ≡ one_if (reacts bench line).refused + refusals (reacts bench line).bench more
unfolding reactions
refusals-line bench line more = first_counts (reacts bench line) (reactions (reacts bench line).bench more) (reacts bench line).refused refl

bench_after-first : (bench : Bench) (line : List ℕ) (more : List (List ℕ)) → bench_after bench (line ∷ more) ≡ bench_after (reacts bench line).bench more
unfolding bench_after
bench_after-first bench line more = refl

pub refusals-none : (bench : Bench) → refusals bench [] ≡ 0
unfolding reactions
refusals-none bench = refl

pub bench_after-none : (bench : Bench) → bench_after bench [] ≡ bench
unfolding bench_after
bench_after-none bench = refl

one_at_most : (b : Bool) → one_if b ≤ 1
one_at_most b = grind arith

-- no more are refused than there are
pub refusals-le : (bench : Bench) (lines : List (List ℕ)) → refusals bench lines ≤ length lines
refusals-le bench [] = omega (arith, refusals-none bench)
refusals-le bench (line ∷ more) =
    omega (arith, refusals-line bench line more, one_at_most (reacts bench line).refused, refusals-le (reacts bench line).bench more)

-- a short line is answered as it is shown
shown_whole : (bench : Bench) (line : List ℕ) → length line ≤ longest_line → reacts bench line ≡ reacts_to bench line false
shown_whole bench line short = ap (reacts_to bench line) (le-ltb longest_line (length line) short)

-- lines are left, and so many were refused
pub record CountsFaults (first bench : Bench) (all left : List (List ℕ)) (refused : ℕ) : Type 0 where
  pub bench_is : bench_after bench left ≡ bench_after first all
  pub refused_is : refused + refusals bench left ≡ refusals first all
  pub few : refused + length left ≤ length all

-- a line more is answered
pub counts_next : (first bench after : Bench) (all left left' : List (List ℕ)) (refused : ℕ) (line answer : List ℕ) (is_refused : Bool)
    → GivesNext left left' line true → length line ≤ longest_line → reacts_to bench line false ≡ record { bench = after; answer = answer; refused = is_refused }
    → CountsFaults first bench all left refused → CountsFaults first after all left' (refused + one_if is_refused)
counts_next first bench after all [] left' refused line answer is_refused gives short reacted counts = absurd gives
counts_next first bench after all (next ∷ more) left' refused line answer is_refused gives short reacted counts =
    let same : reacts bench next ≡ record { bench = after; answer = answer; refused = is_refused } =
    rw (← gives.1) (shown_whole bench line short ∙ reacted) in
    let count : refusals bench (next ∷ more) ≡ one_if is_refused + refusals after more =
    refusals-line bench next more ∙ ap (λ (r : Reaction). one_if r.refused + refusals r.bench more) same in
    rw gives.0 record {
      bench_is = sym (bench_after-first bench next more ∙ ap (λ (r : Reaction). bench_after r.bench more) same) ∙ counts.bench_is;
      refused_is = omega (arith, count, counts.refused_is);
      few = omega (arith, counts.few, one_at_most is_refused);
    }

-- a bench that is not spent
pub state_is : (state : BenchState) (bench : Bench) → state.spent ≡ false → state.bench ≡ bench → state ≡ record { bench = bench; spent = false }
state_is state bench unspent same = rw (← same, ← unspent) refl

-- at the end all are
pub counts_all : (first bench : Bench) (all left left' : List (List ℕ)) (refused : ℕ) (line : List ℕ)
    → GivesNext left left' line false → CountsFaults first bench all left refused → (bench ≡ bench_after first all) × (refused ≡ refusals first all)
counts_all first bench all [] left' refused line gives counts =
    (sym (bench_after-none bench) ∙ counts.bench_is, omega (arith, counts.refused_is, refusals-none bench))
counts_all first bench all (next ∷ more) left' refused line gives counts = absurd gives

lines_count : (kind : Kind) (lines number state : ℕ) → length (lines_from kind lines number state) ≡ lines
lines_count kind zero number state = refl
lines_count kind (suc more) number state = ap suc (lines_count kind more (number + 1) (state_later kind state))

-- how many lines a generated script has
pub length-generated : (kind : Kind) (lines start : ℕ) → length (generated kind lines start) ≡ lines + 1
unfolding generated
length-generated kind lines start = omega (arith, lines_count kind lines 1 start)

-- the timeline of a generated script has a name
pub generated_is_name : name_of generated_name ≡ Some generated_name
unfolding is_name
generated_is_name = refl
