-- Laws of a reader that moves on, which the proofs of the layer above may cite.
use Rattle.std.proofs.Common.{◌≡◌, ℕ, ◌+◌, ◌-◌, ◌≤◌, List, Option, None, Some, drop, ap, ◌∙◌, refl, arith, length-drop}
use Rattle.std.proofs.Math.Nat.{sub_self}
use Rattle.std.proofs.lemmas.List.{drop-drop}
use Rattle.retro_io.specs.declared.line_reader.LineReader.{LineReader}
use Rattle.retro_io.specs.declared.source.Source.{Ghosts}
use Rattle.retro_io.specs.Faults.{count_after}
use Rattle.retro_io.specs.LineReader.{MovesOn, limit_of, source_of, taken}
use Rattle.retro_io.specs.Source.{GivesCount}

-- a count that stands still at its last value, after two rises
count_after-twice : (count a b c : ℕ) → a ≤ b → b ≤ c → count_after (count_after count (b - a)) (c - b) ≡ count_after count (c - a)
count_after-twice count a b c h k = omega arith

-- bytes taken in two calls, where the source tells them, are taken in both together
gives_count-twice : (left left' left'' : Option (List ℕ)) (a b c : ℕ) → a ≤ b → b ≤ c → GivesCount left (b - a) left' → GivesCount left' (c - b) left''
    → GivesCount left (c - a) left''
gives_count-twice None left' left'' a b c h k first second = rw first at second
gives_count-twice (Some bytes) left' left'' a b c h k first second =
    let later = rw first.1 at second in
    let both : (b - a) + (c - b) ≡ c - a = omega arith in (
      omega (arith, first.0, later.0, length-drop (b - a) bytes),
      later.1 ∙ ap (λ xs. Some xs) (drop-drop (c - b) (b - a) bytes ∙ ap (λ n. drop n bytes) both),
    )

-- no call takes none
gives_count-none : (left : Option (List ℕ)) (a : ℕ) → GivesCount left (a - a) left
gives_count-none None a = refl
gives_count-none (Some bytes) a = rw (sub_self a) (omega arith, refl)

module _ {S : Type 0} {G : Ghosts S} where
  -- it stays
  pub MovesOn-none : (reader : LineReader S G) → taken reader ≤ limit_of reader + 1 → MovesOn reader reader
  MovesOn-none reader within = record {
    reference = refl;
    limit = refl;
    more = omega arith;
    within = within;
    count = omega arith;
    left = gives_count-none (G.left (source_of reader)) (taken reader);
  }

  -- it moves on, and then further
  pub MovesOn-then : (a b c : LineReader S G) → MovesOn a b → MovesOn b c → MovesOn a c
  MovesOn-then a b c first second = record {
    reference = second.reference ∙ first.reference;
    limit = second.limit ∙ first.limit;
    more = omega (arith, first.more, second.more);
    within = second.within;
    count = second.count ∙ ap (λ n. count_after n (taken c - taken b)) first.count
        ∙ count_after-twice (G.taken (source_of a)) (taken a) (taken b) (taken c) first.more second.more;
    left = gives_count-twice (G.left (source_of a)) (G.left (source_of b)) (G.left (source_of c)) (taken a) (taken b) (taken c)
        first.more second.more first.left second.left;
  }
