use Rattle.std.proofs.Common.{◌-◌, sym, subst, arith}
use Rattle.lifetime_segments.specs.Tries.{Lies}
use Rattle.lifetime_segments.proofs.Spans.{double, has_halves}
use Rattle.lifetime_segments.proofs.lifetime.Lifetime.in_second.Goals as goal

pub returns-then-half-self-clause-lies : goal.returns-then-half-self-clause-lies
returns-then-half-self-clause-lies g c =
    let twice = double c.args.level (has_halves c.args.level c.args.self.now c.requires.lies c.requires.broken) in
    subst (Lies (c.args.level - 1)) (sym c.seen_from.ensures) (record { rises = omega (arith, c.requires.lies.rises); within = omega (arith, c.requires.lies.within, twice) })
