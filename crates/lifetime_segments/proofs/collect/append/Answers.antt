use Rattle.std.proofs.Common.{◌≡◌, ◌++◌, ap, ◌∙◌, rules, length, arith}
use Rattle.lifetime_segments.proofs.Collected.{read_all}
use Rattle.lifetime_segments.proofs.collect.append.Goals as goal

pub returns : goal.returns
returns g c =
    let long : length c.deref_mut.result.now ≡ length c.args.tree.now = omega (arith, ap length c.deref_mut.ensures.value, c.in_ok-read.ensures.len) in
    let all : c.read.result ≡ length c.args.tree.now = omega (arith, c.read.ensures.count) in
    c.in_ok-append.ensures.items
    ∙ ap (λ xs. c.args.items.now.items ++ xs)
    (read_all c.args.tree.now c.deref_mut.result.now c.read.new.items _ c.read.result c.in_ok-read.read.len all (omega arith) (omega (arith, c.in_ok-read.ensures.len))
    (c.read.ensures.items (λ item. item) (λ item answer call. search rules)))
