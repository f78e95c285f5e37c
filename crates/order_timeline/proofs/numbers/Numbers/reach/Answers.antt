use Rattle.std.proofs.Common.{◌++◌, ◌∷◌, [], ap, ◌∙◌}
use Rattle.order_timeline.specs.Numbers.{name_in}
use Rattle.order_timeline.proofs.Pages.{more_pages}
use Rattle.order_timeline.proofs.numbers.Numbers.reach.Goals as goal

pub loop-self-preserved : goal.loop-self-preserved
loop-self-preserved c = λ number.
    let pages = c.loop-self.self-inside.pages.items in
    ap (λ seen. name_in seen number) (c.in_ok-push.ensures.items ∙ ap (λ page. pages ++ page ∷ []) c.new.ensures) ∙ more_pages pages number ∙ c.loop-self.invariant number
