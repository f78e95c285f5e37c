-- What comes of an exchange is one list.
use Rattle.std.proofs.Common.{◌≤◌, ◌∙◌, List, length, subst, sym}
use Rattle.retro_base.specs.declared.row.Entry.{Entry}
use Rattle.retro_base.specs.Limits.{most_rows}
use Rattle.pq_fusion.specs.declared.bound.Bound.{Bound}
use Rattle.pq_fusion.specs.Exchanges.{IsExchange}
use Rattle.pq_fusion.proofs.Bounded.{cancel}

pub exchanged_few : (put take : Bound) (old wanted made : List Entry) → IsExchange put take old made → IsExchange put take old wanted → length wanted ≤ most_rows
    → length made ≤ most_rows
exchanged_few put take old wanted made one other few =
    subst (λ xs. length xs ≤ most_rows) (sym (cancel take made wanted one.order other.order (sym one.same ∙ other.same))) few
