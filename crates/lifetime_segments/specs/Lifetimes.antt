-- Items, and the labels at which they are there.
use Rattle.std.specs.Prelude.{◌==◌, ◌<◌, ◌≤◌, ◌&&◌, ◌||◌, ◌^◌, ℕ, Bool, not, nat_le, nat_lt, List, map}
use Rattle.std.specs.List.{filter}
use Rattle.lifetime_segments.specs.declared.lifetime.Lifetime.{Lifetime}

-- labels are below this
abbrev pub label_end : ℕ
label_end = 2 ^ 40

-- an item from one label to before another
abbrev pub lifetime : {A : Type 0} → ℕ → ℕ → A → Lifetime A
lifetime from to item = record { from = from; to = to; item = item }

-- it holds a label, and all labels end after it
pub record IsInRange {A : Type 0} (life : Lifetime A) : Type 0 where
  pub rises : life.from < life.to
  pub within : life.to ≤ label_end

-- whether the item is there at a label
abbrev pub holds : {A : Type 0} → ℕ → Lifetime A → Bool
holds label life = nat_le life.from label && nat_lt label life.to

-- the items that are there at a label
abbrev pub items_at : {A : Type 0} → ℕ → List (Lifetime A) → List A
items_at label lives = map (λ life. life.item) (filter (holds label) lives)

-- lifetimes stand by where they begin, then by where they end, then by their items
abbrev pub stands_earlier : {A : Type 0} → (A → A → Bool) → Lifetime A → Lifetime A → Bool
stands_earlier before first second =
    nat_lt first.from second.from
    || ((first.from == second.from) && (nat_lt first.to second.to || ((first.to == second.to) && before first.item second.item)))

-- the few lifetimes of a span stand by their items, then by where they begin, then by where they end
abbrev pub stands_by_item : {A : Type 0} → (A → A → Bool) → Lifetime A → Lifetime A → Bool
stands_by_item before first second =
    before first.item second.item
    || (not (before second.item first.item) && (nat_lt first.from second.from || ((first.from == second.from) && nat_lt first.to second.to)))
