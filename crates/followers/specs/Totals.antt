-- How many entries were gained and lost, and what their keys add up to.
use Rattle.std.specs.Prelude.{ℕ, ◌+◌, ◌-◌, ◌^◌, min, ℤ, pos, ◌+ℤ◌, ◌-ℤ◌, List, [], ◌∷◌, ◌++◌, codes, decimal}
use Rattle.std.specs.Fmt.{signed_decimal}
use Rattle.std.specs.Int.{saturate_to_bits}
use Rattle.retro_base.specs.declared.row.Change.{Change}
use Rattle.retro_base.specs.declared.row.Change.TheVariants.{Plain, Gain, Lose}
use Rattle.evidence.specs.declared.evidence.Evidence.{Evidence}

-- the entries gained, the entries lost, and the keys gained less those lost
pub record Totals : Type 0 where
  pub gains : ℕ
  pub losses : ℕ
  pub sum : ℤ

abbrev pub no_changes : Totals
no_changes = record { gains = 0; losses = 0; sum = pos 0 }

-- one more, up to the last number of 64 bits
abbrev pub one_more : ℕ → ℕ
one_more count = min (count + 1) (2 ^ 64 - 1)

-- the number of 128 bits, with a sign, that is nearest
abbrev pub nearest : ℤ → ℤ
nearest number = saturate_to_bits 127 number

-- the totals after a change
abbrev pub counted : Change → Totals → Totals
counted Plain t = t
counted (Gain bridge entry) t = record { gains = one_more t.gains; losses = t.losses; sum = nearest (t.sum +ℤ entry.key) }
counted (Lose bridge entry) t = record { gains = t.gains; losses = one_more t.losses; sum = nearest (t.sum -ℤ entry.key) }

-- the totals after events, one after another
abbrev pub totals_after : Totals → List Evidence → Totals
totals_after t [] = t
totals_after t (event ∷ events) = totals_after (counted event.change t) events

-- `gains G losses L sum S`
abbrev pub totals_text : Totals → List ℕ
totals_text t = codes "gains " ++ (decimal t.gains ++ (codes " losses " ++ (decimal t.losses ++ (codes " sum " ++ signed_decimal t.sum))))

-- what a tally reports after events
abbrev pub tally : List Evidence → List ℕ
tally events = totals_text (totals_after no_changes events)
