-- Lists along which a test turns false at one place.
use Rattle.std.specs.Prelude.{◌≡◌, Bool, false, List, [], ◌∷◌}
use Rattle.std.specs.List.{AllByRecursion}

-- after an element that fails the test all fail it
abbrev pub IsPartitioned : {A : Type 0} → (A → Bool) → List A → Type 0
IsPartitioned test [] = Unit {0}
IsPartitioned test (x ∷ xs) = (test x ≡ false → AllByRecursion (λ later. test later ≡ false) xs) × IsPartitioned test xs
