-- What is appended to a text.
use Rattle.std.specs.Prelude.{◌≡◌, ℕ, List, ◌++◌}

-- the new text is the old one, followed by the first part of what was to be appended
pub record AppendsPrefix (old new added : List ℕ) : Type 0 where
  pub part : List ℕ
  pub rest : List ℕ
  pub whole : added ≡ part ++ rest
  pub appended : new ≡ old ++ part
