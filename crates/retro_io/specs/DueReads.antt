-- When the reader reads, and which buffers it offers.
use Rattle.std.specs.Prelude.{◌≡◌, ℕ, ◌-◌, ◌≤◌, ◌<◌, min, max, Bool, true, false, List, [], ◌∷◌, ◌++◌, length, Result, Ok, Err}
use Rattle.retro_io.specs.LineBuffer.{room_beside_line}
use Rattle.retro_io.specs.Lines.{has_line_feed}

-- with so many bytes left up to the limit, a read offers room for all of them, and for one where none is left; but no more than the reader's buffer has beside a line
abbrev pub Offers : ℕ → ℕ → Type 0
Offers left room = (0 < room) × (min room_beside_line left ≤ room) × (room ≤ max left 1)

-- the bytes that a read gave
abbrev pub given_by : {E : Type 0} → Result (List ℕ) E → List ℕ
given_by (Ok bytes) = bytes
given_by (Err fault) = []

-- after this answer no read follows: the end, or a fault
abbrev pub closes : {E : Type 0} → Result (List ℕ) E → Bool
closes (Ok []) = true
closes (Ok (b ∷ bs)) = false
closes (Err fault) = true

module _ {S E : Type 0} (reads : S → ℕ → Result (List ℕ) E → S → Type 0) where
  -- one read gave these bytes, into a buffer of such a size
  pub record ReadOnce (left : ℕ) (before : S) (got : List ℕ) (after : S) : Type 0 where
    pub room : ℕ
    pub answer : Result (List ℕ) E
    pub offers : Offers left room
    pub read : reads before room answer after
    pub gave : given_by answer ≡ got

  -- reads gave these bytes, each into a buffer of such a size, and each where none of the bytes held and given so far ended a line and no read had closed
  pub data ReadsDue (left : ℕ) (held : List ℕ) (closed : Bool) (before : S) : List ℕ → Bool → S → Type 0 where
    none : ReadsDue left held closed before [] closed before
    read : (got : List ℕ) (room : ℕ) (answer : Result (List ℕ) E) (middle after : S) → ReadsDue left held closed before got false middle
        → has_line_feed (held ++ got) ≡ false → Offers (left - length got) room → reads middle room answer after
        → ReadsDue left held closed before (got ++ given_by answer) (closes answer) after

  -- the same, whether or not the last of them closed
  pub record WereDue (left : ℕ) (held : List ℕ) (closed : Bool) (before : S) (got : List ℕ) (after : S) : Type 0 where
    pub closes : Bool
    pub due : ReadsDue left held closed before got closes after
