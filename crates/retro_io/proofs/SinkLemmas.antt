-- Lemmas on what writes append.
use Rattle.std.proofs.Common.{◌≡◌, ℕ, ◌+◌, ◌≤◌, List, ◌++◌, Option, None, Some, length, take, drop, sym, ap, ◌∙◌, subst}
use Rattle.std.proofs.lemmas.List.{append_assoc, drop-drop, take-append-drop}
use Rattle.retro_io.specs.Outbox.{then_waiting}
use Rattle.retro_io.specs.Sink.{Appends}
use Rattle.retro_io.specs.SinkLaws.{Appends-append}
use Rattle.retro_io.proofs.LineLemmas.{take_sum}

-- the bytes up to a place were appended, and then some of those after it
pub Appends-more : (a b c : Option (List ℕ)) (bytes : List ℕ) (place count : ℕ) → place ≤ length bytes
    → Appends a (take place bytes) b → Appends b (take count (drop place bytes)) c → Appends a (take (place + count) bytes) c
Appends-more a b c bytes place count h p q =
    subst (λ xs. Appends a xs c) (sym (take_sum place count bytes h))
    (Appends-append a b c (take place bytes) (take count (drop place bytes)) p q)

-- some of the bytes that wait went on
pub then_waiting-part : (a b : Option (List ℕ)) (count sent : ℕ) (items rest : List ℕ) → rest ≡ drop sent items → Appends a (take count rest) b
    → then_waiting b (drop (sent + count) items) ≡ then_waiting a (drop sent items)
then_waiting-part None b count sent items rest is p = ap (λ o. then_waiting o (drop (sent + count) items)) p
then_waiting-part (Some w) b count sent items rest is p =
    ap (λ o. then_waiting o (drop (sent + count) items)) p
    ∙ ap (λ xs. Some xs)
    (append_assoc w (take count rest) (drop (sent + count) items)
    ∙ ap (λ xs. w ++ (take count rest ++ xs)) (sym (drop-drop count sent items) ∙ ap (drop count) (sym is))
    ∙ ap (λ xs. w ++ xs) (take-append-drop count rest ∙ is))
