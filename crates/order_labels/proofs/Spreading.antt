-- Rows that are relabelled one by one.
use Rattle.std.proofs.Common.{◌≡◌, ℕ, ◌+◌, ◌*◌, ◌<◌, ◌≤◌, List, ◌∷◌, [], ◌++◌, length, set, drop, sym, ap, ◌∙◌, arith, add-one}
use Rattle.std.proofs.lemmas.List.{drop_more, drop_all, append-nil, append_assoc, set_at, length-append, length-drop}
use Rattle.order_labels.specs.Labels.{multiples}
use Rattle.order_labels.specs.SpreadLaws.{length-multiples}

-- a row more is relabelled
pub more_multiples : (gap place : ℕ) (labels : List ℕ) → place < length labels → set (multiples gap place ++ drop place labels) place ((place + 1) * gap) ≡ multiples gap (place + 1) ++ drop (place + 1) labels
more_multiples gap place labels within =
    ap (λ rest. set (multiples gap place ++ rest) place ((place + 1) * gap)) (drop_more labels place 0 within)
    ∙ set_at (multiples gap place) _ (drop (place + 1) labels) ((place + 1) * gap) place (length-multiples gap place)
    ∙ sym (append_assoc (multiples gap place) ((place + 1) * gap ∷ []) (drop (place + 1) labels))
    ∙ ap (λ count. multiples gap count ++ drop (place + 1) labels) (sym (add-one place))

-- and at the end all are
pub all_multiples : (gap count : ℕ) (labels : List ℕ) → length labels ≡ count → multiples gap count ++ drop count labels ≡ multiples gap count
all_multiples gap count labels same = ap (λ rest. multiples gap count ++ rest) (drop_all count labels (omega arith)) ∙ append-nil (multiples gap count)

pub length-partly : (gap place : ℕ) (labels : List ℕ) → place ≤ length labels → length (multiples gap place ++ drop place labels) ≡ length labels
length-partly gap place labels within = omega (arith, length-append (multiples gap place) (drop place labels), length-multiples gap place, length-drop place labels)
