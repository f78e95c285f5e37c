-- What rows come to is the product of what parts of them come to; and each piece is that of some rows, so the product is associative.
use Rattle.std.proofs.Common.{◌≡◌, ℕ, zero, suc, ◌+◌, List, [], ◌∷◌, ◌++◌, refl, ap, sym, ◌∙◌, arith, append_assoc}
use Rattle.retro_base.specs.declared.op.Op.{Op}
use Rattle.retro_base.specs.declared.op.Op.TheVariants.{Ins, DelMin}
use Rattle.retro_base.specs.declared.row.Entry.{Entry}
use Rattle.retro_base.specs.declared.row.Row.{Row}
use Rattle.pq_fusion.specs.Pieces.{PieceParts, IsRising, no_parts, after_row, after_rows, tolerant, together, fuse}
use Rattle.pq_fusion.proofs.Order.{together_alone}
use Rattle.pq_fusion.proofs.Fused.{parts, fuse_row, rising_row, unit_after}

pub no_more : (piece : PieceParts) → after_rows [] piece ≡ piece
unfolding after_rows
no_more piece = refl

pub one_more : (row : Row) (rows : List Row) (piece : PieceParts) → after_rows (row ∷ rows) piece ≡ after_rows rows (after_row row.op row.number piece)
unfolding after_rows
one_more row rows piece = refl

pub rising_rows : (rows : List Row) (piece : PieceParts) → IsRising piece → IsRising (after_rows rows piece)
unfolding after_rows
rising_rows [] piece rising = rising
rising_rows (row ∷ rows) piece rising = rising_rows rows (after_row row.op row.number piece) (rising_row row.op row.number piece rising)

pub nothing_rises : IsRising no_parts
nothing_rises = record { left = tt; removed = tt }

pub tolerant_rise : (rows : List Row) → IsRising (tolerant rows)
tolerant_rise rows = rising_rows rows no_parts nothing_rises

pub in_parts : (before after : List Row) (piece : PieceParts) → after_rows (before ++ after) piece ≡ after_rows after (after_rows before piece)
unfolding after_rows
in_parts [] after piece = refl
in_parts (row ∷ before) after piece = in_parts before after (after_row row.op row.number piece)

-- fused with more rows of the second piece
pub fuse_rows : (rows : List Row) (a b : PieceParts) → IsRising b → fuse a (after_rows rows b) ≡ after_rows rows (fuse a b)
unfolding after_rows
fuse_rows [] a b rising = refl
fuse_rows (row ∷ rows) a b rising =
    fuse_rows rows a (after_row row.op row.number b) (rising_row row.op row.number b rising) ∙ ap (after_rows rows) (fuse_row row.op row.number a b rising)

pub fuse_tolerant : (rows : List Row) (a : PieceParts) → IsRising a → fuse a (tolerant rows) ≡ after_rows rows a
fuse_tolerant rows a rising = fuse_rows rows a no_parts nothing_rises ∙ ap (after_rows rows) (unit_after a rising)

pub rows_fuse : (before after : List Row) → tolerant (before ++ after) ≡ fuse (tolerant before) (tolerant after)
rows_fuse before after = in_parts before after no_parts ∙ sym (fuse_tolerant after (tolerant before) (tolerant_rise before))

-- rows of which a piece is: takings that stay unmet, then each removed entry with its taking, then what is left
untimed : Op → ℕ → Row
untimed op number = record { number = number; time = 0; op = op }

takings : ℕ → List Row
takings zero = []
takings (suc n) = untimed DelMin 0 ∷ takings n

removals : List Entry → List Row
removals [] = []
removals (x ∷ xs) = removals xs ++ untimed (Ins x.key) x.number ∷ untimed DelMin 0 ∷ []

additions : List Entry → List Row
additions [] = []
additions (x ∷ xs) = additions xs ++ untimed (Ins x.key) x.number ∷ []

after_takings : (n unmet : ℕ) (removed : List Entry) → after_rows (takings n) (parts [] removed unmet) ≡ parts [] removed (unmet + n)
unfolding takings after_rows untimed after_row
after_takings zero unmet removed = ap (parts [] removed) (omega arith)
after_takings (suc n) unmet removed = after_takings n (unmet + 1) removed ∙ ap (parts [] removed) (omega arith)

after_removals : (xs : List Entry) (unmet : ℕ) → after_rows (removals xs) (parts [] [] unmet) ≡ parts [] (together xs []) unmet
unfolding removals after_rows untimed after_row together
after_removals [] unmet = refl
after_removals (x ∷ xs) unmet =
    in_parts (removals xs) (untimed (Ins x.key) x.number ∷ untimed DelMin 0 ∷ []) (parts [] [] unmet)
    ∙ ap (after_rows (untimed (Ins x.key) x.number ∷ untimed DelMin 0 ∷ [])) (after_removals xs unmet)

after_additions : (xs removed : List Entry) (unmet : ℕ) → after_rows (additions xs) (parts [] removed unmet) ≡ parts (together xs []) removed unmet
unfolding additions after_rows untimed after_row together
after_additions [] removed unmet = refl
after_additions (x ∷ xs) removed unmet =
    in_parts (additions xs) (untimed (Ins x.key) x.number ∷ []) (parts [] removed unmet)
    ∙ ap (after_rows (untimed (Ins x.key) x.number ∷ [])) (after_additions xs removed unmet)

rows_of : PieceParts → List Row
rows_of piece = takings piece.unmet ++ (removals piece.removed ++ additions piece.left)

is_of_rows : (piece : PieceParts) → IsRising piece → tolerant (rows_of piece) ≡ piece
unfolding rows_of
is_of_rows piece rising =
    in_parts (takings piece.unmet) (removals piece.removed ++ additions piece.left) no_parts
    ∙ ap (after_rows (removals piece.removed ++ additions piece.left)) (after_takings piece.unmet 0 [])
    ∙ in_parts (removals piece.removed) (additions piece.left) (parts [] [] (0 + piece.unmet))
    ∙ ap (after_rows (additions piece.left)) (after_removals piece.removed (0 + piece.unmet) ∙ ap (λ r. parts [] r (0 + piece.unmet)) (together_alone piece.removed rising.removed))
    ∙ after_additions piece.left piece.removed (0 + piece.unmet)
    ∙ ap (λ l. parts l piece.removed (0 + piece.unmet)) (together_alone piece.left rising.left)
    ∙ ap (parts piece.left piece.removed) (omega arith)

fuse_of_rows : (a b : PieceParts) (rows : List Row) → IsRising a → IsRising b → IsRising (fuse a b) → fuse (fuse a b) (tolerant rows) ≡ fuse a (fuse b (tolerant rows))
fuse_of_rows a b rows first second both =
    fuse_tolerant rows (fuse a b) both ∙ sym (fuse_rows rows a b second) ∙ ap (fuse a) (sym (fuse_tolerant rows b second))

pub associative : (a b c : PieceParts) → IsRising b → IsRising c → IsRising (fuse a b) → IsRising a → fuse (fuse a b) c ≡ fuse a (fuse b c)
associative a b c second third both first =
    let same = is_of_rows c third in
    ap (fuse (fuse a b)) (sym same) ∙ fuse_of_rows a b (rows_of c) first second both ∙ ap (λ p. fuse a (fuse b p)) same

-- a row between the rows before it and after it
pub row_between : (before after : List Row) (row : Row) → fuse (fuse (tolerant before) (tolerant (row ∷ []))) (tolerant after) ≡ tolerant (before ++ row ∷ after)
row_between before after row =
    ap (λ p. fuse p (tolerant after)) (sym (rows_fuse before (row ∷ []))) ∙ sym (rows_fuse (before ++ row ∷ []) after) ∙ ap tolerant (append_assoc before (row ∷ []) after)
