use Rattle.std.proofs.Common.{◌≡◌, ◌∙◌, ℕ, List, [], ◌∷◌, length, slice_get, Some, arith, refl, sym}
use Rattle.retro_base.specs.Facts.{some_is}
use Rattle.retro_cli.specs.Forms.{form_of, form_of_words}
use Rattle.retro_cli.proofs.form.form_of.Goals as goal

four_words : (words : List (List ℕ)) (word kind lines start : List ℕ) → length words ≡ 4 → slice_get words 0 ≡ Some word → slice_get words 1 ≡ Some kind
    → slice_get words 2 ≡ Some lines → slice_get words 3 ≡ Some start → form_of_words word kind lines start ≡ form_of words
four_words [] word kind lines start four a b c d = absurd (omega (arith, four))
four_words (v ∷ []) word kind lines start four a b c d = absurd (omega (arith, four))
four_words (v ∷ w ∷ []) word kind lines start four a b c d = absurd (omega (arith, four))
four_words (v ∷ w ∷ x ∷ []) word kind lines start four a b c d = absurd (omega (arith, four))
four_words (v ∷ w ∷ x ∷ y ∷ []) word kind lines start four a b c d = rw (some_is word v a, some_is kind w b, some_is lines x c, some_is start y d) refl
four_words (v ∷ w ∷ x ∷ y ∷ z ∷ more) word kind lines start four a b c d = absurd (omega (arith, four))

pub returns-in-4 : goal.returns-in-4
returns-in-4 c =
    c.form_of_words.ensures
    ∙ four_words c.args.words.now _ _ _ _ (sym c.len.ensures ∙ c.in-4.is) c.word-in-4.ensures c.word-in-4-2.ensures c.word-in-4-3.ensures c.word-in-4-4.ensures
