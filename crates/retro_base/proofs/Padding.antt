-- A name that is copied over 32 zeros.
use Rattle.std.proofs.Common.{◌≡◌, ℕ, List, ◌++◌, length, take, drop, true, refl, ap}
use Rattle.std.proofs.Math.ListN.{replicate}
use Rattle.std.proofs.Math.Seq.{take-append_seam}
use Rattle.std.proofs.lemmas.List.{drop-replicate}
use Rattle.retro_base.specs.Name.{is_name, padded, IsPadded}

-- a name, and after it what is left of the zeros
pub padded_name : (word copied : List ℕ) → copied ≡ word → is_name word ≡ true → IsPadded (copied ++ drop (length word) (replicate 32 0)) (length word)
padded_name word copied same named =
    let front : take (length word) (word ++ drop (length word) (replicate 32 0)) ≡ word = take-append_seam word _ in
    let back : word ++ drop (length word) (replicate 32 0) ≡ padded word = ap (λ rest. word ++ rest) (drop-replicate (length word) 32 0) in
    rw same record { valid = rw front named; size_is = rw front refl; zeros = rw front back }
