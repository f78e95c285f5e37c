-- Laws of what is appended to a sink, which the proofs of the layer above may cite.
use Rattle.std.proofs.Common.{◌≡◌, ℕ, List, [], ◌++◌, Option, None, Some, sym, ap, ◌∙◌, refl, subst}
use Rattle.std.proofs.lemmas.List.{append_assoc, append-nil}
use Rattle.retro_io.specs.Sink.{Appends, AppendsPrefixOf}

-- nothing
pub Appends-none : (a : Option (List ℕ)) → Appends a [] a
Appends-none None = refl
Appends-none (Some w) = ap Some (sym (append-nil w))

-- some bytes, and then more
pub Appends-append : (a b c : Option (List ℕ)) (xs ys : List ℕ) → Appends a xs b → Appends b ys c → Appends a (xs ++ ys) c
Appends-append None b c xs ys p q = subst (λ o. Appends o ys c) p q
Appends-append (Some w) b c xs ys p q = subst (λ o. Appends o ys c) p q ∙ ap Some (append_assoc w xs ys)

-- a prefix of some bytes
pub AppendsPrefixOf-from : (a : Option (List ℕ)) (bytes prefix rest : List ℕ) (b : Option (List ℕ)) → bytes ≡ prefix ++ rest → Appends a prefix b → AppendsPrefixOf a bytes b
AppendsPrefixOf-from None bytes prefix rest b whole p = p
AppendsPrefixOf-from (Some w) bytes prefix rest b whole p =
    subst (λ o. AppendsPrefixOf (Some w) bytes o) (sym p) record { part = prefix; rest = rest; whole = whole; appended = refl }

-- and back
pub AppendsPrefixOf-parts : (a : Option (List ℕ)) (bytes : List ℕ) (b : Option (List ℕ)) → AppendsPrefixOf a bytes b
    → (prefix : List ℕ) × (rest : List ℕ) × (bytes ≡ prefix ++ rest) × Appends a prefix b
AppendsPrefixOf-parts None bytes b p = ([], bytes, refl, p)
AppendsPrefixOf-parts (Some w) bytes None p = absurd p
AppendsPrefixOf-parts (Some w) bytes (Some now) p = (p.part, p.rest, p.whole, ap Some p.appended)
