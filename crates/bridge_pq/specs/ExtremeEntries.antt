-- An entry with an offset, or none, in three numbers: no offset is the greatest of 32 bits, so it stands for none.
use Rattle.std.specs.Prelude.{◌≡◌, ℕ, ℤ, pos, ◌==◌, Bool, true, false, Option, Some, None, refl}
use Rattle.std.proofs.Common.{sym}
use Rattle.std.proofs.lemmas.Bool.Decides.{Decides-eqb}
use Rattle.retro_base.specs.declared.row.Entry.{Entry}

abbrev placed_by : Bool → ℤ → ℕ → ℕ → Option (Entry × ℕ)
placed_by true key number offset = None
placed_by false key number offset = Some (record { key = key; number = number }, offset)

abbrev pub placed_entry : ℤ → ℕ → ℕ → Option (Entry × ℕ)
placed_entry key number offset = placed_by (offset == 4294967295) key number offset

-- whether there is none
abbrev pub holds_none : Option (Entry × ℕ) → Bool
holds_none None = true
holds_none (Some extreme) = false

-- where there is no entry, its fields are 0
abbrev pub IsTidy : ℤ → ℕ → ℕ → Type 0
IsTidy key number offset = offset ≡ 4294967295 → (key ≡ pos 0) × (number ≡ 0)

-- the fields
abbrev pub key_in : Option (Entry × ℕ) → ℤ
key_in None = pos 0
key_in (Some extreme) = extreme.0.key

abbrev pub number_in : Option (Entry × ℕ) → ℕ
number_in None = 0
number_in (Some extreme) = extreme.0.number

abbrev pub offset_in : Option (Entry × ℕ) → ℕ
offset_in None = 4294967295
offset_in (Some extreme) = extreme.1

module _ (key : ℤ) (number offset : ℕ) (tidy : IsTidy key number offset) where
  none_at : (b : Bool) → offset == 4294967295 ≡ b → b ≡ true → offset ≡ 4294967295
  none_at b test is = (Decides-eqb offset 4294967295).0 (rw is at test)

  key_by : (b : Bool) → (b ≡ true → offset ≡ 4294967295) → key_in (placed_by b key number offset) ≡ key
  key_by true none = sym (tidy (none refl)).0
  key_by false none = refl

  number_by : (b : Bool) → (b ≡ true → offset ≡ 4294967295) → number_in (placed_by b key number offset) ≡ number
  number_by true none = sym (tidy (none refl)).1
  number_by false none = refl

  offset_by : (b : Bool) → (b ≡ true → offset ≡ 4294967295) → offset_in (placed_by b key number offset) ≡ offset
  offset_by true none = sym (none refl)
  offset_by false none = refl

  pub key_back : key_in (placed_entry key number offset) ≡ key
  key_back = key_by (offset == 4294967295) (none_at (offset == 4294967295) refl)

  pub number_back : number_in (placed_entry key number offset) ≡ number
  number_back = number_by (offset == 4294967295) (none_at (offset == 4294967295) refl)

  pub offset_back : offset_in (placed_entry key number offset) ≡ offset
  offset_back = offset_by (offset == 4294967295) (none_at (offset == 4294967295) refl)
