-- Laws of what is appended to a text, which the proofs of the layers above may cite.
use Rattle.std.proofs.Common.{◌≡◌, ℕ, ◌+◌, ◌<◌, List, [], ◌∷◌, ◌++◌, length, take, drop, sym, ap, ◌∙◌, append_assoc, add-one, Some}
use Rattle.std.specs.List.{flat_map, slice_get}
use Rattle.std.proofs.Math.Seq.{take-suc}
use Rattle.std.proofs.lemmas.List.{at_drop_more, flat_map_more, take-append-drop}
use Rattle.std.proofs.lemmas.Grind.{flat_map-append}
use Rattle.std.proofs.lemmas.Option.{get_or_from_slice_get, slice_get_within}
use Rattle.retro_base.specs.Text.{AppendsPrefix}

-- a first part of some text is one of a longer text
pub prefix_of_longer : (old new front back : List ℕ) → AppendsPrefix old new front → AppendsPrefix old new (front ++ back)
prefix_of_longer old new front back prefix = record {
  part = prefix.part;
  rest = prefix.rest ++ back;
  whole = ap (λ text. text ++ back) prefix.whole ∙ append_assoc prefix.part prefix.rest back;
  appended = prefix.appended;
}

-- the front of some text, and then a first part of the rest, is a first part of the whole
pub prefix_after : (old middle new front back : List ℕ) → middle ≡ old ++ front → AppendsPrefix middle new back → AppendsPrefix old new (front ++ back)
prefix_after old middle new front back reached prefix = record {
  part = front ++ prefix.part;
  rest = prefix.rest;
  whole = ap (λ text. front ++ text) prefix.whole ∙ sym (append_assoc front prefix.part prefix.rest);
  appended = prefix.appended ∙ ap (λ text. text ++ prefix.part) reached ∙ append_assoc old front prefix.part;
}

-- The texts of items, appended one after the other.
module _ {X : Type 0} (text_of : X → List ℕ) (old out new : List ℕ) (items : List X) (i : ℕ) (item : X) where
  -- one item more
  pub one_more : out ≡ old ++ flat_map text_of (take i items) → slice_get items i ≡ Some item → new ≡ out ++ text_of item → new ≡ old ++ flat_map text_of (take (i + 1) items)
  one_more so_far at more =
      let within : i < length items = slice_get_within items i item at in
      let taken : take (i + 1) items ≡ take i items ++ item ∷ [] = rw add-one (take-suc items i item within ∙ ap (λ x. take i items ++ x ∷ []) (get_or_from_slice_get items i item item at)) in
      more ∙ ap (λ text. text ++ text_of item) so_far ∙ flat_map_more text_of old (take i items) item ∙ ap (λ xs. old ++ flat_map text_of xs) (sym taken)

  -- the whole is what is in front, the text of the item, and what is after
  around : slice_get items i ≡ Some item → flat_map text_of items ≡ flat_map text_of (take i items) ++ (text_of item ++ flat_map text_of (drop (i + 1) items))
  around at =
      let within : i < length items = slice_get_within items i item at in
      let after : flat_map text_of (drop i items) ≡ text_of item ++ flat_map text_of (drop (i + 1) items) =
      at_drop_more (λ xs. flat_map text_of xs) items i item within
      ∙ ap (λ x. flat_map text_of (x ∷ drop (i + 1) items)) (get_or_from_slice_get items i item item at) in
      ap (λ xs. flat_map text_of xs) (sym (take-append-drop i items)) ∙ flat_map-append text_of (take i items) (drop i items)
      ∙ ap (λ text. flat_map text_of (take i items) ++ text) after

  -- a first part of the item's text makes a first part of the whole
  pub stopped : out ≡ old ++ flat_map text_of (take i items) → slice_get items i ≡ Some item → AppendsPrefix out new (text_of item) → AppendsPrefix old new (flat_map text_of items)
  stopped so_far at prefix = record {
    part = flat_map text_of (take i items) ++ prefix.part;
    rest = prefix.rest ++ flat_map text_of (drop (i + 1) items);
    whole = around at ∙ rw prefix.whole (simp append_assoc);
    appended = prefix.appended ∙ ap (λ text. text ++ prefix.part) so_far ∙ append_assoc old _ prefix.part;
  }
