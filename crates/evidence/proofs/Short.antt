-- The length of a line.
use Rattle.std.proofs.Common.{◌≡◌, ℕ, ◌<◌, ◌≤◌, ◌^◌, ℤ, pos, negsuc, Bool, true, false, List, length, codes, decimal, refl, arith, Option, Some, None, length-append}
use Rattle.std.specs.Fmt.{signed_decimal}
use Rattle.std.proofs.lemmas.Bool.{leb-true}
use Rattle.std.proofs.lemmas.Fmt.{length-decimal-le, length_signed_le}
use Rattle.retro_base.specs.declared.op.Op.{Op}
use Rattle.retro_base.specs.declared.op.Op.TheVariants.{Enq, Deq, Push, Pop, PushL, PushR, PopL, PopR, Put, Del, Ins, DelMin}
use Rattle.retro_base.specs.declared.row.Change.{Change}
use Rattle.retro_base.specs.declared.row.Change.TheVariants.{Plain, Gain, Lose}
use Rattle.retro_base.specs.declared.row.Entry.{Entry}
use Rattle.retro_base.specs.Limits.{longest_name}
use Rattle.retro_base.specs.Name.{is_name}
use Rattle.retro_base.specs.OpText.{op_text}
use Rattle.evidence.specs.declared.evidence.Evidence.{Evidence}
use Rattle.evidence.specs.Evidence.{IsEvidence, IsValue, IsPqOp, IsPqEntry, IsPlaceOrNone, IsStatedChange}
use Rattle.evidence.specs.Spelling.{spelling, edit_word, bridge_text, change_text, changed_text}
use Rattle.retro_base.specs.Facts.{both_true}

name_short : (name : List ℕ) → is_name name ≡ true → length name ≤ 32
unfolding is_name
name_short name is = leb-true (length name) longest_name (both_true _ _ (both_true _ _ (both_true _ _ is).0).0).1

value_short : (v : ℤ) → IsValue v → length (signed_decimal v) ≤ 20
value_short (pos n) small = length_signed_le 19 (pos n) (omega arith) small
value_short (negsuc n) small = length_signed_le 19 (negsuc n) (omega arith) small

number_short : (n : ℕ) → n < 16777216 → length (decimal n) ≤ 8
number_short n small = length-decimal-le 8 n (omega arith) (omega arith) (omega arith)

place_short : (n : ℕ) → n < 2 ^ 32 → length (decimal n) ≤ 10
place_short n small = length-decimal-le 10 n (omega arith) (omega arith) (omega arith)

bridge_short : (bridge : Option ℕ) → IsPlaceOrNone bridge → length (bridge_text bridge) ≤ 10
bridge_short None is = omega arith
bridge_short (Some bridge) is = place_short bridge is

word_short : (added : Bool) → length (edit_word added) ≤ 3
word_short true = omega arith
word_short false = omega arith

changed_short : (bridge : Option ℕ) (word : List ℕ) (entry : Entry) → length word ≡ 4 → IsPlaceOrNone bridge → IsPqEntry entry → length (changed_text bridge word entry) ≤ 53
changed_short bridge word entry four place is =
    let at = bridge_short bridge place in
    let number = number_short entry.number is.1.1 in
    let key = value_short entry.key is.0 in
    simp length-append (omega arith)

op_short : (op : Op) → IsPqOp op → length (op_text op) ≤ 24
op_short (Enq v) is = absurd is
op_short Deq is = absurd is
op_short (Push v) is = absurd is
op_short Pop is = absurd is
op_short (PushL v) is = absurd is
op_short (PushR v) is = absurd is
op_short PopL is = absurd is
op_short PopR is = absurd is
op_short (Put k v) is = absurd is
op_short (Del k) is = absurd is
op_short (Ins key) is = let short = value_short key is in omega arith
op_short DelMin is = omega arith

change_short : (change : Change) → IsStatedChange change → length (change_text change) ≤ 53
change_short Plain is = absurd is
change_short (Gain bridge entry) is = changed_short (Some bridge) (codes "gain") entry refl is.0 is.1
change_short (Lose bridge entry) is = changed_short bridge (codes "lose") entry refl is.0 is.1

pub line_is_short : (e : Evidence) → IsEvidence e → length (spelling e) ≤ 160
unfolding spelling
line_is_short e is =
    let name = name_short e.name is.named in
    let edit = word_short e.added in
    let place = place_short e.place is.place in
    let number = number_short e.number is.number.1 in
    let op = op_short e.op is.op in
    let change = change_short e.change is.change in
    simp length-append (omega arith)
