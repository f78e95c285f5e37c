-- The text of an operation: its word, and the values that it takes.
use Rattle.std.specs.Prelude.{ℕ, ℤ, List, ◌++◌, codes}
use Rattle.std.specs.Fmt.{signed_decimal}
use Rattle.retro_base.specs.declared.op.Op.{Op}
use Rattle.retro_base.specs.declared.op.Op.TheVariants.{Enq, Deq, Push, Pop, PushL, PushR, PopL, PopR, Put, Del, Ins, DelMin}

-- a value, after a space
abbrev pub value_text : ℤ → List ℕ
value_text value = codes " " ++ signed_decimal value

-- a word and a value
abbrev pub with_value : List ℕ → ℤ → List ℕ
with_value word value = word ++ value_text value

-- the text of an operation
abbrev pub op_text : Op → List ℕ
op_text (Enq value) = with_value (codes "enq") value
op_text Deq = codes "deq"
op_text (Push value) = with_value (codes "push") value
op_text Pop = codes "pop"
op_text (PushL value) = with_value (codes "pushl") value
op_text (PushR value) = with_value (codes "pushr") value
op_text PopL = codes "popl"
op_text PopR = codes "popr"
op_text (Put key value) = with_value (codes "put") key ++ value_text value
op_text (Del key) = with_value (codes "del") key
op_text (Ins key) = with_value (codes "ins") key
op_text DelMin = codes "delmin"
