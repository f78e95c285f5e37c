-- OP: an operation, as words spell it. It is a word of its own, and the values that it takes.
use Rattle.std.specs.Prelude.{ℕ, ℤ, List, [], ◌∷◌, codes, Option, Some, None, option_and_then, if◌then◌else◌}
use Rattle.std.specs.Str.{bytes_eq}
use Rattle.retro_base.specs.declared.op.Op.{Op}
use Rattle.retro_base.specs.declared.op.Op.TheVariants.{Enq, Deq, Push, Pop, PushL, PushR, PopL, PopR, Put, Del, Ins, DelMin}
use Rattle.script_grammar.specs.declared.operands.Operands.{Operands}
use Rattle.script_grammar.specs.declared.operands.Operands.TheVariants.{Bare, Unary, Binary}
use Rattle.script_grammar.specs.Operands.{operands_of}

-- an operation without a value
abbrev pub bare_op : List ℕ → Option Op
bare_op word =
    if bytes_eq word (codes "deq") then Some Deq
    else (if bytes_eq word (codes "pop") then Some Pop
    else (if bytes_eq word (codes "popl") then Some PopL
    else (if bytes_eq word (codes "popr") then Some PopR
    else (if bytes_eq word (codes "delmin") then Some DelMin
    else None))))

-- an operation on one value or key
abbrev pub unary_op : List ℕ → ℤ → Option Op
unary_op word value =
    if bytes_eq word (codes "enq") then Some (Enq value)
    else (if bytes_eq word (codes "push") then Some (Push value)
    else (if bytes_eq word (codes "pushl") then Some (PushL value)
    else (if bytes_eq word (codes "pushr") then Some (PushR value)
    else (if bytes_eq word (codes "del") then Some (Del value)
    else (if bytes_eq word (codes "ins") then Some (Ins value)
    else None)))))

-- an operation on a key and a value
abbrev pub binary_op : List ℕ → ℤ → ℤ → Option Op
binary_op word key value = if bytes_eq word (codes "put") then Some (Put key value) else None

-- the operation that a word and the values after it spell
abbrev pub op_with : List ℕ → Operands → Option Op
op_with word Bare = bare_op word
op_with word (Unary value) = unary_op word value
op_with word (Binary key value) = binary_op word key value

-- the operation that the words spell
abbrev pub op_of : List (List ℕ) → Option Op
op_of [] = None
op_of (word ∷ rest) = option_and_then (λ operands. op_with word operands) (operands_of rest)
