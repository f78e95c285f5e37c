-- Scripts that were worked out by hand, computed from the definition.
use Rattle.std.proofs.Common.{◌≡◌, [], ◌∷◌, codes, refl}
use Rattle.std.specs.Fmt.{digits}
use Rattle.retro_base.specs.declared.kind.Kind.TheVariants.{Queue, Stack, Pq}
use Rattle.script_gen.specs.Draws.{first_draw, next_state}
use Rattle.script_gen.specs.Script.{generated}

drawn_from_zero : first_draw 0 ≡ 167951807
drawn_from_zero = refl

drawn_from_seven : first_draw 7 ≡ 1059165278
drawn_from_seven = refl

state_after_one : next_state 1 ≡ 7806831264735756412
state_after_one = refl

queue_from_zero : generated Queue 1 0 ≡ codes "new g queue" ∷ codes "g delete #1" ∷ []
unfolding generated digits
queue_from_zero = refl

stack_from_one : generated Stack 4 1
    ≡ codes "new g stack" ∷ codes "g at 944153 push 196" ∷ codes "g at 211034 push 795" ∷ codes "g at 486902 push 89" ∷ codes "g at 520123 pop" ∷ []
unfolding generated digits
stack_from_one = refl

pq_from_42 : generated Pq 3 42 ≡ codes "new g pq" ∷ codes "g at 179026 ins 538" ∷ codes "g at 606294 ins 156" ∷ codes "g ask size" ∷ []
unfolding generated digits
pq_from_42 = refl
