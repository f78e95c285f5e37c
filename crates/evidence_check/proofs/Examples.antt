-- Lines whose judgement was worked out by hand, computed from the definitions.
use Rattle.std.proofs.Common.{◌≡◌, ℕ, List, [], ◌∷◌, codes, refl}
use Rattle.std.specs.Fmt.{digits}
use Rattle.retro_base.specs.Name.{is_name}
use Rattle.retro_base.specs.Replay.{fold_rows}
use Rattle.retro_base.specs.State.{perform}
use Rattle.evidence.specs.Reading.{evidence_of, key_of, number_of}
use Rattle.evidence_check.specs.declared.error.CheckError.TheVariants as causes
use Rattle.evidence_check.specs.Judgement.{accepted, judged_line, judgement, judgement_text, refused}
use Rattle.evidence_check.specs.Truth.{cause_of}

-- the answers to a script, whose fourth line is this one
abbrev with_fourth : List ℕ → List (List ℕ)
with_fourth line = codes "ok" ∷ codes "edit p add 0 #1 ins 4 bridge 0 gain #1 4" ∷ codes "edit p add 1 #2 delmin bridge 1 lose #1 4" ∷ line ∷ codes "= 4" ∷ []

honest : judgement (with_fourth (codes "edit p add 0 #3 ins 2 bridge 0 gain #1 4")) ≡ accepted 3
unfolding judged_line evidence_of key_of number_of is_name digits cause_of fold_rows perform
honest = refl

other_bridge : judgement (with_fourth (codes "edit p add 0 #3 ins 2 bridge 1 gain #1 4")) ≡ refused 4 causes.Bridge
unfolding judged_line evidence_of key_of number_of is_name digits cause_of fold_rows perform
other_bridge = refl

other_entry : judgement (with_fourth (codes "edit p add 0 #3 ins 2 bridge 0 gain #3 2")) ≡ refused 4 causes.Entry
unfolding judged_line evidence_of key_of number_of is_name digits cause_of fold_rows perform
other_entry = refl

nothing_to_take : judgement (with_fourth (codes "edit p add 0 #3 delmin bridge 0 lose #1 4")) ≡ refused 4 causes.Replay
unfolding judged_line evidence_of key_of number_of is_name digits cause_of fold_rows perform
nothing_to_take = refl

number_of_another : judgement (with_fourth (codes "edit p add 0 #1 ins 2 bridge 0 gain #1 4")) ≡ refused 4 causes.Number
unfolding judged_line evidence_of key_of number_of is_name digits cause_of fold_rows perform
number_of_another = refl

other_op : judgement (with_fourth (codes "edit p cut 0 #1 ins 3 bridge 2 lose #1 4")) ≡ refused 4 causes.Row
unfolding judged_line evidence_of key_of number_of is_name digits cause_of fold_rows perform
other_op = refl

after_all_rows : judgement (with_fourth (codes "edit p add 3 #3 ins 2 bridge 0 gain #1 4")) ≡ refused 4 causes.Place
unfolding judged_line evidence_of key_of number_of is_name digits cause_of fold_rows perform
after_all_rows = refl

said : judgement_text (refused 4 causes.Bridge) ≡ codes "refused line 4 bridge"
unfolding digits
said = refl
