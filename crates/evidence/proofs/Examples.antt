-- Lines whose evidence was worked out by hand, computed from the definitions.
use Rattle.std.proofs.Common.{◌≡◌, true, false, codes, pos, negsuc, refl, Some, None}
use Rattle.std.specs.Fmt.{digits}
use Rattle.retro_base.specs.declared.op.Op.TheVariants.{Ins, DelMin}
use Rattle.retro_base.specs.declared.row.Change.TheVariants.{Gain, Lose}
use Rattle.retro_base.specs.Name.{is_name}
use Rattle.evidence.specs.declared.evidence.Evidence.{Evidence}
use Rattle.evidence.specs.Reading.{evidence_of, key_of, number_of}
use Rattle.evidence.specs.Spelling.{spelling}

abbrev gained : Evidence
gained = record {
  name = codes "p";
  added = true;
  place = 0;
  number = 3;
  op = Ins (negsuc 1);
  change = Gain 0 (record { key = pos 4; number = 1 });
}

abbrev lost : Evidence
lost = record {
  name = codes "p";
  added = false;
  place = 12;
  number = 16777215;
  op = DelMin;
  change = Lose None (record { key = pos 0; number = 10 });
}

gained_spelled : spelling gained ≡ codes "edit p add 0 #3 ins -2 bridge 0 gain #1 4"
unfolding spelling digits
gained_spelled = refl

lost_spelled : spelling lost ≡ codes "edit p cut 12 #16777215 delmin bridge none lose #10 0"
unfolding spelling digits
lost_spelled = refl

gained_read : evidence_of (codes "edit p add 0 #3 ins -2 bridge 0 gain #1 4") ≡ Some gained
unfolding evidence_of key_of number_of is_name digits
gained_read = refl

zero_in_front : evidence_of (codes "edit p add 0 #3 ins -02 bridge 0 gain #1 4") ≡ None
unfolding evidence_of key_of number_of is_name digits
zero_in_front = refl

two_spaces : evidence_of (codes "edit  p add 0 #3 ins -2 bridge 0 gain #1 4") ≡ None
unfolding evidence_of key_of number_of is_name digits
two_spaces = refl

none_gained : evidence_of (codes "edit p add 0 #3 ins -2 bridge none gain #1 4") ≡ None
unfolding evidence_of key_of number_of is_name digits
none_gained = refl
