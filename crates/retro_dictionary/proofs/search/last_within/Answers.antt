use Rattle.std.proofs.Common.{◌≡◌, ◌+◌, ◌-◌, suc, false, not, Option, Some, None, IfNone, SFits, w64, subst, sym, ap, ◌∙◌, arith, rules}
use Rattle.std.specs.Option.{is_some}
use Rattle.std.proofs.lemmas.Int.{to_z-of_z}
use Rattle.retro_dictionary.specs.declared.search.Bound.TheVariants.{UpTo}
use Rattle.retro_dictionary.specs.Asked.{IsNumber}
use Rattle.retro_dictionary.specs.Bounds.{reaches, StandUpTo, FailsAt, HasNumber}
use Rattle.retro_dictionary.proofs.RangeOfPairs.{some_up_to, number_at}
use Rattle.retro_dictionary.proofs.search.last_within.Goals as goal

where_none : {A : Type 0} (o : Option A) (P : Type 0) → is_some o ≡ false → IfNone o P → P
where_none None P none holds = holds
where_none (Some x) P none holds = absurd (cc)

pub returns-then-is_none-clause-last : goal.returns-then-is_none-clause-last
returns-then-is_none-clause-last c =
    let high_fits : SFits w64 c.args.range.high = search rules in
    let test = reaches (UpTo c.args.range.high) in
    let past : IfNone c.pair_up_to.result (FailsAt test c.args.items.now (c.args.first.now.place + 1)) = simp to_z-of_z at c.pair_up_to.ensures.none in
    let next : c.args.first.now.place + 1 ≡ suc c.args.first.now.place = omega arith in
    record {
      there = c.requires.first.there;
      ends = some_up_to (UpTo c.args.range.high) c.args.items.now c.args.first.now.place c.args.first.now.pair c.requires.lawful.ordered c.requires.first.there c.requires.first.reached
          (subst (FailsAt test c.args.items.now) next (where_none c.pair_up_to.result (FailsAt test c.args.items.now (c.args.first.now.place + 1)) (c.is_none.ensures ∙ ap not c.if-is_none.true) past));
    }

pub returns-then-place-first-clause-last : goal.returns-then-place-first-clause-last
returns-then-place-first-clause-last c =
    let items = c.args.items.now in
    record {
      there = c.requires.first.there;
      ends = subst (StandUpTo (UpTo c.args.range.high) items) (let end : c.count_to_end-place.result ≡ suc c.args.first.now.place = omega (arith, c.if-place-first.true, c.count_to_end-place.ensures.past) in end)
          (c.count_to_end-place.ensures.up_to (subst (HasNumber items) (sym c.if-place-first.true) c.requires.first.number));
    }

pub returns-clause-last : goal.returns-clause-last
returns-clause-last c =
    let items = c.args.items.now in
    let place = c.count_to_end-place.result - 1 in
    let number : IsNumber c.get-pair.result.0 = search rules in
    record {
      there = c.get-pair.ensures.item;
      ends = subst (StandUpTo (UpTo c.args.range.high) items) (let end : c.count_to_end-place.result ≡ suc place = omega (arith, c.count_to_end-place.ensures.past) in end)
          (c.count_to_end-place.ensures.up_to (number_at items place c.get-pair.result c.get-pair.ensures.item number));
    }
