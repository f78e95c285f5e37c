use Rattle.std.proofs.Common.{◌<◌, ap, length}
use Rattle.retro_base.specs.Limits.{most_rows, next_limit}
use Rattle.timelines.specs.Kept.{named}
use Rattle.timelines.proofs.Memory.{shift_memory, shifted_memory}
use Rattle.timelines.proofs.TimelineEffects.{made_replays, shift_refused, shifted_told}
use Rattle.timelines.proofs.named_timeline.NamedTimeline.shift_at.Goals as goal

pub refusal_of_one_more-requires : goal.refusal_of_one_more-requires
refusal_of_one_more-requires g c = record { unspent = c.requires.unspent }

pub returns-in-Some-clause-ok : goal.returns-in-Some-clause-ok
returns-in-Some-clause-ok g c step shifted = rw c.refused.ensures (c.in-Some.ensures _)

pub returns-in-Some-clause-unspent : goal.returns-in-Some-clause-unspent
returns-in-Some-clause-unspent g c = c.requires.unspent

pub next-number-requires : goal.next-number-requires
next-number-requires g c = record { unspent = rw (← c.self.view_is) at c.requires.unspent }

pub shift-requires : goal.shift-requires
shift-requires g c = record {
  unspent = rw (← c.self.view_is) at c.requires.unspent;
  within = rw (← c.self.view_is) at c.requires.within;
  room = (rw (← c.self.view_is) at c.in_default.ensures).0;
  of_kind = rw (← c.self.view_is) at c.requires.of_kind;
}

pub returns-in-Ok-clause-ok : goal.returns-in-Ok-clause-ok
returns-in-Ok-clause-ok g c =
    let done = c.in-Ok.ensures in
    let fits = rw (← c.self.view_is) at c.in_default.ensures in
    let room : length c.self.inside.session.rows < most_rows = fits.0.0 in
    let number : c.self.inside.session.next < next_limit = fits.0.1 in
    rw (← c.self.view_is)
    (shifted_told c.tell_all.result (named c.self.inside.name c.self.inside.session) _ c.args.target c.args.place _ room number done.step (made_replays _ _ _ done.made)
    (ap (named c.self.inside.name) done.session)
    (rw (done.session, c.next-number.ensures.next) at (c.tell_all.ensures c.self.inside.session.rows (rw done.session done.made))))

pub returns-in-Err-clause-ok : goal.returns-in-Err-clause-ok
returns-in-Err-clause-ok g c =
    let fits = rw (← c.self.view_is) at c.in_default.ensures in
    let room : length c.self.inside.session.rows < most_rows = fits.0.0 in
    let number : c.self.inside.session.next < next_limit = fits.0.1 in
    rw (← c.self.view_is)
    (shift_refused c.self.inside.name c.self.inside.session _ c.args.target c.args.place _ c.refused_by.result room number c.in-Err.ensures.err
    c.refused_by.ensures)

pub returns-in-Ok-clause-memory : goal.returns-in-Ok-clause-memory
returns-in-Ok-clause-memory g c =
    let done = c.in-Ok.ensures in
    let fits = rw (← c.self.view_is) at c.in_default.ensures in
    let room : length c.self.inside.session.rows < most_rows = fits.0.0 in
    let number : c.self.inside.session.next < next_limit = fits.0.1 in
    rw (← c.self.view_is)
    (shifted_memory c.tell_all.result (named c.self.inside.name c.self.inside.session) c.args.target c.args.place _ room number done.step (made_replays _ _ _ done.made))

pub returns-in-Err-clause-memory : goal.returns-in-Err-clause-memory
returns-in-Err-clause-memory g c =
    let fits = rw (← c.self.view_is) at c.in_default.ensures in
    let room : length c.self.inside.session.rows < most_rows = fits.0.0 in
    let number : c.self.inside.session.next < next_limit = fits.0.1 in
    rw (← c.self.view_is)
    (shift_memory c.self.inside.name c.self.inside.session _ c.args.target c.args.place _ c.refused_by.result room number c.in-Err.ensures.err
    c.refused_by.ensures)
