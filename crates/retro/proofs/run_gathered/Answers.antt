-- The followers that were handed in are a tally, and a mirror where the words have a name; the run is over the outbox that was made, and
-- what waits there has gone on.
use Rattle.std.proofs.Common.{◌≡◌, [], ◌∷◌, ◌++◌, refl, sym, ap, ◌∙◌, map}
use Rattle.followers.specs.Mirrors.{held_after, mirror_text}
use Rattle.followers.specs.Totals.{tally, totals_after, totals_text}
use Rattle.retro_run.specs.Audience.{audience_of}
use Rattle.retro.specs.Followers.{followers_of, mirror, with_mirror}
use Rattle.retro.proofs.Waiting.{all_is_in}
use Rattle.retro.proofs.run_gathered.OwnLists.{at-1-1, at-1-2, own-1}
use denote.Param.Object.{read_made}
use Rattle.retro.proofs.run_gathered.Goals.{in-Some+in_ok-new-2+in_ok-push-2, in_default}
use Rattle.retro.proofs.run_gathered.Goals as goal

pub returns-clause-runs : goal.returns-clause-runs
returns-clause-runs g c =
    let first = c.into_dyn_box.result in
    let one : c.push.new.self.items ≡ first ∷ [] = c.in_ok-push.ensures.items ∙ ap (λ xs. xs ++ first ∷ []) c.new-followers.ensures.items in
    let first_reports : (own-1.entry first.vtable).1.report_after first.value ≡ (λ events. totals_text (totals_after c.in_ok-new.field-0.value events)) =
    read_made own-1 _ at-1-1 refl _ (λ entry value. entry.1.report_after value) first.vtable first.value c.in_ok-new.field-0.value c.into_dyn_box.ensures.1 in
    let first_is : (own-1.entry first.vtable).1.report_after first.value ≡ tally = first_reports ∙ ap (λ t events. totals_text (totals_after t events)) (c.in_ok-new.ensures.ok ∙ c.new.ensures) in
    let handed_in : map (λ f. (own-1.entry f.vtable).1.report_after f.value) c.match-name_followed.followers.items ≡ followers_of c.args.words.now =
    elim c.match-name_followed.branch [
      | in-Some+in_ok-new-2+in_ok-push-2 w ↦
          let second = w.into_dyn_box-in_ok-new-2.result in
          let both : c.match-name_followed.followers.items ≡ first ∷ second ∷ [] =
          ap (λ v. v.items) w.followers-is ∙ (w.in_ok-push-2.ensures.items ∙ ap (λ xs. xs ++ second ∷ []) one) in
          let second_reports : (own-1.entry second.vtable).1.report_after second.value
          ≡ (λ events. mirror_text w.in_ok-new-2.field-0.value.name (held_after w.in_ok-new-2.field-0.value.name w.in_ok-new-2.field-0.value.entries events)) =
          read_made own-1 _ at-1-2 refl _ (λ entry value. entry.1.report_after value) second.vtable second.value w.in_ok-new-2.field-0.value w.into_dyn_box-in_ok-new-2.ensures.1 in
          let second_is : (own-1.entry second.vtable).1.report_after second.value ≡ mirror w.in-Some.name =
          second_reports ∙ ap (λ m events. mirror_text m.name (held_after m.name m.entries events)) (w.in_ok-new-2.ensures.ok ∙ w.new-in-Some.ensures) in
          ap (map (λ f. (own-1.entry f.vtable).1.report_after f.value)) both
          ∙ (ap (λ report. report ∷ (own-1.entry second.vtable).1.report_after second.value ∷ []) first_is
          ∙ (ap (λ report. tally ∷ report ∷ []) second_is ∙ sym (ap with_mirror (sym c.name_followed.ensures ∙ w.in-Some.is))))
      | in_default w ↦
          ap (map (λ f. (own-1.entry f.vtable).1.report_after f.value)) (ap (λ v. v.items) w.followers-is ∙ one)
          ∙ (ap (λ report. report ∷ []) first_is ∙ sym (ap with_mirror (sym c.name_followed.ensures ∙ w.in_default.is)))
    ] in
    record {
      first = c.in_ok-outbox.outbox;
      sink_is = c.in_ok-outbox.ensures.sink;
      empty = c.in_ok-outbox.ensures.waiting;
      unflushed = c.in_ok-outbox.ensures.flushed;
      no_faults = c.in_ok-outbox.ensures.faults;
      audience = audience_of (map (λ f. (own-1.entry f.vtable).1.report_after f.value) c.match-name_followed.followers.items);
      handed_in = ap audience_of handed_in;
      runs = c.run_sending-status.ensures.promise;
      sent = λ succeeds. c.run_sending-status.ensures.sent c.in_ok-outbox.ensures.waiting succeeds;
      all = λ succeeds. all_is_in _ _ (c.run_sending-status.ensures.sent c.in_ok-outbox.ensures.waiting succeeds);
    }
