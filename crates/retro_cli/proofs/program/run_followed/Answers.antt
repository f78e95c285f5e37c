-- What is true of the run over the outer sink is true of the one behind it.
use Rattle.std.proofs.Common.{◌≡◌, rules}
use Rattle.retro_io.specs.DirectSink.{reference_behind}
use Rattle.retro_cli.specs.Forms.{form_of, is_follow}
use Rattle.retro_cli.proofs.Behind.{run_behind, run_reference, run_unsent}
use Rattle.retro_cli.proofs.program.run_followed.Goals as goal

pub returns-clause-promise : goal.returns-clause-promise
returns-clause-promise g c =
    let ran = c.run_sending-status.ensures.promise in
    let same : reference_behind c.run_sending-status.new.sink ≡ reference_behind c.new-direct.result =
    run_reference g.S.Source g.K.Sink _ _ _ _ _ c.run_sending-status.result (is_follow c.args.words.now) (form_of c.args.words.now) _ _ (λ none. none.1) ran in
    run_behind g.S.Source g.K.Sink _ _ _ _ _ c.run_sending-status.result (is_follow c.args.words.now) (form_of c.args.words.now) _ _ _ _ c.new-direct.ensures.sink (search rules) ran

pub returns-clause-fault : goal.returns-clause-fault
returns-clause-fault g c =
    let ran = c.run_sending-status.ensures.promise in
    let same : reference_behind c.run_sending-status.new.sink ≡ reference_behind c.new-direct.result =
    run_reference g.S.Source g.K.Sink _ _ _ _ _ c.run_sending-status.result (is_follow c.args.words.now) (form_of c.args.words.now) _ _ (λ none. none.1) ran in
    λ e.
    run_unsent g.S.Source g.K.Sink _ _ _ _ _ c.run_sending-status.result (is_follow c.args.words.now) (form_of c.args.words.now) _ _ _ _ c.new-direct.ensures.sink (search rules) ran e
