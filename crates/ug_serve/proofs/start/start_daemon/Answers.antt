use Rattle.std.proofs.Common.{◌≡◌, ◌∙◌, ap, ℕ, List, Ok, Err}
use Rattle.ug_core.specs.Event.{daemon_of}
use Rattle.ug_serve.specs.Causes.{refusal_of_start}
use Rattle.ug_serve.specs.Opening.{Started_from, Without_names, file_names}
use Rattle.ug_serve.proofs.start.start_daemon.Goals as goal

pub returns-in-Err-clause-starts : goal.returns-in-Err-clause-starts
returns-in-Err-clause-starts g c = Without_names

pub returns-in-Ok-start_from-clause-starts : goal.returns-in-Ok-start_from-clause-starts
returns-in-Ok-start_from-clause-starts g c =
    Started_from (Ok (daemon_of c.in-Ok-start_from.daemon)) c.start_from.new.disk c.in-Ok-start_from.ensures.starts

pub returns-in-Err-start_from-clause-starts : goal.returns-in-Err-start_from-clause-starts
returns-in-Err-start_from-clause-starts g c =
    let names : c.as_slice-in-Err-start_from.result.now ≡ file_names c.args.folder = c.as_slice-in-Err-start_from.ensures ∙ (c.in-Ok.ensures ∙ ap file_names c.as_slice.ensures) in
    let is : c.of_start.result ≡ refusal_of_start (file_names c.args.folder) c.in-Err-start_from.fault = c.of_start.ensures ∙ ap (λ (ns : List (List ℕ)). refusal_of_start ns c.in-Err-start_from.fault) names in
    rw is (Started_from (Err c.in-Err-start_from.fault) c.start_from.new.disk c.in-Err-start_from.ensures.starts)
