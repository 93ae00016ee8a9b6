use Rattle.std.proofs.Common.{◌≡◌, ℕ, ◌≤◌, arith, List, [], ◌∷◌, ◌++◌, Option, Some, None, ap, refl, subst, sym, ◌∙◌}
use Rattle.std.proofs.KnownBytes.{Appends-nil, Keeps-refl, Keeps-trans}
use Rattle.std.specs.Io.KnownBytes.{Appends, Keeps}
use Rattle.ug_types.specs.declared.sink.Put.TheVariants as put
use Rattle.ug_links.specs.LinkCalls.{TellsCall}
use Rattle.ug_links.specs.declared.link.Dialled.TheVariants as dialled
use Rattle.ug_links.specs.declared.link_call.LinkCall.TheVariants as call
use Rattle.ug_client.specs.Asking.{request_line}
use Rattle.ug_client.specs.declared.send.Sent.TheVariants as sent
use Rattle.ug_client.specs.Calls.{Undialled, Unprinted, Unsent}
use Rattle.ug_client.proofs.Calls.{tells_nothing, tells_one, told_one}
use Rattle.ug_client.proofs.WatchCalls.{rose_after}
use Rattle.ug_client.proofs.send.send_request.Goals as goal

kept_appends : (a b c : Option (List ℕ)) (bs : List ℕ) → Keeps a b → Appends b c bs → Appends a c bs
kept_appends None b c bs h k = tt
kept_appends (Some x) None c bs h k = absurd h
kept_appends (Some x) (Some y) None bs h k = absurd k
kept_appends (Some x) (Some y) (Some z) bs h k = k ∙ ap (λ (l : List ℕ). l ++ bs) h

memory_unfailed : ¬ (sent.Memory ≡ sent.Failed)
memory_unfailed e = cc

done_unfailed : ¬ (sent.Done ≡ sent.Failed)
done_unfailed e = cc

not_above : (a b c : ℕ) → a ≤ b → b ≤ c → a ≤ c
not_above a b c h k = omega arith

pub returns-in-Err-clause-made : goal.returns-in-Err-clause-made
returns-in-Err-clause-made g c = Unprinted refl (tells_nothing (g.L.Link.told c.args.link.now))

pub returns-in-Done-clause-made : goal.returns-in-Done-clause-made
returns-in-Done-clause-made g c =
    let told0 = g.L.Link.told c.args.link.now in
    let told1 = g.L.Link.told c.dial.new.self in
    let told2 = g.L.Link.told c.send.new.self in
    let line = request_line c.args.request.now in
    tells_one told0 told1 told2 (call.Dial c.args.path.now dialled.Ready ∷ []) (call.Send line put.Done)
    (told_one told0 told1 (call.Dial c.args.path.now dialled.Ready) c.in-Ready.ensures.told)
    (subst (λ (b : List ℕ). TellsCall told1 (call.Send b put.Done) told2) (c.deref.ensures.value ∙ c.in-Ok.ensures) c.in-Done.ensures.told)

pub returns-in-Done-clause-sent : goal.returns-in-Done-clause-sent
returns-in-Done-clause-sent g c = kept_appends (g.L.Link.sent c.args.link.now) (g.L.Link.sent c.dial.new.self) (g.L.Link.sent c.send.new.self) (request_line c.args.request.now) c.dial.ensures.sent
    (subst (λ (b : List ℕ). Appends (g.L.Link.sent c.dial.new.self) (g.L.Link.sent c.send.new.self) b) (c.deref.ensures.value ∙ c.in-Ok.ensures) c.in-Done.ensures.sent)

pub returns-in-Ready-clause-made : goal.returns-in-Ready-clause-made
returns-in-Ready-clause-made g c =
    let told0 = g.L.Link.told c.args.link.now in
    let told1 = g.L.Link.told c.dial.new.self in
    let told2 = g.L.Link.told c.send.new.self in
    let line = request_line c.args.request.now in
    Unsent refl (tells_one told0 told1 told2 (call.Dial c.args.path.now dialled.Ready ∷ []) (call.Send line put.Failed)
    (told_one told0 told1 (call.Dial c.args.path.now dialled.Ready) c.in-Ready.ensures.told)
    (subst (λ (b : List ℕ). TellsCall told1 (call.Send b put.Failed) told2) (c.deref.ensures.value ∙ c.in-Ok.ensures) c.in-Failed-send.ensures.told))

pub returns-in-Ready-clause-sent : goal.returns-in-Ready-clause-sent
returns-in-Ready-clause-sent g c =
    let part = c.in-Failed-send.ensures.sent in
    record {
      front = part.0;
      rest = part.1;
      whole = sym (c.deref.ensures.value ∙ c.in-Ok.ensures) ∙ part.2;
      appended = kept_appends (g.L.Link.sent c.args.link.now) (g.L.Link.sent c.dial.new.self) (g.L.Link.sent c.send.new.self) part.0 c.dial.ensures.sent part.3;
    }

pub returns-in-Ready-clause-cause : goal.returns-in-Ready-clause-cause
returns-in-Ready-clause-cause g c = λ e. rose_after (g.L.Link.faults c.args.link.now) (g.L.Link.faults c.dial.new.self) (g.L.Link.faults c.send.new.self) c.dial.ensures.counted.0 c.send.ensures.counted.0 (c.in-Failed-send.ensures.cause refl)

pub returns-in-Failed-clause-made : goal.returns-in-Failed-clause-made
returns-in-Failed-clause-made g c = Undialled dialled.Failed refl (told_one (g.L.Link.told c.args.link.now) (g.L.Link.told c.dial.new.self) (call.Dial c.args.path.now dialled.Failed) c.in-Failed.ensures.told)

pub returns-clause-made : goal.returns-clause-made
returns-clause-made g c = Undialled dialled.Memory refl (told_one (g.L.Link.told c.args.link.now) (g.L.Link.told c.dial.new.self) (call.Dial c.args.path.now dialled.Memory) c.in-Memory.ensures.told)

pub returns-in-Err-clause-sent : goal.returns-in-Err-clause-sent
returns-in-Err-clause-sent g c = Keeps-refl (g.L.Link.sent c.args.link.now)

pub returns-in-Err-clause-left : goal.returns-in-Err-clause-left
returns-in-Err-clause-left g c = Keeps-refl (g.L.Link.left c.args.link.now)

pub returns-in-Done-clause-left : goal.returns-in-Done-clause-left
returns-in-Done-clause-left g c = Keeps-trans (g.L.Link.left c.args.link.now) (g.L.Link.left c.dial.new.self) (g.L.Link.left c.send.new.self) c.dial.ensures.left c.send.ensures.left

pub returns-in-Done-clause-counted : goal.returns-in-Done-clause-counted
returns-in-Done-clause-counted g c = not_above (g.L.Link.faults c.args.link.now) (g.L.Link.faults c.dial.new.self) (g.L.Link.faults c.send.new.self) c.dial.ensures.counted.0 c.send.ensures.counted.0

pub returns-in-Ready-clause-left : goal.returns-in-Ready-clause-left
returns-in-Ready-clause-left g c = Keeps-trans (g.L.Link.left c.args.link.now) (g.L.Link.left c.dial.new.self) (g.L.Link.left c.send.new.self) c.dial.ensures.left c.send.ensures.left

pub returns-in-Ready-clause-counted : goal.returns-in-Ready-clause-counted
returns-in-Ready-clause-counted g c = not_above (g.L.Link.faults c.args.link.now) (g.L.Link.faults c.dial.new.self) (g.L.Link.faults c.send.new.self) c.dial.ensures.counted.0 c.send.ensures.counted.0

pub returns-in-Failed-clause-sent : goal.returns-in-Failed-clause-sent
returns-in-Failed-clause-sent g c = record {
  front = [];
  rest = request_line c.args.request.now;
  whole = refl;
  appended = kept_appends (g.L.Link.sent c.args.link.now) (g.L.Link.sent c.dial.new.self) (g.L.Link.sent c.dial.new.self) [] c.dial.ensures.sent (Appends-nil (g.L.Link.sent c.dial.new.self));
}

pub returns-in-Failed-clause-cause : goal.returns-in-Failed-clause-cause
returns-in-Failed-clause-cause g c = λ e. c.in-Failed.ensures.cause refl

pub returns-in-Err-clause-cause : goal.returns-in-Err-clause-cause
returns-in-Err-clause-cause g c = λ e. absurd (memory_unfailed e)

pub returns-in-Done-clause-cause : goal.returns-in-Done-clause-cause
returns-in-Done-clause-cause g c = λ e. absurd (done_unfailed e)

pub returns-clause-cause : goal.returns-clause-cause
returns-clause-cause g c = λ e. absurd (memory_unfailed e)
