use Rattle.std.proofs.Common.{◌≡◌, ◌≤◌, false, inl, refl, subst, arith}
use Rattle.ug_iface.specs.Bus.{IsSoundBus}
use Rattle.ug_sysfs.specs.Serving.{bus_in}
use Rattle.ug_lines.specs.Lines.{lines_of}
use Rattle.ug_sysfs.specs.IfaceMoves.{bus_new_sound}
use Rattle.ug_sysfs.specs.World.{World}
use Rattle.ug_script.specs.Against.{RefusesScript}
use Rattle.ug_script.specs.Laws.{coming_in}
use Rattle.ug_tool.proofs.command.carry_out.Goals as goal

pub returns-in-Replay-clause-carried : goal.returns-in-Replay-clause-carried
returns-in-Replay-clause-carried g c = rw c.in-Replay.is (record {
  journal = λ all base a b.
      let r = c.replay_over-status.ensures.replayed all base a b in
      (r.0, c.replay_over-status.new.kernel, r.1);
  why = c.replay_over-status.ensures.why;
  too_long = c.replay_over-status.ensures.too_long;
  carries = c.replay_over-status.ensures.carries;
  ended = c.replay_over-status.ensures.ended;
})

pub returns-in-Summarize-clause-carried : goal.returns-in-Summarize-clause-carried
returns-in-Summarize-clause-carried g c = rw c.in-Summarize.is (record {
  numbers = λ all base a b.
      let r = rw c.new-kernel-in-Summarize.ensures at (c.summarize-status.ensures.answers all base a b) in
      (r.0, c.summarize-status.new.kernel, r.1);
  told = λ all base a b. rw c.new-kernel-in-Summarize.ensures at (c.summarize-status.ensures.told all base a b);
  why = λ all a.
      subst (λ (w : World). w.ran_out ≡ false → IsSoundBus (bus_in w) → w.faults ≡ 0 → coming_in w ≤ 1048576 → c.summarize-status.result ≡ 2 → RefusesScript w (lines_of all)) c.new-kernel-in-Summarize.ensures (c.summarize-status.ensures.why all a) refl bus_new_sound refl (omega arith);
  ended = c.summarize-status.ensures.ended;
})

pub returns-in-MakeScript-clause-carried : goal.returns-in-MakeScript-clause-carried
returns-in-MakeScript-clause-carried g c = rw c.in-MakeScript.is (record {
  text = inl c.write_script.ensures.ends;
  unread = refl;
  ended = c.write_script.ensures.ended;
})

pub returns-in-ReadDescriptor-clause-carried : goal.returns-in-ReadDescriptor-clause-carried
returns-in-ReadDescriptor-clause-carried g c = rw c.in-ReadDescriptor.is (record {
  answer = c.list_descriptors.ensures.answers;
  ended = c.list_descriptors.ensures.others;
})

pub returns-in-CheckRules-clause-carried : goal.returns-in-CheckRules-clause-carried
returns-in-CheckRules-clause-carried g c = rw c.in-CheckRules.is (record {
  answer = c.check_rules.ensures.answers;
  ended = c.check_rules.ensures.others;
})

pub returns-in-LintRules-clause-carried : goal.returns-in-LintRules-clause-carried
returns-in-LintRules-clause-carried g c = rw c.in-LintRules.is (record {
  answer = c.lint_rules.ensures.answers;
  ended = c.lint_rules.ensures.others;
})

pub returns-in-GeneratePolicy-clause-carried : goal.returns-in-GeneratePolicy-clause-carried
returns-in-GeneratePolicy-clause-carried g c = rw c.in-GeneratePolicy.is (record {
  lines = λ all base a b.
      let r = rw c.new-kernel-in-GeneratePolicy.ensures at (c.generate_policy-status.ensures.answers all base a b) in
      (r.0, c.generate_policy-status.new.kernel, r.1);
  policy = λ all base a b. rw c.new-kernel-in-GeneratePolicy.ensures at (c.generate_policy-status.ensures.policy all base a b);
  alone = c.generate_policy-status.ensures.alone;
  ended = c.generate_policy-status.ensures.ended;
})

pub returns-in-AddUser-clause-carried : goal.returns-in-AddUser-clause-carried
returns-in-AddUser-clause-carried g c = rw c.in-AddUser.is (record {
  answer = c.add_user.ensures.answers;
  ended = c.add_user.ensures.others;
})

pub returns-in-Ask-clause-carried : goal.returns-in-Ask-clause-carried
returns-in-Ask-clause-carried g c = rw c.in-Ask.is (rw c.bytes.ensures at c.ask_daemon.ensures.asks, refl)

pub returns-in-ListChosen-clause-carried : goal.returns-in-ListChosen-clause-carried
returns-in-ListChosen-clause-carried g c = rw c.in-ListChosen.is (rw c.bytes-in-ListChosen.ensures at c.list_chosen.ensures.lists, refl)

pub returns-in-Order-clause-carried : goal.returns-in-Order-clause-carried
returns-in-Order-clause-carried g c = rw c.in-Order.is (rw c.bytes-in-Order.ensures at c.order_devices.ensures.orders, refl)

pub returns-in-ListLabelled-clause-carried : goal.returns-in-ListLabelled-clause-carried
returns-in-ListLabelled-clause-carried g c = rw c.in-ListLabelled.is (rw c.bytes-in-ListLabelled.ensures at c.list_labelled.ensures.lists, refl)

pub returns-in-ListRuleDevices-clause-carried : goal.returns-in-ListRuleDevices-clause-carried
returns-in-ListRuleDevices-clause-carried g c = rw c.in-ListRuleDevices.is (rw c.bytes-in-ListRuleDevices.ensures at c.list_rule_devices.ensures.lists, refl)

pub returns-in-ChangeParameter-clause-carried : goal.returns-in-ChangeParameter-clause-carried
returns-in-ChangeParameter-clause-carried g c = rw c.in-ChangeParameter.is (rw c.bytes-in-ChangeParameter.ensures at c.change_parameter.ensures.changes, refl)

pub returns-in-WatchWaiting-clause-carried : goal.returns-in-WatchWaiting-clause-carried
returns-in-WatchWaiting-clause-carried g c = rw c.in-WatchWaiting.is (rw c.bytes-in-WatchWaiting.ensures at c.watch_daemon-in-WatchWaiting.ensures.watches, refl)

pub returns-in-Watch-clause-carried : goal.returns-in-Watch-clause-carried
returns-in-Watch-clause-carried g c = rw c.in-Watch.is (rw c.bytes-in-Watch.ensures at c.watch_daemon.ensures.watches, refl)

pub returns-in-Replay-clause-read : goal.returns-in-Replay-clause-read
returns-in-Replay-clause-read g c = c.replay_over-status.ensures.read

pub returns-in-Replay-clause-written : goal.returns-in-Replay-clause-written
returns-in-Replay-clause-written g c = c.replay_over-status.ensures.written

pub returns-in-Replay-clause-link : goal.returns-in-Replay-clause-link
returns-in-Replay-clause-link g c = λ e. refl

pub returns-in-Summarize-clause-read : goal.returns-in-Summarize-clause-read
returns-in-Summarize-clause-read g c = c.summarize-status.ensures.read

pub returns-in-Summarize-clause-written : goal.returns-in-Summarize-clause-written
returns-in-Summarize-clause-written g c = c.summarize-status.ensures.written

pub returns-in-Summarize-clause-link : goal.returns-in-Summarize-clause-link
returns-in-Summarize-clause-link g c = λ e. refl

pub returns-in-MakeScript-clause-read : goal.returns-in-MakeScript-clause-read
returns-in-MakeScript-clause-read g c = λ four. absurd (c.write_script.ensures.not_read four)

pub returns-in-MakeScript-clause-written : goal.returns-in-MakeScript-clause-written
returns-in-MakeScript-clause-written g c = c.write_script.ensures.cause

pub returns-in-MakeScript-clause-link : goal.returns-in-MakeScript-clause-link
returns-in-MakeScript-clause-link g c = λ e. refl

pub returns-in-ReadDescriptor-clause-read : goal.returns-in-ReadDescriptor-clause-read
returns-in-ReadDescriptor-clause-read g c = c.list_descriptors.ensures.read

pub returns-in-ReadDescriptor-clause-written : goal.returns-in-ReadDescriptor-clause-written
returns-in-ReadDescriptor-clause-written g c = c.list_descriptors.ensures.written

pub returns-in-ReadDescriptor-clause-link : goal.returns-in-ReadDescriptor-clause-link
returns-in-ReadDescriptor-clause-link g c = λ e. refl

pub returns-in-CheckRules-clause-read : goal.returns-in-CheckRules-clause-read
returns-in-CheckRules-clause-read g c = c.check_rules.ensures.read

pub returns-in-CheckRules-clause-written : goal.returns-in-CheckRules-clause-written
returns-in-CheckRules-clause-written g c = c.check_rules.ensures.written

pub returns-in-CheckRules-clause-link : goal.returns-in-CheckRules-clause-link
returns-in-CheckRules-clause-link g c = λ e. refl

pub returns-in-LintRules-clause-read : goal.returns-in-LintRules-clause-read
returns-in-LintRules-clause-read g c = c.lint_rules.ensures.read

pub returns-in-LintRules-clause-written : goal.returns-in-LintRules-clause-written
returns-in-LintRules-clause-written g c = c.lint_rules.ensures.written

pub returns-in-LintRules-clause-link : goal.returns-in-LintRules-clause-link
returns-in-LintRules-clause-link g c = λ e. refl

pub returns-in-GeneratePolicy-clause-read : goal.returns-in-GeneratePolicy-clause-read
returns-in-GeneratePolicy-clause-read g c = c.generate_policy-status.ensures.read

pub returns-in-GeneratePolicy-clause-written : goal.returns-in-GeneratePolicy-clause-written
returns-in-GeneratePolicy-clause-written g c = c.generate_policy-status.ensures.written

pub returns-in-GeneratePolicy-clause-link : goal.returns-in-GeneratePolicy-clause-link
returns-in-GeneratePolicy-clause-link g c = λ e. refl

pub returns-in-AddUser-clause-read : goal.returns-in-AddUser-clause-read
returns-in-AddUser-clause-read g c = c.add_user.ensures.read

pub returns-in-AddUser-clause-written : goal.returns-in-AddUser-clause-written
returns-in-AddUser-clause-written g c = c.add_user.ensures.written

pub returns-in-AddUser-clause-link : goal.returns-in-AddUser-clause-link
returns-in-AddUser-clause-link g c = λ e. refl

pub returns-in-Ask-clause-read : goal.returns-in-Ask-clause-read
returns-in-Ask-clause-read g c = λ four. absurd (c.ask_daemon.ensures.not_read four)

pub returns-in-Ask-clause-written : goal.returns-in-Ask-clause-written
returns-in-Ask-clause-written g c = c.ask_daemon.ensures.written

pub returns-in-Ask-clause-link : goal.returns-in-Ask-clause-link
returns-in-Ask-clause-link g c = rw c.in-Ask.is (λ e. let none : ⊥ = cc in absurd none)

pub returns-in-ListChosen-clause-read : goal.returns-in-ListChosen-clause-read
returns-in-ListChosen-clause-read g c = λ four. absurd (c.list_chosen.ensures.not_read four)

pub returns-in-ListChosen-clause-written : goal.returns-in-ListChosen-clause-written
returns-in-ListChosen-clause-written g c = c.list_chosen.ensures.written

pub returns-in-ListChosen-clause-link : goal.returns-in-ListChosen-clause-link
returns-in-ListChosen-clause-link g c = rw c.in-ListChosen.is (λ e. let none : ⊥ = cc in absurd none)

pub returns-in-Order-clause-read : goal.returns-in-Order-clause-read
returns-in-Order-clause-read g c = λ four. absurd (c.order_devices.ensures.not_read four)

pub returns-in-Order-clause-written : goal.returns-in-Order-clause-written
returns-in-Order-clause-written g c = c.order_devices.ensures.written

pub returns-in-Order-clause-link : goal.returns-in-Order-clause-link
returns-in-Order-clause-link g c = rw c.in-Order.is (λ e. let none : ⊥ = cc in absurd none)

pub returns-in-Watch-clause-read : goal.returns-in-Watch-clause-read
returns-in-Watch-clause-read g c = λ four. absurd (c.watch_daemon.ensures.not_read four)

pub returns-in-Watch-clause-written : goal.returns-in-Watch-clause-written
returns-in-Watch-clause-written g c = c.watch_daemon.ensures.written

pub returns-in-Watch-clause-link : goal.returns-in-Watch-clause-link
returns-in-Watch-clause-link g c = rw c.in-Watch.is (λ e. let none : ⊥ = cc in absurd none)

pub returns-in-ListLabelled-clause-read : goal.returns-in-ListLabelled-clause-read
returns-in-ListLabelled-clause-read g c = λ four. absurd (c.list_labelled.ensures.not_read four)

pub returns-in-ListLabelled-clause-written : goal.returns-in-ListLabelled-clause-written
returns-in-ListLabelled-clause-written g c = c.list_labelled.ensures.written

pub returns-in-ListLabelled-clause-link : goal.returns-in-ListLabelled-clause-link
returns-in-ListLabelled-clause-link g c = rw c.in-ListLabelled.is (λ e. let none : ⊥ = cc in absurd none)

pub returns-in-ListRuleDevices-clause-read : goal.returns-in-ListRuleDevices-clause-read
returns-in-ListRuleDevices-clause-read g c = λ four. absurd (c.list_rule_devices.ensures.not_read four)

pub returns-in-ListRuleDevices-clause-written : goal.returns-in-ListRuleDevices-clause-written
returns-in-ListRuleDevices-clause-written g c = c.list_rule_devices.ensures.written

pub returns-in-ListRuleDevices-clause-link : goal.returns-in-ListRuleDevices-clause-link
returns-in-ListRuleDevices-clause-link g c = rw c.in-ListRuleDevices.is (λ e. let none : ⊥ = cc in absurd none)

pub returns-in-ChangeParameter-clause-read : goal.returns-in-ChangeParameter-clause-read
returns-in-ChangeParameter-clause-read g c = λ four. absurd (c.change_parameter.ensures.not_read four)

pub returns-in-ChangeParameter-clause-written : goal.returns-in-ChangeParameter-clause-written
returns-in-ChangeParameter-clause-written g c = c.change_parameter.ensures.written

pub returns-in-ChangeParameter-clause-link : goal.returns-in-ChangeParameter-clause-link
returns-in-ChangeParameter-clause-link g c = rw c.in-ChangeParameter.is (λ e. let none : ⊥ = cc in absurd none)

pub returns-in-WatchWaiting-clause-read : goal.returns-in-WatchWaiting-clause-read
returns-in-WatchWaiting-clause-read g c = λ four. absurd (c.watch_daemon-in-WatchWaiting.ensures.not_read four)

pub returns-in-WatchWaiting-clause-written : goal.returns-in-WatchWaiting-clause-written
returns-in-WatchWaiting-clause-written g c = c.watch_daemon-in-WatchWaiting.ensures.written

pub returns-in-WatchWaiting-clause-link : goal.returns-in-WatchWaiting-clause-link
returns-in-WatchWaiting-clause-link g c = rw c.in-WatchWaiting.is (λ e. let none : ⊥ = cc in absurd none)
