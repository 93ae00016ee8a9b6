-- How a verdict is found, case by case.
use Rattle.std.specs.Prelude.{◌≡◌, ℕ, Bool, true, false, List}
use Rattle.ug_types.specs.declared.record.DeviceRecord.{DeviceRecord}
use Rattle.ug_types.specs.declared.record.Judged.{Judged}
use Rattle.ug_types.specs.declared.record.Judged.TheVariants as judged
use Rattle.ug_types.specs.declared.verdict.Target.{Target}
use Rattle.ug_types.specs.declared.verdict.Target.TheVariants as target
use Rattle.ug_types.specs.declared.verdict.Cause.{Cause}
use Rattle.ug_types.specs.declared.verdict.Cause.TheVariants as cause
use Rattle.ug_policy.specs.declared.entry.RuleEntry.{RuleEntry}
use Rattle.ug_policy.specs.Deciding.{IsDecider, HasNoDecider}
use Rattle.ug_cond.specs.Judgements.{Judgement}
use Rattle.ug_cond.specs.Words.{behind}
use Rattle.ug_policy.specs.Kept.{StandsFor}
use Rattle.ug_policy.specs.Rules.{IsNumbered}
use Rattle.ug_conf.specs.declared.settings.Present.TheVariants as present
use Rattle.ug_ruleset.specs.RuleFile.{as_given}
use Rattle.ug_core.specs.Policy.{Judging, cause_for, choice_for}

-- The verdict on a device that is or isn't a root hub, was or wasn't there at the start, and is on
-- or off, beside the records of those devices that are allowed.
pub data IsVerdict (p : Judging) (records : List DeviceRecord) : Judged → Bool → Bool → Bool
    → Target → Cause → Type 0 where
  -- a device whose descriptors can't be read is blocked
  Unreadable : (kind place : ℕ) (controller was on : Bool)
      → IsVerdict p records (judged.Malformed kind place) controller was on target.Block
      (cause.Malformed kind place)
  -- the settings for devices of its class decide
  Allowed : (dev : DeviceRecord) (controller was on : Bool)
      → choice_for p.classes controller was ≡ present.Allow
      → IsVerdict p records (judged.Good dev) controller was on target.Allow (cause_for was)
  Blocked : (dev : DeviceRecord) (controller was on : Bool)
      → choice_for p.classes controller was ≡ present.Block
      → IsVerdict p records (judged.Good dev) controller was on target.Block (cause_for was)
  Rejected : (dev : DeviceRecord) (controller was on : Bool)
      → choice_for p.classes controller was ≡ present.Reject
      → IsVerdict p records (judged.Good dev) controller was on target.Reject (cause_for was)
  -- or they say that it keeps what it had
  KeptOn : (dev : DeviceRecord) (controller was : Bool)
      → choice_for p.classes controller was ≡ present.Keep
      → IsVerdict p records (judged.Good dev) controller was true target.Allow cause.Keep
  KeptOff : (dev : DeviceRecord) (controller was : Bool)
      → choice_for p.classes controller was ≡ present.Keep
      → IsVerdict p records (judged.Good dev) controller was false target.Block cause.Keep
  -- or that the rules are asked: the first in the list decides that matches and whose conditions
  -- hold
  ByRule : (dev : DeviceRecord) (controller was on : Bool) (place : ℕ) (entry : RuleEntry)
      → choice_for p.classes controller was ≡ present.Apply
      → IsDecider dev p.ctx records p.rules p.stream place entry
      → IsVerdict p records (judged.Good dev) controller was on entry.rule.target
      (cause.Rule entry.id)
  -- and where none does, the implicit target
  ByNone : (dev : DeviceRecord) (controller was on : Bool)
      → choice_for p.classes controller was ≡ present.Apply
      → HasNoDecider dev p.ctx records p.rules p.stream
      → IsVerdict p records (judged.Good dev) controller was on p.classes.implicit cause.Implicit

-- What judges has given verdicts since: but for their histories the rules are the same, and so are
-- the settings, the next id and the clock; random conditions have taken so many words, and the
-- histories stand for those judgements.
pub record IsLater (policy : Judging) (words : ℕ) (judgements : List Judgement) (p : Judging) : Type
    0 where
  pub classes : p.classes ≡ policy.classes
  pub rules : as_given p.rules ≡ policy.rules
  pub next : p.next ≡ policy.next
  pub clock : p.clock ≡ policy.clock
  pub stream : p.stream ≡ behind words policy.stream
  pub numbered : IsNumbered p.rules p.next
  pub histories : StandsFor p.rules p.next judgements
