-- What is said of judging by the rules that are found, and without them.
use Rattle.std.specs.Prelude.{◌≡◌, ℕ, ◌<◌, ◌^◌, List}
use Rattle.rand_core.specs.Stream.{Stream, next_u64}
use Rattle.ug_types.specs.declared.record.DeviceRecord.{DeviceRecord}
use Rattle.ug_types.specs.declared.rule.Rule.{Rule}
use Rattle.ug_types.specs.declared.verdict.Target.{Target}
use Rattle.ug_cond.specs.declared.context.Context.{Context}
use Rattle.ug_cond.specs.Words.{behind}
use Rattle.ug_policy.specs.declared.entry.RuleEntry.{RuleEntry}
use Rattle.ug_policy.specs.Deciding.{Found, IsDecider, decider, find_decider, judgement_found, reached, rules_judged, words_taken}
use Rattle.ug_policy.specs.Matching.{answer_by}
use Rattle.ug_policy.specs.Rules.{rules_in}
use Rattle.ug_lint.specs.Remaining.{remaining_entries}

-- the words that a generator gives have 64 bits
abbrev pub HasWords : Stream → Type 0
HasWords stream = (n : ℕ) → (next_u64 (behind n stream)).0 < 2 ^ 64

-- for no device, moment, second of the day, allowed devices, histories and words does the rule at
-- that place decide
abbrev pub NeverDecides : List Rule → ℕ → Type 0
NeverDecides rules place =
    (dev : DeviceRecord) (ctx : Context) (records : List DeviceRecord) (entries : List RuleEntry)
    (stream : Stream) (e : RuleEntry)
    → rules_in entries ≡ rules → HasWords stream
    → ¬ IsDecider dev ctx records entries stream place e

-- two lists of rules judge a device alike: the answer, the rule that decides, the rules that were
-- evaluated, and how many words were taken
pub record JudgeAlike (dev : DeviceRecord) (ctx : Context) (one other : Found) : Type 0 where
  pub answer : (implicit : Target)
      → answer_by implicit (decider one) ≡ answer_by implicit (decider other)
  pub decider : decider one ≡ decider other
  pub judgement : judgement_found dev ctx.moment one ≡ judgement_found dev ctx.moment other
  pub words : words_taken dev (reached one) ≡ words_taken dev (reached other)

-- the rules that remain judge each device as all of them do, and have the same histories after it
pub record PrunedAlike (dev : DeviceRecord) (ctx : Context) (records : List DeviceRecord)
    (entries : List RuleEntry) (stream : Stream) : Type 0 where
  pub alike : JudgeAlike dev ctx (find_decider dev ctx records (remaining_entries entries) stream)
      (find_decider dev ctx records entries stream)
  pub later : rules_judged dev ctx.moment
      (find_decider dev ctx records (remaining_entries entries) stream)
      ≡ remaining_entries
      (rules_judged dev ctx.moment (find_decider dev ctx records entries stream))
