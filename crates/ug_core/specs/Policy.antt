-- The verdict on a device that has none yet.
use Rattle.std.specs.Prelude.{ℕ, min, Bool, true, false, if◌then◌else◌, List, [], ◌∷◌}
use Rattle.rand_core.specs.Stream.{Stream}
use Rattle.ug_types.specs.declared.record.DeviceRecord.{DeviceRecord}
use Rattle.ug_types.specs.declared.record.Judged.{Judged}
use Rattle.ug_types.specs.declared.record.Judged.TheVariants as judged
use Rattle.ug_types.specs.declared.verdict.Moment.{Moment}
use Rattle.ug_types.specs.declared.verdict.Target.{Target}
use Rattle.ug_types.specs.declared.verdict.Target.TheVariants as target
use Rattle.ug_types.specs.declared.verdict.Cause.{Cause}
use Rattle.ug_types.specs.declared.verdict.Cause.TheVariants as cause
use Rattle.ug_cond.specs.declared.context.Context.{Context}
use Rattle.ug_cond.specs.Judgements.{Judgement}
use Rattle.ug_cond.specs.Words.{behind}
use Rattle.ug_policy.specs.declared.entry.RuleEntry.{RuleEntry}
use Rattle.ug_policy.specs.Deciding.{Found, find_decider, decider, reached, words_taken, rules_judged, judgement_found}
use Rattle.ug_policy.specs.Matching.{answer_by}
use Rattle.ug_table.specs.Allowed.{allowed_records}
use Rattle.ug_table.specs.State.{Answers, Laters}
use Rattle.ug_types.specs.declared.parameter.Inserted.{Inserted}
use Rattle.ug_types.specs.declared.parameter.Inserted.TheVariants as inserted
use Rattle.ug_conf.specs.declared.settings.Present.{Present}
use Rattle.ug_conf.specs.declared.settings.Present.TheVariants as present
use Rattle.ug_core.specs.declared.classes.Classes.{Classes}
use Rattle.ug_core.specs.declared.policy.Policy.{Policy}

-- what judges: the settings for each class of devices, the rules in order, the id of the next one,
-- the local clock, when a device is judged, and the words to come
pub record Judging : Type 0 where
  pub classes : Classes
  pub rules : List RuleEntry
  pub next : ℕ
  pub clock : ℕ → ℕ
  pub ctx : Context
  pub stream : Stream

-- what a policy judges by, where its zone has this clock and its generator gives these words
abbrev pub judging_of : {Z R : Type 0} → (Z → ℕ → ℕ) → (R → Stream) → Policy Z R → Judging
judging_of clock words p =
    record {
      classes = p.classes;
      rules = p.rules.entries;
      next = p.rules.next;
      clock = clock p.zone;
      ctx = p.ctx;
      stream = words p.rng;
    }

-- a moment, with its second of the local day; behind the last second that the calendar has, that
-- one counts
abbrev pub context_at : (ℕ → ℕ) → Moment → Context
context_at clock moment = record { moment = moment; second = clock (min moment.0 253402207200) }

-- what the rules come to for a device, beside the records of those that are allowed
abbrev pub found_for : Judging → List DeviceRecord → DeviceRecord → Found
found_for p records dev = find_decider dev p.ctx records p.rules p.stream

-- what is done with a device that is inserted
abbrev pub choice_of : Inserted → Present
choice_of inserted.Block = present.Block
choice_of inserted.Reject = present.Reject
choice_of inserted.Apply = present.Apply

-- what the settings say of a root hub or of another device, that was or wasn't there at the start
abbrev pub choice_for : Classes → Bool → Bool → Present
choice_for classes true true = classes.present_controller
choice_for classes false true = classes.present_device
choice_for classes controller false = choice_of classes.inserted

abbrev pub cause_for : Bool → Cause
cause_for true = cause.Present
cause_for false = cause.Inserted

-- what it had is kept
abbrev pub kept : Bool → Target × Cause
kept on = if on then (target.Allow, cause.Keep) else (target.Block, cause.Keep)

-- the settings decide, or what it had does, or the rules, and the implicit target where none of
-- them does
abbrev pub by_choice : Present → Bool → Bool → Target → Found → Target × Cause
by_choice present.Allow was on implicit found = (target.Allow, cause_for was)
by_choice present.Block was on implicit found = (target.Block, cause_for was)
by_choice present.Reject was on implicit found = (target.Reject, cause_for was)
by_choice present.Keep was on implicit found = kept on
by_choice present.Apply was on implicit found = answer_by implicit (decider found)

abbrev pub by_class : Classes → Found → Bool → Bool → Bool → Target × Cause
by_class classes found controller was on =
    by_choice (choice_for classes controller was) was on classes.implicit found

-- a malformed device is blocked
abbrev pub verdict_of : Judging → List DeviceRecord → Judged → Bool → Bool → Bool → Target × Cause
verdict_of p records (judged.Malformed kind place) controller was on =
    (target.Block, cause.Malformed kind place)
verdict_of p records (judged.Good dev) controller was on =
    by_class p.classes (found_for p records dev) controller was on

-- the rules are asked
abbrev pub is_apply : Present → Bool
is_apply present.Allow = false
is_apply present.Block = false
is_apply present.Reject = false
is_apply present.Keep = false
is_apply present.Apply = true

abbrev pub asks : Classes → Bool → Bool → Bool
asks classes controller was = is_apply (choice_for classes controller was)

-- where the rules are asked, those that are evaluated have the moment in their histories
abbrev pub rules_if : Bool → List RuleEntry → Found → DeviceRecord → Moment → List RuleEntry
rules_if asked rules found dev moment = if asked then rules_judged dev moment found else rules

-- and their random conditions have taken their words
abbrev pub stream_if : Bool → Stream → Found → DeviceRecord → Stream
stream_if asked stream found dev =
    if asked then behind (words_taken dev (reached found)) stream else stream

-- how many words a verdict takes
abbrev pub words_if : Bool → Found → DeviceRecord → ℕ
words_if asked found dev = if asked then words_taken dev (reached found) else 0

abbrev pub words_needed : Judging → List DeviceRecord → Judged → Bool → Bool → ℕ
words_needed p records (judged.Malformed kind place) controller was = 0
words_needed p records (judged.Good dev) controller was =
    words_if (asks p.classes controller was) (found_for p records dev) dev

abbrev pub later_of : Judging → List DeviceRecord → Judged → Bool → Bool → Judging
later_of p records (judged.Malformed kind place) controller was = p
later_of p records (judged.Good dev) controller was = record p {
  rules =
      rules_if (asks p.classes controller was) p.rules (found_for p records dev) dev p.ctx.moment;
  stream = stream_if (asks p.classes controller was) p.stream (found_for p records dev) dev;
}

abbrev pub judgements_if : Bool → Found → DeviceRecord → Moment → List Judgement
judgements_if asked found dev moment = if asked then judgement_found dev moment found ∷ [] else []

-- the judgement by rules that a verdict is, where the rules are asked
abbrev pub judgements_of : Judging → List DeviceRecord → Judged → Bool → Bool → List Judgement
judgements_of p records (judged.Malformed kind place) controller was = []
judgements_of p records (judged.Good dev) controller was =
    judgements_if (asks p.classes controller was) (found_for p records dev) dev p.ctx.moment

abbrev pub policy_answer : Answers Judging
policy_answer p dev controller was on ss = verdict_of p (allowed_records ss) dev controller was on

abbrev pub policy_later : Laters Judging
policy_later p dev controller was on ss = later_of p (allowed_records ss) dev controller was
