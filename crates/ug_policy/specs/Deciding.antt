-- The rule that decides, by its attributes and its conditions.
use Rattle.std.specs.Prelude.{◌≡◌, ℕ, ◌+◌, ◌<◌, List, [], ◌∷◌, ◌++◌, Bool, true, ◌&&◌, if◌then◌else◌, IsTrue, Option, Some, None, map, filter, take, slice_get}
use Rattle.std.specs.Option.{option_map}
use Rattle.rand_core.specs.Stream.{Stream}
use Rattle.ug_types.specs.declared.record.DeviceRecord.{DeviceRecord}
use Rattle.ug_types.specs.declared.rule.Conds.{Conds}
use Rattle.ug_types.specs.declared.verdict.Cause.{Cause}
use Rattle.ug_types.specs.declared.verdict.Moment.{Moment}
use Rattle.ug_types.specs.declared.verdict.Target.{Target}
use Rattle.ug_cond.specs.declared.context.Context.{Context}
use Rattle.ug_cond.specs.declared.history.History.{History}
use Rattle.ug_cond.specs.Conditions.{conditions_hold}
use Rattle.ug_cond.specs.Judgements.{Judgement}
use Rattle.ug_cond.specs.Truth.{ConditionsHold}
use Rattle.ug_cond.specs.Words.{behind, random_count, words_of}
use Rattle.ug_policy.specs.declared.entry.RuleEntry.{RuleEntry}
use Rattle.ug_policy.specs.Matching.{answer_by, matched, greatest, rule_noted}
use Rattle.ug_policy.specs.Rules.{ids}

-- how many words the conditions of a rule take
abbrev pub conditions_take : Option Conds → ℕ
conditions_take None = 0
conditions_take (Some conds) = random_count conds.items

-- a rule that is reached takes words only where it matches
abbrev pub rule_takes : DeviceRecord → RuleEntry → ℕ
rule_takes dev e = if matched dev e then conditions_take e.rule.conds else 0

-- how many words are taken where these rules are reached
abbrev pub words_taken : DeviceRecord → List RuleEntry → ℕ
words_taken dev [] = 0
words_taken dev (e ∷ entries) = rule_takes dev e + words_taken dev entries

-- a rule without conditions always holds
abbrev pub rule_conditions_hold : History → Context → List DeviceRecord → Option Conds → List ℕ
    → Bool
rule_conditions_hold history ctx records None words = true
rule_conditions_hold history ctx records (Some conds) words =
    conditions_hold history ctx records conds words

-- the conditions of a rule hold with the next words of a generator
abbrev pub rule_holds : Context → List DeviceRecord → RuleEntry → Stream → Bool
rule_holds ctx records e stream =
    rule_conditions_hold e.history ctx records e.rule.conds
    (words_of (conditions_take e.rule.conds) stream)

-- the same by all judgements since the start
abbrev pub RuleConditionsHold : List Judgement → ℕ → Context → List DeviceRecord → Option Conds
    → List ℕ → Type 0
RuleConditionsHold judgements id ctx records None words = Unit {0}
RuleConditionsHold judgements id ctx records (Some conds) words =
    ConditionsHold judgements id ctx records conds words

abbrev pub RuleHolds : List Judgement → Context → List DeviceRecord → RuleEntry → Stream → Type 0
RuleHolds judgements ctx records e stream =
    RuleConditionsHold judgements e.id ctx records e.rule.conds
    (words_of (conditions_take e.rule.conds) stream)

-- a rule decides where it matches and its conditions hold
abbrev pub decides : DeviceRecord → Context → List DeviceRecord → RuleEntry → Stream → Bool
decides dev ctx records e stream = matched dev e && rule_holds ctx records e stream

-- the rule at that place decides, with the words behind those of the rules
-- before it, and none before it does
pub record IsDecider (dev : DeviceRecord) (ctx : Context) (records : List DeviceRecord)
    (entries : List RuleEntry) (stream : Stream) (place : ℕ) (entry : RuleEntry) : Type 0 where
  pub there : slice_get entries place ≡ Some entry
  pub deciding : IsTrue
      (decides dev ctx records entry (behind (words_taken dev (take place entries)) stream))
  pub first : (k : ℕ) (e : RuleEntry) → k < place → slice_get entries k ≡ Some e
      → ¬ IsTrue (decides dev ctx records e (behind (words_taken dev (take k entries)) stream))

-- no rule decides
abbrev pub HasNoDecider : DeviceRecord → Context → List DeviceRecord → List RuleEntry → Stream
    → Type 0
HasNoDecider dev ctx records entries stream =
    (k : ℕ) (e : RuleEntry) → slice_get entries k ≡ Some e
    → ¬ IsTrue (decides dev ctx records e (behind (words_taken dev (take k entries)) stream))

-- the rules before the one that decides, and that one with those behind it; all
-- rules, and none, where none decides
pub record Found : Type 0 where
  pub before : List RuleEntry
  pub rest : List RuleEntry

abbrev pub put_before : RuleEntry → Found → Found
put_before e f = record { before = e ∷ f.before; rest = f.rest }

abbrev pub find_decider : DeviceRecord → Context → List DeviceRecord → List RuleEntry → Stream
    → Found
find_decider dev ctx records [] stream = record { before = []; rest = [] }
find_decider dev ctx records (e ∷ entries) stream =
    if decides dev ctx records e stream then record { before = []; rest = e ∷ entries }
    else put_before e (find_decider dev ctx records entries (behind (rule_takes dev e) stream))

-- the rules that are reached: up to the one that decides, or all
abbrev pub reached : Found → List RuleEntry
reached f = f.before ++ take 1 f.rest

-- the rule that decides, if one does
abbrev pub decider : Found → Option RuleEntry
decider f = slice_get f.rest 0

-- where it matches, the rule was evaluated at that moment
abbrev pub seen : DeviceRecord → Moment → RuleEntry → RuleEntry
seen dev moment e =
    if matched dev e then record e {
      history =
          record e.history { evaluated = Some (greatest e.history.evaluated moment) };
    }
    else e

abbrev pub noted_first : Moment → List RuleEntry → List RuleEntry
noted_first moment [] = []
noted_first moment (e ∷ entries) = rule_noted moment e ∷ entries

-- the rules after a judgement
abbrev pub rules_judged : DeviceRecord → Moment → Found → List RuleEntry
rules_judged dev moment f = map (seen dev moment) f.before ++ noted_first moment f.rest

-- the judgement: the rules that were reached and matched were evaluated
abbrev pub judgement_found : DeviceRecord → Moment → Found → Judgement
judgement_found dev moment f = record {
  moment = moment;
  evaluated = ids (filter (matched dev) (reached f));
  applied = option_map (λ (e : RuleEntry). e.id) (decider f);
}

-- A device is judged beside the records of those that are allowed: by the first of the rules that
-- matches it and whose conditions hold
-- with the next words, or by the implicit target. The rules that were evaluated have the moment in
-- their histories, and their words
-- are taken.
pub record Judges (dev : DeviceRecord) (ctx : Context) (records : List DeviceRecord)
    (implicit : Target) (rules : List RuleEntry) (stream : Stream) (verdict : Target × Cause)
    (later : List RuleEntry) (left : Stream) : Type 0 where
  pub answer : verdict ≡ answer_by implicit (decider (find_decider dev ctx records rules stream))
  pub entries : later ≡ rules_judged dev ctx.moment (find_decider dev ctx records rules stream)
  pub words : left
      ≡ behind (words_taken dev (reached (find_decider dev ctx records rules stream))) stream
