-- The rule that decides.
use Rattle.std.specs.Prelude.{List, [], ◌∷◌, Bool, if◌then◌else◌, nat_le, Option, Some, None, find}
use Rattle.ug_types.specs.declared.record.DeviceRecord.{DeviceRecord}
use Rattle.ug_types.specs.declared.verdict.Cause.{Cause}
use Rattle.ug_types.specs.declared.verdict.Cause.TheVariants as cause
use Rattle.ug_types.specs.declared.verdict.Moment.{Moment}
use Rattle.ug_types.specs.declared.verdict.Target.{Target}
use Rattle.ug_match.specs.Queries.{query_matches}
use Rattle.ug_policy.specs.declared.entry.RuleEntry.{RuleEntry}

abbrev pub matched : DeviceRecord → RuleEntry → Bool
matched dev e = query_matches e.rule.query dev

-- the verdict of the rule that decides, if one does
abbrev pub answer_by : Target → Option RuleEntry → Target × Cause
answer_by implicit None = (implicit, cause.Implicit)
answer_by implicit (Some e) = (e.rule.target, cause.Rule e.id)

abbrev pub answered : DeviceRecord → Target → List RuleEntry → Target × Cause
answered dev implicit entries = answer_by implicit (find (matched dev) entries)

-- the greater of a kept moment and another
abbrev pub greatest : Option Moment → Moment → Moment
greatest None moment = moment
greatest (Some kept) moment = if nat_le kept.0 moment.0 then moment else kept

-- the rule was evaluated and applied at that moment
abbrev pub rule_noted : Moment → RuleEntry → RuleEntry
rule_noted moment e =
    record e {
      history = record {
        evaluated = Some (greatest e.history.evaluated moment);
        applied = Some (greatest e.history.applied moment);
      };
    }

-- the rules, of which the one that decides was noted
abbrev pub judged : DeviceRecord → Moment → List RuleEntry → List RuleEntry
judged dev moment [] = []
judged dev moment (e ∷ entries) =
    if matched dev e then rule_noted moment e ∷ entries else e ∷ judged dev moment entries
