-- Judging leaves the rules as they were given.
use Rattle.std.proofs.Common.{◌≡◌, Bool, true, false, cond, List, [], ◌∷◌, ◌++◌, Some, refl, sym, ◌∙◌, ap, subst}
use Rattle.std.specs.Prelude.{All, map}
use Rattle.rand_core.specs.Stream.{Stream}
use Rattle.ug_types.specs.declared.record.DeviceRecord.{DeviceRecord}
use Rattle.ug_types.specs.declared.rule.Rule.{Rule}
use Rattle.ug_types.specs.declared.verdict.Moment.{Moment}
use Rattle.ug_cond.specs.declared.context.Context.{Context}
use Rattle.ug_policy.specs.Deciding.{Found, find_decider, noted_first, rules_judged, seen}
use Rattle.ug_policy.specs.Edits.{new_entry}
use Rattle.ug_policy.specs.Matching.{greatest, matched}
use Rattle.ug_policy.specs.declared.entry.RuleEntry.{RuleEntry}
use Rattle.ug_policy.proofs.Finding.{whole_list}
use Rattle.ug_print.specs.RuleTexts.{rules_text_of}
use Rattle.ug_ruleset.specs.RuleFile.{CanSave, IsSaveable, ReadsBack, as_given, permanent_rules, permanent_text, saved_of}
use Rattle.ug_policy.specs.Rules.{rules_in}

abbrev given : RuleEntry → RuleEntry
given e = new_entry e.id e.rule e.mark

pub given_append : (es fs : List RuleEntry) → as_given (es ++ fs) ≡ as_given es ++ as_given fs
given_append [] fs = refl
given_append (e ∷ es) fs = ap (λ (v : List RuleEntry). new_entry e.id e.rule e.mark ∷ v) (given_append es fs)

given_seen : (dev : DeviceRecord) (moment : Moment) (es : List RuleEntry) → as_given (map (seen dev moment) es) ≡ as_given es
given_seen dev moment [] = refl
given_seen dev moment (e ∷ es) = elim (matched dev e) as (λ (b : Bool). given (cond b (record e { history = record e.history { evaluated = Some (greatest e.history.evaluated moment) } }) e) ∷ as_given (map (seen dev moment) es) ≡ given e ∷ as_given es) [ true ↦ ap (λ (v : List RuleEntry). given e ∷ v) (given_seen dev moment es) | false ↦ ap (λ (v : List RuleEntry). given e ∷ v) (given_seen dev moment es) ]

given_noted : (moment : Moment) (es : List RuleEntry) → as_given (noted_first moment es) ≡ as_given es
given_noted moment [] = refl
given_noted moment (e ∷ es) = refl

pub given_judged : (dev : DeviceRecord) (moment : Moment) (f : Found) → as_given (rules_judged dev moment f) ≡ as_given (f.before ++ f.rest)
given_judged dev moment f =
    given_append (map (seen dev moment) f.before) (noted_first moment f.rest)
    ∙ ap (λ (v : List RuleEntry). v ++ as_given (noted_first moment f.rest)) (given_seen dev moment f.before)
    ∙ ap (λ (v : List RuleEntry). as_given f.before ++ v) (given_noted moment f.rest)
    ∙ sym (given_append f.before f.rest)

-- which are all that is read and saved

rules_in_given : (es : List RuleEntry) → rules_in (as_given es) ≡ rules_in es
rules_in_given [] = refl
rules_in_given (e ∷ es) = ap (λ (rs : List Rule). e.rule ∷ rs) (rules_in_given es)

pub permanent_given : (es : List RuleEntry) → permanent_rules (as_given es) ≡ permanent_rules es
permanent_given [] = refl
permanent_given (e ∷ es) = ap (λ (rs : List Rule). saved_of e ++ rs) (permanent_given es)

pub text_given : (es : List RuleEntry) → permanent_text (as_given es) ≡ permanent_text es
text_given es = ap (λ (rs : List Rule). rules_text_of rs) (permanent_given es)

judged_given : (dev : DeviceRecord) (ctx : Context) (records : List DeviceRecord) (es : List RuleEntry) (stream : Stream) → as_given (rules_judged dev ctx.moment (find_decider dev ctx records es stream)) ≡ as_given es
judged_given dev ctx records es stream = given_judged dev ctx.moment (find_decider dev ctx records es stream) ∙ ap as_given (whole_list dev ctx records es stream)

pub judged_reads : (dev : DeviceRecord) (ctx : Context) (records : List DeviceRecord) (es : List RuleEntry) (stream : Stream) → All ReadsBack (rules_in es) → All ReadsBack (rules_in (rules_judged dev ctx.moment (find_decider dev ctx records es stream)))
judged_reads dev ctx records es stream h =
    let judged = rules_judged dev ctx.moment (find_decider dev ctx records es stream) in
    subst (All ReadsBack) (sym (rules_in_given es) ∙ ap (λ (v : List RuleEntry). rules_in v) (sym (judged_given dev ctx records es stream)) ∙ rules_in_given judged) h

pub judged_saves : (dev : DeviceRecord) (ctx : Context) (records : List DeviceRecord) (es : List RuleEntry) (stream : Stream) → IsSaveable es → IsSaveable (rules_judged dev ctx.moment (find_decider dev ctx records es stream))
judged_saves dev ctx records es stream h =
    let judged = rules_judged dev ctx.moment (find_decider dev ctx records es stream) in
    subst CanSave (sym (permanent_given es) ∙ ap (λ (v : List RuleEntry). permanent_rules v) (sym (judged_given dev ctx records es stream)) ∙ permanent_given judged) h
