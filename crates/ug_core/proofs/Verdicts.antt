-- From what the rules come to, to the cases of a verdict and back; and what judging leaves.
use Rattle.std.proofs.Common.{◌≡◌, ℕ, ◌+◌, Bool, true, false, is_none, List, [], ◌∷◌, ◌++◌, inl, inr, refl, sym, ◌∙◌, ap, subst, arith, append_assoc, append-nil}
use Rattle.ug_types.specs.Names.{parent_of}
use Rattle.ug_types.specs.declared.record.DeviceRecord.{DeviceRecord}
use Rattle.ug_types.specs.declared.record.Judged.{Judged}
use Rattle.ug_types.specs.declared.record.Judged.TheVariants as judged
use Rattle.ug_types.specs.declared.verdict.Target.{Target}
use Rattle.ug_types.specs.declared.verdict.Cause.{Cause}
use Rattle.ug_cond.specs.Judgements.{Judgement}
use Rattle.ug_policy.specs.declared.entry.RuleEntry.{RuleEntry}
use Rattle.rand_core.specs.Stream.{Stream}
use Rattle.ug_cond.specs.Words.{behind}
use Rattle.ug_policy.specs.Deciding.{Found, decider, reached, words_taken, rules_judged, judgement_found}
use Rattle.ug_policy.specs.Kept.{StandsFor}
use Rattle.ug_policy.specs.Matching.{answer_by}
use Rattle.ug_policy.specs.Rules.{IsNumbered}
use Rattle.ug_policy.proofs.Finding.{behind_add, some_decider, outcome_at, outcome_none, whole_list, first_matches, numbered_found}
use Rattle.ug_policy.proofs.Stands.{stands_found}
use Rattle.ug_conf.specs.declared.settings.Present.{Present}
use Rattle.ug_conf.specs.declared.settings.Present.TheVariants as present
use Rattle.ug_ruleset.specs.RuleFile.{as_given}
use Rattle.ug_ruleset.proofs.Given.{given_judged}
use Rattle.ug_core.specs.Policy.{Judging, found_for, kept, choice_for, by_choice, by_class, verdict_of, asks, rules_if, stream_if, judgements_if, judgements_of, later_of, words_if, words_needed}
use Rattle.ug_core.specs.Changes.{changed_by}
use Rattle.ug_core.specs.Rulings.{CanTake, Changed, PolicyStep, Ruled, after_ruling, after_steps, at_moment, changed_alone, judgements_for, words_for}
use Rattle.ug_core.proofs.Changed.{later_changed}
use Rattle.ug_table.specs.Allowed.{allowed_records}
use Rattle.ug_core.specs.Verdicts.{IsVerdict, IsLater, Unreadable, Allowed, Blocked, Rejected, KeptOn, KeptOff, ByRule, ByNone}

-- the rules stay as they were given

given_found : (p : Judging) (records : List DeviceRecord) (dev : DeviceRecord) → as_given (rules_judged dev p.ctx.moment (found_for p records dev)) ≡ as_given p.rules
given_found p records dev = given_judged dev p.ctx.moment (found_for p records dev) ∙ ap as_given (whole_list dev p.ctx records p.rules p.stream)

given_class : (p : Judging) (records : List DeviceRecord) (dev : DeviceRecord) (asked : Bool) → as_given (rules_if asked p.rules (found_for p records dev) dev p.ctx.moment) ≡ as_given p.rules
given_class p records dev true = given_found p records dev
given_class p records dev false = refl

pub rules_stay : (p : Judging) (records : List DeviceRecord) (dev : Judged) (controller was : Bool) → as_given (later_of p records dev controller was).rules ≡ as_given p.rules
rules_stay p records (judged.Malformed kind place) controller was = refl
rules_stay p records (judged.Good dev) controller was = given_class p records dev (asks p.classes controller was)

-- and are numbered as they were

numbered_rules : (p : Judging) (records : List DeviceRecord) (dev : DeviceRecord) → IsNumbered p.rules p.next → IsNumbered (rules_judged dev p.ctx.moment (found_for p records dev)) p.next
numbered_rules p records dev n = numbered_found dev p.ctx.moment (found_for p records dev) p.next (subst (λ (v : List RuleEntry). IsNumbered v p.next) (sym (whole_list dev p.ctx records p.rules p.stream)) n)

numbered_class : (p : Judging) (records : List DeviceRecord) (dev : DeviceRecord) (asked : Bool) → IsNumbered p.rules p.next → IsNumbered (rules_if asked p.rules (found_for p records dev) dev p.ctx.moment) p.next
numbered_class p records dev true n = numbered_rules p records dev n
numbered_class p records dev false n = n

numbered_later : (p : Judging) (records : List DeviceRecord) (dev : Judged) (controller was : Bool) → IsNumbered p.rules p.next → IsNumbered (later_of p records dev controller was).rules p.next
numbered_later p records (judged.Malformed kind place) controller was n = n
numbered_later p records (judged.Good dev) controller was n = numbered_class p records dev (asks p.classes controller was) n

-- the histories stand for one judgement more

abbrev Stands : Judging → List RuleEntry → List Judgement → Type 0
Stands p rules js = StandsFor rules p.next js

stands_rules : (p : Judging) (records : List DeviceRecord) (dev : DeviceRecord) (js : List Judgement) → IsNumbered p.rules p.next → Stands p p.rules js → Stands p (rules_judged dev p.ctx.moment (found_for p records dev)) (js ++ judgement_found dev p.ctx.moment (found_for p records dev) ∷ [])
stands_rules p records dev js n s =
    let f : Found = found_for p records dev in
    let whole : p.rules ≡ f.before ++ f.rest = sym (whole_list dev p.ctx records p.rules p.stream) in
    stands_found dev p.ctx.moment p.next js f (subst (λ (v : List RuleEntry). IsNumbered v p.next) whole n) (first_matches dev p.ctx records p.rules p.stream) (subst (λ (v : List RuleEntry). StandsFor v p.next js) whole s)

stands_class : (p : Judging) (records : List DeviceRecord) (dev : DeviceRecord) (asked : Bool) (js : List Judgement) → IsNumbered p.rules p.next → Stands p p.rules js → Stands p (rules_if asked p.rules (found_for p records dev) dev p.ctx.moment) (js ++ judgements_if asked (found_for p records dev) dev p.ctx.moment)
stands_class p records dev true js n s = stands_rules p records dev js n s
stands_class p records dev false js n s = subst (λ (v : List Judgement). Stands p p.rules v) (sym (append-nil js)) s

pub stands_later : (p : Judging) (records : List DeviceRecord) (dev : Judged) (controller was : Bool) (js : List Judgement) → IsNumbered p.rules p.next → StandsFor p.rules p.next js → StandsFor (later_of p records dev controller was).rules p.next (js ++ judgements_of p records dev controller was)
stands_later p records (judged.Malformed kind place) controller was js n s = subst (λ (v : List Judgement). Stands p p.rules v) (sym (append-nil js)) s
stands_later p records (judged.Good dev) controller was js n s = stands_class p records dev (asks p.classes controller was) js n s

-- a verdict is one of its cases

abbrev IsAnswer : Judging → List DeviceRecord → Judged → Bool → Bool → Bool → Target × Cause → Type 0
IsAnswer p records dev controller was on a = IsVerdict p records dev controller was on a.0 a.1

rules_case : (p : Judging) (records : List DeviceRecord) (dev : DeviceRecord) (controller was on : Bool) → choice_for p.classes controller was ≡ present.Apply → IsAnswer p records (judged.Good dev) controller was on (answer_by p.classes.implicit (decider (found_for p records dev)))
rules_case p records dev controller was on asked = elim (some_decider dev p.ctx records p.rules p.stream) [
  | inl d ↦ subst (λ (a : Target × Cause). IsAnswer p records (judged.Good dev) controller was on a) (sym (outcome_at dev p.ctx records p.classes.implicit p.rules p.stream d.0 d.1 d.2).0) (ByRule dev controller was on d.0 d.1 asked d.2)
  | inr n ↦ subst (λ (a : Target × Cause). IsAnswer p records (judged.Good dev) controller was on a) (sym (outcome_none dev p.ctx records p.classes.implicit p.rules p.stream n).0) (ByNone dev controller was on asked n)
]

kept_case : (p : Judging) (records : List DeviceRecord) (dev : DeviceRecord) (controller was on : Bool) → choice_for p.classes controller was ≡ present.Keep → IsAnswer p records (judged.Good dev) controller was on (kept on)
kept_case p records dev controller was true same = KeptOn dev controller was same
kept_case p records dev controller was false same = KeptOff dev controller was same

choice_case : (p : Judging) (records : List DeviceRecord) (dev : DeviceRecord) (controller was on : Bool) (choice : Present) → choice_for p.classes controller was ≡ choice → IsAnswer p records (judged.Good dev) controller was on (by_choice choice was on p.classes.implicit (found_for p records dev))
choice_case p records dev controller was on present.Allow same = Allowed dev controller was on same
choice_case p records dev controller was on present.Block same = Blocked dev controller was on same
choice_case p records dev controller was on present.Reject same = Rejected dev controller was on same
choice_case p records dev controller was on present.Keep same = kept_case p records dev controller was on same
choice_case p records dev controller was on present.Apply same = rules_case p records dev controller was on same

verdict_case : (p : Judging) (records : List DeviceRecord) (dev : Judged) (controller was on : Bool) → IsAnswer p records dev controller was on (verdict_of p records dev controller was on)
verdict_case p records (judged.Malformed kind place) controller was on = Unreadable kind place controller was on
verdict_case p records (judged.Good dev) controller was on = choice_case p records dev controller was on (choice_for p.classes controller was) refl

pub is_verdict : (p : Judging) (records : List DeviceRecord) (dev : Judged) (controller was on : Bool) (verdict : Target) (why : Cause) → verdict_of p records dev controller was on ≡ (verdict, why) → IsVerdict p records dev controller was on verdict why
is_verdict p records dev controller was on verdict why e = subst (λ (a : Target × Cause). IsAnswer p records dev controller was on a) e (verdict_case p records dev controller was on)

-- by what the settings say
chosen : (p : Judging) (found : Found) (controller was on : Bool) (choice : Present) → choice_for p.classes controller was ≡ choice → by_class p.classes found controller was on ≡ by_choice choice was on p.classes.implicit found
chosen p found controller was on choice same = ap (λ (c : Present). by_choice c was on p.classes.implicit found) same

pub verdict_is : (p : Judging) (records : List DeviceRecord) (dev : Judged) (controller was on : Bool) (verdict : Target) (why : Cause) → IsVerdict p records dev controller was on verdict why → verdict_of p records dev controller was on ≡ (verdict, why)
verdict_is p records _ _ _ _ _ _ (Unreadable kind place controller was on) = refl
verdict_is p records _ _ _ _ _ _ (Allowed dev controller was on same) = chosen p (found_for p records dev) controller was on present.Allow same
verdict_is p records _ _ _ _ _ _ (Blocked dev controller was on same) = chosen p (found_for p records dev) controller was on present.Block same
verdict_is p records _ _ _ _ _ _ (Rejected dev controller was on same) = chosen p (found_for p records dev) controller was on present.Reject same
verdict_is p records _ _ _ _ _ _ (KeptOn dev controller was same) = chosen p (found_for p records dev) controller was true present.Keep same
verdict_is p records _ _ _ _ _ _ (KeptOff dev controller was same) = chosen p (found_for p records dev) controller was false present.Keep same
verdict_is p records _ _ _ _ _ _ (ByRule dev controller was on place entry same d) = chosen p (found_for p records dev) controller was on present.Apply same ∙ (outcome_at dev p.ctx records p.classes.implicit p.rules p.stream place entry d).0
verdict_is p records _ _ _ _ _ _ (ByNone dev controller was on same n) = chosen p (found_for p records dev) controller was on present.Apply same ∙ (outcome_none dev p.ctx records p.classes.implicit p.rules p.stream n).0

-- what judges is later after a verdict

words_on : (found : Found) (dev : DeviceRecord) (stream start : Stream) (words : ℕ) (asked : Bool) → stream ≡ behind words start → stream_if asked stream found dev ≡ behind (words + words_if asked found dev) start
words_on found dev stream start words true e = ap (behind (words_taken dev (reached found))) e ∙ sym (behind_add words (words_taken dev (reached found)) start)
words_on found dev stream start words false e = let none : words ≡ words + 0 = omega arith in e ∙ ap (λ (n : ℕ). behind n start) none

more_none : (policy p : Judging) (words : ℕ) (judgements : List Judgement) → IsLater policy words judgements p → IsLater policy (words + 0) (judgements ++ []) p
more_none policy p words judgements h =
    let none : words ≡ words + 0 = omega arith in
    subst (λ (n : ℕ). IsLater policy n (judgements ++ []) p) none (subst (λ (js : List Judgement). IsLater policy words js p) (sym (append-nil judgements)) h)

pub later_verdict : (policy p : Judging) (words : ℕ) (judgements : List Judgement) (records : List DeviceRecord) (dev : Judged) (controller was : Bool) → IsLater policy words judgements p → IsLater policy (words + words_needed p records dev controller was) (judgements ++ judgements_of p records dev controller was) (later_of p records dev controller was)
later_verdict policy p words judgements records (judged.Malformed kind place) controller was h = more_none policy p words judgements h
later_verdict policy p words judgements records (judged.Good dev) controller was h = record {
  classes = h.classes;
  rules = rules_stay p records (judged.Good dev) controller was ∙ h.rules;
  next = h.next;
  clock = h.clock;
  stream = words_on (found_for p records dev) dev p.stream policy.stream words (asks p.classes controller was) h.stream;
  numbered = numbered_later p records (judged.Good dev) controller was h.numbered;
  histories = stands_later p records (judged.Good dev) controller was judgements h.numbered h.histories;
}

-- and after several, with changes among them
later_by : (policy p : Judging) (words : ℕ) (judgements : List Judgement) (steps : List PolicyStep) → IsLater policy words judgements p → CanTake p steps → IsLater (changed_alone policy steps) (words + words_for p steps) (judgements ++ judgements_for p steps) (after_steps p steps)
later_by policy p words judgements [] h can = more_none policy p words judgements h
later_by policy p words judgements (Ruled r ∷ steps) h can =
    let q : Judging = at_moment r.moment p in
    let records : List DeviceRecord = allowed_records r.standings in
    let controller : Bool = is_none (parent_of r.name) in
    let taken : ℕ = words_needed q records r.judged controller r.present in
    let new : List Judgement = judgements_of q records r.judged controller r.present in
    let at : IsLater policy words judgements q = record { classes = h.classes; rules = h.rules; next = h.next; clock = h.clock; stream = h.stream; numbered = h.numbered; histories = h.histories } in
    let rest = later_by policy (after_ruling p r) (words + taken) (judgements ++ new) steps (later_verdict policy q words judgements records r.judged controller r.present at) can in
    let sum : (words + taken) + words_for (after_ruling p r) steps ≡ words + (taken + words_for (after_ruling p r) steps) = omega arith in
    subst (λ (n : ℕ). IsLater (changed_alone policy steps) n (judgements ++ (new ++ judgements_for (after_ruling p r) steps)) (after_steps (after_ruling p r) steps)) sum
    (subst (λ (js : List Judgement). IsLater (changed_alone policy steps) ((words + taken) + words_for (after_ruling p r) steps) js (after_steps (after_ruling p r) steps)) (append_assoc judgements new (judgements_for (after_ruling p r) steps)) rest)
later_by policy p words judgements (Changed change ∷ steps) h can = later_by (changed_by change policy) (changed_by change p) words judgements steps (later_changed change policy p words judgements can.0 h) can.1

pub steps_later : (policy : Judging) (steps : List PolicyStep) → IsLater policy 0 [] policy → CanTake policy steps → IsLater (changed_alone policy steps) (words_for policy steps) (judgements_for policy steps) (after_steps policy steps)
steps_later policy steps h can =
    let sum : 0 + words_for policy steps ≡ words_for policy steps = omega arith in
    subst (λ (n : ℕ). IsLater (changed_alone policy steps) n (judgements_for policy steps) (after_steps policy steps)) sum (later_by policy policy 0 [] steps h can)
