-- Where no rule has an `allowed-matches` condition, a policy looks at no standings, now and behind any verdicts.
use Rattle.std.proofs.Common.{◌≡◌, Bool, true, false, ◌&&◌, ◌||◌, List, [], ◌∷◌, ◌++◌, take, inl, inr, refl, sym, ◌∙◌, ap, subst}
use Rattle.std.specs.List.{list_any}
use Rattle.ug_types.specs.Elements.{Has}
use Rattle.ug_types.specs.declared.record.DeviceRecord.{DeviceRecord}
use Rattle.ug_types.specs.declared.record.Judged.{Judged}
use Rattle.ug_types.specs.declared.record.Judged.TheVariants as judged
use Rattle.ug_types.proofs.Elements.{has_left, has_right, has_cases, map_has, has_map}
use Rattle.ug_policy.specs.Asking.{conditions_ask, rule_asks}
use Rattle.ug_policy.specs.Deciding.{Found, reached}
use Rattle.ug_policy.specs.Edits.{new_entry}
use Rattle.ug_policy.specs.Matching.{matched}
use Rattle.ug_policy.specs.declared.entry.RuleEntry.{RuleEntry}
use Rattle.ug_policy.proofs.Finding.{whole_list}
use Rattle.ug_policy.proofs.Unasked.{unasked}
use Rattle.ug_table.specs.Allowed.{allowed_records}
use Rattle.ug_ruleset.specs.RuleFile.{as_given}
use Rattle.ug_core.specs.Policy.{Judging, asks, by_class, found_for, later_of, policy_answer, policy_later, rules_if, stream_if, verdict_of}
use Rattle.ug_core.proofs.Verdicts.{rules_stay}
use Rattle.ug_hint_laws.specs.Compared.{LooksAtNone, TurnsInto, Unchanged, Behind_one}
use Rattle.ug_hint_laws.specs.Daemon.{AskForNone}

-- the rules that are reached ask for no devices

no_match : (b c : Bool) → c ≡ false → (b && c) ≡ false
no_match true c e = e
no_match false c e = refl

none_ask : (dev : DeviceRecord) (es : List RuleEntry) → AskForNone es → list_any (rule_asks dev) es ≡ false
none_ask dev [] none = refl
none_ask dev (e ∷ es) none =
    ap (λ (b : Bool). b || list_any (rule_asks dev) es) (no_match (matched dev e) (conditions_ask e.rule.conds) (none e (inl refl)))
    ∙ none_ask dev es (λ f a. none f (inr a))

has_first : (es : List RuleEntry) (e : RuleEntry) → Has (take 1 es) e → Has es e
has_first [] e a = absurd a
has_first (f ∷ es) e (inl is) = inl is
has_first (f ∷ es) e (inr a) = absurd a

reached_has : (f : Found) (e : RuleEntry) → Has (reached f) e → Has (f.before ++ f.rest) e
reached_has f e a = elim (has_cases f.before (take 1 f.rest) e a) [
  | inl b ↦ has_left f.before f.rest e b
  | inr b ↦ has_right f.before f.rest e (has_first f.rest e b)
]

found_same : (p : Judging) (records others : List DeviceRecord) (dev : DeviceRecord) → AskForNone p.rules → found_for p records dev ≡ found_for p others dev
found_same p records others dev none =
    let f : Found = found_for p records dev in
    let some : AskForNone (reached f) = λ e a. none e (subst (λ (v : List RuleEntry). Has v e) (whole_list dev p.ctx records p.rules p.stream) (reached_has f e a)) in
    sym (unasked dev p.ctx records others p.rules p.stream (none_ask dev (reached f) some))

-- so the verdict and what is left are the same beside any records

answers_same : (p : Judging) (records others : List DeviceRecord) (dev : Judged) (controller was on : Bool) → AskForNone p.rules → verdict_of p records dev controller was on ≡ verdict_of p others dev controller was on
answers_same p records others (judged.Malformed kind place) controller was on none = refl
answers_same p records others (judged.Good dev) controller was on none = ap (λ (f : Found). by_class p.classes f controller was on) (found_same p records others dev none)

laters_same : (p : Judging) (records others : List DeviceRecord) (dev : Judged) (controller was : Bool) → AskForNone p.rules → later_of p records dev controller was ≡ later_of p others dev controller was
laters_same p records others (judged.Malformed kind place) controller was none = refl
laters_same p records others (judged.Good dev) controller was none =
    ap (λ (f : Found). record p { rules = rules_if (asks p.classes controller was) p.rules f dev p.ctx.moment; stream = stream_if (asks p.classes controller was) p.stream f dev }) (found_same p records others dev none)

-- and the rules that are left have no such condition

given : RuleEntry → RuleEntry
given e = new_entry e.id e.rule e.mark

none_given : (es fs : List RuleEntry) → as_given fs ≡ as_given es → AskForNone es → AskForNone fs
unfolding given
none_given es fs same none f a =
    let x = map_has given es (given f) (subst (λ (v : List RuleEntry). Has v (given f)) same (has_map given fs f a)) in
    ap (λ (e : RuleEntry). conditions_ask e.rule.conds) (sym x.2) ∙ none x.0 x.1

none_later : (p q : Judging) → TurnsInto policy_later p q → AskForNone p.rules → AskForNone q.rules
none_later p _ Unchanged none = none
none_later p _ (Behind_one other dev root present on ss before) none =
    none_given other.rules (later_of other (allowed_records ss) dev root present).rules (rules_stay other (allowed_records ss) dev root present) (none_later p other before none)

pub looks_at_none : (p : Judging) → AskForNone p.rules → LooksAtNone policy_answer policy_later p
looks_at_none p none q behind dev root present on ss rs =
    let here : AskForNone q.rules = none_later p q behind none in
    (answers_same q (allowed_records ss) (allowed_records rs) dev root present on here, laters_same q (allowed_records ss) (allowed_records rs) dev root present here)
