-- Why a verdict allows a device.
use Rattle.std.proofs.Common.{◌≡◌, ℕ, Bool, true, false, cond, List, [], ◌∷◌, Option, Some, None, refl, sym, ◌∙◌, ap, subst, true≢false, inl, inr}
use Rattle.std.specs.Prelude.{◌&&◌}
use Rattle.std.specs.Bool.{Decides}
use Rattle.std.specs.Option.{option_map}
use Rattle.rand_core.specs.Stream.{Stream}
use Rattle.ug_types.specs.Elements.{Has}
use Rattle.ug_types.specs.declared.parameter.Inserted.{Inserted}
use Rattle.ug_types.specs.declared.parameter.Inserted.TheVariants as inserted
use Rattle.ug_types.specs.declared.record.DeviceRecord.{DeviceRecord}
use Rattle.ug_types.specs.declared.record.Judged.TheVariants.{Good}
use Rattle.ug_types.specs.declared.rule.Conds.{Conds}
use Rattle.ug_types.specs.declared.verdict.Cause.{Cause}
use Rattle.ug_types.specs.declared.verdict.Cause.TheVariants as cause
use Rattle.ug_types.specs.declared.verdict.Moment.{Moment}
use Rattle.ug_types.specs.declared.verdict.Target.{Target}
use Rattle.ug_types.specs.declared.verdict.Target.TheVariants as target
use Rattle.ug_cond.specs.declared.context.Context.{Context}
use Rattle.ug_cond.specs.Judgements.{IsHistory, Judgement}
use Rattle.ug_cond.specs.Words.{behind, words_of}
use Rattle.ug_conf.specs.declared.settings.Present.{Present}
use Rattle.ug_conf.specs.declared.settings.Present.TheVariants as present
use Rattle.ug_policy.specs.Deciding.{conditions_take, decider, find_decider, put_before, rule_holds}
use Rattle.ug_policy.specs.Edits.{new_entry}
use Rattle.ug_policy.specs.Matching.{answer_by, matched}
use Rattle.ug_policy.specs.declared.entry.RuleEntry.{RuleEntry}
use Rattle.ug_ruleset.specs.RuleFile.{as_given}
use Rattle.ug_core.specs.declared.classes.Classes.{Classes}
use Rattle.ug_core.specs.Policy.{Judging, by_choice, cause_for, choice_for, choice_of, context_at, found_for, verdict_of}
use Rattle.ug_core.specs.Rulings.{at_moment}
use Rattle.ug_core.specs.Verdicts.{IsLater}
use Rattle.ug_headline.specs.Headline.{AreAsked, Reason, By_keeping, By_none, By_rule, By_setting, present_setting}
use Rattle.ug_headline.specs.Rules.{Finds, Finds_none, Finds_this, Finds_unheld, Finds_unmatched, Hold, Matches, draws}
use Rattle.ug_headline.proofs.Matching.{hold_decides, matches_decides}

both : (a b : Bool) → (a && b) ≡ true → (a ≡ true) × (b ≡ true)
both true b h = (refl, h)
both false b h = absurd (true≢false (sym h))

-- the first match

draws_same : (e : RuleEntry) → conditions_take e.rule.conds ≡ draws e.rule.conds
draws_same e = by e.rule.conds
  where
    by : (o : Option Conds) → conditions_take o ≡ draws o
    by None = refl
    by (Some conds) = refl

abbrev given : RuleEntry → RuleEntry
given e = new_entry e.id e.rule e.mark

module _ (dev : DeviceRecord) (judgements : List Judgement) (ctx : Context) (beside : List DeviceRecord) where
  matches_it : (e : RuleEntry) → Decides (matched dev e) (Matches e.rule.query dev)
  matches_it e = matches_decides e.rule.query dev

  holds_it : (e : RuleEntry) (words : Stream) → IsHistory judgements e.id e.history → Decides (rule_holds ctx beside e words) (Hold judgements e.id ctx beside e.rule.conds (words_of (draws e.rule.conds) words))
  holds_it e words h =
      subst (λ (n : ℕ). Decides (rule_holds ctx beside e words) (Hold judgements e.id ctx beside e.rule.conds (words_of n words))) (draws_same e)
      (hold_decides judgements e.id ctx beside e.history e.rule.conds (words_of (conditions_take e.rule.conds) words) h)

  pub finds : (rules : List RuleEntry) (words : Stream) → ((e : RuleEntry) → Has rules e → IsHistory judgements e.id e.history) → Finds dev judgements ctx beside rules words (decider (find_decider dev ctx beside rules words))
  finds [] words h = Finds_none words
  finds (e ∷ es) words h =
      by_match (λ s. finds es s (λ x a. h x (inr a))) (matched dev e) refl (rule_holds ctx beside e words) refl
    where
      by_match : ((s : Stream) → Finds dev judgements ctx beside es s (decider (find_decider dev ctx beside es s))) → (m : Bool) → matched dev e ≡ m → (b : Bool) → rule_holds ctx beside e words ≡ b → Finds dev judgements ctx beside (e ∷ es) words (decider (cond (m && b) (record { before = []; rest = e ∷ es }) (put_before e (find_decider dev ctx beside es (behind (cond m (conditions_take e.rule.conds) 0) words)))))
      by_match rest true m true b = Finds_this e es words ((matches_it e).0 m) ((holds_it e words (h e (inl refl))).0 b)
      by_match rest true m false b =
          let unheld : ¬ Hold judgements e.id ctx beside e.rule.conds (words_of (draws e.rule.conds) words) = λ x. true≢false (sym ((holds_it e words (h e (inl refl))).1 x) ∙ b) in
          subst (λ (n : ℕ). Finds dev judgements ctx beside (e ∷ es) words (decider (find_decider dev ctx beside es (behind n words)))) (sym (draws_same e))
          (Finds_unheld e es words (decider (find_decider dev ctx beside es (behind (draws e.rule.conds) words))) ((matches_it e).0 m) unheld (rest (behind (draws e.rule.conds) words)))
      by_match rest false m b is =
          let unmatched : ¬ Matches e.rule.query dev = λ x. true≢false (sym ((matches_it e).1 x) ∙ m) in
          Finds_unmatched e es words (decider (find_decider dev ctx beside es words)) unmatched (rest words)

  -- the histories don't count

  pub finds_given : (rules : List RuleEntry) (words : Stream) (found : Option RuleEntry) → Finds dev judgements ctx beside rules words found → Finds dev judgements ctx beside (as_given rules) words (option_map given found)
  finds_given _ _ _ (Finds_none words) = Finds_none words
  finds_given _ _ _ (Finds_this e rules words m b) = Finds_this (given e) (as_given rules) words m b
  finds_given _ _ _ (Finds_unheld e rules words found m b f) = Finds_unheld (given e) (as_given rules) words (option_map given found) m b (finds_given rules (behind (draws e.rule.conds) words) found f)
  finds_given _ _ _ (Finds_unmatched e rules words found m f) = Finds_unmatched (given e) (as_given rules) words (option_map given found) m (finds_given rules words found f)

-- the settings

never_allow : (i : Inserted) → choice_of i ≡ present.Allow → ⊥
never_allow inserted.Block h = cc
never_allow inserted.Reject h = cc
never_allow inserted.Apply h = cc

never_keep : (i : Inserted) → choice_of i ≡ present.Keep → ⊥
never_keep inserted.Block h = cc
never_keep inserted.Reject h = cc
never_keep inserted.Apply h = cc

apply_alone : (i : Inserted) → choice_of i ≡ present.Apply → i ≡ inserted.Apply
apply_alone inserted.Block h = let none : ⊥ = cc in absurd none
apply_alone inserted.Reject h = let none : ⊥ = cc in absurd none
apply_alone inserted.Apply h = refl

allow_present : (s : Classes) (root was : Bool) → choice_for s root was ≡ present.Allow → (was ≡ true) × (present_setting s root ≡ present.Allow)
allow_present s true true h = (refl, h)
allow_present s false true h = (refl, h)
allow_present s true false h = absurd (never_allow s.inserted h)
allow_present s false false h = absurd (never_allow s.inserted h)

keep_present : (s : Classes) (root was : Bool) → choice_for s root was ≡ present.Keep → (was ≡ true) × (present_setting s root ≡ present.Keep)
keep_present s true true h = (refl, h)
keep_present s false true h = (refl, h)
keep_present s true false h = absurd (never_keep s.inserted h)
keep_present s false false h = absurd (never_keep s.inserted h)

are_asked : (s : Classes) (root was : Bool) → choice_for s root was ≡ present.Apply → AreAsked s root was
are_asked s true true h = h
are_asked s false true h = h
are_asked s true false h = apply_alone s.inserted h
are_asked s false false h = apply_alone s.inserted h

-- the reason

pub reason : (now q : Judging) (words : ℕ) (judgements : List Judgement) → IsLater now words judgements q → (m : Moment) (dev : DeviceRecord) (beside : List DeviceRecord) (root was on : Bool) (why : Cause) → verdict_of (at_moment m q) beside (Good dev) root was on ≡ (target.Allow, why) → Reason now judgements (context_at now.clock m) beside (behind words now.stream) dev root was on why
reason now q words judgements later m dev beside root was on why h = by (choice_for q.classes root was) refl h
  where
    It : Cause → Type 0
    It c = Reason now judgements (context_at now.clock m) beside (behind words now.stream) dev root was on c

    blocks : (x : Target × Cause) → x ≡ (target.Allow, why) → (x.0 ≡ target.Allow → ⊥) → It why
    blocks x h never = absurd (never (ap (λ (p : Target × Cause). p.0) h))

    by_value : (b : Bool) → on ≡ b → was ≡ true → present_setting now.classes root ≡ present.Keep → by_choice present.Keep was b q.classes.implicit (found_for (at_moment m q) beside dev) ≡ (target.Allow, why) → It why
    by_value true is there keep h = subst It (ap (λ (p : Target × Cause). p.1) h) (By_keeping there keep is)
    by_value false is there keep h = blocks (target.Block, cause.Keep) h (λ e. cc)

    Found : Option RuleEntry → Type 0
    Found o = Finds dev judgements (context_at now.clock m) beside now.rules (behind words now.stream) o

    found : Found (option_map given (decider (found_for (at_moment m q) beside dev)))
    found =
        let own = finds dev judgements (context_at q.clock m) beside q.rules q.stream (λ e a. later.histories.histories e a) in
        let clean = finds_given dev judgements (context_at q.clock m) beside q.rules q.stream (decider (found_for (at_moment m q) beside dev)) own in
        let o = option_map given (decider (found_for (at_moment m q) beside dev)) in
        subst (λ (s : Stream). Finds dev judgements (context_at now.clock m) beside now.rules s o) later.stream
        (subst (λ (rs : List RuleEntry). Finds dev judgements (context_at now.clock m) beside rs q.stream o) later.rules
        (subst (λ (c : ℕ → ℕ). Finds dev judgements (context_at c m) beside (as_given q.rules) q.stream o) later.clock clean))

    by_rules : (o : Option RuleEntry) → AreAsked now.classes root was → Found (option_map given o) → answer_by q.classes.implicit o ≡ (target.Allow, why) → It why
    by_rules None asked f h = subst It (ap (λ (p : Target × Cause). p.1) h) (By_none asked f (ap (λ (c : Classes). c.implicit) (sym later.classes) ∙ ap (λ (p : Target × Cause). p.0) h))
    by_rules (Some e) asked f h = subst It (ap (λ (p : Target × Cause). p.1) h) (By_rule (given e) asked f (ap (λ (p : Target × Cause). p.0) h))

    by : (choice : Present) → choice_for q.classes root was ≡ choice → by_choice choice was on q.classes.implicit (found_for (at_moment m q) beside dev) ≡ (target.Allow, why) → It why
    by present.Allow is h =
        let at = allow_present now.classes root was (ap (λ (c : Classes). choice_for c root was) (sym later.classes) ∙ is) in
        subst It (ap (λ (b : Bool). cause_for b) (sym at.0) ∙ ap (λ (p : Target × Cause). p.1) h) (By_setting at.0 at.1)
    by present.Block is h = blocks (target.Block, cause_for was) h (λ e. cc)
    by present.Reject is h = blocks (target.Reject, cause_for was) h (λ e. cc)
    by present.Keep is h = let at = keep_present now.classes root was (ap (λ (c : Classes). choice_for c root was) (sym later.classes) ∙ is) in by_value on refl at.0 at.1 h
    by present.Apply is h = by_rules (decider (found_for (at_moment m q) beside dev)) (are_asked now.classes root was (ap (λ (c : Classes). choice_for c root was) (sym later.classes) ∙ is)) found h
