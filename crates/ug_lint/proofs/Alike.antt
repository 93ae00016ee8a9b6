-- Judging without the rules that are covered.
use Rattle.std.proofs.Common.{◌≡◌, ℕ, ◌+◌, List, [], ◌∷◌, ◌++◌, Bool, true, false, ◌&&◌, cond, length, get_or, IsTrue, Option, Some, None, arith, refl, sym, ap, ◌∙◌, subst, inl, inr}
use Rattle.std.specs.List.{filter}
use Rattle.std.specs.Prelude.{position}
use Rattle.std.specs.Option.{option_map}
use Rattle.std.proofs.lemmas.Bool.{cond-true, cond-false}
use Rattle.std.proofs.lemmas.List.Quantifiers.{position-Some}
use Rattle.rand_core.specs.Stream.{Stream}
use Rattle.ug_types.specs.Elements.{Has}
use Rattle.ug_types.proofs.Elements.{has_cases}
use Rattle.ug_types.specs.declared.record.DeviceRecord.{DeviceRecord}
use Rattle.ug_types.specs.declared.rule.Rule.{Rule}
use Rattle.ug_types.specs.declared.verdict.Moment.{Moment}
use Rattle.ug_match.specs.Queries.{query_matches}
use Rattle.ug_cond.specs.declared.context.Context.{Context}
use Rattle.ug_cond.specs.Judgements.{Judgement}
use Rattle.ug_cond.specs.Words.{behind}
use Rattle.ug_policy.specs.declared.entry.RuleEntry.{RuleEntry}
use Rattle.ug_policy.specs.Deciding.{Found, conditions_take, decider, decides, find_decider, put_before, reached, rule_holds, rule_takes, rules_judged, seen, words_taken}
use Rattle.ug_policy.specs.Matching.{answer_by, greatest, matched, rule_noted}
use Rattle.ug_policy.specs.Rules.{ids, rules_in}
use Rattle.ug_lint.specs.declared.finding.Finding.TheVariants.{Never}
use Rattle.ug_lint.specs.Certain.{always_hold, never_hold}
use Rattle.ug_lint.specs.Filled.{IsFilled}
use Rattle.ug_lint.specs.Findings.{covered_by, covers_rule}
use Rattle.ug_lint.specs.NeverDecides.{HasWords, PrunedAlike}
use Rattle.ug_lint.specs.Remaining.{is_covered, remaining_behind, remaining_entries, tells_covered, kept_unless}
use Rattle.ug_lint.proofs.Deciders.{AreFilled, cover_parts, decides_both}
use Rattle.ug_lint.proofs.Found.{has_place}
use Rattle.ug_lint.proofs.Matches.{query_less}
use Rattle.ug_lint.proofs.Sure.{always_holds, words_behind}

pub never : {P : Type 0} → false ≡ true → P
never h = let none : ⊥ = cc in absurd none

pub not_true : (b : Bool) → (b ≡ true → ⊥) → b ≡ false
not_true true h = absurd (h refl)
not_true false h = refl

-- ---- a rule that is covered

abbrev Coverer : List Rule → Rule → Type 0
Coverer before rule = (earlier : Rule) × Has before earlier × IsTrue (covers_rule rule earlier)

coverer_at : (before : List Rule) (rule : Rule) (o : Option ℕ) → position (covers_rule rule) before ≡ o → tells_covered (covered_by (length before) o) ≡ true → Coverer before rule
coverer_at before rule None p h = never h
coverer_at before rule (Some i) p h =
    let s = position-Some (covers_rule rule) before i rule p in
    (get_or before i rule, has_place before i rule s.0, s.1)

coverer_cond : (before : List Rule) (rule : Rule) (b : Bool) → tells_covered (cond b (Some (Never (length before))) (covered_by (length before) (position (covers_rule rule) before))) ≡ true → Coverer before rule
coverer_cond before rule true h = never h
coverer_cond before rule false h = coverer_at before rule (position (covers_rule rule) before) refl h

pub coverer : (before : List Rule) (rule : Rule) → is_covered before rule ≡ true → Coverer before rule
coverer before rule h = coverer_cond before rule (never_hold rule.conds) h

-- none of these rules that always holds matches the device
abbrev AreApart : DeviceRecord → List Rule → Type 0
AreApart dev rules = (rule : Rule) → Has rules rule → always_hold rule.conds ≡ true → query_matches rule.query dev ≡ false

-- a covered rule matches no device that those before it let through
covered_apart : (dev : DeviceRecord) (before : List Rule) (rule : Rule) → AreFilled before → AreApart dev before → is_covered before rule ≡ true → query_matches rule.query dev ≡ false
covered_apart dev before rule filled apart h =
    let c = coverer before rule h in
    let parts = cover_parts rule c.0 c.2 in
    not_true (query_matches rule.query dev) (λ m.
    let matches : query_matches c.0.query dev ≡ true = query_less c.0.query rule.query dev (filled c.0 c.1) parts.0 m in
    let not : query_matches c.0.query dev ≡ false = apart c.0 c.1 parts.1 in
    let none : false ≡ true = sym not ∙ matches in
    cc)

apart_more : (dev : DeviceRecord) (before : List Rule) (rule : Rule) → AreApart dev before → (always_hold rule.conds ≡ true → query_matches rule.query dev ≡ false) → AreApart dev (before ++ rule ∷ [])
apart_more dev before rule apart last r h always = elim (has_cases before (rule ∷ []) r h) [
  | inl a ↦ apart r a always
  | inr b ↦ elim b [
    | inl e ↦ subst (λ (v : Rule). query_matches v.query dev ≡ false) e (last (subst (λ (v : Rule). always_hold v.conds ≡ true) (sym e) always))
    | inr n ↦ absurd n
  ]
]

filled_more : (before : List Rule) (rule : Rule) → AreFilled before → IsFilled rule.query → AreFilled (before ++ rule ∷ [])
filled_more before rule filled last r h = elim (has_cases before (rule ∷ []) r h) [
  | inl a ↦ filled r a
  | inr b ↦ elim b [
    | inl e ↦ subst (λ (v : Rule). IsFilled v.query) e last
    | inr n ↦ absurd n
  ]
]

-- a rule that doesn't decide, although it always holds, doesn't match
later_apart : (dev : DeviceRecord) (ctx : Context) (records : List DeviceRecord) (e : RuleEntry) (stream : Stream) → HasWords stream → decides dev ctx records e stream ≡ false → always_hold e.rule.conds ≡ true → matched dev e ≡ false
later_apart dev ctx records e stream words later always =
    not_true (matched dev e) (λ m.
    let here : decides dev ctx records e stream ≡ true = decides_both dev ctx records e stream m (always_holds ctx records e stream words always) in
    let none : false ≡ true = sym later ∙ here in
    cc)

-- ---- one step of the search

found_here : (dev : DeviceRecord) (ctx : Context) (records : List DeviceRecord) (e : RuleEntry) (es : List RuleEntry) (stream : Stream) → decides dev ctx records e stream ≡ true → find_decider dev ctx records (e ∷ es) stream ≡ record { before = []; rest = e ∷ es }
found_here dev ctx records e es stream h = cond-true (decides dev ctx records e stream) (record { before = []; rest = e ∷ es }) (put_before e (find_decider dev ctx records es (behind (rule_takes dev e) stream))) h

found_later : (dev : DeviceRecord) (ctx : Context) (records : List DeviceRecord) (e : RuleEntry) (es : List RuleEntry) (stream : Stream) → decides dev ctx records e stream ≡ false → find_decider dev ctx records (e ∷ es) stream ≡ put_before e (find_decider dev ctx records es (behind (rule_takes dev e) stream))
found_later dev ctx records e es stream h = cond-false (decides dev ctx records e stream) (record { before = []; rest = e ∷ es }) (put_before e (find_decider dev ctx records es (behind (rule_takes dev e) stream))) h

-- a rule that doesn't match
unmatched_decides : (dev : DeviceRecord) (ctx : Context) (records : List DeviceRecord) (e : RuleEntry) (stream : Stream) → matched dev e ≡ false → decides dev ctx records e stream ≡ false
unmatched_decides dev ctx records e stream m = ap (λ (b : Bool). b && rule_holds ctx records e stream) m

unmatched_takes : (dev : DeviceRecord) (e : RuleEntry) → matched dev e ≡ false → rule_takes dev e ≡ 0
unmatched_takes dev e m = cond-false (matched dev e) (conditions_take e.rule.conds) 0 m

abbrev with_moment : Moment → RuleEntry → RuleEntry
with_moment moment e = record e { history = record e.history { evaluated = Some (greatest e.history.evaluated moment) } }

seen_rule : (dev : DeviceRecord) (moment : Moment) (e : RuleEntry) → (seen dev moment e).rule ≡ e.rule
seen_rule dev moment e =
    let T : Bool → Type 0 = λ b. (cond b (with_moment moment e) e).rule ≡ e.rule in
    let f : (b : Bool) → T b = λ b. elim b as T [ true ↦ refl | false ↦ refl ] in
    f (matched dev e)

-- what remains of a rule that is or isn't covered, and of those behind it
abbrev left : List Rule → List RuleEntry → List RuleEntry
left before es = remaining_behind (λ e. e.rule) before es

gone : (before : List Rule) (e f : RuleEntry) (es : List RuleEntry) → f.rule ≡ e.rule → is_covered before e.rule ≡ true → left before (f ∷ es) ≡ left (before ++ e.rule ∷ []) es
gone before e f es same h =
    ap (λ (r : Rule). kept_unless (is_covered before r) f ++ left (before ++ r ∷ []) es) same
    ∙ ap (λ (b : Bool). kept_unless b f ++ left (before ++ e.rule ∷ []) es) h

kept : (before : List Rule) (e f : RuleEntry) (es : List RuleEntry) → f.rule ≡ e.rule → is_covered before e.rule ≡ false → left before (f ∷ es) ≡ f ∷ left (before ++ e.rule ∷ []) es
kept before e f es same h =
    ap (λ (r : Rule). kept_unless (is_covered before r) f ++ left (before ++ r ∷ []) es) same
    ∙ ap (λ (b : Bool). kept_unless b f ++ left (before ++ e.rule ∷ []) es) h

-- ---- the search over all rules, and over those that remain

record Same (dev : DeviceRecord) (moment : Moment) (before : List Rule) (one other : Found) : Type 0 where
  decides : decider one ≡ decider other
  evaluated : filter (matched dev) (reached one) ≡ filter (matched dev) (reached other)
  words : words_taken dev (reached one) ≡ words_taken dev (reached other)
  later : rules_judged dev moment one ≡ left before (rules_judged dev moment other)

-- a covered rule is passed over
same_gone : (dev : DeviceRecord) (moment : Moment) (before : List Rule) (e : RuleEntry) (one other : Found) → matched dev e ≡ false → is_covered before e.rule ≡ true → Same dev moment (before ++ e.rule ∷ []) one other → Same dev moment before one (put_before e other)
same_gone dev moment before e one other m h s =
    let none : rule_takes dev e ≡ 0 = unmatched_takes dev e m in
    record {
      decides = s.decides;
      evaluated = s.evaluated ∙ sym (cond-false (matched dev e) (e ∷ filter (matched dev) (reached other)) (filter (matched dev) (reached other)) m);
      words = omega (arith, s.words, none);
      later = s.later ∙ sym (gone before e (seen dev moment e) (rules_judged dev moment other) (seen_rule dev moment e) h);
    }

-- a rule that remains and doesn't decide
same_more : (dev : DeviceRecord) (moment : Moment) (before : List Rule) (e : RuleEntry) (one other : Found) → is_covered before e.rule ≡ false → Same dev moment (before ++ e.rule ∷ []) one other → Same dev moment before (put_before e one) (put_before e other)
same_more dev moment before e one other h s = record {
  decides = s.decides;
  evaluated = ap (λ (v : List RuleEntry). cond (matched dev e) (e ∷ v) v) s.evaluated;
  words = ap (λ (n : ℕ). rule_takes dev e + n) s.words;
  later = ap (λ (v : List RuleEntry). seen dev moment e ∷ v) s.later ∙ sym (kept before e (seen dev moment e) (rules_judged dev moment other) (seen_rule dev moment e) h);
}

-- a rule that remains and decides
same_here : (dev : DeviceRecord) (moment : Moment) (before : List Rule) (e : RuleEntry) (es : List RuleEntry) → is_covered before e.rule ≡ false → Same dev moment before (record { before = []; rest = e ∷ left (before ++ e.rule ∷ []) es }) (record { before = []; rest = e ∷ es })
same_here dev moment before e es h = record {
  decides = refl;
  evaluated = refl;
  words = refl;
  later = sym (kept before e (rule_noted moment e) es refl h);
}

walk : (dev : DeviceRecord) (ctx : Context) (records : List DeviceRecord) (before : List Rule) (es : List RuleEntry) (stream : Stream)
    → HasWords stream → AreFilled before → AreFilled (rules_in es) → AreApart dev before
    → Same dev ctx.moment before (find_decider dev ctx records (left before es) stream) (find_decider dev ctx records es stream)
walk dev ctx records before [] stream words filled rest apart = record { decides = refl; evaluated = refl; words = refl; later = refl }
walk dev ctx records before (e ∷ es) stream words filled rest apart =
    let next : List Rule = before ++ e.rule ∷ [] in
    let full : AreFilled next = filled_more before e.rule filled (rest e.rule (inl refl)) in
    let go : (s : Stream) → HasWords s → (always_hold e.rule.conds ≡ true → matched dev e ≡ false) → Same dev ctx.moment next (find_decider dev ctx records (left next es) s) (find_decider dev ctx records es s) =
    λ s w last. walk dev ctx records next es s w full (λ r h. rest r (inr h)) (apart_more dev before e.rule apart last) in
    let all : Found = find_decider dev ctx records (e ∷ es) stream in
    let C : Bool → Type 0 = λ b. is_covered before e.rule ≡ b → Same dev ctx.moment before (find_decider dev ctx records (left before (e ∷ es)) stream) all in
    let D : Bool → Type 0 = λ b. decides dev ctx records e stream ≡ b → is_covered before e.rule ≡ false → Same dev ctx.moment before (find_decider dev ctx records (e ∷ left next es) stream) all in
    let uncovered : (b : Bool) → D b = λ b. elim b as D [
      | true ↦ λ d h.
          subst (λ (f : Found). Same dev ctx.moment before f all) (sym (found_here dev ctx records e (left next es) stream d))
          (subst (λ (f : Found). Same dev ctx.moment before (record { before = []; rest = e ∷ left next es }) f) (sym (found_here dev ctx records e es stream d))
          (same_here dev ctx.moment before e es h))
      | false ↦ λ d h.
          let later : Stream = behind (rule_takes dev e) stream in
          let one : Found = find_decider dev ctx records (left next es) later in
          let other : Found = find_decider dev ctx records es later in
          subst (λ (f : Found). Same dev ctx.moment before f all) (sym (found_later dev ctx records e (left next es) stream d))
          (subst (λ (f : Found). Same dev ctx.moment before (put_before e one) f) (sym (found_later dev ctx records e es stream d))
          (same_more dev ctx.moment before e one other h (go later (words_behind (rule_takes dev e) stream words) (later_apart dev ctx records e stream words d))))
    ] in
    let covered : (b : Bool) → C b = λ b. elim b as C [
      | true ↦ λ h.
          let m : matched dev e ≡ false = covered_apart dev before e.rule filled apart h in
          let one : Found = find_decider dev ctx records (left next es) stream in
          let other : Found = find_decider dev ctx records es stream in
          let same : all ≡ put_before e other =
          found_later dev ctx records e es stream (unmatched_decides dev ctx records e stream m)
          ∙ ap (λ (n : ℕ). put_before e (find_decider dev ctx records es (behind n stream))) (unmatched_takes dev e m) in
          subst (λ (v : List RuleEntry). Same dev ctx.moment before (find_decider dev ctx records v stream) all) (sym (gone before e e es refl h))
          (subst (λ (f : Found). Same dev ctx.moment before one f) (sym same)
          (same_gone dev ctx.moment before e one other m h (go stream words (λ always. m))))
      | false ↦ λ h.
          subst (λ (v : List RuleEntry). Same dev ctx.moment before (find_decider dev ctx records v stream) all) (sym (kept before e e es refl h))
          (uncovered (decides dev ctx records e stream) refl h)
    ] in
    covered (is_covered before e.rule) refl

pub pruned_alike : (dev : DeviceRecord) (ctx : Context) (records : List DeviceRecord) (entries : List RuleEntry) (stream : Stream) → HasWords stream → AreFilled (rules_in entries) → PrunedAlike dev ctx records entries stream
pruned_alike dev ctx records entries stream words filled =
    let s = walk dev ctx records [] entries stream words (λ r h. absurd h) filled (λ r h. absurd h) in
    let one : Found = find_decider dev ctx records (remaining_entries entries) stream in
    let other : Found = find_decider dev ctx records entries stream in
    let made : List RuleEntry → Option RuleEntry → Judgement = λ evaluated d. record { moment = ctx.moment; evaluated = ids evaluated; applied = option_map (λ (e : RuleEntry). e.id) d } in
    record {
      alike = record {
        answer = λ implicit. ap (λ (d : Option RuleEntry). answer_by implicit d) s.decides;
        decider = s.decides;
        judgement = ap (λ (v : List RuleEntry). made v (decider one)) s.evaluated ∙ ap (λ (d : Option RuleEntry). made (filter (matched dev) (reached other)) d) s.decides;
        words = s.words;
      };
      later = s.later;
    }

-- the entries that remain have the rules that remain
pub same_rules : (before : List Rule) (es : List RuleEntry) → rules_in (left before es) ≡ remaining_behind (λ rule. rule) before (rules_in es)
same_rules before [] = refl
same_rules before (e ∷ es) =
    let next : List Rule = before ++ e.rule ∷ [] in
    let T : Bool → Type 0 = λ b. rules_in (kept_unless b e ++ left next es) ≡ kept_unless b e.rule ++ remaining_behind (λ rule. rule) next (rules_in es) in
    let f : (b : Bool) → T b = λ b. elim b as T [
      | true ↦ same_rules next es
      | false ↦ ap (λ (v : List Rule). e.rule ∷ v) (same_rules next es)
    ] in
    f (is_covered before e.rule)
