-- A walk over the places of candidates finds the rule that decides: what stands between two of them doesn't match.
use Rattle.std.proofs.Common.{◌≡◌, ℕ, zero, suc, ◌<◌, ◌≤◌, ◌+◌, ◌-◌, ◌∷◌, ◌++◌, [], List, length, get_or, set, take, drop, map, Bool, true, false, ◌&&◌, Some, arith, refl, sym, ap, ◌∙◌, subst, inl, inr}
use Rattle.std.specs.Prelude.{slice_get}
use Rattle.std.specs.List.Sorted.{IsStrictlyIncreasing}
use Rattle.std.proofs.lemmas.Bool.{cond-false}
use Rattle.std.proofs.lemmas.List.{append-nil, at_drop_all, take_all}
use Rattle.std.proofs.lemmas.Option.{same_Some, none-some}
use Rattle.rand_core.specs.Stream.{Stream}
use Rattle.ug_types.specs.Elements.{Has}
use Rattle.ug_types.specs.declared.record.DeviceRecord.{DeviceRecord}
use Rattle.ug_types.specs.declared.verdict.Cause.TheVariants as cause
use Rattle.ug_types.specs.declared.verdict.Target.{Target}
use Rattle.ug_policy.specs.Candidates.{AreCandidates}
use Rattle.ug_policy.proofs.Standing.{can_as_matches}
use Rattle.ug_cond.specs.declared.context.Context.{Context}
use Rattle.ug_cond.specs.Words.{behind}
use Rattle.ug_policy.specs.declared.entry.RuleEntry.{RuleEntry}
use Rattle.ug_policy.specs.Deciding.{Found, Judges, conditions_take, decider, decides, find_decider, reached, rule_holds, rule_takes, rules_judged, seen, words_taken}
use Rattle.ug_policy.specs.Matching.{answer_by, matched, greatest, rule_noted}
use Rattle.ug_policy.specs.Rules.{queries}
use Rattle.ug_policy.proofs.Finding.{behind_rules, found_at, front_more, later_found, left_at, map_last, set_in, words_more}

-- the rules from `from` on that are at none of the places don't match
abbrev pub NoneMatches : DeviceRecord → List RuleEntry → ℕ → ℕ → Type 0
NoneMatches dev es from to = (k : ℕ) (e : RuleEntry) → from ≤ k → k < to → slice_get es k ≡ Some e → matched dev e ≡ false

abbrev pub WalksFrom : DeviceRecord → List RuleEntry → ℕ → List ℕ → Type 0
WalksFrom dev es from [] = NoneMatches dev es from (length es)
WalksFrom dev es from (p ∷ ps) = (from ≤ p) × (p < length es) × NoneMatches dev es from p × WalksFrom dev es (suc p) ps

-- where the walk is behind these places
abbrev pub walked : ℕ → List ℕ → ℕ
walked from [] = from
walked from (p ∷ ps) = walked (suc p) ps

pub walked_last : (from : ℕ) (ps : List ℕ) (p : ℕ) → walked from (ps ++ p ∷ []) ≡ suc p
walked_last from [] p = refl
walked_last from (q ∷ ps) p = walked_last (suc q) ps p

rise_later : (p : ℕ) (ps : List ℕ) → IsStrictlyIncreasing (p ∷ ps) → IsStrictlyIncreasing ps
rise_later p ps h = λ k lt.
    let more : suc k + 1 ≡ suc (k + 1) = omega arith in
    subst (λ (n : ℕ). get_or ps k 0 < get_or (p ∷ ps) n 0) more (h (suc k) (omega arith))

rise_above : (p : ℕ) (ps : List ℕ) (k : ℕ) → IsStrictlyIncreasing (p ∷ ps) → Has ps k → p < k
rise_above p [] k h m = absurd m
rise_above p (q ∷ ps) k h (inl same) = let first : p < q = h zero (omega arith) in omega arith
rise_above p (q ∷ ps) k h (inr m) =
    let first : p < q = h zero (omega arith) in
    let later : q < k = rise_above q ps k (rise_later p (q ∷ ps) h) m in
    omega arith

not_matched : (b : Bool) → (b ≡ true → ⊥) → b ≡ false
not_matched true h = absurd (h refl)
not_matched false h = refl

pub walk_from : (dev : DeviceRecord) (es : List RuleEntry) (from : ℕ) (ps : List ℕ) → IsStrictlyIncreasing ps → ((k : ℕ) → Has ps k → from ≤ k) → ((k : ℕ) → Has ps k → k < length es) → ((k : ℕ) (e : RuleEntry) → from ≤ k → slice_get es k ≡ Some e → matched dev e ≡ true → Has ps k) → WalksFrom dev es from ps
walk_from dev es from [] rise low high all = λ k e le lt there. not_matched (matched dev e) (λ t. all k e le there t)
walk_from dev es from (p ∷ ps) rise low high all = (
  low p (inl refl),
  high p (inl refl),
  λ k e le lt there. not_matched (matched dev e) (λ t. elim (all k e le there t) [
    | inl same ↦ let none : ⊥ = omega arith in none
    | inr m ↦ let above : p < k = rise_above p ps k rise m in let none : ⊥ = omega arith in none
  ]),
  walk_from dev es (suc p) ps (rise_later p ps rise) (λ k m. let above : p < k = rise_above p ps k rise m in omega arith) (λ k m. high k (inr m)) (λ k e le there t. elim (all k e (let first : from ≤ p = low p (inl refl) in omega arith) there t) [
    | inl same ↦ let none : ⊥ = omega arith in absurd none
    | inr m ↦ m
  ]),
)

query_there : (es : List RuleEntry) (k : ℕ) (e : RuleEntry) → slice_get es k ≡ Some e → slice_get (queries es) k ≡ Some e.rule.query
query_there [] k e h = absurd (none-some e h)
query_there (f ∷ es) zero e h = ap (λ (v : RuleEntry). Some v.rule.query) (same_Some f e h)
query_there (f ∷ es) (suc k) e h = query_there es k e h

long_queries : (es : List RuleEntry) → length (queries es) ≡ length es
long_queries [] = refl
long_queries (e ∷ es) = ap suc (long_queries es)

-- candidates make a walk
pub candidates_walk : (dev : DeviceRecord) (es : List RuleEntry) (ps : List ℕ) → AreCandidates (queries es) dev.vendor dev.product ps → WalksFrom dev es 0 ps
candidates_walk dev es ps c = walk_from dev es 0 ps c.rise (λ k m. omega arith) (λ k m. let low : k < length (queries es) = c.below k m in omega (arith, long_queries es)) (λ k e le there t. c.complete k e.rule.query (query_there es k e there) (can_as_matches e.rule.query dev t))

-- so far no rule has decided, and `from` is where the walk is
pub record IsWalked (dev : DeviceRecord) (ctx : Context) (records : List DeviceRecord) (es now : List RuleEntry) (start stream : Stream) (from : ℕ) : Type 0 where
  pub entries : now ≡ map (seen dev ctx.moment) (take from es) ++ drop from es
  pub found : find_decider dev ctx records es start ≡ behind_rules (take from es) (find_decider dev ctx records (drop from es) stream)
  pub words : stream ≡ behind (words_taken dev (take from es)) start

cut : (es : List RuleEntry) (i : ℕ) → i < length es → (e : RuleEntry) × (slice_get es i ≡ Some e) × (drop i es ≡ e ∷ drop (suc i) es) × (take (suc i) es ≡ take i es ++ e ∷ [])
cut [] i lt = absurd (omega arith)
cut (e ∷ es) zero lt = (e, refl, refl, refl)
cut (f ∷ es) (suc i) lt = let k = cut es i (omega arith) in (k.0, k.1, k.2, ap (λ (v : List RuleEntry). f ∷ v) k.3)

-- a rule that doesn't match is passed
skip_one : (dev : DeviceRecord) (ctx : Context) (records : List DeviceRecord) (es now : List RuleEntry) (start stream : Stream) (from : ℕ) → from < length es → ((e : RuleEntry) → slice_get es from ≡ Some e → matched dev e ≡ false) → IsWalked dev ctx records es now start stream from → IsWalked dev ctx records es now start stream (suc from)
skip_one dev ctx records es now start stream from lt none w =
    let k = cut es from lt in
    let e = k.0 in
    let front = take from es in
    let rest = drop (suc from) es in
    let unmatched : matched dev e ≡ false = none e k.1 in
    let same : seen dev ctx.moment e ≡ e = cond-false (matched dev e) (record e { history = record e.history { evaluated = Some (greatest e.history.evaluated ctx.moment) } }) e unmatched in
    let takes : rule_takes dev e ≡ 0 = cond-false (matched dev e) (conditions_take e.rule.conds) 0 unmatched in
    let later : decides dev ctx records e stream ≡ false = ap (λ (b : Bool). b && rule_holds ctx records e stream) unmatched in
    let still : stream ≡ behind (rule_takes dev e) stream = sym (ap (λ (n : ℕ). behind n stream) takes) in
    record {
      entries =
          w.entries
          ∙ ap (λ (v : List RuleEntry). map (seen dev ctx.moment) front ++ v) k.2
          ∙ ap (λ (v : RuleEntry). map (seen dev ctx.moment) front ++ v ∷ rest) (sym same)
          ∙ map_last (seen dev ctx.moment) front e rest
          ∙ ap (λ (v : List RuleEntry). map (seen dev ctx.moment) v ++ rest) (sym k.3);
      found =
          w.found
          ∙ ap (λ (v : List RuleEntry). behind_rules front (find_decider dev ctx records v stream)) k.2
          ∙ later_found dev ctx records front e rest stream stream later still
          ∙ ap (λ (v : List RuleEntry). behind_rules v (find_decider dev ctx records rest stream)) (sym k.3);
      words =
          words_more dev front e start stream stream w.words still
          ∙ ap (λ (v : List RuleEntry). behind (words_taken dev v) start) (sym k.3);
    }

skip_some : (dev : DeviceRecord) (ctx : Context) (records : List DeviceRecord) (es now : List RuleEntry) (start stream : Stream) (n from to : ℕ) → to ≡ from + n → to ≤ length es → NoneMatches dev es from to → IsWalked dev ctx records es now start stream from → IsWalked dev ctx records es now start stream to
skip_some dev ctx records es now start stream zero from to same within none w =
    let here : from ≡ to = omega arith in
    subst (λ (k : ℕ). IsWalked dev ctx records es now start stream k) here w
skip_some dev ctx records es now start stream (suc n) from to same within none w =
    skip_some dev ctx records es now start stream n (suc from) to (omega arith) within (λ k e le lt there. none k e (omega arith) lt there)
    (skip_one dev ctx records es now start stream from (omega arith) (λ e there. none from e (omega arith) (omega arith) there) w)

-- the rules between two candidates are passed
pub skip : (dev : DeviceRecord) (ctx : Context) (records : List DeviceRecord) (es now : List RuleEntry) (start stream : Stream) (from to : ℕ) → from ≤ to → to ≤ length es → NoneMatches dev es from to → IsWalked dev ctx records es now start stream from → IsWalked dev ctx records es now start stream to
skip dev ctx records es now start stream from to le within none w = skip_some dev ctx records es now start stream (to - from) from to (omega arith) within none w

-- the rule at p is reached, and doesn't decide
pub step_over : (dev : DeviceRecord) (ctx : Context) (records : List DeviceRecord) (es now : List RuleEntry) (start stream next : Stream) (p : ℕ) (e new : RuleEntry) → p < length es → IsWalked dev ctx records es now start stream p → e ≡ get_or now p e → decides dev ctx records e stream ≡ false → new ≡ seen dev ctx.moment e → next ≡ behind (rule_takes dev e) stream → IsWalked dev ctx records es (set now p new) start next (suc p)
step_over dev ctx records es now start stream next p e new within here read later entry words =
    let front = take p es in
    let rest = drop (p + 1) es in
    let left : drop p es ≡ e ∷ rest = left_at (seen dev ctx.moment) es now p e within here.entries read in
    let whole : now ≡ map (seen dev ctx.moment) front ++ e ∷ rest = here.entries ∙ ap (λ (v : List RuleEntry). map (seen dev ctx.moment) front ++ v) left in
    let more : take (p + 1) es ≡ front ++ e ∷ [] = front_more es p e rest within left in
    let one : p + 1 ≡ suc p = omega arith in
    let at : IsWalked dev ctx records es (set now p new) start next (p + 1) = record {
      entries =
          set_in (seen dev ctx.moment) es now rest p e new within whole
          ∙ ap (λ (v : RuleEntry). map (seen dev ctx.moment) front ++ v ∷ rest) entry
          ∙ map_last (seen dev ctx.moment) front e rest
          ∙ ap (λ (v : List RuleEntry). map (seen dev ctx.moment) v ++ rest) (sym more);
      found =
          here.found
          ∙ ap (λ (v : List RuleEntry). behind_rules front (find_decider dev ctx records v stream)) left
          ∙ later_found dev ctx records front e rest stream next later words
          ∙ ap (λ (v : List RuleEntry). behind_rules v (find_decider dev ctx records rest next)) (sym more);
      words =
          words_more dev front e start stream next here.words words
          ∙ ap (λ (v : List RuleEntry). behind (words_taken dev v) start) (sym more);
    } in
    subst (λ (n : ℕ). IsWalked dev ctx records es (set now p new) start next n) one at

-- the rule at p is reached, and decides
pub decides_at : (dev : DeviceRecord) (ctx : Context) (records : List DeviceRecord) (implicit : Target) (es now : List RuleEntry) (start stream next : Stream) (p : ℕ) (e new : RuleEntry) → p < length es → IsWalked dev ctx records es now start stream p → e ≡ get_or now p e → decides dev ctx records e stream ≡ true → new ≡ rule_noted ctx.moment e → next ≡ behind (rule_takes dev e) stream → Judges dev ctx records implicit es start (new.rule.target, cause.Rule new.id) (set now p new) next
decides_at dev ctx records implicit es now start stream next p e new within here read deciding entry words =
    let front = take p es in
    let rest = drop (p + 1) es in
    let left : drop p es ≡ e ∷ rest = left_at (seen dev ctx.moment) es now p e within here.entries read in
    let whole : now ≡ map (seen dev ctx.moment) front ++ e ∷ rest = here.entries ∙ ap (λ (v : List RuleEntry). map (seen dev ctx.moment) front ++ v) left in
    let found : find_decider dev ctx records es start ≡ record { before = front; rest = e ∷ rest } =
    here.found
    ∙ ap (λ (v : List RuleEntry). behind_rules front (find_decider dev ctx records v stream)) left
    ∙ found_at dev ctx records front e rest stream deciding in
    record {
      answer =
          ap (λ (v : RuleEntry). (v.rule.target, cause.Rule v.id)) entry
          ∙ sym (ap (λ (f : Found). answer_by implicit (decider f)) found);
      entries =
          set_in (seen dev ctx.moment) es now rest p e new within whole
          ∙ ap (λ (v : RuleEntry). map (seen dev ctx.moment) front ++ v ∷ rest) entry
          ∙ sym (ap (λ (f : Found). rules_judged dev ctx.moment f) found);
      words =
          words_more dev front e start stream next here.words words
          ∙ sym (ap (λ (f : Found). behind (words_taken dev (reached f)) start) found);
    }

-- the walk is at the end
pub none_decides : (dev : DeviceRecord) (ctx : Context) (records : List DeviceRecord) (implicit : Target) (es now : List RuleEntry) (start stream : Stream) → IsWalked dev ctx records es now start stream (length es) → Judges dev ctx records implicit es start (implicit, cause.Implicit) now stream
none_decides dev ctx records implicit es now start stream here =
    let n : ℕ = length es in
    let all : take n es ≡ es = take_all n es (omega arith) in
    let none : drop n es ≡ [] = at_drop_all (λ (v : List RuleEntry). v) es n (omega arith) in
    let found : find_decider dev ctx records es start ≡ record { before = es; rest = [] } =
    here.found
    ∙ ap (λ (v : List RuleEntry). behind_rules (take n es) (find_decider dev ctx records v stream)) none
    ∙ ap (λ (v : List RuleEntry). record { before = v; rest = [] }) (append-nil (take n es) ∙ all) in
    record {
      answer = sym (ap (λ (f : Found). answer_by implicit (decider f)) found);
      entries =
          here.entries
          ∙ ap (λ (v : List RuleEntry). map (seen dev ctx.moment) (take n es) ++ v) none
          ∙ ap (λ (v : List RuleEntry). map (seen dev ctx.moment) v ++ []) all
          ∙ sym (ap (λ (f : Found). rules_judged dev ctx.moment f) found);
      words =
          here.words
          ∙ ap (λ (v : List RuleEntry). behind (words_taken dev v) start) (all ∙ sym (append-nil es))
          ∙ sym (ap (λ (f : Found). behind (words_taken dev (reached f)) start) found);
    }
