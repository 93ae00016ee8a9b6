-- How the rule that decides is found.
use Rattle.std.proofs.Common.{◌≡◌, ℕ, zero, suc, ◌<◌, ◌+◌, ◌∷◌, ◌++◌, [], List, length, get_or, set, take, drop, map, Bool, true, false, cond, ◌&&◌, Option, Some, None, arith, refl, sym, ap, ◌∙◌, subst, inl, inr, ◌⊎◌, append_assoc}
use Rattle.std.specs.Bool.{Decides}
use Rattle.std.specs.List.{All, filter, find}
use Rattle.std.specs.Prelude.{IsTrue, slice_get}
use Rattle.std.proofs.Math.Bool.{and-true}
use Rattle.std.proofs.lemmas.Bool.{cond-true, cond-false, cases_order, and_parts}
use Rattle.std.proofs.lemmas.List.{at_drop_more, take_more, set_at, length-map, length-take-le, append-nil}
use Rattle.std.proofs.lemmas.Option.{same_Some, none-some}
use Rattle.rand_core.specs.Stream.{Stream, next_u64}
use Rattle.ug_types.specs.Elements.{Has}
use Rattle.ug_types.specs.declared.record.DeviceRecord.{DeviceRecord}
use Rattle.ug_types.specs.declared.rule.Conds.{Conds}
use Rattle.ug_types.specs.declared.verdict.Cause.TheVariants as cause
use Rattle.ug_types.specs.declared.verdict.Moment.{Moment}
use Rattle.ug_types.specs.declared.verdict.Target.{Target}
use Rattle.ug_cond.specs.declared.context.Context.{Context}
use Rattle.ug_cond.specs.declared.history.History.{History}
use Rattle.ug_cond.specs.Judgements.{Judgement, IsHistory}
use Rattle.ug_cond.specs.Words.{behind, words_of}
use Rattle.ug_cond.proofs.Truths.{conditions_decide}
use Rattle.ug_policy.specs.declared.entry.Mark.{Mark}
use Rattle.ug_policy.specs.declared.entry.RuleEntry.{RuleEntry}
use Rattle.ug_policy.specs.Deciding.{conditions_take, rule_takes, words_taken, rule_conditions_hold, rule_holds, RuleConditionsHold, RuleHolds, decides, IsDecider, HasNoDecider, Found, put_before, find_decider, reached, decider, seen, noted_first, rules_judged, judgement_found}
use Rattle.ug_policy.specs.Kept.{StandsFor}
use Rattle.ug_policy.specs.Matching.{matched, answer_by, answered, greatest, rule_noted, judged}
use Rattle.ug_policy.specs.Rules.{ids, marks, IsNumbered}
use Rattle.ug_policy.proofs.Numbering.{numbered_same}
use Rattle.ug_policy.proofs.Stands.{FirstMatches}

not_true : (b : Bool) → ¬ IsTrue b → b ≡ false
not_true true h = absurd (h refl)
not_true false h = refl

true-not_false : (b : Bool) → b ≡ false → ¬ IsTrue b
true-not_false b e t = let none : ⊥ = cc in absurd none

pub behind_add : (a b : ℕ) (stream : Stream) → behind (a + b) stream ≡ behind b (behind a stream)
behind_add zero b stream = let none : 0 + b ≡ b = omega arith in ap (λ (n : ℕ). behind n stream) none
behind_add (suc a) b stream = let more : suc a + b ≡ suc (a + b) = omega arith in ap (λ (n : ℕ). behind n stream) more ∙ behind_add a b (next_u64 stream).1

taken_append : (dev : DeviceRecord) (es fs : List RuleEntry) → words_taken dev (es ++ fs) ≡ words_taken dev es + words_taken dev fs
taken_append dev [] fs = omega arith
taken_append dev (e ∷ es) fs = let h = taken_append dev es fs in omega arith

-- a rule that decides, and one that doesn't
pub found_here : (dev : DeviceRecord) (ctx : Context) (records : List DeviceRecord) (e : RuleEntry) (es : List RuleEntry) (stream : Stream) → decides dev ctx records e stream ≡ true → find_decider dev ctx records (e ∷ es) stream ≡ record { before = []; rest = e ∷ es }
found_here dev ctx records e es stream h = cond-true (decides dev ctx records e stream) (record { before = []; rest = e ∷ es }) (put_before e (find_decider dev ctx records es (behind (rule_takes dev e) stream))) h

pub found_later : (dev : DeviceRecord) (ctx : Context) (records : List DeviceRecord) (e : RuleEntry) (es : List RuleEntry) (stream : Stream) → decides dev ctx records e stream ≡ false → find_decider dev ctx records (e ∷ es) stream ≡ put_before e (find_decider dev ctx records es (behind (rule_takes dev e) stream))
found_later dev ctx records e es stream h = cond-false (decides dev ctx records e stream) (record { before = []; rest = e ∷ es }) (put_before e (find_decider dev ctx records es (behind (rule_takes dev e) stream))) h

-- the words of the rules behind the first
behind_first : (dev : DeviceRecord) (ctx : Context) (records : List DeviceRecord) (e f : RuleEntry) (es : List RuleEntry) (stream : Stream) → decides dev ctx records f (behind (words_taken dev (e ∷ es)) stream) ≡ decides dev ctx records f (behind (words_taken dev es) (behind (rule_takes dev e) stream))
behind_first dev ctx records e f es stream = ap (λ (s : Stream). decides dev ctx records f s) (behind_add (rule_takes dev e) (words_taken dev es) stream)

later_decider : (dev : DeviceRecord) (ctx : Context) (records : List DeviceRecord) (f : RuleEntry) (es : List RuleEntry) (stream : Stream) (i : ℕ) (e : RuleEntry) → IsDecider dev ctx records (f ∷ es) stream (suc i) e → IsDecider dev ctx records es (behind (rule_takes dev f) stream) i e
later_decider dev ctx records f es stream i e d = record {
  there = d.there;
  deciding = sym (behind_first dev ctx records f e (take i es) stream) ∙ d.deciding;
  first = λ k g lt there t. d.first (suc k) g (omega arith) there (behind_first dev ctx records f g (take k es) stream ∙ t);
}

found_decider : (dev : DeviceRecord) (ctx : Context) (records : List DeviceRecord) (es : List RuleEntry) (stream : Stream) (i : ℕ) (e : RuleEntry) → IsDecider dev ctx records es stream i e → find_decider dev ctx records es stream ≡ record { before = take i es; rest = e ∷ drop (suc i) es }
found_decider dev ctx records [] stream i e d = absurd (none-some e d.there)
found_decider dev ctx records (f ∷ es) stream zero e d =
    let same : f ≡ e = same_Some f e d.there in
    found_here dev ctx records f es stream (subst (λ (v : RuleEntry). decides dev ctx records v stream ≡ true) (sym same) d.deciding) ∙ ap (λ (v : RuleEntry). record { before = []; rest = v ∷ es }) same
found_decider dev ctx records (f ∷ es) stream (suc i) e d =
    found_later dev ctx records f es stream (not_true (decides dev ctx records f stream) (d.first zero f (omega arith) refl))
    ∙ ap (λ (v : Found). put_before f v) (found_decider dev ctx records es (behind (rule_takes dev f) stream) i e (later_decider dev ctx records f es stream i e d))

later_none : (dev : DeviceRecord) (ctx : Context) (records : List DeviceRecord) (f : RuleEntry) (es : List RuleEntry) (stream : Stream) → HasNoDecider dev ctx records (f ∷ es) stream → HasNoDecider dev ctx records es (behind (rule_takes dev f) stream)
later_none dev ctx records f es stream n = λ k e there t. n (suc k) e there (behind_first dev ctx records f e (take k es) stream ∙ t)

found_none : (dev : DeviceRecord) (ctx : Context) (records : List DeviceRecord) (es : List RuleEntry) (stream : Stream) → HasNoDecider dev ctx records es stream → find_decider dev ctx records es stream ≡ record { before = es; rest = [] }
found_none dev ctx records [] stream n = refl
found_none dev ctx records (f ∷ es) stream n =
    found_later dev ctx records f es stream (not_true (decides dev ctx records f stream) (n zero f refl))
    ∙ ap (λ (v : Found). put_before f v) (found_none dev ctx records es (behind (rule_takes dev f) stream) (later_none dev ctx records f es stream n))

-- one rule decides, or none does
first_decider : (dev : DeviceRecord) (ctx : Context) (records : List DeviceRecord) (f : RuleEntry) (es : List RuleEntry) (stream : Stream) → decides dev ctx records f stream ≡ true → IsDecider dev ctx records (f ∷ es) stream zero f
first_decider dev ctx records f es stream h = record { there = refl; deciding = h; first = λ k g lt there. absurd (omega arith) }

next_decider : (dev : DeviceRecord) (ctx : Context) (records : List DeviceRecord) (f : RuleEntry) (es : List RuleEntry) (stream : Stream) (i : ℕ) (e : RuleEntry) → decides dev ctx records f stream ≡ false → IsDecider dev ctx records es (behind (rule_takes dev f) stream) i e → IsDecider dev ctx records (f ∷ es) stream (suc i) e
next_decider dev ctx records f es stream i e h d =
    let Goal : ℕ → Type 0 = λ k. (g : RuleEntry) → k < suc i → slice_get (f ∷ es) k ≡ Some g → ¬ IsTrue (decides dev ctx records g (behind (words_taken dev (take k (f ∷ es))) stream)) in
    let first : (k : ℕ) → Goal k = λ k. elim k as Goal [
      | zero ↦ λ g lt there. subst (λ (v : RuleEntry). ¬ IsTrue (decides dev ctx records v stream)) (same_Some f g there) (true-not_false (decides dev ctx records f stream) h)
      | suc k ↦ λ g lt there t. d.first k g (omega arith) there (sym (behind_first dev ctx records f g (take k es) stream) ∙ t)
    ] in
    record { there = d.there; deciding = behind_first dev ctx records f e (take i es) stream ∙ d.deciding; first = first }

next_none : (dev : DeviceRecord) (ctx : Context) (records : List DeviceRecord) (f : RuleEntry) (es : List RuleEntry) (stream : Stream) → decides dev ctx records f stream ≡ false → HasNoDecider dev ctx records es (behind (rule_takes dev f) stream) → HasNoDecider dev ctx records (f ∷ es) stream
next_none dev ctx records f es stream h n zero e there = subst (λ (v : RuleEntry). ¬ IsTrue (decides dev ctx records v stream)) (same_Some f e there) (true-not_false (decides dev ctx records f stream) h)
next_none dev ctx records f es stream h n (suc k) e there = λ t. n k e there (sym (behind_first dev ctx records f e (take k es) stream) ∙ t)

pub some_decider : (dev : DeviceRecord) (ctx : Context) (records : List DeviceRecord) (es : List RuleEntry) (stream : Stream) → ((place : ℕ) × (entry : RuleEntry) × IsDecider dev ctx records es stream place entry) ⊎ HasNoDecider dev ctx records es stream
some_decider dev ctx records [] stream = inr (λ k e there. absurd (none-some e there))
some_decider dev ctx records (f ∷ es) stream =
    let T : Bool → Type 0 = λ b. decides dev ctx records f stream ≡ b → ((place : ℕ) × (entry : RuleEntry) × IsDecider dev ctx records (f ∷ es) stream place entry) ⊎ HasNoDecider dev ctx records (f ∷ es) stream in
    let g : (b : Bool) → T b = λ b. elim b as T [
      | true ↦ λ h. inl (zero, f, first_decider dev ctx records f es stream h)
      | false ↦ λ h. elim (some_decider dev ctx records es (behind (rule_takes dev f) stream)) [
        | inl k ↦ inl (suc k.0, k.1, next_decider dev ctx records f es stream k.0 k.1 h k.2)
        | inr n ↦ inr (next_none dev ctx records f es stream h n)
      ]
    ] in
    g (decides dev ctx records f stream) refl

pub one_decider : (dev : DeviceRecord) (ctx : Context) (records : List DeviceRecord) (es : List RuleEntry) (stream : Stream) (place other : ℕ) (entry another : RuleEntry) → IsDecider dev ctx records es stream place entry → IsDecider dev ctx records es stream other another → (place ≡ other) × (entry ≡ another)
one_decider dev ctx records es stream place other entry another a b = elim (cases_order place other) [
  | inl same ↦ (same, same_Some entry another (sym a.there ∙ (ap (λ (k : ℕ). slice_get es k) same ∙ b.there)))
  | inr (inl lt) ↦ absurd (b.first place entry lt a.there a.deciding)
  | inr (inr gt) ↦ absurd (a.first other another gt b.there b.deciding)
]

pub decider_or_not : (dev : DeviceRecord) (ctx : Context) (records : List DeviceRecord) (es : List RuleEntry) (stream : Stream) (place : ℕ) (entry : RuleEntry) → IsDecider dev ctx records es stream place entry → HasNoDecider dev ctx records es stream → ⊥
decider_or_not dev ctx records es stream place entry a n = n place entry a.there a.deciding

-- the rules before an element, and what is found from it on
abbrev pub behind_rules : List RuleEntry → Found → Found
behind_rules front f = record { before = front ++ f.before; rest = f.rest }

pub later_found : (dev : DeviceRecord) (ctx : Context) (records : List DeviceRecord) (front : List RuleEntry) (e : RuleEntry) (es : List RuleEntry) (stream next : Stream) → decides dev ctx records e stream ≡ false → next ≡ behind (rule_takes dev e) stream → behind_rules front (find_decider dev ctx records (e ∷ es) stream) ≡ behind_rules (front ++ e ∷ []) (find_decider dev ctx records es next)
later_found dev ctx records front e es stream next h n =
    ap (λ (f : Found). behind_rules front f) (found_later dev ctx records e es stream h)
    ∙ ap (λ (s : Stream). behind_rules front (put_before e (find_decider dev ctx records es s))) (sym n)
    ∙ (let f = find_decider dev ctx records es next in ap (λ (v : List RuleEntry). record { before = v; rest = f.rest }) (sym (append_assoc front (e ∷ []) f.before)))

pub words_more : (dev : DeviceRecord) (front : List RuleEntry) (e : RuleEntry) (start stream next : Stream) → stream ≡ behind (words_taken dev front) start → next ≡ behind (rule_takes dev e) stream → next ≡ behind (words_taken dev (front ++ e ∷ [])) start
words_more dev front e start stream next s n =
    let all : words_taken dev (front ++ e ∷ []) ≡ words_taken dev front + rule_takes dev e = taken_append dev front (e ∷ []) ∙ (omega arith) in
    n ∙ ap (λ (v : Stream). behind (rule_takes dev e) v) s ∙ sym (behind_add (words_taken dev front) (rule_takes dev e) start) ∙ ap (λ (n : ℕ). behind n start) (sym all)

pub found_at : (dev : DeviceRecord) (ctx : Context) (records : List DeviceRecord) (front : List RuleEntry) (e : RuleEntry) (es : List RuleEntry) (stream : Stream) → decides dev ctx records e stream ≡ true → behind_rules front (find_decider dev ctx records (e ∷ es) stream) ≡ record { before = front; rest = e ∷ es }
found_at dev ctx records front e es stream h =
    ap (λ (f : Found). behind_rules front f) (found_here dev ctx records e es stream h)
    ∙ ap (λ (v : List RuleEntry). record { before = v; rest = e ∷ es }) (append-nil front)

-- the rules while a loop over them goes on
pub left_at : (f : RuleEntry → RuleEntry) (es now : List RuleEntry) (i : ℕ) (e : RuleEntry) → i < length es → now ≡ map f (take i es) ++ drop i es → e ≡ get_or now i e → drop i es ≡ e ∷ drop (i + 1) es
left_at f es now i e lt n h =
    at_drop_more (λ (v : List RuleEntry). v) es i e lt
    ∙ ap (λ (d : RuleEntry). d ∷ drop (i + 1) es) (sym (h ∙ ap (λ (v : List RuleEntry). get_or v i e) n ∙ unchanged es i e lt)) where
      unchanged : (es : List RuleEntry) (i : ℕ) (d : RuleEntry) → i < length es → get_or (map f (take i es) ++ drop i es) i d ≡ get_or es i d
      unchanged [] i d lt = absurd (omega arith)
      unchanged (g ∷ es) zero d lt = refl
      unchanged (g ∷ es) (suc i) d lt = unchanged es i d (omega arith)

pub front_more : (es : List RuleEntry) (i : ℕ) (e : RuleEntry) (rest : List RuleEntry) → i < length es → drop i es ≡ e ∷ rest → take (i + 1) es ≡ take i es ++ e ∷ []
front_more es i e rest lt left =
    let same : get_or es i e ≡ e = ap (λ (v : List RuleEntry). get_or v 0 e) (sym (at_drop_more (λ (v : List RuleEntry). v) es i e lt) ∙ left) in
    take_more es i e lt ∙ ap (λ (d : RuleEntry). take i es ++ d ∷ []) same

pub set_in : (f : RuleEntry → RuleEntry) (es now rest : List RuleEntry) (i : ℕ) (e new : RuleEntry) → i < length es → now ≡ map f (take i es) ++ e ∷ rest → set now i new ≡ map f (take i es) ++ new ∷ rest
set_in f es now rest i e new lt n =
    ap (λ (v : List RuleEntry). set v i new) n ∙ set_at (map f (take i es)) e rest new i (length-map (take i es) f ∙ length-take-le i es (omega arith))

pub map_last : (f : RuleEntry → RuleEntry) (front : List RuleEntry) (e : RuleEntry) (rest : List RuleEntry) → map f front ++ f e ∷ rest ≡ map f (front ++ e ∷ []) ++ rest
map_last f [] e rest = refl
map_last f (g ∷ front) e rest = ap (λ (v : List RuleEntry). f g ∷ v) (map_last f front e rest)

-- what is found are the rules, and the one that decides matches
pub whole_list : (dev : DeviceRecord) (ctx : Context) (records : List DeviceRecord) (es : List RuleEntry) (stream : Stream) → (find_decider dev ctx records es stream).before ++ (find_decider dev ctx records es stream).rest ≡ es
whole_list dev ctx records [] stream = refl
whole_list dev ctx records (e ∷ es) stream =
    let later = find_decider dev ctx records es (behind (rule_takes dev e) stream) in
    elim (decides dev ctx records e stream) as (λ (b : Bool). (cond b (record { before = []; rest = e ∷ es }) (put_before e later)).before ++ (cond b (record { before = []; rest = e ∷ es }) (put_before e later)).rest ≡ e ∷ es) [
      | true ↦ refl
      | false ↦ ap (λ (v : List RuleEntry). e ∷ v) (whole_list dev ctx records es (behind (rule_takes dev e) stream))
    ]

pub first_matches : (dev : DeviceRecord) (ctx : Context) (records : List DeviceRecord) (es : List RuleEntry) (stream : Stream) → FirstMatches dev (find_decider dev ctx records es stream).rest
first_matches dev ctx records [] stream = tt
first_matches dev ctx records (e ∷ es) stream =
    let later = find_decider dev ctx records es (behind (rule_takes dev e) stream) in
    let T : Bool → Type 0 = λ b. decides dev ctx records e stream ≡ b → FirstMatches dev (cond b (record { before = []; rest = e ∷ es }) (put_before e later)).rest in
    let g : (b : Bool) → T b = λ b. elim b as T [
      | true ↦ λ t. (and_parts (matched dev e) (rule_holds ctx records e stream) t).0
      | false ↦ λ t. first_matches dev ctx records es (behind (rule_takes dev e) stream)
    ] in
    g (decides dev ctx records e stream) refl

-- the rules keep their ids
id_seen : (dev : DeviceRecord) (moment : Moment) (e : RuleEntry) → (seen dev moment e).id ≡ e.id
id_seen dev moment e = elim (matched dev e) as (λ (b : Bool). (cond b (record e { history = record e.history { evaluated = Some (greatest e.history.evaluated moment) } }) e).id ≡ e.id) [ true ↦ refl | false ↦ refl ]

ids_found : (dev : DeviceRecord) (moment : Moment) (before rest : List RuleEntry) → ids (map (seen dev moment) before ++ noted_first moment rest) ≡ ids (before ++ rest)
ids_found dev moment [] [] = refl
ids_found dev moment [] (e ∷ rest) = refl
ids_found dev moment (e ∷ before) rest = ap (λ (n : ℕ). n ∷ ids (map (seen dev moment) before ++ noted_first moment rest)) (id_seen dev moment e) ∙ ap (λ (v : List ℕ). e.id ∷ v) (ids_found dev moment before rest)

mark_seen : (dev : DeviceRecord) (moment : Moment) (e : RuleEntry) → (seen dev moment e).mark ≡ e.mark
mark_seen dev moment e = elim (matched dev e) as (λ (b : Bool). (cond b (record e { history = record e.history { evaluated = Some (greatest e.history.evaluated moment) } }) e).mark ≡ e.mark) [ true ↦ refl | false ↦ refl ]

marks_found : (dev : DeviceRecord) (moment : Moment) (before rest : List RuleEntry) → marks (map (seen dev moment) before ++ noted_first moment rest) ≡ marks (before ++ rest)
marks_found dev moment [] [] = refl
marks_found dev moment [] (e ∷ rest) = refl
marks_found dev moment (e ∷ before) rest = ap (λ (m : Mark). m ∷ marks (map (seen dev moment) before ++ noted_first moment rest)) (mark_seen dev moment e) ∙ ap (λ (v : List Mark). e.mark ∷ v) (marks_found dev moment before rest)

length_found : (dev : DeviceRecord) (moment : Moment) (before rest : List RuleEntry) → length (map (seen dev moment) before ++ noted_first moment rest) ≡ length (before ++ rest)
length_found dev moment [] [] = refl
length_found dev moment [] (e ∷ rest) = refl
length_found dev moment (e ∷ before) rest = ap suc (length_found dev moment before rest)

pub numbered_found : (dev : DeviceRecord) (moment : Moment) (f : Found) (next : ℕ) → IsNumbered (f.before ++ f.rest) next → IsNumbered (rules_judged dev moment f) next
numbered_found dev moment f next n = numbered_same (f.before ++ f.rest) (rules_judged dev moment f) next (ids_found dev moment f.before f.rest) (marks_found dev moment f.before f.rest) (length_found dev moment f.before f.rest) n

-- the judgement, by the place of the rule that decides
up_to : (dev : DeviceRecord) (ctx : Context) (records : List DeviceRecord) (es : List RuleEntry) (stream : Stream) (i : ℕ) (e : RuleEntry) → IsDecider dev ctx records es stream i e → take i es ++ e ∷ [] ≡ take (i + 1) es
up_to dev ctx records es stream i e d = sym (first_part es i e d.there) where
  first_part : (es : List RuleEntry) (i : ℕ) (e : RuleEntry) → slice_get es i ≡ Some e → take (i + 1) es ≡ take i es ++ e ∷ []
  first_part [] i e h = absurd (none-some e h)
  first_part (f ∷ es) zero e h = ap (λ (v : RuleEntry). v ∷ []) (same_Some f e h)
  first_part (f ∷ es) (suc i) e h =
      let more : suc i + 1 ≡ suc (i + 1) = omega arith in
      ap (λ (n : ℕ). take n (f ∷ es)) more ∙ ap (λ (v : List RuleEntry). f ∷ v) (first_part es i e h)

pub judged_at : (dev : DeviceRecord) (ctx : Context) (records : List DeviceRecord) (es : List RuleEntry) (stream : Stream) (i : ℕ) (e : RuleEntry) → IsDecider dev ctx records es stream i e → judgement_found dev ctx.moment (find_decider dev ctx records es stream) ≡ record { moment = ctx.moment; evaluated = ids (filter (matched dev) (take (i + 1) es)); applied = Some e.id }
judged_at dev ctx records es stream i e d =
    ap (λ (f : Found). judgement_found dev ctx.moment f) (found_decider dev ctx records es stream i e d)
    ∙ ap (λ (v : List RuleEntry). record { moment = ctx.moment; evaluated = ids (filter (matched dev) v); applied = Some e.id }) (up_to dev ctx records es stream i e d)

pub judged_by_none : (dev : DeviceRecord) (ctx : Context) (records : List DeviceRecord) (es : List RuleEntry) (stream : Stream) → HasNoDecider dev ctx records es stream → judgement_found dev ctx.moment (find_decider dev ctx records es stream) ≡ record { moment = ctx.moment; evaluated = ids (filter (matched dev) es); applied = None }
judged_by_none dev ctx records es stream n =
    ap (λ (f : Found). judgement_found dev ctx.moment f) (found_none dev ctx records es stream n)
    ∙ ap (λ (v : List RuleEntry). record { moment = ctx.moment; evaluated = ids (filter (matched dev) v); applied = None }) (append-nil es)

-- the conditions of a rule, by all judgements
holds_decides : (judgements : List Judgement) (id : ℕ) (history : History) (ctx : Context) (records : List DeviceRecord) (conds : Option Conds) (words : List ℕ) → IsHistory judgements id history → Decides (rule_conditions_hold history ctx records conds words) (RuleConditionsHold judgements id ctx records conds words)
holds_decides judgements id history ctx records None words h = (λ t. tt, λ t. refl)
holds_decides judgements id history ctx records (Some conds) words h = conditions_decide judgements id history ctx records conds words h

pub stands_holds : (judgements : List Judgement) (es : List RuleEntry) (next : ℕ) (e : RuleEntry) (ctx : Context) (records : List DeviceRecord) (stream : Stream) → StandsFor es next judgements → Has es e → Decides (rule_holds ctx records e stream) (RuleHolds judgements ctx records e stream)
stands_holds judgements es next e ctx records stream s m = holds_decides judgements e.id e.history ctx records e.rule.conds (words_of (conditions_take e.rule.conds) stream) (s.histories e m)

-- rules without conditions: the first that matches decides, and no word is taken
plain_decides : (dev : DeviceRecord) (ctx : Context) (records : List DeviceRecord) (e : RuleEntry) (stream : Stream) → e.rule.conds ≡ None → decides dev ctx records e stream ≡ matched dev e
plain_decides dev ctx records e stream p = ap (λ (v : Option Conds). matched dev e && rule_conditions_hold e.history ctx records v (words_of (conditions_take v) stream)) p ∙ and-true (matched dev e)

plain_takes : (dev : DeviceRecord) (e : RuleEntry) → e.rule.conds ≡ None → rule_takes dev e ≡ 0
plain_takes dev e p =
    let none : (b : Bool) → cond b (conditions_take None) 0 ≡ 0 = λ b. elim b as (λ (b : Bool). cond b (conditions_take None) 0 ≡ 0) [ true ↦ refl | false ↦ refl ] in
    ap (λ (v : Option Conds). cond (matched dev e) (conditions_take v) 0) p ∙ none (matched dev e)

pub plain_found : (dev : DeviceRecord) (ctx : Context) (records : List DeviceRecord) (implicit : Target) (es : List RuleEntry) (stream : Stream) → All (λ (e : RuleEntry). e.rule.conds ≡ None) es → (answer_by implicit (decider (find_decider dev ctx records es stream)) ≡ answered dev implicit es) × (rules_judged dev ctx.moment (find_decider dev ctx records es stream) ≡ judged dev ctx.moment es) × (words_taken dev (reached (find_decider dev ctx records es stream)) ≡ 0)
plain_found dev ctx records implicit [] stream h = (refl, refl, refl)
plain_found dev ctx records implicit (e ∷ es) stream h =
    let plain : e.rule.conds ≡ None = h zero e (omega arith) in
    let takes : rule_takes dev e ≡ 0 = plain_takes dev e plain in
    let next : Stream = behind (rule_takes dev e) stream in
    let later : Found = find_decider dev ctx records es next in
    let rest = plain_found dev ctx records implicit es next (λ k d lt. h (suc k) d (omega arith)) in
    let T : Bool → Type 0 = λ b. matched dev e ≡ b → (answer_by implicit (decider (find_decider dev ctx records (e ∷ es) stream)) ≡ answered dev implicit (e ∷ es)) × (rules_judged dev ctx.moment (find_decider dev ctx records (e ∷ es) stream) ≡ judged dev ctx.moment (e ∷ es)) × (words_taken dev (reached (find_decider dev ctx records (e ∷ es) stream)) ≡ 0) in
    let g : (b : Bool) → T b = λ b. elim b as T [
      | true ↦ λ t.
          let f : find_decider dev ctx records (e ∷ es) stream ≡ record { before = []; rest = e ∷ es } = found_here dev ctx records e es stream (plain_decides dev ctx records e stream plain ∙ t) in
          let taken : rule_takes dev e + 0 ≡ 0 = omega arith in (
            ap (λ (v : Found). answer_by implicit (decider v)) f ∙ sym (ap (λ (o : Option RuleEntry). answer_by implicit o) (cond-true (matched dev e) (Some e) (find (matched dev) es) t)),
            ap (λ (v : Found). rules_judged dev ctx.moment v) f ∙ sym (cond-true (matched dev e) (rule_noted ctx.moment e ∷ es) (e ∷ judged dev ctx.moment es) t),
            ap (λ (v : Found). words_taken dev (reached v)) f ∙ taken,
          )
      | false ↦ λ t.
          let f : find_decider dev ctx records (e ∷ es) stream ≡ put_before e later = found_later dev ctx records e es stream (plain_decides dev ctx records e stream plain ∙ t) in
          let same : seen dev ctx.moment e ≡ e = cond-false (matched dev e) (record e { history = record e.history { evaluated = Some (greatest e.history.evaluated ctx.moment) } }) e t in
          let taken : rule_takes dev e + words_taken dev (reached later) ≡ 0 = omega (arith, takes, rest.2) in (
            ap (λ (v : Found). answer_by implicit (decider v)) f ∙ rest.0 ∙ sym (ap (λ (o : Option RuleEntry). answer_by implicit o) (cond-false (matched dev e) (Some e) (find (matched dev) es) t)),
            ap (λ (v : Found). rules_judged dev ctx.moment v) f
                ∙ ap (λ (v : RuleEntry). v ∷ rules_judged dev ctx.moment later) same
                ∙ ap (λ (v : List RuleEntry). e ∷ v) rest.1
                ∙ sym (cond-false (matched dev e) (rule_noted ctx.moment e ∷ es) (e ∷ judged dev ctx.moment es) t),
            ap (λ (v : Found). words_taken dev (reached v)) f ∙ taken,
          )
    ] in
    g (matched dev e) refl

-- the outcome, by the place of the rule that decides
pub outcome_at : (dev : DeviceRecord) (ctx : Context) (records : List DeviceRecord) (implicit : Target) (es : List RuleEntry) (stream : Stream) (i : ℕ) (e : RuleEntry) → IsDecider dev ctx records es stream i e → (answer_by implicit (decider (find_decider dev ctx records es stream)) ≡ (e.rule.target, cause.Rule e.id)) × (rules_judged dev ctx.moment (find_decider dev ctx records es stream) ≡ map (seen dev ctx.moment) (take i es) ++ rule_noted ctx.moment e ∷ drop (i + 1) es) × (reached (find_decider dev ctx records es stream) ≡ take (i + 1) es)
outcome_at dev ctx records implicit es stream i e d =
    let more : suc i ≡ i + 1 = omega arith in
    let f : find_decider dev ctx records es stream ≡ record { before = take i es; rest = e ∷ drop (i + 1) es } = found_decider dev ctx records es stream i e d ∙ ap (λ (n : ℕ). record { before = take i es; rest = e ∷ drop n es }) more in (
      ap (λ (v : Found). answer_by implicit (decider v)) f,
      ap (λ (v : Found). rules_judged dev ctx.moment v) f,
      ap (λ (v : Found). reached v) f ∙ up_to dev ctx records es stream i e d,
    )

pub outcome_none : (dev : DeviceRecord) (ctx : Context) (records : List DeviceRecord) (implicit : Target) (es : List RuleEntry) (stream : Stream) → HasNoDecider dev ctx records es stream → (answer_by implicit (decider (find_decider dev ctx records es stream)) ≡ (implicit, cause.Implicit)) × (rules_judged dev ctx.moment (find_decider dev ctx records es stream) ≡ map (seen dev ctx.moment) es) × (reached (find_decider dev ctx records es stream) ≡ es)
outcome_none dev ctx records implicit es stream n =
    let f : find_decider dev ctx records es stream ≡ record { before = es; rest = [] } = found_none dev ctx records es stream n in (
      ap (λ (v : Found). answer_by implicit (decider v)) f,
      ap (λ (v : Found). rules_judged dev ctx.moment v) f ∙ append-nil (map (seen dev ctx.moment) es),
      ap (λ (v : Found). reached v) f ∙ append-nil es,
    )
