-- Where no rule asks for the devices that are allowed, these make no difference.
use Rattle.std.proofs.Common.{◌≡◌, ℕ, ◌∷◌, [], List, drop, Bool, true, false, not, cond, ◌&&◌, ◌||◌, Option, Some, None, refl, sym, ap, ◌∙◌, subst, true≢false}
use Rattle.std.specs.List.{list_all, list_any}
use Rattle.std.specs.Prelude.{slice_index}
use Rattle.std.proofs.lemmas.Bool.{or_parts}
use Rattle.rand_core.specs.Stream.{Stream}
use Rattle.ug_types.specs.declared.record.DeviceRecord.{DeviceRecord}
use Rattle.ug_types.specs.declared.rule.Cond.{Cond}
use Rattle.ug_types.specs.declared.rule.CondKind.{CondKind}
use Rattle.ug_types.specs.declared.rule.CondKind.TheVariants as kind
use Rattle.ug_types.specs.declared.rule.Conds.{Conds}
use Rattle.ug_cond.specs.declared.context.Context.{Context}
use Rattle.ug_cond.specs.declared.history.History.{History}
use Rattle.ug_cond.specs.Conditions.{is_so, condition_holds, by_operator}
use Rattle.ug_cond.specs.Words.{behind, is_random, with_words, words_of}
use Rattle.ug_policy.specs.declared.entry.RuleEntry.{RuleEntry}
use Rattle.ug_policy.specs.Asking.{asks_devices, conditions_ask, rule_asks}
use Rattle.ug_policy.specs.Deciding.{conditions_take, rule_takes, rule_conditions_hold, rule_holds, decides, Found, put_before, find_decider, reached}
use Rattle.ug_policy.specs.Matching.{matched}
use Rattle.ug_policy.proofs.Finding.{found_here, found_later}

so_alike : (history : History) (ctx : Context) (records others : List DeviceRecord) (word : ℕ) (k : CondKind) → asks_devices k ≡ false → is_so history ctx records word k ≡ is_so history ctx others word k
so_alike history ctx records others word (kind.LocalTime begin end) e = refl
so_alike history ctx records others word (kind.AllowedMatches query) e = absurd (true≢false e)
so_alike history ctx records others word (kind.RuleApplied past) e = refl
so_alike history ctx records others word (kind.RuleEvaluated past) e = refl
so_alike history ctx records others word (kind.Random billionths) e = refl
so_alike history ctx records others word kind.True e = refl
so_alike history ctx records others word kind.False e = refl

condition_alike : (history : History) (ctx : Context) (records others : List DeviceRecord) (c : Cond × ℕ) → asks_devices c.0.kind ≡ false → condition_holds history ctx records c ≡ condition_holds history ctx others c
condition_alike history ctx records others c e = ap (λ (b : Bool). cond c.0.negated (not b) b) (so_alike history ctx records others c.1 c.0.kind e)

all_alike : (history : History) (ctx : Context) (records others : List DeviceRecord) (cs : List Cond) (words : List ℕ) → list_any (λ (d : Cond). asks_devices d.kind) cs ≡ false → list_all (condition_holds history ctx records) (with_words cs words) ≡ list_all (condition_holds history ctx others) (with_words cs words)
all_alike history ctx records others [] words e = refl
all_alike history ctx records others (c ∷ cs) words e =
    let parts = or_parts (asks_devices c.kind) (list_any (λ (d : Cond). asks_devices d.kind) cs) e in
    let left : List ℕ = cond (is_random c.kind) (drop 1 words) words in
    ap (λ (b : Bool). b && list_all (condition_holds history ctx records) (with_words cs left)) (condition_alike history ctx records others (c, slice_index words 0) parts.0)
    ∙ ap (λ (b : Bool). condition_holds history ctx others (c, slice_index words 0) && b) (all_alike history ctx records others cs left parts.1)

any_alike : (history : History) (ctx : Context) (records others : List DeviceRecord) (cs : List Cond) (words : List ℕ) → list_any (λ (d : Cond). asks_devices d.kind) cs ≡ false → list_any (condition_holds history ctx records) (with_words cs words) ≡ list_any (condition_holds history ctx others) (with_words cs words)
any_alike history ctx records others [] words e = refl
any_alike history ctx records others (c ∷ cs) words e =
    let parts = or_parts (asks_devices c.kind) (list_any (λ (d : Cond). asks_devices d.kind) cs) e in
    let left : List ℕ = cond (is_random c.kind) (drop 1 words) words in
    ap (λ (b : Bool). b || list_any (condition_holds history ctx records) (with_words cs left)) (condition_alike history ctx records others (c, slice_index words 0) parts.0)
    ∙ ap (λ (b : Bool). condition_holds history ctx others (c, slice_index words 0) || b) (any_alike history ctx records others cs left parts.1)

conditions_alike : (history : History) (ctx : Context) (records others : List DeviceRecord) (conds : Option Conds) (words : List ℕ) → conditions_ask conds ≡ false → rule_conditions_hold history ctx records conds words ≡ rule_conditions_hold history ctx others conds words
conditions_alike history ctx records others None words e = refl
conditions_alike history ctx records others (Some conds) words e =
    ap (λ (b : Bool). by_operator conds.op b (list_any (condition_holds history ctx records) (with_words conds.items words))) (all_alike history ctx records others conds.items words e)
    ∙ ap (λ (b : Bool). by_operator conds.op (list_all (condition_holds history ctx others) (with_words conds.items words)) b) (any_alike history ctx records others conds.items words e)

decides_alike : (dev : DeviceRecord) (ctx : Context) (records others : List DeviceRecord) (e : RuleEntry) (stream : Stream) → rule_asks dev e ≡ false → decides dev ctx records e stream ≡ decides dev ctx others e stream
decides_alike dev ctx records others e stream =
    let T : Bool → Type 0 = λ b. (b && conditions_ask e.rule.conds) ≡ false → (b && rule_holds ctx records e stream) ≡ (b && rule_holds ctx others e stream) in
    let f : (b : Bool) → T b = λ b. elim b as T [
      | true ↦ λ h. conditions_alike e.history ctx records others e.rule.conds (words_of (conditions_take e.rule.conds) stream) h
      | false ↦ λ h. refl
    ] in
    f (matched dev e)

pub unasked : (dev : DeviceRecord) (ctx : Context) (records others : List DeviceRecord) (es : List RuleEntry) (stream : Stream) → list_any (rule_asks dev) (reached (find_decider dev ctx records es stream)) ≡ false → find_decider dev ctx others es stream ≡ find_decider dev ctx records es stream
unasked dev ctx records others [] stream none = refl
unasked dev ctx records others (e ∷ es) stream none =
    let next = behind (rule_takes dev e) stream in
    let T : Bool → Type 0 = λ b. decides dev ctx records e stream ≡ b → find_decider dev ctx others (e ∷ es) stream ≡ find_decider dev ctx records (e ∷ es) stream in
    let f : (b : Bool) → T b = λ b. elim b as T [
      | true ↦ λ h.
          let found = found_here dev ctx records e es stream h in
          let here : (rule_asks dev e || false) ≡ false = subst (λ (v : Found). list_any (rule_asks dev) (reached v) ≡ false) found none in
          found_here dev ctx others e es stream (sym (decides_alike dev ctx records others e stream (or_parts (rule_asks dev e) false here).0) ∙ h) ∙ sym found
      | false ↦ λ h.
          let found = found_later dev ctx records e es stream h in
          let both : (rule_asks dev e || list_any (rule_asks dev) (reached (find_decider dev ctx records es next))) ≡ false = subst (λ (v : Found). list_any (rule_asks dev) (reached v) ≡ false) found none in
          let parts = or_parts (rule_asks dev e) (list_any (rule_asks dev) (reached (find_decider dev ctx records es next))) both in
          found_later dev ctx others e es stream (sym (decides_alike dev ctx records others e stream parts.0) ∙ h) ∙ (ap (λ (v : Found). put_before e v) (unasked dev ctx records others es next parts.1) ∙ sym found)
    ] in
    f (decides dev ctx records e stream) refl
