-- Conditions one after the other, with the words that they take.
use Rattle.std.proofs.Common.{◌≡◌, ◌≤◌, ℕ, suc, List, ◌∷◌, Bool, true, false, not, cond, ◌&&◌, ◌||◌, drop, length, refl, sym, ap, ◌∙◌}
use Rattle.std.specs.Prelude.{slice_index}
use Rattle.std.specs.List.{list_all, list_any}
use Rattle.std.proofs.Math.Bool.{and_assoc, or_assoc, and-true, or-false}
use Rattle.std.proofs.lemmas.List.{at_drop_all}
use Rattle.rand_core.specs.Stream.{Stream, next_u64}
use Rattle.ug_types.specs.declared.record.DeviceRecord.{DeviceRecord}
use Rattle.ug_types.specs.declared.rule.Cond.{Cond}
use Rattle.ug_types.specs.declared.rule.CondKind.{CondKind}
use Rattle.ug_types.specs.declared.rule.CondKind.TheVariants as kind
use Rattle.ug_types.specs.declared.rule.Conds.{Conds}
use Rattle.ug_cond.specs.declared.context.Context.{Context}
use Rattle.ug_cond.specs.declared.history.History.{History}
use Rattle.ug_cond.specs.Conditions.{is_so, condition_holds, conditions_hold, by_operator}
use Rattle.ug_cond.specs.Words.{words_of, behind, is_random, random_count, with_words}

-- the conditions with the next words of a generator
abbrev pub drawn : List Cond → Stream → List (Cond × ℕ)
drawn conds stream = with_words conds (words_of (random_count conds) stream)

-- what is left behind one
abbrev pub after_one : CondKind → Stream → Stream
after_one k stream = cond (is_random k) (next_u64 stream).1 stream

first_word : (history : History) (ctx : Context) (records : List DeviceRecord) (n : ℕ) (stream : Stream) (k : CondKind) → is_so history ctx records (slice_index (words_of (cond (is_random k) (suc n) n) stream) 0) k ≡ is_so history ctx records (next_u64 stream).0 k
first_word history ctx records n stream (kind.LocalTime begin end) = refl
first_word history ctx records n stream (kind.AllowedMatches query) = refl
first_word history ctx records n stream (kind.RuleApplied past) = refl
first_word history ctx records n stream (kind.RuleEvaluated past) = refl
first_word history ctx records n stream (kind.Random billionths) = refl
first_word history ctx records n stream kind.True = refl
first_word history ctx records n stream kind.False = refl

first_holds : (history : History) (ctx : Context) (records : List DeviceRecord) (n : ℕ) (stream : Stream) (c : Cond) → condition_holds history ctx records (c, slice_index (words_of (cond (is_random c.kind) (suc n) n) stream) 0) ≡ condition_holds history ctx records (c, (next_u64 stream).0)
first_holds history ctx records n stream c = ap (λ b. cond c.negated (not b) b) (first_word history ctx records n stream c.kind)

rest_words : (n : ℕ) (stream : Stream) (b : Bool) → cond b (drop 1 (words_of (cond b (suc n) n) stream)) (words_of (cond b (suc n) n) stream) ≡ words_of n (cond b (next_u64 stream).1 stream)
rest_words n stream true = refl
rest_words n stream false = refl

rest_behind : (n : ℕ) (stream : Stream) (b : Bool) → behind (cond b (suc n) n) stream ≡ behind n (cond b (next_u64 stream).1 stream)
rest_behind n stream true = refl
rest_behind n stream false = refl

all_first : (history : History) (ctx : Context) (records : List DeviceRecord) (c : Cond) (conds : List Cond) (stream : Stream) → list_all (condition_holds history ctx records) (drawn (c ∷ conds) stream) ≡ (condition_holds history ctx records (c, (next_u64 stream).0) && list_all (condition_holds history ctx records) (drawn conds (after_one c.kind stream)))
all_first history ctx records c conds stream =
    let one = condition_holds history ctx records in
    let words : List ℕ = words_of (random_count (c ∷ conds)) stream in
    ap (λ b. b && list_all one (with_words conds (cond (is_random c.kind) (drop 1 words) words))) (first_holds history ctx records (random_count conds) stream c)
    ∙ ap (λ (ws : List ℕ). one (c, (next_u64 stream).0) && list_all one (with_words conds ws)) (rest_words (random_count conds) stream (is_random c.kind))

some_first : (history : History) (ctx : Context) (records : List DeviceRecord) (c : Cond) (conds : List Cond) (stream : Stream) → list_any (condition_holds history ctx records) (drawn (c ∷ conds) stream) ≡ (condition_holds history ctx records (c, (next_u64 stream).0) || list_any (condition_holds history ctx records) (drawn conds (after_one c.kind stream)))
some_first history ctx records c conds stream =
    let one = condition_holds history ctx records in
    let words : List ℕ = words_of (random_count (c ∷ conds)) stream in
    ap (λ b. b || list_any one (with_words conds (cond (is_random c.kind) (drop 1 words) words))) (first_holds history ctx records (random_count conds) stream c)
    ∙ ap (λ (ws : List ℕ). one (c, (next_u64 stream).0) || list_any one (with_words conds ws)) (rest_words (random_count conds) stream (is_random c.kind))

-- one condition more
pub all_more : (history : History) (ctx : Context) (records : List DeviceRecord) (c : Cond) (conds : List Cond) (stream next : Stream) (before here : Bool) → here ≡ condition_holds history ctx records (c, (next_u64 stream).0) → next ≡ after_one c.kind stream → (before && here && list_all (condition_holds history ctx records) (drawn conds next)) ≡ (before && list_all (condition_holds history ctx records) (drawn (c ∷ conds) stream))
all_more history ctx records c conds stream next before here h n =
    let one = condition_holds history ctx records in
    and_assoc before here (list_all one (drawn conds next))
    ∙ ap (λ b. before && (b && list_all one (drawn conds next))) h
    ∙ ap (λ (s : Stream). before && (one (c, (next_u64 stream).0) && list_all one (drawn conds s))) n
    ∙ ap (λ b. before && b) (sym (all_first history ctx records c conds stream))

pub some_more : (history : History) (ctx : Context) (records : List DeviceRecord) (c : Cond) (conds : List Cond) (stream next : Stream) (before here : Bool) → here ≡ condition_holds history ctx records (c, (next_u64 stream).0) → next ≡ after_one c.kind stream → (before || here || list_any (condition_holds history ctx records) (drawn conds next)) ≡ (before || list_any (condition_holds history ctx records) (drawn (c ∷ conds) stream))
some_more history ctx records c conds stream next before here h n =
    let one = condition_holds history ctx records in
    or_assoc before here (list_any one (drawn conds next))
    ∙ ap (λ b. before || (b || list_any one (drawn conds next))) h
    ∙ ap (λ (s : Stream). before || (one (c, (next_u64 stream).0) || list_any one (drawn conds s))) n
    ∙ ap (λ b. before || b) (sym (some_first history ctx records c conds stream))

pub behind_more : (c : Cond) (conds : List Cond) (stream next : Stream) → next ≡ after_one c.kind stream → behind (random_count conds) next ≡ behind (random_count (c ∷ conds)) stream
behind_more c conds stream next n = ap (λ (s : Stream). behind (random_count conds) s) n ∙ sym (rest_behind (random_count conds) stream (is_random c.kind))

-- the walk's end: none is left
pub walked_value : (history : History) (ctx : Context) (records : List DeviceRecord) (conds : Conds) (items : List Cond) (i : ℕ) (stream start : Stream) (all some held : Bool) → length items ≤ i → (all && list_all (condition_holds history ctx records) (drawn (drop i items) stream)) ≡ list_all (condition_holds history ctx records) (drawn conds.items start) → (some || list_any (condition_holds history ctx records) (drawn (drop i items) stream)) ≡ list_any (condition_holds history ctx records) (drawn conds.items start) → held ≡ by_operator conds.op all some → held ≡ conditions_hold history ctx records conds (words_of (random_count conds.items) start)
walked_value history ctx records conds items i stream start all some held past each one is =
    let holds = condition_holds history ctx records in
    let whole : all ≡ list_all holds (drawn conds.items start) =
    sym (and-true all) ∙ ap (λ b. all && b) (sym (at_drop_all (λ (cs : List Cond). list_all holds (drawn cs stream)) items i past)) ∙ each in
    let any : some ≡ list_any holds (drawn conds.items start) =
    sym (or-false some) ∙ ap (λ b. some || b) (sym (at_drop_all (λ (cs : List Cond). list_any holds (drawn cs stream)) items i past)) ∙ one in
    is
    ∙ ap (λ b. by_operator conds.op b some) whole
    ∙ ap (λ b. by_operator conds.op (list_all holds (drawn conds.items start)) b) any
