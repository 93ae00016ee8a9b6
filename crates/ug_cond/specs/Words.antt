-- The 64-bit words that random conditions take.
use Rattle.std.specs.Prelude.{ℕ, zero, suc, List, [], ◌∷◌, Bool, true, false, if◌then◌else◌, drop, slice_index}
use Rattle.rand_core.specs.Stream.{Stream, next_u64}
use Rattle.ug_types.specs.declared.rule.Cond.{Cond}
use Rattle.ug_types.specs.declared.rule.CondKind.{CondKind}
use Rattle.ug_types.specs.declared.rule.CondKind.TheVariants as kind

-- the next words of a generator, in order
abbrev pub words_of : ℕ → Stream → List ℕ
words_of zero stream = []
words_of (suc n) stream = (next_u64 stream).0 ∷ words_of n (next_u64 stream).1

-- what is left of it behind them
abbrev pub behind : ℕ → Stream → Stream
behind zero stream = stream
behind (suc n) stream = behind n (next_u64 stream).1

abbrev pub is_random : CondKind → Bool
is_random (kind.LocalTime begin end) = false
is_random (kind.AllowedMatches query) = false
is_random (kind.RuleApplied past) = false
is_random (kind.RuleEvaluated past) = false
is_random (kind.Random billionths) = true
is_random kind.True = false
is_random kind.False = false

-- how many conditions are random, and so how many words they take
abbrev pub random_count : List Cond → ℕ
random_count [] = 0
random_count (c ∷ conds) = if is_random c.kind then suc (random_count conds) else random_count conds

-- each condition with the next word, which a random one takes
abbrev pub with_words : List Cond → List ℕ → List (Cond × ℕ)
with_words [] words = []
with_words (c ∷ conds) words =
    (c, slice_index words 0) ∷ with_words conds (if is_random c.kind then drop 1 words else words)
