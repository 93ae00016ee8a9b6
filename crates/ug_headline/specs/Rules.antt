-- Rules as usbguard-rules.conf(5) has them, written for the headline alone: which devices a rule
-- matches, and when its conditions hold. That the daemon goes by just these is proved.
use Rattle.std.specs.Prelude.{◌≡◌, ℕ, ◌+◌, ◌*◌, ◌^◌, ◌<◌, ◌≤◌, ◌⊎◌, Bool, true, false, List, [], ◌∷◌, Option, Some, None}
use Rattle.rand_core.specs.Stream.{Stream}
use Rattle.ug_types.specs.Elements.{Has}
use Rattle.ug_types.specs.declared.record.DeviceRecord.{DeviceRecord}
use Rattle.ug_types.specs.declared.record.Triple.{Triple}
use Rattle.ug_types.specs.declared.rule.Cond.{Cond}
use Rattle.ug_types.specs.declared.rule.CondKind.{CondKind}
use Rattle.ug_types.specs.declared.rule.CondKind.TheVariants as kind
use Rattle.ug_types.specs.declared.rule.Conds.{Conds}
use Rattle.ug_types.specs.declared.rule.Id.{Id}
use Rattle.ug_types.specs.declared.rule.Iface.{Iface}
use Rattle.ug_types.specs.declared.rule.Op.{Op}
use Rattle.ug_types.specs.declared.rule.Op.TheVariants.{AllOf, OneOf, NoneOf, Equals, EqualsOrdered}
use Rattle.ug_types.specs.declared.rule.Query.{Query}
use Rattle.ug_types.specs.declared.rule.Values.{Values}
use Rattle.ug_types.specs.declared.verdict.Moment.{Moment}
use Rattle.ug_match.specs.declared.covers.DeviceId.{DeviceId}
use Rattle.ug_cond.specs.declared.context.Context.{Context}
use Rattle.ug_cond.specs.Judgements.{Judgement}
use Rattle.ug_cond.specs.Words.{behind, random_count, with_words, words_of}
use Rattle.ug_policy.specs.declared.entry.RuleEntry.{RuleEntry}

-- ---- attributes

-- a star is any number
abbrev pub MatchesNumber : Option ℕ → ℕ → Type 0
MatchesNumber None n = Unit {0}
MatchesNumber (Some m) n = m ≡ n

abbrev pub MatchesId : Id → DeviceId → Type 0
MatchesId rule device =
    MatchesNumber rule.vendor device.vendor × MatchesNumber rule.product device.product

abbrev pub MatchesInterface : Iface → Triple → Type 0
MatchesInterface rule device =
    (rule.class ≡ device.class) × MatchesNumber rule.subclass device.subclass
    × MatchesNumber rule.protocol device.protocol

abbrev pub MatchesText : List ℕ → List ℕ → Type 0
MatchesText rule device = rule ≡ device

-- one by one, and none is left
abbrev pub MatchInOrder : {X Y : Type 0} → (X → Y → Type 0) → List X → List Y → Type 0
MatchInOrder Is [] [] = Unit {0}
MatchInOrder Is (x ∷ xs) (y ∷ ys) = Is x y × MatchInOrder Is xs ys
MatchInOrder Is xs ys = ⊥

-- the values of a rule, and those of a device
abbrev pub Compare : {X Y : Type 0} → (X → Y → Type 0) → Op → List X → List Y → Type 0
Compare {X} {Y} Is AllOf xs ys = (x : X) → Has xs x → (y : Y) × Has ys y × Is x y
Compare {X} {Y} Is OneOf xs ys = (x : X) × Has xs x × ((y : Y) × Has ys y × Is x y)
Compare {X} {Y} Is NoneOf xs ys = ¬ ((x : X) × Has xs x × ((y : Y) × Has ys y × Is x y))
Compare {X} {Y} Is Equals xs ys =
    ((x : X) → Has xs x → (y : Y) × Has ys y × Is x y)
    × ((y : Y) → Has ys y → (x : X) × Has xs x × Is x y)
Compare Is EqualsOrdered xs ys = MatchInOrder Is xs ys

-- an attribute that isn't given matches every device
abbrev pub Attribute : {X Y : Type 0} → (X → Y → Type 0) → Option (Values X) → List Y → Type 0
Attribute Is None ys = Unit {0}
Attribute Is (Some values) ys = Compare Is values.op values.items ys

pub record Matches (query : Query) (device : DeviceRecord) : Type 0 where
  pub id : Attribute MatchesId query.id
      (record { vendor = device.vendor; product = device.product } ∷ [])
  pub serial : Attribute MatchesText query.serial (device.serial ∷ [])
  pub name : Attribute MatchesText query.name (device.name ∷ [])
  pub hash : Attribute MatchesText query.hash (device.hash ∷ [])
  pub parent_hash : Attribute MatchesText query.parent_hash (device.parent_hash ∷ [])
  pub via_port : Attribute MatchesText query.via_port (device.via_port ∷ [])
  pub interface : Attribute MatchesInterface query.interface device.interfaces
  pub connect : Attribute MatchesText query.connect (device.connect ∷ [])

-- ---- conditions

-- so many seconds ago, or fewer; where no number is given, ever
abbrev pub IsNoOlder : Option ℕ → Moment → Moment → Type 0
IsNoOlder None now moment = Unit {0}
IsNoOlder (Some past) now moment = now.0 ≤ moment.0 + past

-- A condition without its negation. The second of the local day is in the span, which may go on
-- into the next day; a device beside is one that the query matches; a judgement before applied the
-- rule, or evaluated it, within that time; the word is below that part of all words.
abbrev pub IsTrueNow : List Judgement → ℕ → Context → List DeviceRecord → ℕ → CondKind → Type 0
IsTrueNow judgements id ctx beside word (kind.LocalTime begin end) =
    ((begin ≤ end) × (begin ≤ ctx.second) × (ctx.second ≤ end))
    ⊎ ((end < begin) × ((begin ≤ ctx.second) ⊎ (ctx.second ≤ end)))
IsTrueNow judgements id ctx beside word (kind.AllowedMatches query) =
    (x : DeviceRecord) × Has beside x × Matches query x
IsTrueNow judgements id ctx beside word (kind.RuleApplied past) =
    (j : Judgement) × Has judgements j × (j.applied ≡ Some id) × IsNoOlder past ctx.moment j.moment
IsTrueNow judgements id ctx beside word (kind.RuleEvaluated past) =
    (j : Judgement) × Has judgements j × Has j.evaluated id × IsNoOlder past ctx.moment j.moment
IsTrueNow judgements id ctx beside word (kind.Random billionths) =
    word * 1000000000 < billionths * 2 ^ 64
IsTrueNow judgements id ctx beside word kind.True = Unit {0}
IsTrueNow judgements id ctx beside word kind.False = ⊥

abbrev pub Unless : Bool → Type 0 → Type 0
Unless true P = ¬ P
Unless false P = P

abbrev pub PassesNow : List Judgement → ℕ → Context → List DeviceRecord → Cond × ℕ → Type 0
PassesNow judgements id ctx beside c =
    Unless c.0.negated (IsTrueNow judgements id ctx beside c.1 c.0.kind)

-- one, none, or all
abbrev pub PassAs : {X : Type 0} → Op → (X → Type 0) → List X → Type 0
PassAs {X} OneOf P xs = (x : X) × Has xs x × P x
PassAs {X} NoneOf P xs = (x : X) → Has xs x → ¬ P x
PassAs {X} op P xs = (x : X) → Has xs x → P x

-- how many words the conditions take
abbrev pub draws : Option Conds → ℕ
draws None = 0
draws (Some conds) = random_count conds.items

abbrev pub Hold : List Judgement → ℕ → Context → List DeviceRecord → Option Conds → List ℕ → Type 0
Hold judgements id ctx beside None words = Unit {0}
Hold judgements id ctx beside (Some conds) words =
    PassAs conds.op (PassesNow judgements id ctx beside) (with_words conds.items words)

-- ---- the first match

-- The first of the rules that matches and whose conditions hold, or none. A rule that matches takes
-- its words from the stream.
pub data Finds (dev : DeviceRecord) (judgements : List Judgement) (ctx : Context)
    (beside : List DeviceRecord) : List RuleEntry → Stream → Option RuleEntry → Type 0 where
  Finds_none : (words : Stream) → Finds dev judgements ctx beside [] words None
  Finds_this : (e : RuleEntry) (rules : List RuleEntry) (words : Stream)
      → Matches e.rule.query dev
      → Hold judgements e.id ctx beside e.rule.conds (words_of (draws e.rule.conds) words)
      → Finds dev judgements ctx beside (e ∷ rules) words (Some e)
  Finds_unheld : (e : RuleEntry) (rules : List RuleEntry) (words : Stream)
      (found : Option RuleEntry) → Matches e.rule.query dev
      → ¬ Hold judgements e.id ctx beside e.rule.conds (words_of (draws e.rule.conds) words)
      → Finds dev judgements ctx beside rules (behind (draws e.rule.conds) words) found
      → Finds dev judgements ctx beside (e ∷ rules) words found
  Finds_unmatched : (e : RuleEntry) (rules : List RuleEntry) (words : Stream)
      (found : Option RuleEntry) → ¬ Matches e.rule.query dev
      → Finds dev judgements ctx beside rules words found
      → Finds dev judgements ctx beside (e ∷ rules) words found
