-- The lines of a script, kind by kind: usbguard-replay(5).
use Rattle.std.specs.Prelude.{◌≡◌, ◌≢◌, ℕ, ◌+◌, ◌*◌, ◌≤◌, ◌⊎◌, ℤ, pos, neg_ℤ, Bool, true, false, List, [], ◌∷◌, ◌++◌, length, codes, decimal, Option, Some, None}
use Rattle.hex.specs.Hex.{hex_digit_value}
use Rattle.ug_types.specs.NodeNames.{IsNodeName}
use Rattle.ug_types.specs.Principals.{Named, is_name, principal_text}
use Rattle.ug_types.specs.declared.rule.Rule as types
use Rattle.ug_types.specs.declared.verdict.Moment.{Moment}
use Rattle.ug_types.specs.declared.record.Triple.{Triple}
use Rattle.ug_types.specs.declared.rule.Iface.{Iface}
use Rattle.ug_words.specs.Grammar.{Spells}
use Rattle.ug_words.specs.WordGrammar.{IsInterface}
use Rattle.ug_iface.specs.declared.name.IfaceName.{IfaceName}
use Rattle.ug_iface.specs.declared.rules.IfaceRule.{IfaceRule}
use Rattle.ug_iface.specs.Rules.{IsIfaceRule}
use Rattle.ug_rule.specs.Grammar.{Says}
use Rattle.ug_store.specs.declared.mishap.Mishap.{Mishap}
use Rattle.ug_store.specs.declared.mishap.Mishap.TheVariants.{NoEffect, Effect}
use Rattle.ug_store.specs.declared.mishap.Planned.{Planned}
use Rattle.ug_sysfs.specs.declared.script.Failing.{Failing}
use Rattle.ug_sysfs.specs.declared.script.IfaceMove.TheVariants.{Add, Remove}
use Rattle.ug_sysfs.specs.declared.script.Move.{Move}
use Rattle.ug_sysfs.specs.declared.script.Move.TheVariants as move
use Rattle.ug_sysfs.specs.declared.script.NewDevice.{NewDevice}
use Rattle.ug_sysfs.specs.declared.script.NewIface.{NewIface}
use Rattle.ug_sysfs.specs.declared.script.Scheduled.{Scheduled}
use Rattle.ug_types.specs.Events.{longest_piece}
use Rattle.ug_types.specs.declared.event.Event.{Event}
use Rattle.ug_types.specs.declared.event.Event.TheVariants.{Sweep, Order, Hint}
use Rattle.ug_steps.specs.declared.step.AccessLine.{AccessLine}
use Rattle.ug_steps.specs.declared.step.FolderLine.{FolderLine}
use Rattle.ug_steps.specs.declared.step.Plan.{Plan}
use Rattle.ug_steps.specs.declared.step.Plan.TheVariants as plan
use Rattle.ug_steps.specs.declared.step.SetupLine.{SetupLine}
use Rattle.ug_steps.specs.declared.step.SetupLine.TheVariants as setup
use Rattle.ug_steps.specs.declared.step.Step.{Step}
use Rattle.ug_steps.specs.declared.step.Step.TheVariants as step
use Rattle.ug_steps.specs.Grammar.{IsAccess, IsFolderText}

-- ---- devices and interfaces that come and go

-- a node name of at most 31 bytes
abbrev pub IsShortName : List ℕ → Type 0
IsShortName name = IsNodeName name × (length name ≤ 31)

-- each byte as two hexadecimal digits of either case
abbrev pub AreHexOf : List ℕ → List ℕ → Type 0
AreHexOf [] digits = digits ≡ []
AreHexOf (byte ∷ bytes) digits =
    (first : ℕ) × (second : ℕ) × (high : ℕ) × (low : ℕ) × (rest : List ℕ)
    × (digits ≡ first ∷ second ∷ rest)
    × (hex_digit_value first ≡ Some high) × (hex_digit_value second ≡ Some low)
    × (byte ≡ high * 16 + low) × AreHexOf bytes rest

-- `1` where a device or an interface starts authorised, else `0`
abbrev pub start_word : Bool → List ℕ
start_word true = codes "1"
start_word false = codes "0"

-- a dash for no file, or a string in quotes, whose file holds what it spells and a newline
abbrev pub IsFileWord : Option (List ℕ) → List ℕ → Type 0
IsFileWord None text = text ≡ codes "-"
IsFileWord (Some file) text =
    (inside : List ℕ) × (spelled : List ℕ) × Spells inside spelled
    × (text ≡ 34 ∷ (inside ++ 34 ∷ [])) × (file ≡ spelled ++ 10 ∷ [])

-- `PRODUCT SERIAL CONNECT`
pub record AreFileWords (product serial connect : Option (List ℕ)) (text : List ℕ) : Type 0 where
  pub first : List ℕ
  pub second : List ℕ
  pub third : List ℕ
  pub is : text ≡ first ++ 32 ∷ (second ++ 32 ∷ third)
  pub product_is : IsFileWord product first
  pub serial_is : IsFileWord serial second
  pub connect_is : IsFileWord connect third

-- `START DESC` and the files' words
abbrev pub behind_name : Bool → List ℕ → List ℕ → List ℕ
behind_name on digits files = start_word on ++ 32 ∷ (digits ++ 32 ∷ files)

-- `plug NAME START DESC PRODUCT SERIAL CONNECT`
pub record IsPlug (line : List ℕ) (device : NewDevice) : Type 0 where
  pub digits : List ℕ
  pub files : List ℕ
  pub is : line ≡ codes "plug " ++ (device.name ++ 32 ∷ behind_name device.on digits files)
  pub named : IsShortName device.name
  pub described : AreHexOf device.descriptors digits
  pub some : device.descriptors ≢ []
  pub files_are : AreFileWords device.product device.serial device.connect files

-- `unplug NAME`
abbrev pub IsUnplug : List ℕ → List ℕ → Type 0
IsUnplug line name = (line ≡ codes "unplug " ++ name) × IsShortName name

-- `C.I`: a configuration from 1 to 255, and an interface of it from 0 to 255
pub record AreIfaceNumbers (name : IfaceName) (text : List ℕ) : Type 0 where
  pub is : text ≡ decimal name.config ++ 46 ∷ decimal name.number
  pub some : 1 ≤ name.config
  pub config_fits : name.config ≤ 255
  pub number_fits : name.number ≤ 255

-- class, subclass and protocol, as a rule names them
abbrev pub each_given : Triple → Iface
each_given t =
    record { class = t.class; subclass = Some t.subclass; protocol = Some t.protocol }

-- `iface NAME C.I cc:ss:pp START`
pub record IsIfaceLine (line : List ℕ) (new : NewIface) : Type 0 where
  pub numbers : List ℕ
  pub triple : List ℕ
  pub is : line
      ≡ codes "iface "
      ++ (new.name.device ++ 32 ∷ (numbers ++ 32 ∷ (triple ++ 32 ∷ start_word new.on)))
  pub named : IsShortName new.name.device
  pub numbered : AreIfaceNumbers new.name numbers
  pub described : IsInterface (each_given new.triple) triple

-- `uniface NAME C.I`
pub record IsUnifaceLine (line : List ℕ) (name : IfaceName) : Type 0 where
  pub numbers : List ℕ
  pub is : line ≡ codes "uniface " ++ (name.device ++ 32 ∷ numbers)
  pub named : IsShortName name.device
  pub numbered : AreIfaceNumbers name numbers

abbrev pub IsMoveLine : List ℕ → Move → Type 0
IsMoveLine line (move.Plug device) = IsPlug line device
IsMoveLine line (move.Unplug name) = IsUnplug line name
IsMoveLine line (move.Iface (Add new)) = IsIfaceLine line new
IsMoveLine line (move.Iface (Remove name)) = IsUnifaceLine line name

-- ---- what is scheduled for a call of the next event

-- the number of a call
abbrev pub IsCall : ℕ → Type 0
IsCall call = (1 ≤ call) × (call ≤ 1048576)

-- before the call's effect, or after it
abbrev pub when_word : Bool → List ℕ
when_word false = codes "before "
when_word true = codes "after "

-- `before CALL MOVE`, or `after CALL MOVE`
pub record IsScheduled (line : List ℕ) (m : Scheduled) : Type 0 where
  pub move : List ℕ
  pub is : line ≡ when_word m.after ++ (decimal m.call ++ 32 ∷ move)
  pub call : IsCall m.call
  pub moves : IsMoveLine move m.action

abbrev pub effect_words : Bool → List ℕ
effect_words true = codes " effect"
effect_words false = []

-- `fail CALL`, or `fail CALL effect`
abbrev pub IsFail : List ℕ → Failing → Type 0
IsFail line f = (line ≡ codes "fail " ++ (decimal f.call ++ effect_words f.effect)) × IsCall f.call

abbrev pub mishap_words : Mishap → List ℕ
mishap_words NoEffect = []
mishap_words Effect = codes " effect"

-- `disk fail CALL`, or `disk fail CALL effect`
abbrev pub IsDiskFail : List ℕ → Planned → Type 0
IsDiskFail line p =
    (line ≡ codes "disk fail " ++ (decimal p.call ++ mishap_words p.mishap))
    × IsCall p.call × (p.stops ≡ false)

-- whether a swap has had its effect
abbrev pub left_words : Mishap → List ℕ
left_words NoEffect = codes " old"
left_words Effect = codes " new"

-- `stop CALL old`, or `stop CALL new`
abbrev pub IsStopLine : List ℕ → Planned → Type 0
IsStopLine line p =
    (line ≡ codes "stop " ++ (decimal p.call ++ left_words p.mishap))
    × IsCall p.call × (p.stops ≡ true)

abbrev pub IsPlanLine : List ℕ → Plan → Type 0
IsPlanLine line (plan.Move m) = IsScheduled line m
IsPlanLine line (plan.Fail f) = IsFail line f
IsPlanLine line (plan.OnDisk p) = IsDiskFail line p ⊎ IsStopLine line p

-- ---- events

abbrev pub IsMoment : ℕ → Type 0
IsMoment n = n ≤ 250000000000

-- `sweep MOMENT`
abbrev pub IsSweepLine : List ℕ → Moment → Type 0
IsSweepLine line moment = (line ≡ codes "sweep " ++ decimal moment.0) × IsMoment moment.0

-- `order MOMENT PRINCIPAL REQUEST`, where the request is any text
pub record IsOrderLine (line : List ℕ) (moment : Moment) (who : Named)
    (request : List ℕ) : Type 0 where
  pub is : line ≡ codes "order " ++ (decimal moment.0 ++ 32 ∷ (principal_text who ++ 32 ∷ request))
  pub moment_is : IsMoment moment.0
  pub named : is_name who.name ≡ true

-- `hint MOMENT HEX`
pub record IsHintLine (line : List ℕ) (moment : Moment) (piece : List ℕ) : Type 0 where
  pub digits : List ℕ
  pub is : line ≡ codes "hint " ++ (decimal moment.0 ++ 32 ∷ digits)
  pub moment_is : IsMoment moment.0
  pub described : AreHexOf piece digits
  pub some : piece ≢ []
  pub short : length piece ≤ longest_piece

abbrev pub IsEventLine : List ℕ → Event → Type 0
IsEventLine line (Sweep moment) = IsSweepLine line moment
IsEventLine line (Order moment who request) = IsOrderLine line moment who request
IsEventLine line (Hint moment piece) = IsHintLine line moment piece

-- ---- lines that stand before all others

-- `rule RULE`
abbrev pub IsRuleLine : List ℕ → types.Rule → Type 0
IsRuleLine line rule = (text : List ℕ) × (line ≡ codes "rule " ++ text) × Says text rule

-- `folder NAME RULE`
abbrev pub IsFolderLine : List ℕ → FolderLine → Type 0
IsFolderLine line f =
    (text : List ℕ) × (line ≡ codes "folder " ++ text) × IsFolderText text f

-- `access PRINCIPAL SECTION=LIST`
abbrev pub IsAccessLine : List ℕ → AccessLine → Type 0
IsAccessLine line a = (text : List ℕ) × (line ≡ codes "access " ++ text) × IsAccess text a

-- `seed` and 64 hexadecimal digits
abbrev pub IsSeed : List ℕ → List ℕ → Type 0
IsSeed line seed =
    (digits : List ℕ) × (line ≡ codes "seed " ++ digits) × AreHexOf seed digits × (length seed ≡ 32)

-- two decimal digits
pub record IsTwoDigits (n : ℕ) (text : List ℕ) : Type 0 where
  pub high : ℕ
  pub low : ℕ
  pub high_digit : high ≤ 9
  pub low_digit : low ≤ 9
  pub is : text ≡ (48 + high) ∷ (48 + low) ∷ []
  pub says : n ≡ high * 10 + low

-- ahead of UTC, or behind it
abbrev pub sign_word : Bool → List ℕ
sign_word true = codes "zone +"
sign_word false = codes "zone -"

abbrev pub with_sign : Bool → ℕ → ℤ
with_sign true seconds = pos seconds
with_sign false seconds = neg_ℤ (pos seconds)

-- `zone +HH:MM`, or `zone -HH:MM`
pub record IsZone (line : List ℕ) (offset : ℤ) : Type 0 where
  pub ahead : Bool
  pub hours : ℕ
  pub minutes : ℕ
  pub hour_digits : List ℕ
  pub minute_digits : List ℕ
  pub is : line ≡ sign_word ahead ++ (hour_digits ++ 58 ∷ minute_digits)
  pub hours_are : IsTwoDigits hours hour_digits
  pub minutes_are : IsTwoDigits minutes minute_digits
  pub few_hours : hours ≤ 23
  pub few_minutes : minutes ≤ 59
  pub says : offset ≡ with_sign ahead (hours * 3600 + minutes * 60)

-- `iface-rule off IFACE QUERY`
abbrev pub IsIfaceRuleLine : List ℕ → IfaceRule → Type 0
IsIfaceRuleLine line rule =
    (text : List ℕ) × (line ≡ codes "iface-rule " ++ text) × IsIfaceRule text rule

abbrev pub IsSetupLine : List ℕ → SetupLine → Type 0
IsSetupLine line (setup.Rule rule) = IsRuleLine line rule
IsSetupLine line (setup.Folder f) = IsFolderLine line f
IsSetupLine line (setup.Conf text) = line ≡ codes "conf " ++ text
IsSetupLine line (setup.Access a) = IsAccessLine line a
IsSetupLine line (setup.Seed seed) = IsSeed line seed
IsSetupLine line (setup.Zone offset) = IsZone line offset
IsSetupLine line (setup.IfaceRule rule) = IsIfaceRuleLine line rule

-- ---- all lines

-- empty, or a comment
abbrev pub IsBlankOrComment : List ℕ → Type 0
IsBlankOrComment line = (line ≡ []) ⊎ ((text : List ℕ) × (line ≡ codes "#" ++ text))

-- the line is one that asks for that step
abbrev pub AsksFor : List ℕ → Step → Type 0
AsksFor line step.Skip = IsBlankOrComment line
AsksFor line (step.Setup asked) = IsSetupLine line asked
AsksFor line (step.Move action) = IsMoveLine line action
AsksFor line (step.Schedule plan) = IsPlanLine line plan
AsksFor line (step.Event event) = IsEventLine line event
AsksFor line step.Restart = line ≡ codes "restart"
