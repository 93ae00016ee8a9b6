-- Messages of the kernel as a grammar: strings, each with a zero byte behind it, of which the first
-- is ACTION@DEVPATH and each later one KEY=VALUE; and the first fault of any other text.
use Rattle.std.specs.Prelude.{◌≡◌, ◌≢◌, ◌↔◌, ◌⊎◌, ℕ, ◌+◌, ◌<◌, ◌≤◌, ◌^◌, List, [], ◌∷◌, ◌++◌}
use Rattle.std.specs.Prelude.{length, codes, decimal, Some, Result, Ok, Err}
use Rattle.ug_types.specs.Elements.{Has}
use Rattle.ug_types.specs.NodeNames.{IsNodeName}
use Rattle.ug_uevent.specs.Cuts.{IsCutAtFirst}
use Rattle.ug_uevent.specs.Faults.{SaidFault}
use Rattle.ug_uevent.specs.declared.fault.UeventKind.{UeventKind}
use Rattle.ug_uevent.specs.declared.fault.UeventKind.TheVariants as kind
use Rattle.ug_uevent.specs.declared.fields.Field.{Field}
use Rattle.ug_uevent.specs.declared.fields.Field.TheVariants as field
use Rattle.ug_uevent.specs.declared.hint.Action.{Action}
use Rattle.ug_uevent.specs.declared.hint.Action.TheVariants as action
use Rattle.ug_uevent.specs.declared.hint.Hint.{Hint}

-- a message is these strings, each of which but the last has a zero byte behind it
pub data AreStrings : List ℕ → List (List ℕ) → Type 0 where
  Nothing : AreStrings [] []
  -- a last string without its zero byte has at least one byte
  Open : (b : ℕ) (text : List ℕ) → ¬ Has (b ∷ text) 0 → AreStrings (b ∷ text) ((b ∷ text) ∷ [])
  Closed : (text message : List ℕ) (others : List (List ℕ)) → ¬ Has text 0
      → AreStrings message others → AreStrings (text ++ 0 ∷ message) (text ∷ others)

-- a string is two parts about a sign, of which the first isn't empty
pub record IsPair (sign : ℕ) (text front back : List ℕ) : Type 0 where
  pub cut : IsCutAtFirst sign text front back
  pub filled : front ≢ []

-- the header is ACTION@DEVPATH, cut at its first at sign
abbrev pub IsHeader : List ℕ → List ℕ → List ℕ → Type 0
IsHeader text action path = IsPair 64 text action path

-- a later string is KEY=VALUE, cut at its first equals sign
abbrev pub IsKeyValue : List ℕ → List ℕ → List ℕ → Type 0
IsKeyValue text key value = IsPair 61 text key value

unfoldable pub key_word : Field → List ℕ
key_word field.Action = codes "ACTION"
key_word field.Path = codes "DEVPATH"
key_word field.Subsystem = codes "SUBSYSTEM"
key_word field.Number = codes "SEQNUM"

-- one of the strings sets the field to that value
abbrev pub SetsField : List (List ℕ) → Field → List ℕ → Type 0
SetsField strings f value = (text : List ℕ) × Has strings text × IsKeyValue text (key_word f) value

abbrev pub IsFieldSet : List (List ℕ) → Field → Type 0
IsFieldSet strings f = (value : List ℕ) × SetsField strings f value

-- a decimal number below 2^64, without a sign or a leading zero
abbrev pub IsNumber : List ℕ → Type 0
IsNumber value = (n : ℕ) × (value ≡ decimal n) × (n < 2 ^ 64)

-- behind a header and strings that were good, a string is good too
pub record IsGood (act path : List ℕ) (before : List (List ℕ)) (text : List ℕ) : Type 0 where
  pub key : List ℕ
  pub value : List ℕ
  pub setting : IsKeyValue text key value
  pub once : (f : Field) → key ≡ key_word f → IsFieldSet before f → ⊥
  pub same_action : key ≡ key_word field.Action → value ≡ act
  pub same_path : key ≡ key_word field.Path → value ≡ path
  pub number : key ≡ key_word field.Number → IsNumber value

-- each is good behind those before it
abbrev pub AreGood : List ℕ → List ℕ → List (List ℕ) → List (List ℕ) → Type 0
AreGood act path before [] = Unit {0}
AreGood act path before (text ∷ texts) = IsGood act path before text
    × AreGood act path (before ++ text ∷ []) texts

-- a value that differs from the header
abbrev pub Differs : List ℕ → List ℕ → Field → List ℕ → Type 0
Differs act path field.Action value = value ≢ act
Differs act path field.Path value = value ≢ path
Differs act path field.Subsystem value = ⊥
Differs act path field.Number value = ⊥

-- behind good strings a string has a fault, of which the first of these counts: no key, repeated,
-- differs, no number
abbrev pub IsFaulty : List ℕ → List ℕ → List (List ℕ) → List ℕ → UeventKind → Type 0
IsFaulty act path before text kind.NoHeader = ⊥
IsFaulty act path before text kind.BadKey = (key value : List ℕ) → IsKeyValue text key value → ⊥
IsFaulty act path before text kind.Repeated = (f : Field) × (value : List ℕ)
    × IsKeyValue text (key_word f) value × IsFieldSet before f
IsFaulty act path before text kind.HeaderDiffers = (f : Field) × (value : List ℕ)
    × IsKeyValue text (key_word f) value × (¬ IsFieldSet before f) × Differs act path f value
IsFaulty act path before text kind.BadSeq = (value : List ℕ)
    × IsKeyValue text (key_word field.Number) value × (¬ IsFieldSet before field.Number)
    × (¬ IsNumber value)
IsFaulty act path before text kind.TooLong = ⊥

-- the part of a path behind its last slash, where it is a name of a node
pub record IsNameIn (path name : List ℕ) : Type 0 where
  pub front : List ℕ
  pub is : path ≡ front ++ 47 ∷ name
  pub last : ¬ Has name 47
  pub named : IsNodeName name
  pub short : length name ≤ 31

unfoldable pub action_word : Action → List ℕ
action_word action.Add = codes "add"
action_word action.Remove = codes "remove"
action_word action.Change = codes "change"
action_word action.Other = []

abbrev pub IsAction : List ℕ → Action → Type 0
IsAction word action.Other = (word ≢ action_word action.Add) × (word ≢ action_word action.Remove)
    × (word ≢ action_word action.Change)
IsAction word a = word ≡ action_word a

unfoldable pub usb : List ℕ
usb = codes "usb"

-- what a header and good strings say
pub record SaysOfDevice (act path : List ℕ) (strings : List (List ℕ)) (hint : Hint) : Type 0 where
  pub does : IsAction act hint.action
  pub named : (name : List ℕ)
      → (hint.name ≡ Some name) ↔ (SetsField strings field.Subsystem usb × IsNameIn path name)
  pub numbered : (n : ℕ)
      → (hint.seq ≡ Some n) ↔ (SetsField strings field.Number (decimal n) × (n < 2 ^ 64))

-- a message is well formed, and says this
pub record IsMessage (message : List ℕ) (hint : Hint) : Type 0 where
  pub header : List ℕ
  pub others : List (List ℕ)
  pub act : List ℕ
  pub path : List ℕ
  pub strings : AreStrings message (header ∷ others)
  pub is_header : IsHeader header act path
  pub good : AreGood act path [] others
  pub says : SaysOfDevice act path others hint

-- the first string is missing, or no header
abbrev pub HasNoHeader : List ℕ → Type 0
HasNoHeader message = AreStrings message []
    ⊎ ((header : List ℕ) × (others : List (List ℕ)) × AreStrings message (header ∷ others)
    × ((act path : List ℕ) → IsHeader header act path → ⊥))

-- how many bytes some strings have, each with its zero byte
abbrev pub length_of : List (List ℕ) → ℕ
length_of [] = 0
length_of (text ∷ texts) = length text + 1 + length_of texts

-- the first string that isn't good behind those before it
pub record IsBadAt (message : List ℕ) (kind : UeventKind) (place : ℕ) : Type 0 where
  pub header : List ℕ
  pub before : List (List ℕ)
  pub text : List ℕ
  pub behind : List (List ℕ)
  pub act : List ℕ
  pub path : List ℕ
  pub strings : AreStrings message (header ∷ (before ++ text ∷ behind))
  pub is_header : IsHeader header act path
  pub good : AreGood act path [] before
  pub faulty : IsFaulty act path before text kind
  pub stands : place ≡ length_of (header ∷ before)

-- the first fault of a message
abbrev pub IsBadMessage : List ℕ → UeventKind → ℕ → Type 0
IsBadMessage message k place = ((k ≡ kind.NoHeader) × (place ≡ 0) × HasNoHeader message)
    ⊎ IsBadAt message k place

abbrev pub ReadsAs : List ℕ → Result Hint SaidFault → Type 0
ReadsAs message (Ok hint) = IsMessage message hint
ReadsAs message (Err fault) = IsBadMessage message fault.kind fault.place
