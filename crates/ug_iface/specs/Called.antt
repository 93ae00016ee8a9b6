-- What a call does, and what its answer says of devices and interfaces from the call's start to its
-- end.
use Rattle.std.specs.Prelude.{◌≡◌, ℕ, Bool, false, ◌⊎◌, List, [], ◌∷◌, ◌++◌, length, Option, Some, slice_get}
use Rattle.ug_types.specs.Elements.{Has, AllDistinct}
use Rattle.ug_kernel.specs.declared.calls.Probe.{Probe}
use Rattle.ug_kernel.specs.declared.calls.Probe.TheVariants as probe
use Rattle.ug_kernel.specs.declared.calls.Wrote.{Wrote}
use Rattle.ug_kernel.specs.declared.calls.Wrote.TheVariants as wrote
use Rattle.ug_kernel.specs.Called.{NoneLived, says_probe}
use Rattle.ug_iface.specs.declared.interface.Interface.{Interface}
use Rattle.ug_iface.specs.declared.name.IfaceName.{IfaceName}
use Rattle.ug_iface.specs.declared.calls.IfaceListing.{IfaceListing}
use Rattle.ug_iface.specs.declared.calls.IfaceListing.TheVariants as listing
use Rattle.ug_iface.specs.declared.calls.IfaceOpened.{IfaceOpened}
use Rattle.ug_iface.specs.declared.calls.IfaceOpened.TheVariants as opened
use Rattle.ug_iface.specs.declared.calls.IfaceRead.{IfaceRead}
use Rattle.ug_iface.specs.declared.calls.IfaceRead.TheVariants as read
use Rattle.ug_iface.specs.Bus.{Bus, LiveIface, IsCalled, IsSoundBus, IfacesBegin, MovesBus}
use Rattle.ug_iface.specs.Calls.{IfaceCall, Names_of, Open, Read, Ask_device, Ask, Put_off, Close, IfaceAnswer, AllOf}

-- an interface of that name that lived from b to c
pub record LivedIface (b c : Bus) (name : IfaceName) (i : ℕ) (x : Interface) : Type 0 where
  pub entry : LiveIface b i x
  pub exit : (y : Interface) × LiveIface c i y
  pub called : IsCalled name entry.d x

abbrev pub NoIfaceLived : IfaceName → Bus → Bus → Type 0
NoIfaceLived name b c = (i : ℕ) (x : Interface) → LivedIface b c name i x → ⊥

-- the held file is of the interface of that identity
pub record HoldsIface (b : Bus) (held i : ℕ) (x : Interface) : Type 0 where
  pub file : slice_get b.files held ≡ Some i
  pub at : slice_get b.interfaces i ≡ Some x

-- a file is opened by name: it is the next held file, of an interface of that name that is live at
-- the effect
pub record IsIfaceOpened (name : IfaceName) (held : ℕ) (b c : Bus) : Type 0 where
  pub i : ℕ
  pub x : Interface
  pub live : LiveIface b i x
  pub called : IsCalled name live.d x
  pub next : held ≡ length b.files
  pub after : c ≡ record b { files = b.files ++ i ∷ [] }

-- an interface is switched off, which is live at the effect: one entry is added to the log
pub record IsSwitchedOff (held : ℕ) (b c : Bus) : Type 0 where
  pub i : ℕ
  pub x : Interface
  pub holds : HoldsIface b held i x
  pub live : LiveIface b i x
  pub log : c.log ≡ b.log ++ i ∷ []
  pub now : slice_get c.interfaces i ≡ Some (record x { on = false })
  pub others : (j : ℕ) → (j ≡ i → ⊥) → slice_get c.interfaces j ≡ slice_get b.interfaces j
  pub number : length c.interfaces ≡ length b.interfaces
  pub kernel : c.kernel ≡ b.kernel
  pub files : c.files ≡ b.files

abbrev pub does_iface_open : IfaceName → IfaceOpened → Bus → Bus → Type 0
does_iface_open name (opened.Token held) b c = IsIfaceOpened name held.0 b c
does_iface_open name answer b c = c ≡ b

abbrev pub does_switch_off : ℕ → Wrote → Bus → Bus → Type 0
does_switch_off held wrote.Done b c = IsSwitchedOff held b c
does_switch_off held wrote.Gone b c = c ≡ b
does_switch_off held wrote.Failed b c = (c ≡ b) ⊎ IsSwitchedOff held b c

-- the effect of a call, by its answer
abbrev pub IfaceDoes : (call : IfaceCall) → IfaceAnswer call → Bus → Bus → Type 0
IfaceDoes (Names_of name) answer b c = c ≡ b
IfaceDoes (Open name) answer b c = does_iface_open name answer.answer b c
IfaceDoes (Read name) answer b c = c ≡ b
IfaceDoes (Ask_device held) answer b c = c ≡ b
IfaceDoes (Ask held) answer b c = c ≡ b
IfaceDoes (Put_off held) answer b c = does_switch_off held answer.answer b c
IfaceDoes (Close held) answer b c = c ≡ b

-- the interface of a held file is gone
abbrev pub IsIfaceGone : ℕ → Bus → Type 0
IsIfaceGone held c = (i : ℕ) (x : Interface) → HoldsIface c held i x → LiveIface c i x → ⊥

-- the interface of a held file is live, and has that value
pub record IsIfaceAlive (held : ℕ) (on : Bool) (b : Bus) : Type 0 where
  pub i : ℕ
  pub x : Interface
  pub holds : HoldsIface b held i x
  pub live : LiveIface b i x
  pub value : x.on ≡ on

-- each interface of the device of that name that lived through the call is listed
abbrev pub AreIfacesListed : List ℕ → List IfaceName → Bus → Bus → Type 0
AreIfacesListed device names b c =
    (name : IfaceName) (i : ℕ) (x : Interface) → name.device ≡ device → LivedIface b c name i x
    → Has names name

abbrev pub says_iface_listing : List ℕ → IfaceListing → Bus → Bus → Type 0
says_iface_listing device (listing.Names names) b c =
    AreIfacesListed device names b c × AllOf device names × AllDistinct names
says_iface_listing device listing.Absent b c = NoneLived device b.kernel c.kernel
says_iface_listing device listing.Failed b c = Unit {0}
says_iface_listing device listing.Memory b c = Unit {0}

abbrev pub says_iface_open : IfaceName → IfaceOpened → Bus → Bus → Type 0
says_iface_open name opened.Absent b c = NoIfaceLived name b c
says_iface_open name answer b c = Unit {0}

-- what was read is the triple of each interface of the name that lived through the call
abbrev pub says_iface_read : IfaceName → IfaceRead → Bus → Bus → Type 0
says_iface_read name (read.Is triple) b c =
    (i : ℕ) (x : Interface) → LivedIface b c name i x → x.triple ≡ triple
says_iface_read name read.Absent b c = NoIfaceLived name b c
says_iface_read name read.Failed b c = Unit {0}

abbrev pub says_ask : ℕ → Probe → Bus → Bus → Type 0
says_ask held (probe.Alive on) b c = IsIfaceAlive held on b
says_ask held probe.Gone b c = IsIfaceGone held c
says_ask held probe.Failed b c = Unit {0}

abbrev pub says_switch_off : ℕ → Wrote → Bus → Bus → Type 0
says_switch_off held wrote.Done b c = (on : Bool) × IsIfaceAlive held on b
says_switch_off held wrote.Gone b c = IsIfaceGone held c
says_switch_off held wrote.Failed b c = Unit {0}

-- what an answer says of devices and interfaces at the call's start and at its end
abbrev pub IfaceSays : (call : IfaceCall) → IfaceAnswer call → Bus → Bus → Type 0
IfaceSays (Names_of name) answer b c = says_iface_listing name answer.answer b c
IfaceSays (Open name) answer b c = says_iface_open name answer.answer b c
IfaceSays (Read name) answer b c = says_iface_read name answer.answer b c
IfaceSays (Ask_device held) answer b c = says_probe held answer.answer b.kernel c.kernel
IfaceSays (Ask held) answer b c = says_ask held answer.answer b c
IfaceSays (Put_off held) answer b c = says_switch_off held answer.answer b c
IfaceSays (Close held) answer b c = Unit {0}

-- a call: moves, its effect, and moves
pub record IfaceCalled (call : IfaceCall) (answer : IfaceAnswer call) (b c : Bus) : Type 0 where
  pub before : Bus
  pub after : Bus
  pub moves_before : MovesBus b before
  pub effect : IfaceDoes call answer before after
  pub moves_after : MovesBus after c
  pub says : IfaceSays call answer b c
  pub sound_before : IsSoundBus before
  pub sound_after : IsSoundBus after
  pub sound : IsSoundBus c

-- what a call tells: devices and interfaces were told before it, and where they are sound the call
-- is one of theirs
pub record IfaceFollows (call : IfaceCall) (answer : IfaceAnswer call) (told : Option Bus)
    (c : Bus) : Type 0 where
  pub bus : Bus
  pub was : told ≡ Some bus
  pub called : IsSoundBus bus → IfaceCalled call answer bus c

-- what a call of the devices' files leaves of the interfaces, where it tells them: they were told
-- before it, and only moved
pub record OnlyMoves (told : Option Bus) (c : Bus) : Type 0 where
  pub bus : Bus
  pub was : told ≡ Some bus
  pub interfaces : IfacesBegin bus.kernel bus.interfaces c.interfaces
  pub files : c.files ≡ bus.files
  pub log : c.log ≡ bus.log
  pub sound : IsSoundBus bus → IsSoundBus c
