-- The devices that are born in a script, and the lines that they come of.
use Rattle.std.specs.Prelude.{◌≡◌, ℕ, List, [], ◌∷◌, ◌++◌, flat_map, map, set, Option, Some, None}
use Rattle.ug_kernel.specs.declared.device.Device.{Device}
use Rattle.ug_kernel.specs.declared.device.Effect.{Effect}
use Rattle.ug_kernel.specs.Called.{written_to}
use Rattle.ug_kernel.specs.Kernel.{Kernel, Live}
use Rattle.ug_sysfs.specs.declared.script.Move.{Move}
use Rattle.ug_sysfs.specs.declared.script.Move.TheVariants as move
use Rattle.ug_sysfs.specs.declared.script.NewDevice.{NewDevice}
use Rattle.ug_sysfs.specs.declared.script.Scheduled.{Scheduled}
use Rattle.ug_sysfs.specs.Below.{IsFelled}
use Rattle.ug_sysfs.specs.Birth.{CanBeBorn, IsBorn}
use Rattle.ug_sysfs.specs.AtCalls.{scheduled_action}
use Rattle.ug_sysfs.specs.Queue.{IsSchedule}
use Rattle.ug_sysfs.specs.World.{World}
use Rattle.ug_command_io.specs.Fold.{Going, plays}
use Rattle.ug_steps.specs.declared.step.Plan.TheVariants as plan
use Rattle.ug_steps.specs.declared.step.Step.{Step}
use Rattle.ug_steps.specs.declared.step.Step.TheVariants as step
use Rattle.ug_script.specs.Replay.{script_step}
use Rattle.ug_script.specs.Script.{Script}
use Rattle.ug_script.specs.Setup.{steps_of}

-- ---- the moves of lines

-- The moves of lines in the order in which they come, where these were written for the next event.
-- That of a line of its own comes at once; those that were written since the event
-- before come by the end of an event, in their turn, whether the machine stops in it or not.
abbrev pub AreMovesOf : List Scheduled → List (Option Step) → List Move → Type 0
AreMovesOf written [] moves = moves ≡ []
AreMovesOf written (Some (step.Move action) ∷ steps) moves =
    (rest : List Move) × (moves ≡ action ∷ rest) × AreMovesOf written steps rest
AreMovesOf written (Some (step.Schedule (plan.Move m)) ∷ steps) moves =
    AreMovesOf (written ++ m ∷ []) steps moves
AreMovesOf written (Some (step.Event event) ∷ steps) moves =
    (ms : List Scheduled) × (rest : List Move) × IsSchedule written ms
    × (moves ≡ map scheduled_action ms ++ rest) × AreMovesOf [] steps rest
AreMovesOf written (other ∷ steps) moves = AreMovesOf written steps moves

-- ---- what becomes of the devices

-- a device is born; one goes, with those below it; a move has its turn where it can do nothing; or
-- a write of the daemon has its effect
pub data Change : Type 0 where
  Born : NewDevice → Change
  Unplugged : List ℕ → Change
  Idle : Move → Change
  Wrote : Effect → Change

abbrev pub move_in : Change → List Move
move_in (Born device) = move.Plug device ∷ []
move_in (Unplugged name) = move.Unplug name ∷ []
move_in (Idle action) = action ∷ []
move_in (Wrote effect) = []

abbrev pub effect_in : Change → List Effect
effect_in (Wrote effect) = effect ∷ []
effect_in change = []

abbrev pub birth_in : Change → List NewDevice
birth_in (Born device) = device ∷ []
birth_in change = []

-- its name is live, its parent isn't, or 65,536 devices are; nobody bears the name; or it is of an
-- interface
abbrev pub IsIdle : Move → List Device → Type 0
IsIdle (move.Plug device) ds = ¬ CanBeBorn device ds
IsIdle (move.Unplug name) ds = (i : ℕ) (d : Device) → Live ds i d → d.name ≡ name → ⊥
IsIdle (move.Iface change) ds = Unit {0}

-- the live device of the name goes, with those below it, and no other
pub record HasGone (name : List ℕ) (ds es : List Device) : Type 0 where
  pub i : ℕ
  pub d : Device
  pub live : Live ds i d
  pub named : d.name ≡ name
  pub felled : IsFelled i ds es

-- a live device was written to
pub record WasWritten (effect : Effect) (ds es : List Device) : Type 0 where
  pub d : Device
  pub live : Live ds effect.device d
  pub is : es ≡ set ds effect.device (written_to effect.write d)

abbrev pub Becomes : Change → List Device → List Device → Type 0
Becomes (Born device) ds es = CanBeBorn device ds × IsBorn device ds es
Becomes (Unplugged name) ds es = HasGone name ds es
Becomes (Idle action) ds es = IsIdle action ds × (es ≡ ds)
Becomes (Wrote effect) ds es = WasWritten effect ds es

-- one change after another
abbrev pub BecomesBy : List Change → List Device → List Device → Type 0
BecomesBy [] ds fs = fs ≡ ds
BecomesBy (change ∷ changes) ds fs =
    (es : List Device) × Becomes change ds es × BecomesBy changes es fs

-- ---- the births of a script

-- what stays of a device for ever
pub record Facts : Type 0 where
  pub name : List ℕ
  pub descriptors : List ℕ
  pub product : Option (List ℕ)
  pub serial : Option (List ℕ)
  pub connect : Option (List ℕ)

abbrev pub facts_of : Device → Facts
facts_of d = record {
  name = d.name;
  descriptors = d.descriptors;
  product = d.product;
  serial = d.serial;
  connect = d.connect;
}

-- those of a line
abbrev pub facts_given : NewDevice → Facts
facts_given d = record {
  name = d.name;
  descriptors = d.descriptors;
  product = d.product;
  serial = d.serial;
  connect = d.connect;
}

-- From one kernel to the other, by the moves of lines and by the writes that the log gained, each
-- move does what it can where it has its turn. The devices that the kernel gained are those that
-- are born so, in that order, with the facts of their lines.
pub record HasBirths (steps : List (Option Step)) (k l : Kernel) : Type 0 where
  pub changes : List Change
  pub moves : AreMovesOf [] steps (flat_map move_in changes)
  pub log : l.log ≡ k.log ++ flat_map effect_in changes
  pub becomes : BecomesBy changes k.devices l.devices
  pub births : map facts_of l.devices
      ≡ map facts_of k.devices ++ map facts_given (flat_map birth_in changes)

-- wherever lines lead from a world in which nothing is scheduled
abbrev pub StaysBorn : World → Type 0
StaysBorn first = (lines : List (List ℕ)) (n : ℕ) (text : List ℕ) (s : Script) (w : World)
    → plays script_step (Going 0 [] (None, first)) lines ≡ Going n text (Some s, w)
    → HasBirths (steps_of lines) first.kernel w.kernel
