-- At which calls of an event the moves of lines happen.
use Rattle.std.specs.Prelude.{◌≡◌, ℕ, ◌+◌, not, ◌&&◌, nat_eq, nat_lt, List, [], ◌∷◌, map}
use Rattle.std.specs.List.{filter}
use Rattle.ug_kernel.specs.Calls.{Call, Answer}
use Rattle.ug_kernel.specs.Called.{DoesCall}
use Rattle.ug_iface.specs.Bus.{Bus}
use Rattle.ug_iface.specs.Calls.{IfaceCall, IfaceAnswer}
use Rattle.ug_iface.specs.Called.{IfaceDoes}
use Rattle.ug_sysfs.specs.declared.script.Move.{Move}
use Rattle.ug_sysfs.specs.declared.script.Scheduled.{Scheduled}
use Rattle.ug_sysfs.specs.Doing.{DoMoves}
use Rattle.ug_sysfs.specs.Queue.{IsSchedule}

-- ---- lines

abbrev pub scheduled_action : Scheduled → Move
scheduled_action m = m.action

-- the moves of the lines `before K`, in the order of the lines
abbrev pub before_call : ℕ → List Scheduled → List Move
before_call n written =
    map scheduled_action (filter (λ m. nat_eq m.call n && not m.after) written)

-- those of the lines `after K`
abbrev pub after_call : ℕ → List Scheduled → List Move
after_call n written = map scheduled_action (filter (λ m. nat_eq m.call n && m.after) written)

-- the lines that name a call behind the first so many
abbrev pub of_later_calls : ℕ → List Scheduled → List Scheduled
of_later_calls n written = filter (λ m. nat_lt n m.call) written

-- ---- calls

-- a call of the devices' files or of the interfaces' files, and what it was answered
pub data AnyCall : Type 0 where
  Of_devices : (call : Call) → Answer call → AnyCall
  Of_ifaces : (call : IfaceCall) → IfaceAnswer call → AnyCall

-- it has its effect, by its answer; a call of the devices' files leaves the interfaces as they are
abbrev pub HasEffect : AnyCall → Bus → Bus → Type 0
HasEffect (Of_devices call answer) b c =
    DoesCall call answer b.kernel c.kernel × (c ≡ record b { kernel = c.kernel })
HasEffect (Of_ifaces call answer) b c = IfaceDoes call answer b c

-- Call K of an event: at its start the moves of the lines `before K` happen, in their order; then
-- it has its effect; and behind that the moves of the lines `after K` happen, in their order.
pub record IsCallAt (written : List Scheduled) (k : ℕ) (call : AnyCall) (b e : Bus) : Type 0 where
  pub at_effect : Bus
  pub behind_effect : Bus
  pub before : DoMoves (before_call k written) b at_effect
  pub effect : HasEffect call at_effect behind_effect
  pub after : DoMoves (after_call k written) behind_effect e

-- calls one after another, behind the first so many of an event
abbrev pub AreCallsAt : List Scheduled → ℕ → List AnyCall → Bus → Bus → Type 0
AreCallsAt written n [] b d = d ≡ b
AreCallsAt written n (call ∷ calls) b d =
    (c : Bus) × IsCallAt written (n + 1) call b c × AreCallsAt written (n + 1) calls c d

-- what names no call of so many happens behind them: by call, before or after, and line
pub record IsRestDone (written : List Scheduled) (n : ℕ) (b c : Bus) : Type 0 where
  pub rest : List Scheduled
  pub in_turn : IsSchedule (of_later_calls n written) rest
  pub done : DoMoves (map scheduled_action rest) b c
