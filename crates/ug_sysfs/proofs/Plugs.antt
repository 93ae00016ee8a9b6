-- Room for what is scheduled.
use Rattle.std.proofs.Common.{◌≡◌, ℕ, zero, suc, ◌+◌, ◌≤◌, List, [], ◌∷◌, length, refl, arith}
use Rattle.std.specs.Prelude.{insert}
use Rattle.ug_sysfs.specs.declared.script.Move.{Move}
use Rattle.ug_sysfs.specs.declared.script.Move.TheVariants.{Plug, Unplug, Iface}
use Rattle.ug_sysfs.specs.declared.script.Scheduled.{Scheduled}
use Rattle.ug_sysfs.specs.Queue.{queue_place, with_move}
use Rattle.ug_sysfs.specs.declared.script.IfaceMove.TheVariants.{Add, Remove}
use Rattle.ug_sysfs.specs.World.{plugs, plugs_of, iface_adds, iface_adds_of}

plugs_of_le : (m : Move) → plugs_of m ≤ 1
plugs_of_le (Plug d) = omega arith
plugs_of_le (Unplug name) = omega arith
plugs_of_le (Iface change) = omega arith

pub plugs_le : (ms : List Scheduled) → plugs ms ≤ length ms
plugs_le [] = omega arith
plugs_le (m ∷ ms) = omega (arith, plugs_of_le m.action, plugs_le ms)

adds_of_le : (m : Move) → iface_adds_of m ≤ 1
adds_of_le (Plug d) = omega arith
adds_of_le (Unplug name) = omega arith
adds_of_le (Iface (Add new)) = omega arith
adds_of_le (Iface (Remove name)) = omega arith

pub adds_le : (ms : List Scheduled) → iface_adds ms ≤ length ms
adds_le [] = omega arith
adds_le (m ∷ ms) = omega (arith, adds_of_le m.action, adds_le ms)

plugs_at : (m : Scheduled) (i : ℕ) (ms : List Scheduled) → i ≤ length ms → plugs (insert ms i m) ≡ plugs_of m.action + plugs ms
plugs_at m zero ms le = refl
plugs_at m (suc i) [] le = absurd (omega (arith, le))
plugs_at m (suc i) (x ∷ ms) le = let rest = plugs_at m i ms (omega (arith, le)) in omega (arith, rest)

adds_at : (m : Scheduled) (i : ℕ) (ms : List Scheduled) → i ≤ length ms → iface_adds (insert ms i m) ≡ iface_adds_of m.action + iface_adds ms
adds_at m zero ms le = refl
adds_at m (suc i) [] le = absurd (omega (arith, le))
adds_at m (suc i) (x ∷ ms) le = let rest = adds_at m i ms (omega (arith, le)) in omega (arith, rest)

pub plugs_with : (m : Scheduled) (ms : List Scheduled) → queue_place m ms ≤ length ms → plugs (with_move m ms) ≡ plugs_of m.action + plugs ms
plugs_with m ms le = plugs_at m (queue_place m ms) ms le

pub adds_with : (m : Scheduled) (ms : List Scheduled) → queue_place m ms ≤ length ms → iface_adds (with_move m ms) ≡ iface_adds_of m.action + iface_adds ms
adds_with m ms le = adds_at m (queue_place m ms) ms le
