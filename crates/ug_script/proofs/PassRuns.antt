-- What a script fixes of the pass behind an event is one call of `settle_ifaces` for each standing that it goes over, whose held
-- file is the `authorized` of its device.
use Rattle.std.proofs.Common.{◌≡◌, ℕ, nat_lt, Bool, true, false, if◌then◌else◌, List, [], ◌∷◌, Option, Result, Ok, Err, refl, sym, ap, subst, ◌∙◌, inl, inr}
use Rattle.ug_types.specs.Elements.{Has}
use Rattle.ug_types.proofs.Elements.{filter_has, map_has}
use Rattle.ug_types.specs.declared.record.Attrs.{Attrs}
use Rattle.ug_types.specs.declared.record.DeviceRecord.{DeviceRecord}
use Rattle.ug_types.specs.declared.record.Judged.{Judged}
use Rattle.ug_types.specs.declared.record.Judged.TheVariants.{Good, Malformed}
use Rattle.ug_types.specs.declared.verdict.Target.{Target}
use Rattle.ug_types.specs.declared.verdict.Target.TheVariants as target
use Rattle.ug_record.specs.declared.descriptors.Descr.{Descr}
use Rattle.ug_record.specs.Reading.{PlacedFault, decoded}
use Rattle.ug_record.specs.Records.{judged_by, judged_of, parent_hash_of, record_with}
use Rattle.ug_kernel.specs.Kernel.{Kernel}
use Rattle.ug_kernel.specs.Bound.{attrs_of}
use Rattle.ug_table.specs.Allowed.{allowed_of}
use Rattle.ug_table.specs.Laws.{Stand}
use Rattle.ug_table.specs.declared.standing.Standing.{Standing}
use Rattle.ug_sysfs.specs.World.{World}
use Rattle.ug_sysfs.specs.IfaceCount.{counts_ifaces}
use Rattle.ug_sysfs.specs.IfaceLaw.{does_so}
use Rattle.ug_sysfs.specs.Serving.{ServesIfaces, bus_told, iface_answer_of}
use Rattle.ug_iface.specs.declared.rules.IfaceRule.{IfaceRule}
use Rattle.ug_iface.specs.declared.settle.Begun.{Begun}
use Rattle.ug_iface.specs.declared.settle.Begun.TheVariants.{Walks, Ends}
use Rattle.ug_iface.specs.Counting.{CountsFaults}
use Rattle.ug_iface.specs.Laws.{IsHeldOf, IsPass}
use Rattle.ug_iface.specs.Order.{iface_cmp, in_iface_order}
use Rattle.ug_iface.specs.Settle.{Aim, RunsPass, Ended, Walked, aim_of, beginning, walking}
use Rattle.ug_iface.specs.Tree.{IfaceProg, Return, Make, Room, RunsIfaces}
use Rattle.ug_iface.proofs.Complete.{is_complete}
use Rattle.ug_iface.proofs.Counts.{pass_counts}
use Rattle.ug_iface.proofs.Order.{in_order, ordered}
use Rattle.ug_iface.proofs.Pass.{is_pass}
use Rattle.ug_core.specs.DeviceRows.{by_number}
use Rattle.ug_core.specs.Event.{DaemonState}
use Rattle.ug_core.proofs.RowOrder.{by_has}
use Rattle.ug_generate.proofs.Members.{flat_has}
use Rattle.ug_script.specs.Passes.{DevicePass, IsPassBehind, Over, First, Whole, NoPass, SettleAll, SettlesIfaces, aims_at, aims_in, device_pass, later_than, pass_behind, pass_over, play_ifaces, walk_from}
use Rattle.ug_script.proofs.Lawful.{HoldsOf, moves_on}
use Rattle.ug_script.proofs.PassBehind.{device_behind}
use Rattle.ug_script.proofs.PassSure.{pass_has_room}

-- ---- the calls

plays : {R : Type 0} (p : IfaceProg R) (s : World) → RunsIfaces ServesIfaces s p (play_ifaces p s).0 (play_ifaces p s).1
plays (Return value) s = (refl, refl)
plays (Make call next) s = ((iface_answer_of s call).0, (iface_answer_of s call).1, inl (refl, refl), plays (next (iface_answer_of s call).0) (iface_answer_of s call).1)
plays (Room next) s = (true, plays (next true) s)

walks : (aim : Aim) (w : World) (p : Begun × World) → RunsIfaces ServesIfaces w (beginning aim.device.via_port) p.0 p.1 → RunsPass ServesIfaces iface_cmp aim w [] (walk_from aim p).end (walk_from aim p).entries (walk_from aim p).world
walks aim w (Ends end, u) run = Ended end u run
walks aim w (Walks names, u) run = Walked names (in_iface_order names) u _ _ _ run (ordered names) (in_order names) (plays (walking aim (in_iface_order names) []) u)

device_runs : (aim : Aim) (w : World) → RunsPass ServesIfaces iface_cmp aim w [] (device_pass aim w).end (device_pass aim w).entries (device_pass aim w).world
device_runs aim w = walks aim w (play_ifaces (beginning aim.device.via_port) w) (plays (beginning aim.device.via_port) w)

abbrev faults_in : World → ℕ
faults_in w = w.faults

abbrev calls_in : World → ℕ
calls_in w = w.calls

settles : (aim : Aim) (w : World) (i : ℕ) → IsHeldOf w.kernel aim.device.via_port aim.held i → SettlesIfaces aim w (device_pass aim w).end (device_pass aim w).entries (device_pass aim w).world
settles aim w i held =
    let p : DevicePass = device_pass aim w in
    let run : RunsPass ServesIfaces iface_cmp aim w [] p.end p.entries p.world = device_runs aim w in
    let law : IsPass bus_told w aim [] p.end p.entries p.world = is_pass ServesIfaces bus_told does_so iface_cmp aim w p.world [] p.entries p.end run in
    let counts : CountsFaults w.faults p.world.faults [] p.end p.entries = pass_counts ServesIfaces calls_in faults_in counts_ifaces iface_cmp aim w p.world [] p.entries p.end run in
    record {
      runs = run;
      law = law;
      counts = counts;
      complete = is_complete bus_told faults_in w p.world aim [] p.entries p.end counts law;
      room = pass_has_room aim w;
      device = i;
      held = held;
    }

-- ---- the held files

-- a record has the name of its device
good_port : (name : List ℕ) (attrs : Attrs) (parent : Option Attrs) (device : DeviceRecord) → judged_of name attrs parent ≡ Good device → device.via_port ≡ name
unfolding judged_of
good_port name attrs parent device e = under attrs.too_long (decoded attrs.descriptors) e
  where
    under : (long : Bool) (r : Result Descr PlacedFault) → (if long then Malformed 8 0 else judged_by name attrs (parent_hash_of parent) r) ≡ Good device → device.via_port ≡ name
    under true r e = let none : ⊥ = cc in absurd none
    under false (Err fault) e = let none : ⊥ = cc in absurd none
    under false (Ok descr) e = let same : record_with name attrs (parent_hash_of parent) descr ≡ device = cc in sym (ap (λ (r : DeviceRecord). r.via_port) same)

allowed_good : (settled : Bool) (verdict : Target) (judged : Judged) (device : DeviceRecord) → Has (allowed_of settled verdict judged) device → judged ≡ Good device
allowed_good true target.Allow (Good given) device (inl e) = ap Good e
allowed_good true target.Allow (Good given) device (inr h) = absurd h
allowed_good true target.Allow (Malformed kind place) device h = absurd h
allowed_good true target.Block judged device h = absurd h
allowed_good true target.Reject judged device h = absurd h
allowed_good false verdict judged device h = absurd h

-- one of those standings, and what is to be done with it
record IsAimedAt (rules : List IfaceRule) (ss : List Standing) (aim : Aim) : Type 0 where
  standing : Standing
  stands : Has ss standing
  aimed : Has (aims_at rules standing) aim

record IsHeld (k : Kernel) (aim : Aim) : Type 0 where
  device : ℕ
  held : IsHeldOf k aim.device.via_port aim.held device

aim_held : (rules : List IfaceRule) (k : Kernel) (ss : List Standing) (next : ℕ) (aim : Aim) → Stand k ss next → IsAimedAt rules ss aim → IsHeld k aim
aim_held rules k ss next aim h at =
    let s : Standing = at.standing in
    let is = h.devices s at.stands in
    let m = map_has (λ (device : DeviceRecord). aim_of rules device s.number s.held.0) (allowed_of s.settled s.verdict s.judged) aim at.aimed in
    let good : s.judged ≡ Good m.0 = allowed_good s.settled s.verdict s.judged m.0 m.1 in
    let port : m.0.via_port ≡ is.1.d.name = good_port is.1.d.name (attrs_of is.1.d) is.1.of.0 m.0 (sym is.1.of.2 ∙ good) in
    subst (λ (a : Aim). IsHeld k a) m.2 (record { device = is.0; held = record { d = is.1.d; file = is.1.file; at = is.1.device; named = sym port } })

aimed_at : (rules : List IfaceRule) (ss : List Standing) (aim : Aim) → Has (aims_in rules ss) aim → IsAimedAt rules ss aim
aimed_at rules ss aim h =
    let s = flat_has (aims_at rules) (later_than 0 (by_number ss)) aim h in
    let later = filter_has (λ (x : Standing). nat_lt 0 x.number) (by_number ss) s.0 s.1 in
    record { standing = s.0; stands = by_has ss s.0 later.0; aimed = s.2 }

-- ---- the pass

settle_all : (rules : List IfaceRule) (ss : List Standing) (next : ℕ) (aims : List Aim) (w : World) → Stand w.kernel ss next → ((aim : Aim) → Has aims aim → IsAimedAt rules ss aim) → SettleAll w aims (pass_over aims w).text (pass_over aims w).world
settle_all rules ss next [] w h all = Over w
settle_all rules ss next (aim ∷ aims) w h all =
    let p : DevicePass = device_pass aim w in
    let held = aim_held rules w.kernel ss next aim h (all aim (inl refl)) in
    First aim aims p.end p.entries (pass_over aims p.world).text w p.world (pass_over aims p.world).world (settles aim w held.device held.held)
    (settle_all rules ss next aims p.world (moves_on ss next w.kernel p.world.kernel (device_behind aim w).moves h) (λ x a. all x (inr a)))

pub is_pass_behind : (rules : List IfaceRule) (d : DaemonState) (w : World) → HoldsOf d w → IsPassBehind rules d w (pass_behind rules d w).text (pass_behind rules d w).world
is_pass_behind [] d w h = NoPass d w
is_pass_behind (rule ∷ rules) d w h =
    let ss : List Standing = d.sweep.standings in
    let aims : List Aim = aims_in (rule ∷ rules) ss in
    Whole rule rules d w (pass_over aims w).text (pass_over aims w).world (settle_all (rule ∷ rules) ss d.sweep.next aims w h.stand (λ aim a. aimed_at (rule ∷ rules) ss aim a))
