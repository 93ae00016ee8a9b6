-- Where nothing is scheduled, no device comes or goes within an event.
use Rattle.std.proofs.Common.{◌≡◌, ℕ, ◌<◌, Bool, true, false, List, [], length, Option, Some, None, inl, inr, refl, sym, ◌∙◌, ap, arith}
use Rattle.std.specs.List.{slice_get}
use Rattle.std.proofs.lemmas.List.{length-set}
use Rattle.std.proofs.lemmas.Option.{slice_get_within, slice_get_cases, same_Some}
use Rattle.ug_table.proofs.Common.{Device, Write, Call, Answer, Open, Put, Kernel, Live, Lived, Grows}
use Rattle.ug_kernel.specs.Tree.{Prog, Return, Ask, Room}
use Rattle.ug_sysfs.specs.Devices.{find}
use Rattle.ug_sysfs.specs.declared.script.Scheduled.{Scheduled}
use Rattle.ug_sysfs.specs.World.{World, happen, with_file, opened_at, switched_to, put_at, live_held, effect, shift, entered, fate_of, with_kernel, failure_counted, scripted_answer, answer_from}
use Rattle.ug_script.specs.Play.{play}
use Rattle.ug_script.proofs.Plays.{unless_cases}

pub record Still (s t : World) : Type 0 where
  pub moves : t.moves ≡ []
  pub devices : length t.kernel.devices ≡ length s.kernel.devices

still_shift : (n : ℕ) (after : Bool) (s : World) → s.moves ≡ [] → Still s (shift n after s)
still_shift n after s e =
    let h : happen n after s.moves s.kernel.devices ≡ ([], s.kernel.devices) = ap (λ (v : List Scheduled). happen n after v s.kernel.devices) e in
    record { moves = ap (λ (p : List Scheduled × List Device). p.0) h; devices = ap (λ (p : List Scheduled × List Device). length p.1) h }

length_put : (write : Write) (o : Option ℕ) (k : Kernel) → length (put_at write o k).1.devices ≡ length k.devices
length_put write None k = refl
length_put write (Some i) k = elim (slice_get k.devices i) as (λ (d : Option Device). length (switched_to write i d k.devices) ≡ length k.devices) [ None ↦ refl | Some d ↦ length-set k.devices i _ ]

pub length_effect : (f : Option Bool) (call : Call) (k : Kernel) → length (effect f call k).1.devices ≡ length k.devices
length_effect None (Open name control) k = elim (with_file control (find name 0 k.devices) k.devices) as (λ (o : Option ℕ). length (opened_at control o k).1.devices ≡ length k.devices) [ None ↦ refl | Some i ↦ refl ]
length_effect None (Put held write) k = length_put write (live_held held k.held k.devices) k
length_effect (Some true) (Put held write) k = length_put write (live_held held k.held k.devices) k
length_effect f call k = refl

-- a call from its effect on
still_from : (s : World) (call : Call) → s.moves ≡ [] → Still s (answer_from s call).1
still_from s call e =
    let u : World = with_kernel (failure_counted s) (effect (fate_of s) call s.kernel).1 in
    let x = still_shift u.calls true u e in
    record { moves = x.moves; devices = x.devices ∙ length_effect (fate_of s) call s.kernel }

still_answer : (s : World) (call : Call) → s.moves ≡ [] → Still s (answer_from (entered s) call).1
still_answer s call e =
    let x = still_shift (entered s).calls false s e in
    let y = still_from (entered s) call x.moves in
    record { moves = y.moves; devices = y.devices ∙ x.devices }

still_unless : (s : World) (call : Call) → s.moves ≡ [] → Still s (scripted_answer s call).1
still_unless s call e =
    let same : Still s s = record { moves = e; devices = refl } in
    unless_cases (λ call (p : Answer call × World). Still s p.1) s.ran_out s (λ held. same) (λ call t. record { moves = e; devices = refl }) (λ call f. still_answer s call e) call

pub play_still : {R : Type 0} (p : Prog R) (s : World) → s.moves ≡ [] → Still s (play p s).1
play_still (Return value) s e = record { moves = e; devices = refl }
play_still (Ask call next) s e =
    let x = still_unless s call e in
    let y = play_still (next (scripted_answer s call).0) (scripted_answer s call).1 x.moves in
    record { moves = y.moves; devices = y.devices ∙ x.devices }
play_still (Room next) s e = play_still (next true) s e

not_gone : (b c : Bool) → (b ≡ true → c ≡ true) → c ≡ false → b ≡ false
not_gone false c f e = refl
not_gone true c f e = let none : true ≡ false = sym (f refl) ∙ e in let no_one : ⊥ = cc in absurd no_one

-- a device that is live in a later kernel of as many devices lived since the first
lived_since : (k l : Kernel) (i : ℕ) (e : Device) → Grows k l → length l.devices ≡ length k.devices → Live l.devices i e → (d : Device) × Lived k.devices l.devices i d
lived_since k l i e g same live = elim (slice_get_cases k.devices i).1 [
  | inl x ↦
      let later = g.devices i x.0 x.2 in
      let is : later.0 ≡ e = same_Some later.0 e (sym later.1 ∙ live.at) in
      (x.0, record { entry = record { at = x.2; here = not_gone x.0.gone e.gone (λ t. ap (λ (v : Device). v.gone) (sym is) ∙ later.2.gone t) live.here }; exit = (e, live) })
  | inr y ↦ let inside : i < length l.devices = slice_get_within l.devices i e live.at in absurd (omega (arith, same, inside, y.0))
]

-- where nothing is scheduled, what is live at the end lived since the start
pub lived_in_play : {R : Type 0} (p : Prog R) (s : World) → s.moves ≡ [] → Grows s.kernel (play p s).1.kernel → (i : ℕ) (e : Device) → Live (play p s).1.kernel.devices i e → (d : Device) × Lived s.kernel.devices (play p s).1.kernel.devices i d
lived_in_play p s m g i e live = lived_since s.kernel (play p s).1.kernel i e g (play_still p s m).devices live
