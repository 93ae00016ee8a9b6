-- A device that was born born_off is on only by an On entry, through moves and calls; and the log fixes the defaults.
use Rattle.std.proofs.Common.{◌≡◌, ℕ, ◌<◌, ◌≤◌, Bool, true, false, cond, nat_eq, List, [], ◌∷◌, ◌++◌, length, Option, Some, None, refl, sym, ◌∙◌, ap, subst, arith, inl, inr, ◌⊎◌, true≢false, append_assoc, append-nil}
use Rattle.std.proofs.lemmas.Bool.{cases_eq}
use Rattle.std.proofs.lemmas.Option.{same_Some, none-some}
use Rattle.std.specs.List.{slice_get}
use Rattle.ug_types.specs.Elements.{Has}
use Rattle.ug_types.proofs.Elements.{has_left, has_right}
use Rattle.ug_kernel.specs.declared.control.Write.{Write}
use Rattle.ug_kernel.specs.declared.device.Device.{Device}
use Rattle.ug_kernel.specs.declared.device.Effect.{Effect}
use Rattle.ug_kernel.specs.declared.calls.Opened.{Opened}
use Rattle.ug_kernel.specs.declared.calls.Opened.TheVariants as opened
use Rattle.ug_kernel.specs.declared.calls.Wrote.{Wrote}
use Rattle.ug_kernel.specs.declared.calls.Wrote.TheVariants as wrote
use Rattle.ug_kernel.specs.declared.control.Control.TheVariants.{Default}
use Rattle.ug_kernel.specs.Calls.{control_of, Call, Names, Open, Read, Ask_alive, Put, Close, Answer}
use Rattle.ug_kernel.specs.Kernel.{Kernel, Moves, StartsUnder, is_off, default_in}
use Rattle.ug_kernel.specs.Called.{value_after, default_after, written_to, does_open, does_put, DoesCall, IsWritten, Called}
use Rattle.ug_kernel.specs.Along.{Made, Along}
use Rattle.ug_kernel.specs.Tree.{calls}
use Rattle.ug_kernel.specs.Defaults.{HasOnEntries, set_by, default_by, default_at, Logs}
use Rattle.ug_kernel.proofs.Stayed.{back_at, stays_at}

-- moves

-- a device that is born while its controller's default is off starts off
off_on : (o : Option Bool) (on : Bool) → is_off o ≡ true → ((v : Bool) → o ≡ Some v → on ≡ v) → on ≡ false
off_on (Some false) on off h = h false refl
off_on (Some true) on off h = let none : ⊥ = cc in absurd none
off_on None on off h = let none : ⊥ = cc in absurd none

starts_off : (ds : List Device) (d : Device) (o : Option ℕ) → StartsUnder ds d o → d.born_off ≡ true → d.on ≡ false
starts_off ds d None h g = absurd (true≢false (sym g ∙ h))
starts_off ds d (Some r) h g = off_on (default_in (slice_get ds r)) d.on (sym h.born_off ∙ g) h.on

pub moves_on_entries : (k l : Kernel) → Moves k l → HasOnEntries k → HasOnEntries l
moves_on_entries k l m g i e at born_off on = elim (old_or_new i (length k.devices)) [
  | inl lt ↦
      let x = back_at k.devices l.devices m.devices i e at lt in
      subst (λ (v : List Effect). Has v (record { device = i; write = Write.On })) (sym m.log) (g i x.0 x.1 (sym x.2.stays.born_off ∙ born_off) (sym x.2.on ∙ on))
  | inr new ↦ absurd (true≢false (sym on ∙ starts_off l.devices e e.controller (m.born i e at new).1 born_off))
]
  where
    old_or_new : (i n : ℕ) → (i < n) ⊎ (n ≤ i)
    old_or_new i n = grind arith

-- calls

-- what a write that isn't On makes on was so
was_on : (what : Write) (was : Bool) → value_after what was ≡ true → (what ≡ Write.On) ⊎ (was ≡ true)
was_on Write.On was e = inl refl
was_on Write.Off was e = let none : ⊥ = cc in absurd none
was_on x was e = inr e

written_on_entries : (held : ℕ) (what : Write) (k l : Kernel) → IsWritten held what k l → HasOnEntries k → HasOnEntries l
written_on_entries held what k l w g i e at born_off on = elim (cases_eq i w.i) [
  | inl is ↦
      let same : written_to what w.d ≡ e = same_Some (written_to what w.d) e (sym w.now ∙ ap (slice_get l.devices) (sym is) ∙ at) in
      let marked : w.d.born_off ≡ true = ap (λ (x : Device). x.born_off) same ∙ born_off in
      let new : Effect = record { device = w.i; write = what } in
      let at_i : Has l.log (record { device = w.i; write = Write.On }) = elim (was_on what w.d.on (ap (λ (x : Device). x.on) same ∙ on)) [
        | inl own ↦ logged (record { device = w.i; write = Write.On }) (has_right k.log (new ∷ []) (record { device = w.i; write = Write.On }) (inl (ap (λ (x : Write). let f : Effect = record { device = w.i; write = x } in f) own)))
        | inr was ↦ logged (record { device = w.i; write = Write.On }) (has_left k.log (new ∷ []) (record { device = w.i; write = Write.On }) (g w.i w.d w.live.at marked was))
      ] in
      subst (λ (j : ℕ). Has l.log (record { device = j; write = Write.On })) (sym is) at_i
  | inr apart ↦ logged (record { device = i; write = Write.On }) (has_left k.log (record { device = w.i; write = what } ∷ []) (record { device = i; write = Write.On }) (g i e (sym (w.others i apart) ∙ at) born_off on))
]
  where
    logged : (f : Effect) → Has (k.log ++ record { device = w.i; write = what } ∷ []) f → Has l.log f
    logged f h = subst (λ (v : List Effect). Has v f) (sym w.log) h

same_on_entries : (k l : Kernel) → l ≡ k → HasOnEntries k → HasOnEntries l
same_on_entries k l e g = subst HasOnEntries (sym e) g

does_put_on_entries : (held : ℕ) (what : Write) (answer : Wrote) (k l : Kernel) → does_put held what answer k l → HasOnEntries k → HasOnEntries l
does_put_on_entries held what wrote.Done k l h g = written_on_entries held what k l h g
does_put_on_entries held what wrote.Gone k l h g = same_on_entries k l h g
does_put_on_entries held what wrote.Failed k l (inl h) g = same_on_entries k l h g
does_put_on_entries held what wrote.Failed k l (inr h) g = written_on_entries held what k l h g

does_open_on_entries : (name : List ℕ) (answer : Opened) (k l : Kernel) (h : (l.devices ≡ k.devices) × (l.log ≡ k.log)) → HasOnEntries k → HasOnEntries l
does_open_on_entries name answer k l h g i e at born_off on = subst (λ (v : List Effect). Has v (record { device = i; write = Write.On })) (sym h.1) (g i e (ap (λ (v : List Device). slice_get v i) (sym h.0) ∙ at) born_off on)

does_on_entries : (call : Call) (answer : Answer call) (k l : Kernel) → DoesCall call answer k l → HasOnEntries k → HasOnEntries l
does_on_entries Names answer k l h g = same_on_entries k l h g
does_on_entries (Open name control) answer k l h g = opening answer.answer h
  where
    opening : (r : Opened) → does_open name control r k l → HasOnEntries l
    opening (opened.Token file) o = does_open_on_entries name (opened.Token file) k l (o.devices, o.log) g
    opening x o = same_on_entries k l o g
does_on_entries (Read name attr) answer k l h g = same_on_entries k l h g
does_on_entries (Ask_alive held) answer k l h g = same_on_entries k l h g
does_on_entries (Put held what) answer k l h g = does_put_on_entries held what answer.answer k l h g
does_on_entries (Close held) answer k l h g = same_on_entries k l h g

pub called_on_entries : (call : Call) (answer : Answer call) (k l : Kernel) → Called call answer k l → HasOnEntries k → HasOnEntries l
called_on_entries call answer k l c g = moves_on_entries c.after l c.moves_after (does_on_entries call answer c.before c.after c.effect (moves_on_entries k c.before c.moves_before g))

pub along_on_entries : (ms : List Made) (k l : Kernel) → Along calls k ms l → HasOnEntries k → HasOnEntries l
along_on_entries [] k l a g = same_on_entries k l a g
along_on_entries (m ∷ ms) k l a g = along_on_entries ms a.0 l a.2 (called_on_entries m.call m.answer k a.0 a.1 g)

-- a kernel without devices
pub empty_on_entries : (k : Kernel) → k.devices ≡ [] → HasOnEntries k
empty_on_entries k e i d at born_off on = let none : slice_get k.devices i ≡ None = ap (λ (v : List Device). slice_get v i) e in let f : ⊥ = cc in absurd f

-- the log and the defaults

default_more : (i : ℕ) (es fs : List Effect) (was : Option Bool) → default_by i (es ++ fs) was ≡ default_by i fs (default_by i es was)
default_more i [] fs was = refl
default_more i (e ∷ es) fs was = default_more i es fs (cond (nat_eq e.device i) (default_after e.write was) was)

pub logs_refl : (k : Kernel) → Logs k k
logs_refl k = record { more = []; log = sym (append-nil k.log); default = λ i. refl }

pub logs_then : (k l m : Kernel) → Logs k l → Logs l m → Logs k m
logs_then k l m a b = record {
  more = a.more ++ b.more;
  log = b.log ∙ ap (λ (v : List Effect). v ++ b.more) a.log ∙ append_assoc k.log a.more b.more;
  default = λ i. b.default i ∙ ap (default_by i b.more) (a.default i) ∙ sym (default_more i a.more b.more (default_at i k));
}

-- what is born has none
pub moves_default : (k l : Kernel) → Moves k l → (i : ℕ) (o : Option Device) → slice_get k.devices i ≡ o → (p : Option Device) → slice_get l.devices i ≡ p → default_in p ≡ default_in o
moves_default k l m i (Some d) a p b =
    let x = stays_at k.devices l.devices i d m.devices a in
    ap default_in (sym b ∙ x.1) ∙ x.2.default
moves_default k l m i None a None b = refl
moves_default k l m i None a (Some e) b = elim (old_or_new i (length k.devices)) [
  | inl lt ↦
      let x = back_at k.devices l.devices m.devices i e b lt in
      absurd (none-some x.0 (sym a ∙ x.1))
  | inr new ↦ (m.born i e b new).0
]
  where
    old_or_new : (i n : ℕ) → (i < n) ⊎ (n ≤ i)
    old_or_new i n = grind arith

pub moves_log : (k l : Kernel) → Moves k l → Logs k l
moves_log k l m = record { more = []; log = m.log ∙ sym (append-nil k.log); default = λ i. moves_default k l m i (slice_get k.devices i) refl (slice_get l.devices i) refl }

same_logs : (k l : Kernel) → l ≡ k → Logs k l
same_logs k l e = subst (λ (v : Kernel). Logs k v) (sym e) (logs_refl k)

written_logs : (held : ℕ) (what : Write) (k l : Kernel) → IsWritten held what k l → Logs k l
written_logs held what k l w = record { more = record { device = w.i; write = what } ∷ []; log = w.log; default = λ i. by i (nat_eq w.i i) refl }
  where
    by : (i : ℕ) → (b : Bool) → nat_eq w.i i ≡ b → default_at i l ≡ cond (nat_eq w.i i) (default_after what (default_at i k)) (default_at i k)
    by i true e =
        let is : w.i ≡ i = grind (arith, e) in
        let now : default_at i l ≡ default_after what w.d.default = ap default_in (ap (slice_get l.devices) (sym is) ∙ w.now) in
        let was : default_at i k ≡ w.d.default = ap default_in (ap (slice_get k.devices) (sym is) ∙ w.live.at) in
        now ∙ ap (default_after what) (sym was) ∙ sym (ap (λ (b : Bool). cond b (default_after what (default_at i k)) (default_at i k)) e)
    by i false e =
        let apart : i ≡ w.i → ⊥ = λ is. let none : ⊥ = grind (arith, e, is) in none in
        ap default_in (w.others i apart) ∙ sym (ap (λ (b : Bool). cond b (default_after what (default_at i k)) (default_at i k)) e)

does_put_logs : (held : ℕ) (what : Write) (answer : Wrote) (k l : Kernel) → does_put held what answer k l → Logs k l
does_put_logs held what wrote.Done k l h = written_logs held what k l h
does_put_logs held what wrote.Gone k l h = same_logs k l h
does_put_logs held what wrote.Failed k l (inl h) = same_logs k l h
does_put_logs held what wrote.Failed k l (inr h) = written_logs held what k l h

does_logs : (call : Call) (answer : Answer call) (k l : Kernel) → DoesCall call answer k l → Logs k l
does_logs Names answer k l h = same_logs k l h
does_logs (Open name control) answer k l h = opening answer.answer h
  where
    opening : (r : Opened) → does_open name control r k l → Logs k l
    opening (opened.Token file) o = record { more = []; log = o.log ∙ sym (append-nil k.log); default = λ i. ap (λ (v : List Device). default_in (slice_get v i)) o.devices }
    opening x o = same_logs k l o
does_logs (Read name attr) answer k l h = same_logs k l h
does_logs (Ask_alive held) answer k l h = same_logs k l h
does_logs (Put held what) answer k l h = does_put_logs held what answer.answer k l h
does_logs (Close held) answer k l h = same_logs k l h

pub called_logs : (call : Call) (answer : Answer call) (k l : Kernel) → Called call answer k l → Logs k l
called_logs call answer k l c = logs_then k c.before l (moves_log k c.before c.moves_before) (logs_then c.before c.after l (does_logs call answer c.before c.after c.effect) (moves_log c.after l c.moves_after))

pub along_logs : (ms : List Made) (k l : Kernel) → Along calls k ms l → Logs k l
along_logs [] k l a = same_logs k l a
along_logs (m ∷ ms) k l a = logs_then k a.0 l (called_logs m.call m.answer k a.0 a.1) (along_logs ms a.0 l a.2)

-- where each write to a default among the entries is the same, it stands from the first on

set_after : (what : Write) (was : Option Bool) → control_of what ≡ Default → default_after what was ≡ set_by what
set_after Write.DefaultOff was e = refl
set_after Write.DefaultOn was e = refl
set_after x was e = let none : ⊥ = cc in absurd none

leaves_default : (what : Write) (was : Option Bool) → (control_of what ≡ Default → ⊥) → default_after what was ≡ was
leaves_default Write.DefaultOff was n = absurd (n refl)
leaves_default Write.DefaultOn was n = absurd (n refl)
leaves_default x was n = refl

-- each of them is that one
abbrev pub AreMeant : Write → List Effect → Type 0
AreMeant what es = (e : Effect) → Has es e → control_of e.write ≡ Default → e.write ≡ what

goes_to_default : (w : Write) → (control_of w ≡ Default) ⊎ (control_of w ≡ Default → ⊥)
goes_to_default Write.DefaultOff = inl refl
goes_to_default Write.DefaultOn = inl refl
goes_to_default x = inr (λ e. let none : ⊥ = cc in none)

-- one entry leaves it, or sets it
one_default : (what : Write) (e : Effect) (i : ℕ) (was : Option Bool) → (control_of e.write ≡ Default → e.write ≡ what) → (cond (nat_eq e.device i) (default_after e.write was) was ≡ was) ⊎ (cond (nat_eq e.device i) (default_after e.write was) was ≡ set_by what)
one_default what e i was meant = elim (nat_eq e.device i) as (λ (b : Bool). (cond b (default_after e.write was) was ≡ was) ⊎ (cond b (default_after e.write was) was ≡ set_by what)) [
  | true ↦ elim (goes_to_default e.write) [
    | inl c ↦ inr (set_after e.write was c ∙ ap set_by (meant c))
    | inr n ↦ inl (leaves_default e.write was n)
  ]
  | false ↦ inl refl
]

pub default_stays : (what : Write) (i : ℕ) (es : List Effect) (was : Option Bool) → AreMeant what es → was ≡ set_by what → default_by i es was ≡ set_by what
default_stays what i [] was meant e = e
default_stays what i (x ∷ es) was meant e =
    let now : cond (nat_eq x.device i) (default_after x.write was) was ≡ set_by what = elim (one_default what x i was (meant x (inl refl))) [ inl h ↦ h ∙ e | inr h ↦ h ] in
    default_stays what i es (cond (nat_eq x.device i) (default_after x.write was) was) (λ y a. meant y (inr a)) now

pub default_set : (what : Write) (i : ℕ) (es : List Effect) (was : Option Bool) → control_of what ≡ Default → AreMeant what es → Has es (record { device = i; write = what }) → default_by i es was ≡ set_by what
default_set what i [] was file meant a = absurd a
default_set what i (x ∷ es) was file meant (inl is) =
    let e : Effect = record { device = i; write = what } in
    let same : nat_eq x.device i ≡ true = let d : x.device ≡ i = ap (λ (v : Effect). v.device) is in grind (arith, d) in
    let now : cond (nat_eq x.device i) (default_after x.write was) was ≡ set_by what =
    ap (λ (b : Bool). cond b (default_after x.write was) was) same ∙ ap (λ (v : Effect). default_after v.write was) is ∙ set_after what was file in
    default_stays what i es (cond (nat_eq x.device i) (default_after x.write was) was) (λ y a. meant y (inr a)) now
default_set what i (x ∷ es) was file meant (inr a) = default_set what i es (cond (nat_eq x.device i) (default_after x.write was) was) file (λ y b. meant y (inr b)) a
