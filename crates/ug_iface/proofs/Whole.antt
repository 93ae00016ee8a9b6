-- What the walk over all interfaces tells.
use Rattle.std.proofs.Common.{◌≡◌, ℕ, Bool, true, false, cond, List, [], ◌∷◌, ◌++◌, inl, inr, refl, sym, ◌∙◌, ap, subst}
use Rattle.std.proofs.lemmas.List.{append-nil, append_assoc}
use Rattle.ug_types.specs.Elements.{Has}
use Rattle.ug_types.proofs.Elements.{has_left, has_right}
use Rattle.ug_types.specs.declared.record.Triple.{Triple}
use Rattle.ug_kernel.specs.declared.control.Control.TheVariants.{Authorized}
use Rattle.ug_kernel.proofs.Grow.{quiet_grows}
use Rattle.ug_kernel.proofs.HeldFiles.{live_before}
use Rattle.ug_iface.specs.declared.name.IfaceName.{IfaceName}
use Rattle.ug_iface.specs.declared.settle.IfaceEntry.{IfaceEntry}
use Rattle.ug_iface.specs.declared.settle.Passed.{Passed}
use Rattle.ug_iface.specs.declared.settle.Passed.TheVariants as passed
use Rattle.ug_iface.specs.Bus.{Bus, IsSoundBus}
use Rattle.ug_iface.specs.Calls.{AllOf}
use Rattle.ug_iface.specs.Grows.{BusGrows}
use Rattle.ug_iface.specs.Named.{is_named_off}
use Rattle.ug_iface.specs.Settle.{Aim, settling_iface, walking}
use Rattle.ug_iface.specs.Tree.{Return, RunsIfaces, bus_calls}
use Rattle.ug_iface.specs.Laws.{IsHeldOf, IsGoneDevice, TellsUnsettled, IsNamedOff, IsIfaceTold, Silent, Failing, Refused, Done, Gone, Failed, Failed_off, IsOff, AreOff, Over, First}
use Rattle.ug_iface.proofs.Parts.{IfaceSettled, SwitchesOff}
use Rattle.ug_iface.proofs.Grow.{still_refl, still_grows, grows_trans}
use Rattle.ug_iface.proofs.Lived.{iface_cut}
use Rattle.ug_iface.proofs.Runs.{runs_split}
use Rattle.ug_iface.proofs.One.{settled_one}

-- the device that is held stays so
pub own_on : (device : List ℕ) (held i : ℕ) (b c : Bus) → BusGrows b c → IsHeldOf b.kernel device held i → IsHeldOf c.kernel device held i
own_on device held i b c g own =
    let d = g.kernel.devices i own.d own.at in
    record { d = d.0; file = g.kernel.held held (record { device = i; control = Authorized }) own.file; at = d.1; named = d.2.stays.name ∙ own.named }

pub gone_stays : (device : List ℕ) (held i : ℕ) (b u c : Bus) → IsHeldOf b.kernel device held i → BusGrows b u → BusGrows u c → IsGoneDevice i u → IsGoneDevice i c
gone_stays device held i b u c own g j gone e live =
    let d = g.kernel.devices i own.d own.at in
    gone d.0 (live_before u.kernel c.kernel i d.0 e (quiet_grows u.kernel c.kernel j.kernel) d.1 live).0

-- what was said of interfaces is so later on, with more entries

unsettled_wider : (number : ℕ) (name : IfaceName) (es fs : List IfaceEntry) → ((e : IfaceEntry) → Has es e → Has fs e) → TellsUnsettled number name es → TellsUnsettled number name fs
unsettled_wider number name es fs f (inl h) = inl (h.0, f _ h.1)
unsettled_wider number name es fs f (inr h) = inr (f _ h)

named_on : (aim : Aim) (i : ℕ) (name : IfaceName) (b c : Bus) (j : ℕ) → BusGrows b c → IsNamedOff aim i name b j → IsNamedOff aim i name c j
named_on aim i name b c j g n =
    let a = g.interfaces j n.x n.at in
    record {
      x = a.0;
      at = a.1;
      device = a.2.stays.device ∙ n.device;
      config = a.2.stays.config ∙ n.config;
      number = a.2.stays.number ∙ n.number;
      named = ap (λ (t : Triple). is_named_off aim.rules aim.device t) a.2.stays.triple ∙ n.named;
    }

told_on : (aim : Aim) (i : ℕ) (name : IfaceName) (b c : Bus) (es : List IfaceEntry) (js : List ℕ) → BusGrows b c → IsIfaceTold aim i name b es js → IsIfaceTold aim i name c es js
told_on aim i name b c es js g Silent = Silent
told_on aim i name b c es js g (Failing count) = Failing count
told_on aim i name b c es js g Refused = Refused
told_on aim i name b c es js g (Done j n) = Done j (named_on aim i name b c j g n)
told_on aim i name b c es js g Gone = Gone
told_on aim i name b c es js g (Failed count) = Failed count
told_on aim i name b c es js g (Failed_off count j n) = Failed_off count j (named_on aim i name b c j g n)

grows_itself : (b : Bus) → BusGrows b b
grows_itself b = still_grows b b (still_refl b)

off_stays : (b c : Bus) (j : ℕ) → BusGrows b c → IsOff b j → IsOff c j
off_stays b c j g o = let a = g.interfaces j o.x o.at in record { x = a.0; at = a.1; off = a.2.off o.off }

-- the entries that are added, and what they and the calls say
pub record Whole (aim : Aim) (i : ℕ) (names : List IfaceName) (b c : Bus) (es : List IfaceEntry) (r : Passed × List IfaceEntry) : Type 0 where
  pub added : List IfaceEntry
  pub is : r.1 ≡ es ++ added
  pub law : SwitchesOff aim i names b c r.0 added

pub ended_at : (aim : Aim) (i : ℕ) (names : List IfaceName) (b u c : Bus) (es : List IfaceEntry) (r answer : Passed × List IfaceEntry) → Whole aim i names b u es answer → (r ≡ answer) × (c ≡ u) → Whole aim i names b c es r
ended_at aim i names b u c es r answer w h = subst (λ (v : Bus). Whole aim i names b v es r) (sym h.1) (subst (λ (v : Passed × List IfaceEntry). Whole aim i names b u es v) (sym h.0) w)

module _ (aim : Aim) (i : ℕ) (name : IfaceName) (names : List IfaceName) (b u : Bus) (es : List IfaceEntry) (own : IsHeldOf b.kernel name.device aim.held i) where
  -- one that lived through, of the first name
  first_off : (c : Bus) (one more : List IfaceEntry) (l : IfaceSettled aim i name b u true one) → BusGrows u c → AreOff aim name b c (one ++ more)
  first_off c one more l g k y lived n = elim (l.off refl k y (iface_cut b u c name k y l.sound l.grows g lived).0 n) [
    | inl o ↦ inl (off_stays u c k g o)
    | inr t ↦ inr (unsettled_wider aim.number name one (one ++ more) (λ e. has_left one more e) t)
  ]

  -- and of a later one
  later_off : (c : Bus) (one more : List IfaceEntry) (there : Bool) (l : IfaceSettled aim i name b u there one) → BusGrows u c → (other : IfaceName) → AreOff aim other u c more → AreOff aim other b c (one ++ more)
  later_off c one more there l g other off k y lived n =
      let p = (iface_cut b u c other k y l.sound l.grows g lived).1 in
      elim (off k p.0 p.1 (ap (λ (t : Triple). is_named_off aim.rules aim.device t) p.2.triple ∙ n)) [
        | inl o ↦ inl o
        | inr t ↦ inr (unsettled_wider aim.number other more (one ++ more) (λ e. has_right one more e) t)
      ]

  goes_on : (c : Bus) (p : List IfaceEntry) (r : Passed × List IfaceEntry) (one : List IfaceEntry) → p ≡ es ++ one → IfaceSettled aim i name b u true one → Whole aim i names u c p r → Whole aim i (name ∷ names) b c es r
  goes_on c p r one is l w =
      let all = one ++ w.added in
      record {
        added = all;
        is = w.is ∙ ap (λ (x : List IfaceEntry). x ++ w.added) is ∙ append_assoc es one w.added;
        law = record {
          sound = w.law.sound;
          grows = grows_trans b u c l.grows w.law.grows;
          more = l.more ++ w.law.more;
          log = w.law.log ∙ ap (λ (x : List ℕ). x ++ w.law.more) l.log ∙ append_assoc b.log l.more w.law.more;
          told = First name names one w.added l.more w.law.more (told_on aim i name u c one l.more w.law.grows l.told) w.law.told;
          ends = w.law.ends;
          off = λ done other has. pick done other has;
          gone = w.law.gone;
        };
      }
    where
      pick : r.0 ≡ passed.Done → (other : IfaceName) → Has (name ∷ names) other → AreOff aim other b c (one ++ w.added)
      pick done other (inl e) = subst (λ (v : IfaceName). AreOff aim v b c (one ++ w.added)) e (first_off c one w.added l w.law.grows)
      pick done other (inr h) = later_off c one w.added true l w.law.grows other (w.law.off done other h)

  ends : (p : List IfaceEntry) (one : List IfaceEntry) → p ≡ es ++ one → IfaceSettled aim i name b u false one → Whole aim i (name ∷ names) b u es (passed.Gone, p)
  ends p one is l = record {
    added = one ++ [];
    is = is ∙ ap (λ (x : List IfaceEntry). es ++ x) (sym (append-nil one));
    law = record {
      sound = l.sound;
      grows = l.grows;
      more = l.more ++ [];
      log = l.log ∙ ap (λ (x : List ℕ). b.log ++ x) (sym (append-nil l.more));
      told = First name names one [] l.more [] l.told (Over names);
      ends = inr refl;
      off = λ done. let none : ⊥ = cc in absurd none;
      gone = λ _. l.gone refl;
    };
  }

pub walked : (aim : Aim) (i : ℕ) (device : List ℕ) (names : List IfaceName) (b c : Bus) (es : List IfaceEntry) (r : Passed × List IfaceEntry) → IsSoundBus b → AllOf device names → IsHeldOf b.kernel device aim.held i → RunsIfaces bus_calls b (walking aim names es) r c → Whole aim i names b c es r
walked aim i device [] b c es r sound all own h =
    ended_at aim i [] b b c es r (passed.Done, es) (record {
      added = [];
      is = sym (append-nil es);
      law = record { sound = sound; grows = grows_itself b; more = []; log = sym (append-nil b.log); told = Over []; ends = inl refl; off = λ done other has. absurd has; gone = λ e. let none : ⊥ = cc in absurd none };
    }) h
walked aim i device (name ∷ names) b c es r sound all own h =
    let k = runs_split bus_calls b (settling_iface aim name es) (λ (p : Bool × List IfaceEntry). cond p.0 (walking aim names p.1) (Return (passed.Gone, p.1))) r c h in
    let named : IsHeldOf b.kernel name.device aim.held i = subst (λ (v : List ℕ). IsHeldOf b.kernel v aim.held i) (sym (all name (inl refl))) own in
    let one = settled_one aim name i b es named k.1 k.0 k.2 in
    let rest : (u : Bus) (p : List IfaceEntry) → IsSoundBus u → BusGrows b u → RunsIfaces bus_calls u (walking aim names p) r c → Whole aim i names u c p r = λ u p s g q. walked aim i device names u c p r s (λ n m. all n (inr m)) (own_on device aim.held i b u g own) q in
    by named k.0.0 k.0.1 k.1 one.added one.is one.law rest k.3
  where
    by : IsHeldOf b.kernel name.device aim.held i → (there : Bool) (p : List IfaceEntry) (u : Bus) (added : List IfaceEntry) → p ≡ es ++ added → IfaceSettled aim i name b u there added
        → ((u : Bus) (p : List IfaceEntry) → IsSoundBus u → BusGrows b u → RunsIfaces bus_calls u (walking aim names p) r c → Whole aim i names u c p r)
        → RunsIfaces bus_calls u (cond there (walking aim names p) (Return (passed.Gone, p))) r c → Whole aim i (name ∷ names) b c es r
    by own true p u added is l rest q = goes_on aim i name names b u es own c p r added is l (rest u p l.sound l.grows q)
    by own false p u added is l rest q = ended_at aim i (name ∷ names) b u c es r (passed.Gone, p) (ends aim i name names b u es own p added is l) q
