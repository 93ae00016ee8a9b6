-- What was judged has a standing, or its device is gone.
use Rattle.std.proofs.Common.{◌≡◌, ℕ, true, false, List, [], ◌∷◌, ◌⊎◌, Some, slice_get, inl, inr, refl, sym, ◌∙◌, ap, subst}
use Rattle.ug_types.specs.Elements.{Has}
use Rattle.ug_types.specs.declared.record.Judged.{Judged}
use Rattle.ug_kernel.specs.declared.control.Held.{Held}
use Rattle.ug_types.specs.declared.verdict.Target.{Target}
use Rattle.ug_kernel.specs.declared.control.Control.TheVariants.{Authorized}
use Rattle.ug_types.proofs.Elements.{has_cases, distinct_one}
use Rattle.ug_kernel.specs.declared.device.Device.{Device}
use Rattle.ug_kernel.specs.declared.device.HeldFile.{HeldFile}
use Rattle.ug_kernel.specs.Kernel.{Kernel, Live}
use Rattle.ug_kernel.specs.Quiet.{Grows}
use Rattle.ug_kernel.proofs.Grow.{some_same}
use Rattle.ug_audit.specs.declared.entry.Entry.{Entry}
use Rattle.ug_audit.specs.declared.entry.Entry.TheVariants as entry
use Rattle.ug_table.specs.Laws.{IsDevice, IsGone, Stand, HasVerdict, AreLeft, IsJudged}
use Rattle.ug_table.specs.declared.standing.Standing.{Standing}
use Rattle.ug_table.proofs.Devices.{device_stays, gone_stays}
use Rattle.ug_table.proofs.Says.{Says, one_held}
use Rattle.ug_core.specs.InForce.{Decision, decision_in, decisions_in}
use Rattle.ug_core.proofs.InForce.{has_decision}

-- a decision that is told is that of a `judged` entry
decision_entry : (e : Entry) (d : Decision) → Has (decision_in e) d → e ≡ entry.Judged d.number d.name d.held d.verdict d.cause
decision_entry (entry.Judged number name held verdict cause) d (inl same) = ap (λ (x : Decision). entry.Judged x.number x.name x.held x.verdict x.cause) same
decision_entry (entry.Judged number name held verdict cause) d (inr none) = absurd none
decision_entry e d h = absurd h

pub decision_has : (es : List Entry) (d : Decision) → Has (decisions_in es) d → Has es (entry.Judged d.number d.name d.held d.verdict d.cause)
decision_has [] d h = absurd h
decision_has (e ∷ es) d h = elim (has_cases (decision_in e) (decisions_in es) d h) [
  | inl a ↦ inl (decision_entry e d a)
  | inr b ↦ inr (decision_has es d b)
]

-- two devices of one held file are one
pub same_device : (k : Kernel) (held i j : ℕ) → slice_get k.held held ≡ Some (record { device = i; control = Authorized }) → slice_get k.held held ≡ Some (record { device = j; control = Authorized }) → i ≡ j
same_device k held i j a b =
    let f : HeldFile = record { device = i; control = Authorized } in
    let g : HeldFile = record { device = j; control = Authorized } in
    ap (λ (v : HeldFile). v.device) (some_same (slice_get k.held held) f g a b)

-- so are those of two files that are the same
one_device : (k : Kernel) (held file : Held) (i j : ℕ) → held ≡ file → slice_get k.held held.0 ≡ Some (record { device = i; control = Authorized }) → slice_get k.held file.0 ≡ Some (record { device = j; control = Authorized }) → i ≡ j
one_device k held file i j e a b = same_device k file.0 i j (subst (λ (v : Held). slice_get k.held v.0 ≡ Some (record { device = i; control = Authorized })) e a) b

-- a number with that held file has a standing
abbrev pub Stood : List Standing → ℕ → Held → Type 0
Stood ss number held = (s : Standing) × Has ss s × (s.number ≡ number) × (s.held ≡ held)

pub record IsKnown (ss : List Standing) (k : Kernel) (d : Decision) : Type 0 where
  pub i : ℕ
  pub judged : Judged
  pub device : IsDevice k i d.name d.held judged
  pub stands : Stood ss d.number d.held ⊎ IsGone k i

abbrev pub AreKnown : List Decision → Kernel → List Standing → Type 0
AreKnown ds k ss = (d : Decision) → Has ds d → IsKnown ss k d

gone_if : (ss : List Standing) (k l : Kernel) (number : ℕ) (held : Held) (i : ℕ) → Grows k l → Stood ss number held ⊎ IsGone k i → Stood ss number held ⊎ IsGone l i
gone_if ss k l number held i g (inl s) = inl s
gone_if ss k l number held i g (inr e) = inr (gone_stays k l i g e)

pub known_grow : (ds : List Decision) (k l : Kernel) (ss : List Standing) → Grows k l → AreKnown ds k ss → AreKnown ds l ss
known_grow ds k l ss g h d a =
    let x = h d a in
    record { i = x.i; judged = x.judged; device = device_stays k l x.i d.name d.held x.judged g x.device; stands = gone_if ss k l d.number d.held x.i g x.stands }

-- where a number is told gone, its device is
told_gone : (k l : Kernel) (before : List Standing) (next0 : ℕ) (rest : List Entry) (next number : ℕ) (name : List ℕ) (held : Held) (verdict : Target) (i : ℕ) (title : List ℕ) (judged : Judged) → Stand k before next0 → Says k l before next0 rest next → HasVerdict before rest number name held verdict → IsDevice l i title held judged → Has rest (entry.Gone number name) → IsGone l i
told_gone k l before next0 rest next number name held verdict i title judged stood says had device told =
    let x = says.gone number name told in
    let same : x.held ≡ held = one_held k l before next0 rest next number name name x.held held x.verdict verdict stood.numbers stood.distinct says x.had had in
    subst (λ (v : ℕ). IsGone l v) (one_device l x.held held x.i i same x.device.file device.file) x.gone

was_known : (k l : Kernel) (before after : List Standing) (next0 : ℕ) (rest : List Entry) (next number : ℕ) (name : List ℕ) (held : Held) (i : ℕ) (judged : Judged) → Grows k l → Stand k before next0 → Says k l before next0 rest next → AreLeft before rest after → IsDevice l i name held judged → Stood before number held ⊎ IsGone k i → Stood after number held ⊎ IsGone l i
was_known k l before after next0 rest next number name held i judged grows stood says left device (inr e) = inr (gone_stays k l i grows e)
was_known k l before after next0 rest next number name held i judged grows stood says left device (inl s) = elim (left.kept s.0 s.1) [
  | inl t ↦ inl (t.0, t.1, sym t.2 ∙ s.2, sym t.4 ∙ s.3)
  | inr gone ↦ inr (told_gone k l before next0 rest next s.0.number s.0.name s.0.held s.0.verdict i name judged stood says (inl (s.0, s.1, refl, refl, refl, refl)) (subst (λ (v : Held). IsDevice l i name v judged) (sym s.3) device) gone)
]

-- what was known before a sweep
pub known_still : (ds : List Decision) (k l : Kernel) (before after : List Standing) (next0 : ℕ) (rest : List Entry) (next : ℕ) → Grows k l → Stand k before next0 → Says k l before next0 rest next → AreLeft before rest after → AreKnown ds k before → AreKnown ds l after
known_still ds k l before after next0 rest next grows stood says left h d a =
    let x = h d a in
    let device = device_stays k l x.i d.name d.held x.judged grows x.device in
    record { i = x.i; judged = x.judged; device = device; stands = was_known k l before after next0 rest next d.number d.name d.held x.i x.judged grows stood says left device x.stands }

-- and what the sweep judged
pub known_new : (k l : Kernel) (before after : List Standing) (next0 : ℕ) (rest : List Entry) (next : ℕ) → Stand k before next0 → Says k l before next0 rest next → AreLeft before rest after → ((d : Decision) → Has (decisions_in rest) d → (i : ℕ) × (judged : Judged) × IsDevice l i d.name d.held judged) → AreKnown (decisions_in rest) l after
known_new k l before after next0 rest next stood says left devices d a =
    let x = devices d a in
    let told = decision_has rest d a in
    record {
      i = x.0;
      judged = x.1;
      device = x.2;
      stands = elim (left.judged d.number d.name d.held d.verdict d.cause told) [
        | inl s ↦ inl (s.0, s.1, s.2, s.4)
        | inr gone ↦ inr (told_gone k l before next0 rest next d.number d.name d.held d.verdict x.0 d.name x.1 stood says (inr (d.cause, told)) x.2 gone)
      ];
    }

-- a live device with a standing was judged under its number alone

still_live : (k : Kernel) (i : ℕ) (d : Device) → Live k.devices i d → IsGone k i → ⊥
still_live k i d live gone =
    let same : gone.0 ≡ d = some_same (slice_get k.devices i) gone.0 d gone.1 live.at in
    let none : true ≡ false = sym gone.2 ∙ ap (λ (v : Device). v.gone) same ∙ live.here in
    let no_one : ⊥ = cc in no_one

-- two standings of one device are one
one_standing : (k : Kernel) (ss : List Standing) (next : ℕ) (s t : Standing) (i : ℕ) → Stand k ss next → Has ss s → Has ss t → slice_get k.held s.held.0 ≡ Some (record { device = i; control = Authorized }) → slice_get k.held t.held.0 ≡ Some (record { device = i; control = Authorized }) → s ≡ t
one_standing k ss next s t i stand a b f g =
    let x = stand.devices s a in
    let y = stand.devices t b in
    let here : x.0 ≡ y.0 = same_device k s.held.0 x.0 i x.1.file f ∙ sym (same_device k t.held.0 y.0 i y.1.file g) in
    let other : slice_get k.devices y.0 ≡ Some x.1.d = subst (λ (v : ℕ). slice_get k.devices v ≡ Some x.1.d) here x.1.device in
    let same : x.1.d ≡ y.1.d = some_same (slice_get k.devices y.0) x.1.d y.1.d other y.1.device in
    let name : s.name ≡ t.name = sym x.1.named ∙ ap (λ (v : Device). v.name) same ∙ y.1.named in
    distinct_one (λ (v : Standing). v.name) ss s t stand.names a b name

pub only_number : (es : List Entry) (k : Kernel) (ss : List Standing) (next : ℕ) (i : ℕ) (d : Device) (s : Standing) → Stand k ss next → AreKnown (decisions_in es) k ss → Live k.devices i d → Has ss s → slice_get k.held s.held.0 ≡ Some (record { device = i; control = Authorized }) → (number : ℕ) → IsJudged k es number i → number ≡ s.number
only_number es k ss next i d s stand known live has file number j =
    let x = known (record { number = number; name = j.name; held = j.held; verdict = j.verdict; cause = j.cause }) (has_decision es number j.name j.held j.verdict j.cause j.has) in
    let is : x.i ≡ i = same_device k j.held.0 x.i i x.device.file j.file in
    elim x.stands [
      | inl t ↦
          let there : slice_get k.held t.0.held.0 ≡ Some (record { device = i; control = Authorized }) = subst (λ (v : Held). slice_get k.held v.0 ≡ Some (record { device = i; control = Authorized })) (sym t.3) j.file in
          sym t.2 ∙ ap (λ (v : Standing). v.number) (one_standing k ss next t.0 s i stand t.1 has there file)
      | inr gone ↦ absurd (still_live k i d live (subst (λ (v : ℕ). IsGone k v) is gone))
    ]
