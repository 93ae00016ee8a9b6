-- The counts of failures rise along a pass.
use Rattle.std.proofs.Common.{◌≡◌, ℕ, ◌-◌, ◌^◌, ◌<◌, ◌≤◌, Bool, true, false, ◌&&◌, cond, List, [], ◌∷◌, ◌++◌, refl, sym, ◌∙◌, ap, subst, arith}
use Rattle.std.proofs.lemmas.List.{append-nil, append_assoc}
use Rattle.std.specs.declared.cmp.Ordering.{Ordering}
use Rattle.ug_types.specs.declared.record.Triple.{Triple}
use Rattle.ug_kernel.specs.Along.{IsAbove}
use Rattle.ug_kernel.specs.Calls.{ToldAnswer, Counted}
use Rattle.ug_kernel.specs.declared.calls.Probe.{Probe}
use Rattle.ug_kernel.specs.declared.calls.Probe.TheVariants as probe
use Rattle.ug_kernel.specs.declared.calls.Wrote.{Wrote}
use Rattle.ug_kernel.specs.declared.calls.Wrote.TheVariants as wrote
use Rattle.ug_iface.specs.declared.name.IfaceName.{IfaceName}
use Rattle.ug_iface.specs.declared.calls.IfaceHeld.{IfaceHeld}
use Rattle.ug_iface.specs.declared.calls.IfaceListing.{IfaceListing}
use Rattle.ug_iface.specs.declared.calls.IfaceListing.TheVariants as listing
use Rattle.ug_iface.specs.declared.calls.IfaceOpened.{IfaceOpened}
use Rattle.ug_iface.specs.declared.calls.IfaceOpened.TheVariants as opened
use Rattle.ug_iface.specs.declared.calls.IfaceRead.{IfaceRead}
use Rattle.ug_iface.specs.declared.calls.IfaceRead.TheVariants as read
use Rattle.ug_iface.specs.declared.look.Look.{Look}
use Rattle.ug_iface.specs.declared.look.Look.TheVariants as look
use Rattle.ug_iface.specs.declared.settle.Begun.{Begun}
use Rattle.ug_iface.specs.declared.settle.Begun.TheVariants.{Walks, Ends}
use Rattle.ug_iface.specs.declared.settle.IfaceEntry.{IfaceEntry}
use Rattle.ug_iface.specs.declared.settle.IfaceEntry.TheVariants as entry
use Rattle.ug_iface.specs.declared.settle.Passed.{Passed}
use Rattle.ug_iface.specs.declared.settle.Passed.TheVariants as passed
use Rattle.ug_iface.specs.Calls.{IfaceCall, IfaceAnswer, Names_of, Open, Read, Ask_device, Ask, Put_off, Close, CountsIface}
use Rattle.ug_iface.specs.Tree.{Return, RunsIfaces, then_iface}
use Rattle.ug_iface.specs.Look.{closing_iface, after_ask, after_device, after_iface_read, after_iface_open, looking}
use Rattle.ug_iface.specs.Named.{is_named_off}
use Rattle.ug_iface.specs.Settle.{Aim, noted_off, switching, leaving, after_look, settling_iface, walking, after_listing, beginning, if_entry_room, RunsPass, Ended, Walked}
use Rattle.ug_iface.specs.Counting.{CountsRise, EndRises, CountsFaults}
use Rattle.ug_iface.proofs.Runs.{runs_split}

abbrev LookCount : ℕ → ℕ → Look → Type 0
LookCount low high (look.Here file triple on) = low ≤ high
LookCount low high look.Absent = low ≤ high
LookCount low high look.Gone = low ≤ high
LookCount low high (look.Failed count) = IsAbove low count × (count ≤ high)
LookCount low high look.Memory = low ≤ high

above_lower : (c d x : ℕ) → c ≤ d → IsAbove d x → IsAbove c x
above_lower c d x p h =
    let e : d ≤ x = h.0 in
    let r : d < 2 ^ 64 - 1 → d < x = h.1 in
    (omega (arith, e, p), λ low. grind (arith, r, e, p, low))

look_within : (a b c d : ℕ) (r : Look) → a ≤ b → c ≤ d → LookCount b c r → LookCount a d r
look_within a b c d (look.Here file triple on) p q h = omega (arith, p, q, h)
look_within a b c d look.Absent p q h = omega (arith, p, q, h)
look_within a b c d look.Gone p q h = omega (arith, p, q, h)
look_within a b c d (look.Failed count) p q h = (above_lower a b count p h.0, omega (arith, h.1, q))
look_within a b c d look.Memory p q h = omega (arith, p, q, h)

rises_lower : (a b c : ℕ) (es : List IfaceEntry) → a ≤ b → CountsRise b es c → CountsRise a es c
rises_lower a b c [] p h = omega (arith, p, h)
rises_lower a b c (entry.Intent number name ∷ es) p h = rises_lower a b c es p h
rises_lower a b c (entry.Wrote number name out ∷ es) p h = rises_lower a b c es p h
rises_lower a b c (entry.Fault number name count ∷ es) p h = (above_lower a b count p h.0, h.1)
rises_lower a b c (entry.Memory number name ∷ es) p h = rises_lower a b c es p h

rises_then : (a b c : ℕ) (es fs : List IfaceEntry) → CountsRise a es b → CountsRise b fs c → CountsRise a (es ++ fs) c
rises_then a b c [] fs h k = rises_lower a b c fs h k
rises_then a b c (entry.Intent number name ∷ es) fs h k = rises_then a b c es fs h k
rises_then a b c (entry.Wrote number name out ∷ es) fs h k = rises_then a b c es fs h k
rises_then a b c (entry.Fault number name count ∷ es) fs h k = (h.0, rises_then count b c es fs h.1 k)
rises_then a b c (entry.Memory number name ∷ es) fs h k = rises_then a b c es fs h k

above_of : {X : Type 0} (failed : X → Bool) (told : ToldAnswer X) (a f d g : ℕ) → Counted failed told a f d g → failed told.answer ≡ true → IsAbove f told.count × (told.count ≤ g)
above_of failed told a f d g h e =
    let r = h.rises e in
    ((omega (arith, h.count, h.never_falls), λ low. omega (arith, h.count, r low)), omega (arith, h.count))

-- the entries that are added
abbrev Adds : ℕ → ℕ → List IfaceEntry → List IfaceEntry → Type 0
Adds low high es out = (added : List IfaceEntry) × (out ≡ es ++ added) × CountsRise low added high

pub rises_le : (low high : ℕ) (es : List IfaceEntry) → CountsRise low es high → low ≤ high
rises_le low high [] h = h
rises_le low high (entry.Intent number name ∷ es) h = rises_le low high es h
rises_le low high (entry.Wrote number name out ∷ es) h = rises_le low high es h
rises_le low high (entry.Fault number name count ∷ es) h = let r = rises_le count high es h.1 in omega (arith, h.0.0, r)
rises_le low high (entry.Memory number name ∷ es) h = rises_le low high es h

module _ {S : Type 0} (serves : S → (call : IfaceCall) → IfaceAnswer call → S → Type 0) (calls faults : S → ℕ) (counts : (s : S) (call : IfaceCall) (answer : IfaceAnswer call) (t : S) → serves s call answer t → CountsIface call answer (calls s) (faults s) (calls t) (faults t)) where
  falls_not : (call : IfaceCall) (answer : IfaceAnswer call) (c f d g : ℕ) → CountsIface call answer c f d g → f ≤ g
  falls_not (Names_of name) answer c f d g h = h.never_falls
  falls_not (Open name) answer c f d g h = h.never_falls
  falls_not (Read name) answer c f d g h = h.never_falls
  falls_not (Ask_device held) answer c f d g h = h.never_falls
  falls_not (Ask held) answer c f d g h = h.never_falls
  falls_not (Put_off held) answer c f d g h = h.never_falls
  falls_not (Close held) answer c f d g h = omega (arith, h.1)

  up : (call : IfaceCall) (answer : IfaceAnswer call) (s t : S) → serves s call answer t → faults s ≤ faults t
  up call answer s t h = falls_not call answer (calls s) (faults s) (calls t) (faults t) (counts s call answer t h)

  came : (low : ℕ) (answer r : Look) (u t : S) → LookCount low (faults u) answer → (r ≡ answer) × (t ≡ u) → LookCount low (faults t) r
  came low answer r u t l h = subst (λ (v : S). LookCount low (faults v) r) (sym h.1) (subst (λ (v : Look). LookCount low (faults u) v) (sym h.0) l)

  shut : (low : ℕ) (file : IfaceHeld) (answer r : Look) (u t : S) → LookCount low (faults u) answer → RunsIfaces serves u (closing_iface file answer) r t → LookCount low (faults t) r
  shut low file answer r u t l h = came low answer r h.1 t (look_within low low (faults u) (faults h.1) answer (omega arith) (up (Close file.0) h.0 u h.1 h.2) l) h.3

  asked : (file : IfaceHeld) (triple : Triple) (answer : Probe) (number count : ℕ) (r : Look) (u v t : S) → serves u (Ask file.0) (record { answer = answer; number = number; count = count }) v → RunsIfaces serves v (after_ask file triple answer count) r t → LookCount (faults u) (faults t) r
  asked file triple (probe.Alive on) number count r u v t call h = came (faults u) (look.Here file triple on) r v t (up (Ask file.0) _ u v call) h
  asked file triple probe.Gone number count r u v t call h = shut (faults u) file look.Absent r v t (up (Ask file.0) _ u v call) h
  asked file triple probe.Failed number count r u v t call h = shut (faults u) file (look.Failed count) r v t (above_of _ _ (calls u) (faults u) (calls v) (faults v) (counts u (Ask file.0) (record { answer = probe.Failed; number = number; count = count }) v call) refl) h

  asked_device : (held : ℕ) (file : IfaceHeld) (triple : Triple) (answer : Probe) (number count : ℕ) (r : Look) (u v t : S) → serves u (Ask_device held) (record { answer = answer; number = number; count = count }) v → RunsIfaces serves v (after_device file triple answer count) r t → LookCount (faults u) (faults t) r
  asked_device held file triple (probe.Alive on) number count r u v t call h = look_within (faults u) (faults v) (faults t) (faults t) r (up (Ask_device held) _ u v call) (omega arith) (asked file triple h.0.answer h.0.number h.0.count r v h.1 t h.2 h.3)
  asked_device held file triple probe.Gone number count r u v t call h = shut (faults u) file look.Gone r v t (up (Ask_device held) _ u v call) h
  asked_device held file triple probe.Failed number count r u v t call h = shut (faults u) file (look.Failed count) r v t (above_of _ _ (calls u) (faults u) (calls v) (faults v) (counts u (Ask_device held) (record { answer = probe.Failed; number = number; count = count }) v call) refl) h

  was_read : (name : IfaceName) (held : ℕ) (file : IfaceHeld) (answer : IfaceRead) (number count : ℕ) (r : Look) (u v t : S) → serves u (Read name) (record { answer = answer; number = number; count = count }) v → RunsIfaces serves v (after_iface_read held file answer count) r t → LookCount (faults u) (faults t) r
  was_read name held file (read.Is triple) number count r u v t call h = look_within (faults u) (faults v) (faults t) (faults t) r (up (Read name) _ u v call) (omega arith) (asked_device held file triple h.0.answer h.0.number h.0.count r v h.1 t h.2 h.3)
  was_read name held file read.Absent number count r u v t call h = shut (faults u) file look.Absent r v t (up (Read name) _ u v call) h
  was_read name held file read.Failed number count r u v t call h = shut (faults u) file (look.Failed count) r v t (above_of _ _ (calls u) (faults u) (calls v) (faults v) (counts u (Read name) (record { answer = read.Failed; number = number; count = count }) v call) refl) h

  was_opened : (name : IfaceName) (held : ℕ) (answer : IfaceOpened) (number count : ℕ) (r : Look) (u v t : S) → serves u (Open name) (record { answer = answer; number = number; count = count }) v → RunsIfaces serves v (after_iface_open name held answer count) r t → LookCount (faults u) (faults t) r
  was_opened name held (opened.Token file) number count r u v t call h = look_within (faults u) (faults v) (faults t) (faults t) r (up (Open name) _ u v call) (omega arith) (was_read name held file h.0.answer h.0.number h.0.count r v h.1 t h.2 h.3)
  was_opened name held opened.Absent number count r u v t call h = came (faults u) look.Absent r v t (up (Open name) _ u v call) h
  was_opened name held opened.Failed number count r u v t call h = came (faults u) (look.Failed count) r v t (above_of _ _ (calls u) (faults u) (calls v) (faults v) (counts u (Open name) (record { answer = opened.Failed; number = number; count = count }) v call) refl) h
  was_opened name held opened.Memory number count r u v t call h = came (faults u) look.Memory r v t (up (Open name) _ u v call) h

  look_counts : (name : IfaceName) (held : ℕ) (r : Look) (s t : S) → RunsIfaces serves s (looking name held) r t → LookCount (faults s) (faults t) r
  look_counts name held r s t h = was_opened name held h.0.answer h.0.number h.0.count r s h.1 t h.2 h.3

  adds_at : (low : ℕ) (es : List IfaceEntry) (p q : Bool × List IfaceEntry) (u t : S) → Adds low (faults u) es q.1 → (p ≡ q) × (t ≡ u) → Adds low (faults t) es p.1
  adds_at low es p q u t a h = subst (λ (v : S). Adds low (faults v) es p.1) (sym h.1) (subst (λ (v : Bool × List IfaceEntry). Adds low (faults u) es v.1) (sym h.0) a)

  wrote_adds : (number : ℕ) (name : IfaceName) (low high : ℕ) (es : List IfaceEntry) (answer : Wrote) (count : ℕ) → low ≤ high → (answer ≡ wrote.Failed → IsAbove low count × (count ≤ high)) → Adds low high es (noted_off number name answer count (es ++ entry.Intent number name ∷ []))
  wrote_adds number name low high es wrote.Done count p f = (entry.Intent number name ∷ entry.Wrote number name wrote.Done ∷ [], append_assoc es (entry.Intent number name ∷ []) (entry.Wrote number name wrote.Done ∷ []), p)
  wrote_adds number name low high es wrote.Gone count p f = (entry.Intent number name ∷ entry.Wrote number name wrote.Gone ∷ [], append_assoc es (entry.Intent number name ∷ []) (entry.Wrote number name wrote.Gone ∷ []), p)
  wrote_adds number name low high es wrote.Failed count p f =
      let i = entry.Intent number name in
      let w = entry.Wrote number name wrote.Failed in
      let x = entry.Fault number name count in
      (i ∷ w ∷ x ∷ [], ap (λ (l : List IfaceEntry). l ++ x ∷ []) (append_assoc es (i ∷ []) (w ∷ [])) ∙ append_assoc es (i ∷ w ∷ []) (x ∷ []), f refl)

  adds_more : (low : ℕ) (high more : ℕ) (es out : List IfaceEntry) → high ≤ more → Adds low high es out → Adds low more es out
  adds_more low high more es out p a =
      let e : CountsRise high [] more = p in
      (a.0, a.1, subst (λ (l : List IfaceEntry). CountsRise low l more) (append-nil a.0) (rises_then low high more a.0 [] a.2 e))

  put_failed : (file : ℕ) (answer : Wrote) (number count : ℕ) (u v : S) → serves u (Put_off file) (record { answer = answer; number = number; count = count }) v → answer ≡ wrote.Failed → IsAbove (faults u) count × (count ≤ faults v)
  put_failed file answer number count u v call e = above_of _ _ (calls u) (faults u) (calls v) (faults v) (counts u (Put_off file) (record { answer = answer; number = number; count = count }) v call) (ap Rattle.ug_kernel.specs.Calls.failed_put e)

  looked : (aim : Aim) (name : IfaceName) (es : List IfaceEntry) (low : ℕ) (answer : Look) (u t : S) (r : Bool × List IfaceEntry) → LookCount low (faults u) answer → RunsIfaces serves u (after_look aim name es answer) r t → Adds low (faults t) es r.1
  looked aim name es low (look.Here file triple on) u t r l h = by (on && is_named_off aim.rules aim.device triple) h
    where
      by : (v : Bool) → RunsIfaces serves u (cond v (then_iface (switching aim.number name file es) (λ more. Return (true, more))) (leaving file es)) r t → Adds low (faults t) es r.1
      by true k =
          let c = k.3 in
          let low_u : low ≤ faults u = l in
          let uv = up (Put_off file.0) k.0 u k.1 k.2 in
          let failed : k.0.answer ≡ wrote.Failed → IsAbove low k.0.count × (k.0.count ≤ faults k.1) = λ e. let f = put_failed file.0 k.0.answer k.0.number k.0.count u k.1 k.2 e in (above_lower low (faults u) k.0.count low_u f.0, f.1) in
          let a = wrote_adds aim.number name low (faults k.1) es k.0.answer k.0.count (omega (arith, low_u, uv)) failed in
          adds_at low es r (true, noted_off aim.number name k.0.answer k.0.count (es ++ entry.Intent aim.number name ∷ [])) c.1 t (adds_more low (faults k.1) (faults c.1) es _ (up (Close file.0) c.0 k.1 c.1 c.2) a) c.3
      by false k =
          let low_u : low ≤ faults u = l in
          let uv = up (Close file.0) k.0 u k.1 k.2 in
          adds_at low es r (true, es) k.1 t ([], sym (append-nil es), omega (arith, low_u, uv)) k.3
  looked aim name es low look.Absent u t r l h = adds_at low es r (true, es) u t ([], sym (append-nil es), l) h
  looked aim name es low look.Gone u t r l h = adds_at low es r (false, es) u t ([], sym (append-nil es), l) h
  looked aim name es low (look.Failed count) u t r l h = adds_at low es r (true, es ++ entry.Fault aim.number name count ∷ []) u t (entry.Fault aim.number name count ∷ [], refl, l) h
  looked aim name es low look.Memory u t r l h = adds_at low es r (true, es ++ entry.Memory aim.number name ∷ []) u t (entry.Memory aim.number name ∷ [], refl, l) h

  one_counts : (aim : Aim) (name : IfaceName) (es : List IfaceEntry) (s t : S) (r : Bool × List IfaceEntry) → RunsIfaces serves s (settling_iface aim name es) r t → Adds (faults s) (faults t) es r.1
  one_counts aim name es s t r h =
      let k = runs_split serves s (looking name aim.held) (after_look aim name es) r t h in
      looked aim name es (faults s) k.0 k.1 t r (look_counts name aim.held k.0 s k.1 k.2) k.3

  abbrev Is_end : Passed → Type 0
  Is_end passed.Done = Unit {0}
  Is_end passed.Gone = Unit {0}
  Is_end (passed.Fault count) = ⊥
  Is_end passed.Memory = ⊥

  walk_counts : (aim : Aim) (names : List IfaceName) (es : List IfaceEntry) (s t : S) (r : Passed × List IfaceEntry) → RunsIfaces serves s (walking aim names es) r t → Adds (faults s) (faults t) es r.1 × Is_end r.0
  walk_counts aim [] es s t r h =
      let a : Adds (faults s) (faults s) es es = ([], sym (append-nil es), omega arith) in
      subst (λ (v : S). Adds (faults s) (faults v) es r.1 × Is_end r.0) (sym h.1) (subst (λ (v : Passed × List IfaceEntry). Adds (faults s) (faults s) es v.1 × Is_end v.0) (sym h.0) (a, tt))
  walk_counts aim (name ∷ names) es s t r h =
      let k = runs_split serves s (settling_iface aim name es) (λ (p : Bool × List IfaceEntry). cond p.0 (walking aim names p.1) (Return (passed.Gone, p.1))) r t h in
      by k.0.0 k.0.1 k.1 (one_counts aim name es s k.1 k.0 k.2) (λ u p q. walk_counts aim names p u t r q) k.3
    where
      by : (there : Bool) (p : List IfaceEntry) (u : S) → Adds (faults s) (faults u) es p → ((u : S) (p : List IfaceEntry) → RunsIfaces serves u (walking aim names p) r t → Adds (faults u) (faults t) p r.1 × Is_end r.0)
          → RunsIfaces serves u (cond there (walking aim names p) (Return (passed.Gone, p))) r t → Adds (faults s) (faults t) es r.1 × Is_end r.0
      by true p u a rest q =
          let b = rest u p q in
          ((a.0 ++ b.0.0, b.0.1 ∙ ap (λ (l : List IfaceEntry). l ++ b.0.0) a.1 ∙ append_assoc es a.0 b.0.0, rises_then (faults s) (faults u) (faults t) a.0 b.0.0 a.2 b.0.2), b.1)
      by false p u a rest q =
          subst (λ (v : S). Adds (faults s) (faults v) es r.1 × Is_end r.0) (sym q.1) (subst (λ (v : Passed × List IfaceEntry). Adds (faults s) (faults u) es v.1 × Is_end v.0) (sym q.0) (a, tt))

  abbrev BeginCount : ℕ → ℕ → Begun → Type 0
  BeginCount low high (Walks names) = low ≤ high
  BeginCount low high (Ends end) = EndRises low end high

  begun_at : (low : ℕ) (p q : Begun) (u t : S) → BeginCount low (faults u) q → (p ≡ q) × (t ≡ u) → BeginCount low (faults t) p
  begun_at low p q u t a h = subst (λ (v : S). BeginCount low (faults v) p) (sym h.1) (subst (λ (v : Begun). BeginCount low (faults u) v) (sym h.0) a)

  listed : (name : List ℕ) (answer : IfaceListing) (number count : ℕ) (r : Begun) (s u t : S) → serves s (Names_of name) (record { answer = answer; number = number; count = count }) u → RunsIfaces serves u (after_listing answer count) r t → BeginCount (faults s) (faults t) r
  listed name (listing.Names names) number count r s u t call h = by h.0 h.1
    where
      by : (room : Bool) → RunsIfaces serves u (if_entry_room (listing.Names names) names room) r t → BeginCount (faults s) (faults t) r
      by true k = begun_at (faults s) r (Walks names) u t (up (Names_of name) _ s u call) k
      by false k = begun_at (faults s) r (Ends passed.Memory) u t (up (Names_of name) _ s u call) k
  listed name listing.Absent number count r s u t call h = begun_at (faults s) r (Ends passed.Gone) u t (up (Names_of name) _ s u call) h
  listed name listing.Failed number count r s u t call h = begun_at (faults s) r (Ends (passed.Fault count)) u t (above_of _ _ (calls s) (faults s) (calls u) (faults u) (counts s (Names_of name) (record { answer = listing.Failed; number = number; count = count }) u call) refl) h
  listed name listing.Memory number count r s u t call h = begun_at (faults s) r (Ends passed.Memory) u t (up (Names_of name) _ s u call) h

  begins_counts : (name : List ℕ) (r : Begun) (s t : S) → RunsIfaces serves s (beginning name) r t → BeginCount (faults s) (faults t) r
  begins_counts name r s t h = listed name h.0.answer h.0.number h.0.count r s h.1 t h.2 h.3

  end_le : (low high : ℕ) (end : Passed) → EndRises low end high → low ≤ high
  end_le low high passed.Done h = h
  end_le low high passed.Gone h = h
  end_le low high (passed.Fault count) h = omega (arith, h.0.0, h.1)
  end_le low high passed.Memory h = h

  walk_end : (low high : ℕ) (end : Passed) → low ≤ high → Is_end end → EndRises low end high
  walk_end low high passed.Done p h = p
  walk_end low high passed.Gone p h = p
  walk_end low high (passed.Fault count) p h = absurd h
  walk_end low high passed.Memory p h = absurd h

  pub pass_counts : (cmp : IfaceName → IfaceName → Ordering) (aim : Aim) (s t : S) (es out : List IfaceEntry) (end : Passed) → RunsPass serves cmp aim s es end out t → CountsFaults (faults s) (faults t) es end out
  pass_counts cmp aim s t es out end (Ended last v run) =
      let b = begins_counts aim.device.via_port (Ends last) s v run in
      ([], sym (append-nil es), end_le (faults s) (faults v) last b, b)
  pass_counts cmp aim s t es out end (Walked names order u last more v run p sorted rest) =
      let b : faults s ≤ faults u = begins_counts aim.device.via_port (Walks names) s u run in
      let w = walk_counts aim order es u v (last, more) rest in
      let r = rises_lower (faults s) (faults u) (faults v) w.0.0 b w.0.2 in
      (w.0.0, w.0.1, r, walk_end (faults s) (faults v) last (rises_le (faults s) (faults v) w.0.0 r) w.1)
