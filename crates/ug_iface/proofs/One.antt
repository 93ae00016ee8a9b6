-- What the settling of one interface tells.
use Rattle.std.proofs.Common.{◌≡◌, ℕ, Bool, true, false, ◌&&◌, cond, List, [], ◌∷◌, ◌++◌, Some, slice_get, inl, inr, refl, sym, ◌∙◌, ap, subst, true≢false}
use Rattle.std.proofs.lemmas.List.{append-nil, append_assoc}
use Rattle.ug_types.specs.declared.record.Triple.{Triple}
use Rattle.ug_kernel.specs.declared.calls.Wrote.{Wrote}
use Rattle.ug_kernel.specs.declared.calls.Wrote.TheVariants as wrote
use Rattle.ug_kernel.proofs.Grow.{some_same}
use Rattle.ug_iface.specs.declared.interface.Interface.{Interface}
use Rattle.ug_iface.specs.declared.name.IfaceName.{IfaceName}
use Rattle.ug_iface.specs.declared.calls.IfaceHeld.{IfaceHeld}
use Rattle.ug_iface.specs.declared.look.Look.{Look}
use Rattle.ug_iface.specs.declared.look.Look.TheVariants as look
use Rattle.ug_iface.specs.declared.settle.IfaceEntry.{IfaceEntry}
use Rattle.ug_iface.specs.declared.settle.IfaceEntry.TheVariants as entry
use Rattle.ug_iface.specs.Bus.{Bus, LiveIface, IsSoundBus}
use Rattle.ug_iface.specs.Calls.{Put_off, Close}
use Rattle.ug_iface.specs.Called.{LivedIface, IfaceCalled}
use Rattle.ug_iface.specs.Grows.{Still, BusGrows}
use Rattle.ug_iface.specs.Named.{is_named_off}
use Rattle.ug_iface.specs.Settle.{Aim, noted_off, switching, leaving, after_look, settling_iface}
use Rattle.ug_iface.specs.Look.{looking}
use Rattle.ug_iface.specs.Tree.{Return, RunsIfaces, bus_calls, then_iface}
use Rattle.ug_iface.specs.Laws.{IsHeldOf, IsGoneDevice, IsIfaceTold, Silent, Failing, Refused, Done, Gone, Failed, Failed_off, IsNamedOff, IsOff, AreOff}
use Rattle.ug_iface.proofs.Parts.{IsFound, Looked, IfaceSettled}
use Rattle.ug_iface.proofs.Grow.{still_grows, still_trans, grows_trans, called_still}
use Rattle.ug_iface.proofs.Lived.{iface_cut}
use Rattle.ug_iface.proofs.Looks.{looks}
use Rattle.ug_iface.proofs.Runs.{runs_split}
use Rattle.ug_iface.proofs.Writes.{WasOff, off_on, put_done, put_gone, put_failed}

-- the entries that are added, and what they and the calls say
pub record One (aim : Aim) (i : ℕ) (name : IfaceName) (b c : Bus) (es : List IfaceEntry) (r : Bool × List IfaceEntry) : Type 0 where
  pub added : List IfaceEntry
  pub is : r.1 ≡ es ++ added
  pub law : IfaceSettled aim i name b c r.0 added

module _ (aim : Aim) (name : IfaceName) (i : ℕ) (b : Bus) (es : List IfaceEntry) where
  at_end : (r answer : Bool × List IfaceEntry) (u c : Bus) → One aim i name b u es answer → (r ≡ answer) × (c ≡ u) → One aim i name b c es r
  at_end r answer u c o h = subst (λ (v : Bus). One aim i name b v es r) (sym h.1) (subst (λ (v : Bool × List IfaceEntry). One aim i name b u es v) (sym h.0) o)

  no_more : (c : Bus) → Still b c → c.log ≡ b.log ++ []
  no_more c s = s.log ∙ sym (append-nil b.log)

  never : {T : Type 0} → true ≡ false → T
  never h = absurd (true≢false h)

  never_so : {T : Type 0} → false ≡ true → T
  never_so h = absurd (true≢false (sym h))

  -- nothing was written
  quietly : (there : Bool) (added : List IfaceEntry) (c : Bus) → IsSoundBus c → Still b c → IsIfaceTold aim i name c added [] → (there ≡ true → AreOff aim name b c added) → (there ≡ false → IsGoneDevice i c) → IfaceSettled aim i name b c there added
  quietly there added c sound s told off gone = record { sound = sound; grows = still_grows b c s; more = []; log = no_more c s; told = told; off = off; gone = gone }

  -- the interface that was found was switched off
  switched : (added : List IfaceEntry) (u w : Bus) (file : ℕ) (triple : Triple) (f : IsFound name i b u file triple true) → Still b u → is_named_off aim.rules aim.device triple ≡ true → IsSoundBus w → WasOff u w f.j
      → (IsNamedOff aim i name w f.j → IsIfaceTold aim i name w added (f.j ∷ [])) → AreOff aim name b w added → IfaceSettled aim i name b w true added
  switched added u w file triple f s named sound o told off =
      let a = o.grows.interfaces f.j f.x f.at in
      let named_x : is_named_off aim.rules aim.device a.0.triple ≡ true = ap (λ (t : Triple). is_named_off aim.rules aim.device t) (a.2.stays.triple ∙ f.triple_is) ∙ named in
      let one : IsNamedOff aim i name w f.j = record { x = a.0; at = a.1; device = a.2.stays.device ∙ f.device; config = a.2.stays.config ∙ f.config; number = a.2.stays.number ∙ f.number; named = named_x } in
      record {
        sound = sound;
        grows = grows_trans b u w (still_grows b u s) o.grows;
        more = f.j ∷ [];
        log = o.log ∙ ap (λ (l : List ℕ). l ++ f.j ∷ []) s.log;
        told = told one;
        off = λ _. off;
        gone = never;
      }

  only_at : (u w : Bus) (file : ℕ) (triple : Triple) (on : Bool) (f : IsFound name i b u file triple on) → IsSoundBus u → Still b u → BusGrows u w → (k : ℕ) (y : Interface) → LivedIface b w name k y → k ≡ f.j
  only_at u w file triple on f sound s g k y lived = f.only k y (iface_cut b u w name k y sound (still_grows b u s) g lived).0

  all_off : (added : List IfaceEntry) (u w : Bus) (file : ℕ) (triple : Triple) (f : IsFound name i b u file triple true) → IsSoundBus u → Still b u → WasOff u w f.j → AreOff aim name b w added
  all_off added u w file triple f sound s o k y lived named = inl (subst (λ (q : ℕ). IsOff w q) (sym (only_at u w file triple true f sound s o.grows k y lived)) o.off)

  intent : IfaceEntry
  intent = entry.Intent aim.number name

  two : (e f : IfaceEntry) → (es ++ e ∷ []) ++ f ∷ [] ≡ es ++ e ∷ f ∷ []
  two e f = append_assoc es (e ∷ []) (f ∷ [])

  three : (e f g : IfaceEntry) → ((es ++ e ∷ []) ++ f ∷ []) ++ g ∷ [] ≡ es ++ e ∷ f ∷ g ∷ []
  three e f g = ap (λ (l : List IfaceEntry). l ++ g ∷ []) (two e f) ∙ append_assoc es (e ∷ f ∷ []) (g ∷ [])

  written : (answer : Wrote) (number count : ℕ) (file : IfaceHeld) (triple : Triple) (u v w : Bus) (f : IsFound name i b u file.0 triple true) → IsSoundBus u → Still b u → is_named_off aim.rules aim.device triple ≡ true
      → IfaceCalled (Put_off file.0) (record { answer = answer; number = number; count = count }) u v → Still v w → IsSoundBus w
      → One aim i name b w es (true, noted_off aim.number name answer count (es ++ entry.Intent aim.number name ∷ []))
  written wrote.Done number count file triple u v w f su s named call t sw =
      let o = off_on u v w f.j (put_done file.0 f.j u v number count call f.held) t in
      let added = entry.Intent aim.number name ∷ entry.Wrote aim.number name wrote.Done ∷ [] in
      record {
        added = added;
        is = two _ _;
        law = switched added u w file.0 triple f s named sw o (Done f.j) (all_off added u w file.0 triple f su s o);
      }
  written wrote.Gone number count file triple u v w f su s named call t sw =
      let p = put_gone file.0 u v number count call in
      let uv = p.0 in
      let bv = still_trans b u v s uv in
      let added = entry.Intent aim.number name ∷ entry.Wrote aim.number name wrote.Gone ∷ [] in
      let none : AreOff aim name b w added = λ k y lived n.
      let is = only_at u w file.0 triple true f su s (still_grows u w (still_trans u v w uv t)) k y lived in
      let there = (iface_cut b v w name k y call.sound (still_grows b v bv) (still_grows v w t) lived).0.exit in
      let live : LiveIface v f.j there.0 = subst (λ (q : ℕ). LiveIface v q there.0) is there.1 in
      absurd (p.1 f.j there.0 (record { file = uv.files file.0 f.j f.held; at = live.at }) live) in
      record { added = added; is = two _ _; law = quietly true added w sw (still_trans b v w bv t) Gone (λ _. none) never }
  written wrote.Failed number count file triple u v w f su s named call t sw =
      let added = entry.Intent aim.number name ∷ entry.Wrote aim.number name wrote.Failed ∷ entry.Fault aim.number name count ∷ [] in
      let unsettled : AreOff aim name b w added = λ k y lived n. inr (inl (count, inr (inr (inl refl)))) in
      record {
        added = added;
        is = three _ _ _;
        law = elim (put_failed file.0 f.j u v number count call f.held) [
          | inl q ↦ quietly true added w sw (still_trans b v w (still_trans b u v s q) t) (Failed count) (λ _. unsettled) never
          | inr o ↦ switched added u w file.0 triple f s named sw (off_on u v w f.j o t) (Failed_off count f.j) unsettled
        ];
      }

  -- it is on and named
  goes_off : (file : IfaceHeld) (triple : Triple) (u c : Bus) (r : Bool × List IfaceEntry) → IsFound name i b u file.0 triple true → IsSoundBus u → Still b u → is_named_off aim.rules aim.device triple ≡ true
      → RunsIfaces bus_calls u (then_iface (switching aim.number name file es) (λ more. Return (true, more))) r c → One aim i name b c es r
  goes_off file triple u c r f su s named h =
      let k = h.3 in
      at_end r (true, noted_off aim.number name h.0.answer h.0.count (es ++ entry.Intent aim.number name ∷ [])) k.1 c
      (written h.0.answer h.0.number h.0.count file triple u h.1 k.1 f su s named h.2 (called_still (Close file.0) k.0 h.1 k.1 tt k.2) k.2.sound) k.3

  both : (x y : Bool) → (x && y) ≡ true → (x ≡ true) × (y ≡ true)
  both true true e = (refl, refl)
  both true false e = never_so e
  both false y e = never_so e

  not_both : (x y : Bool) → (x && y) ≡ false → y ≡ true → x ≡ false
  not_both true true e h = e
  not_both true false e h = never_so h
  not_both false y e h = refl

  stays_so : (file : IfaceHeld) (triple : Triple) (on : Bool) (u c : Bus) (r : Bool × List IfaceEntry) → IsFound name i b u file.0 triple on → IsSoundBus u → Still b u → (on && is_named_off aim.rules aim.device triple) ≡ false
      → RunsIfaces bus_calls u (leaving file es) r c → One aim i name b c es r
  stays_so file triple on u c r f su s so h =
      let t = called_still (Close file.0) h.0 u h.1 tt h.2 in
      let off : AreOff aim name b h.1 [] = λ k y lived n.
      let is = only_at u h.1 file.0 triple on f su s (still_grows u h.1 t) k y lived in
      let a = s.interfaces k y lived.entry.at in
      let at_j : slice_get u.interfaces f.j ≡ Some a.0 = subst (λ (q : ℕ). slice_get u.interfaces q ≡ Some a.0) is a.1 in
      let same : f.x ≡ a.0 = some_same (slice_get u.interfaces f.j) f.x a.0 f.at at_j in
      let triple_is : triple ≡ y.triple = sym f.triple_is ∙ ap (λ (x : Interface). x.triple) same ∙ a.2.stays.triple in
      let named : is_named_off aim.rules aim.device triple ≡ true = ap (λ (v : Triple). is_named_off aim.rules aim.device v) triple_is ∙ n in
      let value : on ≡ false = not_both on (is_named_off aim.rules aim.device triple) so named in
      let e = t.interfaces f.j f.x f.at in
      inl (subst (λ (q : ℕ). IsOff h.1 q) (sym is) (record { x = e.0; at = e.1; off = e.2.on ∙ f.value ∙ value })) in
      at_end r (true, es) h.1 c (record { added = []; is = sym (append-nil es); law = quietly true [] h.1 h.2.sound (still_trans b u h.1 s t) Silent (λ _. off) never }) h.3

  looked : (answer : Look) (u c : Bus) (r : Bool × List IfaceEntry) → Looked name i b u answer → RunsIfaces bus_calls u (after_look aim name es answer) r c → One aim i name b c es r
  looked (look.Here file triple on) u c r l h = by (on && is_named_off aim.rules aim.device triple) refl h
    where
      by : (v : Bool) → (on && is_named_off aim.rules aim.device triple) ≡ v → RunsIfaces bus_calls u (cond v (then_iface (switching aim.number name file es) (λ more. Return (true, more))) (leaving file es)) r c → One aim i name b c es r
      by true e k =
          let w = both on (is_named_off aim.rules aim.device triple) e in
          goes_off file triple u c r (subst (λ (v : Bool). IsFound name i b u file.0 triple v) w.0 l.says) l.sound l.still w.1 k
      by false e k = stays_so file triple on u c r l.says l.sound l.still e k
  looked look.Absent u c r l h =
      at_end r (true, es) u c (record { added = []; is = sym (append-nil es); law = quietly true [] u l.sound l.still Silent (λ _ k y lived n. absurd (l.says k y lived)) never }) h
  looked look.Gone u c r l h =
      at_end r (false, es) u c (record { added = []; is = sym (append-nil es); law = quietly false [] u l.sound l.still Silent never_so (λ _. l.says) }) h
  looked (look.Failed count) u c r l h =
      let added = entry.Fault aim.number name count ∷ [] in
      at_end r (true, es ++ added) u c (record { added = added; is = refl; law = quietly true added u l.sound l.still (Failing count) (λ _ k y lived n. inr (inl (count, inl refl))) never }) h
  looked look.Memory u c r l h =
      let added = entry.Memory aim.number name ∷ [] in
      at_end r (true, es ++ added) u c (record { added = added; is = refl; law = quietly true added u l.sound l.still Refused (λ _ k y lived n. inr (inr (inl refl))) never }) h

  pub settled_one : IsHeldOf b.kernel name.device aim.held i → (c : Bus) (r : Bool × List IfaceEntry) → RunsIfaces bus_calls b (settling_iface aim name es) r c → One aim i name b c es r
  settled_one own c r h =
      let k = runs_split bus_calls b (looking name aim.held) (after_look aim name es) r c h in
      looked k.0 k.1 c r (looks name aim.held i b own k.0 k.1 k.2) k.3
