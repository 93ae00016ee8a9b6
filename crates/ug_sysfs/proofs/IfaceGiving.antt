-- What a call of an interface of a kernel in memory gives.
use Rattle.std.proofs.Common.{◌≡◌, true, false, inl, inr, refl, sym, ap, ◌∙◌}
use Rattle.std.proofs.lemmas.Bool.{cond-true, cond-false}
use Rattle.ug_iface.specs.Calls.{IfaceCall, Names_of, Open, Read, Ask_device, Ask, Put_off, Close, IfaceAnswer}
use Rattle.ug_sysfs.specs.Serving.{IfaceReply, IfaceEffects, ServesIfaces, iface_answer_from, iface_answer_of, iface_failure, iface_refusing, iface_told_as, is_iface_failure, left}
use Rattle.ug_sysfs.specs.World.{World, Enters, entered, fate_of, one_fault_more}

-- a call that isn't a closing
abbrev pub IsServed : IfaceCall → Type 0
IsServed (Close held) = ⊥
IsServed (Names_of name) = Unit {0}
IsServed (Open name) = Unit {0}
IsServed (Read name) = Unit {0}
IsServed (Ask_device held) = Unit {0}
IsServed (Ask held) = Unit {0}
IsServed (Put_off held) = Unit {0}

scripted : (call : IfaceCall) → IsServed call → (w : World) → w.ran_out ≡ false → iface_answer_of w call ≡ iface_answer_from (entered w) call
scripted (Names_of name) l w e = cond-false w.ran_out (iface_refusing w (Names_of name)) (iface_answer_from (entered w) (Names_of name)) e
scripted (Open name) l w e = cond-false w.ran_out (iface_refusing w (Open name)) (iface_answer_from (entered w) (Open name)) e
scripted (Read name) l w e = cond-false w.ran_out (iface_refusing w (Read name)) (iface_answer_from (entered w) (Read name)) e
scripted (Ask_device held) l w e = cond-false w.ran_out (iface_refusing w (Ask_device held)) (iface_answer_from (entered w) (Ask_device held)) e
scripted (Ask held) l w e = cond-false w.ran_out (iface_refusing w (Ask held)) (iface_answer_from (entered w) (Ask held)) e
scripted (Put_off held) l w e = cond-false w.ran_out (iface_refusing w (Put_off held)) (iface_answer_from (entered w) (Put_off held)) e
scripted (Close held) l w e = absurd l

refusing : (call : IfaceCall) → IsServed call → (w : World) → w.ran_out ≡ true → iface_answer_of w call ≡ iface_refusing w call
refusing (Names_of name) l w e = cond-true w.ran_out (iface_refusing w (Names_of name)) (iface_answer_from (entered w) (Names_of name)) e
refusing (Open name) l w e = cond-true w.ran_out (iface_refusing w (Open name)) (iface_answer_from (entered w) (Open name)) e
refusing (Read name) l w e = cond-true w.ran_out (iface_refusing w (Read name)) (iface_answer_from (entered w) (Read name)) e
refusing (Ask_device held) l w e = cond-true w.ran_out (iface_refusing w (Ask_device held)) (iface_answer_from (entered w) (Ask_device held)) e
refusing (Ask held) l w e = cond-true w.ran_out (iface_refusing w (Ask held)) (iface_answer_from (entered w) (Ask held)) e
refusing (Put_off held) l w e = cond-true w.ran_out (iface_refusing w (Put_off held)) (iface_answer_from (entered w) (Put_off held)) e
refusing (Close held) l w e = absurd l

failing : (call : IfaceCall) → IsServed call → is_iface_failure call (iface_failure call) ≡ true
failing (Names_of name) l = refl
failing (Open name) l = refl
failing (Read name) l = refl
failing (Ask_device held) l = refl
failing (Ask held) l = refl
failing (Put_off held) l = refl
failing (Close held) l = absurd l

pub refused_serves : (s t : World) (call : IfaceCall) → IsServed call → Enters s false t → ServesIfaces s call (iface_told_as call (iface_failure call) t) t
refused_serves s t call l e =
    let g : iface_refusing s call ≡ iface_answer_of s call = sym (refusing call l s e.0) in
    inl (ap (iface_told_as call (iface_failure call)) e.1 ∙ ap (λ (x : IfaceAnswer call × World). x.0) g, e.1 ∙ ap (λ (x : IfaceAnswer call × World). x.1) g)

pub ended_serves : (s u v t : World) (call : IfaceCall) (reply : IfaceReply call) → IsServed call → Enters s true u → IfaceEffects u call reply v → t ≡ left v → ServesIfaces s call (iface_told_as call reply t) t
ended_serves s u v t call reply l e f n =
    let whole : iface_answer_from u call ≡ iface_answer_of s call = ap (λ (w : World). iface_answer_from w call) e.1 ∙ sym (scripted call l s e.0) in
    elim f.0 [
      | inl a ↦
          let there : t ≡ (iface_answer_from u call).1 = n ∙ ap left a.1 in
          inl ((λ i. iface_told_as call (a.0 i) (there i)) ∙ ap (λ (x : IfaceAnswer call × World). x.0) whole, there ∙ ap (λ (x : IfaceAnswer call × World). x.1) whole)
      | inr x ↦ elim x [
        | inl b ↦ inr (inl (record {
          reply = reply;
          memory = b.0;
          ran = e.0;
          unscheduled = ap fate_of (sym e.1) ∙ b.2;
          after = n ∙ ap left (b.1 ∙ e.1);
          answer = refl;
        }))
        | inr d ↦ inr (inr (record {
          entry = d.3;
          out = ap (λ (w : World). w.ran_out) n ∙ d.1;
          call_counted = ap (λ (w : World). w.calls) n ∙ d.2 ∙ ap (λ (w : World). w.calls) e.1;
          fault_counted = ap (λ (w : World). w.faults) n ∙ f.1 ∙ cond-true (is_iface_failure call reply) (one_fault_more u.faults) u.faults (ap (is_iface_failure call) d.0 ∙ failing call l) ∙ ap (λ (w : World). one_fault_more w.faults) e.1;
          answer = ap (λ (r : IfaceReply call). iface_told_as call r t) d.0;
        }))
      ]
    ]
