-- What a call of a kernel in memory gives.
use Rattle.std.proofs.Common.{◌≡◌, ℕ, Bool, true, false, cond, List, [], ◌∷◌, inl, inr, refl, sym, ap, ◌∙◌}
use Rattle.std.proofs.lemmas.Bool.{cond-true, cond-false}
use Rattle.ug_kernel.specs.Calls.{Call, Names, Open, Read, Ask_alive, Put, Close, Answer}
use Rattle.ug_kernel.specs.declared.calls.Listing.TheVariants as listing
use Rattle.ug_kernel.specs.declared.calls.Opened.TheVariants as opened
use Rattle.ug_kernel.specs.declared.calls.ReadOut.TheVariants as out
use Rattle.ug_kernel.specs.declared.calls.Probe.TheVariants as probe
use Rattle.ug_kernel.specs.declared.calls.Wrote.TheVariants as wrote
use Rattle.ug_kernel.specs.declared.record.CallRecord.{CallRecord}
use Rattle.ug_sysfs.specs.Reply.{Reply, failing_reply, is_failure, is_failed, calls_listed}
use Rattle.ug_sysfs.specs.World.{World, Effects, Ends, Enters, Gives, IsListedCall, answer_from, call_ended, call_noted, entered, fate_of, one_fault_more, refusing_memory, scripted_answer, told_as}

scripted : (call : Call) → IsListedCall call → (w : World) → w.ran_out ≡ false → scripted_answer w call ≡ answer_from (entered w) call
scripted Names l w e = cond-false w.ran_out (refusing_memory w Names) (answer_from (entered w) Names) e
scripted (Open name control) l w e = cond-false w.ran_out (refusing_memory w (Open name control)) (answer_from (entered w) (Open name control)) e
scripted (Read name attr) l w e = cond-false w.ran_out (refusing_memory w (Read name attr)) (answer_from (entered w) (Read name attr)) e
scripted (Ask_alive held) l w e = cond-false w.ran_out (refusing_memory w (Ask_alive held)) (answer_from (entered w) (Ask_alive held)) e
scripted (Put held write) l w e = cond-false w.ran_out (refusing_memory w (Put held write)) (answer_from (entered w) (Put held write)) e
scripted (Close held) l w e = absurd l

refusing : (call : Call) → IsListedCall call → (w : World) → w.ran_out ≡ true → scripted_answer w call ≡ refusing_memory w call
refusing Names l w e = cond-true w.ran_out (refusing_memory w Names) (answer_from (entered w) Names) e
refusing (Open name control) l w e = cond-true w.ran_out (refusing_memory w (Open name control)) (answer_from (entered w) (Open name control)) e
refusing (Read name attr) l w e = cond-true w.ran_out (refusing_memory w (Read name attr)) (answer_from (entered w) (Read name attr)) e
refusing (Ask_alive held) l w e = cond-true w.ran_out (refusing_memory w (Ask_alive held)) (answer_from (entered w) (Ask_alive held)) e
refusing (Put held write) l w e = cond-true w.ran_out (refusing_memory w (Put held write)) (answer_from (entered w) (Put held write)) e
refusing (Close held) l w e = absurd l

failing : (call : Call) → IsListedCall call → is_failure call (failing_reply call) ≡ true
failing Names l = refl
failing (Open name control) l = refl
failing (Read name attr) l = refl
failing (Ask_alive held) l = refl
failing (Put held write) l = refl
failing (Close held) l = absurd l

abbrev first_failed : List CallRecord → Bool
first_failed [] = false
first_failed (made ∷ rest) = is_failed made.kind

failed_listed : (call : Call) (reply : Reply call) → IsListedCall call → first_failed (calls_listed call reply) ≡ is_failure call reply
failed_listed Names (listing.Names names) l = refl
failed_listed Names listing.Failed l = refl
failed_listed Names listing.Memory l = refl
failed_listed (Open name control) (opened.Token held) l = refl
failed_listed (Open name control) opened.Absent l = refl
failed_listed (Open name control) opened.Failed l = refl
failed_listed (Open name control) opened.Memory l = refl
failed_listed (Read name attr) (out.Bytes bytes) l = refl
failed_listed (Read name attr) out.Absent l = refl
failed_listed (Read name attr) out.TooLong l = refl
failed_listed (Read name attr) out.Failed l = refl
failed_listed (Read name attr) out.Memory l = refl
failed_listed (Ask_alive held) (probe.Alive on) l = refl
failed_listed (Ask_alive held) probe.Gone l = refl
failed_listed (Ask_alive held) probe.Failed l = refl
failed_listed (Put held write) wrote.Done l = refl
failed_listed (Put held write) wrote.Gone l = refl
failed_listed (Put held write) wrote.Failed l = refl
failed_listed (Close held) reply l = absurd l

-- a fault is counted once
once : (b c : Bool) (x n : ℕ) → c ≡ b → x ≡ cond b (one_fault_more n) n → cond c x (one_fault_more x) ≡ one_fault_more n
once true c x n h e = cond-true c x (one_fault_more x) h ∙ e
once false c x n h e = cond-false c x (one_fault_more x) h ∙ ap one_fault_more e

same_calls : (u v : World) (call : Call) (reply : Reply call) → Effects u call reply v → v.calls ≡ u.calls
same_calls u v call reply f = elim f.0 [
  | inl a ↦ ap (λ (w : World). w.calls) a.1
  | inr x ↦ elim x [
    | inl b ↦ ap (λ (w : World). w.calls) b.1
    | inr d ↦ d.2
  ]
]

pub refused_gives : (s t : World) (call : Call) → IsListedCall call → Enters s false t → Gives s call (told_as call (failing_reply call) t) t
refused_gives s t call l e =
    let g : refusing_memory s call ≡ scripted_answer s call = sym (refusing call l s e.0) in
    inl (ap (told_as call (failing_reply call)) e.1 ∙ ap (λ (x : Answer call × World). x.0) g, e.1 ∙ ap (λ (x : Answer call × World). x.1) g)

pub ended_gives : (s u v t : World) (call : Call) (reply : Reply call) (made : CallRecord) → IsListedCall call → Enters s true u → Effects u call reply v → calls_listed call reply ≡ made ∷ [] → Ends v made true t → Gives s call (told_as call reply t) t
ended_gives s u v t call reply made l e f k n =
    let whole : answer_from u call ≡ scripted_answer s call = ap (λ (w : World). answer_from w call) e.1 ∙ sym (scripted call l s e.0) in
    let end : t ≡ call_ended call reply v = n ∙ ap (λ (m : List CallRecord). call_noted m v) (sym k) in
    elim f.0 [
      | inl a ↦
          let there : t ≡ (answer_from u call).1 = end ∙ (λ i. call_ended call (a.0 i) (a.1 i)) in
          inl ((λ i. told_as call (a.0 i) (there i)) ∙ ap (λ (x : Answer call × World). x.0) whole, there ∙ ap (λ (x : Answer call × World). x.1) whole)
      | inr x ↦ elim x [
        | inl b ↦ inr (inl (record {
          reply = reply;
          memory = b.0;
          ran = e.0;
          unscheduled = ap fate_of (sym e.1) ∙ b.2;
          after = end ∙ ap (call_ended call reply) (b.1 ∙ e.1);
          answer = refl;
        }))
        | inr d ↦ inr (inr (record {
          listed = l;
          out = ap (λ (w : World). w.ran_out) n ∙ d.1;
          call_counted = ap (λ (w : World). w.calls) n ∙ d.2 ∙ ap (λ (w : World). w.calls) e.1;
          fault_counted = ap (λ (w : World). w.faults) n ∙ f.1 ∙ cond-true (is_failure call reply) (one_fault_more u.faults) u.faults (ap (is_failure call) d.0 ∙ failing call l) ∙ ap (λ (w : World). one_fault_more w.faults) e.1;
          answer = ap (λ (r : Reply call). told_as call r t) d.0;
        }))
      ]
    ]

pub lost_gives : (s u v t : World) (call : Call) (reply : Reply call) (made : CallRecord) → IsListedCall call → Enters s true u → Effects u call reply v → calls_listed call reply ≡ made ∷ [] → Ends v made false t → Gives s call (told_as call (failing_reply call) t) t
lost_gives s u v t call reply made l e f k n = inr (inr (record {
  listed = l;
  out = n.0;
  call_counted = n.1 ∙ same_calls u v call reply f ∙ ap (λ (w : World). w.calls) e.1;
  fault_counted = n.2 ∙ once (is_failure call reply) (is_failed made.kind) v.faults u.faults (sym (ap first_failed k) ∙ failed_listed call reply l) f.1 ∙ ap (λ (w : World). one_fault_more w.faults) e.1;
  answer = refl;
}))
