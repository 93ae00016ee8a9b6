-- From what a call wrote to what its status says.
use Rattle.std.proofs.Common.{◌≡◌, ℕ, List, [], ◌++◌, length, Option, None, Some, Err, ◌⊎◌, inl, inr, refl, sym, ap, subst, ◌∙◌, arith, length-append}
use Rattle.std.proofs.lemmas.List.{append-nil}
use Rattle.std.specs.Io.KnownBytes.{Appends, Consumes, IsAtEnd}
use Rattle.ug_command_io.specs.Runs.{SaysFault}
use Rattle.ug_command_io.specs.declared.results.Ended.{Ended}
use Rattle.ug_command_io.specs.declared.results.Ended.TheVariants.{Done, Bad, TooLong, ReadFault, WriteFault, Memory}
use Rattle.ug_command_io.specs.WholeInputs.{Output, Written, WroteWhole, TellsWhole, CompletesWhole, AnswersWhole, input_fault_line, fault_end}
use Rattle.ug_command_io.specs.Reading.{Took, ReadsWhole}
use Rattle.ug_command_io.specs.declared.read.InputFault.{InputFault}
use Rattle.ug_command_io.specs.declared.read.InputFault.TheVariants as input

module _ (most : ℕ) (good bad : List ℕ → List ℕ → Type 0) (bytes : List ℕ) (left : Option (List ℕ)) where
  wrote : (e : Ended) (text : List ℕ) → Written most good bad bytes left e text → WroteWhole most good bad bytes left e text
  wrote Done text w = w
  wrote Bad text w = w
  wrote TooLong text w = w
  wrote ReadFault text w = w
  wrote WriteFault text w = absurd w.1
  wrote Memory text w = w

  said : (words added : List ℕ) (wanted result : Ended) → Written most good bad bytes left wanted words → ((result ≡ wanted) × (added ≡ words)) ⊎ ((result ≡ WriteFault) × ((rest : List ℕ) × (words ≡ added ++ rest))) → WroteWhole most good bad bytes left result added
  said words added wanted result w (inl (e, q)) =
      subst (λ (r : Ended). WroteWhole most good bad bytes left r added) (sym e) (wrote wanted added (subst (λ (t : List ℕ). Written most good bad bytes left wanted t) (sym q) w))
  said words added wanted result w (inr (e, (rest, q))) =
      subst (λ (r : Ended). WroteWhole most good bad bytes left r added) (sym e) (wanted, rest, subst (λ (t : List ℕ). Written most good bad bytes left wanted t) q w)

  -- one line
  pub tells-line : (h0 h : Option (List ℕ)) (words : List ℕ) (wanted result : Ended) → Written most good bad bytes left wanted words → SaysFault h0 h words wanted result → TellsWhole most good bad bytes left h0 h result
  tells-line h0 h words wanted result w s = record { text = s.added; sink = s.sink; told = said words s.added wanted result w s.told }

module _ (most : ℕ) (good bad : List ℕ → List ℕ → Type 0) where
  refused : (taken : List ℕ) (left : Option (List ℕ)) (fault : InputFault) → Took most left taken (Err fault) → Written most good bad taken left (fault_end fault) (input_fault_line fault)
  refused taken left input.TooLong k = (tt, (k, refl))
  refused taken left input.Failed k = (tt, refl)
  refused taken left input.Memory k = (tt, refl)

  -- an input that wasn't read whole
  pub completes-refused : (left0 left h0 h : Option (List ℕ)) (fault : InputFault) (result : Ended) → ReadsWhole most left0 left (Err fault) → SaysFault h0 h (input_fault_line fault) (fault_end fault) result → CompletesWhole most good bad left0 left h0 h result
  completes-refused left0 left h0 h fault result r s = record {
    taken = r.taken;
    source = r.source;
    tells = tells-line most good bad r.taken left h0 h (input_fault_line fault) (fault_end fault) result (refused r.taken left fault r.told) s;
  }

record Left (all : List ℕ) (left : Option (List ℕ)) (taken : List ℕ) : Type 0 where
  more : List ℕ
  is : left ≡ Some more
  split : all ≡ taken ++ more

left-known : (left0 left : Option (List ℕ)) (all taken : List ℕ) → left0 ≡ Some all → Consumes left0 left taken → Left all left taken
left-known None left all taken e h = absurd (cc)
left-known (Some xs) None all taken e h = absurd h
left-known (Some xs) (Some ys) all taken e h = record { more = ys; is = refl; split = let q : all ≡ xs = cc in q ∙ h }

held-known : (held0 held : Option (List ℕ)) (base text : List ℕ) → held0 ≡ Some base → Appends held0 held text → held ≡ Some (base ++ text)
held-known None held base text e h = absurd (cc)
held-known (Some xs) None base text e h = absurd h
held-known (Some xs) (Some ys) base text e h = let q : xs ≡ base = cc in ap (λ (l : List ℕ). Some l) (h ∙ ap (λ (l : List ℕ). l ++ text) q)

end-known : (left : Option (List ℕ)) (more : List ℕ) → IsAtEnd left → left ≡ Some more → more ≡ []
end-known None more h e = cc
end-known (Some xs) more h e = cc

module _ (most : ℕ) (good bad : List ℕ → List ℕ → Type 0) (all taken more : List ℕ) (left : Option (List ℕ)) (split : all ≡ taken ++ more) (is : left ≡ Some more) where
  all-taken : IsAtEnd left → taken ≡ all
  all-taken e = sym (split ∙ (ap (λ (x : List ℕ). taken ++ x) (end-known left more e is) ∙ append-nil taken))

  -- what is said of the bytes taken holds of all
  of-all : (e : Ended) (text : List ℕ) → Written most good bad taken left e text → Written most good bad all left e text
  of-all Done text (w, o) = (w, subst (λ (bytes : List ℕ). Output most good bad bytes Done text) (all-taken w) o)
  of-all Bad text (w, o) = (w, subst (λ (bytes : List ℕ). Output most good bad bytes Bad text) (all-taken w) o)
  of-all TooLong text (w, (long, t)) = (w, (omega (arith, long, ap (λ (bs : List ℕ). length bs) split, length-append taken more), t))
  of-all ReadFault text w = w
  of-all WriteFault text w = w
  of-all Memory text w = w

  wrote-all : (e : Ended) (text : List ℕ) → WroteWhole most good bad taken left e text → WroteWhole most good bad all left e text
  wrote-all Done text w = of-all Done text w
  wrote-all Bad text w = of-all Bad text w
  wrote-all TooLong text w = of-all TooLong text w
  wrote-all ReadFault text w = w
  wrote-all WriteFault text (e, rest, w) = (e, rest, of-all e (text ++ rest) w)
  wrote-all Memory text w = w

pub answers : (status_of : Ended → ℕ) (most : ℕ) (good bad : List ℕ → List ℕ → Type 0) (left0 left held0 held : Option (List ℕ)) (e : Ended) → CompletesWhole most good bad left0 left held0 held e
    → (all base : List ℕ) → left0 ≡ Some all → held0 ≡ Some base → (status : ℕ) → status ≡ status_of e → AnswersWhole status_of most good bad all base left held status
answers status_of most good bad left0 left held0 held e r all base a b status s =
    let l = left-known left0 left all r.taken a r.source in record {
      ended = e;
      is = s;
      taken = r.taken;
      more = l.more;
      split = l.split;
      source = l.is;
      text = r.tells.text;
      sink = held-known held0 held base r.tells.text b r.tells.sink;
      told = wrote-all most good bad all r.taken l.more left l.split l.is e r.tells.text r.tells.told;
    }
