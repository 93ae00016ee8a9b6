-- From what the call wrote to what its status says.
use Rattle.std.proofs.Common.{◌≡◌, ℕ, List, [], ◌++◌, Option, None, Some, refl, sym, ap, ◌∙◌, arith}
use Rattle.std.proofs.lemmas.List.{append-nil}
use Rattle.std.specs.Io.KnownBytes.{Appends, Consumes, IsAtEnd}
use Rattle.ug_lines.specs.Lines.{lines_of}
use Rattle.ug_command_io.specs.Fold.{LineRefusal, BadLine, InputTooLong, LineOutcome, Going, plays, machine_of, whole_text, fault_of}
use Rattle.ug_command_io.specs.Refusals.{fault_told}
use Rattle.ug_command_io.specs.Runs.{Front, Rejected, Cut, TellsRun, Replays}
use Rattle.ug_command_io.specs.Statuses.{status_of, FirstLines, IsCut, OfWhole, OfReadFault, OfLines, OfNoMemory, AnswersLines}
use Rattle.ug_command_io.specs.declared.results.Ended.{Ended}
use Rattle.ug_command_io.specs.declared.results.Ended.TheVariants.{Done, Bad, TooLong, ReadFault, WriteFault, Memory}

pub record Left (all : List ℕ) (left : Option (List ℕ)) (taken : List ℕ) : Type 0 where
  pub more : List ℕ
  pub is : left ≡ Some more
  pub split : all ≡ taken ++ more

pub left-known : (left0 left : Option (List ℕ)) (all taken : List ℕ) → left0 ≡ Some all → Consumes left0 left taken → Left all left taken
left-known None left all taken e h = absurd (cc)
left-known (Some xs) None all taken e h = absurd h
left-known (Some xs) (Some ys) all taken e h = record { more = ys; is = refl; split = let q : all ≡ xs = cc in q ∙ h }

held-known : (held0 held : Option (List ℕ)) (base text : List ℕ) → held0 ≡ Some base → Appends held0 held text → held ≡ Some (base ++ text)
held-known None held base text e h = absurd (cc)
held-known (Some xs) None base text e h = absurd h
held-known (Some xs) (Some ys) base text e h = let q : xs ≡ base = cc in ap (λ (l : List ℕ). Some l) (h ∙ ap (λ (l : List ℕ). l ++ text) q)

end-known : (left : Option (List ℕ)) (more : List ℕ) → IsAtEnd left → left ≡ Some more → more ≡ []
end-known None more h e = cc
end-known (Some xs) more h e = cc

module _ {M : Type 0} (step : M → List ℕ → LineOutcome M) (closing : M → Option (List ℕ)) (m0 : M) (all base : List ℕ) (left : Option (List ℕ)) where
  first-lines : (taken more out : List ℕ) (m : M) → all ≡ taken ++ more → left ≡ Some more → Front step m0 taken left out m → FirstLines step m0 all out m
  first-lines taken more out m s l f = let o = f.front more l in
      record { lines = f.lines; others = o.0; count = f.count; front = ap (λ (bs : List ℕ). lines_of bs) s ∙ o.1; played = f.played }

  all-taken : (taken more : List ℕ) → all ≡ taken ++ more → left ≡ Some more → IsAtEnd left → taken ≡ all
  all-taken taken more s l e = sym (s ∙ (ap (λ (x : List ℕ). taken ++ x) (end-known left more e l) ∙ append-nil taken))

  cut-rejected : (taken more text rest : List ℕ) (m : M) (fault : LineRefusal) → all ≡ taken ++ more → left ≡ Some more → Rejected step closing m0 taken left (text ++ rest) m fault → IsCut step closing m0 all taken text rest m
  cut-rejected taken more text rest m fault s l w =
      let v = w more l in
      OfWhole (ap (λ (bs : List ℕ). whole_text closing (plays step (Going 0 [] m0) (lines_of bs))) s ∙ v.1) (ap (λ (bs : List ℕ). machine_of (plays step (Going 0 [] m0) (lines_of bs))) s ∙ v.2)

  cut-of : (taken more text rest : List ℕ) (m : M) (e : Ended) → all ≡ taken ++ more → left ≡ Some more → Cut step closing m0 taken left text rest m e → IsCut step closing m0 all taken text rest m
  cut-of taken more text rest m Done s l w =
      let q : taken ≡ all = all-taken taken more s l w.0 in
      OfWhole (ap (λ (bs : List ℕ). whole_text closing (plays step (Going 0 [] m0) (lines_of bs))) (sym q) ∙ w.2) (ap (λ (bs : List ℕ). machine_of (plays step (Going 0 [] m0) (lines_of bs))) (sym q) ∙ w.3)
  cut-of taken more text rest m Bad s l w = cut-rejected taken more text rest m BadLine s l w
  cut-of taken more text rest m TooLong s l w = cut-rejected taken more text rest m InputTooLong s l w
  cut-of taken more text rest m ReadFault s l (n, out, p, t) = OfReadFault n out p t
  cut-of taken more text rest m WriteFault s l w = OfLines (first-lines taken more (text ++ rest) m s l w)
  cut-of taken more text rest m Memory s l (out, front, next, f, t, w) = OfNoMemory out front next (first-lines taken more out next s l f) t w

  rejected : (taken more text : List ℕ) (held : Option (List ℕ)) (m : M) (fault : LineRefusal) → all ≡ taken ++ more → left ≡ Some more → held ≡ Some (base ++ text) → Rejected step closing m0 taken left text m fault → AnswersLines step closing m0 all base left held m 2
  rejected taken more text held m fault s l h w =
      let v = w more l in
      record {
        done = λ z. absurd (omega (arith, z));
        bad = λ _. (
          fault,
          ap (λ (bs : List ℕ). fault_of closing (plays step (Going 0 [] m0) (lines_of bs))) s ∙ v.0,
          h ∙ ap (λ (t : List ℕ). Some (base ++ t)) (sym v.1 ∙ ap (λ (bs : List ℕ). whole_text closing (plays step (Going 0 [] m0) (lines_of bs))) (sym s)),
          ap (λ (bs : List ℕ). machine_of (plays step (Going 0 [] m0) (lines_of bs))) s ∙ v.2,
        );
        read = λ z. absurd (omega (arith, z));
        written = λ z. absurd (omega (arith, z));
        memory = λ z. absurd (omega (arith, z));
      }

  told : (taken more text : List ℕ) (held : Option (List ℕ)) (m : M) (e : Ended) → all ≡ taken ++ more → left ≡ Some more → held ≡ Some (base ++ text) → TellsRun step closing m0 taken left text m e → AnswersLines step closing m0 all base left held m (status_of e)
  told taken more text held m Done s l h w =
      let q : taken ≡ all = all-taken taken more s l w.0 in
      record {
        done = λ _. (
          l ∙ ap (λ (x : List ℕ). Some x) (end-known left more w.0 l),
          ap (λ (bs : List ℕ). fault_of closing (plays step (Going 0 [] m0) (lines_of bs))) (sym q) ∙ w.1,
          h ∙ ap (λ (t : List ℕ). Some (base ++ t)) (sym w.2 ∙ ap (λ (bs : List ℕ). whole_text closing (plays step (Going 0 [] m0) (lines_of bs))) q),
          ap (λ (bs : List ℕ). machine_of (plays step (Going 0 [] m0) (lines_of bs))) (sym q) ∙ w.3,
        );
        bad = λ z. absurd (omega (arith, z));
        read = λ z. absurd (omega (arith, z));
        written = λ z. absurd (omega (arith, z));
        memory = λ z. absurd (omega (arith, z));
      }
  told taken more text held m Bad s l h w = rejected taken more text held m BadLine s l h w
  told taken more text held m TooLong s l h w = rejected taken more text held m InputTooLong s l h w
  told taken more text held m ReadFault s l h (n, out, p, t) = record {
    done = λ z. absurd (omega (arith, z));
    bad = λ z. absurd (omega (arith, z));
    read = λ _. (taken, more, n, out, s, l, p, h ∙ ap (λ (x : List ℕ). Some (base ++ x)) t);
    written = λ z. absurd (omega (arith, z));
    memory = λ z. absurd (omega (arith, z));
  }
  told taken more text held m WriteFault s l h (e, rest, w) = record {
    done = λ z. absurd (omega (arith, z));
    bad = λ z. absurd (omega (arith, z));
    read = λ z. absurd (omega (arith, z));
    written = λ _. (taken, more, text, rest, s, l, h, cut-of taken more text rest m e s l w);
    memory = λ z. absurd (omega (arith, z));
  }
  told taken more text held m Memory s l h (out, next, f, t) = record {
    done = λ z. absurd (omega (arith, z));
    bad = λ z. absurd (omega (arith, z));
    read = λ z. absurd (omega (arith, z));
    written = λ z. absurd (omega (arith, z));
    memory = λ _. (out, next, first-lines taken more out next s l f, h ∙ ap (λ (x : List ℕ). Some (base ++ x)) t);
  }

pub answers : {M : Type 0} (step : M → List ℕ → LineOutcome M) (closing : M → Option (List ℕ)) (m0 : M) (left0 left held0 held : Option (List ℕ)) (m : M) (e : Ended)
    → Replays step closing m0 left0 left held0 held m e → (all base : List ℕ) → left0 ≡ Some all → held0 ≡ Some base → AnswersLines step closing m0 all base left held m (status_of e)
answers step closing m0 left0 left held0 held m e r all base a b =
    let l = left-known left0 left all r.taken a r.source in
    told step closing m0 all base left r.taken l.more r.text held m e l.split l.is (held-known held0 held base r.text b r.sink) r.told

pub done-only : (e : Ended) → status_of e ≡ 0 → e ≡ Done
done-only Done z = refl
done-only Bad z = absurd (omega (arith, z))
done-only TooLong z = absurd (omega (arith, z))
done-only ReadFault z = absurd (omega (arith, z))
done-only WriteFault z = absurd (omega (arith, z))
done-only Memory z = absurd (omega (arith, z))

pub read-only : (e : Ended) → status_of e ≡ 4 → e ≡ ReadFault
read-only Done z = absurd (omega (arith, z))
read-only Bad z = absurd (omega (arith, z))
read-only TooLong z = absurd (omega (arith, z))
read-only ReadFault z = refl
read-only WriteFault z = absurd (omega (arith, z))
read-only Memory z = absurd (omega (arith, z))

pub written-only : (e : Ended) → status_of e ≡ 5 → e ≡ WriteFault
written-only Done z = absurd (omega (arith, z))
written-only Bad z = absurd (omega (arith, z))
written-only TooLong z = absurd (omega (arith, z))
written-only ReadFault z = absurd (omega (arith, z))
written-only WriteFault z = refl
written-only Memory z = absurd (omega (arith, z))

pub refused-only : (e : Ended) → status_of e ≡ 2 → (fault : LineRefusal) × (fault_told e ≡ Some fault)
refused-only Done z = absurd (omega (arith, z))
refused-only Bad z = (BadLine, refl)
refused-only TooLong z = (InputTooLong, refl)
refused-only ReadFault z = absurd (omega (arith, z))
refused-only WriteFault z = absurd (omega (arith, z))
refused-only Memory z = absurd (omega (arith, z))
