-- What bytes add, one piece after another.
use Rattle.std.proofs.Common.{◌≡◌, ℕ, ◌+◌, ◌<◌, ◌≤◌, List, [], ◌∷◌, ◌++◌, length, take, drop, Bool, true, if◌then◌else◌, nat_eq, Option, inl, inr, refl, sym, ap, subst, ◌∙◌, append_assoc, arith, length-append}
use Rattle.std.proofs.lemmas.List.{append-nil, take-append-drop}
use Rattle.std.proofs.Math.Seq.{take-add}
use Rattle.std.proofs.KnownBytes.{Appends-nil, Appends-trans, Appends-kept}
use Rattle.std.specs.Io.KnownBytes.{Appends, Keeps}
use Rattle.ug_lines.specs.Lines.{whole_from, rest_from, last_line, lines_from}
use Rattle.ug_command_io.specs.Fold.{LineRefusal, BadLine, InputTooLong, LineOutcome, Writes, Refused, Stage, Going, Halted, plays, stage_after, is_within}
use Rattle.ug_command_io.specs.Runs.{Steps, Shows, Stops, Fed, Extends, Feeds, Lasts}
use Rattle.ug_command_io.specs.declared.machine.Ran.{Ran}
use Rattle.ug_command_io.specs.declared.machine.Ran.TheVariants.{Done, Bad, TooLong, SinkFailed, Memory}
use Rattle.ug_lines.proofs.Lines.{whole_from-end, rest_from-end, whole_from-nil, rest_from-nil, whole_from-append, rest_from-append, lines_from-append, begins}
use Rattle.ug_lines.specs.Splitting.{IsLine}
use Rattle.ug_lines.proofs.Splitting.{whole_from-run, rest_from-run, lines_from-run}
use Rattle.ug_command_io.proofs.Stages.{plays-append, plays-halted, within, past_count, past_length, plays-one, plays-past}

module _ {M : Type 0} (step : M → List ℕ → LineOutcome M) where
  -- nothing was added
  kept : (h0 h1 : Option (List ℕ)) → Keeps h0 h1 → Appends h0 h1 []
  kept h0 h1 k = Appends-kept h0 h0 h1 [] (Appends-nil h0) k

  -- no line was shown
  shows-none : (n : ℕ) (m : M) (whole : List (List ℕ)) → Shows step n m whole [] m
  shows-none n m whole = record { lines = []; others = whole; count = n; front = refl; played = λ text. ap (λ (t : List ℕ). Going n t m) (sym (append-nil text)) }

  -- one line was shown
  shows-one : (n : ℕ) (m next : M) (line text : List ℕ) (whole : List (List ℕ)) → whole ≡ line ∷ [] → is_within n line ≡ true → step m line ≡ Writes text next → Shows step n m whole text next
  shows-one n m next line text whole e w o = record { lines = line ∷ []; others = []; count = n + 1; front = e; played = λ before. plays-one step n before m line (Writes text next) [] w o }

  fed-no_memory : (line new : List ℕ) (n : ℕ) (m : M) (h : Option (List ℕ)) (bytes : List ℕ) → Feeds step line n m h bytes Memory new n m h
  fed-no_memory line new n m h bytes = record { added = []; sink = Appends-nil h; told = (m, shows-none n m (whole_from line bytes)) }

  -- a line behind the last that may be
  pub fed-past_count : (line new : List ℕ) (n : ℕ) (m : M) (h : Option (List ℕ)) (bytes : List ℕ) → 0 < length bytes → 1048576 ≤ n → Feeds step line n m h bytes Bad new n m h
  fed-past_count line new n m h bytes some k = record {
    added = [];
    sink = Appends-nil h;
    told = λ more text. let r = begins line (bytes ++ more) (omega (arith, length-append bytes more)) in
        plays-past step n text m line (bytes ++ more) r (past_count n r.first k) ∙ ap (λ (t : List ℕ). Halted BadLine n t m) (sym (append-nil text));
  }

  -- a line that is too long
  fed-past_length : (line new : List ℕ) (n : ℕ) (m : M) (h : Option (List ℕ)) (run : List ℕ) → IsLine run → 1048576 < length line + length run → Feeds step line n m h run Bad new n m h
  fed-past_length line new n m h run is k = record {
    added = [];
    sink = Appends-nil h;
    told = λ more text.
        let l = line ++ run in
        let r = begins l more (omega (arith, length-append line run)) in
        let w : 1048576 < length r.first = omega (arith, r.long, length-append line run) in
        ap (λ (ls : List (List ℕ)). plays step (Going n text m) ls) (lines_from-run line run more is)
        ∙ (plays-past step n text m l more r (past_length n r.first w) ∙ ap (λ (t : List ℕ). Halted BadLine n t m) (sym (append-nil text)));
  }

  fed-extended : (line new : List ℕ) (n : ℕ) (m : M) (h : Option (List ℕ)) (run : List ℕ) (ran : Ran) → IsLine run → Extends line n run ran new → Feeds step line n m h run ran new n m h
  fed-extended line new n m h run Done is e = record {
    added = [];
    sink = Appends-nil h;
    told = (
      λ text. ap (λ (ls : List (List ℕ)). plays step (Going n text m) ls) (whole_from-run line run is) ∙ ap (λ (t : List ℕ). Going n t m) (sym (append-nil text)),
      e ∙ sym (rest_from-run line run is),
    );
  }
  fed-extended line new n m h run Bad is (some, inl k) = fed-past_count line new n m h run some k
  fed-extended line new n m h run Bad is (some, inr k) = fed-past_length line new n m h run is k
  fed-extended line new n m h run TooLong is e = absurd e
  fed-extended line new n m h run SinkFailed is e = absurd e
  fed-extended line new n m h run Memory is e = fed-no_memory line new n m h run

  -- bytes without a newline
  pub fed-run : (line new : List ℕ) (n n1 : ℕ) (m : M) (h : Option (List ℕ)) (run : List ℕ) (ran : Ran) → IsLine run → n1 ≡ n → Extends line n run ran new → Feeds step line n m h run ran new n1 m h
  fed-run line new n n1 m h run ran is same e = subst (λ (k : ℕ). Feeds step line n m h run ran new k m h) (sym same) (fed-extended line new n m h run ran is e)

  whole-one : (line : List ℕ) (b : ℕ) → nat_eq b 10 ≡ true → whole_from line (b ∷ []) ≡ line ∷ []
  whole-one line b e = whole_from-end line b [] e ∙ ap (λ (ls : List (List ℕ)). line ∷ ls) (whole_from-nil [])

  -- a newline whose line the machine took
  pub fed-line : (line new : List ℕ) (n : ℕ) (m next : M) (h0 h1 : Option (List ℕ)) (b : ℕ) (o : LineOutcome M) → nat_eq b 10 ≡ true → n < 1048576 → length line ≤ 1048576 → step m line ≡ o → new ≡ [] → Steps o next h0 h1 Done → Feeds step line n m h0 (b ∷ []) Done new (n + 1) next h1
  fed-line line new n m next h0 h1 b (Writes t u) e few short eo empty s = record {
    added = t;
    sink = s.1;
    told = (
      λ text. ap (λ (ls : List (List ℕ)). plays step (Going n text m) ls) (whole-one line b e)
          ∙ (plays-one step n text m line (Writes t u) [] (within n line few short) eo ∙ ap (λ (v : M). Going (n + 1) (text ++ t) v) (sym s.0)),
      empty ∙ sym (rest_from-end line b [] e ∙ rest_from-nil []),
    );
  }
  fed-line line new n m next h0 h1 b (Refused f u) e few short eo empty s = absurd s

  -- a line that is refused
  stops-line : (line : List ℕ) (n : ℕ) (m next u : M) (b : ℕ) (f : LineRefusal) → nat_eq b 10 ≡ true → is_within n line ≡ true → step m line ≡ Refused f u → next ≡ u → Stops step line n m (b ∷ []) f n next []
  stops-line line n m next u b f e w eo same = λ more text. rw (whole_from-end line b more e, rest_from-end line b more e)
      (plays-one step n text m line (Refused f u) (lines_from [] more) w eo
      ∙ (plays-halted step f n text u (lines_from [] more) ∙ (ap (λ (v : M). Halted f n text v) (sym same) ∙ ap (λ (t : List ℕ). Halted f n t next) (sym (append-nil text)))))

  -- a newline whose line it didn't take
  pub fed-stopped : (line : List ℕ) (n : ℕ) (m next : M) (h0 h1 : Option (List ℕ)) (b : ℕ) (o : LineOutcome M) (ran : Ran) → nat_eq b 10 ≡ true → n < 1048576 → length line ≤ 1048576 → step m line ≡ o → (ran ≡ Done → ⊥) → Steps o next h0 h1 ran → Feeds step line n m h0 (b ∷ []) ran line n next h1
  fed-stopped line n m next h0 h1 b o Done e few short eo ne s = absurd (ne refl)
  fed-stopped line n m next h0 h1 b (Writes t u) Bad e few short eo ne s = absurd s
  fed-stopped line n m next h0 h1 b (Writes t u) TooLong e few short eo ne s = absurd s
  fed-stopped line n m next h0 h1 b (Writes t u) SinkFailed e few short eo ne (same, (front, rest, split, sink)) = record {
    added = front;
    sink = sink;
    told = (
      rest,
      shows-one n m next line (front ++ rest) (whole_from line (b ∷ [])) (whole-one line b e) (within n line few short)
          (eo ∙ (ap (λ (x : List ℕ). Writes x u) split ∙ ap (λ (v : M). Writes (front ++ rest) v) (sym same))),
    );
  }
  fed-stopped line n m next h0 h1 b (Writes t u) Memory e few short eo ne s = record { added = []; sink = kept h0 h1 s; told = (m, shows-none n m (whole_from line (b ∷ []))) }
  fed-stopped line n m next h0 h1 b (Refused f u) Bad e few short eo ne (which, same, k) = record {
    added = [];
    sink = kept h0 h1 k;
    told = stops-line line n m next u b BadLine e (within n line few short) (eo ∙ ap (λ (g : LineRefusal). Refused g u) which) same;
  }
  fed-stopped line n m next h0 h1 b (Refused f u) TooLong e few short eo ne (which, same, k) = record {
    added = [];
    sink = kept h0 h1 k;
    told = stops-line line n m next u b InputTooLong e (within n line few short) (eo ∙ ap (λ (g : LineRefusal). Refused g u) which) same;
  }
  fed-stopped line n m next h0 h1 b (Refused f u) SinkFailed e few short eo ne s = absurd s
  fed-stopped line n m next h0 h1 b (Refused f u) Memory e few short eo ne s = record { added = []; sink = kept h0 h1 s; told = (m, shows-none n m (whole_from line (b ∷ []))) }

  -- the lines behind those of a piece
  plays-on : (l0 : List ℕ) (n0 : ℕ) (m0 : M) (a fa : List ℕ) (n1 : ℕ) (m1 : M) → ((text : List ℕ) → plays step (Going n0 text m0) (whole_from l0 a) ≡ Going n1 (text ++ fa) m1) → (text : List ℕ) (lines : List (List ℕ)) → plays step (Going n0 text m0) (whole_from l0 a ++ lines) ≡ plays step (Going n1 (text ++ fa) m1) lines
  plays-on l0 n0 m0 a fa n1 m1 f text lines = plays-append step (Going n0 text m0) (whole_from l0 a) lines ∙ ap (λ (s : Stage M). plays step s lines) (f text)

  shows-then : (l0 : List ℕ) (n0 : ℕ) (m0 : M) (a fa l1 : List ℕ) (n1 : ℕ) (m1 : M) (b x : List ℕ) (m2 : M) → ((text : List ℕ) → plays step (Going n0 text m0) (whole_from l0 a) ≡ Going n1 (text ++ fa) m1) → l1 ≡ rest_from l0 a → Shows step n1 m1 (whole_from l1 b) x m2 → Shows step n0 m0 (whole_from l0 (a ++ b)) (fa ++ x) m2
  shows-then l0 n0 m0 a fa l1 n1 m1 b x m2 f e s = record {
    lines = whole_from l0 a ++ s.lines;
    others = s.others;
    count = s.count;
    front = whole_from-append l0 a b ∙ (ap (λ (ls : List (List ℕ)). whole_from l0 a ++ ls) (ap (λ (l : List ℕ). whole_from l b) (sym e) ∙ s.front) ∙ sym (append_assoc (whole_from l0 a) s.lines s.others));
    played = λ text. plays-on l0 n0 m0 a fa n1 m1 f text s.lines ∙ (s.played (text ++ fa) ∙ ap (λ (t : List ℕ). Going s.count t m2) (append_assoc text fa x));
  }

  stops-then : (l0 : List ℕ) (n0 : ℕ) (m0 : M) (a fa l1 : List ℕ) (n1 : ℕ) (m1 : M) (b g : List ℕ) (fault : LineRefusal) (n : ℕ) (m : M) → Fed step l0 n0 m0 a l1 n1 m1 fa Done → Stops step l1 n1 m1 b fault n m g → Stops step l0 n0 m0 (a ++ b) fault n m (fa ++ g)
  stops-then l0 n0 m0 a fa l1 n1 m1 b g fault n m (f, e) k = λ more text.
      ap (λ (bs : List ℕ). plays step (Going n0 text m0) (lines_from l0 bs)) (append_assoc a b more)
      ∙ (ap (λ (ls : List (List ℕ)). plays step (Going n0 text m0) ls) (lines_from-append l0 a (b ++ more))
      ∙ (plays-on l0 n0 m0 a fa n1 m1 f text (lines_from (rest_from l0 a) (b ++ more))
      ∙ (ap (λ (r : List ℕ). plays step (Going n1 (text ++ fa) m1) (lines_from r (b ++ more))) (sym e)
      ∙ (k more (text ++ fa) ∙ ap (λ (t : List ℕ). Halted fault n t m) (append_assoc text fa g)))))

  fed-then : (l0 : List ℕ) (n0 : ℕ) (m0 : M) (a fa l1 : List ℕ) (n1 : ℕ) (m1 : M) (b g l : List ℕ) (n : ℕ) (m : M) (ran : Ran) → Fed step l0 n0 m0 a l1 n1 m1 fa Done → Fed step l1 n1 m1 b l n m g ran → Fed step l0 n0 m0 (a ++ b) l n m (fa ++ g) ran
  fed-then l0 n0 m0 a fa l1 n1 m1 b g l n m Done (f, e) (k, d) = (
    λ text. ap (λ (ls : List (List ℕ)). plays step (Going n0 text m0) ls) (whole_from-append l0 a b)
        ∙ (plays-on l0 n0 m0 a fa n1 m1 f text (whole_from (rest_from l0 a) b)
        ∙ (ap (λ (r : List ℕ). plays step (Going n1 (text ++ fa) m1) (whole_from r b)) (sym e)
        ∙ (k (text ++ fa) ∙ ap (λ (t : List ℕ). Going n t m) (append_assoc text fa g)))),
    d ∙ (ap (λ (r : List ℕ). rest_from r b) e ∙ sym (rest_from-append l0 a b)),
  )
  fed-then l0 n0 m0 a fa l1 n1 m1 b g l n m Bad f k = stops-then l0 n0 m0 a fa l1 n1 m1 b g BadLine n m f k
  fed-then l0 n0 m0 a fa l1 n1 m1 b g l n m TooLong f k = stops-then l0 n0 m0 a fa l1 n1 m1 b g InputTooLong n m f k
  fed-then l0 n0 m0 a fa l1 n1 m1 b g l n m SinkFailed (f, e) (rest, s) =
      (rest, subst (λ (x : List ℕ). Shows step n0 m0 (whole_from l0 (a ++ b)) x m) (sym (append_assoc fa g rest)) (shows-then l0 n0 m0 a fa l1 n1 m1 b (g ++ rest) m f e s))
  fed-then l0 n0 m0 a fa l1 n1 m1 b g l n m Memory (f, e) (next, s) = (next, shows-then l0 n0 m0 a fa l1 n1 m1 b g next f e s)

  shows-more : (l0 : List ℕ) (n0 : ℕ) (m0 : M) (a b x : List ℕ) (m1 : M) → Shows step n0 m0 (whole_from l0 a) x m1 → Shows step n0 m0 (whole_from l0 (a ++ b)) x m1
  shows-more l0 n0 m0 a b x m1 s = record {
    lines = s.lines;
    others = s.others ++ whole_from (rest_from l0 a) b;
    count = s.count;
    front = whole_from-append l0 a b ∙ (ap (λ (ls : List (List ℕ)). ls ++ whole_from (rest_from l0 a) b) s.front ∙ append_assoc s.lines s.others (whole_from (rest_from l0 a) b));
    played = s.played;
  }

  stops-more : (l0 : List ℕ) (n0 : ℕ) (m0 : M) (a b g : List ℕ) (fault : LineRefusal) (n : ℕ) (m : M) → Stops step l0 n0 m0 a fault n m g → Stops step l0 n0 m0 (a ++ b) fault n m g
  stops-more l0 n0 m0 a b g fault n m f = λ more text. ap (λ (bs : List ℕ). plays step (Going n0 text m0) (lines_from l0 bs)) (append_assoc a b more) ∙ f (b ++ more) text

  fed-more : (l0 : List ℕ) (n0 : ℕ) (m0 : M) (a b g l : List ℕ) (n : ℕ) (m : M) (ran : Ran) → (ran ≡ Done → ⊥) → Fed step l0 n0 m0 a l n m g ran → Fed step l0 n0 m0 (a ++ b) l n m g ran
  fed-more l0 n0 m0 a b g l n m Done ne f = absurd (ne refl)
  fed-more l0 n0 m0 a b g l n m Bad ne f = stops-more l0 n0 m0 a b g BadLine n m f
  fed-more l0 n0 m0 a b g l n m TooLong ne f = stops-more l0 n0 m0 a b g InputTooLong n m f
  fed-more l0 n0 m0 a b g l n m SinkFailed ne (rest, s) = (rest, shows-more l0 n0 m0 a b (g ++ rest) m s)
  fed-more l0 n0 m0 a b g l n m Memory ne (next, s) = (next, shows-more l0 n0 m0 a b g next s)

  -- one piece, and then another
  pub Feeds-then : (l0 : List ℕ) (n0 : ℕ) (m0 : M) (h0 : Option (List ℕ)) (a l1 : List ℕ) (n1 : ℕ) (m1 : M) (h1 : Option (List ℕ)) (b : List ℕ) (ran : Ran) (l : List ℕ) (n : ℕ) (m : M) (h : Option (List ℕ)) → Feeds step l0 n0 m0 h0 a Done l1 n1 m1 h1 → Feeds step l1 n1 m1 h1 b ran l n m h → Feeds step l0 n0 m0 h0 (a ++ b) ran l n m h
  Feeds-then l0 n0 m0 h0 a l1 n1 m1 h1 b ran l n m h f g = record {
    added = f.added ++ g.added;
    sink = Appends-trans h0 h1 h f.added g.added f.sink g.sink;
    told = fed-then l0 n0 m0 a f.added l1 n1 m1 b g.added l n m ran f.told g.told;
  }

  -- no byte
  pub Feeds-none : (l : List ℕ) (n : ℕ) (m : M) (h : Option (List ℕ)) → Feeds step l n m h [] Done l n m h
  Feeds-none l n m h = record {
    added = [];
    sink = Appends-nil h;
    told = (λ text. rw (whole_from-nil l) (ap (λ (t : List ℕ). Going n t m) (sym (append-nil text))), sym (rest_from-nil l));
  }

  -- the bytes behind a stop add nothing
  pub Feeds-more : (l0 : List ℕ) (n0 : ℕ) (m0 : M) (h0 : Option (List ℕ)) (a b : List ℕ) (ran : Ran) (l : List ℕ) (n : ℕ) (m : M) (h : Option (List ℕ)) → (ran ≡ Done → ⊥) → Feeds step l0 n0 m0 h0 a ran l n m h → Feeds step l0 n0 m0 h0 (a ++ b) ran l n m h
  Feeds-more l0 n0 m0 h0 a b ran l n m h ne f = record { added = f.added; sink = f.sink; told = fed-more l0 n0 m0 a b f.added l n m ran ne f.told }

  -- a loop over a piece takes its next bytes
  pub Feeds-next : (l0 : List ℕ) (n0 : ℕ) (m0 : M) (h0 : Option (List ℕ)) (piece : List ℕ) (at end : ℕ) (part : List ℕ) (l1 : List ℕ) (n1 : ℕ) (m1 : M) (h1 : Option (List ℕ)) (l : List ℕ) (n : ℕ) (m : M) (h : Option (List ℕ)) → part ≡ take end (drop at piece) → Feeds step l0 n0 m0 h0 (take at piece) Done l1 n1 m1 h1 → Feeds step l1 n1 m1 h1 part Done l n m h → Feeds step l0 n0 m0 h0 (take (at + end) piece) Done l n m h
  Feeds-next l0 n0 m0 h0 piece at end part l1 n1 m1 h1 l n m h e f g =
      subst (λ (bs : List ℕ). Feeds step l0 n0 m0 h0 bs Done l n m h) (ap (λ (p : List ℕ). take at piece ++ p) e ∙ sym (take-add at end piece)) (Feeds-then l0 n0 m0 h0 (take at piece) l1 n1 m1 h1 part Done l n m h f g)

  -- a loop over a piece stops in its next bytes
  pub Feeds-stop : (l0 : List ℕ) (n0 : ℕ) (m0 : M) (h0 : Option (List ℕ)) (piece : List ℕ) (at end : ℕ) (part : List ℕ) (l1 : List ℕ) (n1 : ℕ) (m1 : M) (h1 : Option (List ℕ)) (ran : Ran) (l : List ℕ) (n : ℕ) (m : M) (h : Option (List ℕ)) → part ≡ take end (drop at piece) → (ran ≡ Done → ⊥) → Feeds step l0 n0 m0 h0 (take at piece) Done l1 n1 m1 h1 → Feeds step l1 n1 m1 h1 part ran l n m h → Feeds step l0 n0 m0 h0 piece ran l n m h
  Feeds-stop l0 n0 m0 h0 piece at end part l1 n1 m1 h1 ran l n m h e ne f g =
      subst (λ (bs : List ℕ). Feeds step l0 n0 m0 h0 bs ran l n m h)
      (ap (λ (p : List ℕ). (take at piece ++ p) ++ drop (at + end) piece) e ∙ (ap (λ (p : List ℕ). p ++ drop (at + end) piece) (sym (take-add at end piece)) ∙ take-append-drop (at + end) piece))
      (Feeds-more l0 n0 m0 h0 (take at piece ++ part) (drop (at + end) piece) ran l n m h ne (Feeds-then l0 n0 m0 h0 (take at piece) l1 n1 m1 h1 part ran l n m h f g))

  -- a last line is one, unless it is empty
  last_line-one : (line : List ℕ) → 0 < length line → last_line line ≡ line ∷ []
  last_line-one [] h = absurd (omega (arith, h))
  last_line-one (b ∷ line) h = refl

  last_line-none : (line : List ℕ) → length line ≡ 0 → last_line line ≡ []
  last_line-none [] h = refl
  last_line-none (b ∷ line) h = absurd (omega (arith, h))

  pub last-none : (line : List ℕ) (n : ℕ) (m : M) (h : Option (List ℕ)) → length line ≡ 0 → Lasts step line n m h Done n m h
  last-none line n m h e = record { added = []; sink = Appends-nil h; told = λ text. rw (last_line-none line e) (ap (λ (t : List ℕ). Going n t m) (sym (append-nil text))) }

  pub last-past_count : (line : List ℕ) (n : ℕ) (m : M) (h : Option (List ℕ)) → 0 < length line → 1048576 ≤ n → Lasts step line n m h Bad n m h
  last-past_count line n m h k w = record {
    added = [];
    sink = Appends-nil h;
    told = λ text. rw (last_line-one line k) (ap (λ (v : Bool). plays step (if v then stage_after n text (step m line) else Halted BadLine n text m) []) (past_count n line w) ∙ ap (λ (t : List ℕ). Halted BadLine n t m) (sym (append-nil text)));
  }

  pub last-line : (line : List ℕ) (n : ℕ) (m next : M) (h0 h1 : Option (List ℕ)) (o : LineOutcome M) → 0 < length line → n < 1048576 → length line ≤ 1048576 → step m line ≡ o → Steps o next h0 h1 Done → Lasts step line n m h0 Done (n + 1) next h1
  last-line line n m next h0 h1 (Writes t u) k few short eo s = record {
    added = t;
    sink = s.1;
    told = λ text. rw (last_line-one line k) (plays-one step n text m line (Writes t u) [] (within n line few short) eo ∙ ap (λ (v : M). Going (n + 1) (text ++ t) v) (sym s.0));
  }
  last-line line n m next h0 h1 (Refused f u) k few short eo s = absurd s

  last-refused : (line : List ℕ) (n : ℕ) (m next u : M) (f : LineRefusal) → 0 < length line → is_within n line ≡ true → step m line ≡ Refused f u → next ≡ u → (text : List ℕ) → plays step (Going n text m) (last_line line) ≡ Halted f n (text ++ []) next
  last-refused line n m next u f k w eo same text = rw (last_line-one line k) (plays-one step n text m line (Refused f u) [] w eo
      ∙ (ap (λ (v : M). Halted f n text v) (sym same) ∙ ap (λ (t : List ℕ). Halted f n t next) (sym (append-nil text))))

  pub last-stopped : (line : List ℕ) (n : ℕ) (m next : M) (h0 h1 : Option (List ℕ)) (o : LineOutcome M) (ran : Ran) → 0 < length line → n < 1048576 → length line ≤ 1048576 → step m line ≡ o → (ran ≡ Done → ⊥) → Steps o next h0 h1 ran → Lasts step line n m h0 ran n next h1
  last-stopped line n m next h0 h1 o Done k few short eo ne s = absurd (ne refl)
  last-stopped line n m next h0 h1 (Writes t u) Bad k few short eo ne s = absurd s
  last-stopped line n m next h0 h1 (Writes t u) TooLong k few short eo ne s = absurd s
  last-stopped line n m next h0 h1 (Writes t u) SinkFailed k few short eo ne (same, (front, rest, split, sink)) = record {
    added = front;
    sink = sink;
    told = (
      rest,
      shows-one n m next line (front ++ rest) (last_line line) (last_line-one line k) (within n line few short)
          (eo ∙ (ap (λ (x : List ℕ). Writes x u) split ∙ ap (λ (v : M). Writes (front ++ rest) v) (sym same))),
    );
  }
  last-stopped line n m next h0 h1 (Writes t u) Memory k few short eo ne s = record { added = []; sink = kept h0 h1 s; told = (m, shows-none n m (last_line line)) }
  last-stopped line n m next h0 h1 (Refused f u) Bad k few short eo ne (which, same, keeps) = record {
    added = [];
    sink = kept h0 h1 keeps;
    told = last-refused line n m next u BadLine k (within n line few short) (eo ∙ ap (λ (g : LineRefusal). Refused g u) which) same;
  }
  last-stopped line n m next h0 h1 (Refused f u) TooLong k few short eo ne (which, same, keeps) = record {
    added = [];
    sink = kept h0 h1 keeps;
    told = last-refused line n m next u InputTooLong k (within n line few short) (eo ∙ ap (λ (g : LineRefusal). Refused g u) which) same;
  }
  last-stopped line n m next h0 h1 (Refused f u) SinkFailed k few short eo ne s = absurd s
  last-stopped line n m next h0 h1 (Refused f u) Memory k few short eo ne s = record { added = []; sink = kept h0 h1 s; told = (m, shows-none n m (last_line line)) }
