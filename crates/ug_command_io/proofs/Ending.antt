-- How a text ends.
use Rattle.std.proofs.Common.{◌≡◌, ℕ, ◌+◌, List, [], ◌∷◌, ◌++◌, Option, None, Some, ◌⊎◌, inl, inr, refl, sym, ap, subst, ◌∙◌, append_assoc}
use Rattle.std.proofs.lemmas.List.{append-nil}
use Rattle.std.proofs.KnownBytes.{Appends-nil, Appends-trans, Appends-kept, Consumes-nil, Consumes-trans, Consumes-kept}
use Rattle.std.specs.Io.KnownBytes.{Appends, Consumes, Keeps, IsAtEnd}
use Rattle.ug_lines.specs.Lines.{whole_from, rest_from, last_line, lines_from, lines_of}
use Rattle.ug_command_io.specs.Fold.{LineRefusal, BadLine, InputTooLong, LineOutcome, Stage, Going, Halted, plays, machine_of, closed_text, closed_fault, whole_text, fault_of, bad_line, input_too_long, read_fault, no_memory}
use Rattle.ug_command_io.specs.Runs.{Shows, Stops, Fed, Feeds, Last, Lasts, Closes, Front, Rejected, Wrote, TellsRun, ran_words, ended_of, SaysFault, StandsBehind, ReadsOn, Finishes, Replays}
use Rattle.ug_command_io.specs.declared.machine.Ran.{Ran}
use Rattle.ug_command_io.specs.declared.machine.Ran.TheVariants as ran
use Rattle.ug_command_io.specs.declared.results.Ended.{Ended}
use Rattle.ug_command_io.specs.declared.results.Ended.TheVariants.{Done, Bad, TooLong, ReadFault, WriteFault, Memory}
use Rattle.ug_lines.proofs.Lines.{whole_from-nil, rest_from-nil, whole_from-append, rest_from-append, lines_from-append}
use Rattle.ug_command_io.proofs.Stages.{plays-append}

at_end-nil : (left : Option (List ℕ)) (more : List ℕ) → IsAtEnd left → left ≡ Some more → more ≡ []
at_end-nil None more h e = cc
at_end-nil (Some xs) more h e = cc

same_end : (taken : List ℕ) (left : Option (List ℕ)) (more : List ℕ) → IsAtEnd left → left ≡ Some more → taken ++ more ≡ taken
same_end taken left more e k = ap (λ (x : List ℕ). taken ++ x) (at_end-nil left more e k) ∙ append-nil taken

regroup : (a b c d : List ℕ) → ((a ++ b) ++ c) ++ d ≡ a ++ ((b ++ c) ++ d)
regroup a b c d = simp append_assoc

no_words : (added rest : List ℕ) → [] ≡ added ++ rest → added ≡ []
no_words [] rest e = refl
no_words (b ∷ added) rest e = cc

module _ {M : Type 0} (step : M → List ℕ → LineOutcome M) (closing : M → Option (List ℕ)) where
  -- what stands where a step behind n lines ended so, before its fault line
  abbrev Reached : (m0 : M) (taken : List ℕ) (left : Option (List ℕ)) (out : List ℕ) (n : ℕ) (m : M) → Ran → Type 0
  Reached m0 taken left out n m ran.Done = Wrote step closing m0 taken left out m Done
  Reached m0 taken left out n m ran.Bad = Rejected step closing m0 taken left (out ++ bad_line (n + 1)) m BadLine
  Reached m0 taken left out n m ran.TooLong = Rejected step closing m0 taken left (out ++ input_too_long) m InputTooLong
  Reached m0 taken left out n m ran.SinkFailed = TellsRun step closing m0 taken left out m WriteFault
  Reached m0 taken left out n m ran.Memory = (next : M) × Front step m0 taken left out next

  -- a fault line goes behind the text, or a front of it
  said : (m0 : M) (taken : List ℕ) (left : Option (List ℕ)) (text words added : List ℕ) (m : M) (wanted result : Ended)
      → TellsRun step closing m0 taken left (text ++ words) m wanted
      → ((rest : List ℕ) → words ≡ added ++ rest → TellsRun step closing m0 taken left (text ++ added) m WriteFault)
      → ((result ≡ wanted) × (added ≡ words)) ⊎ ((result ≡ WriteFault) × ((rest : List ℕ) × (words ≡ added ++ rest)))
      → TellsRun step closing m0 taken left (text ++ added) m result
  said m0 taken left text words added m wanted result h k (inl (e, w)) =
      subst (λ (r : Ended). TellsRun step closing m0 taken left (text ++ added) m r) (sym e)
      (subst (λ (ws : List ℕ). TellsRun step closing m0 taken left (text ++ ws) m wanted) (sym w) h)
  said m0 taken left text words added m wanted result h k (inr (e, (rest, w))) =
      subst (λ (r : Ended). TellsRun step closing m0 taken left (text ++ added) m r) (sym e) (k rest w)

  cut-wrote : (m0 : M) (taken : List ℕ) (left : Option (List ℕ)) (text words added rest : List ℕ) (m : M) (e : Ended) → words ≡ added ++ rest → Wrote step closing m0 taken left (text ++ words) m e → Wrote step closing m0 taken left ((text ++ added) ++ rest) m e
  cut-wrote m0 taken left text words added rest m e w h = subst (λ (t : List ℕ). Wrote step closing m0 taken left t m e) (ap (λ (ws : List ℕ). text ++ ws) w ∙ sym (append_assoc text added rest)) h

  concluded : (m0 : M) (taken : List ℕ) (left : Option (List ℕ)) (out : List ℕ) (n : ℕ) (m : M) (r : Ran) (added : List ℕ) (result : Ended)
      → Reached m0 taken left out n m r
      → ((result ≡ ended_of r) × (added ≡ ran_words r n)) ⊎ ((result ≡ WriteFault) × ((rest : List ℕ) × (ran_words r n ≡ added ++ rest)))
      → TellsRun step closing m0 taken left (out ++ added) m result
  concluded m0 taken left out n m ran.Done added result h s =
      let w = subst (λ (t : List ℕ). Wrote step closing m0 taken left t m Done) (sym (append-nil out)) h in
      said m0 taken left out [] added m Done result w (λ rest e. (Done, rest, cut-wrote m0 taken left out [] added rest m Done e w)) s
  concluded m0 taken left out n m ran.Bad added result h s =
      said m0 taken left out (bad_line (n + 1)) added m Bad result h (λ rest e. (Bad, rest, cut-wrote m0 taken left out (bad_line (n + 1)) added rest m Bad e h)) s
  concluded m0 taken left out n m ran.TooLong added result h s =
      said m0 taken left out input_too_long added m TooLong result h (λ rest e. (TooLong, rest, cut-wrote m0 taken left out input_too_long added rest m TooLong e h)) s
  concluded m0 taken left out n m ran.SinkFailed added result h s =
      let w = subst (λ (t : List ℕ). TellsRun step closing m0 taken left t m WriteFault) (sym (append-nil out)) h in
      said m0 taken left out [] added m WriteFault result w (λ rest e. subst (λ (ws : List ℕ). TellsRun step closing m0 taken left (out ++ ws) m WriteFault) (sym (no_words added rest e)) w) s
  concluded m0 taken left out n m ran.Memory added result (next, f) s =
      said m0 taken left out no_memory added m Memory result (out, next, f, refl) (λ rest e. (Memory, rest, (out, added, next, f, refl, e))) s

  plays-front : (m0 : M) (taken text line : List ℕ) (n : ℕ) (m : M) (lines : List (List ℕ)) → StandsBehind step m0 taken text line n m → plays step (Going 0 [] m0) (whole_from [] taken ++ lines) ≡ plays step (Going n text m) lines
  plays-front m0 taken text line n m lines st = plays-append step (Going 0 [] m0) (whole_from [] taken) lines ∙ ap (λ (s : Stage M). plays step s lines) st.played

  plays-all : (m0 : M) (taken text line : List ℕ) (n : ℕ) (m : M) → StandsBehind step m0 taken text line n m → plays step (Going 0 [] m0) (lines_of taken) ≡ plays step (Going n text m) (last_line line)
  plays-all m0 taken text line n m st =
      plays-front m0 taken text line n m (last_line (rest_from [] taken)) st ∙ ap (λ (l : List ℕ). plays step (Going n text m) (last_line l)) (sym st.begun)

  front-last : (m0 : M) (taken text line : List ℕ) (n : ℕ) (m : M) (left : Option (List ℕ)) (x : List ℕ) (next : M) → StandsBehind step m0 taken text line n m → IsAtEnd left → Shows step n m (last_line line) x next → Front step m0 taken left (text ++ x) next
  front-last m0 taken text line n m left x next st e sh = record {
    lines = whole_from [] taken ++ sh.lines;
    count = sh.count;
    front = λ more k. (
      sh.others,
      ap (λ (bs : List ℕ). lines_of bs) (same_end taken left more e k)
          ∙ (ap (λ (ls : List (List ℕ)). whole_from [] taken ++ ls) (ap (λ (l : List ℕ). last_line l) (sym st.begun) ∙ sh.front) ∙ sym (append_assoc (whole_from [] taken) sh.lines sh.others)),
    );
    played = plays-front m0 taken text line n m sh.lines st ∙ sh.played text;
  }

  front-all : (m0 : M) (taken : List ℕ) (left : Option (List ℕ)) (n : ℕ) (out : List ℕ) (m : M) → IsAtEnd left → plays step (Going 0 [] m0) (lines_of taken) ≡ Going n out m → Front step m0 taken left out m
  front-all m0 taken left n out m e p = record {
    lines = lines_of taken;
    count = n;
    front = λ more k. ([], ap (λ (bs : List ℕ). lines_of bs) (same_end taken left more e k) ∙ sym (append-nil (lines_of taken)));
    played = p;
  }

  front-piece : (m0 : M) (taken text line : List ℕ) (n : ℕ) (m : M) (bytes : List ℕ) (left : Option (List ℕ)) (x : List ℕ) (next : M) → StandsBehind step m0 taken text line n m → Shows step n m (whole_from line bytes) x next → Front step m0 (taken ++ bytes) left (text ++ x) next
  front-piece m0 taken text line n m bytes left x next st sh = record {
    lines = whole_from [] taken ++ sh.lines;
    count = sh.count;
    front = λ more k. (
      sh.others ++ lines_from (rest_from line bytes) more,
      ap (λ (bs : List ℕ). lines_of bs) (append_assoc taken bytes more)
          ∙ (lines_from-append [] taken (bytes ++ more)
          ∙ (ap (λ (l : List ℕ). whole_from [] taken ++ lines_from l (bytes ++ more)) (sym st.begun)
          ∙ (ap (λ (ls : List (List ℕ)). whole_from [] taken ++ ls) (lines_from-append line bytes more ∙ (ap (λ (ls : List (List ℕ)). ls ++ lines_from (rest_from line bytes) more) sh.front ∙ append_assoc sh.lines sh.others (lines_from (rest_from line bytes) more)))
          ∙ sym (append_assoc (whole_from [] taken) sh.lines (sh.others ++ lines_from (rest_from line bytes) more))))),
    );
    played = plays-front m0 taken text line n m sh.lines st ∙ sh.played text;
  }

  -- a text that is refused, at its end
  rejected-end : (m0 : M) (taken : List ℕ) (left : Option (List ℕ)) (text : List ℕ) (m : M) (s : Stage M) (fault : LineRefusal) → IsAtEnd left → plays step (Going 0 [] m0) (lines_of taken) ≡ s → fault_of closing s ≡ Some fault → whole_text closing s ≡ text → machine_of s ≡ m → Rejected step closing m0 taken left text m fault
  rejected-end m0 taken left text m s fault e p a b d = λ more k.
      let q : plays step (Going 0 [] m0) (lines_of (taken ++ more)) ≡ s = ap (λ (bs : List ℕ). plays step (Going 0 [] m0) (lines_of bs)) (same_end taken left more e k) ∙ p in
      (ap (λ (v : Stage M). fault_of closing v) q ∙ a, ap (λ (v : Stage M). whole_text closing v) q ∙ b, ap (λ (v : Stage M). machine_of v) q ∙ d)

  -- a last line that isn't taken
  last-reaches : (m0 : M) (taken text line : List ℕ) (n : ℕ) (m : M) (left : Option (List ℕ)) (n1 : ℕ) (m1 : M) (added : List ℕ) (r : Ran) → StandsBehind step m0 taken text line n m → IsAtEnd left → (r ≡ ran.Done → ⊥) → Last step line n m n1 m1 added r
      → Reached m0 taken left (text ++ added) n1 m1 r
  last-reaches m0 taken text line n m left n1 m1 added ran.Done st e ne l = absurd (ne refl)
  last-reaches m0 taken text line n m left n1 m1 added ran.Bad st e ne l =
      rejected-end m0 taken left _ m1 (Halted BadLine n1 (text ++ added) m1) BadLine e (plays-all m0 taken text line n m st ∙ l text) refl refl refl
  last-reaches m0 taken text line n m left n1 m1 added ran.TooLong st e ne l =
      rejected-end m0 taken left _ m1 (Halted InputTooLong n1 (text ++ added) m1) InputTooLong e (plays-all m0 taken text line n m st ∙ l text) refl refl refl
  last-reaches m0 taken text line n m left n1 m1 added ran.SinkFailed st e ne (rest, sh) =
      (WriteFault, rest, subst (λ (t : List ℕ). Front step m0 taken left t m1) (sym (append_assoc text added rest)) (front-last m0 taken text line n m left (added ++ rest) m1 st e sh))
  last-reaches m0 taken text line n m left n1 m1 added ran.Memory st e ne (next, sh) = (next, front-last m0 taken text line n m left added next st e sh)

  -- bytes whose line is refused
  stops-reaches : (m0 : M) (taken text line : List ℕ) (n : ℕ) (m : M) (bytes : List ℕ) (left : Option (List ℕ)) (n1 : ℕ) (m1 : M) (added : List ℕ) (fault : LineRefusal) → StandsBehind step m0 taken text line n m → Stops step line n m bytes fault n1 m1 added
      → (whole : List ℕ) → whole_text closing (Halted fault n1 (text ++ added) m1) ≡ whole → Rejected step closing m0 (taken ++ bytes) left whole m1 fault
  stops-reaches m0 taken text line n m bytes left n1 m1 added fault st f whole w = λ more k.
      let q : plays step (Going 0 [] m0) (lines_of ((taken ++ bytes) ++ more)) ≡ Halted fault n1 (text ++ added) m1 =
      ap (λ (bs : List ℕ). plays step (Going 0 [] m0) (lines_of bs)) (append_assoc taken bytes more)
      ∙ (ap (λ (ls : List (List ℕ)). plays step (Going 0 [] m0) ls) (lines_from-append [] taken (bytes ++ more))
      ∙ (plays-front m0 taken text line n m (lines_from (rest_from [] taken) (bytes ++ more)) st
      ∙ (ap (λ (l : List ℕ). plays step (Going n text m) (lines_from l (bytes ++ more))) (sym st.begun) ∙ f more text))) in
      (ap (λ (v : Stage M). fault_of closing v) q, ap (λ (v : Stage M). whole_text closing v) q ∙ w, ap (λ (v : Stage M). machine_of v) q)

  -- bytes whose line isn't taken
  fed-reaches : (m0 : M) (taken text line : List ℕ) (n : ℕ) (m : M) (bytes : List ℕ) (left : Option (List ℕ)) (line1 : List ℕ) (n1 : ℕ) (m1 : M) (added : List ℕ) (r : Ran) → StandsBehind step m0 taken text line n m → (r ≡ ran.Done → ⊥) → Fed step line n m bytes line1 n1 m1 added r
      → Reached m0 (taken ++ bytes) left (text ++ added) n1 m1 r
  fed-reaches m0 taken text line n m bytes left line1 n1 m1 added ran.Done st ne f = absurd (ne refl)
  fed-reaches m0 taken text line n m bytes left line1 n1 m1 added ran.Bad st ne f = stops-reaches m0 taken text line n m bytes left n1 m1 added BadLine st f _ refl
  fed-reaches m0 taken text line n m bytes left line1 n1 m1 added ran.TooLong st ne f = stops-reaches m0 taken text line n m bytes left n1 m1 added InputTooLong st f _ refl
  fed-reaches m0 taken text line n m bytes left line1 n1 m1 added ran.SinkFailed st ne (rest, sh) =
      (WriteFault, rest, subst (λ (t : List ℕ). Front step m0 (taken ++ bytes) left t m1) (sym (append_assoc text added rest)) (front-piece m0 taken text line n m bytes left (added ++ rest) m1 st sh))
  fed-reaches m0 taken text line n m bytes left line1 n1 m1 added ran.Memory st ne (next, sh) = (next, front-piece m0 taken text line n m bytes left added next st sh)

  -- the last text, behind all lines
  record Closed (h1 h2 : Option (List ℕ)) (o : Option (List ℕ)) (r : Ran) : Type 0 where
    more : List ℕ
    sink : Appends h1 h2 more
    told : (m0 : M) (taken : List ℕ) (left : Option (List ℕ)) (out : List ℕ) (n : ℕ) (m : M) → IsAtEnd left → plays step (Going 0 [] m0) (lines_of taken) ≡ Going n out m → closing m ≡ o
        → Reached m0 taken left (out ++ more) n m r

  closes-adds : (h1 h2 : Option (List ℕ)) (o : Option (List ℕ)) (r : Ran) → Closes o h1 h2 r → Closed h1 h2 o r
  closes-adds h1 h2 (Some last) ran.Done k = record {
    more = last;
    sink = k;
    told = λ m0 taken left out n m e p eo. (
      e,
      ap (λ (v : Stage M). fault_of closing v) p ∙ ap (λ (q : Option (List ℕ)). closed_fault q) eo,
      ap (λ (v : Stage M). whole_text closing v) p ∙ ap (λ (q : Option (List ℕ)). out ++ closed_text n q) eo,
      ap (λ (v : Stage M). machine_of v) p,
    );
  }
  closes-adds h1 h2 (Some last) ran.Bad k = absurd k
  closes-adds h1 h2 (Some last) ran.TooLong k = absurd k
  closes-adds h1 h2 (Some last) ran.SinkFailed (front, rest, split, k) = record {
    more = front;
    sink = k;
    told = λ m0 taken left out n m e p eo. (
      Done,
      rest,
      (
        e,
        ap (λ (v : Stage M). fault_of closing v) p ∙ ap (λ (q : Option (List ℕ)). closed_fault q) eo,
        ap (λ (v : Stage M). whole_text closing v) p ∙ (ap (λ (q : Option (List ℕ)). out ++ closed_text n q) eo ∙ (ap (λ (t : List ℕ). out ++ t) split ∙ sym (append_assoc out front rest))),
        ap (λ (v : Stage M). machine_of v) p,
      ),
    );
  }
  closes-adds h1 h2 (Some last) ran.Memory k = record {
    more = [];
    sink = Appends-kept h1 h1 h2 [] (Appends-nil h1) k;
    told = λ m0 taken left out n m e p eo. (m, front-all m0 taken left n (out ++ []) m e (p ∙ ap (λ (t : List ℕ). Going n t m) (sym (append-nil out))));
  }
  closes-adds h1 h2 None ran.Done k = absurd k
  closes-adds h1 h2 None ran.Bad k = record {
    more = [];
    sink = Appends-kept h1 h1 h2 [] (Appends-nil h1) k;
    told = λ m0 taken left out n m e p eo. rejected-end m0 taken left ((out ++ []) ++ bad_line (n + 1)) m (Going n out m) BadLine e p
        (ap (λ (q : Option (List ℕ)). closed_fault q) eo) (ap (λ (q : Option (List ℕ)). out ++ closed_text n q) eo ∙ ap (λ (t : List ℕ). t ++ bad_line (n + 1)) (sym (append-nil out))) refl;
  }
  closes-adds h1 h2 None ran.TooLong k = absurd k
  closes-adds h1 h2 None ran.SinkFailed k = absurd k
  closes-adds h1 h2 None ran.Memory k = record {
    more = [];
    sink = Appends-kept h1 h1 h2 [] (Appends-nil h1) k;
    told = λ m0 taken left out n m e p eo. (m, front-all m0 taken left n (out ++ []) m e (p ∙ ap (λ (t : List ℕ). Going n t m) (sym (append-nil out))));
  }

  pub finish-stopped : (line : List ℕ) (n : ℕ) (m : M) (h0 : Option (List ℕ)) (r : Ran) (n1 : ℕ) (m1 : M) (h1 h2 : Option (List ℕ)) (result : Ended) → (r ≡ ran.Done → ⊥) → Lasts step line n m h0 r n1 m1 h1 → SaysFault h1 h2 (ran_words r n1) (ended_of r) result → Finishes step closing line n m h0 h2 m1 result
  finish-stopped line n m h0 r n1 m1 h1 h2 result ne l s = record {
    added = l.added ++ s.added;
    sink = Appends-trans h0 h1 h2 l.added s.added l.sink s.sink;
    told = λ m0 taken text left st e.
        subst (λ (t : List ℕ). TellsRun step closing m0 taken left t m1 result) (append_assoc text l.added s.added)
        (concluded m0 taken left (text ++ l.added) n1 m1 r s.added result
        (last-reaches m0 taken text line n m left n1 m1 l.added r st e ne l.told)
        s.told);
  }

  pub finish-closed : (line : List ℕ) (n : ℕ) (m : M) (h0 : Option (List ℕ)) (r : Ran) (n1 : ℕ) (m1 : M) (h1 h2 h3 : Option (List ℕ)) (result : Ended) → Lasts step line n m h0 ran.Done n1 m1 h1 → Closes (closing m1) h1 h2 r → SaysFault h2 h3 (ran_words r n1) (ended_of r) result → Finishes step closing line n m h0 h3 m1 result
  finish-closed line n m h0 r n1 m1 h1 h2 h3 result l k s =
      let x = closes-adds h1 h2 (closing m1) r k in
      record {
        added = (l.added ++ x.more) ++ s.added;
        sink = Appends-trans h0 h2 h3 (l.added ++ x.more) s.added (Appends-trans h0 h1 h2 l.added x.more l.sink x.sink) s.sink;
        told = λ m0 taken text left st e.
            subst (λ (t : List ℕ). TellsRun step closing m0 taken left t m1 result) (regroup text l.added x.more s.added)
            (concluded m0 taken left ((text ++ l.added) ++ x.more) n1 m1 r s.added result
            (x.told m0 taken left (text ++ l.added) n1 m1 e (plays-all m0 taken text line n m st ∙ l.told text) refl)
            s.told);
      }

  -- nothing was read
  unfoldable pub reads-none : (m0 : M) (left held : Option (List ℕ)) (line : List ℕ) (n : ℕ) → line ≡ [] → n ≡ 0 → ReadsOn step m0 left left held held line n m0
  reads-none m0 left held line n e w = record {
    taken = [];
    text = [];
    source = Consumes-nil left;
    sink = Appends-nil held;
    stands = record {
      played = ap (λ (ls : List (List ℕ)). plays step (Going 0 [] m0) ls) (whole_from-nil []) ∙ ap (λ (k : ℕ). Going k [] m0) (sym w);
      begun = e ∙ sym (rest_from-nil []);
    };
  }

  -- one more piece
  pub stands-piece : (m0 : M) (taken text line : List ℕ) (n : ℕ) (m : M) (bytes added line1 : List ℕ) (n1 : ℕ) (m1 : M) → StandsBehind step m0 taken text line n m → Fed step line n m bytes line1 n1 m1 added ran.Done → StandsBehind step m0 (taken ++ bytes) (text ++ added) line1 n1 m1
  stands-piece m0 taken text line n m bytes added line1 n1 m1 st (f, e) = record {
    played = ap (λ (ls : List (List ℕ)). plays step (Going 0 [] m0) ls) (whole_from-append [] taken bytes)
        ∙ (plays-front m0 taken text line n m (whole_from (rest_from [] taken) bytes) st
        ∙ (ap (λ (l : List ℕ). plays step (Going n text m) (whole_from l bytes)) (sym st.begun) ∙ f text));
    begun = e ∙ (ap (λ (l : List ℕ). rest_from l bytes) st.begun ∙ sym (rest_from-append [] taken bytes));
  }

  unfoldable pub reads-piece : (m0 : M) (left0 left1 left2 held0 held1 held2 : Option (List ℕ)) (line : List ℕ) (n : ℕ) (m : M) (bytes line1 : List ℕ) (n1 : ℕ) (m1 : M)
      → ReadsOn step m0 left0 left1 held0 held1 line n m → Consumes left1 left2 bytes → Feeds step line n m held1 bytes ran.Done line1 n1 m1 held2 → ReadsOn step m0 left0 left2 held0 held2 line1 n1 m1
  reads-piece m0 left0 left1 left2 held0 held1 held2 line n m bytes line1 n1 m1 r c f = record {
    taken = r.taken ++ bytes;
    text = r.text ++ f.added;
    source = Consumes-trans left0 left1 left2 r.taken bytes r.source c;
    sink = Appends-trans held0 held1 held2 r.text f.added r.sink f.sink;
    stands = stands-piece m0 r.taken r.text line n m bytes f.added line1 n1 m1 r.stands f.told;
  }

  pub replay-stopped : (m0 : M) (left0 left1 left2 held0 held1 held2 held3 : Option (List ℕ)) (line : List ℕ) (n : ℕ) (m : M) (bytes : List ℕ) (stop : Ran) (line1 : List ℕ) (n1 : ℕ) (m1 : M) (result : Ended)
      → (stop ≡ ran.Done → ⊥) → ReadsOn step m0 left0 left1 held0 held1 line n m → Consumes left1 left2 bytes → Feeds step line n m held1 bytes stop line1 n1 m1 held2 → SaysFault held2 held3 (ran_words stop n1) (ended_of stop) result
      → Replays step closing m0 left0 left2 held0 held3 m1 result
  replay-stopped m0 left0 left1 left2 held0 held1 held2 held3 line n m bytes stop line1 n1 m1 result ne r c f s = record {
    taken = r.taken ++ bytes;
    text = (r.text ++ f.added) ++ s.added;
    source = Consumes-trans left0 left1 left2 r.taken bytes r.source c;
    sink = Appends-trans held0 held2 held3 (r.text ++ f.added) s.added (Appends-trans held0 held1 held2 r.text f.added r.sink f.sink) s.sink;
    told = concluded m0 (r.taken ++ bytes) left2 (r.text ++ f.added) n1 m1 stop s.added result
        (fed-reaches m0 r.taken r.text line n m bytes left2 line1 n1 m1 f.added stop r.stands ne f.told) s.told;
  }

  pub replay-fault : (m0 : M) (left0 left1 left2 held0 held1 held2 : Option (List ℕ)) (line : List ℕ) (n : ℕ) (m : M) (result : Ended)
      → ReadsOn step m0 left0 left1 held0 held1 line n m → Keeps left1 left2 → SaysFault held1 held2 read_fault ReadFault result → Replays step closing m0 left0 left2 held0 held2 m result
  replay-fault m0 left0 left1 left2 held0 held1 held2 line n m result r c s = record {
    taken = r.taken;
    text = r.text ++ s.added;
    source = Consumes-kept left0 left1 left2 r.taken r.source c;
    sink = Appends-trans held0 held1 held2 r.text s.added r.sink s.sink;
    told =
        let w : Wrote step closing m0 r.taken left2 (r.text ++ read_fault) m ReadFault = (n, r.text, r.stands.played, refl) in
        said m0 r.taken left2 r.text read_fault s.added m ReadFault result w (λ rest e. (ReadFault, rest, cut-wrote m0 r.taken left2 r.text read_fault s.added rest m ReadFault e w)) s.told;
  }

  pub replay-end : (m0 : M) (left0 left1 left2 held0 held1 held2 : Option (List ℕ)) (line : List ℕ) (n : ℕ) (m m1 : M) (result : Ended)
      → ReadsOn step m0 left0 left1 held0 held1 line n m → Keeps left1 left2 → IsAtEnd left2 → Finishes step closing line n m held1 held2 m1 result → Replays step closing m0 left0 left2 held0 held2 m1 result
  replay-end m0 left0 left1 left2 held0 held1 held2 line n m m1 result r c e f = record {
    taken = r.taken;
    text = r.text ++ f.added;
    source = Consumes-kept left0 left1 left2 r.taken r.source c;
    sink = Appends-trans held0 held1 held2 r.text f.added r.sink f.sink;
    told = f.told m0 r.taken r.text left2 r.stands e;
  }
