-- Why a line isn't taken, behind the lines before it and before the bytes behind it.
use Rattle.std.proofs.Common.{◌≡◌, ℕ, ◌+◌, ◌<◌, ◌≤◌, List, [], ◌∷◌, ◌++◌, length, take, drop, true, false, nat_eq, Option, Some, None, ◌⊎◌, inl, inr, refl, sym, ap, subst, ◌∙◌, append_assoc, arith, length-append}
use Rattle.std.proofs.lemmas.List.{take-append-drop}
use Rattle.std.proofs.Math.Seq.{take-add}
use Rattle.std.specs.Io.KnownBytes.{Consumes, IsAtEnd, Keeps}
use Rattle.ug_lines.specs.Lines.{whole_from, rest_from, last_line, lines_from, lines_of}
use Rattle.ug_lines.specs.Splitting.{IsLine}
use Rattle.ug_lines.proofs.Lines.{Begins, begins, whole_from-end, rest_from-end, lines_from-append}
use Rattle.ug_lines.proofs.Splitting.{lines_from-run}
use Rattle.ug_command_io.specs.Fold.{LineRefusal, LineOutcome, Stage, Going, plays, is_within}
use Rattle.ug_command_io.specs.Refusals.{AtEnd, AtLine, RefusesLine, RefusesLines, fault_in, fault_told}
use Rattle.ug_command_io.specs.Runs.{Closes, Extends, Feeds, Lasts, SaysFault, ReadsOn, ended_of}
use Rattle.ug_command_io.specs.declared.machine.Ran.{Ran}
use Rattle.ug_command_io.specs.declared.machine.Ran.TheVariants as ran
use Rattle.ug_command_io.specs.declared.results.Ended.{Ended}
use Rattle.ug_command_io.specs.declared.results.Ended.TheVariants as ended
use Rattle.ug_command_io.proofs.Outputs.{left-known}
use Rattle.ug_command_io.proofs.Stages.{plays-append, past_count, past_length}
use Rattle.ug_command_io.proofs.Taking.{all-taken}

module _ {M : Type 0} (step : M → List ℕ → LineOutcome M) (because : M → List ℕ → LineRefusal → Type 0) where
  -- a line past a limit
  past : (n : ℕ) (text : List ℕ) (m : M) (line bytes : List ℕ) (fault : LineRefusal) (r : Begins line bytes) → is_within n r.first ≡ false → RefusesLine step because (Going n text m) (lines_from line bytes) fault
  past n text m line bytes fault r w = record {
    earlier = [];
    line = r.first;
    later = r.others;
    among = r.lines;
    count = n;
    text = text;
    machine = m;
    played = refl;
    why = λ e. let bad : true ≡ false = sym e ∙ w in let none : ⊥ = cc in absurd none;
  }

  -- a line that the machine refuses
  here : (n : ℕ) (text : List ℕ) (m : M) (line : List ℕ) (later : List (List ℕ)) (fault : LineRefusal) → because m line fault → RefusesLine step because (Going n text m) (line ∷ later) fault
  here n text m line later fault why = record {
    earlier = [];
    line = line;
    later = later;
    among = refl;
    count = n;
    text = text;
    machine = m;
    played = refl;
    why = λ e. why;
  }

  -- behind lines that are taken
  behind : (start next : Stage M) (front lines : List (List ℕ)) (fault : LineRefusal) → plays step start front ≡ next → RefusesLine step because next lines fault → RefusesLine step because start (front ++ lines) fault
  behind start next front lines fault e r = record {
    earlier = front ++ r.earlier;
    line = r.line;
    later = r.later;
    among = ap (λ (ls : List (List ℕ)). front ++ ls) r.among ∙ sym (append_assoc front r.earlier (r.line ∷ r.later));
    count = r.count;
    text = r.text;
    machine = r.machine;
    played = plays-append step start front r.earlier ∙ (ap (λ (s : Stage M). plays step s r.earlier) e ∙ r.played);
    why = r.why;
  }

  -- whatever stands behind these bytes, they have a line that is refused
  abbrev pub Refusing : (line : List ℕ) (n : ℕ) (m : M) (bytes : List ℕ) → Ran → Type 0
  Refusing line n m bytes r = (fault : LineRefusal) → fault_in r ≡ Some fault → (text more : List ℕ) → RefusesLine step because (Going n text m) (lines_from line (bytes ++ more)) fault

  -- a line behind the last that may be
  pub refusing-past_count : (line : List ℕ) (n : ℕ) (m : M) (bytes : List ℕ) (r : Ran) → 0 < length bytes → 1048576 ≤ n → Refusing line n m bytes r
  refusing-past_count line n m bytes r some k fault e text more =
      let b = begins line (bytes ++ more) (omega (arith, length-append bytes more)) in
      past n text m line (bytes ++ more) fault b (past_count n b.first k)

  refusing-past_length : (line : List ℕ) (n : ℕ) (m : M) (run : List ℕ) (r : Ran) → IsLine run → 1048576 < length line + length run → Refusing line n m run r
  refusing-past_length line n m run r is k fault e text more =
      let l = line ++ run in
      let b = begins l more (omega (arith, length-append line run)) in
      let w : 1048576 < length b.first = omega (arith, b.long, length-append line run) in
      subst (λ (ls : List (List ℕ)). RefusesLine step because (Going n text m) ls fault) (sym (lines_from-run line run more is)) (past n text m l more fault b (past_length n b.first w))

  -- bytes without a newline
  pub refusing-run : (line new : List ℕ) (n : ℕ) (m : M) (run : List ℕ) (r : Ran) → IsLine run → Extends line n run r new → Refusing line n m run r
  refusing-run line new n m run ran.Done is e = λ fault f. let none : ⊥ = cc in absurd none
  refusing-run line new n m run ran.Bad is (some, inl k) = refusing-past_count line n m run ran.Bad some k
  refusing-run line new n m run ran.Bad is (some, inr k) = refusing-past_length line n m run ran.Bad is k
  refusing-run line new n m run ran.TooLong is e = absurd e
  refusing-run line new n m run ran.SinkFailed is e = absurd e
  refusing-run line new n m run ran.Memory is e = λ fault f. let none : ⊥ = cc in absurd none

  -- a newline, whose line the machine refuses
  pub refusing-line : (line given : List ℕ) (n : ℕ) (m : M) (b : ℕ) (r : Ran) → nat_eq b 10 ≡ true → given ≡ line → ((fault : LineRefusal) → fault_in r ≡ Some fault → because m given fault) → Refusing line n m (b ∷ []) r
  refusing-line line given n m b r newline same why fault e text more =
      rw (whole_from-end line b more newline, rest_from-end line b more newline) (here n text m line (lines_from [] more) fault (subst (λ (l : List ℕ). because m l fault) same (why fault e)))

  -- the bytes behind say nothing
  pub refusing-more : (line : List ℕ) (n : ℕ) (m : M) (a b : List ℕ) (r : Ran) → Refusing line n m a r → Refusing line n m (a ++ b) r
  refusing-more line n m a b r h fault e text more = subst (λ (bs : List ℕ). RefusesLine step because (Going n text m) (lines_from line bs) fault) (sym (append_assoc a b more)) (h fault e text (b ++ more))

  -- behind bytes whose lines are taken
  pub refusing-then : (l0 : List ℕ) (n0 : ℕ) (m0 : M) (h0 : Option (List ℕ)) (a l1 : List ℕ) (n1 : ℕ) (m1 : M) (h1 : Option (List ℕ)) (b : List ℕ) (r : Ran) → Feeds step l0 n0 m0 h0 a ran.Done l1 n1 m1 h1 → Refusing l1 n1 m1 b r → Refusing l0 n0 m0 (a ++ b) r
  refusing-then l0 n0 m0 h0 a l1 n1 m1 h1 b r f h fault e text more =
      subst (λ (bs : List ℕ). RefusesLine step because (Going n0 text m0) (lines_from l0 bs) fault) (sym (append_assoc a b more))
      (subst (λ (ls : List (List ℕ)). RefusesLine step because (Going n0 text m0) ls fault) (sym (lines_from-append l0 a (b ++ more)))
      (behind (Going n0 text m0) (Going n1 (text ++ f.added) m1) (whole_from l0 a) (lines_from (rest_from l0 a) (b ++ more)) fault (f.told.0 text)
      (subst (λ (l : List ℕ). RefusesLine step because (Going n1 (text ++ f.added) m1) (lines_from l (b ++ more)) fault) f.told.1 (h fault e (text ++ f.added) more))))

  -- a loop over a piece stops in its next bytes
  pub refusing-stop : (l0 : List ℕ) (n0 : ℕ) (m0 : M) (h0 : Option (List ℕ)) (piece : List ℕ) (at end : ℕ) (part l1 : List ℕ) (n1 : ℕ) (m1 : M) (h1 : Option (List ℕ)) (r : Ran) → part ≡ take end (drop at piece) → Feeds step l0 n0 m0 h0 (take at piece) ran.Done l1 n1 m1 h1 → Refusing l1 n1 m1 part r → Refusing l0 n0 m0 piece r
  refusing-stop l0 n0 m0 h0 piece at end part l1 n1 m1 h1 r e f h =
      subst (λ (bs : List ℕ). Refusing l0 n0 m0 bs r)
      (ap (λ (p : List ℕ). (take at piece ++ p) ++ drop (at + end) piece) e ∙ (ap (λ (p : List ℕ). p ++ drop (at + end) piece) (sym (take-add at end piece)) ∙ take-append-drop (at + end) piece))
      (refusing-more l0 n0 m0 (take at piece ++ part) (drop (at + end) piece) r (refusing-then l0 n0 m0 h0 (take at piece) l1 n1 m1 h1 part r f h))

  -- ---- a last line

  abbrev pub RefusingLast : (line : List ℕ) (n : ℕ) (m : M) → Ran → Type 0
  RefusingLast line n m r = (fault : LineRefusal) → fault_in r ≡ Some fault → (text : List ℕ) → RefusesLine step because (Going n text m) (last_line line) fault

  last-one : (line : List ℕ) → 0 < length line → last_line line ≡ line ∷ []
  last-one [] h = absurd (omega (arith, h))
  last-one (b ∷ line) h = refl

  pub refusing-last : (line given : List ℕ) (n : ℕ) (m : M) (r : Ran) → 0 < length line → given ≡ line → ((fault : LineRefusal) → fault_in r ≡ Some fault → because m given fault) → RefusingLast line n m r
  refusing-last line given n m r some same why fault e text = rw (last-one line some) (here n text m line [] fault (subst (λ (l : List ℕ). because m l fault) same (why fault e)))

  pub refusing-last_past : (line : List ℕ) (n : ℕ) (m : M) (r : Ran) → 0 < length line → 1048576 ≤ n → RefusingLast line n m r
  refusing-last_past line n m r some k fault e text = rw (last-one line some) (record {
    earlier = [];
    line = line;
    later = [];
    among = refl;
    count = n;
    text = text;
    machine = m;
    played = refl;
    why = λ w. let bad : true ≡ false = sym w ∙ past_count n line k in let none : ⊥ = cc in absurd none;
  })

  -- ---- a whole call

  -- what was told is how a step ended
  pub told-so : (h0 h1 : Option (List ℕ)) (words : List ℕ) (r : Ran) (result : Ended) (fault : LineRefusal) → SaysFault h0 h1 words (ended_of r) result → fault_told result ≡ Some fault → fault_in r ≡ Some fault
  told-so h0 h1 words r result fault s e = by_told s.told
    where
      by_ran : (q : Ran) → fault_told (ended_of q) ≡ Some fault → fault_in q ≡ Some fault
      by_ran ran.Done k = let none : ⊥ = cc in absurd none
      by_ran ran.Bad k = k
      by_ran ran.TooLong k = k
      by_ran ran.SinkFailed k = let none : ⊥ = cc in absurd none
      by_ran ran.Memory k = let none : ⊥ = cc in absurd none

      by_told : ((result ≡ ended_of r) × (s.added ≡ words)) ⊎ ((result ≡ ended.WriteFault) × ((rest : List ℕ) × (words ≡ s.added ++ rest))) → fault_in r ≡ Some fault
      by_told (inl k) = by_ran r (ap fault_told (sym k.0) ∙ e)
      by_told (inr k) = let bad : fault_told ended.WriteFault ≡ Some fault = ap fault_told (sym k.0) ∙ e in let none : ⊥ = cc in absurd none

  module _ (closing : M → Option (List ℕ)) where
    abbrev pub RefusingAll : (start : Stage M) (lines : List (List ℕ)) → Ended → Type 0
    RefusingAll start lines result = (fault : LineRefusal) → fault_told result ≡ Some fault → RefusesLines step closing because start lines fault

    abbrev pub RefusingEnd : (line : List ℕ) (n : ℕ) (m : M) → Ended → Type 0
    RefusingEnd line n m result = (text : List ℕ) → RefusingAll (Going n text m) (last_line line) result

    pub end-stopped : (line : List ℕ) (n : ℕ) (m : M) (r : Ran) (h0 h1 : Option (List ℕ)) (words : List ℕ) (result : Ended) → RefusingLast line n m r → SaysFault h0 h1 words (ended_of r) result → RefusingEnd line n m result
    end-stopped line n m r h0 h1 words result h s text fault e = AtLine (h fault (told-so h0 h1 words r result fault s e) text)

    -- a last text that isn't there
    closes-none : (o h0 h1 : Option (List ℕ)) (r : Ran) (fault : LineRefusal) → Closes o h0 h1 r → fault_in r ≡ Some fault → o ≡ None
    closes-none (Some last) h0 h1 ran.Done fault k e = let none : ⊥ = cc in absurd none
    closes-none (Some last) h0 h1 ran.Bad fault k e = absurd k
    closes-none (Some last) h0 h1 ran.TooLong fault k e = absurd k
    closes-none (Some last) h0 h1 ran.SinkFailed fault k e = let none : ⊥ = cc in absurd none
    closes-none (Some last) h0 h1 ran.Memory fault k e = let none : ⊥ = cc in absurd none
    closes-none None h0 h1 r fault k e = refl

    pub end-closed : (line : List ℕ) (n : ℕ) (m : M) (h0 : Option (List ℕ)) (r : Ran) (n1 : ℕ) (m1 : M) (h1 h2 h3 : Option (List ℕ)) (words : List ℕ) (result : Ended) → Lasts step line n m h0 ran.Done n1 m1 h1 → Closes (closing m1) h1 h2 r → SaysFault h2 h3 words (ended_of r) result → RefusingEnd line n m result
    end-closed line n m h0 r n1 m1 h1 h2 h3 words result l k s text fault e =
        AtEnd n1 (text ++ l.added) m1 (l.told text) (closes-none (closing m1) h1 h2 r fault k (told-so h2 h3 words r result fault s e))

    behind-all : (start next : Stage M) (front lines : List (List ℕ)) (fault : LineRefusal) → plays step start front ≡ next → RefusesLines step closing because next lines fault → RefusesLines step closing because start (front ++ lines) fault
    behind-all start next front lines fault e (AtLine r) = AtLine (behind start next front lines fault e r)
    behind-all start next front lines fault e (AtEnd n text m p c) = AtEnd n text m (plays-append step start front lines ∙ (ap (λ (s : Stage M). plays step s lines) e ∙ p)) c

    -- behind the bytes that were taken, whatever is left of all
    pub stopped-all : (m0 : M) (left0 left1 left2 held0 held1 : Option (List ℕ)) (line : List ℕ) (n : ℕ) (m : M) (bytes : List ℕ) (r : Ran) (h2 h3 : Option (List ℕ)) (words : List ℕ) (result : Ended) → ReadsOn step m0 left0 left1 held0 held1 line n m → Consumes left1 left2 bytes → Refusing line n m bytes r → SaysFault h2 h3 words (ended_of r) result
        → (all : List ℕ) → left0 ≡ Some all → RefusingAll (Going 0 [] m0) (lines_of all) result
    stopped-all m0 left0 left1 left2 held0 held1 line n m bytes r h2 h3 words result reads c h s all is fault e =
        let a = left-known left0 left1 all reads.taken is reads.source in
        let b = left-known left1 left2 a.more bytes a.is c in
        let whole : all ≡ reads.taken ++ (bytes ++ b.more) = a.split ∙ ap (λ (x : List ℕ). reads.taken ++ x) b.split in
        AtLine (subst (λ (x : List ℕ). RefusesLine step because (Going 0 [] m0) (lines_of x) fault) (sym whole)
        (subst (λ (ls : List (List ℕ)). RefusesLine step because (Going 0 [] m0) ls fault) (sym (lines_from-append [] reads.taken (bytes ++ b.more)))
        (behind (Going 0 [] m0) (Going n reads.text m) (whole_from [] reads.taken) (lines_from (rest_from [] reads.taken) (bytes ++ b.more)) fault reads.stands.played
        (subst (λ (l : List ℕ). RefusesLine step because (Going n reads.text m) (lines_from l (bytes ++ b.more)) fault) reads.stands.begun (h fault (told-so h2 h3 words r result fault s e) reads.text b.more)))))

    pub ended-all : (m0 : M) (left0 left1 left2 held0 held1 : Option (List ℕ)) (line : List ℕ) (n : ℕ) (m : M) (result : Ended) → ReadsOn step m0 left0 left1 held0 held1 line n m → Keeps left1 left2 → IsAtEnd left2 → RefusingEnd line n m result
        → (all : List ℕ) → left0 ≡ Some all → RefusingAll (Going 0 [] m0) (lines_of all) result
    ended-all m0 left0 left1 left2 held0 held1 line n m result reads k e h all is fault f =
        let whole : all ≡ reads.taken = all-taken step m0 left0 left1 left2 held0 held1 line n m reads k e all is in
        subst (λ (x : List ℕ). RefusesLines step closing because (Going 0 [] m0) (lines_of x) fault) (sym whole)
        (behind-all (Going 0 [] m0) (Going n reads.text m) (whole_from [] reads.taken) (last_line (rest_from [] reads.taken)) fault reads.stands.played
        (subst (λ (l : List ℕ). RefusesLines step closing because (Going n reads.text m) (last_line l) fault) reads.stands.begun (h reads.text fault f)))
