-- What is so of each line that is taken, as its bytes come.
use Rattle.std.proofs.Common.{◌≡◌, ℕ, ◌+◌, List, [], ◌∷◌, ◌++◌, length, take, drop, true, nat_eq, Option, Some, None, inl, inr, refl, sym, ap, subst, ◌∙◌, arith}
use Rattle.std.proofs.lemmas.List.{append-nil}
use Rattle.std.proofs.Math.Seq.{take-add}
use Rattle.std.specs.Io.KnownBytes.{IsAtEnd, Keeps}
use Rattle.ug_lines.specs.Lines.{whole_from, rest_from, last_line, lines_of}
use Rattle.ug_lines.specs.Splitting.{IsLine}
use Rattle.ug_lines.proofs.Lines.{whole_from-append, whole_from-end, whole_from-nil}
use Rattle.ug_lines.proofs.Splitting.{whole_from-run}
use Rattle.ug_command_io.specs.Fold.{LineOutcome, Stage, Going, advance, plays}
use Rattle.ug_command_io.specs.Refusals.{HoldsOfEach}
use Rattle.ug_command_io.specs.Runs.{Feeds, ReadsOn, SaysFault, ended_of}
use Rattle.ug_command_io.specs.declared.machine.Ran.{Ran}
use Rattle.ug_command_io.specs.declared.machine.Ran.TheVariants.{Done, Bad, TooLong, SinkFailed, Memory}
use Rattle.ug_command_io.specs.declared.results.Ended.{Ended}
use Rattle.ug_command_io.specs.declared.results.Ended.TheVariants as ended
use Rattle.ug_command_io.proofs.Outputs.{left-known}

kept-end : (left1 left2 : Option (List ℕ)) (more : List ℕ) → Keeps left1 left2 → IsAtEnd left2 → left1 ≡ Some more → more ≡ []
kept-end None left2 more k e is = let none : ⊥ = cc in absurd none
kept-end (Some xs) None more k e is = absurd k
kept-end (Some xs) (Some ys) more k e is = cc

-- at the end all bytes were taken
pub all-taken : {M : Type 0} (step : M → List ℕ → LineOutcome M) (m0 : M) (left0 left1 left2 held0 held1 : Option (List ℕ)) (line : List ℕ) (n : ℕ) (m : M) (reads : ReadsOn step m0 left0 left1 held0 held1 line n m) → Keeps left1 left2 → IsAtEnd left2 → (all : List ℕ) → left0 ≡ Some all → all ≡ reads.taken
all-taken step m0 left0 left1 left2 held0 held1 line n m reads k e all is =
    let a = left-known left0 left1 all reads.taken is reads.source in
    a.split ∙ (ap (λ (x : List ℕ). reads.taken ++ x) (kept-end left1 left2 a.more k e a.is) ∙ append-nil reads.taken)

-- a step that wasn't done doesn't end a call as done
pub unended : (r : Ran) (h0 h1 : Option (List ℕ)) (words : List ℕ) (result : Ended) → (r ≡ Done → ⊥) → SaysFault h0 h1 words (ended_of r) result → result ≡ ended.Done → ⊥
unended r h0 h1 words result undone s e = elim s.told [
  | inl k ↦ by_ran r undone (sym k.0 ∙ e)
  | inr k ↦ let bad : ended.WriteFault ≡ ended.Done = sym k.0 ∙ e in let none : ⊥ = cc in none
]
  where
    by_ran : (q : Ran) → (q ≡ Done → ⊥) → ended_of q ≡ ended.Done → ⊥
    by_ran Done unlike is = unlike refl
    by_ran Bad unlike is = let none : ⊥ = cc in none
    by_ran TooLong unlike is = let none : ⊥ = cc in none
    by_ran SinkFailed unlike is = let none : ⊥ = cc in none
    by_ran Memory unlike is = let none : ⊥ = cc in none

module _ {M : Type 0} (step : M → List ℕ → LineOutcome M) (holds : M → List ℕ → Type 0) where
  -- of each line that these bytes end
  abbrev pub Taking : (line : List ℕ) (n : ℕ) (m : M) (bytes : List ℕ) → Type 0
  Taking line n m bytes = (text : List ℕ) → HoldsOfEach step holds (Going n text m) (whole_from line bytes)

  each-append : (s : Stage M) (xs ys : List (List ℕ)) → HoldsOfEach step holds s xs → HoldsOfEach step holds (plays step s xs) ys → HoldsOfEach step holds s (xs ++ ys)
  each-append s [] ys a b = b
  each-append s (x ∷ xs) ys a b = (a.0, each-append (advance step s x) xs ys a.1 b)

  pub taking-none : (line : List ℕ) (n : ℕ) (m : M) → Taking line n m []
  taking-none line n m text = subst (λ (ls : List (List ℕ)). HoldsOfEach step holds (Going n text m) ls) (sym (whole_from-nil line)) tt

  pub taking-run : (line : List ℕ) (n : ℕ) (m : M) (run : List ℕ) → IsLine run → Taking line n m run
  taking-run line n m run is text = subst (λ (ls : List (List ℕ)). HoldsOfEach step holds (Going n text m) ls) (sym (whole_from-run line run is)) tt

  -- a newline, whose line the machine takes
  pub taking-line : (line given : List ℕ) (n : ℕ) (m : M) (b : ℕ) → nat_eq b 10 ≡ true → given ≡ line → holds m given → Taking line n m (b ∷ [])
  taking-line line given n m b newline same h text =
      subst (λ (ls : List (List ℕ)). HoldsOfEach step holds (Going n text m) ls) (sym (whole_from-end line b [] newline ∙ ap (λ (ls : List (List ℕ)). line ∷ ls) (whole_from-nil []))) (subst (λ (l : List ℕ). holds m l) same h, tt)

  -- behind bytes whose lines are taken
  pub taking-then : (l0 : List ℕ) (n0 : ℕ) (m0 : M) (h0 : Option (List ℕ)) (a l1 : List ℕ) (n1 : ℕ) (m1 : M) (h1 : Option (List ℕ)) (b : List ℕ) → Feeds step l0 n0 m0 h0 a Done l1 n1 m1 h1 → Taking l0 n0 m0 a → Taking l1 n1 m1 b → Taking l0 n0 m0 (a ++ b)
  taking-then l0 n0 m0 h0 a l1 n1 m1 h1 b f x y text =
      subst (λ (ls : List (List ℕ)). HoldsOfEach step holds (Going n0 text m0) ls) (sym (whole_from-append l0 a b))
      (each-append (Going n0 text m0) (whole_from l0 a) (whole_from (rest_from l0 a) b) (x text)
      (subst (λ (s : Stage M). HoldsOfEach step holds s (whole_from (rest_from l0 a) b)) (sym (f.told.0 text))
      (subst (λ (l : List ℕ). HoldsOfEach step holds (Going n1 (text ++ f.added) m1) (whole_from l b)) f.told.1 (y (text ++ f.added)))))

  -- a loop over a piece takes its next bytes
  pub taking-next : (l0 : List ℕ) (n0 : ℕ) (m0 : M) (h0 : Option (List ℕ)) (piece : List ℕ) (at end : ℕ) (part l1 : List ℕ) (n1 : ℕ) (m1 : M) (h1 : Option (List ℕ)) → part ≡ take end (drop at piece) → Feeds step l0 n0 m0 h0 (take at piece) Done l1 n1 m1 h1 → Taking l0 n0 m0 (take at piece) → Taking l1 n1 m1 part → Taking l0 n0 m0 (take (at + end) piece)
  taking-next l0 n0 m0 h0 piece at end part l1 n1 m1 h1 e f x y =
      subst (λ (bs : List ℕ). Taking l0 n0 m0 bs) (ap (λ (p : List ℕ). take at piece ++ p) e ∙ sym (take-add at end piece)) (taking-then l0 n0 m0 h0 (take at piece) l1 n1 m1 h1 part f x y)

  -- ---- a last line

  pub taking-last : (line given : List ℕ) (n : ℕ) (m : M) → given ≡ line → holds m given → (text : List ℕ) → HoldsOfEach step holds (Going n text m) (last_line line)
  taking-last [] given n m same h text = tt
  taking-last (b ∷ line) given n m same h text = (subst (λ (l : List ℕ). holds m l) same h, tt)

  pub taking-no_last : (line : List ℕ) (n : ℕ) (m : M) → length line ≡ 0 → (text : List ℕ) → HoldsOfEach step holds (Going n text m) (last_line line)
  taking-no_last [] n m none text = tt
  taking-no_last (b ∷ line) n m none text = absurd (omega (arith, none))

  -- ---- a whole call

  pub taking-piece : (m0 : M) (left0 left1 held0 held1 : Option (List ℕ)) (line : List ℕ) (n : ℕ) (m : M) (bytes : List ℕ) (reads : ReadsOn step m0 left0 left1 held0 held1 line n m) → HoldsOfEach step holds (Going 0 [] m0) (whole_from [] reads.taken) → Taking line n m bytes → HoldsOfEach step holds (Going 0 [] m0) (whole_from [] (reads.taken ++ bytes))
  taking-piece m0 left0 left1 held0 held1 line n m bytes reads x y =
      subst (λ (ls : List (List ℕ)). HoldsOfEach step holds (Going 0 [] m0) ls) (sym (whole_from-append [] reads.taken bytes))
      (each-append (Going 0 [] m0) (whole_from [] reads.taken) (whole_from (rest_from [] reads.taken) bytes) x
      (subst (λ (s : Stage M). HoldsOfEach step holds s (whole_from (rest_from [] reads.taken) bytes)) (sym reads.stands.played)
      (subst (λ (l : List ℕ). HoldsOfEach step holds (Going n reads.text m) (whole_from l bytes)) reads.stands.begun (y reads.text))))

  pub taking-all : (m0 : M) (left0 left1 left2 held0 held1 : Option (List ℕ)) (line : List ℕ) (n : ℕ) (m : M) (reads : ReadsOn step m0 left0 left1 held0 held1 line n m) → Keeps left1 left2 → IsAtEnd left2 → HoldsOfEach step holds (Going 0 [] m0) (whole_from [] reads.taken) → ((text : List ℕ) → HoldsOfEach step holds (Going n text m) (last_line line)) → (all : List ℕ) → left0 ≡ Some all → HoldsOfEach step holds (Going 0 [] m0) (lines_of all)
  taking-all m0 left0 left1 left2 held0 held1 line n m reads k e x y all is =
      subst (λ (bs : List ℕ). HoldsOfEach step holds (Going 0 [] m0) (lines_of bs)) (sym (all-taken step m0 left0 left1 left2 held0 held1 line n m reads k e all is))
      (each-append (Going 0 [] m0) (whole_from [] reads.taken) (last_line (rest_from [] reads.taken)) x
      (subst (λ (s : Stage M). HoldsOfEach step holds s (last_line (rest_from [] reads.taken))) (sym reads.stands.played)
      (subst (λ (l : List ℕ). HoldsOfEach step holds (Going n reads.text m) (last_line l)) reads.stands.begun (y reads.text))))
