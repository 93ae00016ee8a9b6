-- Lines of a text that are read from the left.
use Rattle.std.proofs.Common.{◌≡◌, ℕ, ◌+◌, List, [], ◌∷◌, ◌++◌, length, Result, Ok, Err, refl, sym, ap, subst, ◌∙◌, arith}
use Rattle.std.proofs.lemmas.List.{append-nil}
use Rattle.ug_types.specs.declared.text_fault.FileFault.{FileFault}
use Rattle.ug_types.specs.declared.text_fault.FileFault.TheVariants.{Bad, Memory}
use Rattle.ug_types.specs.declared.text_fault.TextFault.{TextFault}
use Rattle.ug_lines.specs.Lines.{lines_of}
use Rattle.ug_lines.specs.LineReading.{then_on, lines_read, LeadsTo, AllGood, NoLines, OneMore, IsFirstBadLine}
use Rattle.ug_lines.proofs.FirstLine.{nothing}

module _ {S : Type 0} (read : ℕ → S → List ℕ → Result S TextFault) where
  -- the first of the lines
  one_line : (number : ℕ) (state : S) (text line more : List ℕ) → lines_of text ≡ line ∷ lines_of more
      → lines_read read number state (lines_of text) ≡ then_on (read number state line) (λ next. lines_read read (number + 1) next (lines_of more))
  unfolding lines_read
  one_line number state text line more e = ap (lines_read read number state) e

  pub goes_on : (number : ℕ) (state after : S) (text line more : List ℕ) (all : Result S TextFault) → lines_of text ≡ line ∷ lines_of more
      → read number state line ≡ Ok after
      → lines_read read number state (lines_of text) ≡ all → lines_read read (number + 1) after (lines_of more) ≡ all
  goes_on number state after text line more all e h q =
      ap (λ r. then_on r (λ next. lines_read read (number + 1) next (lines_of more))) (sym h)
      ∙ sym (one_line number state text line more e) ∙ q

  pub stops : (number : ℕ) (state after last : S) (text line more : List ℕ) (all : Result S TextFault) (fault : FileFault) → lines_of text ≡ line ∷ lines_of more
      → LeadsTo (read number state line) (Err fault) after
      → lines_read read number state (lines_of text) ≡ all → LeadsTo all (Err fault) last
  stops number state after last text line more all Memory e h q = tt
  stops number state after last text line more all (Bad fault) e h q =
      sym q ∙ one_line number state text line more e
      ∙ ap (λ r. then_on r (λ next. lines_read read (number + 1) next (lines_of more))) h

  pub ends : (number : ℕ) (state : S) (text : List ℕ) (all : Result S TextFault) → length text ≡ 0 → lines_read read number state (lines_of text) ≡ all → all ≡ Ok state
  unfolding lines_read
  ends number state [] all h q = sym q ∙ ap (λ ls. lines_read read number state ls) (nothing [] refl)
  ends number state (b ∷ bytes) all h q = absurd (omega arith)

  same_ok : (a b : S) → ◌≡◌ {A = Result S TextFault} (Ok a) (Ok b) → a ≡ b
  same_ok a b h = let e : a ≡ b = cc in e

  -- good lines lead to where they are read
  good_front : (number : ℕ) (state last : S) (front behind : List (List ℕ)) → AllGood read number state front last
      → lines_read read number state (front ++ behind) ≡ lines_read read (number + length front) last behind
  unfolding lines_read
  good_front number state last [] behind (NoLines n s) =
      let still : number ≡ number + 0 = omega arith in
      ap (λ n. lines_read read n state behind) still
  good_front number state last (line ∷ lines) behind (OneMore n s next t l ls h k) =
      let more : number + 1 + length lines ≡ number + length (line ∷ lines) = omega arith in
      ap (λ r. then_on r (λ next. lines_read read (number + 1) next (lines ++ behind))) h
      ∙ good_front (number + 1) next last lines behind k
      ∙ ap (λ n. lines_read read n last behind) more

  good_read : (number : ℕ) (state last : S) (lines : List (List ℕ)) → AllGood read number state lines last → lines_read read number state lines ≡ Ok last
  unfolding lines_read
  good_read number state last lines h = ap (lines_read read number state) (sym (append-nil lines)) ∙ good_front number state last lines [] h

  read_good : (lines : List (List ℕ)) (number : ℕ) (state last : S) → lines_read read number state lines ≡ Ok last → AllGood read number state lines last
  unfolding lines_read
  read_good [] number state last h = subst (λ (s : S). AllGood read number state [] s) (same_ok state last h) (NoLines number state)
  read_good (line ∷ lines) number state last h = by (read number state line) refl (λ next k. read_good lines (number + 1) next last k) h
    where
      by : (r : Result S TextFault) → read number state line ≡ r → ((next : S) → lines_read read (number + 1) next lines ≡ Ok last → AllGood read (number + 1) next lines last)
          → then_on r (λ next. lines_read read (number + 1) next lines) ≡ Ok last → AllGood read number state (line ∷ lines) last
      by (Ok next) e f k = OneMore number state next last line lines e (f next k)
      by (Err fault) e f k = let none : ⊥ = cc in absurd none

  pub good_law : (number : ℕ) (state last : S) (lines : List (List ℕ)) → (lines_read read number state lines ≡ Ok last → AllGood read number state lines last) × (AllGood read number state lines last → lines_read read number state lines ≡ Ok last)
  good_law number state last lines = (read_good lines number state last, good_read number state last lines)

  bad_read : (number : ℕ) (state : S) (lines : List (List ℕ)) (fault : TextFault) → IsFirstBadLine read number state lines fault → lines_read read number state lines ≡ Err fault
  unfolding lines_read
  bad_read number state lines fault b =
      ap (lines_read read number state) b.split
      ∙ good_front number state b.state b.before (b.line ∷ b.behind) b.good
      ∙ ap (λ r. then_on r (λ next. lines_read read (number + length b.before + 1) next b.behind)) b.bad

  read_bad : (lines : List (List ℕ)) (number : ℕ) (state : S) (fault : TextFault) → lines_read read number state lines ≡ Err fault → IsFirstBadLine read number state lines fault
  unfolding lines_read
  read_bad [] number state fault h = let none : ⊥ = cc in absurd none
  read_bad (line ∷ lines) number state fault h = by (read number state line) refl (λ next k. read_bad lines (number + 1) next fault k) h
    where
      by : (r : Result S TextFault) → read number state line ≡ r → ((next : S) → lines_read read (number + 1) next lines ≡ Err fault → IsFirstBadLine read (number + 1) next lines fault)
          → then_on r (λ next. lines_read read (number + 1) next lines) ≡ Err fault → IsFirstBadLine read number state (line ∷ lines) fault
      by (Ok next) e f k =
          let b = f next k in
          let more : number + 1 + length b.before ≡ number + length (line ∷ b.before) = omega arith in
          record {
            before = line ∷ b.before;
            line = b.line;
            behind = b.behind;
            state = b.state;
            split = ap (λ (ls : List (List ℕ)). line ∷ ls) b.split;
            good = OneMore number state next b.state line b.before e b.good;
            bad = subst (λ (n : ℕ). read n b.state b.line ≡ Err fault) more b.bad;
          }
      by (Err found) e f k =
          let same : found ≡ fault = let e : found ≡ fault = cc in e in
          let still : number ≡ number + 0 = omega arith in
          record {
            before = [];
            line = line;
            behind = lines;
            state = state;
            split = refl;
            good = NoLines number state;
            bad = subst (λ (n : ℕ). read n state line ≡ Err fault) still (e ∙ ap Err same);
          }

  pub bad_law : (number : ℕ) (state : S) (lines : List (List ℕ)) (fault : TextFault) → (lines_read read number state lines ≡ Err fault → IsFirstBadLine read number state lines fault) × (IsFirstBadLine read number state lines fault → lines_read read number state lines ≡ Err fault)
  bad_law number state lines fault = (read_bad lines number state fault, bad_read number state lines fault)
