-- A line's text is the one with no blanks about it.
use Rattle.std.proofs.Common.{◌≡◌, ℕ, inl, inr, Bool, true, false, nat_eq, List, [], ◌∷◌, ◌++◌, refl, sym, ap, subst, ◌∙◌, arith}
use Rattle.std.proofs.lemmas.Bool.{false≢true}
use Rattle.std.proofs.lemmas.Bool.Decides.{nat_tests}
use Rattle.std.proofs.lemmas.List.{append-nil}
use Rattle.ug_lines.specs.Blanks.{is_line_blank, without_front, before_end, without_end}
use Rattle.ug_lines.specs.Equations.{IsBlank, AreBlanks, BeginsBare, EndsBare, IsTextOf}

-- the test of blanks
pub blank : (b : ℕ) → IsBlank b → is_line_blank b ≡ true
blank b (inl e) = ap is_line_blank e
blank b (inr e) = ap is_line_blank e

pub is_blank_so : (b : ℕ) → is_line_blank b ≡ true → IsBlank b
is_blank_so b e = by (nat_eq b 32) (nat_eq b 9) refl refl e
  where
    by : (v w : Bool) → nat_eq b 32 ≡ v → nat_eq b 9 ≡ w → is_line_blank b ≡ true → IsBlank b
    by true w p q e = inl (grind (arith, nat_tests))
    by false true p q e = inr (grind (arith, nat_tests))
    by false false p q e = absurd (false≢true (sym (rw p (rw q refl)) ∙ e))

pub not_blank : (b : ℕ) → ¬ IsBlank b → is_line_blank b ≡ false
not_blank b h = by (is_line_blank b) refl
  where
    by : (v : Bool) → is_line_blank b ≡ v → is_line_blank b ≡ false
    by true e = absurd (h (is_blank_so b e))
    by false e = e

pub bare : (b : ℕ) → is_line_blank b ≡ false → ¬ IsBlank b
bare b e = λ h. false≢true (sym e ∙ blank b h)

-- blanks in front
pub front-blanks : (before rest : List ℕ) → AreBlanks before → without_front (before ++ rest) ≡ without_front rest
front-blanks [] rest h = refl
front-blanks (b ∷ before) rest h = rw (blank b h.0) (front-blanks before rest h.1)

pub front-bare : (text : List ℕ) → BeginsBare text → without_front text ≡ text
front-bare [] h = refl
front-bare (b ∷ bytes) h = rw (not_blank b h) refl

-- blanks behind
all-blanks : (behind : List ℕ) → AreBlanks behind → without_end behind ≡ []
all-blanks [] h = refl
all-blanks (b ∷ bytes) h = ap (before_end b) (all-blanks bytes h.1) ∙ rw (blank b h.0) refl

pub end-blanks : (text behind : List ℕ) → AreBlanks behind → without_end (text ++ behind) ≡ without_end text
end-blanks [] behind h = all-blanks behind h
end-blanks (b ∷ text) behind h = ap (before_end b) (end-blanks text behind h)

pub end-bare : (text : List ℕ) → EndsBare text → without_end text ≡ text
end-bare [] h = refl
end-bare (b ∷ []) h = rw (not_blank b (h [] b refl)) refl
end-bare (b ∷ c ∷ bytes) h = ap (before_end b) (end-bare (c ∷ bytes) (λ front d e. h (b ∷ front) d (ap (λ (l : List ℕ). b ∷ l) e)))

-- what is read of a line
pub text_read : (line text : List ℕ) → IsTextOf line text → without_end (without_front line) ≡ text
text_read line [] t =
    ap (λ (l : List ℕ). without_end (without_front l)) t.is
    ∙ ap without_end (front-blanks t.before t.behind t.before_blank ∙ sym (ap (λ (l : List ℕ). without_front l) (append-nil t.behind)) ∙ front-blanks t.behind [] t.behind_blank)
text_read line (b ∷ bytes) t =
    ap (λ (l : List ℕ). without_end (without_front l)) t.is
    ∙ ap without_end (front-blanks t.before (b ∷ (bytes ++ t.behind)) t.before_blank ∙ front-bare (b ∷ (bytes ++ t.behind)) t.begins)
    ∙ end-blanks (b ∷ bytes) t.behind t.behind_blank ∙ end-bare (b ∷ bytes) t.ends

-- a text parts into blanks and the rest
pub record Front (xs : List ℕ) : Type 0 where
  pub before : List ℕ
  pub is : xs ≡ before ++ without_front xs
  pub blanks : AreBlanks before
  pub begins : BeginsBare (without_front xs)

pub front : (xs : List ℕ) → Front xs
front [] = record { before = []; is = refl; blanks = tt; begins = tt }
front (b ∷ bytes) = by (is_line_blank b) refl (front bytes)
  where
    by : (v : Bool) → is_line_blank b ≡ v → Front bytes → Front (b ∷ bytes)
    by true e f = record {
      before = b ∷ f.before;
      is = rw e (ap (λ (l : List ℕ). b ∷ l) f.is);
      blanks = (is_blank_so b e, f.blanks);
      begins = rw e f.begins;
    }
    by false e f = record { before = []; is = rw e refl; blanks = tt; begins = rw e (bare b e) }

pub record End (xs : List ℕ) : Type 0 where
  pub behind : List ℕ
  pub is : xs ≡ without_end xs ++ behind
  pub blanks : AreBlanks behind
  pub ends : EndsBare (without_end xs)

-- a byte in front of what has no blanks behind
ends-more : (b c : ℕ) (bytes : List ℕ) → EndsBare (c ∷ bytes) → EndsBare (b ∷ c ∷ bytes)
ends-more b c bytes h [] d e = let none : ⊥ = cc in absurd none
ends-more b c bytes h (x ∷ front) d e = let rest : c ∷ bytes ≡ front ++ d ∷ [] = cc in h front d rest

ends-one : (b : ℕ) → is_line_blank b ≡ false → EndsBare (b ∷ [])
ends-one b n [] d e = let same : b ≡ d = cc in subst (λ (x : ℕ). ¬ IsBlank x) same (bare b n)
ends-one b n (x ∷ []) d e = let none : ⊥ = cc in absurd none
ends-one b n (x ∷ y ∷ front) d e = let none : ⊥ = cc in absurd none

ends-nil : EndsBare []
ends-nil [] d e = let none : ⊥ = cc in absurd none
ends-nil (x ∷ front) d e = let none : ⊥ = cc in absurd none

end_more : (b : ℕ) (bytes kept behind : List ℕ) → bytes ≡ kept ++ behind → AreBlanks behind → EndsBare kept → (behind' : List ℕ) × (b ∷ bytes ≡ before_end b kept ++ behind') × AreBlanks behind' × EndsBare (before_end b kept)
end_more b bytes [] behind e h k = by (is_line_blank b) refl
  where
    by : (v : Bool) → is_line_blank b ≡ v → (behind' : List ℕ) × (b ∷ bytes ≡ before_end b [] ++ behind') × AreBlanks behind' × EndsBare (before_end b [])
    by true n = (b ∷ behind, rw n (ap (λ (l : List ℕ). b ∷ l) e), (is_blank_so b n, h), rw n ends-nil)
    by false n = (behind, rw n (ap (λ (l : List ℕ). b ∷ l) e), h, rw n (ends-one b n))
end_more b bytes (c ∷ kept) behind e h k = (behind, ap (λ (l : List ℕ). b ∷ l) e, h, ends-more b c kept k)

pub end : (xs : List ℕ) → End xs
end [] = record { behind = []; is = refl; blanks = tt; ends = ends-nil }
end (b ∷ bytes) =
    let f : End bytes = end bytes in
    let m = end_more b bytes (without_end bytes) f.behind f.is f.blanks f.ends in
    record { behind = m.0; is = m.1; blanks = m.2; ends = m.3 }

end-begins : (xs : List ℕ) → BeginsBare xs → BeginsBare (without_end xs)
end-begins [] h = tt
end-begins (b ∷ bytes) h = by (without_end bytes) (not_blank b h)
  where
    by : (kept : List ℕ) → is_line_blank b ≡ false → BeginsBare (before_end b kept)
    by [] e = rw e h
    by (c ∷ kept) e = h

pub text_of : (line : List ℕ) → IsTextOf line (without_end (without_front line))
text_of line =
    let f : Front line = front line in
    let e : End (without_front line) = end (without_front line) in
    record {
      before = f.before;
      behind = e.behind;
      is = f.is ∙ ap (λ (l : List ℕ). f.before ++ l) e.is;
      before_blank = f.blanks;
      behind_blank = e.blanks;
      begins = end-begins (without_front line) f.begins;
      ends = e.ends;
    }
