-- A text is read as the entries of its lines, or has its first bad line's fault.
use Rattle.std.proofs.Common.{◌≡◌, ℕ, ◌+◌, ◌⊎◌, inl, inr, List, [], ◌∷◌, ◌++◌, length, map, fold, Result, Ok, Err, refl, sym, ap, subst, ◌∙◌, append_assoc, arith}
use Rattle.std.proofs.lemmas.List.{append-nil}
use Rattle.ug_types.proofs.Elements.{distinct_append}
use Rattle.ug_types.specs.Elements.{Has, AllDistinct}
use Rattle.ug_types.specs.declared.text_fault.Fault.{Fault}
use Rattle.ug_types.specs.declared.text_fault.TextFault.{TextFault}
use Rattle.ug_types.specs.TextFaults.{fault_in_line, fault_of_kind}
use Rattle.ug_lines.specs.Lines.{lines_of}
use Rattle.ug_lines.specs.LineReading.{lines_read, text_read, on_line, then_on}
use Rattle.ug_lines.specs.Entries.{AreEntries, IsFirstBad, IsSkippedLine}

-- keys that are distinct with those before
apart : {Q : Type 0} (seen : List Q) (key : Q) (more : List Q) → AllDistinct (seen ++ key ∷ more) → ¬ Has seen key
apart [] key more d h = h
apart {Q} (k ∷ seen) key more d (inl e) = d.0 (subst (λ (x : Q). Has (seen ++ key ∷ more) x) (sym e) (last seen))
  where
    last : (xs : List Q) → Has (xs ++ key ∷ more) key
    last [] = inl refl
    last (x ∷ xs) = inr (last xs)
apart (k ∷ seen) key more d (inr h) = apart seen key more d.1 h

one_more : {Q : Type 0} (seen : List Q) (key : Q) → AllDistinct seen → ¬ Has seen key → AllDistinct (seen ++ key ∷ [])
one_more {Q} seen key d n = distinct_append seen (key ∷ []) d (λ h. h, tt) (λ x a b. elim b [ inl e ↦ n (subst (λ (k : Q). Has seen k) (sym e) a) | inr none ↦ none ])

-- what a line is behind lines that have some keys: skipped, an entry under another key, or bad
pub data LineCase {E Q K : Type 0} (Gives : ℕ → List ℕ → E → Type 0) (key_of : E → Q) (IsBad : List Q → List ℕ → K → ℕ → Type 0) (number : ℕ) (seen : List Q) (line : List ℕ) : Type 0 where
  Skipped : IsSkippedLine line → LineCase Gives key_of IsBad number seen line
  HasEntry : (entry : E) → Gives number line entry → ¬ Has seen (key_of entry) → LineCase Gives key_of IsBad number seen line
  Bad : (kind : K) (place : ℕ) → IsBad seen line kind place → LineCase Gives key_of IsBad number seen line

-- how a line is read behind others: what it leads to, and the keys so far
pub record Reads {S E Q K : Type 0} (Gives : ℕ → List ℕ → E → Type 0) (key_of : E → Q) (IsBad : List Q → List ℕ → K → ℕ → Type 0)
    (keys_of : S → List Q) (after : S → E → S) (line_read : ℕ → S → List ℕ → Result S (Fault K)) : Type 0 where
  pub skipped : (number : ℕ) (s : S) (line : List ℕ) → IsSkippedLine line → line_read number s line ≡ Ok s
  pub entry : (number : ℕ) (s : S) (line : List ℕ) (e : E) → Gives number line e → ¬ Has (keys_of s) (key_of e) → line_read number s line ≡ Ok (after s e)
  pub bad : (number : ℕ) (s : S) (line : List ℕ) (kind : K) (place : ℕ) → IsBad (keys_of s) line kind place → line_read number s line ≡ Err (fault_of_kind kind place)
  pub keys : (s : S) (e : E) → keys_of (after s e) ≡ keys_of s ++ key_of e ∷ []
  pub cases : (number : ℕ) (seen : List Q) (line : List ℕ) → LineCase Gives key_of IsBad number seen line

module _ {S E Q K : Type 0} (Gives : ℕ → List ℕ → E → Type 0) (key_of : E → Q) (IsBad : List Q → List ℕ → K → ℕ → Type 0)
    (keys_of : S → List Q) (after : S → E → S) (line_read : ℕ → S → List ℕ → Result S (Fault K)) (number_of : K → ℕ)
    (r : Reads Gives key_of IsBad keys_of after line_read) where
  abbrev read : ℕ → S → List ℕ → Result S TextFault
  read number s line = on_line number_of number (line_read number s line)

  one_line : (number : ℕ) (s next : S) (line : List ℕ) (lines : List (List ℕ)) → line_read number s line ≡ Ok next → lines_read read number s (line ∷ lines) ≡ lines_read read (number + 1) next lines
  unfolding lines_read
  one_line number s next line lines e = ap (λ (o : Result S (Fault K)). then_on (on_line number_of number o) (λ more. lines_read read (number + 1) more lines)) e

  stopped : (number : ℕ) (s : S) (line : List ℕ) (lines : List (List ℕ)) (fault : Fault K) → line_read number s line ≡ Err fault → lines_read read number s (line ∷ lines) ≡ Err (fault_in_line number_of number fault)
  unfolding lines_read
  stopped number s line lines fault e = ap (λ (o : Result S (Fault K)). then_on (on_line number_of number o) (λ more. lines_read read (number + 1) more lines)) e

  -- the keys behind entries
  keys_behind : (entries : List E) (s : S) → keys_of (fold after s entries) ≡ keys_of s ++ map key_of entries
  keys_behind [] s = sym (append-nil (keys_of s))
  keys_behind (e ∷ entries) s =
      keys_behind entries (after s e)
      ∙ ap (λ (ks : List Q). ks ++ map key_of entries) (r.keys s e)
      ∙ append_assoc (keys_of s) (key_of e ∷ []) (map key_of entries)

  regrouped : (s : S) (e : E) (others : List E) → AllDistinct (keys_of s ++ key_of e ∷ map key_of others) → AllDistinct (keys_of (after s e) ++ map key_of others)
  regrouped s e others d =
      subst (λ (ks : List Q). AllDistinct ks) (sym (ap (λ (ks : List Q). ks ++ map key_of others) (r.keys s e) ∙ append_assoc (keys_of s) (key_of e ∷ []) (map key_of others))) d

  -- good lines are read, and what is behind them goes on from there
  entries_read : (lines behind : List (List ℕ)) (number : ℕ) (entries : List E) (s : S) → AreEntries Gives number lines entries → AllDistinct (keys_of s ++ map key_of entries)
      → lines_read read number s (lines ++ behind) ≡ lines_read read (number + length lines) (fold after s entries) behind
  entries_read [] behind number entries s h d =
      let still : number ≡ number + 0 = omega arith in
      let same : s ≡ fold after s entries = sym (ap (λ (es : List E). fold after s es) h) in
      ap (λ (n : ℕ). lines_read read n s behind) still ∙ ap (λ (t : S). lines_read read (number + 0) t behind) same
  entries_read (line ∷ lines) behind number entries s (inl h) d =
      let next : number + 1 + length lines ≡ number + length (line ∷ lines) = omega arith in
      one_line number s s line (lines ++ behind) (r.skipped number s line h.0)
      ∙ entries_read lines behind (number + 1) entries s h.1 d
      ∙ ap (λ (n : ℕ). lines_read read n (fold after s entries) behind) next
  entries_read (line ∷ lines) behind number entries s (inr h) d =
      let e : E = h.0 in
      let others : List E = h.1 in
      let same : entries ≡ e ∷ others = h.2 in
      let distinct : AllDistinct (keys_of s ++ key_of e ∷ map key_of others) = subst (λ (es : List E). AllDistinct (keys_of s ++ map key_of es)) same d in
      let next : number + 1 + length lines ≡ number + length (line ∷ lines) = omega arith in
      one_line number s (after s e) line (lines ++ behind) (r.entry number s line e h.3 (apart (keys_of s) (key_of e) (map key_of others) distinct))
      ∙ entries_read lines behind (number + 1) others (after s e) h.4 (regrouped s e others distinct)
      ∙ ap (λ (n : ℕ). lines_read read n (fold after s (e ∷ others)) behind) next
      ∙ ap (λ (es : List E). lines_read read (number + length (line ∷ lines)) (fold after s es) behind) (sym same)

  -- lines are good, or one of them is the first bad one
  record FirstBad (number : ℕ) (seen : List Q) (lines : List (List ℕ)) : Type 0 where
    pub before : List (List ℕ)
    pub line : List ℕ
    pub behind : List (List ℕ)
    pub entries : List E
    pub kind : K
    pub place : ℕ
    pub parts : lines ≡ before ++ line ∷ behind
    pub good : AreEntries Gives number before entries
    pub once : AllDistinct (seen ++ map key_of entries)
    pub bad : IsBad (seen ++ map key_of entries) line kind place

  abbrev Decided : ℕ → List Q → List (List ℕ) → Type 0
  Decided number seen lines = ((entries : List E) × AreEntries Gives number lines entries × AllDistinct (seen ++ map key_of entries)) ⊎ FirstBad number seen lines

  decide : (lines : List (List ℕ)) (number : ℕ) (seen : List Q) → AllDistinct seen → Decided number seen lines
  decide [] number seen d = inl ([], refl, subst (λ (ks : List Q). AllDistinct ks) (sym (append-nil seen)) d)
  decide (line ∷ lines) number seen d = by (r.cases number seen line) (λ more e. decide lines (number + 1) more e)
    where
      by : LineCase Gives key_of IsBad number seen line → ((more : List Q) → AllDistinct more → Decided (number + 1) more lines) → Decided number seen (line ∷ lines)
      by (Skipped h) f = elim (f seen d) [
        | inl g ↦ inl (g.0, inl (h, g.1), g.2)
        | inr b ↦ inr (record {
          before = line ∷ b.before;
          line = b.line;
          behind = b.behind;
          entries = b.entries;
          kind = b.kind;
          place = b.place;
          parts = ap (λ (ls : List (List ℕ)). line ∷ ls) b.parts;
          good = inl (h, b.good);
          once = b.once;
          bad = b.bad;
        })
      ]
      by (HasEntry e g n) f =
          let key : Q = key_of e in
          elim (f (seen ++ key ∷ []) (one_more seen key d n)) [
            | inl o ↦ inl (e ∷ o.0, inr (e, o.0, refl, g, o.1), subst (λ (ks : List Q). AllDistinct ks) (append_assoc seen (key ∷ []) (map key_of o.0)) o.2)
            | inr b ↦
                let keys : (seen ++ key ∷ []) ++ map key_of b.entries ≡ seen ++ key ∷ map key_of b.entries = append_assoc seen (key ∷ []) (map key_of b.entries) in
                inr (record {
                  before = line ∷ b.before;
                  line = b.line;
                  behind = b.behind;
                  entries = e ∷ b.entries;
                  kind = b.kind;
                  place = b.place;
                  parts = ap (λ (ls : List (List ℕ)). line ∷ ls) b.parts;
                  good = inr (e, b.entries, refl, g, b.good);
                  once = subst (λ (ks : List Q). AllDistinct ks) keys b.once;
                  bad = subst (λ (ks : List Q). IsBad ks b.line b.kind b.place) keys b.bad;
                })
          ]
      by (Bad kind place h) f = inr (record {
        before = [];
        line = line;
        behind = lines;
        entries = [];
        kind = kind;
        place = place;
        parts = refl;
        good = refl;
        once = subst (λ (ks : List Q). AllDistinct ks) (sym (append-nil seen)) d;
        bad = subst (λ (ks : List Q). IsBad ks line kind place) (sym (append-nil seen)) h;
      })

  -- where nothing was read before
  module _ (start : S) (none : keys_of start ≡ []) where
    from_none : (entries : List E) → map key_of entries ≡ keys_of start ++ map key_of entries
    from_none entries = sym (ap (λ (ks : List Q). ks ++ map key_of entries) none)

    pub good_text : (text : List ℕ) (entries : List E) → AreEntries Gives 1 (lines_of text) entries → AllDistinct (map key_of entries) → text_read read start text ≡ Ok (fold after start entries)
    unfolding lines_read
    good_text text entries h d =
        ap (lines_read read 1 start) (sym (append-nil (lines_of text)))
        ∙ entries_read (lines_of text) [] 1 entries start h (subst (λ (ks : List Q). AllDistinct ks) (from_none entries) d)

    pub bad_text : (text : List ℕ) (fault : TextFault) → IsFirstBad Gives key_of IsBad number_of text fault → text_read read start text ≡ Err fault
    bad_text text fault b =
        let s : S = fold after start b.entries in
        let number : 1 + length b.before ≡ fault.line = omega (arith, b.number) in
        let same : fault_in_line number_of (1 + length b.before) (fault_of_kind b.kind fault.place) ≡ fault = λ i. record { line = number i; kind = (sym b.kind_is) i; place = fault.place } in
        let keys : map key_of b.entries ≡ keys_of s = from_none b.entries ∙ sym (keys_behind b.entries start) in
        ap (lines_read read 1 start) b.lines
        ∙ entries_read b.before (b.line ∷ b.behind) 1 b.entries start b.good (subst (λ (ks : List Q). AllDistinct ks) (from_none b.entries) b.once)
        ∙ stopped (1 + length b.before) s b.line b.behind (fault_of_kind b.kind fault.place) (r.bad (1 + length b.before) s b.line b.kind fault.place (subst (λ (ks : List Q). IsBad ks b.line b.kind fault.place) keys b.bad))
        ∙ ap Err same

    pub some_text : (text : List ℕ) → ((entries : List E) × AreEntries Gives 1 (lines_of text) entries × AllDistinct (map key_of entries)) ⊎ ((fault : TextFault) × IsFirstBad Gives key_of IsBad number_of text fault)
    some_text text = by (decide (lines_of text) 1 [] tt)
      where
        by : Decided 1 [] (lines_of text) → ((entries : List E) × AreEntries Gives 1 (lines_of text) entries × AllDistinct (map key_of entries)) ⊎ ((fault : TextFault) × IsFirstBad Gives key_of IsBad number_of text fault)
        by (inl g) = inl g
        by (inr b) = inr (
          fault_in_line number_of (1 + length b.before) (fault_of_kind b.kind b.place),
          record {
            before = b.before;
            line = b.line;
            behind = b.behind;
            entries = b.entries;
            kind = b.kind;
            lines = b.parts;
            good = b.good;
            once = b.once;
            bad = b.bad;
            number = omega arith;
            kind_is = refl;
          },
        )
