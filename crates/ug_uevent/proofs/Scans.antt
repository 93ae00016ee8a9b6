-- Whether a message ends among some bytes.
use Rattle.std.proofs.Common.{◌≡◌, ◌≢◌, inl, inr, ℕ, ◌+◌, ◌<◌, List, [], ◌∷◌, ◌++◌, length, length-append, flat_map, Bool, true, false, cond, nat_eq, Option, Some, None, refl, sym, ◌∙◌, ap, append_assoc, arith}
use Rattle.std.specs.Prelude.{◌&&◌}
use Rattle.std.proofs.lemmas.List.{append-nil}
use Rattle.std.proofs.lemmas.Option.{none-some, same_Some}
use Rattle.ug_types.specs.Elements.{Has}
use Rattle.ug_uevent.specs.Streams.{Partial, Overlong, TooLong, stream_of, AreTexts, with_zero, HasNoEnd}
use Rattle.ug_uevent.proofs.Cuts.{tested}
use Rattle.ug_uevent.proofs.Pieces.{grows, too_long}

-- whether a string begins behind the bytes; none where a message ends among them
abbrev pub scan : Bool → List ℕ → Option Bool
scan fresh [] = Some fresh
scan fresh (b ∷ bytes) = cond (nat_eq b 0 && fresh) None (scan (nat_eq b 0) bytes)

abbrev pub is_nil : List ℕ → Bool
is_nil [] = true
is_nil (b ∷ bytes) = false

-- a byte of a string
scan_byte : (fresh : Bool) (b : ℕ) (more : List ℕ) → (b ≡ 0 → ⊥) → scan fresh (b ∷ more) ≡ scan false more
scan_byte fresh b more h = ap (λ (v : Bool). cond (v && fresh) None (scan v more)) (tested b 0 h)

scan_text : (fresh : Bool) (text more : List ℕ) → ¬ Has text 0 → scan fresh (text ++ more) ≡ scan (fresh && is_nil text) more
scan_text true [] more h = refl
scan_text false [] more h = refl
scan_text fresh (b ∷ text) more h =
    let none : (fresh && false) ≡ false = no fresh in
    scan_byte fresh b (text ++ more) (λ e. h (inl e)) ∙ scan_text false text more (λ m. h (inr m)) ∙ ap (λ (v : Bool). scan v more) (sym none)
  where
    no : (v : Bool) → (v && false) ≡ false
    no true = refl
    no false = refl

scan_string : (text more : List ℕ) → text ≢ [] → ¬ Has text 0 → scan true (with_zero text ++ more) ≡ scan true more
scan_string [] more f h = absurd (f refl)
scan_string (b ∷ text) more f h = ap (scan true) (append_assoc (b ∷ text) (0 ∷ []) more) ∙ scan_text true (b ∷ text) (0 ∷ more) h

scan_strings : (strings : List (List ℕ)) (more : List ℕ) → AreTexts strings → scan true (flat_map with_zero strings ++ more) ≡ scan true more
scan_strings [] more h = refl
scan_strings (text ∷ strings) more h =
    ap (scan true) (append_assoc (with_zero text) (flat_map with_zero strings) more)
    ∙ scan_string text (flat_map with_zero strings ++ more) h.0 h.1 ∙ scan_strings strings more h.2

pub no_end : (bytes last : List ℕ) → HasNoEnd bytes last → scan true bytes ≡ Some (is_nil last)
no_end bytes last h =
    ap (scan true) h.is ∙ scan_strings h.strings last h.each ∙ ap (scan true) (sym (append-nil last)) ∙ scan_text true last [] h.last_open

-- bytes without an end go onto the message
going : (fresh : Bool) (b : ℕ) (bytes : List ℕ) (later : Bool) → scan fresh (b ∷ bytes) ≡ Some later
    → ((nat_eq b 0 && fresh) ≡ false) × (scan (nat_eq b 0) bytes ≡ Some later)
going fresh b bytes later e = by (nat_eq b 0 && fresh) refl e
  where
    by : (v : Bool) → (nat_eq b 0 && fresh) ≡ v → cond v None (scan (nat_eq b 0) bytes) ≡ Some later → ((nat_eq b 0 && fresh) ≡ false) × (scan (nat_eq b 0) bytes ≡ Some later)
    by true k f = absurd (none-some later f)
    by false k f = (k, f)

pub through : (m : List ℕ) (fresh later : Bool) (bytes more : List ℕ) → scan fresh bytes ≡ Some later → length m + length bytes < 8192
    → stream_of (Partial m fresh) (bytes ++ more) ≡ stream_of (Partial (m ++ bytes) later) more
through m fresh later [] more e l =
    ap (λ (t : List ℕ). stream_of (Partial t fresh) more) (sym (append-nil m)) ∙ ap (λ (v : Bool). stream_of (Partial (m ++ []) v) more) (same_Some fresh later e)
through m fresh later (b ∷ bytes) more e l =
    let g = going fresh b bytes later e in
    grows m fresh b (bytes ++ more) g.0 (omega arith)
    ∙ through (m ++ b ∷ []) (nat_eq b 0) later bytes more g.1 (omega (arith, length-append m (b ∷ [])))
    ∙ ap (λ (t : List ℕ). stream_of (Partial t later) more) (append_assoc m (b ∷ []) bytes)

pub overruns : (m : List ℕ) (fresh later : Bool) (bytes more : List ℕ) → scan fresh bytes ≡ Some later → length m < 8192 → length m + length bytes ≡ 8192
    → stream_of (Partial m fresh) (bytes ++ more) ≡ record { messages = TooLong ∷ []; begun = Overlong }
overruns m fresh later [] more e s l = absurd (omega (arith, s, l))
overruns m fresh later (b ∷ []) more e s l =
    let g = going fresh b [] later e in
    too_long m fresh b more g.0 (omega arith)
overruns m fresh later (b ∷ c ∷ bytes) more e s l =
    let g = going fresh b (c ∷ bytes) later e in
    grows m fresh b ((c ∷ bytes) ++ more) g.0 (omega arith)
    ∙ overruns (m ++ b ∷ []) (nat_eq b 0) later (c ∷ bytes) more g.1 (omega (arith, length-append m (b ∷ []))) (omega (arith, length-append m (b ∷ [])))
