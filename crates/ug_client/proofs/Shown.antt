-- Notices that were shown.
use Rattle.std.proofs.Common.{◌≡◌, ℕ, ◌+◌, ◌-◌, ◌<◌, ◌≤◌, List, [], ◌∷◌, ◌++◌, length, take, drop, Option, refl, sym, ap, subst, ◌∙◌, append_assoc, length-append, length-take, length-drop, arith}
use Rattle.std.proofs.lemmas.List.{take-append-drop}
use Rattle.std.proofs.Math.Seq.{drop-drop, take-append_seam}
use Rattle.std.proofs.KnownBytes.{Appends-nil, Appends-trans}
use Rattle.std.specs.Io.KnownBytes.{Appends}
use Rattle.ug_types.specs.Ends.{Puts}
use Rattle.ug_types.specs.declared.sink.Put.TheVariants as put
use Rattle.ug_types.specs.Elements.{Has}
use Rattle.ug_types.proofs.Elements.{has_left}
use Rattle.ug_proto.specs.Replies.{ended_lines}
use Rattle.ug_client.specs.Answers.{IsNotice}
use Rattle.ug_client.specs.Watching.{IsShort, AreShort, IsNoNotice, Other, Overlong, IsShortThen, ShowsNotices, ShowsPart}

pub other_line : (bytes : List ℕ) (n : ℕ) → ¬ IsNotice (take n bytes) → ¬ Has (take n bytes) 10 → bytes ≡ take n bytes ++ 10 ∷ drop (n + 1) bytes → IsNoNotice bytes
other_line bytes n other h w = Other (take n bytes) (drop (n + 1) bytes) w h other

front_without : (a b : List ℕ) → ¬ Has (a ++ b) 10 → ¬ Has a 10
front_without a b h = λ k. h (has_left a b 10 k)

pub long_line : (bytes : List ℕ) (n : ℕ) → 65535 < n → n ≤ length bytes → ¬ Has (take n bytes) 10 → IsNoNotice bytes
long_line bytes n l m h =
    let front = take 65536 (take n bytes) in
    let no : ¬ Has front 10 = front_without front (drop 65536 (take n bytes)) (subst (λ (b : List ℕ). ¬ Has b 10) (sym (take-append-drop 65536 (take n bytes))) h) in
    Overlong front (drop 65536 (take n bytes) ++ drop n bytes)
    (sym (take-append-drop n bytes) ∙ (ap (λ (b : List ℕ). b ++ drop n bytes) (sym (take-append-drop 65536 (take n bytes))) ∙ append_assoc front (drop 65536 (take n bytes)) (drop n bytes)))
    no (omega (arith, length-take 65536 (take n bytes), length-take n bytes, l, m))

-- nothing shown yet
pub shows_none : (bytes : List ℕ) (room : ℕ) (held : Option (List ℕ)) → ShowsNotices bytes room held bytes room held
shows_none bytes room held = record { shown = []; each = tt; split = refl; count = omega arith; written = Appends-nil held }

ended_last : (ls : List (List ℕ)) (line : List ℕ) → ended_lines (ls ++ line ∷ []) ≡ ended_lines ls ++ (line ++ 10 ∷ [])
ended_last [] line = refl
ended_last (l ∷ ls) line = ap (λ (t : List ℕ). l ++ 10 ∷ t) (ended_last ls line) ∙ sym (append_assoc l (10 ∷ ended_lines ls) (line ++ 10 ∷ []))

short_last : (ls : List (List ℕ)) (line : List ℕ) → AreShort ls → IsShort line → AreShort (ls ++ line ∷ [])
short_last [] line each n = (n, tt)
short_last (l ∷ ls) line each n = (each.0, short_last ls line each.1 n)

-- the bytes of the next line
line_bytes : (bytes : List ℕ) (n : ℕ) (line rest : List ℕ) → n ≤ length bytes → rest ≡ drop n bytes → bytes ≡ line ++ 10 ∷ rest → take n bytes ≡ line ++ 10 ∷ []
line_bytes bytes n line rest l d w =
    let whole : bytes ≡ (line ++ 10 ∷ []) ++ rest = w ∙ sym (append_assoc line (10 ∷ []) rest) in
    let size : n ≡ length (line ++ 10 ∷ []) = omega (arith, l, ap (λ (b : List ℕ). length b) d, length-drop n bytes, ap (λ (b : List ℕ). length b) whole, length-append (line ++ 10 ∷ []) rest) in
    ap (λ (k : ℕ). take k bytes) size ∙ (ap (λ (b : List ℕ). take (length (line ++ 10 ∷ [])) b) whole ∙ take-append_seam (line ++ 10 ∷ []) rest)

pub shows_one : (bytes0 : List ℕ) (room0 : ℕ) (held0 : Option (List ℕ)) (at n room : ℕ) (held1 held2 : Option (List ℕ)) → ShowsNotices bytes0 room0 held0 (drop at bytes0) room held1 → 0 < room
    → n ≤ length (drop at bytes0) → IsShortThen (drop at bytes0) (drop n (drop at bytes0)) → Puts held1 held2 (take n (drop at bytes0)) put.Done → ShowsNotices bytes0 room0 held0 (drop (at + n) bytes0) (room - 1) held2
shows_one bytes0 room0 held0 at n room held1 held2 s r l t p =
    let rest = drop at bytes0 in
    let line : take n rest ≡ t.line ++ 10 ∷ [] = line_bytes rest n t.line (drop n rest) l refl t.whole in
    record {
      shown = s.shown ++ t.line ∷ [];
      each = short_last s.shown t.line s.each t.is;
      split = s.split ∙ (ap (λ (b : List ℕ). ended_lines s.shown ++ b) (t.whole ∙ sym (append_assoc t.line (10 ∷ []) (drop n rest))) ∙ (sym (append_assoc (ended_lines s.shown) (t.line ++ 10 ∷ []) (drop n rest)) ∙ (ap (λ (b : List ℕ). b ++ drop n rest) (sym (ended_last s.shown t.line)) ∙ ap (λ (b : List ℕ). ended_lines (s.shown ++ t.line ∷ []) ++ b) (drop-drop n at bytes0))));
      count = omega (arith, s.count, r, length-append s.shown (t.line ∷ []));
      written = subst (λ (b : List ℕ). Appends held0 held2 b) (ap (λ (b : List ℕ). ended_lines s.shown ++ b) line ∙ sym (ended_last s.shown t.line)) (Appends-trans held0 held1 held2 (ended_lines s.shown) (take n rest) s.written p);
    }

pub shows_part : (bytes0 : List ℕ) (room0 : ℕ) (held0 : Option (List ℕ)) (at n room : ℕ) (held1 held2 : Option (List ℕ)) → ShowsNotices bytes0 room0 held0 (drop at bytes0) room held1 → 0 < room
    → n ≤ length (drop at bytes0) → IsShortThen (drop at bytes0) (drop n (drop at bytes0)) → Puts held1 held2 (take n (drop at bytes0)) put.Failed → ShowsPart bytes0 room0 held0 held2
shows_part bytes0 room0 held0 at n room held1 held2 s r l t p =
    let rest = drop at bytes0 in
    let line : take n rest ≡ t.line ++ 10 ∷ [] = line_bytes rest n t.line (drop n rest) l refl t.whole in
    record {
      shown = s.shown ++ t.line ∷ [];
      each = short_last s.shown t.line s.each t.is;
      behind = drop n rest;
      split = s.split ∙ (ap (λ (b : List ℕ). ended_lines s.shown ++ b) (t.whole ∙ sym (append_assoc t.line (10 ∷ []) (drop n rest))) ∙ (sym (append_assoc (ended_lines s.shown) (t.line ++ 10 ∷ []) (drop n rest)) ∙ ap (λ (b : List ℕ). b ++ drop n rest) (sym (ended_last s.shown t.line))));
      few = omega (arith, s.count, r, length-append s.shown (t.line ∷ []));
      part = record {
        front = ended_lines s.shown ++ p.0;
        rest = p.1;
        whole = ended_last s.shown t.line ∙ (ap (λ (b : List ℕ). ended_lines s.shown ++ b) (sym line ∙ p.2) ∙ sym (append_assoc (ended_lines s.shown) p.0 p.1));
        appended = Appends-trans held0 held1 held2 (ended_lines s.shown) p.0 s.written p.3;
      };
    }
