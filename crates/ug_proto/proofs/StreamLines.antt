-- The lines of a stream are the only ones that it splits into.
use Rattle.std.proofs.Common.{◌≡◌, inl, inr, ℕ, ◌+◌, ◌<◌, ◌≤◌, List, [], ◌∷◌, ◌++◌, length, length-append, flat_map, Bool, true, false, nat_eq, nat_lt, if◌then◌else◌, refl, sym, ◌∙◌, ap, subst, append_assoc, arith}
use Rattle.std.proofs.lemmas.Bool.Decides.{nat_tests}
use Rattle.std.proofs.lemmas.List.{append-nil}
use Rattle.ug_types.specs.Elements.{Has}
use Rattle.ug_proto.specs.Lines.{Begun, Partial, Overlong, longer, begun_then, line_then, begun_after, lines_ended_in, stream_lines, IsBeginning, AreShortLines, with_newline, IsCutInto, IsOverlong}
use Rattle.ug_proto.proofs.Pieces.{no_lines, stays_overlong}

is_newline : (b : ℕ) → nat_eq b 10 ≡ true → b ≡ 10
is_newline b e = grind (arith, nat_tests)

not_newline : (b : ℕ) → nat_eq b 10 ≡ false → b ≡ 10 → ⊥
not_newline b e = λ k. grind (arith, nat_tests)

tested : (b : ℕ) → (b ≡ 10 → ⊥) → nat_eq b 10 ≡ false
tested b k = grind (arith, nat_tests)

below : (n : ℕ) → nat_lt n 65535 ≡ true → n < 65535
below n e = grind (arith, nat_tests)

above : (n : ℕ) → nat_lt n 65535 ≡ false → 65535 ≤ n
above n e = grind (arith, nat_tests)

is_below : (n : ℕ) → n < 65535 → nat_lt n 65535 ≡ true
is_below n e = grind (arith, nat_tests)

one_more : (line : List ℕ) (b : ℕ) → ¬ Has line 10 → (b ≡ 10 → ⊥) → ¬ Has (line ++ b ∷ []) 10
one_more [] b h k = λ m. elim m [ inl e ↦ k e | inr f ↦ f ]
one_more (c ∷ line) b h k = (λ m. elim m [ inl e ↦ h (inl e) | inr f ↦ one_more line b (λ g. h (inr g)) k f ])

longer_beginning : (line : List ℕ) (b : ℕ) → IsBeginning line → (b ≡ 10 → ⊥) → length line < 65535 → IsBeginning (line ++ b ∷ [])
longer_beginning line b h k l = record { one_line = one_more line b h.one_line k; short = omega (arith, length-append line (b ∷ [])) }

nothing : IsBeginning []
nothing = record { one_line = λ h. h; short = omega arith }

-- after a newline
newline_then : (line : List ℕ) (b : ℕ) → nat_eq b 10 ≡ true → begun_then (Partial line) b ≡ Partial []
newline_then line b e = ap (λ (v : Bool). if v then Partial [] else longer line b) e

newline_ends : (line : List ℕ) (b : ℕ) → nat_eq b 10 ≡ true → line_then (Partial line) b ≡ line ∷ []
newline_ends line b e = ap (λ (v : Bool). if v then line ∷ [] else []) e

-- after another byte
other_then : (line : List ℕ) (b : ℕ) → nat_eq b 10 ≡ false → begun_then (Partial line) b ≡ longer line b
other_then line b e = ap (λ (v : Bool). if v then Partial [] else longer line b) e

other_ends : (line : List ℕ) (b : ℕ) → nat_eq b 10 ≡ false → line_then (Partial line) b ≡ []
other_ends line b e = ap (λ (v : Bool). if v then line ∷ [] else []) e

longer_goes : (line : List ℕ) (b : ℕ) → nat_lt (length line) 65535 ≡ true → longer line b ≡ Partial (line ++ b ∷ [])
longer_goes line b e = ap (λ (v : Bool). if v then Partial (line ++ b ∷ []) else Overlong) e

longer_ends : (line : List ℕ) (b : ℕ) → nat_lt (length line) 65535 ≡ false → longer line b ≡ Overlong
longer_ends line b e = ap (λ (v : Bool). if v then Partial (line ++ b ∷ []) else Overlong) e

-- the lines from a byte on, by what it leaves
lines_by : (line : List ℕ) (b : ℕ) (bytes : List ℕ) (l : List (List ℕ)) (m : Begun) → line_then (Partial line) b ≡ l → begun_then (Partial line) b ≡ m → lines_ended_in (Partial line) (b ∷ bytes) ≡ l ++ lines_ended_in m bytes
lines_by line b bytes l m e k = ap (λ (t : List (List ℕ)). t ++ lines_ended_in (begun_then (Partial line) b) bytes) e ∙ ap (λ (t : Begun). l ++ lines_ended_in t bytes) k

record Reads (line bytes rest : List ℕ) : Type 0 where
  whole : line ++ bytes ≡ flat_map with_newline (lines_ended_in (Partial line) bytes) ++ rest
  each : AreShortLines (lines_ended_in (Partial line) bytes)
  partial : IsBeginning rest

after_newline : (line : List ℕ) (b : ℕ) (bytes rest : List ℕ) → IsBeginning line → nat_eq b 10 ≡ true → Reads [] bytes rest → Reads line (b ∷ bytes) rest
after_newline line b bytes rest h e r =
    let ls : lines_ended_in (Partial line) (b ∷ bytes) ≡ line ∷ lines_ended_in (Partial []) bytes = lines_by line b bytes (line ∷ []) (Partial []) (newline_ends line b e) (newline_then line b e) in
    let at : line ++ (10 ∷ bytes) ≡ (with_newline line ++ flat_map with_newline (lines_ended_in (Partial []) bytes)) ++ rest = ap (λ (t : List ℕ). line ++ (10 ∷ t)) r.whole ∙ sym (append_assoc line (10 ∷ []) (flat_map with_newline (lines_ended_in (Partial []) bytes) ++ rest)) ∙ sym (append_assoc (with_newline line) (flat_map with_newline (lines_ended_in (Partial []) bytes)) rest) in
    record {
      whole = ap (λ (c : ℕ). line ++ (c ∷ bytes)) (is_newline b e) ∙ at ∙ ap (λ (t : List (List ℕ)). flat_map with_newline t ++ rest) (sym ls);
      each = subst AreShortLines (sym ls) (h, r.each);
      partial = r.partial;
    }

after_other : (line : List ℕ) (b : ℕ) (bytes rest : List ℕ) → nat_eq b 10 ≡ false → nat_lt (length line) 65535 ≡ true → Reads (line ++ b ∷ []) bytes rest → Reads line (b ∷ bytes) rest
after_other line b bytes rest e l r =
    let ls : lines_ended_in (Partial line) (b ∷ bytes) ≡ lines_ended_in (Partial (line ++ b ∷ [])) bytes = lines_by line b bytes [] (Partial (line ++ b ∷ [])) (other_ends line b e) (other_then line b e ∙ longer_goes line b l) in
    record {
      whole = sym (append_assoc line (b ∷ []) bytes) ∙ r.whole ∙ ap (λ (t : List (List ℕ)). flat_map with_newline t ++ rest) (sym ls);
      each = subst AreShortLines (sym ls) r.each;
      partial = r.partial;
    }

reads : (line bytes rest : List ℕ) → IsBeginning line → begun_after (Partial line) bytes ≡ Partial rest → Reads line bytes rest
reads line [] rest h e =
    let same : line ≡ rest = cc in
    record { whole = append-nil line ∙ same; each = tt; partial = subst IsBeginning same h }
reads line (b ∷ bytes) rest h e =
    let T : Bool → Type 0 = λ v. nat_eq b 10 ≡ v → Reads line (b ∷ bytes) rest in
    let f : (v : Bool) → T v = λ v. elim v as T [
      | true ↦ λ k. after_newline line b bytes rest h k (reads [] bytes rest nothing (ap (λ (m : Begun). begun_after m bytes) (sym (newline_then line b k)) ∙ e))
      | false ↦ λ k.
          let U : Bool → Type 0 = λ v. nat_lt (length line) 65535 ≡ v → Reads line (b ∷ bytes) rest in
          let g : (v : Bool) → U v = λ v. elim v as U [
            | true ↦ λ l. after_other line b bytes rest k l (reads (line ++ b ∷ []) bytes rest (longer_beginning line b h (not_newline b k) (below (length line) l)) (ap (λ (m : Begun). begun_after m bytes) (sym (other_then line b k ∙ longer_goes line b l)) ∙ e))
            | false ↦ λ l.
                let over : Overlong ≡ Partial rest = sym (stays_overlong bytes) ∙ ap (λ (m : Begun). begun_after m bytes) (sym (other_then line b k ∙ longer_ends line b l)) ∙ e in
                let none : ⊥ = cc in absurd none
          ] in
          g (nat_lt (length line) 65535) refl
    ] in
    f (nat_eq b 10) refl

pub splits : (bytes rest : List ℕ) → begun_after (Partial []) bytes ≡ Partial rest → IsCutInto bytes (stream_lines bytes) rest
splits bytes rest e = let r = reads [] bytes rest nothing e in record { whole = r.whole; each = r.each; partial = r.partial }

record Overruns (line bytes : List ℕ) : Type 0 where
  front : List ℕ
  behind : List ℕ
  whole : line ++ bytes ≡ flat_map with_newline (lines_ended_in (Partial line) bytes) ++ (front ++ behind)
  each : AreShortLines (lines_ended_in (Partial line) bytes)
  one_line : ¬ Has front 10
  long : length front ≡ 65536

over_newline : (line : List ℕ) (b : ℕ) (bytes : List ℕ) → IsBeginning line → nat_eq b 10 ≡ true → Overruns [] bytes → Overruns line (b ∷ bytes)
over_newline line b bytes h e r =
    let rest = r.front ++ r.behind in
    let ls : lines_ended_in (Partial line) (b ∷ bytes) ≡ line ∷ lines_ended_in (Partial []) bytes = lines_by line b bytes (line ∷ []) (Partial []) (newline_ends line b e) (newline_then line b e) in
    let at : line ++ (10 ∷ bytes) ≡ (with_newline line ++ flat_map with_newline (lines_ended_in (Partial []) bytes)) ++ rest = ap (λ (t : List ℕ). line ++ (10 ∷ t)) r.whole ∙ sym (append_assoc line (10 ∷ []) (flat_map with_newline (lines_ended_in (Partial []) bytes) ++ rest)) ∙ sym (append_assoc (with_newline line) (flat_map with_newline (lines_ended_in (Partial []) bytes)) rest) in
    record {
      front = r.front;
      behind = r.behind;
      whole = ap (λ (c : ℕ). line ++ (c ∷ bytes)) (is_newline b e) ∙ at ∙ ap (λ (t : List (List ℕ)). flat_map with_newline t ++ rest) (sym ls);
      each = subst AreShortLines (sym ls) (h, r.each);
      one_line = r.one_line;
      long = r.long;
    }

over_other : (line : List ℕ) (b : ℕ) (bytes : List ℕ) → nat_eq b 10 ≡ false → nat_lt (length line) 65535 ≡ true → Overruns (line ++ b ∷ []) bytes → Overruns line (b ∷ bytes)
over_other line b bytes e l r =
    let rest = r.front ++ r.behind in
    let ls : lines_ended_in (Partial line) (b ∷ bytes) ≡ lines_ended_in (Partial (line ++ b ∷ [])) bytes = lines_by line b bytes [] (Partial (line ++ b ∷ [])) (other_ends line b e) (other_then line b e ∙ longer_goes line b l) in
    record {
      front = r.front;
      behind = r.behind;
      whole = sym (append_assoc line (b ∷ []) bytes) ∙ r.whole ∙ ap (λ (t : List (List ℕ)). flat_map with_newline t ++ rest) (sym ls);
      each = subst AreShortLines (sym ls) r.each;
      one_line = r.one_line;
      long = r.long;
    }

over_here : (line : List ℕ) (b : ℕ) (bytes : List ℕ) → IsBeginning line → nat_eq b 10 ≡ false → nat_lt (length line) 65535 ≡ false → Overruns line (b ∷ bytes)
over_here line b bytes h e l =
    let ls : lines_ended_in (Partial line) (b ∷ bytes) ≡ [] = lines_by line b bytes [] Overlong (other_ends line b e) (other_then line b e ∙ longer_ends line b l) ∙ no_lines bytes in
    let long : 65535 ≤ length line = above (length line) l in
    record {
      front = line ++ b ∷ [];
      behind = bytes;
      whole = sym (append_assoc line (b ∷ []) bytes) ∙ ap (λ (t : List (List ℕ)). flat_map with_newline t ++ ((line ++ b ∷ []) ++ bytes)) (sym ls);
      each = subst AreShortLines (sym ls) tt;
      one_line = one_more line b h.one_line (not_newline b e);
      long = omega (arith, length-append line (b ∷ []), h.short);
    }

overruns : (line bytes : List ℕ) → IsBeginning line → begun_after (Partial line) bytes ≡ Overlong → Overruns line bytes
overruns line [] h e = let none : ⊥ = cc in absurd none
overruns line (b ∷ bytes) h e =
    let T : Bool → Type 0 = λ v. nat_eq b 10 ≡ v → Overruns line (b ∷ bytes) in
    let f : (v : Bool) → T v = λ v. elim v as T [
      | true ↦ λ k. over_newline line b bytes h k (overruns [] bytes nothing (ap (λ (m : Begun). begun_after m bytes) (sym (newline_then line b k)) ∙ e))
      | false ↦ λ k.
          let U : Bool → Type 0 = λ v. nat_lt (length line) 65535 ≡ v → Overruns line (b ∷ bytes) in
          let g : (v : Bool) → U v = λ v. elim v as U [
            | true ↦ λ l. over_other line b bytes k l (overruns (line ++ b ∷ []) bytes (longer_beginning line b h (not_newline b k) (below (length line) l)) (ap (λ (m : Begun). begun_after m bytes) (sym (other_then line b k ∙ longer_goes line b l)) ∙ e))
            | false ↦ λ l. over_here line b bytes h k l
          ] in
          g (nat_lt (length line) 65535) refl
    ] in
    f (nat_eq b 10) refl

pub is_overlong : (bytes : List ℕ) → begun_after (Partial []) bytes ≡ Overlong → IsOverlong bytes (stream_lines bytes)
is_overlong bytes e = let r = overruns [] bytes nothing e in record { front = r.front; behind = r.behind; whole = r.whole; each = r.each; one_line = r.one_line; long = r.long }

-- bytes without a newline go onto the line
through : (line l more : List ℕ) → ¬ Has l 10 → length line + length l < 65536 → lines_ended_in (Partial line) (l ++ more) ≡ lines_ended_in (Partial (line ++ l)) more
through line [] more h s = ap (λ (t : List ℕ). lines_ended_in (Partial t) more) (sym (append-nil line))
through line (b ∷ l) more h s =
    let e : nat_eq b 10 ≡ false = tested b (λ m. h (inl m)) in
    let k : nat_lt (length line) 65535 ≡ true = is_below (length line) (omega arith) in
    lines_by line b (l ++ more) [] (Partial (line ++ b ∷ [])) (other_ends line b e) (other_then line b e ∙ longer_goes line b k)
    ∙ through (line ++ b ∷ []) l more (λ m. h (inr m)) (omega (arith, length-append line (b ∷ [])))
    ∙ ap (λ (t : List ℕ). lines_ended_in (Partial t) more) (append_assoc line (b ∷ []) l)

through_begun : (line l more : List ℕ) → ¬ Has l 10 → length line + length l < 65536 → begun_after (Partial line) (l ++ more) ≡ begun_after (Partial (line ++ l)) more
through_begun line [] more h s = ap (λ (t : List ℕ). begun_after (Partial t) more) (sym (append-nil line))
through_begun line (b ∷ l) more h s =
    let e : nat_eq b 10 ≡ false = tested b (λ m. h (inl m)) in
    let k : nat_lt (length line) 65535 ≡ true = is_below (length line) (omega arith) in
    ap (λ (m : Begun). begun_after m (l ++ more)) (other_then line b e ∙ longer_goes line b k)
    ∙ through_begun (line ++ b ∷ []) l more (λ m. h (inr m)) (omega (arith, length-append line (b ∷ [])))
    ∙ ap (λ (t : List ℕ). begun_after (Partial t) more) (append_assoc line (b ∷ []) l)

split_lines : (lines : List (List ℕ)) (rest : List ℕ) → AreShortLines lines → IsBeginning rest
    → (begun_after (Partial []) (flat_map with_newline lines ++ rest) ≡ Partial rest) × (stream_lines (flat_map with_newline lines ++ rest) ≡ lines)
split_lines [] rest h k = (
  ap (begun_after (Partial [])) (sym (append-nil rest)) ∙ through_begun [] rest [] k.one_line (omega (arith, k.short)),
  ap stream_lines (sym (append-nil rest)) ∙ through [] rest [] k.one_line (omega (arith, k.short)),
)
split_lines (line ∷ lines) rest h k =
    let more = flat_map with_newline lines ++ rest in
    let whole : (with_newline line ++ flat_map with_newline lines) ++ rest ≡ line ++ (10 ∷ more) = append_assoc (with_newline line) (flat_map with_newline lines) rest ∙ append_assoc line (10 ∷ []) more in
    let r = split_lines lines rest h.1 k in (
      ap (begun_after (Partial [])) whole ∙ through_begun [] line (10 ∷ more) h.0.one_line (omega (arith, h.0.short)) ∙ r.0,
      ap stream_lines whole ∙ through [] line (10 ∷ more) h.0.one_line (omega (arith, h.0.short)) ∙ ap (λ (t : List (List ℕ)). line ∷ t) r.1,
    )

pub splits_only : (bytes rest : List ℕ) (lines : List (List ℕ)) → IsCutInto bytes lines rest → (begun_after (Partial []) bytes ≡ Partial rest) × (lines ≡ stream_lines bytes)
splits_only bytes rest lines s =
    let r = split_lines lines rest s.each s.partial in
    (ap (begun_after (Partial [])) s.whole ∙ r.0, sym (ap stream_lines s.whole ∙ r.1))

-- a line that is too long ends the lines
too_long : (line l more : List ℕ) → ¬ Has l 10 → length line < 65536 → length line + length l ≡ 65536 → (begun_after (Partial line) (l ++ more) ≡ Overlong) × (lines_ended_in (Partial line) (l ++ more) ≡ [])
too_long line [] more h s k = absurd (omega (arith, s, k))
too_long line (b ∷ l) more h s k = by (nat_lt (length line) 65535) refl (λ t. too_long (line ++ b ∷ []) l more (λ m. h (inr m)) (omega (arith, length-append line (b ∷ []), below (length line) t)) (omega (arith, length-append line (b ∷ []))))
  where
    e : nat_eq b 10 ≡ false
    e = tested b (λ m. h (inl m))

    Ends : List ℕ → List ℕ → Type 0
    Ends l bytes = (begun_after (Partial l) bytes ≡ Overlong) × (lines_ended_in (Partial l) bytes ≡ [])

    by : (v : Bool) → nat_lt (length line) 65535 ≡ v → (nat_lt (length line) 65535 ≡ true → Ends (line ++ b ∷ []) (l ++ more)) → Ends line (b ∷ (l ++ more))
    by true t f =
        let r = f t in (
          ap (λ (m : Begun). begun_after m (l ++ more)) (other_then line b e ∙ longer_goes line b t) ∙ r.0,
          lines_by line b (l ++ more) [] (Partial (line ++ b ∷ [])) (other_ends line b e) (other_then line b e ∙ longer_goes line b t) ∙ r.1,
        )
    by false t f = (
      ap (λ (m : Begun). begun_after m (l ++ more)) (other_then line b e ∙ longer_ends line b t) ∙ stays_overlong (l ++ more),
      lines_by line b (l ++ more) [] Overlong (other_ends line b e) (other_then line b e ∙ longer_ends line b t) ∙ no_lines (l ++ more),
    )

overlong_lines : (lines : List (List ℕ)) (front behind : List ℕ) → AreShortLines lines → ¬ Has front 10 → length front ≡ 65536
    → (begun_after (Partial []) (flat_map with_newline lines ++ (front ++ behind)) ≡ Overlong) × (stream_lines (flat_map with_newline lines ++ (front ++ behind)) ≡ lines)
overlong_lines [] front behind a h k = too_long [] front behind h (omega arith) (omega (arith, k))
overlong_lines (line ∷ lines) front behind a h k =
    let more = flat_map with_newline lines ++ (front ++ behind) in
    let whole : (with_newline line ++ flat_map with_newline lines) ++ (front ++ behind) ≡ line ++ (10 ∷ more) = append_assoc (with_newline line) (flat_map with_newline lines) (front ++ behind) ∙ append_assoc line (10 ∷ []) more in
    let r = overlong_lines lines front behind a.1 h k in (
      ap (begun_after (Partial [])) whole ∙ through_begun [] line (10 ∷ more) a.0.one_line (omega (arith, a.0.short)) ∙ r.0,
      ap stream_lines whole ∙ through [] line (10 ∷ more) a.0.one_line (omega (arith, a.0.short)) ∙ ap (λ (t : List (List ℕ)). line ∷ t) r.1,
    )

pub overlong_only : (bytes : List ℕ) (lines : List (List ℕ)) → IsOverlong bytes lines → (begun_after (Partial []) bytes ≡ Overlong) × (lines ≡ stream_lines bytes)
overlong_only bytes lines o =
    let r = overlong_lines lines o.front o.behind o.each o.one_line o.long in
    (ap (begun_after (Partial [])) o.whole ∙ r.0, sym (ap stream_lines o.whole ∙ r.1))
