-- A line is skipped, grants something, or is bad, and is read so.
use Rattle.std.proofs.Common.{◌≡◌, ℕ, ◌+◌, ◌-◌, ◌≤◌, ◌⊎◌, inl, inr, Bool, true, false, cond, List, [], ◌∷◌, ◌++◌, length, Option, Some, None, Result, Ok, Err, refl, sym, ap, subst, ◌∙◌, arith}
use Rattle.std.proofs.lemmas.Option.{none-some}
use Rattle.ug_types.specs.Access.{section_word, section_of}
use Rattle.ug_types.specs.Elements.{Has}
use Rattle.ug_types.proofs.AccessWords.{section_written, section_read as word_read}
use Rattle.ug_types.specs.declared.access.Section.{Section}
use Rattle.ug_lines.specs.Blanks.{without_front}
use Rattle.ug_lines.specs.Equations.{IsTextOf, IsSkipped, IsEquation}
use Rattle.ug_lines.proofs.Signs.{value_place}
use Rattle.ug_lines.specs.Cuts.{EquationCut, Skip, NoSign, Sides, IsEquationCut}
use Rattle.ug_lines.specs.Entries.{IsSkippedLine}
use Rattle.ug_lines.proofs.Cutting.{cut_so, cut_some, sides_so}
use Rattle.ug_lines.proofs.Trimming as trimming
use Rattle.ug_acl.specs.declared.draft.Given.{Given}
use Rattle.ug_acl.specs.declared.fault.FaultKind.{FaultKind}
use Rattle.ug_acl.specs.declared.fault.FaultKind.TheVariants.{NoEquals, UnknownSection, BadPrivilege, Repeated, BadName}
use Rattle.ug_acl.specs.declared.privileges.Privileges.{Privileges}
use Rattle.ug_types.specs.TextFaults.{fault_of_kind}
use Rattle.ug_lines.specs.LineReading.{then_on}
use Rattle.ug_acl.specs.Faults.{GrantFault}
use Rattle.ug_acl.specs.Grammar.{IsGrant, AreCommaParts, ArePrivileges, width_of, IsBadList, IsBadGrantLine, IsAccessTextLine, Skipped, Grants, Wrong}
use Rattle.ug_acl.specs.Lines.{comma_parts, parts_read, trimmed, sections_of, has_section, unless_given, section_read, given_to, cut_given, line_given}
use Rattle.ug_acl.specs.Lines as lines
use Rattle.ug_acl.specs.Words.{given_by_words}
use Rattle.ug_acl.proofs.Parts.{parts_found, are_parts}
use Rattle.ug_acl.proofs.PartsRead.{good_parts, bad_parts, FirstBadPart, part_case}
use Rattle.ug_acl.proofs.SeenSections.{section_seen, seen_section, is_seen}

abbrev Outcome : Type 0
Outcome = Result (List Given) GrantFault

-- the cut of a line decides
on_cut : (given : List Given) (line : List ℕ) (cut : EquationCut) → IsEquationCut line cut → line_given given line ≡ cut_given given cut
on_cut given line cut h = ap (cut_given given) (cut_so line cut h)

pub skipped_read : (given : List Given) (line : List ℕ) → IsSkippedLine line → line_given given line ≡ Ok given
skipped_read given line h = on_cut given line Skip h

line_sides : (given : List Given) (line text word value : List ℕ) → IsTextOf line text → ¬ IsSkipped text → IsEquation text word value
    → line_given given line ≡ lines.grant_read given word value (length text - length value)
line_sides given line text word value t s e = ap (cut_given given) (sides_so line text word value t s e)

abbrev after_section : List Given → List ℕ → ℕ → Result Section GrantFault → Outcome
after_section given value place read = then_on read (λ section. then_on (parts_read section place (comma_parts value)) (λ privileges. Ok (given ++ given_to section privileges ∷ [])))

abbrev after_parts : List Given → Section → Result Privileges GrantFault → Outcome
after_parts given section read = then_on read (λ privileges. Ok (given ++ given_to section privileges ∷ []))

new_section : (given : List Given) (section : Section) → ¬ Has (sections_of given) section → section_read given (section_word section) ≡ Ok section
new_section given section h = ap (unless_given given) (word_read section) ∙ by (has_section given section) refl
  where
    by : (v : Bool) → has_section given section ≡ v → cond v (Err (fault_of_kind Repeated 0)) (Ok section) ≡ Ok section
    by true e = absurd (h (section_seen given section e))
    by false e = refl

old_section : (given : List Given) (section : Section) → Has (sections_of given) section → section_read given (section_word section) ≡ Err (fault_of_kind Repeated 0)
old_section given section h = ap (unless_given given) (word_read section) ∙ ap (λ (v : Bool). cond v (Err (fault_of_kind Repeated 0)) (Ok section)) (seen_section given section h)

pub grant_read : (given : List Given) (line : List ℕ) (section : Section) (privileges : Privileges) → IsGrant line section privileges → ¬ Has (sections_of given) section
    → line_given given line ≡ Ok (given ++ given_to section privileges ∷ [])
grant_read given line section privileges s n =
    let place : ℕ = length s.text - length s.value in
    line_sides given line s.text (section_word section) s.value s.text_of s.shown s.equation
    ∙ ap (after_section given s.value place) (new_section given section n)
    ∙ ap (λ (ps : List (List ℕ)). after_parts given section (parts_read section place ps)) (parts_found s.value s.parts s.are_parts)
    ∙ ap (after_parts given section) (good_parts section place s.parts s.words s.are_privileges)
    ∙ ap (λ (p : Privileges). Ok (given ++ given_to section p ∷ [])) (sym s.gives)

unknown : (word : List ℕ) → ((section : Section) → ¬ (word ≡ section_word section)) → section_of word ≡ None
unknown word h = by (section_of word) refl
  where
    by : (o : Option Section) → section_of word ≡ o → section_of word ≡ None
    by None e = e
    by (Some section) e = absurd (h section (section_written word section e))

pub bad_read : (given : List Given) (line : List ℕ) (kind : FaultKind) (place : ℕ) → IsBadGrantLine (sections_of given) line kind place → line_given given line ≡ Err (fault_of_kind kind place)
bad_read given line NoEquals place h =
    on_cut given line NoSign (h.0, h.1, h.2, h.3.1) ∙ ap (λ (p : ℕ). Err (fault_of_kind NoEquals p)) (sym h.3.0)
bad_read given line UnknownSection place h =
    let b = h.3 in
    line_sides given line h.0 b.1 b.2 h.1 h.2 b.3
    ∙ ap (λ (o : Option Section). after_section given b.2 (length h.0 - length b.2) (unless_given given o)) (unknown b.1 b.4)
    ∙ ap (λ (p : ℕ). Err (fault_of_kind UnknownSection p)) (sym b.0)
bad_read given line Repeated place h =
    let b = h.3 in
    line_sides given line h.0 (section_word b.1) b.2 h.1 h.2 b.3
    ∙ ap (after_section given b.2 (length h.0 - length b.2)) (old_section given b.1 b.4)
    ∙ ap (λ (p : ℕ). Err (fault_of_kind Repeated p)) (sym b.0)
bad_read given line BadPrivilege place h =
    let b = h.3 in
    let l : IsBadList b.0 b.1 b.2 = b.5 in
    let whole : length b.1 ≤ length h.0 = value_place h.0 (section_word b.0) b.1 b.3 in
    let from : ℕ = length h.0 - length b.1 in
    let where_ : from + (width_of l.good + length l.blanks) ≡ place = omega (arith, b.6, l.place_is, whole) in
    line_sides given line h.0 (section_word b.0) b.1 h.1 h.2 b.3
    ∙ ap (after_section given b.1 from) (new_section given b.0 b.4)
    ∙ ap (λ (ps : List (List ℕ)). after_parts given b.0 (parts_read b.0 from ps)) (parts_found b.1 (l.good ++ l.bad ∷ l.behind) l.are_parts)
    ∙ ap (after_parts given b.0) (bad_parts b.0 from l.good l.words l.bad l.behind l.word l.blanks l.rest l.are_privileges l.text_of l.no_privilege l.front l.front_blank l.begins)
    ∙ ap (λ (p : ℕ). Err (fault_of_kind BadPrivilege p)) where_
bad_read given line BadName place h = absurd h.3

bad_list : (section : Section) (value : List ℕ) → FirstBadPart section (comma_parts value) → (at : ℕ) × IsBadList section value at
bad_list section value b =
    let f : trimming.Front b.bad = trimming.front b.bad in (
      width_of b.good + length f.before,
      record {
        good = b.good;
        words = b.words;
        bad = b.bad;
        behind = b.behind;
        word = trimmed b.bad;
        blanks = f.before;
        rest = without_front b.bad;
        are_parts = subst (λ (ps : List (List ℕ)). AreCommaParts value ps) b.is (are_parts value);
        are_privileges = b.are_privileges;
        text_of = trimming.text_of b.bad;
        no_privilege = b.no_privilege;
        front = f.is;
        front_blank = f.blanks;
        begins = f.begins;
        place_is = refl;
      },
    )

of_value : (seen : List Section) (line text value : List ℕ) (section : Section) → IsTextOf line text → ¬ IsSkipped text → IsEquation text (section_word section) value → ¬ Has seen section → IsAccessTextLine seen line
of_value seen line text value section t s e n = by (part_case section (comma_parts value))
  where
    by : ((words : List (List ℕ)) × ArePrivileges section (comma_parts value) words) ⊎ FirstBadPart section (comma_parts value) → IsAccessTextLine seen line
    by (inl g) = Grants section (given_by_words section g.0) (record {
      text = text;
      value = value;
      parts = comma_parts value;
      words = g.0;
      text_of = t;
      shown = s;
      equation = e;
      are_parts = are_parts value;
      are_privileges = g.1;
      gives = refl;
    }) n
    by (inr b) =
        let whole : length value ≤ length text = value_place text (section_word section) value e in
        let l = bad_list section value b in
        Wrong BadPrivilege (length text - length value + l.0) (text, t, s, (section, value, l.0, e, n, l.1, omega (arith, whole)))

of_section : (seen : List Section) (line text value : List ℕ) (section : Section) → (Has seen section ⊎ (¬ Has seen section)) → IsTextOf line text → ¬ IsSkipped text → IsEquation text (section_word section) value → IsAccessTextLine seen line
of_section seen line text value section (inl h) t s e = Wrong Repeated 0 (text, t, s, (refl, section, value, e, h))
of_section seen line text value section (inr n) t s e = of_value seen line text value section t s e n

of_word : (seen : List Section) (line text word value : List ℕ) → IsTextOf line text → ¬ IsSkipped text → IsEquation text word value → IsAccessTextLine seen line
of_word seen line text word value t s e = by (section_of word) refl
  where
    by : (o : Option Section) → section_of word ≡ o → IsAccessTextLine seen line
    by (Some section) f = of_section seen line text value section (is_seen seen section) t s (subst (λ (w : List ℕ). IsEquation text w value) (section_written word section f) e)
    by None f = Wrong UnknownSection 0 (text, t, s, (refl, word, value, e, λ section k. none-some section (sym f ∙ ap section_of k ∙ word_read section)))

pub line_case : (seen : List Section) (line : List ℕ) → IsAccessTextLine seen line
line_case seen line = let c = cut_some line in by c.0 c.1
  where
    by : (cut : EquationCut) → IsEquationCut line cut → IsAccessTextLine seen line
    by Skip h = Skipped h
    by NoSign h = Wrong NoEquals 0 (h.0, h.1, h.2, (refl, h.3))
    by (Sides word value place) h = of_word seen line h.0 word value h.1 h.2 h.3
