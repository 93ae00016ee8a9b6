-- A line is skipped, sets a key, or is bad, and is read so.
use Rattle.std.proofs.Common.{◌≡◌, ℕ, ◌-◌, ◌≤◌, Bool, true, false, cond, List, [], ◌∷◌, ◌++◌, length, Option, Some, None, Result, Ok, Err, refl, sym, ap, subst, ◌∙◌, arith}
use Rattle.std.proofs.lemmas.Bool.{false≢true}
use Rattle.std.proofs.lemmas.Option.{none-some}
use Rattle.ug_types.specs.Elements.{Has}
use Rattle.ug_conf.specs.declared.fault.FaultKind.{FaultKind}
use Rattle.ug_conf.specs.declared.fault.FaultKind.TheVariants.{NoEquals, UnknownKey, BadValue, Repeated}
use Rattle.ug_conf.specs.declared.keys.Key.{Key}
use Rattle.ug_conf.specs.declared.values.Setting.{Setting}
use Rattle.ug_conf.specs.Draft.{Draft, draft_of, with_setting, has_key, unless_seen, or_bad, key_read, value_read, assigned, cut_read, setting_line_read}
use Rattle.ug_types.specs.TextFaults.{fault_of_kind}
use Rattle.ug_lines.specs.LineReading.{then_on}
use Rattle.ug_conf.specs.Faults.{SettingFault}
use Rattle.ug_conf.specs.Keys.{key_of}
use Rattle.ug_conf.specs.Values.{setting_of}
use Rattle.ug_conf.specs.Grammar.{word_of_key, IsSettingValue, IsSetting, IsBadSetting, IsSettingsLine, Skipped, SetsKey, Bad}
use Rattle.ug_lines.specs.Equations.{IsTextOf, IsSkipped, IsEquation}
use Rattle.ug_lines.specs.Cuts.{EquationCut, Skip, NoSign, Sides, IsEquationCut}
use Rattle.ug_lines.specs.Entries.{IsSkippedLine}
use Rattle.ug_lines.proofs.Cutting.{cut_so, cut_some, sides_so}
use Rattle.ug_conf.proofs.Assigning as values
use Rattle.ug_conf.proofs.SeenKeys.{key_seen, seen_key}
use Rattle.ug_lines.proofs.Signs.{value_place}
use Rattle.ug_conf.proofs.Tables.{key_written, key_read as word_read}

abbrev Outcome : Type 0
Outcome = Result Draft SettingFault

-- the cut of a line decides
on_cut : (number : ℕ) (draft : Draft) (line : List ℕ) (cut : EquationCut) → IsEquationCut line cut → setting_line_read number draft line ≡ cut_read number draft cut
on_cut number draft line cut h = ap (cut_read number draft) (cut_so line cut h)

pub skipped_read : (number : ℕ) (draft : Draft) (line : List ℕ) → IsSkippedLine line → setting_line_read number draft line ≡ Ok draft
skipped_read number draft line h = on_cut number draft line Skip h

line_assigned : (number : ℕ) (draft : Draft) (line text word value : List ℕ) → IsTextOf line text → ¬ IsSkipped text → IsEquation text word value
    → setting_line_read number draft line ≡ assigned number draft word value (length text - length value)
line_assigned number draft line text word value t s e = ap (cut_read number draft) (sides_so line text word value t s e)

abbrev after_key : ℕ → Draft → List ℕ → ℕ → Result Key SettingFault → Outcome
after_key number draft value place read = then_on read (λ key. then_on (value_read place key value) (λ set. Ok (draft_of (with_setting number set draft.settings) (draft.seen ++ key ∷ []))))

new_key : (seen : List Key) (key : Key) → ¬ Has seen key → key_read seen (word_of_key key) ≡ Ok key
new_key seen key h = ap (unless_seen seen) (word_read key) ∙ by (has_key seen key) refl
  where
    by : (v : Bool) → has_key seen key ≡ v → cond v (Err (fault_of_kind Repeated 0)) (Ok key) ≡ Ok key
    by true e = absurd (h (key_seen seen key e))
    by false e = refl

old_key : (seen : List Key) (key : Key) → Has seen key → key_read seen (word_of_key key) ≡ Err (fault_of_kind Repeated 0)
old_key seen key h = ap (unless_seen seen) (word_read key) ∙ ap (λ (v : Bool). cond v (Err (fault_of_kind Repeated 0)) (Ok key)) (seen_key seen key h)

pub setting_read : (number : ℕ) (draft : Draft) (line : List ℕ) (key : Key) (set : Setting) → IsSetting line key set → ¬ Has draft.seen key
    → setting_line_read number draft line ≡ Ok (draft_of (with_setting number set draft.settings) (draft.seen ++ key ∷ []))
setting_read number draft line key set s n =
    let place : ℕ = length s.text - length s.value in
    line_assigned number draft line s.text (word_of_key key) s.value s.text_of s.shown s.equation
    ∙ ap (after_key number draft s.value place) (new_key draft.seen key n)
    ∙ ap (λ (o : Option Setting). then_on (or_bad place o) (λ set. Ok (draft_of (with_setting number set draft.settings) (draft.seen ++ key ∷ [])))) (values.value_read key s.value set s.has_value)

unknown : (word : List ℕ) → ((key : Key) → ¬ (word ≡ word_of_key key)) → key_of word ≡ None
unknown word h = by (key_of word) refl
  where
    by : (o : Option Key) → key_of word ≡ o → key_of word ≡ None
    by None e = e
    by (Some key) e = absurd (h key (key_written word key e))

valueless : (key : Key) (value : List ℕ) → ((set : Setting) → ¬ IsSettingValue key value set) → setting_of key value ≡ None
valueless key value h = by (setting_of key value) refl
  where
    by : (o : Option Setting) → setting_of key value ≡ o → setting_of key value ≡ None
    by None e = e
    by (Some set) e = absurd (h set (values.value_found key value set e))

pub bad_read : (number : ℕ) (draft : Draft) (line : List ℕ) (kind : FaultKind) (place : ℕ) → IsBadSetting draft.seen line kind place → setting_line_read number draft line ≡ Err (fault_of_kind kind place)
bad_read number draft line NoEquals place h =
    on_cut number draft line NoSign (h.0, h.1, h.2, h.3.1) ∙ ap (λ (p : ℕ). Err (fault_of_kind NoEquals p)) (sym h.3.0)
bad_read number draft line UnknownKey place h =
    let b = h.3 in
    line_assigned number draft line h.0 b.1 b.2 h.1 h.2 b.3
    ∙ ap (λ (o : Option Key). after_key number draft b.2 (length h.0 - length b.2) (unless_seen draft.seen o)) (unknown b.1 b.4)
    ∙ ap (λ (p : ℕ). Err (fault_of_kind UnknownKey p)) (sym b.0)
bad_read number draft line Repeated place h =
    let b = h.3 in
    line_assigned number draft line h.0 (word_of_key b.1) b.2 h.1 h.2 b.3
    ∙ ap (after_key number draft b.2 (length h.0 - length b.2)) (old_key draft.seen b.1 b.4)
    ∙ ap (λ (p : ℕ). Err (fault_of_kind Repeated p)) (sym b.0)
bad_read number draft line BadValue place h =
    let b = h.3 in
    let where_ : length h.0 - length b.1 ≡ place = omega (arith, b.5) in
    line_assigned number draft line h.0 (word_of_key b.0) b.1 h.1 h.2 b.2
    ∙ ap (after_key number draft b.1 (length h.0 - length b.1)) (new_key draft.seen b.0 b.3)
    ∙ ap (λ (o : Option Setting). then_on (or_bad (length h.0 - length b.1) o) (λ set. Ok (draft_of (with_setting number set draft.settings) (draft.seen ++ b.0 ∷ [])))) (valueless b.0 b.1 b.4)
    ∙ ap (λ (p : ℕ). Err (fault_of_kind BadValue p)) where_

of_value : (seen : List Key) (line text value : List ℕ) (key : Key) → IsTextOf line text → ¬ IsSkipped text → IsEquation text (word_of_key key) value → ¬ Has seen key → IsSettingsLine seen line
of_value seen line text value key t s e n = by (setting_of key value) refl
  where
    by : (o : Option Setting) → setting_of key value ≡ o → IsSettingsLine seen line
    by (Some set) f = SetsKey key set (record { text = text; value = value; text_of = t; shown = s; equation = e; has_value = values.value_found key value set f }) n
    by None f =
        let whole : length value ≤ length text = value_place text (word_of_key key) value e in
        Bad BadValue (length text - length value) (text, t, s, (key, value, e, n, λ set k. none-some set (sym f ∙ values.value_read key value set k), omega (arith, whole)))

of_key : (seen : List Key) (line text value : List ℕ) (key : Key) → IsTextOf line text → ¬ IsSkipped text → IsEquation text (word_of_key key) value → IsSettingsLine seen line
of_key seen line text value key t s e = by (has_key seen key) refl
  where
    by : (v : Bool) → has_key seen key ≡ v → IsSettingsLine seen line
    by true f = Bad Repeated 0 (text, t, s, (refl, key, value, e, key_seen seen key f))
    by false f = of_value seen line text value key t s e (λ h. false≢true (sym f ∙ seen_key seen key h))

of_word : (seen : List Key) (line text word value : List ℕ) → IsTextOf line text → ¬ IsSkipped text → IsEquation text word value → IsSettingsLine seen line
of_word seen line text word value t s e = by (key_of word) refl
  where
    by : (o : Option Key) → key_of word ≡ o → IsSettingsLine seen line
    by (Some key) f = of_key seen line text value key t s (subst (λ (w : List ℕ). IsEquation text w value) (key_written word key f) e)
    by None f = Bad UnknownKey 0 (text, t, s, (refl, word, value, e, λ key k. none-some key (sym f ∙ ap key_of k ∙ word_read key)))

pub line_case : (seen : List Key) (line : List ℕ) → IsSettingsLine seen line
line_case seen line = let c = cut_some line in by c.0 c.1
  where
    by : (cut : EquationCut) → IsEquationCut line cut → IsSettingsLine seen line
    by Skip h = Skipped h
    by NoSign h = Bad NoEquals 0 (h.0, h.1, h.2, (refl, h.3))
    by (Sides word value place) h = of_word seen line h.0 word value h.1 h.2 h.3
