-- Lines that set keys, as entries under keys.
use Rattle.std.proofs.Common.{◌≡◌, ℕ, ◌+◌, inl, inr, List, [], ◌∷◌, ◌++◌, fold, Ok, refl, sym, ap, subst, ◌∙◌}
use Rattle.ug_types.specs.Elements.{Has}
use Rattle.ug_conf.specs.declared.keys.Key.{Key}
use Rattle.ug_conf.specs.Draft.{Draft, draft_of, setting_line_read, with_setting}
use Rattle.ug_conf.specs.Grammar.{IsSetting, IsBadSetting, IsSettingsLine, Skipped, SetsKey, Bad}
use Rattle.ug_conf.specs.Meaning.{Entry, GivesEntry}
use Rattle.ug_lines.specs.Entries.{AreEntries}
use Rattle.ug_lines.proofs.EntriesRead as lines
use Rattle.ug_conf.proofs.Gathering.{applied, AreFit}
use Rattle.ug_conf.proofs.LineCases.{skipped_read, setting_read, bad_read, line_case}

-- the draft with what an entry sets
abbrev pub with_entry : Draft → Entry → Draft
with_entry draft e = draft_of (with_setting e.number e.set draft.settings) (draft.seen ++ e.key ∷ [])

entry_read : (number : ℕ) (draft : Draft) (line : List ℕ) (e : Entry) → GivesEntry number line e → ¬ Has draft.seen e.key → setting_line_read number draft line ≡ Ok (with_entry draft e)
entry_read number draft line e g n =
    setting_read number draft line e.key e.set g.1 n
    ∙ ap (λ (at : ℕ). Ok (draft_of (with_setting at e.set draft.settings) (draft.seen ++ e.key ∷ []))) (sym g.0)

cases : (number : ℕ) (seen : List Key) (line : List ℕ) → lines.LineCase GivesEntry (λ e. e.key) IsBadSetting number seen line
cases number seen line = by (line_case seen line)
  where
    by : IsSettingsLine seen line → lines.LineCase GivesEntry (λ e. e.key) IsBadSetting number seen line
    by (Skipped h) = lines.Skipped h
    by (SetsKey key set s n) = lines.HasEntry (record { number = number; key = key; set = set }) (refl, s) n
    by (Bad kind place h) = lines.Bad kind place h

pub reads : lines.Reads GivesEntry (λ e. e.key) IsBadSetting (λ (d : Draft). d.seen) with_entry setting_line_read
reads = record { skipped = skipped_read; entry = entry_read; bad = bad_read; keys = λ draft e. refl; cases = cases }

-- what entries set, one after the other
pub entries_applied : (entries : List Entry) (draft : Draft) → (fold with_entry draft entries).settings ≡ applied entries draft.settings
entries_applied [] draft = refl
entries_applied (e ∷ entries) draft = entries_applied entries (with_entry draft e)

-- each entry is one of the table
pub entries_fit : (lines : List (List ℕ)) (number : ℕ) (entries : List Entry) → AreEntries GivesEntry number lines entries → AreFit entries
entries_fit [] number entries h = subst AreFit (sym h) tt
entries_fit (line ∷ lines) number entries (inl h) = entries_fit lines (number + 1) entries h.1
entries_fit (line ∷ lines) number entries (inr h) =
    let s : IsSetting line h.0.key h.0.set = h.3.1 in
    subst AreFit (sym h.2) ((s.value, s.has_value), entries_fit lines (number + 1) h.1 h.4)
