-- A text reads as what it says.
use Rattle.std.proofs.Common.{◌≡◌, ℕ, ◌⊎◌, inl, inr, List, [], Ok, Err, refl, ap, ◌∙◌}
use Rattle.ug_lines.proofs.Meanings as meanings
use Rattle.ug_lines.specs.Lines.{lines_of}
use Rattle.ug_types.specs.declared.text_fault.TextFault.{TextFault}
use Rattle.ug_lines.proofs.EntriesRead as lines
use Rattle.ug_conf.specs.declared.settings.Settings.{Settings}
use Rattle.ug_conf.specs.Draft.{Draft, draft_of, setting_line_read}
use Rattle.ug_conf.specs.Faults.{setting_fault_number}
use Rattle.ug_conf.specs.Grammar.{IsBadSetting}
use Rattle.ug_conf.specs.Meaning.{Entry, GivesEntry, AreSettingsOf, GivesSettings, IsFirstBadSetting}
use Rattle.ug_conf.specs.Settings.{defaults}
use Rattle.ug_conf.specs.Texts.{conf_read, settled}
use Rattle.ug_conf.proofs.Entries.{with_entry, reads, entries_applied, entries_fit}
use Rattle.ug_conf.proofs.Gathering.{applied, gathered, one_gathering}

said_read : (text : List ℕ) (settings : Settings) → GivesSettings text settings → conf_read text ≡ Ok settings
said_read text settings h =
    let entries : List Entry = h.0 in
    let g : AreSettingsOf entries settings = h.2 in
    let fit = entries_fit (lines_of text) 1 entries h.1 in
    ap settled (lines.good_text GivesEntry (λ e. e.key) IsBadSetting (λ (d : Draft). d.seen) with_entry setting_line_read setting_fault_number reads (draft_of defaults []) refl text entries h.1 g.once)
    ∙ ap Ok (entries_applied entries (draft_of defaults []) ∙ one_gathering entries (applied entries defaults) settings fit (gathered entries g.once fit) g)

bad_read : (text : List ℕ) (fault : TextFault) → IsFirstBadSetting text fault → conf_read text ≡ Err fault
bad_read text fault h = ap settled (lines.bad_text GivesEntry (λ e. e.key) IsBadSetting (λ (d : Draft). d.seen) with_entry setting_line_read setting_fault_number reads (draft_of defaults []) refl text fault h)

-- each text says settings or has a first bad line
pub some_meaning : (text : List ℕ) → ((settings : Settings) × GivesSettings text settings) ⊎ ((fault : TextFault) × IsFirstBadSetting text fault)
some_meaning text = elim (lines.some_text GivesEntry (λ e. e.key) IsBadSetting (λ (d : Draft). d.seen) with_entry setting_line_read setting_fault_number reads (draft_of defaults []) refl text) [
  | inl g ↦ inl (applied g.0 defaults, (g.0, g.1, gathered g.0 g.2 (entries_fit (lines_of text) 1 g.0 g.1)))
  | inr b ↦ inr b
]

module _ (text : List ℕ) where
  pub one_settings : (s t : Settings) → GivesSettings text s → GivesSettings text t → s ≡ t
  one_settings = meanings.one_meaning (conf_read text) (GivesSettings text) (IsFirstBadSetting text) (said_read text) (bad_read text)

  pub one_fault : (f g : TextFault) → IsFirstBadSetting text f → IsFirstBadSetting text g → f ≡ g
  one_fault = meanings.one_fault (conf_read text) (GivesSettings text) (IsFirstBadSetting text) (said_read text) (bad_read text)

  pub never_both : (s : Settings) (f : TextFault) → GivesSettings text s → IsFirstBadSetting text f → ⊥
  never_both = meanings.never_both (conf_read text) (GivesSettings text) (IsFirstBadSetting text) (said_read text) (bad_read text)

  pub says : (settings : Settings) → ((conf_read text ≡ Ok settings) → GivesSettings text settings) × (GivesSettings text settings → conf_read text ≡ Ok settings)
  says = meanings.reads_meaning (conf_read text) (GivesSettings text) (IsFirstBadSetting text) (said_read text) (bad_read text) (some_meaning text)

  pub is_first_bad : (fault : TextFault) → ((conf_read text ≡ Err fault) → IsFirstBadSetting text fault) × (IsFirstBadSetting text fault → conf_read text ≡ Err fault)
  is_first_bad = meanings.reads_fault (conf_read text) (GivesSettings text) (IsFirstBadSetting text) (said_read text) (bad_read text) (some_meaning text)
