-- A text reads as what it gives.
use Rattle.std.proofs.Common.{◌≡◌, ℕ, ◌⊎◌, inl, inr, List, [], Ok, Err, refl, sym, ap, ◌∙◌}
use Rattle.ug_lines.proofs.Meanings as meanings
use Rattle.ug_types.specs.declared.text_fault.TextFault.{TextFault}
use Rattle.ug_lines.proofs.EntriesRead as lines
use Rattle.ug_acl.specs.declared.draft.Given.{Given}
use Rattle.ug_acl.specs.Faults.{number_of_kind}
use Rattle.ug_acl.specs.Grammar.{GivesAccess, GivesGrant, IsBadGrantLine, IsFirstBadGrant}
use Rattle.ug_acl.specs.Lines.{sections_of, line_given}
use Rattle.ug_acl.specs.Pairs.{Pair}
use Rattle.ug_acl.specs.Texts.{access_read, as_pairs, pairs_given}
use Rattle.ug_acl.proofs.Entries.{with_grant, reads, all_given}

said_read : (text : List ℕ) (pairs : List Pair) → GivesAccess text pairs → access_read text ≡ Ok pairs
said_read text pairs h =
    ap as_pairs (lines.good_text GivesGrant (λ g. g.section) IsBadGrantLine sections_of with_grant (λ number given line. line_given given line) number_of_kind reads [] refl text h.given h.lines h.once)
    ∙ ap (λ (given : List Given). Ok (pairs_given given)) (all_given h.given [])
    ∙ ap Ok (sym h.is)

bad_read : (text : List ℕ) (fault : TextFault) → IsFirstBadGrant text fault → access_read text ≡ Err fault
bad_read text fault h =
    ap as_pairs (lines.bad_text GivesGrant (λ g. g.section) IsBadGrantLine sections_of with_grant (λ number given line. line_given given line) number_of_kind reads [] refl text fault h)

-- each text gives pairs or has a first bad line
pub some_meaning : (text : List ℕ) → ((pairs : List Pair) × GivesAccess text pairs) ⊎ ((fault : TextFault) × IsFirstBadGrant text fault)
some_meaning text = elim (lines.some_text GivesGrant (λ g. g.section) IsBadGrantLine sections_of with_grant (λ number given line. line_given given line) number_of_kind reads [] refl text) [
  | inl g ↦ inl (pairs_given g.0, record { given = g.0; lines = g.1; once = g.2; is = refl })
  | inr b ↦ inr b
]

module _ (text : List ℕ) where
  pub one_list : (s t : List Pair) → GivesAccess text s → GivesAccess text t → s ≡ t
  one_list = meanings.one_meaning (access_read text) (GivesAccess text) (IsFirstBadGrant text) (said_read text) (bad_read text)

  pub one_fault : (f g : TextFault) → IsFirstBadGrant text f → IsFirstBadGrant text g → f ≡ g
  one_fault = meanings.one_fault (access_read text) (GivesAccess text) (IsFirstBadGrant text) (said_read text) (bad_read text)

  pub never_both : (s : List Pair) (f : TextFault) → GivesAccess text s → IsFirstBadGrant text f → ⊥
  never_both = meanings.never_both (access_read text) (GivesAccess text) (IsFirstBadGrant text) (said_read text) (bad_read text)

  pub says : (pairs : List Pair) → ((access_read text ≡ Ok pairs) → GivesAccess text pairs) × (GivesAccess text pairs → access_read text ≡ Ok pairs)
  says = meanings.reads_meaning (access_read text) (GivesAccess text) (IsFirstBadGrant text) (said_read text) (bad_read text) (some_meaning text)

  pub is_first_bad : (fault : TextFault) → ((access_read text ≡ Err fault) → IsFirstBadGrant text fault) × (IsFirstBadGrant text fault → access_read text ≡ Err fault)
  is_first_bad = meanings.reads_fault (access_read text) (GivesAccess text) (IsFirstBadGrant text) (said_read text) (bad_read text) (some_meaning text)
