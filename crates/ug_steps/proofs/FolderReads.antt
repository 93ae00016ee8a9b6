-- `folder` lines are read as their grammar says.
use Rattle.std.proofs.Common.{◌≡◌, ℕ, Bool, true, false, ◌&&◌, cond, List, [], ◌∷◌, ◌++◌, Some, None, Result, Ok, Err, inl, inr, refl, sym, subst, ap, ◌∙◌}
use Rattle.std.proofs.lemmas.Bool.{and_parts}
use Rattle.std.proofs.lemmas.Option.{none-some, same_Some}
use Rattle.ug_types.specs.Elements.{Has}
use Rattle.ug_types.specs.Principals.{is_name_byte}
use Rattle.ug_types.specs.declared.rule.Rule as types
use Rattle.ug_conf.specs.FolderFiles.{AreNameBytes, is_rule_file_name}
use Rattle.ug_conf.proofs.FileNames.{counted, counts}
use Rattle.ug_rule.specs.declared.fault.Fault.{Fault}
use Rattle.ug_rule.specs.Rules.{rule_read}
use Rattle.ug_rule.proofs.RuleCuts.{line_says, says_line}
use Rattle.ug_steps.specs.declared.step.FolderLine.{FolderLine}
use Rattle.ug_steps.specs.declared.step.SetupLine.{SetupLine}
use Rattle.ug_steps.specs.declared.step.SetupLine.TheVariants as setup
use Rattle.ug_steps.specs.Grammar.{IsFolderText, folder_line_of, in_folder, named_line}
use Rattle.ug_steps.specs.Words.{is_one_line}
use Rattle.ug_steps.proofs.AccessLines.{line_one, one_line}
use Rattle.ug_steps.proofs.LineCuts.{cut_so, so_cut}

name_apart : (name : List ℕ) → AreNameBytes name → ¬ Has name 32
name_apart [] h k = k
name_apart (b ∷ bytes) h (inl e) =
    let space : is_name_byte 32 ≡ true = subst (λ (c : ℕ). is_name_byte c ≡ true) e h.0 in
    let none : ⊥ = cc in
    none
name_apart (b ∷ bytes) h (inr k) = name_apart bytes h.1 k

abbrev Reads : List ℕ → SetupLine → Type 0
Reads text line = (f : FolderLine) × (line ≡ setup.Folder f) × IsFolderText text f

pub folder_so : (text : List ℕ) (line : SetupLine) → folder_line_of text ≡ Some line → Reads text line
folder_so text line h =
    let c = cut_so (λ (name rest : List ℕ). named_line name rest) text line h in
    by c.word c.rest c.is (is_rule_file_name c.word && is_one_line c.rest) (rule_read c.rest) refl refl c.gives
  where
    by : (name rest : List ℕ) → text ≡ name ++ 32 ∷ rest → (v : Bool) (r : Result types.Rule Fault) → (is_rule_file_name name && is_one_line rest) ≡ v → rule_read rest ≡ r → cond v (in_folder name rest r) None ≡ Some line → Reads text line
    by name rest is true (Ok rule) e reads k =
        let p = and_parts (is_rule_file_name name) (is_one_line rest) e in (
          record { name = name; text = rest },
          sym (same_Some (setup.Folder (record { name = name; text = rest })) line k),
          record {
            is = is;
            named = counted name p.0;
            holds = record { single = one_line rest p.1; rule = rule; says = line_says rest rule reads };
          },
        )
    by name rest is true (Err fault) e reads k = absurd (none-some line k)
    by name rest is false r e reads k = absurd (none-some line k)

pub so_folder : (text : List ℕ) (f : FolderLine) → IsFolderText text f → folder_line_of text ≡ Some (setup.Folder f)
so_folder text f h =
    so_cut (λ (name rest : List ℕ). named_line name rest) text f.name f.text (setup.Folder f) h.is (name_apart f.name h.named.plain)
    (ap (λ (v : Bool). cond (v && is_one_line f.text) (in_folder f.name f.text (rule_read f.text)) None) (counts f.name h.named)
    ∙ ap (λ (v : Bool). cond v (in_folder f.name f.text (rule_read f.text)) None) (line_one f.text h.holds.single)
    ∙ ap (λ (r : Result types.Rule Fault). in_folder f.name f.text r) (says_line f.text h.holds.rule h.holds.says))
