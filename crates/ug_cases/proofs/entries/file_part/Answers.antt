use Rattle.std.proofs.Common.{◌≡◌, ◌∙◌, ℕ, ◌≤◌, true, nat_eq, nat_le, List, length, sym}
use Rattle.std.specs.Prelude.{◌&&◌, codes}
use Rattle.std.specs.List.{ends_with, list_all}
use Rattle.std.proofs.lemmas.Bool.{and_parts, leb-true}
use Rattle.ug_types.specs.Principals.{is_name_byte}
use Rattle.ug_conf.specs.FolderFiles.{is_rule_file_name}
use Rattle.ug_cases.proofs.entries.file_part.Goals as goal

-- a name that counts is one that the journal can tell
told : (name : List ℕ) → is_rule_file_name name ≡ true → (length name ≤ 255) × (list_all is_name_byte name ≡ true)
unfolding is_rule_file_name
told name h =
    let p = and_parts (nat_le (length name) 255 && list_all is_name_byte name) (ends_with nat_eq name (codes ".conf")) h in
    let q = and_parts (nat_le (length name) 255) (list_all is_name_byte name) p.0 in
    (leb-true (length name) 255 q.0, q.1)

pub holding-requires-clause-short : goal.holding-requires-clause-short
holding-requires-clause-short c = (told c.as_bytes-name.result.now (sym c.is_rule_file_name.ensures ∙ c.if-is_rule_file_name.true)).0

pub holding-requires-clause-plain : goal.holding-requires-clause-plain
holding-requires-clause-plain c = (told c.as_bytes-name.result.now (sym c.is_rule_file_name.ensures ∙ c.if-is_rule_file_name.true)).1
