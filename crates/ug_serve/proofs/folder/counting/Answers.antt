use Rattle.std.proofs.Common.{ap, rules, ◌∙◌}
use Rattle.std.specs.List.{filter}
use Rattle.std.proofs.lemmas.Fn.{filter_same}
use Rattle.ug_conf.specs.FolderFiles.{is_rule_file_name}
use Rattle.ug_serve.proofs.folder.counting.Goals as goal

pub returns : goal.returns
returns c = c.from_vec.ensures ∙ (filter_same _ is_rule_file_name _ (λ x b q h. search rules) _ _ c.retain.ensures.filtered ∙ ap (filter is_rule_file_name) c.into_vec-names.ensures)
