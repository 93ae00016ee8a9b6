use Rattle.ug_words.specs.declared.keywords.Attr.TheVariants as attr
use Rattle.ug_words.proofs.KeywordTables.{attribute_is}
use Rattle.ug_words.proofs.laws.attribute_words_law.Goals as goal

pub returns-clause-id : goal.returns-clause-id
returns-clause-id c = attribute_is attr.Id

pub returns-clause-serial : goal.returns-clause-serial
returns-clause-serial c = attribute_is attr.Serial

pub returns-clause-name : goal.returns-clause-name
returns-clause-name c = attribute_is attr.Name

pub returns-clause-hash : goal.returns-clause-hash
returns-clause-hash c = attribute_is attr.Hash

pub returns-clause-parent_hash : goal.returns-clause-parent_hash
returns-clause-parent_hash c = attribute_is attr.ParentHash

pub returns-clause-via_port : goal.returns-clause-via_port
returns-clause-via_port c = attribute_is attr.ViaPort

pub returns-clause-with_interface : goal.returns-clause-with_interface
returns-clause-with_interface c = attribute_is attr.Interface

pub returns-clause-with_connect_type : goal.returns-clause-with_connect_type
returns-clause-with_connect_type c = attribute_is attr.Connect

pub returns-clause-label : goal.returns-clause-label
returns-clause-label c = attribute_is attr.Label
