use Rattle.std.proofs.Common.{refl}
use Rattle.ug_types.specs.Names.{parent_of, depth_of}
use Rattle.ug_record.specs.Reading.{configs_from, decoded}
use Rattle.ug_match.specs.Queries.{query_matches}
use Rattle.ug_record.specs.Records.{judged_of}
use Rattle.ug_kernel.specs.Files.{reading, reading_own, reading_parent}
use Rattle.ug_kernel.specs.Bind.{binding, binding_under}
use Rattle.ug_kernel.specs.Removal.{holding}
use Rattle.ug_table.specs.Bring.{once, treating, bringing, writing, valuing}
use Rattle.ug_table.specs.Settle.{admitting, entering, settling}
use Rattle.ug_table.specs.Sweep.{sweeping}
use Rattle.ug_conf.specs.Settings.{defaults}
use Rattle.ug_core.specs.Answering.{asking}
use Rattle.ug_core.specs.Event.{handling, trying}
use Rattle.ug_script.proofs.laws.default_law.Goals as goal

pub returns-clause-written : goal.returns-clause-written
unfolding query_matches parent_of depth_of configs_from decoded judged_of reading reading_own reading_parent binding binding_under holding once treating bringing writing admitting entering settling sweeping asking trying handling valuing defaults
returns-clause-written c = refl

pub returns-clause-born_off : goal.returns-clause-born_off
unfolding query_matches parent_of depth_of configs_from decoded judged_of reading reading_own reading_parent binding binding_under holding once treating bringing writing admitting entering settling sweeping asking trying handling valuing defaults
returns-clause-born_off c = refl

pub returns-clause-failed : goal.returns-clause-failed
unfolding query_matches parent_of depth_of configs_from decoded judged_of reading reading_own reading_parent binding binding_under holding once treating bringing writing admitting entering settling sweeping asking trying handling valuing defaults
returns-clause-failed c = refl

pub returns-clause-born_on : goal.returns-clause-born_on
unfolding query_matches parent_of depth_of configs_from decoded judged_of reading reading_own reading_parent binding binding_under holding once treating bringing writing admitting entering settling sweeping asking trying handling valuing defaults
returns-clause-born_on c = refl
