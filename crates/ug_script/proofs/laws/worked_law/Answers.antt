use Rattle.std.proofs.Common.{refl}
use Rattle.ug_types.specs.Names.{parent_of, depth_of}
use Rattle.ug_record.specs.Reading.{configs_from, decoded}
use Rattle.ug_match.specs.Queries.{query_matches}
use Rattle.ug_record.specs.Records.{judged_of}
use Rattle.ug_kernel.specs.Files.{reading, reading_own, reading_parent}
use Rattle.ug_kernel.specs.Bind.{binding, binding_under}
use Rattle.ug_table.specs.Bring.{treating, bringing, writing, valuing}
use Rattle.ug_table.specs.Settle.{admitting, entering, settling}
use Rattle.ug_table.specs.Sweep.{sweeping}
use Rattle.ug_conf.specs.Settings.{defaults}
use Rattle.ug_core.specs.Answering.{asking}
use Rattle.ug_core.specs.Event.{handling, trying}
use Rattle.ug_script.proofs.laws.worked_law.Goals as goal

pub returns-clause-start : goal.returns-clause-start
unfolding query_matches parent_of depth_of configs_from decoded judged_of reading reading_own reading_parent binding binding_under treating bringing writing admitting entering settling sweeping asking trying handling valuing defaults
returns-clause-start c = refl

pub returns-clause-allowed : goal.returns-clause-allowed
unfolding query_matches parent_of depth_of configs_from decoded judged_of reading reading_own reading_parent binding binding_under treating bringing writing admitting entering settling sweeping asking trying handling valuing defaults
returns-clause-allowed c = refl

pub returns-clause-written : goal.returns-clause-written
unfolding query_matches parent_of depth_of configs_from decoded judged_of reading reading_own reading_parent binding binding_under treating bringing writing admitting entering settling sweeping asking trying handling valuing defaults
returns-clause-written c = refl

pub returns-clause-replaced : goal.returns-clause-replaced
unfolding query_matches parent_of depth_of configs_from decoded judged_of reading reading_own reading_parent binding binding_under treating bringing writing admitting entering settling sweeping asking trying handling valuing defaults
returns-clause-replaced c = refl

pub returns-clause-unwritten : goal.returns-clause-unwritten
unfolding query_matches parent_of depth_of configs_from decoded judged_of reading reading_own reading_parent binding binding_under treating bringing writing admitting entering settling sweeping asking trying handling valuing defaults
returns-clause-unwritten c = refl

pub returns-clause-newcomer : goal.returns-clause-newcomer
unfolding query_matches parent_of depth_of configs_from decoded judged_of reading reading_own reading_parent binding binding_under treating bringing writing admitting entering settling sweeping asking trying handling valuing defaults
returns-clause-newcomer c = refl

pub returns-clause-failed : goal.returns-clause-failed
unfolding query_matches parent_of depth_of configs_from decoded judged_of reading reading_own reading_parent binding binding_under treating bringing writing admitting entering settling sweeping asking trying handling valuing defaults
returns-clause-failed c = refl

pub returns-clause-again : goal.returns-clause-again
unfolding query_matches parent_of depth_of configs_from decoded judged_of reading reading_own reading_parent binding binding_under treating bringing writing admitting entering settling sweeping asking trying handling valuing defaults
returns-clause-again c = refl
