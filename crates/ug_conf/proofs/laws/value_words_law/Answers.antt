use Rattle.std.proofs.Common.{refl}
use Rattle.ug_conf.specs.Values.{default_of, flag_of, present_of}
use Rattle.ug_conf.proofs.laws.value_words_law.Goals as goal

pub returns-clause-allowed : goal.returns-clause-allowed
unfolding default_of flag_of present_of
returns-clause-allowed c = refl

pub returns-clause-blocked : goal.returns-clause-blocked
unfolding default_of flag_of present_of
returns-clause-blocked c = refl

pub returns-clause-rejected : goal.returns-clause-rejected
unfolding default_of flag_of present_of
returns-clause-rejected c = refl

pub returns-clause-kept : goal.returns-clause-kept
unfolding default_of flag_of present_of
returns-clause-kept c = refl

pub returns-clause-by_rules : goal.returns-clause-by_rules
unfolding default_of flag_of present_of
returns-clause-by_rules c = refl

pub returns-clause-as_it_is : goal.returns-clause-as_it_is
unfolding default_of flag_of present_of
returns-clause-as_it_is c = refl

pub returns-clause-off : goal.returns-clause-off
unfolding default_of flag_of present_of
returns-clause-off c = refl

pub returns-clause-on : goal.returns-clause-on
unfolding default_of flag_of present_of
returns-clause-on c = refl

pub returns-clause-built_in : goal.returns-clause-built_in
unfolding default_of flag_of present_of
returns-clause-built_in c = refl

pub returns-clause-yes : goal.returns-clause-yes
unfolding default_of flag_of present_of
returns-clause-yes c = refl

pub returns-clause-no : goal.returns-clause-no
unfolding default_of flag_of present_of
returns-clause-no c = refl
