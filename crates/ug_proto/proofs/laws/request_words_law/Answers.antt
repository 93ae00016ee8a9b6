use Rattle.std.proofs.Common.{refl}
use Rattle.std.specs.Fmt.{digits}
use Rattle.ug_lines.specs.Numbers.{number_in}
use Rattle.ug_proto.specs.Requests.{named_read, rule_request_read}
use Rattle.ug_proto.proofs.laws.request_words_law.Goals as goal

pub returns-clause-get_parameter : goal.returns-clause-get_parameter
unfolding digits named_read rule_request_read number_in
returns-clause-get_parameter c = refl

pub returns-clause-set_parameter : goal.returns-clause-set_parameter
unfolding digits named_read rule_request_read number_in
returns-clause-set_parameter c = refl

pub returns-clause-list_devices : goal.returns-clause-list_devices
unfolding digits named_read rule_request_read number_in
returns-clause-list_devices c = refl

pub returns-clause-allow_device : goal.returns-clause-allow_device
unfolding digits named_read rule_request_read number_in
returns-clause-allow_device c = refl

pub returns-clause-block_device : goal.returns-clause-block_device
unfolding digits named_read rule_request_read number_in
returns-clause-block_device c = refl

pub returns-clause-reject_device : goal.returns-clause-reject_device
unfolding digits named_read rule_request_read number_in
returns-clause-reject_device c = refl

pub returns-clause-permanent : goal.returns-clause-permanent
unfolding digits named_read rule_request_read number_in
returns-clause-permanent c = refl

pub returns-clause-list_rules : goal.returns-clause-list_rules
unfolding digits named_read rule_request_read number_in
returns-clause-list_rules c = refl

pub returns-clause-append_rule : goal.returns-clause-append_rule
unfolding digits named_read rule_request_read number_in
returns-clause-append_rule c = refl

pub returns-clause-temporary : goal.returns-clause-temporary
unfolding digits named_read rule_request_read number_in
returns-clause-temporary c = refl

pub returns-clause-front : goal.returns-clause-front
unfolding digits named_read rule_request_read number_in
returns-clause-front c = refl

pub returns-clause-behind : goal.returns-clause-behind
unfolding digits named_read rule_request_read number_in
returns-clause-behind c = refl

pub returns-clause-remove_rule : goal.returns-clause-remove_rule
unfolding digits named_read rule_request_read number_in
returns-clause-remove_rule c = refl

pub returns-clause-watch : goal.returns-clause-watch
unfolding digits named_read rule_request_read number_in
returns-clause-watch c = refl
