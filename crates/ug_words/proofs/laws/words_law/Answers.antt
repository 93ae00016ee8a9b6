use Rattle.ug_words.proofs.TimeCuts.{time_cut, time_reads, span_cut, span_reads, past_cut, past_reads, chance_cut, chance_reads}
use Rattle.ug_words.proofs.WordCuts.{id_cut, id_reads, interface_cut, interface_reads}
use Rattle.ug_words.proofs.laws.words_law.Goals as goal

pub returns-clause-ids : goal.returns-clause-ids
returns-clause-ids c = λ id word. (id_cut id word, id_reads id word)

pub returns-clause-interfaces : goal.returns-clause-interfaces
returns-clause-interfaces c = λ iface word. (interface_cut iface word, interface_reads iface word)

pub returns-clause-times : goal.returns-clause-times
returns-clause-times c = λ most time word. (time_cut most time word, time_reads most time word)

pub returns-clause-spans : goal.returns-clause-spans
returns-clause-spans c = λ span word. (span_cut span word, span_reads span word)

pub returns-clause-pasts : goal.returns-clause-pasts
returns-clause-pasts c = λ n word. (past_cut n word, past_reads n word)

pub returns-clause-probabilities : goal.returns-clause-probabilities
returns-clause-probabilities c = λ n word. (chance_cut n word, chance_reads n word)
