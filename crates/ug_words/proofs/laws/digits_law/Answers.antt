use Rattle.std.proofs.Common.{arith}
use Rattle.ug_words.proofs.Decimals.{decimal_read}
use Rattle.ug_words.proofs.Hexadecimal.{two_again, four_again}
use Rattle.ug_words.proofs.WordCuts.{two_reads, is_four_reads}
use Rattle.ug_lines.specs.Digits.{hex_two, hex_four}
use Rattle.ug_words.proofs.laws.digits_law.Goals as goal

pub returns-clause-two : goal.returns-clause-two
returns-clause-two c = λ n h. two_reads n (hex_two n) (two_again n (omega (arith, h)))

pub returns-clause-four : goal.returns-clause-four
returns-clause-four c = λ n h. is_four_reads n (hex_four n) (four_again n (omega (arith, h)))

pub returns-clause-number : goal.returns-clause-number
returns-clause-number c = λ n h. decimal_read n (omega (arith, h))
