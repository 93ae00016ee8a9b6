use Rattle.std.proofs.Common.{◌≡◌, Some, take}
use Rattle.ug_words.specs.Words.{digits_of}
use Rattle.ug_words.proofs.words.digits.Given as goal

abbrev pub invariant-loop-byte : goal.invariant-loop-byte
invariant-loop-byte l = digits_of (take l.byte-index l.digits) ≡ Some l.number
