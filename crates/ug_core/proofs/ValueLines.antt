-- The words for the values of settings hold no newline.
use Rattle.std.proofs.Common.{◌≡◌, ℕ, ◌<◌, arith}
use Rattle.ug_lines.specs.Splitting.{IsLine}
use Rattle.ug_types.specs.Parameters.{value_word}
use Rattle.ug_types.specs.declared.parameter.Inserted.TheVariants as inserted
use Rattle.ug_types.specs.declared.parameter.Parameter.{Parameter}
use Rattle.ug_types.specs.declared.parameter.Parameter.TheVariants as parameter
use Rattle.ug_types.specs.declared.verdict.Target.TheVariants as target

byte : (m : ℕ) → 31 < m → m ≡ 10 → ⊥
byte m h e = omega arith

pub value_line : (set : Parameter) → IsLine (value_word set)
value_line (parameter.ImplicitPolicyTarget target.Allow) = (byte 97 (omega arith), (byte 108 (omega arith), (byte 108 (omega arith), (byte 111 (omega arith), (byte 119 (omega arith), tt)))))
value_line (parameter.ImplicitPolicyTarget target.Block) = (byte 98 (omega arith), (byte 108 (omega arith), (byte 111 (omega arith), (byte 99 (omega arith), (byte 107 (omega arith), tt)))))
value_line (parameter.ImplicitPolicyTarget target.Reject) = (byte 114 (omega arith), (byte 101 (omega arith), (byte 106 (omega arith), (byte 101 (omega arith), (byte 99 (omega arith), (byte 116 (omega arith), tt))))))
value_line (parameter.InsertedDevicePolicy inserted.Block) = (byte 98 (omega arith), (byte 108 (omega arith), (byte 111 (omega arith), (byte 99 (omega arith), (byte 107 (omega arith), tt)))))
value_line (parameter.InsertedDevicePolicy inserted.Reject) = (byte 114 (omega arith), (byte 101 (omega arith), (byte 106 (omega arith), (byte 101 (omega arith), (byte 99 (omega arith), (byte 116 (omega arith), tt))))))
value_line (parameter.InsertedDevicePolicy inserted.Apply) = (byte 97 (omega arith), (byte 112 (omega arith), (byte 112 (omega arith), (byte 108 (omega arith), (byte 121 (omega arith), (byte 45 (omega arith), (byte 112 (omega arith), (byte 111 (omega arith), (byte 108 (omega arith), (byte 105 (omega arith), (byte 99 (omega arith), (byte 121 (omega arith), tt))))))))))))
