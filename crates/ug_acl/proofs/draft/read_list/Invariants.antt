use Rattle.std.proofs.Common.{◌≡◌, ◌+◌, length, drop, map, Ok}
use Rattle.ug_lines.specs.LineReading.{then_on}
use Rattle.ug_acl.specs.Grammar.{width_of}
use Rattle.ug_acl.specs.Lines.{comma_parts, parts_read}
use Rattle.ug_acl.specs.Words.{union}
use Rattle.ug_acl.proofs.draft.read_list.Given as goal

-- what is still to be read ends the whole reading, and fits
abbrev pub invariant-loop-part : goal.invariant-loop-part
invariant-loop-part l = record {
  here : then_on (parts_read l.section l.at (map (λ part. part.now) (drop l.part-index l.slices))) (λ more. Ok (union l.privileges more)) ≡ parts_read l.section l.place (comma_parts l.fn.text);
  width : l.at + width_of (map (λ part. part.now) (drop l.part-index l.slices)) ≡ l.place + (length l.fn.text + 1);
}
