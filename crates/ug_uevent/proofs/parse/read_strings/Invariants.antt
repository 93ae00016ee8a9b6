use Rattle.std.proofs.Common.{◌≡◌, ◌≤◌, ◌<◌, ◌+◌, length}
use Rattle.ug_uevent.specs.Reading.{strings_read, strings_of, nothing}
use Rattle.ug_uevent.proofs.parse.read_strings.Given as goal

-- what is still to be read ends the whole reading
abbrev pub invariant-loop-rest : goal.invariant-loop-rest
invariant-loop-rest l = record {
  here : strings_read l.action l.path l.found l.at (strings_of l.rest) ≡ strings_read l.fn.action l.fn.path nothing l.fn.place (strings_of l.fn.strings);
  at : l.at ≤ l.fn.place + length l.fn.strings + 1;
  behind : 0 < length l.rest → l.at + length l.rest ≤ l.fn.place + length l.fn.strings;
}

abbrev pub decreases-loop-rest : goal.decreases-loop-rest
decreases-loop-rest l = length l.rest
