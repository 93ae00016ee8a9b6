use Rattle.std.proofs.Common.{◌≡◌, ◌<◌, length, sym, ◌∙◌, ap, Err, arith}
use Rattle.std.proofs.lemmas.Bool.Decides.{nat_tests}
use Rattle.ug_uevent.specs.Faults.{SaidFault}
use Rattle.ug_uevent.proofs.Loops.{first_long, more_behind, goes_on, stops, ends}
use Rattle.ug_uevent.proofs.parse.read_strings.Goals as goal

pub returns-in-Err : goal.returns-in-Err
returns-in-Err c =
    let some : 0 < length c.loop-rest.rest.now = grind (arith, nat_tests, c.is_empty.ensures, c.loop-rest-test.true) in
    ap (λ (f : SaidFault). Err f) c.fault_at.ensures
    ∙ stops c.args.action.now c.args.path.now c.loop-rest.found c.loop-rest.at c.loop-rest.rest.now c.next_string.result.0.now c.next_string.ensures.first c.in-Err.kind some (sym c.read_string.ensures ∙ c.in-Err.is)
    ∙ c.loop-rest.invariant.here

pub loop-rest-preserved : goal.loop-rest-preserved
loop-rest-preserved c =
    let some : 0 < length c.loop-rest.rest.now = grind (arith, nat_tests, c.is_empty.ensures, c.loop-rest-test.true) in
    let within = c.loop-rest.invariant.behind some in
    let long = first_long c.next_string.result.0.now c.next_string.result.1.now c.loop-rest.rest.now c.next_string.ensures.first c.next_string.ensures.rest in
    record {
      here = goes_on c.args.action.now c.args.path.now c.loop-rest.found c.loop-rest.at c.loop-rest.rest.now c.next_string.result.0.now c.next_string.ensures.first c.in-Ok.next c.next_string.result.1.now
          c.next_string.ensures.rest some (sym c.read_string.ensures ∙ c.in-Ok.is) ∙ c.loop-rest.invariant.here;
      at = omega (arith, within, long);
      behind = λ h. (let more = more_behind c.next_string.result.0.now c.next_string.result.1.now c.loop-rest.rest.now c.next_string.ensures.first c.next_string.ensures.rest h in omega (arith, within, more));
    }

pub returns : goal.returns
returns c =
    let none : length c.loop-rest.rest.now ≡ 0 = grind (arith, nat_tests, c.is_empty.ensures, c.loop-rest-test.false) in
    ends c.args.action.now c.args.path.now c.loop-rest.found c.loop-rest.at c.loop-rest.rest.now none ∙ c.loop-rest.invariant.here
