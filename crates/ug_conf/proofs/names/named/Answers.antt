use Rattle.std.proofs.Common.{◌≡◌, ◌<◌, ◌-◌, length, take, drop, sym, ◌∙◌, arith}
use Rattle.std.proofs.lemmas.Bool.Decides.{nat_tests}
use Rattle.ug_conf.proofs.Words.{names_begin, name_bad, name_more, name_shorter, names_end, bare_text}
use Rattle.ug_conf.proofs.names.named.Goals as goal

pub loop-rest-init : goal.loop-rest-init
loop-rest-init c = record {
  here = names_begin c.args.group c.new-names.result c.args.text.now c.without_front-rest.result.now c.new-names.ensures c.without_front-rest.ensures.is;
  bare = bare_text c.args.text.now c.without_front-rest.result.now c.without_front-rest.ensures.is;
}

pub returns-in-None : goal.returns-in-None
returns-in-None c =
    let some : 0 < length c.loop-rest.rest.now = grind (arith, nat_tests, c.is_empty.ensures, c.loop-rest-test.true) in
    sym (name_bad c.args.group c.loop-rest.names c.loop-rest.rest.now c.word_length-length.result _ some c.loop-rest.invariant.bare c.word_length-length.ensures.is (sym c.named.ensures ∙ c.in-None.is) c.loop-rest.invariant.here)

pub loop-rest-preserved : goal.loop-rest-preserved
loop-rest-preserved c =
    let some : 0 < length c.loop-rest.rest.now = grind (arith, nat_tests, c.is_empty.ensures, c.loop-rest-test.true) in record {
      here = name_more c.args.group c.loop-rest.names c.push.new.self c.in-Some.name c.loop-rest.rest.now c.without_front-rest-in-loop-rest.result.now c.word_length-length.result _ some c.loop-rest.invariant.bare c.word_length-length.ensures.is (sym c.named.ensures ∙ c.in-Some.is) c.without_front-rest-in-loop-rest.ensures.is c.in_ok-push-in-Some.ensures.ok c.loop-rest.invariant.here;
      bare = bare_text (take (length c.loop-rest.rest.now - c.word_length-length.result) (drop c.word_length-length.result c.loop-rest.rest.now)) c.without_front-rest-in-loop-rest.result.now c.without_front-rest-in-loop-rest.ensures.is;
    }

pub loop-rest-smaller : goal.loop-rest-smaller
loop-rest-smaller c =
    let some : 0 < length c.loop-rest.rest.now = grind (arith, nat_tests, c.is_empty.ensures, c.loop-rest-test.true) in
    name_shorter c.loop-rest.rest.now c.without_front-rest-in-loop-rest.result.now c.word_length-length.result some c.loop-rest.invariant.bare c.word_length-length.ensures.is c.word_length-length.ensures.within c.without_front-rest-in-loop-rest.ensures.shorter

pub returns : goal.returns
returns c =
    let none : length c.loop-rest.rest.now ≡ 0 = grind (arith, nat_tests, c.is_empty.ensures, c.loop-rest-test.false) in
    sym (names_end c.args.group c.loop-rest.names c.loop-rest.rest.now _ none c.loop-rest.invariant.here)
