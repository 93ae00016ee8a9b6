use Rattle.std.proofs.Common.{◌≢◌, List, ℕ, ◌++◌, length, ap, ◌∙◌, arith}
use Rattle.std.proofs.lemmas.Bool.Decides.{nat_tests}
use Rattle.ug_acl.specs.Printed.{grant_line}
use Rattle.ug_acl.proofs.PrintLine.{some_line}
use Rattle.ug_acl.proofs.print.print_section.Goals as goal

pub returns : goal.returns
returns c =
    let words : List ℕ = c.words_in-words.result.now in
    let some : length words ≢ 0 = λ e. (let none : ⊥ = grind (arith, nat_tests, c.is_empty.ensures, c.if-is_empty.false) in none) in
    λ all. c.print_line.ensures all ∙ ap (λ (l : List ℕ). c.args.out.now.items ++ l) (some_line c.args.section words some ∙ ap (grant_line c.args.section) c.words_in-words.ensures)
