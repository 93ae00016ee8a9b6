use Rattle.std.proofs.Common.{Ok, ap}
use Rattle.ug_uevent.proofs.Paths.{text_behind, named, unnamed, no_slash}
use Rattle.ug_uevent.proofs.path.name_in.Goals as goal

pub returns-in-Ok : goal.returns-in-Ok
returns-in-Ok c = λ name.
    named c.args.path.now _ c.in-Some.at name c.in-Ok.name c.in-Some.ensures.1 (text_behind c.args.path.now c.in-Some.at c.in-Some.ensures.1) c.in-Ok.ensures.same (c.in-Ok.ensures.ok.0 (ap Ok c.in-Ok.ensures.same))

pub returns-in-Err : goal.returns-in-Err
returns-in-Err c = λ name.
    unnamed c.args.path.now _ c.in-Some.at name c.in-Some.ensures.1 (text_behind c.args.path.now c.in-Some.at c.in-Some.ensures.1) (λ n. (let e = c.in-Err.ensures.ok.1 n in let none : ⊥ = cc in none))

pub returns-in-None : goal.returns-in-None
returns-in-None c = λ name. no_slash c.args.path.now name c.in-None.ensures
