use Rattle.std.proofs.Common.{◌≡◌, ◌<◌, ◌+◌, ℕ, Bool, true, false, cond, List, ◌∷◌, Some, length, get_or, drop, nat_eq, sym, ap, ◌∙◌}
use Rattle.std.specs.Cmp.Lexicographic.{pointwise}
use Rattle.std.specs.List.{find}
use Rattle.std.proofs.lemmas.List.{at_drop_all, at_drop_more}
use Rattle.ug_conf.proofs.spelled.spelled.Goals as goal

-- the item at a place is found, or what is found behind it
tested : {X : Type 0} (test : X → Bool) (xs : List X) (i : ℕ) (x : X) (v : Bool) → i < length xs → x ≡ get_or xs i x → test x ≡ v → find test (drop i xs) ≡ cond v (Some x) (find test (drop (i + 1) xs))
tested {X} test xs i x v h is e =
    at_drop_more (find test) xs i x h
    ∙ ap (λ (y : X). find test (y ∷ drop (i + 1) xs)) (sym is)
    ∙ ap (λ (b : Bool). cond b (Some x) (find test (drop (i + 1) xs))) e

pub returns-then-eq : goal.returns-then-eq
returns-then-eq g c =
    let test = λ (it : g.row.T.Denot). pointwise nat_eq c.args.word.now (g.T.OneWord.word_of it) in
    sym (tested test c.all-all.result.now c.loop-it.it-index c.it-item.result true c.loop-it-test.true c.it-item.is (ap (pointwise nat_eq c.args.word.now) (sym c.word.ensures) ∙ sym c.eq.ensures ∙ c.if-eq.true)) ∙ c.loop-it.invariant

pub loop-it-preserved : goal.loop-it-preserved
loop-it-preserved g c =
    let test = λ (it : g.row.T.Denot). pointwise nat_eq c.args.word.now (g.T.OneWord.word_of it) in
    sym (tested test c.all-all.result.now c.loop-it.it-index c.it-item.result false c.loop-it-test.true c.it-item.is (ap (pointwise nat_eq c.args.word.now) (sym c.word.ensures) ∙ sym c.eq.ensures ∙ c.if-eq.false)) ∙ c.loop-it.invariant

pub returns : goal.returns
returns g c =
    let test = λ (it : g.row.T.Denot). pointwise nat_eq c.args.word.now (g.T.OneWord.word_of it) in
    sym (at_drop_all (find test) c.all-all.result.now c.loop-it.it-index c.loop-it-test.false) ∙ c.loop-it.invariant
