use Rattle.std.proofs.Common.{◌≡◌, ℕ, ◌+◌, ◌<◌, ◌≤◌, arith, List, ◌∷◌, length, get_or, drop, Result, Err, refl, sym, ap, subst, ◌∙◌}
use Rattle.std.proofs.lemmas.List.{drop_more}
use Rattle.std.proofs.lemmas.Result.{err_from_is_err_and}
use Rattle.ug_types.specs.Principals.{Named}
use Rattle.ug_links.specs.declared.links.Listening.{Listening}
use Rattle.ug_links.specs.declared.step.LinkStep.{LinkStep}
use Rattle.ug_links.specs.declared.step.LinkStep.TheVariants.{Listened}
use Rattle.ug_links.specs.Talk.{Talks}
use Rattle.ug_serve.specs.Listening.{listened, listening, unless_refused}
use Rattle.ug_serve.specs.declared.listening.NotListening.{NotListening}
use Rattle.ug_serve.proofs.listening.listen_for_all.Goals as goal

module _ {N : Type 0} (gives : N → LinkStep → N → Type 0) (all : List Named) (i : ℕ) (who : Named) (lt : i < length all) (e : who ≡ get_or all i who) (answer : Listening) (s u : N) (asked : gives s (Listened who answer) u) where
  next_of : drop i all ≡ who ∷ drop (i + 1) all
  next_of = drop_more all i who lt ∙ ap (λ (w : Named). w ∷ drop (i + 1) all) (sym e)

  listened_more : (r : Result (Unit {0}) NotListening) (t : N) → Talks gives u (unless_refused (listening (drop (i + 1) all)) (listened answer)) r t → Talks gives s (listening (drop i all)) r t
  listened_more r t k = subst (λ (ws : List Named). Talks gives s (listening ws) r t) (sym next_of) (answer, u, asked, k)

  refused : (cause : NotListening) → Err cause ≡ listened answer → Talks gives s (listening (drop i all)) (Err cause) u
  refused cause f = listened_more (Err cause) u (subst (λ (o : Result (Unit {0}) NotListening). Talks gives u (unless_refused (listening (drop (i + 1) all)) o) (Err cause) u) f (refl, refl))

not_above : (a b c : ℕ) → a ≤ b → b ≤ c → a ≤ c
not_above a b c h k = omega arith

pub loop-who-preserved : goal.loop-who-preserved
loop-who-preserved g c = record {
  runs = λ r t k. c.loop-who.invariant.runs r t (listened_more g.N.Links.gives c.args.principals.now c.loop-who.who-index c.who-item.result c.loop-who-test.true c.who-item.is c.listen.result c.loop-who.links c.listen.new.self c.listen.ensures.gives r t
      (subst (λ (o : Result (Unit {0}) NotListening). Talks g.N.Links.gives c.listen.new.self (unless_refused (listening (drop (c.loop-who.who-index + 1) c.args.principals.now)) o) r t) c.in_ok-listener_of.ensures.listened k));
  counted = not_above (g.N.Links.faults c.args.links.now) (g.N.Links.faults c.loop-who.links) (g.N.Links.faults c.listen.new.self) c.loop-who.invariant.counted c.listen.ensures.counted.0;
}

pub returns-in_err-listener_of-clause-listens : goal.returns-in_err-listener_of-clause-listens
returns-in_err-listener_of-clause-listens g c =
    let p = err_from_is_err_and c.from_residual.result c.from_residual.ensures.1 in
    rw (p.1, p.2) (c.loop-who.invariant.runs (Err c.in_err-listener_of.field-0.0) c.listen.new.self (refused g.N.Links.gives c.args.principals.now c.loop-who.who-index c.who-item.result c.loop-who-test.true c.who-item.is c.listen.result c.loop-who.links c.listen.new.self c.listen.ensures.gives c.in_err-listener_of.field-0.0 c.in_err-listener_of.ensures.listened))
