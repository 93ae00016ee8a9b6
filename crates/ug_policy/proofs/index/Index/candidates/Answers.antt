use Rattle.std.proofs.Common.{◌≡◌, ◌<◌, ℕ, List, length, arith, sym, ap, ◌∙◌, subst}
use Rattle.ug_policy.specs.declared.reach.Reach.{Reach}
use Rattle.ug_policy.specs.Candidates.{AreCandidates, Indexed}
use Rattle.ug_policy.specs.Places.{places_of}
use Rattle.ug_policy.specs.Reaches.{remainder}
use Rattle.ug_policy.proofs.Standing.{candidates_are}
use Rattle.ug_policy.proofs.index.Index.candidates.Goals as goal

pub returns-clause-candidates : goal.returns-clause-candidates
returns-clause-candidates c = λ queries s.
    let seen : c.self.inside.reaches.items ≡ c.args.self.now.reaches = ap (λ (v : Indexed). v.reaches) c.self.view_is in
    let r = c.remainder.result in
    let d = c.index-self-remainder.result in
    let within : r < length c.self.inside.lists = omega (arith, c.remainder.ensures.below, c.self.invariant.long) in
    let places =
    c.as_slice.ensures.value
    ∙ (c.self.invariant.kept r d within).items
    ∙ ap (λ (n : ℕ). places_of n c.self.inside.reaches.items) c.remainder.ensures.value
    ∙ ap (λ (v : List Reach). places_of (remainder c.args.vendor c.args.product) v) (seen ∙ s) in
    subst (λ (ps : List ℕ). AreCandidates queries c.args.vendor c.args.product ps) (sym places) (candidates_are queries c.args.vendor c.args.product)
