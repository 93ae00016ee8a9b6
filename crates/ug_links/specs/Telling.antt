-- What an object in memory tells grows by what its call gave.
use Rattle.std.proofs.Common.{◌≡◌, ℕ, suc, ◌-◌, ◌^◌, nat_lt, cond, true, false, Bool, List, [], ◌∷◌, Some, None, refl, sym, ap, subst, ◌∙◌, arith}
use Rattle.ug_types.specs.Told.{GrowsBy, given_by, one_more, told_by_count}
use Rattle.ug_links.specs.Clocks.{GivesMoment, moment_at, moments_told}
use Rattle.ug_links.specs.Waits.{GivesTokens, Waited, wait_tokens, tokens_told, waited_at}
use Rattle.ug_types.specs.declared.verdict.Moment.{Moment}
use Rattle.ug_links.specs.declared.waiter.Ready.{Ready}
use Rattle.ug_links.specs.declared.list_clock.ListClock.{ListClock}
use Rattle.ug_links.specs.declared.list_waiter.ListWaiter.{ListWaiter}

told_cases : {A : Type 0} (gives : ℕ → List A) (n m : ℕ) (after : List A) (b c : Bool)
    → nat_lt n (2 ^ 64 - 1) ≡ b → nat_lt m (2 ^ 64 - 1) ≡ c
    → m ≡ one_more n → cond c (Some (given_by gives m)) None ≡ Some after
    → GrowsBy (cond b (Some (given_by gives n)) None) (gives n) after
told_cases gives n m after true true e f is told =
    let same : m ≡ suc n = grind (arith, e, f, is) in
    let grown : given_by gives m ≡ after = cc in
    (given_by gives n, refl, sym grown ∙ ap (given_by gives) same)
told_cases gives n m after false true e f is told =
    let none : ⊥ = grind (arith, e, f, is) in absurd none
told_cases gives n m after b false e f is told = let none : ⊥ = cc in absurd none

told_grows : {A : Type 0} (gives : ℕ → List A) (n m : ℕ) (after : List A) → m ≡ one_more n
    → told_by_count gives m ≡ Some after → GrowsBy (told_by_count gives n) (gives n) after
told_grows gives n m after is told =
    told_cases gives n m after (nat_lt n (2 ^ 64 - 1)) (nat_lt m (2 ^ 64 - 1)) refl refl is told

pub moments_grow : (s : ListClock) (moment : Moment) (t : ListClock) (after : List Moment)
    → GivesMoment s moment t → moments_told t.moments.items t.calls ≡ Some after
    → GrowsBy (moments_told s.moments.items s.calls) (moment ∷ []) after
moments_grow s moment t after gives told =
    let same : moments_told t.moments.items t.calls ≡ moments_told s.moments.items t.calls =
    ap (λ ms. moments_told ms.items t.calls) gives.moments in
    subst (λ (m : Moment). GrowsBy (moments_told s.moments.items s.calls) (m ∷ []) after)
    (sym gives.answer)
    (told_grows (λ call. moment_at s.moments.items call
    ∷ []) s.calls t.calls after gives.calls (sym same ∙ told))

pub tokens_grow : (s : ListWaiter) (wait : Waited) (t : ListWaiter) (after : List (List Ready))
    → GivesTokens s wait t → tokens_told t.planned.items t.calls ≡ Some after
    → GrowsBy (tokens_told s.planned.items s.calls) (wait_tokens wait) after
tokens_grow s wait t after gives told =
    let same : tokens_told t.planned.items t.calls ≡ tokens_told s.planned.items t.calls =
    ap (λ ws. tokens_told ws.items t.calls) gives.planned in
    subst (λ (w : Waited). GrowsBy (tokens_told s.planned.items s.calls) (wait_tokens w) after)
    (sym gives.answer)
    (told_grows (λ call.
    wait_tokens (waited_at s.planned.items call)) s.calls t.calls after gives.calls (sym same
    ∙ told))
