-- Who is told that a line is too long has such a line.
use Rattle.std.proofs.Common.{◌≡◌, ℕ, Bool, true, false, cond, not, List, [], ◌∷◌, ◌++◌, refl, sym, ap, ◌∙◌}
use Rattle.ug_links.specs.declared.waiter.LinkId.{LinkId}
use Rattle.ug_links.specs.declared.step.LinkStep.{LinkStep}
use Rattle.ug_proto.specs.Lines as proto
use Rattle.ug_proto.specs.Lines.{Begun, Partial, begun_after}
use Rattle.ug_proto.proofs.Pieces.{begun_more, stays_overlong}
use Rattle.ug_sessions.specs.declared.session.Session.{Session}
use Rattle.ug_sessions.specs.declared.session.Life.{Life}
use Rattle.ug_sessions.specs.declared.session.Life.TheVariants as life
use Rattle.ug_sessions.specs.Sessions.{is_open_life, is_overlong}
use Rattle.ug_sessions.specs.Answering.{is_due}
use Rattle.ug_sessions.specs.Due.{Said, Answered, Watched, Noticed, Overlong, overlong_all}
use Rattle.ug_sessions.specs.Handed.{bytes_read, lines_handed, AreLinesBy, AllLines, IsLineTooLong}
use Rattle.ug_sessions.specs.Known.{AreLinesTooLong}
use Rattle.ug_sessions.proofs.LinesRead.{read-append}

no_truth : (false ≡ true) → ⊥
no_truth e = cc

over_is : (b : Begun) → is_overlong b ≡ true → b ≡ proto.Overlong
over_is (proto.Partial bytes) e = absurd (no_truth e)
over_is proto.Overlong e = refl
over_is proto.Out_of_memory e = absurd (no_truth e)

-- more is read, and the line stays too long
still_long : (id : LinkId) (a b : List LinkStep) → IsLineTooLong id a → IsLineTooLong id (a ++ b)
still_long id a b h =
    let start : Begun = Partial [] in
    let at : begun_after start (bytes_read id a) ≡ proto.Overlong = over_is (begun_after start (bytes_read id a)) h in
    ap (λ (l : List ℕ). is_overlong (begun_after start l)) (read-append id a b) ∙ ap is_overlong (begun_more start (bytes_read id a) (bytes_read id b)) ∙ ap (λ (m : Begun). is_overlong (begun_after m (bytes_read id b))) at ∙ ap is_overlong (stays_overlong (bytes_read id b))

pub all_still : (a b : List LinkStep) (said : List Said) → AreLinesTooLong a said → AreLinesTooLong (a ++ b) said
all_still a b [] h = tt
all_still a b (Answered id text ∷ said) h = all_still a b said h
all_still a b (Watched id ∷ said) h = all_still a b said h
all_still a b (Noticed section text ∷ said) h = all_still a b said h
all_still a b (Overlong id ∷ said) h = (still_long id a b h.0, all_still a b said h.1)

pub long_append : (steps : List LinkStep) (x y : List Said) → AreLinesTooLong steps x → AreLinesTooLong steps y → AreLinesTooLong steps (x ++ y)
long_append steps [] y h k = k
long_append steps (Answered id text ∷ x) y h k = long_append steps x y h k
long_append steps (Watched id ∷ x) y h k = long_append steps x y h k
long_append steps (Noticed section text ∷ x) y h k = long_append steps x y h k
long_append steps (Overlong id ∷ x) y h k = (h.0, long_append steps x y h.1 k)

second : (a b : Bool) → cond a b false ≡ true → b ≡ true
second true b e = e
second false b e = absurd (no_truth e)

life_long : (l : Life) (steps : List LinkStep) (lines : List (List ℕ)) (s : Session) → AreLinesBy l lines (bytes_read s.id steps) s → cond (cond (is_open_life l) (not s.refused) false) s.overlong false ≡ true → IsLineTooLong s.id steps
life_long life.Open steps lines s h e = ap is_overlong (sym h.begun) ∙ sym h.limit ∙ second (not s.refused) s.overlong e
life_long (life.Doomed w) steps lines s h e = absurd (no_truth e)
life_long (life.Closed w) steps lines s h e = absurd (no_truth e)

pub overlongs_long : (steps : List LinkStep) (handed : List (LinkId × List ℕ)) (ss : List Session) → AllLines steps handed ss → AreLinesTooLong steps (overlong_all ss)
overlongs_long steps handed [] h = tt
overlongs_long steps handed (s ∷ ss) h =
    let T : Bool → Type 0 = λ v. is_due s ≡ v → AreLinesTooLong steps (cond v (Overlong s.id ∷ []) [] ++ overlong_all ss) in
    let f : (v : Bool) → T v = λ v. elim v as T [
      | true ↦ λ e. (life_long s.life steps (lines_handed s.id handed) s h.0 e, overlongs_long steps handed ss h.1)
      | false ↦ λ e. overlongs_long steps handed ss h.1
    ] in
    f (is_due s) refl
