-- One name more.
use Rattle.std.proofs.Common.{◌≡◌, ℕ, ◌+◌, ◌<◌, ◌≤◌, Bool, Option, List, ◌∷◌, length, get_or, drop, refl, sym, ap, ◌∙◌, subst, arith}
use Rattle.std.proofs.lemmas.List.{drop_more}
use Rattle.ug_kernel.specs.Tree.{Prog, Return}
use Rattle.ug_table.proofs.Common.{Terms, Write, Wrote, FailedCall, Entry, Standing, Call, Answer, Runs, after_write, State, Kept, Answers, Laters, Settled, settling_all, resettling_all, settling, resettling}
use Rattle.ug_kernel.proofs.Runs.{runs_then}
use Rattle.ug_audit.specs.declared.journal.Journal.{Journal}
use Rattle.ug_audit.specs.Journal.{Notes, AuditorTold}
use Rattle.ug_audit.proofs.Noting.{goes_on}

next_of : {X : Type 0} (xs : List X) (i : ℕ) (x : X) → i < length xs → x ≡ get_or xs i x → drop i xs ≡ x ∷ drop (i + 1) xs
next_of {X} xs i x lt e = drop_more xs i x lt ∙ ap (λ (y : X). y ∷ drop (i + 1) xs) (sym e)

pub settling_more : {S J : Type 0} (gives : S → (call : Call) → Answer call → S → Type 0) (answer : Answers J) (later : Laters J) (names : List (List ℕ)) (terms : Terms) (i : ℕ) (name : List ℕ) (w : State J) (s u : S) (p : Settled × State J) → i < length names → name ≡ get_or names i name → Runs gives s (settling answer later name terms w) p u → (r : State J) (t : S) → Runs gives u (settling_all answer later (drop (i + 1) names) terms p.1) r t → Runs gives s (settling_all answer later (drop i names) terms w) r t
settling_more {S} {J} gives answer later names terms i name w s u p lt e h r t k =
    subst (λ (xs : List (List ℕ)). Runs gives s (settling_all answer later xs terms w) r t) (sym (next_of names i name lt e))
    (runs_then gives s (settling answer later name terms w) (λ (q : Settled × State J). settling_all answer later (drop (i + 1) names) terms q.1) p u r t h k)

pub resettling_more : {S : Type 0} (gives : S → (call : Call) → Answer call → S → Type 0) (hub : Option Write) (names : List (List ℕ)) (i : ℕ) (name : List ℕ) (w : Kept) (s u : S) (p : Settled × Kept) → i < length names → name ≡ get_or names i name → Runs gives s (resettling hub name w) p u → (r : Kept) (t : S) → Runs gives u (resettling_all hub (drop (i + 1) names) p.1) r t → Runs gives s (resettling_all hub (drop i names) w) r t
resettling_more {S} gives hub names i name w s u p lt e h r t k =
    subst (λ (xs : List (List ℕ)). Runs gives s (resettling_all hub xs w) r t) (sym (next_of names i name lt e))
    (runs_then gives s (resettling hub name w) (λ (q : Settled × Kept). resettling_all hub (drop (i + 1) names) q.1) p u r t h k)

-- what is noted in two parts
pub notes_then : {X : Type 0} {F : X → Type 0} (told : AuditorTold X F) (m n most : ℕ) (a b c : Journal X F) → Notes told m a b → Notes told n b c → m + n ≤ most → Notes told most a c
notes_then told m n most a b c h k le = (goes_on told a b c h.0 k.0, k.1 ∙ h.1, omega (arith, h.2, k.2, le))

-- a state whose fields are those of another
pub same_state : {J : Type 0} (ss rs : List Standing) (next after : ℕ) (listed seen : Bool) (judge : J) (hub : Option Write) (es : List Entry) → rs ≡ ss → after ≡ next → seen ≡ listed → let made : State J = record { standings = rs; next = after; listed = seen; judge = judge; hub = hub; entries = es } in let was : State J = record { standings = ss; next = next; listed = listed; judge = judge; hub = hub; entries = es } in made ≡ was
same_state ss rs next after listed seen judge hub es a b c = λ i. record { standings = a i; next = b i; listed = c i; judge = judge; hub = hub; entries = es }

-- the outcome of a write, noted behind its intent
pub noted_write : {S : Type 0} (gives : S → (call : Call) → Answer call → S → Type 0) (s : S) (name : List ℕ) (number : ℕ) (what : Write) (before entries : List Entry) (outcome : Wrote) (failed told : FailedCall) (r : Settled × List Entry) → entries ≡ before → failed ≡ told → after_write name number what entries outcome failed ≡ Return r → Runs gives s (after_write name number what before outcome told) r s
noted_write gives s name number what before entries outcome failed told r e f h =
    subst (λ (es : List Entry). Runs gives s (after_write name number what es outcome told) r s) e
    (subst (λ (x : FailedCall). Runs gives s (after_write name number what entries outcome x) r s) f
    (subst (λ (p : Prog (Settled × List Entry)). Runs gives s p r s) (sym h) (refl, refl)))
