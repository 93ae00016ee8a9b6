-- One interface more.
use Rattle.std.proofs.Common.{◌≡◌, ℕ, ◌+◌, ◌<◌, Bool, true, false, ◌&&◌, cond, List, ◌∷◌, length, get_or, drop, refl, sym, ap, ◌∙◌, subst}
use Rattle.std.proofs.lemmas.List.{drop_more}
use Rattle.std.proofs.lemmas.Bool.{cond-true, cond-false}
use Rattle.ug_types.specs.declared.record.Triple.{Triple}
use Rattle.ug_kernel.specs.Calls.{Closed}
use Rattle.ug_iface.specs.Calls.{IfaceCall, IfaceAnswer, Close}
use Rattle.ug_iface.specs.Look.{looking}
use Rattle.ug_iface.specs.Named.{is_named_off}
use Rattle.ug_iface.specs.Tree.{IfaceProg, Return, RunsIfaces, then_iface}
use Rattle.ug_iface.specs.Settle.{Aim, after_look, leaving, settling_iface, switching, walking}
use Rattle.ug_iface.specs.declared.calls.IfaceHeld.{IfaceHeld}
use Rattle.ug_iface.specs.declared.look.Look.{Look}
use Rattle.ug_iface.specs.declared.look.Look.TheVariants as look
use Rattle.ug_iface.specs.declared.name.IfaceName.{IfaceName}
use Rattle.ug_iface.specs.declared.settle.IfaceEntry.{IfaceEntry}
use Rattle.ug_iface.specs.declared.settle.Passed.{Passed}
use Rattle.ug_iface.specs.declared.settle.Passed.TheVariants as passed
use Rattle.ug_iface.proofs.Runs.{runs_then}

next_of : {X : Type 0} (xs : List X) (i : ℕ) (x : X) → i < length xs → x ≡ get_or xs i x → drop i xs ≡ x ∷ drop (i + 1) xs
next_of {X} xs i x lt e = drop_more xs i x lt ∙ ap (λ (y : X). y ∷ drop (i + 1) xs) (sym e)

abbrev goes_on : Aim → List IfaceName → Bool × List IfaceEntry → IfaceProg (Passed × List IfaceEntry)
goes_on aim names p = cond p.0 (walking aim names p.1) (Return (passed.Gone, p.1))

pub walking_more : {S : Type 0} (serves : S → (call : IfaceCall) → IfaceAnswer call → S → Type 0) (aim : Aim) (names : List IfaceName) (i : ℕ) (name : IfaceName) (es more : List IfaceEntry) (s u : S) (there : Bool) → there ≡ true → i < length names → name ≡ get_or names i name → RunsIfaces serves s (settling_iface aim name es) (there, more) u → (r : Passed × List IfaceEntry) (t : S) → RunsIfaces serves u (walking aim (drop (i + 1) names) more) r t → RunsIfaces serves s (walking aim (drop i names) es) r t
walking_more serves aim names i name es more s u there stays lt e h r t k =
    subst (λ (xs : List IfaceName). RunsIfaces serves s (walking aim xs es) r t) (sym (next_of names i name lt e))
    (runs_then serves s (settling_iface aim name es) (goes_on aim (drop (i + 1) names)) (there, more) u r t h
    (subst (λ (p : IfaceProg (Passed × List IfaceEntry)). RunsIfaces serves u p r t) (sym (cond-true there (walking aim (drop (i + 1) names) more) (Return (passed.Gone, more)) stays)) k))

pub walking_ends : {S : Type 0} (serves : S → (call : IfaceCall) → IfaceAnswer call → S → Type 0) (aim : Aim) (names : List IfaceName) (i : ℕ) (name : IfaceName) (es more : List IfaceEntry) (s u : S) (there : Bool) → there ≡ false → i < length names → name ≡ get_or names i name → RunsIfaces serves s (settling_iface aim name es) (there, more) u → RunsIfaces serves s (walking aim (drop i names) es) (passed.Gone, more) u
walking_ends serves aim names i name es more s u there not_so lt e h =
    subst (λ (xs : List IfaceName). RunsIfaces serves s (walking aim xs es) (passed.Gone, more) u) (sym (next_of names i name lt e))
    (runs_then serves s (settling_iface aim name es) (goes_on aim (drop (i + 1) names)) (there, more) u (passed.Gone, more) u h
    (subst (λ (p : IfaceProg (Passed × List IfaceEntry)). RunsIfaces serves u p (passed.Gone, more) u) (sym (cond-false there (walking aim (drop (i + 1) names) more) (Return (passed.Gone, more)) not_so)) (refl, refl)))

-- ---- by what was found of it

abbrev pub there_with : List IfaceEntry → Bool × List IfaceEntry
there_with es = (true, es)

abbrev told_there : List IfaceEntry → IfaceProg (Bool × List IfaceEntry)
told_there es = Return (there_with es)

pub both_true : (a b c : Bool) → a ≡ true → c ≡ b → c ≡ true → a && b ≡ true
both_true a b c on same so = rw on (sym same ∙ so)

pub not_second : (a b c : Bool) → c ≡ b → c ≡ false → a && b ≡ false
not_second true b c same so = sym same ∙ so
not_second false b c same so = refl

pub not_first : (a b : Bool) → a ≡ false → a && b ≡ false
not_first a b off = rw off

pub found_so : {S : Type 0} (serves : S → (call : IfaceCall) → IfaceAnswer call → S → Type 0) (aim : Aim) (name : IfaceName) (es : List IfaceEntry) (found seen : Look) (s u : S) (r : Bool × List IfaceEntry) (t : S) → RunsIfaces serves s (looking name aim.held) found u → found ≡ seen → RunsIfaces serves u (after_look aim name es seen) r t → RunsIfaces serves s (settling_iface aim name es) r t
found_so serves aim name es found seen s u r t h e k =
    runs_then serves s (looking name aim.held) (after_look aim name es) seen u r t
    (subst (λ (x : Look). RunsIfaces serves s (looking name aim.held) x u) e h) k

pub switched_off : {S : Type 0} (serves : S → (call : IfaceCall) → IfaceAnswer call → S → Type 0) (aim : Aim) (name : IfaceName) (es more : List IfaceEntry) (file : IfaceHeld) (triple : Triple) (on : Bool) (s t : S) → on && is_named_off aim.rules aim.device triple ≡ true → RunsIfaces serves s (switching aim.number name file es) more t → RunsIfaces serves s (after_look aim name es (look.Here file triple on)) (true, more) t
switched_off serves aim name es more file triple on s t e h =
    subst (λ (p : IfaceProg (Bool × List IfaceEntry)). RunsIfaces serves s p (true, more) t)
    (sym (cond-true (on && is_named_off aim.rules aim.device triple) (then_iface (switching aim.number name file es) told_there) (leaving file es) e))
    (runs_then serves s (switching aim.number name file es) told_there more t (true, more) t h (refl, refl))

pub left_on : {S : Type 0} (serves : S → (call : IfaceCall) → IfaceAnswer call → S → Type 0) (aim : Aim) (name : IfaceName) (es : List IfaceEntry) (file : IfaceHeld) (triple : Triple) (on : Bool) (s t : S) → on && is_named_off aim.rules aim.device triple ≡ false → serves s (Close file.0) Closed t → RunsIfaces serves s (after_look aim name es (look.Here file triple on)) (true, es) t
left_on serves aim name es file triple on s t e h =
    subst (λ (p : IfaceProg (Bool × List IfaceEntry)). RunsIfaces serves s p (true, es) t)
    (sym (cond-false (on && is_named_off aim.rules aim.device triple) (then_iface (switching aim.number name file es) told_there) (leaving file es) e))
    (Closed, t, h, (refl, refl))
