-- Parts from the left.
use Rattle.std.proofs.Common.{◌≡◌, ℕ, suc, ◌+◌, ◌<◌, List, [], ◌∷◌, length, drop, map, slice_index_or, Bor, Result, Ok, Err, refl, sym, ap, ◌∙◌, arith, drop-cons}
use Rattle.std.proofs.Math.Bool.{or-false, or_assoc}
use Rattle.ug_types.specs.declared.access.Section.{Section}
use Rattle.ug_types.specs.declared.text_fault.LineFault.TheVariants.{Bad, Memory}
use Rattle.ug_acl.specs.declared.privileges.Privileges.{Privileges}
use Rattle.ug_types.specs.TextFaults.{IsLineRead}
use Rattle.ug_lines.specs.LineReading.{then_on}
use Rattle.ug_acl.specs.Faults.{GrantFault, GrantLineFault}
use Rattle.ug_acl.specs.Lines.{part_read, parts_read}
use Rattle.ug_acl.specs.Words.{union, no_privileges}

abbrev Reading : Type 0
Reading = Result Privileges GrantFault

-- with what is held before
abbrev pub with_held : Privileges → Reading → Reading
with_held held read = then_on read (λ more. Ok (union held more))

pub nothing_before : (read : Reading) → with_held no_privileges read ≡ read
nothing_before (Ok more) = refl
nothing_before (Err fault) = refl

nothing_behind : (held : Privileges) → union held no_privileges ≡ held
nothing_behind held = λ i. record { modify = or-false held.modify i; list = or-false held.list i; listen = or-false held.listen i }

regrouped : (a b c : Privileges) → union (union a b) c ≡ union a (union b c)
regrouped a b c = λ i. record { modify = or_assoc a.modify b.modify c.modify i; list = or_assoc a.list b.list c.list i; listen = or_assoc a.listen b.listen c.listen i }

held_first : (held first : Privileges) (read : Reading) → with_held (union held first) read ≡ with_held held (then_on read (λ more. Ok (union first more)))
held_first held first (Ok more) = ap Ok (regrouped held first more)
held_first held first (Err fault) = refl

pub goes_on : (section : Section) (place next : ℕ) (part : List ℕ) (parts : List (List ℕ)) (held first : Privileges) (read : Reading) → next ≡ place + length part + 1
    → part_read section place part ≡ Ok first → with_held held (parts_read section place (part ∷ parts)) ≡ read → with_held (union held first) (parts_read section next parts) ≡ read
unfolding parts_read
goes_on section place next part parts held first read n e q =
    ap (λ (p : ℕ). with_held (union held first) (parts_read section p parts)) n
    ∙ held_first held first (parts_read section (place + length part + 1) parts)
    ∙ sym (ap (λ (r : Reading). with_held held (then_on r (λ f. then_on (parts_read section (place + length part + 1) parts) (λ more. Ok (union f more))))) e)
    ∙ q

pub stops : (section : Section) (place : ℕ) (part : List ℕ) (parts : List (List ℕ)) (held : Privileges) (fault : GrantLineFault) (read : Reading)
    → IsLineRead {X = Privileges} (Err fault) (part_read section place part) → with_held held (parts_read section place (part ∷ parts)) ≡ read → IsLineRead {X = Privileges} (Err fault) read
unfolding parts_read
stops section place part parts held Memory read e q = tt
stops section place part parts held (Bad fault) read e q =
    sym q ∙ ap (λ (r : Reading). with_held held (then_on r (λ f. then_on (parts_read section (place + length part + 1) parts) (λ more. Ok (union f more))))) e

pub ends : (section : Section) (place : ℕ) (parts : List (List ℕ)) (held : Privileges) (read : Reading) → parts ≡ [] → with_held held (parts_read section place parts) ≡ read → read ≡ Ok held
unfolding parts_read
ends section place parts held read e q = sym q ∙ ap (λ (ps : List (List ℕ)). with_held held (parts_read section place ps)) e ∙ ap Ok (nothing_behind held)

-- the slices from one on
pub next_slice : (slices : List (Bor (List ℕ))) (i : ℕ) (d : Bor (List ℕ)) → i < length slices → map (λ part. part.now) (drop i slices) ≡ (slice_index_or slices i d).now ∷ map (λ part. part.now) (drop (i + 1) slices)
next_slice slices i d h =
    let one : suc i ≡ i + 1 = omega arith in
    ap (map (λ part. part.now)) (drop-cons slices i d h) ∙ ap (λ (k : ℕ). (slice_index_or slices i d).now ∷ map (λ part. part.now) (drop k slices)) one
