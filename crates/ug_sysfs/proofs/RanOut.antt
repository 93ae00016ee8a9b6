-- A kernel that has run out stays so.
use Rattle.std.proofs.Common.{◌≡◌, Bool, true, false, refl, ◌∙◌, ap, inl, inr}
use Rattle.std.proofs.lemmas.Bool.{both_ways}
use Rattle.ug_kernel.specs.Calls.{Call, Names, Open, Read, Ask_alive, Put, Close, Answer}
use Rattle.ug_sysfs.specs.World.{World, Gives, answer_unless}

stays_unless : (out : Bool) (s : World) (c : Call) → out ≡ true → s.ran_out ≡ true → (answer_unless out s c).1.ran_out ≡ true
stays_unless out s (Close held) o e = e
stays_unless true s Names o e = e
stays_unless true s (Open name control) o e = e
stays_unless true s (Read name attr) o e = e
stays_unless true s (Ask_alive held) o e = e
stays_unless true s (Put held write) o e = e
stays_unless false s Names o e = absurd (both_ways false refl o)
stays_unless false s (Open name control) o e = absurd (both_ways false refl o)
stays_unless false s (Read name attr) o e = absurd (both_ways false refl o)
stays_unless false s (Ask_alive held) o e = absurd (both_ways false refl o)
stays_unless false s (Put held write) o e = absurd (both_ways false refl o)

pub stays_out : (s : World) (c : Call) (a : Answer c) (t : World) → Gives s c a t → s.ran_out ≡ true → t.ran_out ≡ true
stays_out s c a t g e = elim g [
  | inl x ↦ ap (λ (w : World). w.ran_out) x.1 ∙ stays_unless s.ran_out s c e e
  | inr y ↦ elim y [
    | inl z ↦ absurd (both_ways s.ran_out z.ran e)
    | inr z ↦ z.out
  ]
]
