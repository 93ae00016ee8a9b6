-- The writes of a device ask alike, whatever the entries before them are.
use Rattle.std.proofs.Common.{◌≡◌, ℕ, Bool, true, false, List, [], ◌∷◌, ◌++◌, Option, Some, None, refl, subst}
use Rattle.ug_kernel.specs.declared.control.Write.{Write}
use Rattle.ug_kernel.specs.declared.calls.Wrote.{Wrote}
use Rattle.ug_kernel.specs.declared.calls.FailedCall.{FailedCall}
use Rattle.ug_kernel.specs.Calls.{Close}
use Rattle.ug_kernel.specs.Tree.{Return, Ask, then}
use Rattle.ug_kernel.specs.declared.removal.RemoveHold.{RemoveHold}
use Rattle.ug_kernel.specs.Removal.{holding}
use Rattle.ug_audit.specs.declared.entry.Entry.{Entry}
use Rattle.ug_table.specs.Done.{control_of}
use Rattle.ug_table.specs.Bring.{wants, write_of, after_write, to_write, to_value, valuing, after_hold, once, is_to_go, if_to_go, after_value, writing, close_gone, bringing, default_due, defaulted_known, after_default, by_default, treating}
use Rattle.ug_table.specs.declared.standing.Known.{Known}
use Rattle.ug_table.specs.declared.standing.Settled.{Settled}
use Rattle.ug_hint_laws.proofs.Alike.{Alike, Ends, alike_then}
use Rattle.ug_hint_laws.proofs.Asking.{Beside, beside_more, asks_put, asks_close}
use Rattle.ug_hint_laws.proofs.Bindings.{one_then, one_holding}

-- how it ended is one, and the entries are beside
pub record Wrote_alike (a b : List Entry) (p q : Settled × List Entry) : Type 0 where
  pub how : p.0 ≡ q.0
  pub entries : Beside a b p.1 q.1

-- and whether the default was written
pub record Treated_alike (a b : List Entry) (p q : Settled × Bool × List Entry) : Type 0 where
  pub how : p.0 ≡ q.0
  pub done : p.1 ≡ q.1
  pub entries : Beside a b p.2 q.2

module _ (P : List ℕ → Type 0) (a b : List Entry) where
  abbrev W : Settled × List Entry → Settled × List Entry → Type 0
  W = Wrote_alike a b

  abbrev T : Settled × Bool × List Entry → Settled × Bool × List Entry → Type 0
  T = Treated_alike a b

  ends : (how : Settled) (e f : List Entry) → Beside a b e f → Alike P W (Return (how, e)) (Return (how, f))
  ends how e f x = Ends (how, e) (how, f) (record { how = refl; entries = x })

  done : (name : List ℕ) (number : ℕ) (what : Write) (e f : List Entry) (x y : FailedCall) → Beside a b e f → Alike P W (after_write name number what e Wrote.Done x) (after_write name number what f Wrote.Done y)
  done name number what e f x y z = ends Settled.Stands (e ++ Entry.Wrote number name what Wrote.Done ∷ []) (f ++ Entry.Wrote number name what Wrote.Done ∷ []) (beside_more a b e f (Entry.Wrote number name what Wrote.Done ∷ []) z)

  went : (name : List ℕ) (number : ℕ) (what : Write) (e f : List Entry) (x y : FailedCall) → Beside a b e f → Alike P W (after_write name number what e Wrote.Gone x) (after_write name number what f Wrote.Gone y)
  went name number what e f x y z =
      let told : List Entry = Entry.Wrote number name what Wrote.Gone ∷ [] in
      let gone : List Entry = Entry.Gone number name ∷ [] in
      ends Settled.Nobody ((e ++ told) ++ gone) ((f ++ told) ++ gone) (beside_more a b (e ++ told) (f ++ told) gone (beside_more a b e f told z))

  writes : (name : List ℕ) (known : Known) (what : Write) (e f : List Entry) → Beside a b e f → Alike P W (to_write name known what e) (to_write name known what f)
  writes name known what e f z =
      let told : List Entry = Entry.Intent known.number name what ∷ [] in
      let y = beside_more a b e f told z in
      asks_put P W known.held.0 what (λ r x. after_write name known.number what (e ++ told) r x) (λ r x. after_write name known.number what (f ++ told) r x)
      (λ u v. done name known.number what (e ++ told) (f ++ told) u v y)
      (λ u v. went name known.number what (e ++ told) (f ++ told) u v y)

  values : (name : List ℕ) (known : Known) (on : Bool) (e f : List Entry) → Beside a b e f → Alike P W (valuing name known on e) (valuing name known on f)
  unfolding valuing
  values name known on e f z = by (wants known.verdict) on
    where
      by : (u v : Bool) → Alike P W (to_value name known e u v) (to_value name known f u v)
      by true true = ends Settled.Stands e f z
      by false false = ends Settled.Stands e f z
      by true false = writes name known (write_of known.verdict) e f z
      by false true = writes name known (write_of known.verdict) e f z

  once_alike : (name : List ℕ) (known : Known) (what : Write) (e f : List Entry) → Beside a b e f → Alike P W (once name known what e) (once name known what f)
  unfolding once
  once_alike name known what e f z = one_then P W (holding (control_of what) name known.held.0) (after_hold name known what e) (after_hold name known what f) (one_holding P (control_of what) name known.held.0) by
    where
      by : (r : RemoveHold) → Alike P W (after_hold name known what e r) (after_hold name known what f r)
      by (RemoveHold.Ready file) =
          let told : List Entry = Entry.Intent known.number name what ∷ [] in
          let y = beside_more a b e f told z in
          asks_put P W file.0 what (λ r x. Ask (Close file.0) (λ closed. after_write name known.number what (e ++ told) r x)) (λ r x. Ask (Close file.0) (λ closed. after_write name known.number what (f ++ told) r x))
          (λ u v. asks_close P W file.0 (after_write name known.number what (e ++ told) Wrote.Done u) (after_write name known.number what (f ++ told) Wrote.Done v) (done name known.number what (e ++ told) (f ++ told) u v y))
          (λ u v. asks_close P W file.0 (after_write name known.number what (e ++ told) Wrote.Gone u) (after_write name known.number what (f ++ told) Wrote.Gone v) (went name known.number what (e ++ told) (f ++ told) u v y))
      by RemoveHold.Gone = ends Settled.Nobody (e ++ Entry.Gone known.number name ∷ []) (f ++ Entry.Gone known.number name ∷ []) (beside_more a b e f (Entry.Gone known.number name ∷ []) z)
      by (RemoveHold.Failed failed) = ends (Settled.Fault failed) e f z
      by RemoveHold.Memory = ends Settled.Memory e f z

  writing_alike : (name : List ℕ) (known : Known) (on : Bool) (e f : List Entry) → Beside a b e f → Alike P W (writing name known on e) (writing name known on f)
  unfolding writing
  writing_alike name known on e f z = alike_then W W (valuing name known on e) (valuing name known on f) (λ p. after_value name known p.1 p.0) (λ p. after_value name known p.1 p.0) (values name known on e f z)
      (λ p q w. subst (λ (how : Settled). Alike P W (after_value name known p.1 p.0) (after_value name known q.1 how)) w.how (by p.0 p.1 q.1 w.entries))
    where
      go : (u : Bool) (x y : List Entry) → Beside a b x y → Alike P W (if_to_go name known x u) (if_to_go name known y u)
      go true x y w = once_alike name known Write.Remove x y w
      go false x y w = ends Settled.Stands x y w

      by : (how : Settled) (x y : List Entry) → Beside a b x y → Alike P W (after_value name known x how) (after_value name known y how)
      by Settled.Stands x y w = go (is_to_go known) x y w
      by Settled.Nobody x y w = ends Settled.Nobody x y w
      by (Settled.Fault failed) x y w = ends (Settled.Fault failed) x y w
      by Settled.Memory x y w = ends Settled.Memory x y w

  bringing_alike : (name : List ℕ) (known : Known) (on : Bool) (e f : List Entry) → Beside a b e f → Alike P W (bringing name known on e) (bringing name known on f)
  unfolding bringing
  bringing_alike name known on e f z = alike_then W W (writing name known on e) (writing name known on f) (λ p. close_gone known.held.0 p.1 p.0) (λ p. close_gone known.held.0 p.1 p.0) (writing_alike name known on e f z)
      (λ p q w. subst (λ (how : Settled). Alike P W (close_gone known.held.0 p.1 p.0) (close_gone known.held.0 q.1 how)) w.how (by p.0 p.1 q.1 w.entries))
    where
      by : (how : Settled) (x y : List Entry) → Beside a b x y → Alike P W (close_gone known.held.0 x how) (close_gone known.held.0 y how)
      by Settled.Stands x y w = ends Settled.Stands x y w
      by Settled.Nobody x y w = asks_close P W known.held.0 (Return (Settled.Nobody, x)) (Return (Settled.Nobody, y)) (ends Settled.Nobody x y w)
      by (Settled.Fault failed) x y w = ends (Settled.Fault failed) x y w
      by Settled.Memory x y w = ends Settled.Memory x y w

  ends_so : (how : Settled) (d : Bool) (e f : List Entry) → Beside a b e f → Alike P T (Return (how, d, e)) (Return (how, d, f))
  ends_so how d e f x = Ends (how, d, e) (how, d, f) (record { how = refl; done = refl; entries = x })

  brought_so : (name : List ℕ) (known : Known) (on d : Bool) (e f : List Entry) → Beside a b e f → Alike P T (then (bringing name known on e) (λ p. Return (p.0, d, p.1))) (then (bringing name known on f) (λ p. Return (p.0, d, p.1)))
  brought_so name known on d e f z = alike_then W T (bringing name known on e) (bringing name known on f) (λ p. Return (p.0, d, p.1)) (λ p. Return (p.0, d, p.1)) (bringing_alike name known on e f z)
      (λ p q w. Ends (p.0, d, p.1) (q.0, d, q.1) (record { how = w.how; done = refl; entries = w.entries }))

  pub treating_alike : (hub : Option Write) (name : List ℕ) (known : Known) (on : Bool) (e f : List Entry) → Beside a b e f → Alike P (Treated_alike a b) (treating hub name known on e) (treating hub name known on f)
  unfolding treating
  treating_alike hub name known on e f z = by (default_due hub name known)
    where
      after : (how : Settled) (x y : List Entry) → Beside a b x y → Alike P T (after_default name known on x how) (after_default name known on y how)
      after Settled.Stands x y w = brought_so name (defaulted_known known) on true x y w
      after Settled.Nobody x y w = asks_close P T known.held.0 (Return (Settled.Nobody, false, x)) (Return (Settled.Nobody, false, y)) (ends_so Settled.Nobody false x y w)
      after (Settled.Fault failed) x y w = ends_so (Settled.Fault failed) false x y w
      after Settled.Memory x y w = ends_so Settled.Memory false x y w

      by : (o : Option Write) → Alike P T (by_default name known on e o) (by_default name known on f o)
      by None = brought_so name known on false e f z
      by (Some what) = alike_then W T (once name known what e) (once name known what f) (λ p. after_default name known on p.1 p.0) (λ p. after_default name known on p.1 p.0) (once_alike name known what e f z)
          (λ p q w. subst (λ (how : Settled). Alike P T (after_default name known on p.1 p.0) (after_default name known on q.1 how)) w.how (after p.0 p.1 q.1 w.entries))
