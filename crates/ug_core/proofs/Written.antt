-- What an order writes to the rule file is what it asks for.
use Rattle.std.proofs.Common.{◌≡◌, ℕ, Bool, true, cond, List, Option, Some, None, Result, Ok, Err, inl, inr, ◌⊎◌, refl, sym, ◌∙◌, ap, subst}
use Rattle.ug_types.specs.Principals.{Named}
use Rattle.ug_types.specs.declared.saved.Saved.{Saved}
use Rattle.ug_kernel.specs.Calls.{Call, Answer}
use Rattle.ug_kernel.specs.Tree.{Runs}
use Rattle.ug_store.specs.DiskCalls.{DiskCall, DiskTold}
use Rattle.ug_store.specs.Store.{RunsDisk}
use Rattle.ug_cond.specs.declared.context.Context.{Context}
use Rattle.ug_proto.specs.Privileges.{needs}
use Rattle.ug_proto.specs.Requests.{request_read}
use Rattle.ug_proto.specs.declared.request.Request.{Request}
use Rattle.ug_proto.specs.declared.request.Request.TheVariants as request
use Rattle.ug_types.specs.declared.verdict.Target.{Target}
use Rattle.ug_core.specs.Answering.{asking}
use Rattle.ug_core.specs.Changes.{change_asked}
use Rattle.ug_core.specs.Durable.{WritesEvent, change_ordered}
use Rattle.ug_core.specs.Event.{DaemonState, ready}
use Rattle.ug_core.specs.Laws.{Outcome, change_of}
use Rattle.ug_core.specs.Policy.{Judging}
use Rattle.ug_core.specs.Privileges.{is_granted}
use Rattle.ug_core.specs.Storing.{WritesRules, storing}
use Rattle.ug_core.specs.declared.changes.Change.{Change}
use Rattle.ug_core.specs.declared.changes.Change.TheVariants.{Rules, Set}
use Rattle.ug_core.specs.declared.choosing.Choice.{Choice}
use Rattle.ug_types.specs.declared.event.Event.{Event}
use Rattle.ug_types.specs.declared.event.Event.TheVariants.{Sweep, Order, Hint}
use Rattle.ug_core.specs.declared.storing.Stored.{Stored}
use Rattle.ug_core.specs.declared.storing.Stored.TheVariants as stored
use Rattle.ug_core.proofs.Asked.{Asked, Chosen, Chosen_first, Found, FoundSo, Not_found, Refused_first, Refused_so, Set_so, Told_change, Told_lines, Told_watch, asked_of}
use Rattle.ug_core.proofs.Came.{StoresAs, stores_as}
use Rattle.ug_core.proofs.Kept.{asked_anytime}

-- an order comes to no change, or to the one that it asks for
module _ {S : Type 0} (gives : S → (call : Call) → Answer call → S → Type 0) (who : Named) (line : List ℕ) (d : DaemonState) (c : Choice) (s t : S) where
  granted_change : (asked : Request) → request_read line ≡ Ok asked → is_granted d.access who (needs asked) ≡ true → c.change ≡ change_of d asked → c.change ≡ change_ordered who d (request_read line)
  granted_change asked reads granted is =
      is
      ∙ sym (ap (λ (b : Bool). cond b (change_of d asked) None) granted)
      ∙ sym (ap (λ (r : Result Request ℕ). change_ordered who d r) reads)

  chosen_so : (outcome : Outcome) (v : Choice) → Chosen d outcome v → v.change ≡ outcome.change
  chosen_so _ _ (Told_lines rows) = refl
  chosen_so _ _ (Told_change change can) = refl
  chosen_so _ _ Told_watch = refl

  found_so : (number : ℕ) (verdict : Target) (permanent on : Bool) → request_read line ≡ Ok (request.Device number verdict permanent) → is_granted d.access who (needs (request.Device number verdict permanent)) ≡ true → FoundSo d number verdict permanent on c → (c.change ≡ None) ⊎ (c.change ≡ change_ordered who d (request_read line))
  found_so number verdict permanent on reads granted (Set_so change asks some can is) = inr (granted_change (request.Device number verdict permanent) reads granted (ap (λ (v : Choice). v.change) is ∙ asks))
  found_so number verdict permanent on reads granted (Refused_so r why quiet is) = inl (ap (λ (v : Choice). v.change) is)

  chosen_or_none : Asked gives who line d c s t → (c.change ≡ None) ⊎ (c.change ≡ change_ordered who d (request_read line))
  chosen_or_none (Refused_first r why quiet is same) = inl (ap (λ (v : Choice). v.change) is)
  chosen_or_none (Chosen_first x same) = inr (granted_change x.asked x.reads x.granted (ap (λ (v : Choice). v.change) x.is ∙ chosen_so x.outcome x.chosen x.how ∙ x.asks))
  chosen_or_none (Not_found number verdict permanent x (inl m)) = inl (ap (λ (v : Choice). v.change) m.1)
  chosen_or_none (Not_found number verdict permanent x (inr m)) = inl (ap (λ (v : Choice). v.change) m.1)
  chosen_or_none (Found number verdict permanent on x alive so) = found_so number verdict permanent on x.reads x.granted so

nothing_written : (became : Stored) (o : Option Change) (p : Judging) → became ≡ stored.NotNeeded → WritesRules became o p
nothing_written became None p is = tt
nothing_written became (Some change) p is = subst (λ (b : Stored). WritesRules b (Some change) p) (sym is) (λ e. let none : ⊥ = cc in absurd none)

pub order_writes : {S T : Type 0} (gives : S → (call : Call) → Answer call → S → Type 0) (keeps : T → (call : DiskCall) → DiskTold call → T → Type 0) (who : Named) (line : List ℕ) (d : DaemonState) (c : Choice) (s t : S) (o p : T) (became : Stored) → Runs gives s (asking d who line) c t → RunsDisk keeps o (storing d c.change) became p → WritesRules became c.change d.sweep.judge → WritesRules became (change_ordered who d (request_read line)) d.sweep.judge
order_writes gives keeps who line d c s t o p became asks stores writes =
    elim (chosen_or_none gives who line d c s t (asked_of gives who line d c s t asks)) [
      | inl none ↦
          let so : StoresAs d.sweep.judge None became = subst (λ (x : Option Change). StoresAs d.sweep.judge x became) none (stores_as keeps o d c.change became p stores) in
          nothing_written became (change_ordered who d (request_read line)) d.sweep.judge so
      | inr is ↦ subst (λ (x : Option Change). WritesRules became x d.sweep.judge) is writes
    ]

-- the same from the state before a pending save

writes_anytime : (became : Stored) (o : Option Change) (p : Judging) (c : Context) → WritesRules became o (record p { ctx = c }) → WritesRules became o p
writes_anytime became None p c h = tt
writes_anytime became (Some (Rules edit)) p c h = h
writes_anytime became (Some (Set set)) p c h = λ e. tt

pub ready_writes : (event : Event) (tried : Option Saved) (d : DaemonState) (became : Stored) → WritesEvent event (ready event tried d) became → WritesEvent event d became
ready_writes (Sweep moment) tried d became h = tt
ready_writes (Hint moment piece) tried d became h = tt
ready_writes (Order moment who line) tried d became h = by_read (request_read line) h
  where
    c : Context
    c = (ready (Order moment who line) tried d).sweep.judge.ctx

    by_read : (read : Result Request ℕ) → WritesRules became (change_ordered who (ready (Order moment who line) tried d) read) (record d.sweep.judge { ctx = c }) → WritesRules became (change_ordered who d read) d.sweep.judge
    by_read (Err place) k = tt
    by_read (Ok asked) k =
        let may : Bool = is_granted d.access who (needs asked) in
        writes_anytime became (cond may (change_asked d.sweep.standings d.sweep.judge (Ok asked)) None) d.sweep.judge c
        (subst (λ (o : Option Change). WritesRules became (cond may o None) (record d.sweep.judge { ctx = c })) (asked_anytime d.sweep.standings d.sweep.judge c (Ok asked)) k)
