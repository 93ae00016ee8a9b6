-- What the account of a sweep, or of a settling of names, says of its verdicts and of its writes, where rules judge: one walk.
use Rattle.std.proofs.Common.{◌≡◌, ℕ, ◌+◌, ◌<◌, Bool, is_none, List, [], ◌∷◌, ◌++◌, Option, Some, inl, inr, refl, sym, ◌∙◌, ap, subst, append_assoc, append-nil}
use Rattle.ug_types.specs.Elements.{Has, AllDistinct}
use Rattle.ug_types.specs.Names.{parent_of}
use Rattle.ug_kernel.specs.declared.control.Write.{Write}
use Rattle.ug_types.specs.declared.record.DeviceRecord.{DeviceRecord}
use Rattle.ug_types.specs.declared.record.Judged.{Judged}
use Rattle.ug_types.specs.declared.record.Judged.TheVariants as judged
use Rattle.ug_kernel.specs.declared.control.Held.{Held}
use Rattle.ug_types.specs.declared.verdict.Target.{Target}
use Rattle.ug_types.specs.declared.verdict.Cause.{Cause}
use Rattle.ug_types.specs.declared.verdict.Moment.{Moment}
use Rattle.ug_kernel.specs.declared.device.Effect.{Effect}
use Rattle.ug_kernel.specs.declared.calls.Wrote.{Wrote}
use Rattle.ug_kernel.specs.Kernel.{Kernel}
use Rattle.ug_audit.specs.declared.entry.Entry.{Entry}
use Rattle.ug_audit.specs.declared.entry.Entry.TheVariants as entry
use Rattle.ug_table.specs.Allowed.{allowed_records}
use Rattle.ug_table.specs.Bring.{CallsFor}
use Rattle.ug_table.specs.Laws.{IsDevice, IsProbed, Stand, AreLeft, AreMarkedIn, Tries, MayHave, MayHaveNot, TellsNeither, HasVerdict, wrote_entries, numbers_of, Account, Start, Note, Judge, Had, Had_not, Went}
use Rattle.ug_table.specs.Parts.{writes_in}
use Rattle.ug_table.specs.State.{Terms}
use Rattle.ug_table.specs.declared.standing.Standing.{Standing}
use Rattle.ug_core.specs.Policy.{Judging, later_of, policy_answer, policy_later}
use Rattle.ug_core.specs.InForce.{Decision, decisions_in, decided_entry, decision_of, or_else, standing_decision, in_force, numbers_on, Follow}
use Rattle.ug_core.specs.Rulings.{Ruling, at_moment, ruling_answer, after_ruling, decision_by}
use Rattle.ug_core.proofs.Splits.{never_in, where_last}
use Rattle.ug_core.proofs.InForce.{told_numbers, decisions_append, decisions_more, has_decision, neither_none, standing_found, fresh, numbers_append, follow_append}

-- rulings one after another, with nothing changed between them

abbrev pub after_rulings : Judging → List Ruling → Judging
after_rulings p [] = p
after_rulings p (r ∷ rs) = after_rulings (after_ruling p r) rs

-- the decisions, each by the policy as those before it left it
abbrev pub decisions_by : Judging → List Ruling → List Decision
decisions_by p [] = []
decisions_by p (r ∷ rs) = decision_by p r ∷ decisions_by (after_ruling p r) rs

-- the rulings of a list and one more

pub after_append : (p : Judging) (rs qs : List Ruling) → after_rulings p (rs ++ qs) ≡ after_rulings (after_rulings p rs) qs
after_append p [] qs = refl
after_append p (r ∷ rs) qs = after_append (after_ruling p r) rs qs

pub decisions_then : (p : Judging) (rs qs : List Ruling) → decisions_by p (rs ++ qs) ≡ decisions_by p rs ++ decisions_by (after_rulings p rs) qs
decisions_then p [] qs = refl
decisions_then p (r ∷ rs) qs = ap (λ (l : List Decision). decision_by p r ∷ l) (decisions_then (after_ruling p r) rs qs)

-- the ruling stands at its place among entries since the account began: where that decision is told, behind those
pub record IsAt (tried : Tries) (present : Bool) (moment : Moment) (start k : Kernel) (before : List Standing) (es : List Entry) (ds : List Decision) (d : Decision) (r : Ruling) : Type 0 where
  pub front : List Entry
  pub back : List Entry
  pub at : es ≡ front ++ decided_entry d ∷ back
  pub told : decisions_in front ≡ ds
  pub moment_is : r.moment ≡ moment
  pub present_is : r.present ≡ present
  pub device : IsDevice k r.device r.name r.held r.judged
  pub probed : IsProbed start k r.name r.held.0 r.device r.on
  pub stand : Stand k r.standings r.number
  pub left : AreLeft before front r.standings
  pub marked : AreMarkedIn tried r.name before front r.standings

-- behind these entries the verdict in force calls for the effect, or the setting of the defaults does; it is on the decision's device
pub record WasWritten (hub : Option Write) (before : List Standing) (front : List Entry) (k : Kernel) (decision : Decision) (effect : Effect) : Type 0 where
  pub judged : Judged
  pub force : in_force before front decision.number ≡ Some decision
  pub wanted : CallsFor hub decision.name decision.verdict effect.write
  pub device : IsDevice k effect.device decision.name decision.held judged

-- The effects that a log gained, by the entries since: each is that of a write that is told, in the same order.
pub data Written (hub : Option Write) (before : List Standing) (k : Kernel) : List Entry → List Effect → Type 0 where
  None_written : Written hub before k [] []
  Others : (es more : List Entry) (log : List Effect) → writes_in more ≡ [] → Written hub before k es log → Written hub before k (es ++ more) log
  Effected : (es : List Entry) (log : List Effect) (decision : Decision) (outcome : Wrote) (effect : Effect) → WasWritten hub before es k decision effect → MayHave outcome → Written hub before k es log → Written hub before k (es ++ wrote_entries decision.number decision.name effect.write outcome) (log ++ effect ∷ [])
  Uneffected : (es : List Entry) (log : List Effect) (number : ℕ) (name : List ℕ) (what : Write) (outcome : Wrote) → MayHaveNot outcome → Written hub before k es log → Written hub before k (es ++ wrote_entries number name what outcome) log

pub record Walked (tried : Tries) (terms : Terms) (moment : Moment) (start k : Kernel) (before : List Standing) (log0 : List Effect) (policy : Judging) (next0 : ℕ) (es : List Entry) (log : List Effect) (judge : Judging) (next : ℕ) : Type 0 where
  pub rulings : List Ruling
  pub told : decisions_in es ≡ decisions_by policy rulings
  pub judge_is : judge ≡ at_moment moment (after_rulings policy rulings)
  pub placed : (earlier : List Ruling) (r : Ruling) (later : List Ruling) → rulings ≡ earlier ++ r ∷ later → IsAt tried terms.present moment start k before es (decisions_by policy earlier) (decision_by (after_rulings policy earlier) r) r
  pub numbers : Follow next0 (told_numbers es) next
  pub added : List Effect
  pub log_is : log ≡ log0 ++ added
  pub written : Written terms.hub before k es added

at_more : (tried : Tries) (present : Bool) (moment : Moment) (start k : Kernel) (before : List Standing) (es ws : List Entry) (ds : List Decision) (d : Decision) (r : Ruling) → IsAt tried present moment start k before es ds d r → IsAt tried present moment start k before (es ++ ws) ds d r
at_more tried present moment start k before es ws ds d r h = record {
  front = h.front;
  back = h.back ++ ws;
  at = ap (λ (l : List Entry). l ++ ws) h.at ∙ append_assoc h.front (decided_entry d ∷ h.back) ws;
  told = h.told;
  moment_is = h.moment_is;
  present_is = h.present_is;
  device = h.device;
  probed = h.probed;
  stand = h.stand;
  left = h.left;
  marked = h.marked;
}

-- an entry that tells no verdict, no write and no end tells no write
neither_writes : (e : Entry) → TellsNeither e → writes_in (e ∷ []) ≡ []
neither_writes (entry.Judged number name held verdict cause) h = absurd h
neither_writes (entry.Intent number name what) h = absurd h
neither_writes (entry.Wrote number name what outcome) h = absurd h
neither_writes (entry.Gone number name) h = absurd h
neither_writes e h = refl

-- entries that tell no verdict
more : (tried : Tries) (terms : Terms) (moment : Moment) (start k : Kernel) (before : List Standing) (log0 : List Effect) (policy : Judging) (next0 : ℕ) (es ws : List Entry) (log : List Effect) (judge : Judging) (next : ℕ) → decisions_in ws ≡ [] → ((added : List Effect) → Written terms.hub before k es added → Written terms.hub before k (es ++ ws) added) → Walked tried terms moment start k before log0 policy next0 es log judge next → Walked tried terms moment start k before log0 policy next0 (es ++ ws) log judge next
more tried terms moment start k before log0 policy next0 es ws log judge next none writes h = record {
  rulings = h.rulings;
  told = decisions_more es ws none ∙ h.told;
  judge_is = h.judge_is;
  placed = λ earlier r later e. at_more tried terms.present moment start k before es ws (decisions_by policy earlier) (decision_by (after_rulings policy earlier) r) r (h.placed earlier r later e);
  numbers = subst (λ (ds : List Decision). Follow next0 (numbers_on ds) next) (sym (decisions_more es ws none)) h.numbers;
  added = h.added;
  log_is = h.log_is;
  written = writes h.added h.written;
}

-- the context is the same after a verdict
at_again : (moment : Moment) (p : Judging) (records : List DeviceRecord) (judged : Judged) (controller was : Bool) → later_of (at_moment moment p) records judged controller was ≡ at_moment moment (later_of (at_moment moment p) records judged controller was)
at_again moment p records (judged.Malformed kind place) controller was = refl
at_again moment p records (judged.Good dev) controller was = refl

-- a verdict
judged_more : (tried : Tries) (terms : Terms) (moment : Moment) (start k : Kernel) (before : List Standing) (log0 : List Effect) (policy : Judging) (next0 : ℕ) (es : List Entry) (log : List Effect) (judge : Judging) (next i : ℕ) (name : List ℕ) (held : Held) (dev : Judged) (on : Bool) (ss : List Standing) → IsDevice k i name held dev → IsProbed start k name held.0 i on → Stand k ss next → AreLeft before es ss → AreMarkedIn tried name before es ss
    → Walked tried terms moment start k before log0 policy next0 es log judge next
    → Walked tried terms moment start k before log0 policy next0 (es ++ entry.Judged next name held (policy_answer judge dev (is_none (parent_of name)) terms.present on ss).0 (policy_answer judge dev (is_none (parent_of name)) terms.present on ss).1 ∷ []) log (policy_later judge dev (is_none (parent_of name)) terms.present on ss) (next + 1)
judged_more tried terms moment start k before log0 policy next0 es log judge next i name held dev on ss d b stand left so h =
    let r : Ruling = record { number = next; name = name; held = held; device = i; judged = dev; present = terms.present; on = on; moment = moment; standings = ss } in
    let p : Judging = after_rulings policy h.rulings in
    let a : Target × Cause = policy_answer judge dev (is_none (parent_of name)) terms.present on ss in
    let x : Entry = entry.Judged next name held a.0 a.1 in
    let same : policy_answer judge dev (is_none (parent_of name)) terms.present on ss ≡ ruling_answer p r = ap (λ (j : Judging). policy_answer j dev (is_none (parent_of name)) terms.present on ss) h.judge_is in
    let this : Decision = record { number = next; name = name; held = held; verdict = a.0; cause = a.1 } in
    let that : this ≡ decision_by p r = ap (λ (v : Target × Cause). record { number = next; name = name; held = held; verdict = v.0; cause = v.1 }) same in
    let whole : decisions_in (es ++ x ∷ []) ≡ decisions_in es ++ this ∷ [] = decisions_append es (x ∷ []) in
    record {
      rulings = h.rulings ++ r ∷ [];
      told = whole ∙ ap (λ (l : List Decision). l ++ this ∷ []) h.told ∙ ap (λ (y : Decision). decisions_by policy h.rulings ++ y ∷ []) that ∙ sym (decisions_then policy h.rulings (r ∷ []));
      judge_is = ap (λ (j : Judging). policy_later j dev (is_none (parent_of name)) terms.present on ss) h.judge_is ∙ at_again moment p (allowed_records ss) dev (is_none (parent_of name)) terms.present ∙ ap (λ (j : Judging). at_moment moment j) (sym (after_append policy h.rulings (r ∷ [])));
      placed = λ earlier q later e. elim (where_last h.rulings r earlier q later e) [
        | inl c ↦ at_more tried terms.present moment start k before es (x ∷ []) (decisions_by policy earlier) (decision_by (after_rulings policy earlier) q) q (h.placed earlier q c.rest c.here)
        | inr is ↦
            subst (λ (rs : List Ruling). IsAt tried terms.present moment start k before (es ++ x ∷ []) (decisions_by policy rs) (decision_by (after_rulings policy rs) q) q) is.0
            (subst (λ (q : Ruling). IsAt tried terms.present moment start k before (es ++ x ∷ []) (decisions_by policy h.rulings) (decision_by p q) q) is.1
            (record { front = es; back = []; at = ap (λ (y : Decision). es ++ decided_entry y ∷ []) that; told = h.told; moment_is = refl; present_is = refl; device = d; probed = b; stand = stand; left = left; marked = so }))
      ];
      numbers = subst (λ (ds : List Decision). Follow next0 (numbers_on ds) (next + 1)) (sym whole) (subst (λ (l : List ℕ). Follow next0 l (next + 1)) (sym (numbers_append (decisions_in es) (this ∷ []))) (follow_append next0 (told_numbers es) (next ∷ []) next (next + 1) h.numbers (refl, refl)));
      added = h.added;
      log_is = h.log_is;
      written = Others es (x ∷ []) h.added refl h.written;
    }

-- the verdict that a number has is in force
pub forced : (before : List Standing) (es : List Entry) (next0 next number : ℕ) (name : List ℕ) (held : Held) (verdict : Target) → ((s : Standing) → Has before s → s.number < next0) → AllDistinct (numbers_of before) → Follow next0 (told_numbers es) next → HasVerdict before es number name held verdict
    → (cause : Cause) × (in_force before es number ≡ Some (record { number = number; name = name; held = held; verdict = verdict; cause = cause }))
forced before es next0 next number name held verdict low distinct follow (inl s) =
    let f = fresh (decisions_in es) next0 next follow in
    let lt : number < next0 = subst (λ (n : ℕ). n < next0) s.2 (low s.0 s.1) in
    let is : decision_of s.0 ≡ record { number = number; name = name; held = held; verdict = verdict; cause = s.0.cause } = cc (s.2, s.3, s.4, s.5) in
    let found : standing_decision before number ≡ Some (decision_of s.0) = subst (λ (n : ℕ). standing_decision before n ≡ Some (decision_of s.0)) s.2 (standing_found before s.0 distinct s.1) in
    (s.0.cause, ap (λ (o : Option Decision). or_else o (standing_decision before number)) (f.old number lt) ∙ found ∙ ap (λ (d : Decision). Some d) is)
forced before es next0 next number name held verdict low distinct follow (inr t) =
    let f = fresh (decisions_in es) next0 next follow in
    (t.0, ap (λ (o : Option Decision). or_else o (standing_decision before number)) (f.told (record { number = number; name = name; held = held; verdict = verdict; cause = t.0 }) (has_decision es number name held verdict t.0 t.1)).1)

pub walk : (tried : Tries) (terms : Terms) (moment : Moment) (start k : Kernel) (before : List Standing) (log0 : List Effect) (policy : Judging) (next0 : ℕ) → ((s : Standing) → Has before s → s.number < next0) → AllDistinct (numbers_of before) → (es : List Entry) (log : List Effect) (judge : Judging) (next : ℕ) → Account policy_answer policy_later terms tried start k before log0 (at_moment moment policy) next0 es log judge next → Walked tried terms moment start k before log0 policy next0 es log judge next
walk tried terms moment start k before log0 policy next0 low distinct es log judge next Start = record { rulings = []; told = refl; judge_is = refl; placed = λ earlier r later e. absurd (never_in earlier r later e); numbers = refl; added = []; log_is = sym (append-nil log0); written = None_written }
walk tried terms moment start k before log0 policy next0 low distinct es log judge next (Note fs m j n e t a) = more tried terms moment start k before log0 policy next0 fs (e ∷ []) m j n (ap (λ (l : List Decision). l ++ []) (neither_none e t)) (λ added w. Others fs (e ∷ []) added (neither_writes e t) w) (walk tried terms moment start k before log0 policy next0 low distinct fs m j n a)
walk tried terms moment start k before log0 policy next0 low distinct es log judge next (Judge fs m j n i name held dev on ss d b stand left so a) = judged_more tried terms moment start k before log0 policy next0 fs m j n i name held dev on ss d b stand left so (walk tried terms moment start k before log0 policy next0 low distinct fs m j n a)
walk tried terms moment start k before log0 policy next0 low distinct es log judge next (Had_not fs m j n i number name held dev verdict what outcome d v due once may a) = more tried terms moment start k before log0 policy next0 fs (wrote_entries number name what outcome) m j n refl (λ added w. Uneffected fs added number name what outcome may w) (walk tried terms moment start k before log0 policy next0 low distinct fs m j n a)
walk tried terms moment start k before log0 policy next0 low distinct es log judge next (Went fs m j n i number name held dev verdict d o v a) = more tried terms moment start k before log0 policy next0 fs (entry.Gone number name ∷ []) m j n refl (λ added w. Others fs (entry.Gone number name ∷ []) added refl w) (walk tried terms moment start k before log0 policy next0 low distinct fs m j n a)
walk tried terms moment start k before log0 policy next0 low distinct es log judge next (Had fs m j n i number name held dev verdict what outcome d v due once may a) =
    let old = walk tried terms moment start k before log0 policy next0 low distinct fs m j n a in
    let two : List Entry = wrote_entries number name what outcome in
    let new : Effect = record { device = i; write = what } in
    let given = forced before fs next0 n number name held verdict low distinct old.numbers v in
    let decision : Decision = record { number = number; name = name; held = held; verdict = verdict; cause = given.0 } in
    let this : WasWritten terms.hub before fs k decision new = record { judged = dev; force = given.1; wanted = due; device = d } in
    record {
      rulings = old.rulings;
      told = decisions_more fs two refl ∙ old.told;
      judge_is = old.judge_is;
      placed = λ earlier r later e. at_more tried terms.present moment start k before fs two (decisions_by policy earlier) (decision_by (after_rulings policy earlier) r) r (old.placed earlier r later e);
      numbers = subst (λ (ds : List Decision). Follow next0 (numbers_on ds) n) (sym (decisions_more fs two refl)) old.numbers;
      added = old.added ++ new ∷ [];
      log_is = ap (λ (l : List Effect). l ++ new ∷ []) old.log_is ∙ append_assoc log0 old.added (new ∷ []);
      written = Effected fs old.added decision outcome new this may old.written;
    }
