-- From a start and its turns to the whole run.
use Rattle.std.proofs.Common.{◌≡◌, ℕ, List, [], ◌∷◌, ◌++◌, length, Option, Some, None, Result, Ok, Err, inl, inr, refl, sym, ◌∙◌, subst, append-nil, arith}
use Rattle.rand_core.specs.Stream.{Stream}
use Rattle.ug_types.specs.Elements.{Has}
use Rattle.ug_links.specs.declared.waiter.Waiter
use Rattle.ug_links.specs.declared.clock.Clock
use Rattle.ug_conf.specs.Files.{FileStep}
use Rattle.ug_store.specs.declared.disk.RuleDisk
use Rattle.ug_kernel.specs.declared.sysfs.Sysfs
use Rattle.ug_audit.specs.declared.start_entry.StartEntry.{StartEntry}
use Rattle.ug_audit.specs.Noting.{NotesEntries, NotesStart}
use Rattle.ug_audit.specs.Panels.{Member}
use Rattle.ug_serve.specs.Causes.{start_status, refusal_entries}
use Rattle.ug_serve.specs.Listening.{listening, listening_status}
use Rattle.ug_serve.specs.Opening.{Started, Opens}
use Rattle.ug_links.specs.declared.step.LinkStep.{LinkStep}
use Rattle.ug_links.specs.Talk.{Talks, Path, Makes, AreSteps}
use Rattle.ug_links.proofs.Told.{path_made}
use Rattle.ug_links.specs.declared.links.Links
use Rattle.ug_serve.specs.Serving.{Objects, objects, objects_of, server_for, first_world, AtSockets, at_sockets, no_sockets, run_calls, ServesStarted, Listens_not, Listens, Serves, Bad_words, No_room, Not_started, Served, TellsRefusal, RunsDaemon, turns_status, daemon_statuses}
use Rattle.ug_sessions.specs.States.{ServerState}
use Rattle.ug_serve.specs.Saying.{AreServed, HaveAccess}
use Rattle.ug_serve.specs.Telling.{turns_calls}
use Rattle.ug_serve.specs.Turns.{Turned, turns_events, turns_entries, core_of, TurnWorld, turn_world, ServesTurns}
use Rattle.ug_serve.specs.declared.listening.NotListening.{NotListening}
use Rattle.ug_serve.specs.declared.listening.NotListening.TheVariants as unheard
use Rattle.ug_serve.specs.declared.not_started.NotStarted.{NotStarted}
use Rattle.ug_serve.specs.declared.not_started.NotStarted.TheVariants as why
use Rattle.ug_serve.specs.declared.turn.TurnEnd.{TurnEnd}
use Rattle.ug_serve.specs.declared.turn.TurnEnd.TheVariants as end
use Rattle.ug_serve.proofs.Noted.{both_noted}
use Rattle.ug_serve.proofs.Running.{serves_noted}
use Rattle.ug_serve.proofs.RunServed.{makes_both, none_served, run_access, run_made, run_serves}
use Rattle.ug_serve.proofs.Whose.{only_listens}

-- ---- the statuses

is_start_status : (fault : NotStarted) → Has daemon_statuses (start_status fault)
is_start_status (why.Refused part bad) = inr (inr (inl refl))
is_start_status why.FilesFailed = inr (inr (inr (inl refl)))
is_start_status why.Memory = inr (inr (inr (inr (inl refl))))
is_start_status why.DiskFailed = inr (inr (inr (inr (inr (inl refl)))))

start_not_one : (fault : NotStarted) → start_status fault ≡ 1 → ⊥
start_not_one (why.Refused part bad) e = omega (arith, e)
start_not_one why.FilesFailed e = omega (arith, e)
start_not_one why.Memory e = omega (arith, e)
start_not_one why.DiskFailed e = omega (arith, e)

start_not_zero : (fault : NotStarted) → start_status fault ≡ 0 → ⊥
start_not_zero (why.Refused part bad) e = omega (arith, e)
start_not_zero why.FilesFailed e = omega (arith, e)
start_not_zero why.Memory e = omega (arith, e)
start_not_zero why.DiskFailed e = omega (arith, e)

-- 0, 6, 10 and 11
abbrev pub served_statuses : List ℕ
served_statuses = 0 ∷ 6 ∷ 10 ∷ 11 ∷ []

links_status : (fault : NotListening) (n : ℕ) → n ≡ listening_status fault → Has served_statuses n
links_status unheard.Failed n e = inr (inr (inr (inl (sym e))))
links_status unheard.Memory n e = inr (inl (sym e))

listening_not_zero : (fault : NotListening) → listening_status fault ≡ 0 → ⊥
listening_not_zero unheard.Failed e = omega (arith, e)
listening_not_zero unheard.Memory e = omega (arith, e)

ended_status : (ended : TurnEnd) (n : ℕ) → n ≡ turns_status ended → Has served_statuses n
ended_status end.Done n e = inl (sym e)
ended_status end.Numbers n e = inr (inr (inl (sym e)))
ended_status end.WaitFailed n e = inr (inr (inr (inl (sym e))))

none_else : (n m : ℕ) → Has served_statuses n → (m ≡ 0 → ⊥) → (m ≡ 6 → ⊥) → (m ≡ 10 → ⊥) → (m ≡ 11 → ⊥) → n ≡ m → ⊥
none_else n m (inl e) zero six ten eleven is = zero (sym is ∙ sym e)
none_else n m (inr (inl e)) zero six ten eleven is = six (sym is ∙ sym e)
none_else n m (inr (inr (inl e))) zero six ten eleven is = ten (sym is ∙ sym e)
none_else n m (inr (inr (inr (inl e)))) zero six ten eleven is = eleven (sym is ∙ sym e)
none_else n m (inr (inr (inr (inr e)))) zero six ten eleven is = absurd e

not_one : (n : ℕ) → Has served_statuses n → n ≡ 1 → ⊥
not_one n h = none_else n 1 h (λ e. omega (arith, e)) (λ e. omega (arith, e)) (λ e. omega (arith, e)) (λ e. omega (arith, e))

pub not_four : (n : ℕ) → Has served_statuses n → n ≡ 4 → ⊥
not_four n h = none_else n 4 h (λ e. omega (arith, e)) (λ e. omega (arith, e)) (λ e. omega (arith, e)) (λ e. omega (arith, e))

pub not_nine : (n : ℕ) → Has served_statuses n → n ≡ 9 → ⊥
not_nine n h = none_else n 9 h (λ e. omega (arith, e)) (λ e. omega (arith, e)) (λ e. omega (arith, e)) (λ e. omega (arith, e))

pub not_three : (n : ℕ) → Has served_statuses n → n ≡ 3 → ⊥
not_three n h = none_else n 3 h (λ e. omega (arith, e)) (λ e. omega (arith, e)) (λ e. omega (arith, e)) (λ e. omega (arith, e))

known_status : (n : ℕ) → Has served_statuses n → Has daemon_statuses n
known_status n (inl e) = inl e
known_status n (inr (inl e)) = inr (inr (inr (inr (inl e))))
known_status n (inr (inr (inl e))) = inr (inr (inr (inr (inr (inr (inl e))))))
known_status n (inr (inr (inr (inl e)))) = inr (inr (inr (inr (inr (inr (inr (inl e)))))))
known_status n (inr (inr (inr (inr e)))) = absurd e

tells_refusal : (fault : NotStarted) (entries : List StartEntry) → start_status fault ≡ 3 → TellsRefusal (entries ++ refusal_entries fault)
tells_refusal (why.Refused part bad) entries e = (entries, part, bad, refl)
tells_refusal why.FilesFailed entries e = absurd (omega (arith, e))
tells_refusal why.Memory entries e = absurd (omega (arith, e))
tells_refusal why.DiskFailed entries e = absurd (omega (arith, e))

-- none other than 0, 6 and 10, where words and texts are taken and nothing failed
pub completes : (n : ℕ) → Has daemon_statuses n → (n ≡ 1 → ⊥) → (n ≡ 3 → ⊥) → (n ≡ 4 → ⊥) → (n ≡ 9 → ⊥) → (n ≡ 11 → ⊥) → Has (0 ∷ 6 ∷ 10 ∷ []) n
completes n (inl e) one three four nine eleven = inl e
completes n (inr (inl e)) one three four nine eleven = absurd (one (sym e))
completes n (inr (inr (inl e))) one three four nine eleven = absurd (three (sym e))
completes n (inr (inr (inr (inl e)))) one three four nine eleven = absurd (four (sym e))
completes n (inr (inr (inr (inr (inl e))))) one three four nine eleven = inr (inl e)
completes n (inr (inr (inr (inr (inr (inl e)))))) one three four nine eleven = absurd (nine (sym e))
completes n (inr (inr (inr (inr (inr (inr (inl e))))))) one three four nine eleven = inr (inr (inl e))
completes n (inr (inr (inr (inr (inr (inr (inr (inl e)))))))) one three four nine eleven = absurd (eleven (sym e))
completes n (inr (inr (inr (inr (inr (inr (inr (inr e)))))))) one three four nine eleven = absurd e

pub none_is_some : (given : Option (List ℕ)) (path : List ℕ) → given ≡ None → given ≡ Some path → ⊥
none_is_some given path none some = cc

module _ {Y D N W C : Type 0} (sysfs : Sysfs.Ghosts Y)
    (disk : RuleDisk.Ghosts D) (net : Links.Ghosts N) (wait : Waiter.Ghosts W) (ticks : Clock.Ghosts C)
    (turns : ℕ) (c : Started) (s : Objects Y D N W C) where
  open net use {gives as links}

  abbrev After : AtSockets → List Turned → ℕ → Objects Y D N W C → Type 0
  After sockets made status t = ServesStarted sysfs disk net wait ticks turns c s sockets made status t

  pub started_status : (sockets : AtSockets) (made : List Turned) (status : ℕ) (t : Objects Y D N W C) → After sockets made status t → Has served_statuses status
  started_status _ _ _ _ (Listens_not steps fault n path makes) = links_status fault (listening_status fault) refl
  started_status _ _ _ _ (Listens steps n made ended w path makes serves) = ended_status ended (turns_status ended) refl

  all_turns : (u : TurnWorld Y D N W C) (made : List Turned) (ended : TurnEnd) (w : TurnWorld Y D N W C)
      → ServesTurns sysfs disk net wait ticks turns u made ended w → turns_status ended ≡ 0 → length made ≡ turns
  all_turns u made end.Done w h z = h.0
  all_turns u made end.Numbers w h z = absurd (omega (arith, z))
  all_turns u made end.WaitFailed w h z = absurd (omega (arith, z))

  pub started_all : (sockets : AtSockets) (made : List Turned) (status : ℕ) (t : Objects Y D N W C) → After sockets made status t → status ≡ 0 → length made ≡ turns
  started_all _ _ _ _ (Listens_not steps fault n path makes) z = absurd (listening_not_zero fault z)
  started_all _ _ _ _ (Listens steps n made ended w path makes serves) z = all_turns (first_world c n s) made ended w serves z

  pub started_noted : (sockets : AtSockets) (made : List Turned) (status : ℕ) (t : Objects Y D N W C) → After sockets made status t → NotesEntries (turns_entries made) s.members t.members
  started_noted _ _ _ _ (Listens_not steps fault n path makes) = (refl, refl)
  started_noted _ _ _ _ (Listens steps n made ended w path makes serves) = serves_noted sysfs disk net wait ticks turns (first_world c n s) made ended w serves

  pub started_access : (sockets : AtSockets) (made : List Turned) (status : ℕ) (t : Objects Y D N W C) → After sockets made status t → HaveAccess sockets.access (turns_events made)
  started_access _ _ _ _ (Listens_not steps fault n path makes) = tt
  started_access _ _ _ _ (Listens steps n made ended w path makes serves) = run_access sysfs disk net wait ticks turns (first_world c n s) made ended w serves

  pub started_calls : (sockets : AtSockets) (made : List Turned) (status : ℕ) (t : Objects Y D N W C) → After sockets made status t → Makes links s.links (run_calls sockets made) t.links
  started_calls _ _ _ _ (Listens_not steps fault n path makes) = subst (λ (l : List LinkStep). Makes links s.links l n) (sym (append-nil steps)) makes
  started_calls _ _ _ _ (Listens steps n made ended w path makes serves) = makes_both links s.links steps (turns_calls made) n w.links makes (run_made sysfs disk net wait ticks turns (first_world c n s) made ended w serves)

  pub started_serves : (sockets : AtSockets) (made : List Turned) (status : ℕ) (t : Objects Y D N W C) → After sockets made status t → AreSteps [] (run_calls sockets made) → AreServed sockets.access sockets.principals (run_calls sockets made) made sockets.server
  started_serves _ _ _ _ (Listens_not steps fault n path makes) = λ may. none_served c.daemon.access c.principals steps (only_listens c.principals steps (Err fault) path) may
  started_serves _ _ _ _ (Listens steps n made ended w path makes serves) = λ may. run_serves sysfs disk net wait ticks steps (only_listens c.principals steps (Ok tt) path) (first_world c n s) refl refl turns made ended w may serves

  -- the calls of the links fail to listen
  pub serves_not : (result : Result (Unit {0}) NotListening) (fault : NotListening) (status : ℕ) (n : N) → result ≡ Err fault → Talks links s.links (listening c.principals) result n → status ≡ listening_status fault
      → (sockets : AtSockets) × (made : List Turned) × After sockets made status (record s { links = n })
  serves_not result fault status n is talks same =
      let made = path_made links s.links (listening c.principals) result n talks in
      (at_sockets c made.0 (server_for c.principals), [], subst (λ (k : ℕ). After (at_sockets c made.0 (server_for c.principals)) [] k (record s { links = n })) (sym same) (Listens_not made.0 fault n (subst (λ (r : Result (Unit {0}) NotListening). Path (listening c.principals) made.0 r) is made.1) made.2))

  -- they listen, and turns are made
  pub serves_so : (result : Result (Unit {0}) NotListening) (n : N) (v : ServerState) (made : List Turned) (ended : TurnEnd) (w : TurnWorld Y D N W C) (status : ℕ) → result ≡ Ok tt → Talks links s.links (listening c.principals) result n
      → v.principals ≡ c.principals → v.listeners ≡ [] → v.sessions ≡ []
      → ServesTurns sysfs disk net wait ticks turns (turn_world (core_of c.daemon s.sysfs s.disk s.members) v n s.waiter s.clock) made ended w → status ≡ turns_status ended
      → (sockets : AtSockets) × (made : List Turned) × After sockets made status (objects_of w)
  serves_so result n v made ended w status is talks these untried none serves same =
      let asked = path_made links s.links (listening c.principals) result n talks in
      let first : v ≡ server_for c.principals = λ i. record { principals = these i; listeners = untried i; sessions = none i } in
      let over = subst (λ (x : ServerState). ServesTurns sysfs disk net wait ticks turns (turn_world (core_of c.daemon s.sysfs s.disk s.members) x n s.waiter s.clock) made ended w) first serves in
      (at_sockets c asked.0 w.server, made, subst (λ (k : ℕ). After (at_sockets c asked.0 w.server) made k (objects_of w)) (sym same) (Listens asked.0 n made ended w (subst (λ (r : Result (Unit {0}) NotListening). Path (listening c.principals) asked.0 r) is asked.1) asked.2 over))

never_served : AreServed [] [] [] [] (server_for [])
never_served = none_served [] [] [] tt tt

module _ {F Y D N W C : Type 0} (reads : F → FileStep → F → Type 0) (sysfs : Sysfs.Ghosts Y)
    (disk : RuleDisk.Ghosts D) (net : Links.Ghosts N) (wait : Waiter.Ghosts W) (ticks : Clock.Ghosts C)
    (turns : ℕ) (clock : ℕ → ℕ) (words : Stream) (f : F) (s : Objects Y D N W C) where
  abbrev Done : Option (List ℕ) → List StartEntry → AtSockets → List Turned → ℕ → F → Objects Y D N W C → Type 0
  Done path noted sockets made status g t = Serves reads sysfs disk net wait ticks turns clock words f s path noted sockets made status g t

  abbrev pub Runs : Option (List ℕ) → ℕ → F → Objects Y D N W C → Type 0
  Runs path status g t = RunsDaemon reads sysfs disk net wait ticks turns clock words f s path status g t

  -- ---- what follows from the cases

  pub has_status : (path : Option (List ℕ)) (noted : List StartEntry) (sockets : AtSockets) (made : List Turned) (status : ℕ) (g : F) (t : Objects Y D N W C) → Done path noted sockets made status g t → Has daemon_statuses status
  has_status _ _ _ _ _ _ _ Bad_words = inr (inl refl)
  has_status _ _ _ _ _ _ _ (No_room path) = is_start_status why.Memory
  has_status _ _ _ _ _ _ _ (Not_started path entries fault g d ms opens notes) = is_start_status fault
  has_status _ _ _ _ _ _ _ (Served path entries c g d ms sockets made status t opens notes serves) = known_status status (started_status sysfs disk net wait ticks turns c (objects s.sysfs d s.links s.waiter s.clock ms) sockets made status t serves)

  pub bad_words : (path : Option (List ℕ)) (noted : List StartEntry) (sockets : AtSockets) (made : List Turned) (status : ℕ) (g : F) (t : Objects Y D N W C) → Done path noted sockets made status g t → status ≡ 1 → path ≡ None
  bad_words _ _ _ _ _ _ _ Bad_words = λ e. refl
  bad_words _ _ _ _ _ _ _ (No_room path) = λ e. absurd (start_not_one why.Memory e)
  bad_words _ _ _ _ _ _ _ (Not_started path entries fault g d ms opens notes) = λ e. absurd (start_not_one fault e)
  bad_words _ _ _ _ _ _ _ (Served path entries c g d ms sockets made status t opens notes serves) = λ e. absurd (not_one status (started_status sysfs disk net wait ticks turns c (objects s.sysfs d s.links s.waiter s.clock ms) sockets made status t serves) e)

  pub other_words : (path : Option (List ℕ)) (noted : List StartEntry) (sockets : AtSockets) (made : List Turned) (status : ℕ) (g : F) (t : Objects Y D N W C) → Done path noted sockets made status g t → path ≡ None → Has (1 ∷ 6 ∷ []) status
  other_words _ _ _ _ _ _ _ Bad_words = λ e. inl refl
  other_words _ _ _ _ _ _ _ (No_room path) = λ e. inr (inl refl)
  other_words _ _ _ _ _ _ _ (Not_started path entries fault g d ms opens notes) = λ e. let no : ⊥ = cc in absurd no
  other_words _ _ _ _ _ _ _ (Served path entries c g d ms sockets made status t opens notes serves) = λ e. let no : ⊥ = cc in absurd no

  -- ---- the runs

  pub runs_without_words : Runs None 1 f s
  runs_without_words = record {
    start = [];
    sockets = no_sockets;
    made = [];
    serves = Bad_words;
    between = s.members;
    start_noted = refl;
    turns_noted = (refl, refl);
    all_made = λ e. absurd (omega (arith, e));
    told_refused = λ e. absurd (omega (arith, e));
    access = tt;
    calls = refl;
    sessions = λ h. never_served;
  }

  pub runs_without_room : (path : Option (List ℕ)) (status : ℕ) → status ≡ start_status why.Memory → Runs path status f s
  runs_without_room path status is = subst (λ (n : ℕ). Runs path n f s) (sym is) (record {
    start = [];
    sockets = no_sockets;
    made = [];
    serves = No_room path;
    between = s.members;
    start_noted = refl;
    turns_noted = (refl, refl);
    all_made = λ e. absurd (omega (arith, e));
    told_refused = λ e. absurd (omega (arith, e));
    access = tt;
    calls = refl;
    sessions = λ h. never_served;
  })

  pub runs_refused : (path : List ℕ) (entries : List StartEntry) (fault : NotStarted) (g : F) (d : D) (ms ns : List Member) (status : ℕ)
      → Opens reads disk path clock words f s.disk entries (Err fault) g d
      → NotesStart entries s.members ms → NotesStart (refusal_entries fault) ms ns → status ≡ start_status fault
      → Runs (Some path) status g (objects s.sysfs d s.links s.waiter s.clock ns)
  runs_refused path entries fault g d ms ns status opens noted refused is =
      let all = both_noted entries (refusal_entries fault) s.members ms ns noted refused in
      subst (λ (n : ℕ). Runs (Some path) n g (objects s.sysfs d s.links s.waiter s.clock ns)) (sym is) (record {
        start = entries ++ refusal_entries fault;
        sockets = no_sockets;
        made = [];
        serves = Not_started path entries fault g d ns opens all;
        between = ns;
        start_noted = all;
        turns_noted = (refl, refl);
        all_made = λ e. absurd (start_not_zero fault e);
        told_refused = tells_refusal fault entries;
        access = tt;
        calls = refl;
        sessions = λ h. never_served;
      })

  pub runs_served : (path : List ℕ) (entries : List StartEntry) (c : Started) (g : F) (d : D) (ms : List Member) (sockets : AtSockets) (made : List Turned) (status : ℕ) (t : Objects Y D N W C)
      → Opens reads disk path clock words f s.disk entries (Ok c) g d
      → NotesStart entries s.members ms
      → ServesStarted sysfs disk net wait ticks turns c (objects s.sysfs d s.links s.waiter s.clock ms) sockets made status t
      → Runs (Some path) status g t
  runs_served path entries c g d ms sockets made status t opens noted serves = record {
    start = entries;
    sockets = sockets;
    made = made;
    serves = Served path entries c g d ms sockets made status t opens noted serves;
    between = ms;
    start_noted = noted;
    turns_noted = started_noted sysfs disk net wait ticks turns c (objects s.sysfs d s.links s.waiter s.clock ms) sockets made status t serves;
    all_made = started_all sysfs disk net wait ticks turns c (objects s.sysfs d s.links s.waiter s.clock ms) sockets made status t serves;
    access = started_access sysfs disk net wait ticks turns c (objects s.sysfs d s.links s.waiter s.clock ms) sockets made status t serves;
    calls = started_calls sysfs disk net wait ticks turns c (objects s.sysfs d s.links s.waiter s.clock ms) sockets made status t serves;
    sessions = started_serves sysfs disk net wait ticks turns c (objects s.sysfs d s.links s.waiter s.clock ms) sockets made status t serves;
    told_refused = λ h. absurd (not_three status (started_status sysfs disk net wait ticks turns c (objects s.sysfs d s.links s.waiter s.clock ms) sockets made status t serves) h);
  }
