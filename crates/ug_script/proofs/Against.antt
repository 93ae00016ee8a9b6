-- Something speaks against each line that is refused; and each line against which something speaks is.
use Rattle.std.proofs.Common.{◌≡◌, ℕ, Bool, true, false, cond, nat_eq, List, [], Option, Some, None, ◌⊎◌, inl, inr, refl, sym, ap, subst, ◌∙◌}
use Rattle.std.proofs.lemmas.Bool.{both_ways}
use Rattle.std.proofs.lemmas.Option.{same_Some}
use Rattle.std.specs.Cmp.Lexicographic.{pointwise, same_text}
use Rattle.ug_lines.proofs.Numerals.{text_itself}
use Rattle.ug_sysfs.specs.World.{World, carried}
use Rattle.ug_command_io.specs.Fold.{LineRefusal, BadLine, InputTooLong, Writes, Refused, Stage, Going, Halted, of_first, plays}
use Rattle.ug_command_io.specs.Refusals.{AtEnd, AtLine, RefusesLines, fault_in}
use Rattle.ug_command_io.specs.Runs.{Steps}
use Rattle.ug_command_io.specs.declared.machine.Ran.{Ran}
use Rattle.ug_command_io.specs.declared.machine.Ran.TheVariants as ran
use Rattle.ug_core.specs.Event.{has_numbers}
use Rattle.ug_steps.specs.declared.step.SetupLine.{SetupLine}
use Rattle.ug_steps.specs.declared.step.Step.{Step}
use Rattle.ug_steps.specs.declared.step.Step.TheVariants as step
use Rattle.ug_script.specs.Against.{AreRefused, BehindSetup, LacksNumbers, NoHeader, NoRoom, NoStep, NotTaken, RefusesScript, SpeaksAgainst, starts_daemon}
use Rattle.ug_steps.specs.Grammar.{step_of_line}
use Rattle.ug_script.specs.Laws.{IsFaultless, StaysLawful}
use Rattle.ug_script.specs.Replay.{StartsAgain, bad, event_by, header, in_script, line_added, planned, quiet, restarted, script_end, script_step, taken_if, with_plan}
use Rattle.ug_script.specs.Script.{Phase, SettingUp, Unstarted, Started, Script, can_start, daemon_in, disk_in, fits_file, fresh, has_started, takes_setup, with_setup_closed}
use Rattle.ug_script.specs.Setup.{SetupState, one_line_more, rules_from}
use Rattle.ug_script.specs.Summing.{Summary, no_totals, summary_end, summary_step}
use Rattle.ug_script.proofs.Summed.{summed, sums_up}

-- ---- a refused line

-- a line that is taken isn't refused, and one that is refused is so for its fault
unrefused : {M : Type 0} (text : List ℕ) (u next : M) (h0 h1 : Option (List ℕ)) (r : Ran) (fault : LineRefusal) → Steps (Writes text u) next h0 h1 r → fault_in r ≡ Some fault → ⊥
unrefused text u next h0 h1 ran.Done fault s e = cc
unrefused text u next h0 h1 ran.Bad fault s e = s
unrefused text u next h0 h1 ran.TooLong fault s e = s
unrefused text u next h0 h1 ran.SinkFailed fault s e = cc
unrefused text u next h0 h1 ran.Memory fault s e = cc

same_fault : {M : Type 0} (f : LineRefusal) (u next : M) (h0 h1 : Option (List ℕ)) (r : Ran) (fault : LineRefusal) → Steps (Refused f u) next h0 h1 r → fault_in r ≡ Some fault → f ≡ fault
same_fault f u next h0 h1 ran.Done fault s e = absurd s
same_fault f u next h0 h1 ran.Bad fault s e = s.0 ∙ same_Some BadLine fault e
same_fault f u next h0 h1 ran.TooLong fault s e = s.0 ∙ same_Some InputTooLong fault e
same_fault f u next h0 h1 ran.SinkFailed fault s e = absurd s
same_fault f u next h0 h1 ran.Memory fault s e = let none : ⊥ = cc in absurd none

-- no daemon was started, and none can be
unstarted : (setup : SetupState) (phase : Phase) → can_start setup phase ≡ false → (has_started phase ≡ false) × (fits_file setup ≡ false)
unstarted setup SettingUp e = (refl, e)
unstarted setup Unstarted e = (refl, e)
unstarted setup (Started d disk) e = let none : ⊥ = cc in absurd none

other_line : (line : List ℕ) → pointwise nat_eq line header ≡ false → line ≡ header → ⊥
other_line line e same = both_ways (pointwise nat_eq line header) e (subst (λ (l : List ℕ). pointwise nat_eq line l ≡ true) same (text_itself line))

header_fault : (w : World) (line : List ℕ) (next : Option Script × World) (h0 h1 : Option (List ℕ)) (r : Ran) (fault : LineRefusal) (b : Bool) → pointwise nat_eq line header ≡ b → Steps (cond b (quiet fresh w) (Refused BadLine (None, w))) next h0 h1 r → fault_in r ≡ Some fault → SpeaksAgainst (None, w) line fault
header_fault w line next h0 h1 r fault true is s e = absurd (unrefused [] (Some fresh, w) next h0 h1 r fault s e)
header_fault w line next h0 h1 r fault false is s e = subst (λ (f : LineRefusal). SpeaksAgainst (None, w) line f) (same_fault BadLine (None, w) next h0 h1 r fault s e) (NoHeader w line (other_line line is))

-- what speaks against a line, if it isn't the numbers
abbrev Speaks : Option Script × World → List ℕ → LineRefusal → Type 0
Speaks p line fault = SpeaksAgainst p line fault ⊎ LacksNumbers p line

added_fault : (s : Script) (w : World) (line : List ℕ) (setup : SetupLine) (next : Option Script × World) (h0 h1 : Option (List ℕ)) (r : Ran) (fault : LineRefusal) (o : Option SetupState) → step_of_line line ≡ Some (step.Setup setup) → one_line_more setup s.setup ≡ o → Steps (line_added o s w) next h0 h1 r → fault_in r ≡ Some fault → SpeaksAgainst (Some s, w) line fault
added_fault s w line setup next h0 h1 r fault (Some more) asked is q e = absurd (unrefused [] (Some (record s { setup = more }), w) next h0 h1 r fault q e)
added_fault s w line setup next h0 h1 r fault None asked is q e = subst (λ (f : LineRefusal). SpeaksAgainst (Some s, w) line f) (same_fault BadLine (Some s, w) next h0 h1 r fault q e) (NotTaken s w line setup asked is)

setup_fault : (s : Script) (w : World) (line : List ℕ) (setup : SetupLine) (next : Option Script × World) (h0 h1 : Option (List ℕ)) (r : Ran) (fault : LineRefusal) (b : Bool) → step_of_line line ≡ Some (step.Setup setup) → takes_setup s.phase ≡ b → Steps (cond b (line_added (one_line_more setup s.setup) s w) (bad s w)) next h0 h1 r → fault_in r ≡ Some fault → SpeaksAgainst (Some s, w) line fault
setup_fault s w line setup next h0 h1 r fault true asked is q e = added_fault s w line setup next h0 h1 r fault (one_line_more setup s.setup) asked refl q e
setup_fault s w line setup next h0 h1 r fault false asked is q e = subst (λ (f : LineRefusal). SpeaksAgainst (Some s, w) line f) (same_fault BadLine (Some s, w) next h0 h1 r fault q e) (BehindSetup s w line setup asked is)

-- an event, or a restart
start_fault : (s : Script) (w : World) (line : List ℕ) (asked : Step) (fault : LineRefusal) → step_of_line line ≡ Some asked → starts_daemon asked ≡ true → (r : Ran) → (r ≡ ran.Bad → LacksNumbers (Some s, w) line) → (r ≡ ran.TooLong → can_start s.setup s.phase ≡ false) → fault_in r ≡ Some fault → Speaks (Some s, w) line fault
start_fault s w line asked fault is starts ran.Done numbers short e = let none : ⊥ = cc in absurd none
start_fault s w line asked fault is starts ran.Bad numbers short e = inr (numbers refl)
start_fault s w line asked fault is starts ran.TooLong numbers short e =
    let k = unstarted s.setup s.phase (short refl) in
    inl (subst (λ (f : LineRefusal). SpeaksAgainst (Some s, w) line f) (same_Some InputTooLong fault e) (NoRoom s w line asked is starts k.0 k.1))
start_fault s w line asked fault is starts ran.SinkFailed numbers short e = let none : ⊥ = cc in absurd none
start_fault s w line asked fault is starts ran.Memory numbers short e = let none : ⊥ = cc in absurd none

step_fault : (s : Script) (w : World) (line : List ℕ) (next : Option Script × World) (h0 h1 : Option (List ℕ)) (r : Ran) (fault : LineRefusal) (o : Option Step) → step_of_line line ≡ o → Steps (taken_if o s w) next h0 h1 r → StartsAgain o s w r → fault_in r ≡ Some fault → Speaks (Some s, w) line fault
step_fault s w line next h0 h1 r fault None is q why e = inl (subst (λ (f : LineRefusal). SpeaksAgainst (Some s, w) line f) (same_fault BadLine (Some s, w) next h0 h1 r fault q e) (NoStep s w line is))
step_fault s w line next h0 h1 r fault (Some step.Skip) is q why e = absurd (unrefused [] (Some s, w) next h0 h1 r fault q e)
step_fault s w line next h0 h1 r fault (Some (step.Setup setup)) is q why e = inl (setup_fault s w line setup next h0 h1 r fault (takes_setup s.phase) is refl q e)
step_fault s w line next h0 h1 r fault (Some (step.Move action)) is q why e = absurd (unrefused [] (Some (with_setup_closed s), carried action w) next h0 h1 r fault q e)
step_fault s w line next h0 h1 r fault (Some (step.Schedule plan)) is q why e = absurd (unrefused [] (Some (with_plan plan (with_setup_closed s)), planned plan w) next h0 h1 r fault q e)
step_fault s w line next h0 h1 r fault (Some (step.Event event)) is q why e = start_fault s w line (step.Event event) fault is refl r (λ f. (event, is, why.0 f)) why.1 e
step_fault s w line next h0 h1 r fault (Some step.Restart) is q why e = start_fault s w line step.Restart fault is refl r (λ f. absurd (why.0 f)) why.1 e

pub line_fault : (p : Option Script × World) (line : List ℕ) (next : Option Script × World) (h0 h1 : Option (List ℕ)) (r : Ran) → Steps (script_step p line) next h0 h1 r → ((s : Script) → p.0 ≡ Some s → StartsAgain (step_of_line line) s p.1 r) → (fault : LineRefusal) → fault_in r ≡ Some fault → Speaks p line fault
line_fault (None, w) line next h0 h1 r q why fault e = inl (header_fault w line next h0 h1 r fault (pointwise nat_eq line header) refl q e)
line_fault (Some s, w) line next h0 h1 r q why fault e = step_fault s w line next h0 h1 r fault (step_of_line line) refl q (why s refl) e

-- ---- a whole script

unnumbered : (first : World) → StaysLawful first → IsFaultless first → (p : Option Script × World) (line : List ℕ) (fault : LineRefusal) (lines : List (List ℕ)) (n : ℕ) (text : List ℕ) → plays script_step (Going 0 [] (None, first)) lines ≡ Going n text p → Speaks p line fault → SpeaksAgainst p line fault
unnumbered first lawful none p line fault lines n text played (inl k) = k
unnumbered first lawful none (None, w) line fault lines n text played (inr k) = absurd k
unnumbered first lawful none (Some s, w) line fault lines n text played (inr k) = absurd (both_ways (has_numbers (daemon_in s) w.faults (disk_in s).faults) k.2 ((lawful lines n text s w played).numbers none))

pub script_refused : (first : World) (lines : List (List ℕ)) (fault : LineRefusal) → StaysLawful first → IsFaultless first → RefusesLines script_step (of_first script_end) Speaks (Going 0 [] (None, first)) lines fault → RefusesScript first lines
script_refused first lines fault lawful none (AtLine r) = (
  fault,
  AtLine (record {
    earlier = r.earlier;
    line = r.line;
    later = r.later;
    among = r.among;
    count = r.count;
    text = r.text;
    machine = r.machine;
    played = r.played;
    why = λ within. unnumbered first lawful none r.machine r.line fault r.earlier r.count r.text r.played (r.why within);
  }),
)
script_refused first lines fault lawful none (AtEnd n text p played more) = (fault, AtEnd n text p played more)

-- ---- with the numbers in place of the journal

abbrev pub SumSpeaks : Summary × World → List ℕ → LineRefusal → Type 0
SumSpeaks p line fault = Speaks (p.0.0, p.1) line fault

-- where the same lines lead without them
record Unsummed (stage : Stage (Option Script × World)) (n : ℕ) (p : Summary × World) : Type 0 where
  journal : List ℕ
  is : stage ≡ Going n journal (p.0.0, p.1)

unsummed : (stage : Stage (Option Script × World)) (n : ℕ) (text : List ℕ) (p : Summary × World) → summed stage ≡ Going n text p → Unsummed stage n p
unsummed (Going m journal q) n text p e = record {
  journal = journal;
  is = ap (λ (x : Stage (Summary × World)). going_of x) e;
}
  where
    going_of : Stage (Summary × World) → Stage (Option Script × World)
    going_of (Going k t x) = Going k journal (x.0.0, x.1)
    going_of (Halted f k t x) = Going k journal (x.0.0, x.1)
unsummed (Halted f m journal q) n text p e = let none : ⊥ = cc in absurd none

unsummed_at : (first : World) (lines : List (List ℕ)) (n : ℕ) (text : List ℕ) (p : Summary × World) → plays summary_step (Going 0 [] ((None, no_totals), first)) lines ≡ Going n text p → Unsummed (plays script_step (Going 0 [] (None, first)) lines) n p
unsummed_at first lines n text p e = unsummed (plays script_step (Going 0 [] (None, first)) lines) n text p (sym (sums_up first lines) ∙ e)

no_end : (p : Summary × World) → summary_end p ≡ None → script_end p.0.0 ≡ None
no_end ((None, t), w) e = refl
no_end ((Some s, t), w) e = let none : ⊥ = cc in absurd none

pub summary_refused : (first : World) (lines : List (List ℕ)) (fault : LineRefusal) → StaysLawful first → IsFaultless first → RefusesLines summary_step summary_end SumSpeaks (Going 0 [] ((None, no_totals), first)) lines fault → RefusesScript first lines
summary_refused first lines fault lawful none (AtLine r) =
    let u = unsummed_at first r.earlier r.count r.text r.machine r.played in (
      fault,
      AtLine (record {
        earlier = r.earlier;
        line = r.line;
        later = r.later;
        among = r.among;
        count = r.count;
        text = u.journal;
        machine = (r.machine.0.0, r.machine.1);
        played = u.is;
        why = λ within. unnumbered first lawful none (r.machine.0.0, r.machine.1) r.line fault r.earlier r.count u.journal u.is (r.why within);
      }),
    )
summary_refused first lines fault lawful none (AtEnd n text p played more) =
    let u = unsummed_at first lines n text p played in
    (fault, AtEnd n u.journal (p.0.0, p.1) u.is (no_end p more))

-- ---- each of them is refused

one_refused : (p : Option Script × World) (line : List ℕ) (fault : LineRefusal) → SpeaksAgainst p line fault → (next : Option Script × World) × (script_step p line ≡ Refused fault next)
one_refused _ _ _ (NoHeader w line other) = by_header (pointwise nat_eq line header) refl
  where
    by_header : (b : Bool) → pointwise nat_eq line header ≡ b → (next : Option Script × World) × (cond b (quiet fresh w) (Refused BadLine (None, w)) ≡ Refused BadLine next)
    by_header true is = absurd (other (same_text line header (sym is)))
    by_header false is = ((None, w), refl)
one_refused _ _ _ (NoStep s w line is) = ((Some s, w), ap (λ (o : Option Step). taken_if o s w) is)
one_refused _ _ _ (BehindSetup s w line setup is closed) = (
  (Some s, w),
  ap (λ (o : Option Step). taken_if o s w) is ∙ ap (λ (b : Bool). cond b (line_added (one_line_more setup s.setup) s w) (bad s w)) closed,
)
one_refused _ _ _ (NotTaken s w line setup is full) = (
  (Some s, w),
  ap (λ (o : Option Step). taken_if o s w) is
      ∙ ap (λ (o : Option SetupState). cond (takes_setup s.phase) (line_added o s w) (bad s w)) full
      ∙ by_phase (takes_setup s.phase),
)
  where
    by_phase : (b : Bool) → cond b (bad s w) (bad s w) ≡ bad s w
    by_phase true = refl
    by_phase false = refl
one_refused _ _ _ (NoRoom s w line asked is starts unstarted_yet long) = (
  (Some s, w),
  ap (λ (o : Option Step). taken_if o s w) is ∙ by_step asked starts,
)
  where
    cannot : (setup : SetupState) (phase : Phase) → has_started phase ≡ false → fits_file setup ≡ false → can_start setup phase ≡ false
    cannot setup SettingUp e f = f
    cannot setup Unstarted e f = f
    cannot setup (Started d disk) e f = let none : ⊥ = cc in absurd none

    by_step : (x : Step) → starts_daemon x ≡ true → taken_if (Some x) s w ≡ Refused InputTooLong (Some s, w)
    by_step step.Skip e = let none : ⊥ = cc in absurd none
    by_step (step.Setup line) e = let none : ⊥ = cc in absurd none
    by_step (step.Move action) e = let none : ⊥ = cc in absurd none
    by_step (step.Schedule plan) e = let none : ⊥ = cc in absurd none
    by_step (step.Event event) e = ap (λ (b : Bool). cond b (in_script s (event_by s.setup event s.planned (daemon_in s) w (disk_in s))) (Refused InputTooLong (Some s, w))) (cannot s.setup s.phase unstarted_yet long)
    by_step step.Restart e = ap (λ (b : Bool). cond b (restarted (rules_from s.setup.folder.count (disk_in s).disk.text) s w) (Refused InputTooLong (Some s, w))) (cannot s.setup s.phase unstarted_yet long)

pub are_refused : AreRefused
are_refused = one_refused
