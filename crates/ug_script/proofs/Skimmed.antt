-- The rules that are written for a script are those of the devices that its lines leave.
use Rattle.std.proofs.lemmas.Bool.Decides.{nat_tests}
use Rattle.std.proofs.Common.{◌≡◌, ℕ, ◌+◌, ◌<◌, arith, Bool, true, false, ◌&&◌, cond, nat_eq, nat_lt, nat_le, map, List, [], ◌∷◌, ◌++◌, length, Option, Some, None, refl, sym, ◌∙◌, ap, subst, append_assoc, append-nil}
use Rattle.std.specs.Prelude.{flat_map}
use Rattle.std.specs.Cmp.Lexicographic.{pointwise}
use Rattle.ug_types.specs.declared.rule.Rule.{Rule}
use Rattle.ug_kernel.specs.declared.device.Device.{Device}
use Rattle.ug_sysfs.specs.declared.script.Move as moves
use Rattle.ug_sysfs.specs.declared.script.Move.TheVariants as move
use Rattle.ug_sysfs.specs.World.{World, moved}
use Rattle.ug_print.specs.RuleTexts.{rules_text_of}
use Rattle.ug_generate.specs.Policies.{policy_rules, IsPolicy}
use Rattle.ug_generate.proofs.Policies.{is_policy, admitted}
use Rattle.ug_lines.specs.Lines.{lines_of, whole_lines}
use Rattle.ug_command_io.specs.Statuses.{AnswersLines}
use Rattle.ug_command_io.specs.Fold.{LineRefusal, BadLine, LineOutcome, Writes, Refused, Stage, Going, Halted, is_within, stage_after, plays, bad_line, fault_line, fault_of, no_memory, read_fault, whole_text}
use Rattle.ug_steps.specs.declared.step.Step.{Step}
use Rattle.ug_steps.specs.declared.step.Step.TheVariants.{Skip, Setup, Move, Schedule, Event, Restart}
use Rattle.ug_steps.specs.Grammar.{AsksForRules, step_of_line}
use Rattle.ug_script.specs.Setup.{SetupState, one_line_more, setup_rule, folder_asked, conf_asked, access_asked, seed_asked, zone_asked, iface_asked, steps_of}
use Rattle.ug_script.specs.Script.{Script, fresh, takes_setup}
use Rattle.ug_script.specs.Replay.{bad, header, line_added, quiet}
use Rattle.ug_script.specs.Generating.{devices_moved, skimmed, skimmed_if, generate_step, generate_end, names_ports, move_asked, all_moved, devices_left, IsFirstPolicy, TellsFaultAlone}
use Rattle.ug_steps.proofs.Readable.{line_asks}
use Rattle.ug_script.proofs.Setups.{IsGiven, InSetup, flat_more, flat_none, given_first, given_still, given_added}

-- ---- devices

moved_more : (actions : List moves.Move) (action : moves.Move) (ds : List Device) → all_moved (actions ++ action ∷ []) ds ≡ moved action (all_moved actions ds)
moved_more [] action ds = refl
moved_more (x ∷ actions) action ds = moved_more actions action (moved x ds)

-- what holds after the header and so many lines, which asked for these steps
record Skims (start : List Device) (n : ℕ) (done : List (Option Step)) (text : List ℕ) (setup : SetupState) (ds : List Device) : Type 0 where
  given : IsGiven n done setup
  devices : ds ≡ all_moved (flat_map move_asked done) start
  silent : text ≡ []

abbrev SkimsAfter : List Device → ℕ → List (Option Step) → List ℕ → LineOutcome (Option Script × World) → Type 0
SkimsAfter start n done text (Writes more (Some s, w)) = Skims start n done (text ++ more) s.setup w.kernel.devices
SkimsAfter start n done text (Writes more (None, w)) = ⊥
SkimsAfter start n done text (Refused fault p) = fault ≡ BadLine

-- a step that neither sets up nor moves
skims_still : (start : List Device) (n : ℕ) (done : List (Option Step)) (text : List ℕ) (step : Option Step) (setup : SetupState) (ds : List Device) → setup_rule step ≡ [] → folder_asked step ≡ [] → conf_asked step ≡ [] → access_asked step ≡ [] → seed_asked step ≡ [] → zone_asked step ≡ [] → iface_asked step ≡ [] → move_asked step ≡ []
    → Skims start n done text setup ds → Skims start (n + 1) (done ++ step ∷ []) (text ++ []) setup ds
skims_still start n done text step setup ds rule folder conf access seed zone iface move h = record {
  given = given_still n done step setup rule folder conf access seed zone iface h.given;
  devices = h.devices ∙ ap (λ (actions : List moves.Move). all_moved actions start) (sym (flat_none move_asked done step move));
  silent = append-nil text ∙ h.silent;
}

skims_move : (start : List Device) (n : ℕ) (done : List (Option Step)) (text : List ℕ) (action : moves.Move) (setup : SetupState) (ds : List Device) → Skims start n done text setup ds → Skims start (n + 1) (done ++ Some (Move action) ∷ []) (text ++ []) setup (moved action ds)
skims_move start n done text action setup ds h = record {
  given = given_still n done (Some (Move action)) setup refl refl refl refl refl refl refl h.given;
  devices = ap (moved action) h.devices ∙ sym (moved_more (flat_map move_asked done) action start) ∙ ap (λ (actions : List moves.Move). all_moved actions start) (sym (flat_more move_asked done (Some (Move action))));
  silent = append-nil text ∙ h.silent;
}

skims_added : (start : List Device) (n : ℕ) (done : List (Option Step)) (text : List ℕ) (step : Option Step) (wanted : Option SetupState) (s : Script) (w : World) → move_asked step ≡ [] → Skims start n done text s.setup w.kernel.devices
    → InSetup (λ (setup : SetupState). IsGiven (n + 1) (done ++ step ∷ []) setup) wanted → SkimsAfter start (n + 1) (done ++ step ∷ []) text (line_added wanted s w)
skims_added start n done text step None s w move h given = refl
skims_added start n done text step (Some setup) s w move h given = record {
  given = given;
  devices = h.devices ∙ ap (λ (actions : List moves.Move). all_moved actions start) (sym (flat_none move_asked done step move));
  silent = append-nil text ∙ h.silent;
}

skims_when : (start : List Device) (n : ℕ) (done : List (Option Step)) (text : List ℕ) (opened : Bool) (o : LineOutcome (Option Script × World)) (s : Script) (w : World) → SkimsAfter start n done text o → SkimsAfter start n done text (cond opened o (bad s w))
skims_when start n done text true o s w h = h
skims_when start n done text false o s w h = refl

-- ---- a line

moves_as : (action : moves.Move) (w : World) → (devices_moved action w).kernel.devices ≡ moved action w.kernel.devices
moves_as (move.Plug device) w = refl
moves_as (move.Unplug name) w = refl
moves_as (move.Iface change) w = refl

skims_step : (start : List Device) (n : ℕ) (done : List (Option Step)) (text : List ℕ) (step : Step) (s : Script) (w : World) → n < 1048576 → AsksForRules step → Skims start n done text s.setup w.kernel.devices → SkimsAfter start (n + 1) (done ++ Some step ∷ []) text (skimmed step s w)
skims_step start n done text Skip s w lt asks h = skims_still start n done text (Some Skip) s.setup w.kernel.devices refl refl refl refl refl refl refl refl h
skims_step start n done text (Setup line) s w lt asks h =
    skims_when start (n + 1) (done ++ Some (Setup line) ∷ []) text (takes_setup s.phase) (line_added (one_line_more line s.setup) s w) s w
    (skims_added start n done text (Some (Setup line)) (one_line_more line s.setup) s w refl h (given_added n done line s.setup lt asks h.given))
skims_step start n done text (Move action) s w lt asks h =
    subst (Skims start (n + 1) (done ++ Some (Move action) ∷ []) (text ++ []) s.setup) (sym (moves_as action w)) (skims_move start n done text action s.setup w.kernel.devices h)
skims_step start n done text (Schedule plan) s w lt asks h = skims_still start n done text (Some (Schedule plan)) s.setup w.kernel.devices refl refl refl refl refl refl refl refl h
skims_step start n done text (Event event) s w lt asks h = skims_still start n done text (Some (Event event)) s.setup w.kernel.devices refl refl refl refl refl refl refl refl h
skims_step start n done text Restart s w lt asks h = skims_still start n done text (Some Restart) s.setup w.kernel.devices refl refl refl refl refl refl refl refl h

skims_line : (start : List Device) (n : ℕ) (done : List (Option Step)) (text : List ℕ) (step : Option Step) (s : Script) (w : World) → n < 1048576 → ((asked : Step) → step ≡ Some asked → AsksForRules asked) → Skims start n done text s.setup w.kernel.devices → SkimsAfter start (n + 1) (done ++ step ∷ []) text (skimmed_if step s w)
skims_line start n done text None s w lt asks h = refl
skims_line start n done text (Some step) s w lt asks h = skims_step start n done text step s w lt (asks step refl) h

-- ---- lines one after another

halted : (fault : LineRefusal) (n : ℕ) (text : List ℕ) (p : Option Script × World) (lines : List (List ℕ)) → plays generate_step (Halted fault n text p) lines ≡ Halted fault n text p
halted fault n text p [] = refl
halted fault n text p (line ∷ lines) = halted fault n text p lines

-- what holds at a stage
abbrev SkimsAt : List Device → List (Option Step) → Stage (Option Script × World) → Type 0
SkimsAt start done (Going n text (Some s, w)) = Skims start n done text s.setup w.kernel.devices
SkimsAt start done (Going n text (None, w)) = ⊥
SkimsAt start done (Halted fault n text p) = (fault ≡ BadLine) × (text ≡ [])

still_halted : (start : List Device) (done : List (Option Step)) (fault : LineRefusal) (n : ℕ) (text : List ℕ) (p : Option Script × World) (lines : List (List ℕ)) → fault ≡ BadLine → text ≡ [] → SkimsAt start done (plays generate_step (Halted fault n text p) lines)
still_halted start done fault n text p lines bad silent = subst (SkimsAt start done) (sym (halted fault n text p lines)) (bad, silent)

both : (a b : Bool) → (a && b) ≡ true → a ≡ true
both true b e = refl
both false b e = let none : ⊥ = cc in absurd none

within : (n : ℕ) (line : List ℕ) → is_within n line ≡ true → n < 1048576
within n line e = let t : nat_lt n 1048576 ≡ true = both (nat_lt n 1048576) (nat_le (length line) 1048576) e in grind (arith, nat_tests, t)

skims_rest : (start : List Device) (done : List (Option Step)) (n : ℕ) (text : List ℕ) (p : Option Script × World) (step : Option Step) (lines : List (List ℕ)) → text ≡ []
    → ((more : List ℕ) (s : Script) (w : World) → Skims start (n + 1) (done ++ step ∷ []) more s.setup w.kernel.devices → SkimsAt start ((done ++ step ∷ []) ++ map step_of_line lines) (plays generate_step (Going (n + 1) more (Some s, w)) lines))
    → (b : Bool) (o : LineOutcome (Option Script × World)) → (b ≡ true → SkimsAfter start (n + 1) (done ++ step ∷ []) text o) → SkimsAt start (done ++ (step ∷ map step_of_line lines)) (plays generate_step (cond b (stage_after n text o) (Halted BadLine n text p)) lines)
skims_rest start done n text p step lines silent again true (Writes more (Some s, w)) k =
    subst (λ (steps : List (Option Step)). SkimsAt start steps (plays generate_step (Going (n + 1) (text ++ more) (Some s, w)) lines)) (append_assoc done (step ∷ []) (map step_of_line lines)) (again (text ++ more) s w (k refl))
skims_rest start done n text p step lines silent again true (Writes more (None, w)) k = absurd (k refl)
skims_rest start done n text p step lines silent again true (Refused fault next) k = still_halted start (done ++ (step ∷ map step_of_line lines)) fault n text next lines (k refl) silent
skims_rest start done n text p step lines silent again false o k = still_halted start (done ++ (step ∷ map step_of_line lines)) BadLine n text p lines refl silent

skims_lines : (start : List Device) (lines : List (List ℕ)) (done : List (Option Step)) (n : ℕ) (text : List ℕ) (s : Script) (w : World) → Skims start n done text s.setup w.kernel.devices → SkimsAt start (done ++ map step_of_line lines) (plays generate_step (Going n text (Some s, w)) lines)
skims_lines start [] done n text s w h = subst (λ (steps : List (Option Step)). Skims start n steps text s.setup w.kernel.devices) (sym (append-nil done)) h
skims_lines start (line ∷ lines) done n text s w h =
    let step : Option Step = step_of_line line in
    skims_rest start done n text (Some s, w) step lines h.silent (λ more r u k. skims_lines start lines (done ++ step ∷ []) (n + 1) more r u k)
    (is_within n line) (generate_step (Some s, w) line) (λ b. skims_line start n done text step s w (within n line b) (line_asks line) h)

-- the header, and the lines behind it
skims_header : (first : World) (lines : List (List ℕ)) (b c : Bool) → SkimsAt first.kernel.devices (map step_of_line lines) (plays generate_step (cond b (stage_after 0 [] (cond c (quiet fresh first) (Refused BadLine (None, first)))) (Halted BadLine 0 [] (None, first))) lines)
skims_header first lines true true = skims_lines first.kernel.devices lines [] 1 [] fresh first (record { given = given_first; devices = refl; silent = refl })
skims_header first lines true false = still_halted first.kernel.devices (map step_of_line lines) BadLine 0 [] (None, first) lines refl refl
skims_header first lines false c = still_halted first.kernel.devices (map step_of_line lines) BadLine 0 [] (None, first) lines refl refl

-- ---- what is written for good lines

policy_made : (lines : List (List ℕ)) (before : List Device) (n : ℕ) (setup : SetupState) (ds : List Device) (text : List ℕ) → Skims before n (steps_of lines) text setup ds → IsFirstPolicy lines before (text ++ rules_text_of (policy_rules ds (names_ports setup)))
policy_made lines before n setup ds text h =
    let port : Bool = names_ports setup in
    let rules : List Rule = policy_rules ds port in
    let policy : IsPolicy (devices_left lines before) port rules = subst (λ (es : List Device). IsPolicy es port rules) h.devices (is_policy ds port) in
    record {
      draft = setup.settings.draft;
      settings = h.given.read;
      made = rules;
      is = ap (λ (bytes : List ℕ). bytes ++ rules_text_of rules) h.silent;
      policy = policy;
      admits = λ i d device live good. admitted (devices_left lines before) port rules i d device policy live good;
    }

policy_at : (lines : List (List ℕ)) (before : List Device) (stage : Stage (Option Script × World)) → SkimsAt before (steps_of lines) stage → fault_of generate_end stage ≡ None → IsFirstPolicy lines before (whole_text generate_end stage)
policy_at lines before (Going n text (Some s, w)) h good = policy_made lines before n s.setup w.kernel.devices text h
policy_at lines before (Going n text (None, w)) h good = absurd h
policy_at lines before (Halted fault n text p) h good = let none : ⊥ = cc in absurd none

pub first_policy : (first : World) (lines : List (List ℕ)) → fault_of generate_end (plays generate_step (Going 0 [] (None, first)) lines) ≡ None → IsFirstPolicy lines first.kernel.devices (whole_text generate_end (plays generate_step (Going 0 [] (None, first)) lines))
first_policy first [] good = let none : ⊥ = cc in absurd none
first_policy first (line ∷ lines) good =
    policy_at (line ∷ lines) first.kernel.devices (plays generate_step (Going 0 [] (None, first)) (line ∷ lines)) (skims_header first lines (is_within 0 line) (pointwise nat_eq line header)) good

-- ---- what is written where a line is bad, or there is a fault

abbrev IsSilent : Stage (Option Script × World) → Type 0
IsSilent (Going n text p) = text ≡ []
IsSilent (Halted fault n text p) = (fault ≡ BadLine) × (text ≡ [])

silent_at : (start : List Device) (done : List (Option Step)) (stage : Stage (Option Script × World)) → SkimsAt start done stage → IsSilent stage
silent_at start done (Going n text (Some s, w)) h = h.silent
silent_at start done (Going n text (None, w)) h = absurd h
silent_at start done (Halted fault n text p) h = h

all_silent : (first : World) (lines : List (List ℕ)) → IsSilent (plays generate_step (Going 0 [] (None, first)) lines)
all_silent first [] = refl
all_silent first (line ∷ lines) =
    silent_at first.kernel.devices (map step_of_line lines) (plays generate_step (Going 0 [] (None, first)) (line ∷ lines)) (skims_header first lines (is_within 0 line) (pointwise nat_eq line header))

silent_text : (first : World) (lines : List (List ℕ)) (n : ℕ) (text : List ℕ) (p : Option Script × World) → plays generate_step (Going 0 [] (None, first)) lines ≡ Going n text p → text ≡ []
silent_text first lines n text p e = subst IsSilent e (all_silent first lines)

bad_at : (stage : Stage (Option Script × World)) (fault : LineRefusal) → IsSilent stage → fault_of generate_end stage ≡ Some fault → (n : ℕ) × (whole_text generate_end stage ≡ bad_line n)
bad_at (Going n text (Some s, w)) fault h e = let none : ⊥ = cc in absurd none
bad_at (Going n text (None, w)) fault h e = (n + 1, ap (λ (bytes : List ℕ). bytes ++ bad_line (n + 1)) h)
bad_at (Halted fault n text p) wanted h e = (n + 1, ap (λ (bytes : List ℕ). bytes ++ fault_line fault n) h.1 ∙ ap (λ (f : LineRefusal). fault_line f n) h.0)

pub faults_alone : (first : World) (all base : List ℕ) (left held : Option (List ℕ)) (p : Option Script × World) (status : ℕ) → AnswersLines generate_step generate_end (None, first) all base left held p status → TellsFaultAlone base held status
faults_alone first all base left held p status a = record {
  bad = λ e.
      let k = a.bad e in
      let b = bad_at (plays generate_step (Going 0 [] (None, first)) (lines_of all)) k.0 (all_silent first (lines_of all)) k.1 in
      (b.0, k.2 ∙ ap (λ (bytes : List ℕ). Some (base ++ bytes)) b.1);
  read = λ e.
      let k = a.read e in
      k.7 ∙ ap (λ (bytes : List ℕ). Some (base ++ (bytes ++ read_fault))) (silent_text first (whole_lines k.0) k.2 k.3 p k.6);
  memory = λ e.
      let k = a.memory e in
      k.3 ∙ ap (λ (bytes : List ℕ). Some (base ++ (bytes ++ no_memory))) (silent_text first k.2.lines k.2.count k.0 k.1 k.2.played);
}
