-- A script ends with `input too long` exactly where its first start finds no room for the rules.
use Rattle.std.proofs.Common.{add-zero, ◌≡◌, ◌⊎◌, inl, inr, ℕ, ◌+◌, ◌≤◌, ◌<◌, arith, Bool, true, false, ◌&&◌, ◌||◌, cond, if◌then◌else◌, List, [], ◌∷◌, ◌++◌, flat_map, length, length-append, map, Option, Some, None, Result, Ok, Err, refl, sym, ap, subst, ◌∙◌, append-nil, append_assoc}
use Rattle.std.specs.Cmp.Lexicographic.{pointwise}
use Rattle.std.specs.List.{list_any}
use Rattle.std.specs.Prelude.{codes, decimal, nat_eq}
use Rattle.std.proofs.Math.Bool.{or_assoc}
use Rattle.std.proofs.lemmas.Bool.{leb-false, lt-leb}
use Rattle.std.proofs.lemmas.List.{append_cancel_left}
use Rattle.std.proofs.lemmas.List.Sums.{fold-append}
use Rattle.std.proofs.lemmas.Option.{same_Some}
use Rattle.ug_types.specs.Limits.{text_limit}
use Rattle.ug_types.specs.declared.rule.Rule as types
use Rattle.ug_lines.specs.Lines.{lines_of}
use Rattle.ug_print.specs.RuleTexts.{rules_text_of}
use Rattle.ug_sysfs.specs.World.{World}
use Rattle.ug_command_io.specs.Fold.{LineRefusal, BadLine, Going, Halted, InputTooLong, LineOutcome, Refused, Stage, Writes, advance, bad_line, closed_text, input_too_long, is_within, of_first, plays, stage_after, whole_text}
use Rattle.ug_command_io.specs.Refusals.{AtEnd, AtLine, RefusesLine, RefusesLines}
use Rattle.ug_command_io.specs.Statuses.{AnswersLines}
use Rattle.ug_conf.specs.Draft.{Draft}
use Rattle.ug_conf.specs.Faults.{SettingFault}
use Rattle.ug_conf.specs.FolderFiles.{folder_length}
use Rattle.ug_core.specs.Event.{has_numbers}
use Rattle.ug_types.specs.declared.event.Event as events
use Rattle.ug_steps.specs.declared.step.Plan.{Plan}
use Rattle.ug_steps.specs.declared.step.Plan.TheVariants as plan
use Rattle.ug_steps.specs.declared.step.FolderLine.{FolderLine}
use Rattle.ug_steps.specs.declared.step.SetupLine.{SetupLine}
use Rattle.ug_steps.specs.declared.step.SetupLine.TheVariants as setup
use Rattle.ug_steps.specs.declared.step.Step.{Step}
use Rattle.ug_steps.specs.declared.step.Step.TheVariants.{Event, Move, Restart, Schedule, Setup, Skip}
use Rattle.ug_script.specs.Against.{BehindSetup, NoHeader, NoRoom, NoStep, NotTaken, RefusesScript, SpeaksAgainst, starts_daemon}
use Rattle.ug_script.specs.FolderLines.{ScriptFolder, lines_length}
use Rattle.ug_steps.specs.Grammar.{step_of_line}
use Rattle.ug_script.specs.Replay.{Played, begun_again, begun_disk, came_of, event_from, finished, header, in_script, left_played, line_added, quiet, restarted, script_end, script_step, stop_in, stopped_of, taken, taken_if, with_plan, with_played}
use Rattle.ug_script.specs.Roomless.{FindsNoRoom, TellsRoom, starts_one}
use Rattle.ug_script.specs.Script.{Script, can_start, daemon_in, disk_in, fits_file, fits_folder, fits_rules, fresh, has_started, takes_setup, with_setup_closed}
use Rattle.ug_script.specs.Setup.{SetupState, folder_asked, has_rule_room, one_line_more, setup_rule, rules_from, steps_of, with_draft}
use Rattle.ug_steps.specs.Words.{is_entry}
use Rattle.ug_script.proofs.Against.{are_refused}
use Rattle.ug_script.proofs.Folders.{length_with, lines_append}
use Rattle.ug_script.proofs.Phases.{closed_started}
use Rattle.ug_script.proofs.Schedules.{stays_scheduled}

-- ---- the rules of lines that were taken, and whether a daemon was started

or_none : (b : Bool) → (b || false) ≡ b
or_none true = refl
or_none false = refl

or_one : (b : Bool) → (b || true) ≡ true
or_one true = refl
or_one false = refl

record Sets (s : Script) (steps : List (Option Step)) (t : Script) : Type 0 where
  rules : t.setup.rules ≡ s.setup.rules ++ flat_map setup_rule steps
  files : folder_length t.setup.folder.files ≡ folder_length s.setup.folder.files + lines_length (flat_map folder_asked steps)
  started : has_started t.phase ≡ (has_started s.phase || list_any starts_one steps)

sets_none : (s : Script) → Sets s [] s
sets_none s = record { rules = sym (append-nil s.setup.rules); files = sym (add-zero (folder_length s.setup.folder.files)); started = sym (or_none (has_started s.phase)) }

sets_one : (s t : Script) (asked : Option Step) → t.setup.rules ≡ s.setup.rules ++ setup_rule asked → folder_length t.setup.folder.files ≡ folder_length s.setup.folder.files + lines_length (folder_asked asked) → has_started t.phase ≡ (has_started s.phase || starts_one asked) → Sets s (asked ∷ []) t
sets_one s t asked rules files started = record {
  files = files ∙ ap (λ (l : List FolderLine). folder_length s.setup.folder.files + lines_length l) (sym (append-nil (folder_asked asked)));
  rules = rules ∙ ap (λ (l : List types.Rule). s.setup.rules ++ l) (sym (append-nil (setup_rule asked)));
  started = started ∙ ap (λ (b : Bool). has_started s.phase || b) (sym (or_none (starts_one asked)));
}

files_still : (s t : Script) (asked : Option Step) → t.setup.folder ≡ s.setup.folder → folder_asked asked ≡ [] → folder_length t.setup.folder.files ≡ folder_length s.setup.folder.files + lines_length (folder_asked asked)
files_still s t asked folder quiet =
    let same : folder_length t.setup.folder.files ≡ folder_length s.setup.folder.files = ap (λ (f : ScriptFolder). folder_length f.files) folder in
    let none : lines_length (folder_asked asked) ≡ 0 = ap (λ (l : List FolderLine). lines_length l) quiet in
    omega (arith, same, none)

sets_still : (s t : Script) (asked : Option Step) → t.setup.rules ≡ s.setup.rules → setup_rule asked ≡ [] → t.setup.folder ≡ s.setup.folder → folder_asked asked ≡ [] → has_started t.phase ≡ has_started s.phase → starts_one asked ≡ false → Sets s (asked ∷ []) t
sets_still s t asked rules none folder quiet started unstarted = sets_one s t asked (rules ∙ sym (append-nil s.setup.rules) ∙ ap (λ (l : List types.Rule). s.setup.rules ++ l) (sym none)) (files_still s t asked folder quiet) (started ∙ sym (or_none (has_started s.phase)) ∙ ap (λ (b : Bool). has_started s.phase || b) (sym unstarted))

sets_start : (s t : Script) (asked : Option Step) → t.setup.rules ≡ s.setup.rules → setup_rule asked ≡ [] → t.setup.folder ≡ s.setup.folder → folder_asked asked ≡ [] → has_started t.phase ≡ true → starts_one asked ≡ true → Sets s (asked ∷ []) t
sets_start s t asked rules none folder quiet started starts = sets_one s t asked (rules ∙ sym (append-nil s.setup.rules) ∙ ap (λ (l : List types.Rule). s.setup.rules ++ l) (sym none)) (files_still s t asked folder quiet) (started ∙ sym (or_one (has_started s.phase)) ∙ ap (λ (b : Bool). has_started s.phase || b) (sym starts))

sets_more : (s t u : Script) (asked : Option Step) (steps : List (Option Step)) → Sets s (asked ∷ []) t → Sets t steps u → Sets s (asked ∷ steps) u
sets_more s t u asked steps x y = record {
  files =
      let one : lines_length (folder_asked asked ++ []) ≡ lines_length (folder_asked asked) + lines_length [] = lines_append (folder_asked asked) [] in
      let all : lines_length (folder_asked asked ++ flat_map folder_asked steps) ≡ lines_length (folder_asked asked) + lines_length (flat_map folder_asked steps) = lines_append (folder_asked asked) (flat_map folder_asked steps) in
      let first : folder_length t.setup.folder.files ≡ folder_length s.setup.folder.files + lines_length (folder_asked asked ++ []) = x.files in
      let rest : folder_length u.setup.folder.files ≡ folder_length t.setup.folder.files + lines_length (flat_map folder_asked steps) = y.files in
      let nothing : lines_length [] ≡ 0 = refl in
      omega (arith, one, all, first, rest, nothing);
  rules = y.rules ∙ ap (λ (l : List types.Rule). l ++ flat_map setup_rule steps) (x.rules ∙ ap (λ (l : List types.Rule). s.setup.rules ++ l) (append-nil (setup_rule asked))) ∙ append_assoc s.setup.rules (setup_rule asked) (flat_map setup_rule steps);
  started = y.started ∙ ap (λ (b : Bool). b || list_any starts_one steps) (x.started ∙ ap (λ (b : Bool). has_started s.phase || b) (or_none (starts_one asked))) ∙ or_assoc (has_started s.phase) (starts_one asked) (list_any starts_one steps);
}

abbrev SetsAfter : Script → Option Step → LineOutcome (Option Script × World) → Type 0
SetsAfter s asked (Writes more (Some t, w)) = Sets s (asked ∷ []) t
SetsAfter s asked (Writes more (None, w)) = ⊥
SetsAfter s asked (Refused fault next) = Unit {0}

sets_when : (s : Script) (asked : Option Step) (b : Bool) (o p : LineOutcome (Option Script × World)) → SetsAfter s asked o → SetsAfter s asked p → SetsAfter s asked (cond b o p)
sets_when s asked true o p x y = x
sets_when s asked false o p x y = y

-- what a line of setup gives
abbrev GivesRules : SetupState → SetupLine → Option SetupState → Type 0
GivesRules before line None = Unit {0}
GivesRules before line (Some after) =
    (after.rules ≡ before.rules ++ setup_rule (Some (Setup line)))
    × (folder_length after.folder.files ≡ folder_length before.folder.files + lines_length (folder_asked (Some (Setup line))))

gives_when : (before : SetupState) (line : SetupLine) (b : Bool) (o : Option SetupState) → GivesRules before line o → GivesRules before line (if b then o else None)
gives_when before line true o h = h
gives_when before line false o h = tt

gives_draft : (before : SetupState) (text : List ℕ) (draft : Result Draft SettingFault) → GivesRules before (setup.Conf text) (with_draft draft before)
gives_draft before text (Ok draft) = (sym (append-nil before.rules), sym (add-zero (folder_length before.folder.files)))
gives_draft before text (Err fault) = tt

gives_rules : (before : SetupState) (line : SetupLine) → GivesRules before line (one_line_more line before)
gives_rules before (setup.Rule rule) = gives_when before (setup.Rule rule) (has_rule_room before) (Some _) (refl, sym (add-zero (folder_length before.folder.files)))
gives_rules before (setup.Folder line) = gives_when before (setup.Folder line) (has_rule_room before) (Some _) (sym (append-nil before.rules), length_with line before.folder.files)
gives_rules before (setup.Conf text) = gives_when before (setup.Conf text) (is_entry text) (with_draft _ before) (gives_draft before text _)
gives_rules before (setup.Access line) = (sym (append-nil before.rules), sym (add-zero (folder_length before.folder.files)))
gives_rules before (setup.Seed seed) = gives_when before (setup.Seed seed) _ (Some _) (sym (append-nil before.rules), sym (add-zero (folder_length before.folder.files)))
gives_rules before (setup.Zone offset) = gives_when before (setup.Zone offset) _ (Some _) (sym (append-nil before.rules), sym (add-zero (folder_length before.folder.files)))
gives_rules before (setup.IfaceRule rule) = (sym (append-nil before.rules), sym (add-zero (folder_length before.folder.files)))

sets_added : (s : Script) (w : World) (line : SetupLine) (o : Option SetupState) → GivesRules s.setup line o → SetsAfter s (Some (Setup line)) (line_added o s w)
sets_added s w line None h = tt
sets_added s w line (Some after) h = sets_one s (record s { setup = after }) (Some (Setup line)) h.0 h.1 (sym (or_none (has_started s.phase)))

sets_plan : (s : Script) (w : World) (p : Plan) → Sets s (Some (Schedule p) ∷ []) (with_plan p (with_setup_closed s))
sets_plan s w (plan.Move m) = sets_still s (with_setup_closed s) (Some (Schedule (plan.Move m))) refl refl refl refl (closed_started s.phase) refl
sets_plan s w (plan.Fail f) = sets_still s (with_setup_closed s) (Some (Schedule (plan.Fail f))) refl refl refl refl (closed_started s.phase) refl
sets_plan s w (plan.OnDisk p) = sets_still s (with_plan (plan.OnDisk p) (with_setup_closed s)) (Some (Schedule (plan.OnDisk p))) refl refl refl refl (closed_started s.phase) refl

sets_restarted : (s : Script) (w : World) (loaded : Result (List types.Rule) LineRefusal) → SetsAfter s (Some Restart) (restarted loaded s w)
sets_restarted s w (Ok rules) = sets_start s _ (Some Restart) refl refl refl refl refl refl
sets_restarted s w (Err fault) = tt

sets_played : (s : Script) (event : events.Event) (p : Played) → Sets s (Some (Event event) ∷ []) (with_played s p)
sets_played s event p = sets_start s (with_played s p) (Some (Event event)) refl refl refl refl refl refl

sets_stopped : (s : Script) (event : events.Event) (call : ℕ) (p : Played) (loaded : Result (List types.Rule) LineRefusal) → SetsAfter s (Some (Event event)) (in_script s (stopped_of s.setup call p loaded))
sets_stopped s event call p (Ok rules) = sets_played s event (begun_again s.setup rules p)
sets_stopped s event call p (Err fault) = tt

sets_came : (s : Script) (event : events.Event) (p : Played) (stopped : Bool) → SetsAfter s (Some (Event event)) (in_script s (cond stopped (stopped_of s.setup (stop_in s.planned p) p (rules_from s.setup.folder.count p.disk.disk.text)) (finished s.setup.ifaces p)))
sets_came s event p true = sets_stopped s event (stop_in s.planned p) p (rules_from s.setup.folder.count p.disk.disk.text)
sets_came s event p false = sets_played s event (left_played s.setup.ifaces p)

sets_event : (s : Script) (w : World) (event : events.Event) (start room : Bool) (came : LineOutcome Played) (other : Played) → SetsAfter s (Some (Event event)) (in_script s came) → SetsAfter s (Some (Event event)) (cond start (in_script s (cond room came (Refused BadLine other))) (Refused InputTooLong (Some s, w)))
sets_event s w event true true came other h = h
sets_event s w event true false came other h = tt
sets_event s w event false room came other h = tt

sets_step : (s : Script) (w : World) (asked : Step) → SetsAfter s (Some asked) (taken asked s w)
sets_step s w Skip = sets_still s s (Some Skip) refl refl refl refl refl refl
sets_step s w (Setup line) = sets_when s (Some (Setup line)) (takes_setup s.phase) (line_added (one_line_more line s.setup) s w) (Refused BadLine (Some s, w)) (sets_added s w line (one_line_more line s.setup) (gives_rules s.setup line)) tt
sets_step s w (Move action) = sets_still s (with_setup_closed s) (Some (Move action)) refl refl refl refl (closed_started s.phase) refl
sets_step s w (Schedule p) = sets_plan s w p
sets_step s w (Event event) =
    let p : Played = event_from event (daemon_in s) w (begun_disk s.planned (disk_in s)) in
    sets_event s w event (can_start s.setup s.phase) (has_numbers (daemon_in s) w.faults (disk_in s).faults) (came_of s.setup s.planned p) _ (sets_came s event p p.disk.stopped)
sets_step s w Restart = sets_when s (Some Restart) (can_start s.setup s.phase) (restarted (rules_from s.setup.folder.count (disk_in s).disk.text) s w) (Refused InputTooLong (Some s, w)) (sets_restarted s w (rules_from s.setup.folder.count (disk_in s).disk.text)) tt

sets_line : (s : Script) (w : World) (asked : Option Step) → SetsAfter s asked (taken_if asked s w)
sets_line s w None = tt
sets_line s w (Some asked) = sets_step s w asked

refused_on : (fault : LineRefusal) (n : ℕ) (text : List ℕ) (p : Option Script × World) (lines : List (List ℕ)) → plays script_step (Halted fault n text p) lines ≡ Halted fault n text p
refused_on fault n text p [] = refl
refused_on fault n text p (line ∷ lines) = refused_on fault n text p lines

never : {X : Type 0} (fault : LineRefusal) (n : ℕ) (text : List ℕ) (p : Option Script × World) (lines : List (List ℕ)) (m : ℕ) (out : List ℕ) (q : Option Script × World) → plays script_step (Halted fault n text p) lines ≡ Going m out q → X
never fault n text p lines m out q e = let h : Halted fault n text p ≡ Going m out q = sym (refused_on fault n text p lines) ∙ e in let none : ⊥ = cc in absurd none

abbrev SetsAt : Script → Stage (Option Script × World) → Type 0
SetsAt s (Going n text (Some t, w)) = Sets s [] t
SetsAt s (Going n text (None, w)) = ⊥
SetsAt s (Halted fault n text p) = Unit {0}

rest_sets : (s : Script) (asked : Option Step) (n : ℕ) (text : List ℕ) (p : Option Script × World) (lines : List (List ℕ)) (m : ℕ) (out : List ℕ) (u : Script) (v : World)
    → ((more : List ℕ) (t : Script) (w : World) → plays script_step (Going (n + 1) more (Some t, w)) lines ≡ Going m out (Some u, v) → Sets t (map step_of_line lines) u)
    → (b : Bool) (o : LineOutcome (Option Script × World)) → SetsAfter s asked o → plays script_step (cond b (stage_after n text o) (Halted BadLine n text p)) lines ≡ Going m out (Some u, v) → Sets s (asked ∷ map step_of_line lines) u
rest_sets s asked n text p lines m out u v again true (Writes more (Some t, w)) h e = sets_more s t u asked (map step_of_line lines) h (again (text ++ more) t w e)
rest_sets s asked n text p lines m out u v again true (Writes more (None, w)) h e = absurd h
rest_sets s asked n text p lines m out u v again true (Refused fault next) h e = never fault n text next lines m out (Some u, v) e
rest_sets s asked n text p lines m out u v again false o h e = never BadLine n text p lines m out (Some u, v) e

sets_lines : (lines : List (List ℕ)) (n : ℕ) (text : List ℕ) (s : Script) (w : World) (m : ℕ) (out : List ℕ) (u : Script) (v : World) → plays script_step (Going n text (Some s, w)) lines ≡ Going m out (Some u, v) → Sets s (map step_of_line lines) u
sets_lines [] n text s w m out u v e = subst (SetsAt s) e (sets_none s)
sets_lines (line ∷ lines) n text s w m out u v e =
    rest_sets s (step_of_line line) n text (Some s, w) lines m out u v (λ more t x f. sets_lines lines (n + 1) more t x m out u v f) (is_within n line) (script_step (Some s, w) line) (sets_line s w (step_of_line line)) e

sets_header : (first : World) (lines : List (List ℕ)) (m : ℕ) (out : List ℕ) (u : Script) (v : World) (b c : Bool) → plays script_step (cond b (stage_after 0 [] (cond c (quiet fresh first) (Refused BadLine (None, first)))) (Halted BadLine 0 [] (None, first))) lines ≡ Going m out (Some u, v) → Sets fresh (map step_of_line lines) u
sets_header first lines m out u v true true e = sets_lines lines 1 [] fresh first m out u v e
sets_header first lines m out u v true false e = never BadLine 0 [] (None, first) lines m out (Some u, v) e
sets_header first lines m out u v false c e = never BadLine 0 [] (None, first) lines m out (Some u, v) e

abbrev BeforeHeader : Stage (Option Script × World) → Type 0
BeforeHeader (Going n text (None, w)) = Unit {0}
BeforeHeader (Going n text (Some s, w)) = ⊥
BeforeHeader (Halted fault n text p) = Unit {0}

sets_all : (first : World) (lines : List (List ℕ)) (n : ℕ) (text : List ℕ) (s : Script) (w : World) → plays script_step (Going 0 [] (None, first)) lines ≡ Going n text (Some s, w) → Sets fresh (steps_of lines) s
sets_all first [] n text s w e = absurd (subst BeforeHeader e tt)
sets_all first (line ∷ lines) n text s w e = sets_header first lines n text s w (is_within 0 line) (pointwise nat_eq line header) e

-- ---- the stage behind a line that is refused

behind : (first : World) (earlier later : List (List ℕ)) (line : List ℕ) (count : ℕ) (text : List ℕ) (p next : Option Script × World) (fault : LineRefusal) → plays script_step (Going 0 [] (None, first)) earlier ≡ Going count text p → advance script_step (Going count text p) line ≡ Halted fault count text next → plays script_step (Going 0 [] (None, first)) (earlier ++ line ∷ later) ≡ Halted fault count text next
behind first earlier later line count text p next fault taken halts =
    fold-append (advance script_step) (Going 0 [] (None, first)) earlier (line ∷ later)
    ∙ ap (λ (stage : Stage (Option Script × World)). plays script_step (advance script_step stage line) later) taken
    ∙ ap (λ (stage : Stage (Option Script × World)). plays script_step stage later) halts
    ∙ refused_on fault count text next later

refuses_within : (count : ℕ) (text line : List ℕ) (p next : Option Script × World) (fault : LineRefusal) → is_within count line ≡ true → script_step p line ≡ Refused fault next → advance script_step (Going count text p) line ≡ Halted fault count text next
refuses_within count text line p next fault within refused =
    ap (λ (b : Bool). if b then stage_after count text (script_step p line) else Halted BadLine count text p) within
    ∙ ap (λ (o : LineOutcome (Option Script × World)). stage_after count text o) refused

refuses_past : (count : ℕ) (text line : List ℕ) (p : Option Script × World) → is_within count line ≡ false → advance script_step (Going count text p) line ≡ Halted BadLine count text p
refuses_past count text line p past = ap (λ (b : Bool). if b then stage_after count text (script_step p line) else Halted BadLine count text p) past

-- ---- the two ways

starts_some : (o : Option Step) → starts_one o ≡ true → (asked : Step) × (o ≡ Some asked) × (starts_daemon asked ≡ true)
starts_some None e = let none : ⊥ = cc in absurd none
starts_some (Some asked) e = (asked, refl, e)

abbrev script_closing : Option Script × World → Option (List ℕ)
script_closing = of_first script_end

abbrev IsRoomless : SetupState → Type 0
IsRoomless setup = (text_limit < length (rules_text_of setup.rules)) ⊎ (text_limit < folder_length setup.folder.files)

neither_way : (a : Bool) → (a && false) ≡ false
neither_way true = refl
neither_way false = refl

no_room : (setup : SetupState) → IsRoomless setup → fits_file setup ≡ false
no_room setup (inl long) = ap (λ (b : Bool). b && fits_folder setup) (lt-leb (length (rules_text_of setup.rules)) text_limit long)
no_room setup (inr long) = ap (λ (b : Bool). fits_rules setup && b) (lt-leb (folder_length setup.folder.files) text_limit long) ∙ neither_way (fits_rules setup)

is_roomless : (setup : SetupState) → fits_file setup ≡ false → IsRoomless setup
is_roomless setup h = by (fits_rules setup) refl h
  where
    by : (b : Bool) → fits_rules setup ≡ b → (b && fits_folder setup) ≡ false → IsRoomless setup
    by true e k = inr (leb-false (folder_length setup.folder.files) text_limit k)
    by false e k = inl (leb-false (length (rules_text_of setup.rules)) text_limit e)

-- the lines of the folder are the texts of its files

files_long : (earlier : List (List ℕ)) (s : Script) → Sets fresh (steps_of earlier) s → text_limit < lines_length (flat_map folder_asked (steps_of earlier)) → text_limit < folder_length s.setup.folder.files
files_long earlier s sets long =
    let same : folder_length s.setup.folder.files ≡ 0 + lines_length (flat_map folder_asked (steps_of earlier)) = sets.files in
    omega (arith, long, same)

lines_long : (earlier : List (List ℕ)) (s : Script) → Sets fresh (steps_of earlier) s → text_limit < folder_length s.setup.folder.files → text_limit < lines_length (flat_map folder_asked (steps_of earlier))
lines_long earlier s sets long =
    let same : folder_length s.setup.folder.files ≡ 0 + lines_length (flat_map folder_asked (steps_of earlier)) = sets.files in
    omega (arith, long, same)

room_told : (first : World) (lines : List (List ℕ)) → first.moves ≡ [] → first.fails ≡ [] → FindsNoRoom first lines → whole_text script_closing (plays script_step (Going 0 [] (None, first)) lines) ≡ input_too_long
room_told first lines moves fails h =
    let sets = sets_all first h.earlier h.count h.text h.script h.world h.taken in
    let unstarted : has_started h.script.phase ≡ false = sets.started ∙ h.unstarted in
    let silent : h.text ≡ [] = (stays_scheduled first moves fails h.earlier h.count h.text h.script h.world h.taken).silent unstarted in
    let asks = starts_some (step_of_line h.line) h.starts in
    let none : fits_file h.script.setup ≡ false = no_room h.script.setup (elim h.long [
      | inl rules ↦ inl (subst (λ (rules : List types.Rule). text_limit < length (rules_text_of rules)) (sym sets.rules) rules)
      | inr lines ↦ inr (files_long h.earlier h.script sets lines)
    ]) in
    let refused = are_refused (Some h.script, h.world) h.line InputTooLong (NoRoom h.script h.world h.line asks.0 asks.1 asks.2 unstarted none) in
    let halts = behind first h.earlier h.later h.line h.count h.text (Some h.script, h.world) refused.0 InputTooLong h.taken (refuses_within h.count h.text h.line (Some h.script, h.world) refused.0 InputTooLong h.within refused.1) in
    ap (λ (ls : List (List ℕ)). whole_text script_closing (plays script_step (Going 0 [] (None, first)) ls)) h.among
    ∙ ap (λ (stage : Stage (Option Script × World)). whole_text script_closing stage) halts
    ∙ ap (λ (bytes : List ℕ). bytes ++ input_too_long) silent

short_text : length input_too_long ≡ 15
unfolding input_too_long
short_text = refl

long_text : (n : ℕ) → 17 ≤ length (bad_line n)
unfolding bad_line
long_text n =
    let e : length (codes "bad script line " ++ decimal n ++ 10 ∷ []) ≡ 16 + length (decimal n ++ 10 ∷ []) = length-append (codes "bad script line ") (decimal n ++ 10 ∷ []) in
    let f : length (decimal n ++ 10 ∷ []) ≡ length (decimal n) + 1 = length-append (decimal n) (10 ∷ []) in
    omega (arith, e, f)

not_bad : {X : Type 0} (text : List ℕ) (n : ℕ) → text ++ bad_line n ≡ input_too_long → X
not_bad text n e =
    let long : 17 ≤ length (bad_line n) = long_text n in
    let short : length (text ++ bad_line n) ≡ length input_too_long = ap (λ (bytes : List ℕ). length bytes) e in
    let whole : length (text ++ bad_line n) ≡ length text + length (bad_line n) = length-append text (bad_line n) in
    let fifteen : length input_too_long ≡ 15 = short_text in
    let none : ⊥ = omega (arith, long, short, whole, fifteen) in
    absurd none

-- a bad line ends otherwise
bad_otherwise : {X : Type 0} (first : World) (lines : List (List ℕ)) (n : ℕ) (text : List ℕ) (p : Option Script × World) → plays script_step (Going 0 [] (None, first)) lines ≡ Halted BadLine n text p → whole_text script_closing (plays script_step (Going 0 [] (None, first)) lines) ≡ input_too_long → X
bad_otherwise first lines n text p is e = not_bad text (n + 1) (sym (ap (λ (stage : Stage (Option Script × World)). whole_text script_closing stage) is) ∙ e)

abbrev Start : World → Stage (Option Script × World)
Start first = Going 0 [] (None, first)

-- at the line where it is refused
by_reason : (first : World) (lines earlier later : List (List ℕ)) (line : List ℕ) (count : ℕ) (text : List ℕ) (p : Option Script × World) (fault : LineRefusal) → lines ≡ earlier ++ line ∷ later → plays script_step (Start first) earlier ≡ Going count text p → is_within count line ≡ true → SpeaksAgainst p line fault → ((next : Option Script × World) → script_step p line ≡ Refused fault next → plays script_step (Start first) lines ≡ Halted fault count text next) → (next : Option Script × World) → script_step p line ≡ Refused fault next → whole_text script_closing (plays script_step (Start first) lines) ≡ input_too_long → FindsNoRoom first lines
by_reason first lines earlier later line count text _ _ among taken within (NoHeader w _ other) halts next refused e = bad_otherwise first lines count text next (halts next refused) e
by_reason first lines earlier later line count text _ _ among taken within (NoStep s w _ is) halts next refused e = bad_otherwise first lines count text next (halts next refused) e
by_reason first lines earlier later line count text _ _ among taken within (BehindSetup s w _ given is closed) halts next refused e = bad_otherwise first lines count text next (halts next refused) e
by_reason first lines earlier later line count text _ _ among taken within (NotTaken s w _ given is full) halts next refused e = bad_otherwise first lines count text next (halts next refused) e
by_reason first lines earlier later line count text _ _ among taken within (NoRoom s w _ asked is starts unstarted full) halts next refused e =
    let sets = sets_all first earlier count text s w taken in
    record {
      earlier = earlier;
      line = line;
      later = later;
      among = among;
      count = count;
      text = text;
      script = s;
      world = w;
      taken = taken;
      within = within;
      unstarted = sym sets.started ∙ unstarted;
      starts = ap (λ (o : Option Step). starts_one o) is ∙ starts;
      long = elim (is_roomless s.setup full) [
        | inl rules ↦ inl (subst (λ (rules : List types.Rule). text_limit < length (rules_text_of rules)) sets.rules rules)
        | inr files ↦ inr (lines_long earlier s sets files)
      ];
    }

at_line : (first : World) (lines : List (List ℕ)) (fault : LineRefusal) (r : RefusesLine script_step SpeaksAgainst (Start first) lines fault) (b : Bool) → is_within r.count r.line ≡ b → whole_text script_closing (plays script_step (Start first) lines) ≡ input_too_long → FindsNoRoom first lines
at_line first lines fault r true within e =
    let against = r.why within in
    let refused = are_refused r.machine r.line fault against in
    by_reason first lines r.earlier r.later r.line r.count r.text r.machine fault r.among r.played within against
    (λ next is. ap (λ (ls : List (List ℕ)). plays script_step (Start first) ls) r.among ∙ behind first r.earlier r.later r.line r.count r.text r.machine next fault r.played (refuses_within r.count r.text r.line r.machine next fault within is))
    refused.0 refused.1 e
at_line first lines fault r false past e =
    bad_otherwise first lines r.count r.text r.machine
    (ap (λ (ls : List (List ℕ)). plays script_step (Start first) ls) r.among ∙ behind first r.earlier r.later r.line r.count r.text r.machine r.machine BadLine r.played (refuses_past r.count r.text r.line r.machine past))
    e

room_found : (first : World) (lines : List (List ℕ)) (fault : LineRefusal) → RefusesLines script_step script_closing SpeaksAgainst (Start first) lines fault → whole_text script_closing (plays script_step (Start first) lines) ≡ input_too_long → FindsNoRoom first lines
room_found first lines fault (AtLine r) e = at_line first lines fault r (is_within r.count r.line) refl e
room_found first lines fault (AtEnd count text machine played more) e =
    not_bad text (count + 1) (sym (ap (λ (stage : Stage (Option Script × World)). whole_text script_closing stage) played ∙ ap (λ (last : Option (List ℕ)). text ++ closed_text count last) more) ∙ e)

pub tells_room : (first : World) (all base : List ℕ) (left held : Option (List ℕ)) (p : Option Script × World) (status : ℕ) → first.moves ≡ [] → first.fails ≡ [] → AnswersLines script_step script_closing (None, first) all base left held p status → (status ≡ 2 → RefusesScript first (lines_of all)) → TellsRoom first (lines_of all) base held status
tells_room first all base left held p status moves fails answers refuses two =
    let told = (answers.bad two).2 in
    let whole : List ℕ = whole_text script_closing (plays script_step (Start first) (lines_of all)) in (
      λ is. room_found first (lines_of all) (refuses two).0 (refuses two).1 (append_cancel_left base whole input_too_long (same_Some _ _ (sym told ∙ is))),
      λ room. told ∙ ap (λ (bytes : List ℕ). Some (base ++ bytes)) (room_told first (lines_of all) moves fails room),
    )
